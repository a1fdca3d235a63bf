use mathlib.Core.Path.{◌≡◌}
use lib.ListN.{length}
use Rattle.witness_read.specs.Comments.{plain_comment}
use Rattle.text.specs.Lines.{lines_of}
use Rattle.lists.specs.Tests.{all}
use Rattle.witness_read.proofs.tail.plain_comments.Given as goal

abbrev pub invariant-loop-line : goal.invariant-loop-line
invariant-loop-line l = all plain_comment (lines_of l.left) ≡ all plain_comment (lines_of l.s)

abbrev pub decreases-loop-line : goal.decreases-loop-line
decreases-loop-line l = length l.left
