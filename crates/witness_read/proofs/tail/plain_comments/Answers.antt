use Rattle.std.proofs.Common.{refl}
use Rattle.text.proofs.LineLaws.{line-less}
use Rattle.witness_read.proofs.CommentLaws.{model-comments, comments-stop, comments-more}
use Rattle.witness_read.proofs.tail.plain_comments.Goals as goal

pub returns-then-not-witness : goal.returns-then-not-witness
returns-then-not-witness c = search model-comments

pub loop-line-init : goal.loop-line-init
loop-line-init c = refl

pub loop-line-smaller : goal.loop-line-smaller
loop-line-smaller c = search (line-less, c.in-Some.ensures)

pub loop-line-preserved : goal.loop-line-preserved
loop-line-preserved c = search (comments-more, c.in-Some.ensures)

pub returns-then-not-plain_comment : goal.returns-then-not-plain_comment
returns-then-not-plain_comment c = search (comments-stop, c.in-Some.ensures)
