use Rattle.lists.proofs.BitSetLaws.{free_outside, mark_outside, free-bit, shifted_one}
use Rattle.lists.specs.Sets.{with_bit}
use Rattle.lists.proofs.add.Goals as goal

pub returns-then-at-words : goal.returns-then-at-words
returns-then-at-words c = (search free_outside, search mark_outside)

pub returns : goal.returns
unfolding with_bit
returns c = (search free-bit, simp shifted_one)
