use Rattle.compose_numbers.proofs.NumberLaws.{numbering-none, numbering-done, turn-slot, turn_old, turn_new}
use Rattle.compose_numbers.proofs.number_leaves.Goals as goal

pub loop-i-init : goal.loop-i-init
loop-i-init c = search numbering-none

pub known_number-requires : goal.known_number-requires
known_number-requires c = search turn-slot

pub loop-i-preserved-in_default : goal.loop-i-preserved-in_default
loop-i-preserved-in_default c = search turn_new

pub loop-i-preserved : goal.loop-i-preserved
loop-i-preserved c = search turn_old

pub returns : goal.returns
returns c = search numbering-done
