use Rattle.compose_numbers.proofs.AddLaws.{adding-none, adding-done, turn_translatable, turn_more}
use Rattle.compose_numbers.proofs.add_literals.Goals as goal

pub loop-i-init : goal.loop-i-init
loop-i-init c = search adding-none

pub translate-literal-requires : goal.translate-literal-requires
translate-literal-requires c = search turn_translatable

pub loop-i-preserved : goal.loop-i-preserved
loop-i-preserved c = search turn_more

pub returns : goal.returns
returns c = search adding-done
