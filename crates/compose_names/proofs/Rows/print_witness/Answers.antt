use Rattle.compose_names.proofs.WitnessLaws.{witness-can, witness-prints}
use Rattle.compose_names.proofs.Rows.print_witness.Goals as goal

pub print_new-requires : goal.print_new-requires
print_new-requires c = search witness-can

pub returns : goal.returns
returns c = search witness-prints
