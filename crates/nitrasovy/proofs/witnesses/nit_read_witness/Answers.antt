use Rattle.nitrasovy.proofs.WitnessLaws.{counts_flat}
use Rattle.nitrasovy.proofs.witnesses.nit_read_witness.Goals as goal

pub returns : goal.returns
returns c = search counts_flat
