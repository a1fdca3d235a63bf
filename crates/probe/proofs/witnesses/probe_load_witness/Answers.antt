use Rattle.probe.proofs.LoadLaws.{loads_flat}
use Rattle.probe.proofs.witnesses.probe_load_witness.Goals as goal

pub returns : goal.returns
returns c = search loads_flat
