use Rattle.probe.proofs.PartLaws.{line-found}
use Rattle.probe.proofs.probe_line.Goals as goal

pub returns : goal.returns
returns c = line-found c.args.bytes.now c.args.at c.if-bytes-at.false c.in-Some.line.value.now c.in-Some.line.rest.now c.in-Some.ensures
