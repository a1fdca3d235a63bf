use Rattle.obligation_gates.proofs.GateLaws.{appends_gate}
use Rattle.obligation_gates.proofs.push_gate.Goals as goal

pub returns : goal.returns
returns c = appends_gate c.args.gate _ c.gate_clauses.ensures _ _ _ _ _ c.push_short.ensures c.push_short-2.ensures c.push_short-3.ensures
