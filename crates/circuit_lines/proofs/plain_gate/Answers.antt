use Rattle.circuit_lines.proofs.GateLaws.{plain-got}
use Rattle.circuit_lines.proofs.plain_gate.Goals as goal

pub returns : goal.returns
returns c = plain-got c.args.s.now _ _ _ _ _ c.in_ok-right.right.rest c.in_ok-output.ensures c.in_ok-left.ensures c.in_ok-right.ensures
