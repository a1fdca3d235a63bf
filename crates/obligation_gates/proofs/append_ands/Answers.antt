use native.Mathlib.Omega.{arith}
use Rattle.obligation_gates.proofs.GateLaws.{gate_low, gate_space, gate_next, gates_end}
use Rattle.obligation_gates.proofs.append_ands.Goals as goal

pub push_gate-requires : goal.push_gate-requires
push_gate-requires c = (gate_low c.args.gates.now c.loop-i.i (omega arith) _ c.gate.ensures c.requires.0, gate_space c.args.gates.now c.loop-i.i (omega arith) _ c.gate.ensures _ _ c.loop-i.invariant c.requires.1)

pub loop-i-preserved : goal.loop-i-preserved
loop-i-preserved c = gate_next c.args.gates.now c.loop-i.i (omega arith) _ c.gate.ensures _ _ c.loop-i.invariant _ c.push_gate.ensures

pub returns : goal.returns
returns c = gates_end c.args.gates.now c.loop-i.i (omega arith) _ _ c.loop-i.invariant
