use native.Mathlib.Omega.{arith}
use Rattle.model_step.proofs.StepLaws.{running-inside, running_more}
use Rattle.model_step.proofs.run_gates.Goals as goal

pub run_gate-requires : goal.run_gate-requires
run_gate-requires g c = running-inside _ _ _ c.loop-i.i c.loop-i.invariant c.args.count c.requires.0 (omega arith) _ c.gate.ensures c.requires.1

pub loop-i-preserved : goal.loop-i-preserved
loop-i-preserved g c = running_more _ _ _ c.loop-i.i c.loop-i.invariant c.args.count c.requires.0 (omega arith) _ c.gate.ensures _ c.run_gate.auto.values c.run_gate.ensures
