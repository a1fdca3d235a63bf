use Prim.Native.Nat.{◌<◌}
use native.Mathlib.Omega.{arith}
use lib.ListN.{length}
use borrow.Author.Rules.{rules}
use Rattle.model_step_records.proofs.RecordLaws.{records_count, record_at}
use Rattle.model_step_records.proofs.GateRecordsGateList.gate.Goals as goal
use Rattle.model_step_records.proofs.GateRecordsGateList.gate.Goals.{Start}

inside : (c : Start) → c.args.at < length c.args.self.now.gates.now
inside c = omega (arith, records_count c.args.self.now.gates.now)

pub offset_bounds-self-at : goal.offset_bounds-self-at
offset_bounds-self-at c = let h = inside (goal.at.offset_bounds-self-at c).Start in search rules

pub bounds-self-at : goal.bounds-self-at
bounds-self-at c = inside (goal.at.bounds-self-at c).Start

pub returns : goal.returns
returns c = record_at c.args.self.now.gates.now _ _ (inside (goal.at.returns c).Start)
