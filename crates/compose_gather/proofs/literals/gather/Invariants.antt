use Rattle.compose_gather.proofs.GatherLaws.{Gathering}
use lib.ListN.{length}
use mathlib.Core.Path.{◌≡◌}
use Rattle.compose_joint.specs.Inner.Joint.{joint_literals, list_of}
use Rattle.compose_gather.specs.Inner.Gathered.{literal_count}
use Rattle.compose_gather.proofs.literals.gather.Given as goal

abbrev pub invariant-loop-w : goal.invariant-loop-w
invariant-loop-w l = Gathering (joint_literals (list_of l.kind) l.inputs l.latches) (literal_count l.kind) l.witnesses.texts.bytes.now l.witnesses.texts.pairs.now l.initial.work l.work l.to l.from l.at l.b l.w × (length l.work ≡ length l.initial.work)
