use Rattle.lists.specs.Tests.{all_from}
use Rattle.witness_read.proofs.CheckingLaws.{Checking}
use Rattle.witness_read.proofs.body.check_section.Given as goal

abbrev pub invariant-loop-i : goal.invariant-loop-i
invariant-loop-i g l =
    Checking (g.K.LineKind.item l.kind) (all_from (g.T.Numbered.test l.test) l.first) l.s l.n l.i l.fine l.rest
