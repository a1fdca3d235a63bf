use native.Mathlib.Omega.{arith}
use Rattle.compose_merge.proofs.BaseLaws.{step-some, step-goes}
use Rattle.compose_merge.proofs.DefineLaws.{definitions-can, definitions_differ, definitions-step}
use Rattle.compose_merge.proofs.AddLaws.{collect-can, literals-done}
use Rattle.compose_merge.proofs.define_and_collect.Goals as goal

pub define-requires : goal.define-requires
define-requires c = definitions-can _ _ _ _ _ _ c.requires

-- 18
pub returns-in_default : goal.returns-in_default
returns-in_default c = definitions_differ _ _ _ _ _ _ c.define.ensures c.in_default.is _

pub collect-found-requires : goal.collect-found-requires
collect-found-requires c = collect-can _ _ _ _ _ (step-some (definitions-step _ _ _ _ _ _ c.define.ensures c.define.auto.work c.in-Some.is) c.requires)

pub overflow_sub-result : goal.overflow_sub-result
overflow_sub-result c = omega (arith, c.requires.holds.first)

pub overflow_sub-result-2 : goal.overflow_sub-result-2
overflow_sub-result-2 c = omega (arith, c.requires.holds.first, c.requires.holds.next)

pub returns : goal.returns
returns c =
    step-goes (definitions-step _ _ _ _ _ _ c.define.ensures c.define.auto.work c.in-Some.is)
    (literals-done _ _ _ _ _ c.collect-found.auto.work c.collect-found.ensures)
