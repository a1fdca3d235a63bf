use mathlib.Core.Path.{refl}
use native.Mathlib.Omega.{arith}
use lib.ListN.{length-set}
use borrow.Author.Rules.{rules}
use Rattle.model_read.proofs.GateLaws.{writing-none, writing_bad, writing_more, writing-done}
use Rattle.model_read.proofs.write_gates.Goals as goal

pub loop-i-init : goal.loop-i-init
loop-i-init c = (refl, writing-none _ _ _)

pub bounds-gates-i-in-loop-i : goal.bounds-gates-i-in-loop-i
bounds-gates-i-in-loop-i c = simp length-set (omega arith)

pub bounds-gates-i-in-loop-i-2 : goal.bounds-gates-i-in-loop-i-2
bounds-gates-i-in-loop-i-2 c = simp length-set (omega arith)

pub loop-i-preserved : goal.loop-i-preserved
loop-i-preserved c = (search rules, search (writing_more, c.in-Some.ensures))

pub returns-in_default : goal.returns-in_default
returns-in_default c = search (writing_bad, c.in_default.ensures)

pub returns : goal.returns
returns c = search writing-done
