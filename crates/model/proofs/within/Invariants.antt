use mathlib.Core.Path.{◌≡◌}
use lib.ListN.{drop}
use Rattle.aiger.specs.Defined.{literal}
use Rattle.lists.specs.Tests.{all}
use Rattle.model.proofs.within.Given as goal

abbrev pub invariant-loop-literal : goal.invariant-loop-literal
invariant-loop-literal l = all (literal l.most) l.literals ≡ all (literal l.most) (drop l.literal-index l.literals)
