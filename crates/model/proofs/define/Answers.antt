use Prim.Native.Nat.{◌/◌}
use mathlib.Core.Path.{refl}
use native.Mathlib.Omega.{arith}
use Rattle.model.proofs.DefineLaws.{undefining, defining_said}
use Rattle.model.proofs.define.Goals as goal
use Rattle.model.proofs.define.Goals.{then-literal-eq0-via-then-literal-eq0, then-literal-eq0-via-else-literal-eq0+then-literal-ne0, then-literal-eq0-via-else-literal-eq0+else-literal-ne0+then-most-variable}

pub returns-then-literal-eq0 : goal.returns-then-literal-eq0
returns-then-literal-eq0 c =
    undefining _ _ _ (λ d. elim c.then-literal-eq0.branch [
      | then-literal-eq0-via-then-literal-eq0 w ↦ omega (arith, d.some)
      | then-literal-eq0-via-else-literal-eq0+then-literal-ne0 w ↦ omega (arith, d.even)
      | then-literal-eq0-via-else-literal-eq0+else-literal-ne0+then-most-variable w ↦ omega (arith, d.low)
    ])

pub returns : goal.returns
returns c = defining_said _ _ _ (c.args.literal / 2) refl (omega arith) (omega arith) (omega arith) c.add.result c.add.new.words c.add.ensures.0 c.add.ensures.1
