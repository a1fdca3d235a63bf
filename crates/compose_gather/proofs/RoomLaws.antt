-- Laws of the room that texts leave.
use Rattle.std.specs.Prelude.{Option, Some, None}
use Prim.Native.Nat.{ℕ, ◌+◌, ◌-◌}
use mathlib.Core.Bool.{Bool, true, false}
use mathlib.Core.Path.{◌≡◌, refl, ap, ◌∙◌}
use native.Mathlib.Omega.{arith}
use borrow.Author.Tests.{lt-ltb, le-ltb, ltb-true, ltb-false}
use lib.Dec.{ltb}
use Rattle.witness_text.specs.declared.AagCounts.{AagCounts}
use Rattle.compose_gather.specs.Inner.Checking.{less, room_after}

-- all of it
pub less-zero : (room : Option ℕ) → room ≡ less room 0
less-zero None = refl
less-zero (Some r) = rw (le-ltb r 0 (omega arith)) (ap (λ (y : ℕ). Some y) (omega arith))

-- one difference after another
pub less-less : (room : Option ℕ) (a b : ℕ) → less (less room a) b ≡ less room (a + b)
less-less None a b = refl
less-less (Some r) a b = go (ltb r a) refl (ltb (r - a) b) refl
  where
    go : (p : Bool) → ltb r a ≡ p → (q : Bool) → ltb (r - a) b ≡ q → less (less (Some r) a) b ≡ less (Some r) (a + b)
    go true e q f = rw (e, lt-ltb r (a + b) (omega (arith, ltb-true r a e))) refl
    go false e true f = rw (e, f, lt-ltb r (a + b) (omega (arith, ltb-false r a e, ltb-true (r - a) b f))) refl
    go false e false f =
        rw (e, f, le-ltb r (a + b) (omega (arith, ltb-false r a e, ltb-false (r - a) b f))) (ap (λ (y : ℕ). Some y) (omega arith))

-- a text needs so much
pub after-less : (room : Option ℕ) (n : AagCounts) → room_after room n ≡ less room (n.max_variable + n.outputs + n.bads + n.constraints)
after-less room n =
    ap (λ (x : Option ℕ). less (less x n.bads) n.constraints) (less-less room n.max_variable n.outputs)
    ∙ (ap (λ (x : Option ℕ). less x n.constraints) (less-less room (n.max_variable + n.outputs) n.bads) ∙ less-less room (n.max_variable + n.outputs + n.bads) n.constraints)
