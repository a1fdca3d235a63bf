-- Laws of the names that two words say.
use Prim.Native.Nat.{ℕ, ◌+◌, ◌≤◌}
use mathlib.Core.Bool.{Bool, true, false, cond}
use mathlib.Core.Option.{Option, some, none, none-ne-some, some-injective}
use mathlib.Core.Path.{◌≡◌, refl}
use native.Mathlib.Omega.{arith}
use borrow.Author.Tests.{leb-true, eqb-true}
use lib.Dec.{eqb, leb}
use lib.ListN.{length}
use Rattle.lists.specs.Parts.{Bytes, part}
use Rattle.witness_load.specs.Inner.Loaded.{name_from}
use Rattle.compose_gather.specs.Inner.Names.{own_name}

-- words that say a name
pub record Says (t : Bytes) (start size : ℕ) (name : Option Bytes) : Type 0 where
  pub own : own_name t start size ≡ name
  pub within : start + size ≤ length t

-- words that say a name are within the text
pub name_said : (t : Bytes) (start size : ℕ) (name : Option Bytes) → name_from t start size ≡ some name → Says t start size name
name_said t start size name h = go (eqb start 0) refl h
  where
    found : (b : Bool) → leb (start + size) (length t) ≡ b → cond b (some (some (part t start (start + size)))) none ≡ some name → (some (part t start (start + size)) ≡ name) × (start + size ≤ length t)
    found true e k = (some-injective (some (part t start (start + size))) name k, leb-true (start + size) (length t) e)
    found false e k = absurd (none-ne-some name k)

    missing : (b : Bool) → eqb size 0 ≡ b → cond b (some none) none ≡ some name → (◌≡◌ {A = Option Bytes} none name) × (size ≡ 0)
    missing true e k = (some-injective none name k, eqb-true size 0 e)
    missing false e k = absurd (none-ne-some name k)

    go : (b : Bool) → eqb start 0 ≡ b
        → cond b (cond (eqb size 0) (some none) none) (cond (leb (start + size) (length t)) (some (some (part t start (start + size)))) none) ≡ some name → Says t start size name
    go true e k =
        let m = missing (eqb size 0) refl k in
        record { own = rw e m.0; within = omega (arith, m.1, eqb-true start 0 e) }
    go false e k =
        let f = found (leb (start + size) (length t)) refl k in
        record { own = rw e f.0; within = f.1 }
