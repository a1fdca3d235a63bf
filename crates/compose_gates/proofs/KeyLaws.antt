-- Laws of translated literals and of keys: a key stands for one pair of operands, so keys are numbered as the gates are.
use Prim.Native.Nat.{ℕ, ◌<◌}
use mathlib.Core.Bool.{Bool, true, false, cond}
use mathlib.Core.List.{List, [], ◌∷◌, ◌++◌, map, map-append}
use mathlib.Core.Path.{◌≡◌, refl, sym}
use native.Mathlib.Omega.{arith}
use borrow.Author.Tests.{eqb-true, eqb-false, eq-eqb}
use lib.Dec.{eqb, leb}
use Rattle.lists.specs.Firsts.{place, joined}
use Rattle.lists.specs.Tests.{any, Each}
use Rattle.lists.proofs.BoolLaws.{to_false, and_left, and_right, and_both}
use Rattle.lists.proofs.TestLaws.{each_append}
use Rattle.compose_spec.specs.Sharing.{translate, Operands, same_operands, unordered}
use Rattle.compose_spec.specs.Inner.Keys.{key_of}
use Rattle.compose_gates.specs.Inner.Linked.{Translatable}

-- ---- translate

module _ (vars : List ℕ) (l : ℕ) (t : Translatable vars l) where
  pub literal-small : (r : ℕ) → r ≡ translate vars l → r < 2147483648
  literal-small r e = omega (arith, t.small, e)

-- operands that are as small as the composed literals
pub record Small (g : Operands) : Type 0 where
  pub left : g.left < 2147483648
  pub right : g.right < 2147483648

pub unordered-small : (x y : ℕ) → x < 2147483648 → y < 2147483648 → Small (unordered x y)
unordered-small x y h k = go (leb x y)
  where
    go : (b : Bool) → Small (cond b (record { left = x; right = y }) (record { left = y; right = x }))
    go true = record { left = h; right = k }
    go false = record { left = k; right = h }

-- ---- keys for gates

module _ (g : Operands) (small : Small g) where
  key-same : (h : Operands) → Small h → eqb (key_of g) (key_of h) ≡ same_operands g h
  key-same h k = go (eqb (key_of g) (key_of h)) refl
    where
      go : (q : Bool) → eqb (key_of g) (key_of h) ≡ q → q ≡ same_operands g h
      go true e =
          let n : key_of g ≡ key_of h = eqb-true (key_of g) (key_of h) e in
          sym (and_both (eqb g.left h.left) (eqb g.right h.right)
          (eq-eqb g.left h.left (omega (arith, n, small.left, k.left)))
          (eq-eqb g.right h.right (omega (arith, n, small.left, k.left))))
      go false e =
          sym (to_false (same_operands g h)
          (λ s.
          let l : g.left ≡ h.left = eqb-true g.left h.left (and_left (eqb g.left h.left) (eqb g.right h.right) s) in
          let r : g.right ≡ h.right = eqb-true g.right h.right (and_right (eqb g.left h.left) (eqb g.right h.right) s) in
          eqb-false (key_of g) (key_of h) e (omega (arith, l, r))))

  pub place-keys : (gs : List Operands) → Each Small gs → place eqb (key_of g) (map key_of gs) ≡ place same_operands g gs
  place-keys [] s = refl
  place-keys (h ∷ hs) s = rw (key-same h s.0, place-keys hs s.1)

  any-keys : (gs : List Operands) → Each Small gs → any (eqb (key_of g)) (map key_of gs) ≡ any (same_operands g) gs
  any-keys [] s = refl
  any-keys (h ∷ hs) s = rw (key-same h s.0, any-keys hs s.1)

  module _ (gs : List Operands) (s : Each Small gs) where
    pub joined-keys : joined eqb (key_of g) (map key_of gs) ≡ map key_of (joined same_operands g gs)
    joined-keys = rw (any-keys gs s) (go (any (same_operands g) gs))
      where
        go : (q : Bool) → cond q (map key_of gs) (map key_of gs ++ key_of g ∷ []) ≡ map key_of (cond q gs (gs ++ g ∷ []))
        go true = refl
        go false = sym (map-append key_of gs (g ∷ []))

    pub joined_small : Each Small (joined same_operands g gs)
    joined_small = go (any (same_operands g) gs)
      where
        go : (q : Bool) → Each Small (cond q gs (gs ++ g ∷ []))
        go true = s
        go false = each_append Small gs (g ∷ []) s (small, tt)
