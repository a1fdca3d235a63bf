-- Laws of `lengths` and `in_order`: the loops over pairs of offset and length.
use Prim.Native.Nat.{ℕ, ◌+◌, ◌-◌, ◌*◌, ◌/◌, ◌≤◌, ◌<◌}
use mathlib.Core.Bool.{Bool, true, false, cond, ◌&&◌}
use mathlib.Core.List.{List, [], ◌∷◌}
use mathlib.Core.Path.{◌≡◌, refl, sym, ap, ◌∙◌}
use native.Mathlib.Omega.{arith}
use borrow.Author.Tests.{leb-true, leb-false, le-leb, lt-leb}
use lib.Dec.{leb}
use lib.ListN.{length, get_or, drop, length-drop}
use Rattle.std.specs.Prelude.{Option, Some, None}
use Rattle.lists.specs.Words.{lengths, in_order}
use Rattle.lists.specs.Inner.Pairs.{part_end}
use Rattle.lists.proofs.RestLaws.{rest_more}

-- two words are left at least
pub pair_rest : (ws : List ℕ) (i : ℕ) → 2 * i + 1 < length ws → drop (2 * i) ws ≡ get_or ws (2 * i) 0 ∷ get_or ws (2 * i + 1) 0 ∷ drop (2 * (i + 1)) ws
pair_rest ws i h =
    let n : 2 * i + 1 + 1 ≡ 2 * (i + 1) = omega arith in
    rest_more ws (2 * i) 0 (omega arith) ∙ rw (rest_more ws (2 * i + 1) 0 h, n) refl

-- one word is left at most
abbrev pub NoPair : List ℕ → Type 0
NoPair ws = length ws ≤ 1

pub no_pair : (ws : List ℕ) (i : ℕ) → length ws ≤ 2 * i + 1 → NoPair (drop (2 * i) ws)
no_pair ws i h = rw (length-drop (2 * i) ws) (omega arith)

pub lengths_none : (ws : List ℕ) → NoPair ws → lengths ws ≡ 0
lengths_none [] h = refl
lengths_none (x ∷ []) h = refl
lengths_none (x ∷ y ∷ ws) h = absurd (omega arith)

pub order-none : (end size : ℕ) (ws : List ℕ) → NoPair ws → in_order end size ws ≡ true
order-none end size [] h = refl
order-none end size (x ∷ []) h = refl
order-none end size (x ∷ y ∷ ws) h = absurd (omega arith)

sum_fits : (left n rest : ℕ) → n ≤ left → leb (n + rest) left ≡ leb rest (left - n)
sum_fits left n rest h = go (leb rest (left - n)) refl
  where
    go : (b : Bool) → leb rest (left - n) ≡ b → leb (n + rest) left ≡ leb rest (left - n)
    go true e = let k : rest ≤ left - n = leb-true rest (left - n) e in rw (le-leb (n + rest) left (omega arith), e) refl
    go false e = let k : left - n < rest = leb-false rest (left - n) e in rw (lt-leb (n + rest) left (omega arith), e) refl

-- a loop that adds lengths up: so many are still allowed
module _ (ws : List ℕ) (i left : ℕ) (r : Bool) (k : r ≡ leb (lengths (drop (2 * i) ws)) left) where
  pub lengths-stop : i < length ws / 2 → left < get_or ws (2 * i + 1) 0 → false ≡ r
  lengths-stop h o = sym (k ∙ rw (pair_rest ws i (omega arith)) (lt-leb (get_or ws (2 * i + 1) 0 + lengths (drop (2 * (i + 1)) ws)) left (omega arith)))

  pub lengths-more : i < length ws / 2 → get_or ws (2 * i + 1) 0 ≤ left → r ≡ leb (lengths (drop (2 * (i + 1)) ws)) (left - get_or ws (2 * i + 1) 0)
  lengths-more h o = k ∙ rw (pair_rest ws i (omega arith)) (sum_fits left (get_or ws (2 * i + 1) 0) (lengths (drop (2 * (i + 1)) ws)) o)

  pub lengths-end : length ws / 2 ≤ i → true ≡ r
  lengths-end h = sym (k ∙ rw (lengths_none (drop (2 * i) ws) (no_pair ws i (omega arith))) (le-leb 0 left (omega arith)))

-- ---- pairs in order, one after the other

at_outside : {X : Type 0} (a : ℕ) → Some a ≡ None → X
at_outside a e = let z : ◌≡◌ {A = ℕ} 0 1 = cc in absurd (omega arith)

at_same : (a b : ℕ) → Some a ≡ Some b → a ≡ b
at_same a b e = cc

-- the part of a pair decides whether it and the pairs behind it are in order
module _ (end start size most : ℕ) (x : Option ℕ) (e : x ≡ part_end end start size most) where
  answer : (p q : Bool) → leb end start ≡ p → leb (start + size) most ≡ q → x ≡ cond (p && q) (Some (start + size)) None
  answer p q f g = rw (← f, ← g) e

  pub order_outside : x ≡ None → (rest : List ℕ) → in_order end most (start ∷ size ∷ rest) ≡ false
  order_outside o rest = go (leb end start) (leb (start + size) most) refl refl
    where
      go : (p q : Bool) → leb end start ≡ p → leb (start + size) most ≡ q → (p && (q && in_order (start + size) most rest)) ≡ false
      go true true f g = at_outside (start + size) (sym (answer true true f g) ∙ o)
      go true false f g = refl
      go false q f g = refl

  pub part-ends : (end' : ℕ) → x ≡ Some end' → (end ≤ start) × (end' ≡ start + size) × (start + size ≤ most)
  part-ends end' o = go (leb end start) (leb (start + size) most) refl refl
    where
      go : (p q : Bool) → leb end start ≡ p → leb (start + size) most ≡ q → (end ≤ start) × (end' ≡ start + size) × (start + size ≤ most)
      go true true f g = (leb-true end start f, at_same end' (start + size) (sym o ∙ answer true true f g), leb-true (start + size) most g)
      go true false f g = at_outside end' (sym o ∙ answer true false f g)
      go false q f g = at_outside end' (sym o ∙ answer false q f g)

  pub order-at : (end' : ℕ) → x ≡ Some end' → (rest : List ℕ) → in_order end most (start ∷ size ∷ rest) ≡ in_order end' most rest
  order-at end' o rest = let p = part-ends end' o in rw (le-leb end start p.0, le-leb (start + size) most p.2, p.1) refl

-- the pairs before number i are in order, and the last of them ends at `end`
pub record Ordering (pairs : List ℕ) (most end i : ℕ) : Type 0 where
  pub is : in_order end most (drop (2 * i) pairs) ≡ in_order 0 most pairs

pub ordering-none : (pairs : List ℕ) (most : ℕ) → Ordering pairs most 0 0
ordering-none pairs most = record { is = refl }

module _ (pairs : List ℕ) (most end i count : ℕ) (k : Ordering pairs most end i) (number : count ≡ length pairs / 2) where
  pub ordering-end : count ≤ i → true ≡ in_order 0 most pairs
  ordering-end h = sym (order-none end most (drop (2 * i) pairs) (no_pair pairs i (omega arith))) ∙ k.is

  module _ (less : i < count) (x : Option ℕ) (e : x ≡ part_end end (get_or pairs (2 * i) 0) (get_or pairs (2 * i + 1) 0) most) where
    split : in_order end most (get_or pairs (2 * i) 0 ∷ get_or pairs (2 * i + 1) 0 ∷ drop (2 * (i + 1)) pairs) ≡ in_order 0 most pairs
    split = sym (ap (in_order end most) (pair_rest pairs i (omega arith))) ∙ k.is

    pub ordering-stop : x ≡ None → false ≡ in_order 0 most pairs
    ordering-stop o = sym (order_outside end (get_or pairs (2 * i) 0) (get_or pairs (2 * i + 1) 0) most x e o (drop (2 * (i + 1)) pairs)) ∙ split

    pub ordering-more : (end' : ℕ) → x ≡ Some end' → Ordering pairs most end' (i + 1)
    ordering-more end' o =
        record { is = sym (order-at end (get_or pairs (2 * i) 0) (get_or pairs (2 * i + 1) 0) most x e end' o (drop (2 * (i + 1)) pairs)) ∙ split }
