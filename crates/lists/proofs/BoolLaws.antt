-- What a test made of tests says of them, and which way a test goes. (`not-not`, `and-true`, .. are in `mathlib.Core.Bool`.)
use Prim.Native.Nat.{ℕ, ◌+◌, ◌≤◌, ◌<◌}
use mathlib.Core.Path.{◌≡◌, refl, sym, ◌∙◌}
use mathlib.Core.Bool.{Bool, true, false, not, ◌&&◌, ◌||◌, xor, cond, true≢false}
use mathlib.Core.Logic.{◌⊎◌, inl, inr}
use native.Mathlib.Decide.{dec_lt}
use native.Mathlib.Omega.{arith}
use lib.Dec.{eqb}
use borrow.Author.Tests.{eqb-true, eqb-false, eq-eqb, ne_eqb}

pub true-false : {X : Type 0} {b : Bool} → b ≡ true → b ≡ false → X
true-false h k = absurd (true≢false (sym h ∙ k))

pub to_false : (b : Bool) → (b ≡ true → ⊥) → b ≡ false
to_false true h = absurd (h refl)
to_false false h = refl

-- a function's answer r is q: what the code's test of r says of q
pub told : (q r t : Bool) → r ≡ q → r ≡ t → q ≡ t
told q r t e h = sym e ∙ h

pub told_true : (q r : Bool) → r ≡ q → r ≡ false → not q ≡ true
told_true q r e h = rw (told q r false e h)

pub told_false : (q r : Bool) → r ≡ q → r ≡ true → not q ≡ false
told_false q r e h = rw (told q r true e h)

pub told_not : (q r : Bool) → r ≡ q → not r ≡ false → q ≡ true
told_not q true e h = sym e
told_not q false e h = true-false refl h

pub and_left : (a b : Bool) → (a && b) ≡ true → a ≡ true
and_left true b h = refl
and_left false b h = h

pub and_right : (a b : Bool) → (a && b) ≡ true → b ≡ true
and_right true b h = h
and_right false b h = true-false h refl

pub and_both : (a b : Bool) → a ≡ true → b ≡ true → (a && b) ≡ true
and_both a b h k = rw (h, k)

pub and_cong : (a b c d : Bool) → a ≡ c → b ≡ d → (a && b) ≡ (c && d)
and_cong a b c d h k = rw (h, k)

pub or_left : (a b : Bool) → (a || b) ≡ false → a ≡ false
or_left true b h = h
or_left false b h = refl

pub or_right : (a b : Bool) → (a || b) ≡ false → b ≡ false
or_right true b h = true-false refl h
or_right false b h = h

pub below_or : (a b : ℕ) → (a < b) ⊎ (b ≤ a)
below_or a b = go (dec_lt a b)
  where
    go : Dec (a < b) → (a < b) ⊎ (b ≤ a)
    go (yes h) = inl h
    go (no h) = inr (omega arith)

-- a bit, turned round where the other one is set
pub xor-turns : (a b : Bool) → xor a b ≡ cond b (not a) a
unfolding xor
xor-turns true true = refl
xor-turns true false = refl
xor-turns false true = refl
xor-turns false false = refl

pub and_swap : (a b c d : Bool) → ((a && b) && (c && d)) ≡ ((a && c) && (b && d))
and_swap false b c d = refl
and_swap true false true d = refl
and_swap true false false d = refl
and_swap true true c d = refl

pub or_swap : (a b c d : Bool) → ((a || b) || (c || d)) ≡ ((a || c) || (b || d))
or_swap true b c d = refl
or_swap false true true d = refl
or_swap false true false d = refl
or_swap false false c d = refl

pub and_swap_left : (a b c : Bool) → (a && (b && c)) ≡ (b && (a && c))
and_swap_left true b c = refl
and_swap_left false true c = refl
and_swap_left false false c = refl

pub or_swap_left : (a b c : Bool) → (a || (b || c)) ≡ (b || (a || c))
or_swap_left true true c = refl
or_swap_left true false c = refl
or_swap_left false b c = refl

-- tests of numbers that say the same
pub eqb_same : (a b c d : ℕ) → (a ≡ b → c ≡ d) → (c ≡ d → a ≡ b) → eqb a b ≡ eqb c d
eqb_same a b c d f g = go (eqb a b) refl
  where
    go : (t : Bool) → eqb a b ≡ t → eqb a b ≡ eqb c d
    go true e = e ∙ sym (eq-eqb c d (f (eqb-true a b e)))
    go false e = e ∙ sym (ne_eqb c d (λ q. eqb-false a b e (g q)))

pub eqb_swap : (a b : ℕ) → eqb a b ≡ eqb b a
eqb_swap a b = eqb_same a b b a (λ q. sym q) (λ q. sym q)

pub eqb_shift : (n a b : ℕ) → eqb (n + a) (n + b) ≡ eqb a b
eqb_shift n a b = eqb_same (n + a) (n + b) a b (λ q. omega arith) (λ q. omega arith)
