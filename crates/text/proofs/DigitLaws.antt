-- `digits_after` at a position of a field: one step of the loop that reads it.
use Rattle.std.specs.Prelude.{Option, Some, None}
use Prim.Native.Nat.{ℕ, suc, ◌+◌, ◌-◌, ◌*◌, ◌^◌, ◌≤◌, ◌<◌}
use mathlib.Core.Path.{◌≡◌, refl, ap, sym, ◌∙◌}
use mathlib.Core.List.{List, [], ◌∷◌}
use mathlib.Core.Logic.{◌⊎◌, inl, inr}
use mathlib.Core.Bool.{Bool, true, false, cond, and-false}
use native.Mathlib.Numerals.{add-one}
use native.Mathlib.Omega.{arith}
use borrow.Author.Tests.{lt-ltb, le-ltb, le-leb, lt-leb, eqb-true}
use lib.ListN.{length, get_or, drop, drop_of_length-le}
use Rattle.std.specs.Prelude.{◌==◌}
use lib.Seq.{drop-cons}
use Rattle.lists.specs.Parts.{part}
use Rattle.lists.proofs.PartLaws.{part-drop}
use Rattle.scan.specs.Spans.{span}
use Rattle.text.specs.Inner.PlainDigits.{is_zero}
use Rattle.scan.proofs.SpanLaws.{span_le}
use Rattle.text.specs.Numbers.{tenfold, digits_after, digits_of}

pub tenfold_grows : (v : ℕ) (bs : List ℕ) → v ≤ tenfold v bs
tenfold_grows v [] = omega arith
tenfold_grows v (b ∷ bs) = omega (arith, tenfold_grows (v * 10 + (b - 48)) bs)

module _ (v b : ℕ) (bs : List ℕ) where
  in_step : 48 ≤ b → b ≤ 57 → digits_after v (b ∷ bs) ≡ digits_after (v * 10 + (b - 48)) bs
  in_step h k = simp (le-leb 48 b h, le-leb b 57 k)

  low_step : b < 48 → digits_after v (b ∷ bs) ≡ None
  low_step h = simp (lt-leb 48 b h)

  high_step : 57 < b → digits_after v (b ∷ bs) ≡ None
  high_step h = simp (lt-leb b 57 h, and-false)

  over-step : 2 ^ 64 ≤ v * 10 + (b - 48) → digits_after v (b ∷ bs) ≡ None
  over-step h = simp (le-ltb (tenfold v (b ∷ bs)) (2 ^ 64) (omega (arith, tenfold_grows (v * 10 + (b - 48)) bs)), and-false)

-- zeros in front change nothing
zeros-at : (b : ℕ) (bs : List ℕ) → digits_after 0 (drop (span is_zero bs) bs) ≡ digits_after 0 bs → (q : Bool) → is_zero b ≡ q
    → digits_after 0 (drop (cond q (suc (span is_zero bs)) 0) (b ∷ bs)) ≡ digits_after 0 (b ∷ bs)
zeros-at b bs ih true e =
    let is : b ≡ 48 = eqb-true b 48 e in
    let zero_more : 0 * 10 + (b - 48) ≡ 0 = omega arith in
    ih ∙ sym (in_step 0 b bs (omega arith) (omega arith) ∙ ap (λ (v : ℕ). digits_after v bs) zero_more)
zeros-at b bs ih false e = refl

zeros : (t : List ℕ) → digits_after 0 (drop (span is_zero t) t) ≡ digits_after 0 t
zeros [] = refl
zeros (b ∷ bs) = zeros-at b bs (zeros bs) (is_zero b) refl

module _ (f : List ℕ) (r : ℕ) (k : r ≡ span is_zero f) where
  pub zeros_within : r ≤ length f
  zeros_within = omega (arith, span_le is_zero f)

  pub zeros-behind : digits_after 0 (part f r (length f)) ≡ digits_after 0 f
  zeros-behind = rw (part-drop f r, k) (zeros f)

module _ (v : ℕ) (f : List ℕ) (i : ℕ) where
  pub digits_in_lem : i < length f → 48 ≤ get_or f i 0 → get_or f i 0 ≤ 57 → digits_after v (drop i f) ≡ digits_after (v * 10 + (get_or f i 0 - 48)) (drop (i + 1) f)
  digits_in_lem h = rw (add-one, drop-cons f i 0 h) (in_step v (get_or f i 0) (drop (suc i) f))

  pub digits_low : i < length f → get_or f i 0 < 48 → digits_after v (drop i f) ≡ None
  digits_low h = rw (drop-cons f i 0 h) (low_step v (get_or f i 0) (drop (suc i) f))

  pub digits_high : i < length f → 57 < get_or f i 0 → digits_after v (drop i f) ≡ None
  digits_high h = rw (drop-cons f i 0 h) (high_step v (get_or f i 0) (drop (suc i) f))

  pub digits-over : i < length f → 2 ^ 64 ≤ v * 10 + (get_or f i 0 - 48) → digits_after v (drop i f) ≡ None
  digits-over h = rw (drop-cons f i 0 h) (over-step v (get_or f i 0) (drop (suc i) f))

  pub digits-end : length f ≤ i → v < 2 ^ 64 → digits_after v (drop i f) ≡ Some v
  digits-end h k = rw (drop_of_length-le f h) (simp (lt-ltb v (2 ^ 64) k))

pub digits-start : (f : List ℕ) (e : Bool) → e ≡ (length f == 0) → e ≡ false → (g : List ℕ) → digits_after 0 g ≡ digits_after 0 f → digits_of f ≡ digits_after 0 g
digits-start [] e p q g k = let z : ◌≡◌ {A = ℕ} 0 1 = cc in absurd (omega arith)
digits-start (b ∷ bs) e p q g k = sym k

-- the same for the loop: n is what its invariant says of v and i
module _ (n : Option ℕ) (v : ℕ) (f : List ℕ) (i : ℕ) (k : n ≡ digits_after v (drop i f)) where
  pub at-outside : i < length f → (get_or f i 0 < 48) ⊎ ((48 ≤ get_or f i 0) × (57 < get_or f i 0)) → None ≡ n
  at-outside h (inl e) = sym (k ∙ digits_low v f i h e)
  at-outside h (inr e) = sym (k ∙ digits_high v f i h e.1)

  pub at-over : i < length f → ((v * 10 + (get_or f i 0 - 48)) < 2 ^ 64 → ⊥) → None ≡ n
  at-over h e = sym (k ∙ digits-over v f i h (omega (arith, e)))

  pub at-end : length f ≤ i → v < 2 ^ 64 → Some v ≡ n
  at-end h e = sym (k ∙ digits-end v f i h e)

  pub at_digit : i < length f → 48 ≤ get_or f i 0 → get_or f i 0 ≤ 57 → (w : ℕ) → w ≡ v * 10 + (get_or f i 0 - 48) → n ≡ digits_after w (drop (i + 1) f)
  at_digit h e g w q = k ∙ rw q (digits_in_lem v f i h e g)
