-- Laws of `IsRun`: the loop that reads plain digits, the tests behind it, and what they say of the number of a line and of a plain number.
use Rattle.std.specs.Prelude.{Some, ◌==◌}
use Prim.Native.Nat.{ℕ, suc, ◌+◌, ◌*◌, ◌-◌, ◌^◌, ◌≤◌, ◌<◌, min}
use mathlib.Core.Path.{◌≡◌, refl, ap, sym, ◌∙◌}
use mathlib.Core.Bool.{Bool, false}
use mathlib.Core.List.{[], ◌∷◌, ◌++◌}
use native.Mathlib.Omega.{arith}
use native.Mathlib.Nat.{pow-le-pow_right, pow-succ'}
use borrow.Author.Tests.{le-leb}
use lib.ListN.{length, get_or, take, drop, take-append-drop}
use lib.Seq.{length-take-le}
use Rattle.lists.specs.Parts.{Bytes}
use Rattle.lists.proofs.RestLaws.{rest_more, take_next}
use Rattle.lists.proofs.PartLaws.{tail-lent}
use Rattle.lists.proofs.TestLaws.{all_snoc}
use Rattle.scan.specs.Spans.{span}
use Rattle.scan.proofs.SpanLaws.{span_in}
use Rattle.text.specs.declared.Reader.{Reader}
use Rattle.text.specs.Numbers.{is_digit, tenfold, long_zero, number_of}
use Rattle.text.specs.Fields.{is_blank, in_field}
use Rattle.text.specs.Inner.PlainDigits.{IsRun, IsPlain}
use Rattle.text.specs.Inner.Fronts.{from_field, NumberStands}
use Rattle.text.proofs.NumberLaws.{number-plain}
use Rattle.text.proofs.FieldLaws.{blank_above, front-in_field}

pub tenfold_snoc : (v : ℕ) (bs : Bytes) (b : ℕ) → tenfold v (bs ++ b ∷ []) ≡ tenfold v bs * 10 + (b - 48)
tenfold_snoc v [] b = refl
tenfold_snoc v (c ∷ bs) b = tenfold_snoc (v * 10 + (c - 48)) bs b

-- ---- the loop

-- i digits at the front are read, of at most 18: so few digits stay below 10 ^ 18
pub record Running (l : Bytes) (most i v : ℕ) : Type 0 where
  pub run : IsRun l i v
  pub below : v < 10 ^ i
  pub few : most ≤ 18
  pub upto : i ≤ most
  pub within : most ≤ length l

module _ (l : Bytes) (most : ℕ) where
  pub running_none : most ≡ min (length l) 18 → Running l most 0 0
  running_none q =
      record {
        run = record { fits = omega arith; inside = omega arith; digits = refl; value = refl; small = omega arith };
        below = omega arith;
        few = omega arith;
        upto = omega arith;
        within = omega arith;
      }

  module _ (i v : ℕ) (k : Running l most i v) where
    pub running_run : IsRun l i v
    running_run = k.run

    pub running-done : most ≤ i → IsRun l most v
    running-done h = let same : most ≡ i = omega (arith, k.upto) in rw same k.run

    module _ (h : i < most) where
      pub running-inside : i < length l
      running-inside = omega (arith, k.within)

      room : v < 10 ^ 17
      room = omega (arith, k.below, pow-le-pow_right {n = 10} (omega arith) {i = i} {j = 17} (omega (arith, k.few)))

      pub running_mul : v * 10 < 2 ^ 64
      running_mul = omega (arith, room)

      pub running_add : get_or l i 0 ≤ 57 → (d : ℕ) → d ≡ get_or l i 0 → v * 10 + (d - 48) < 2 ^ 64
      running_add high d q = omega (arith, room)

      pub running_more : 48 ≤ get_or l i 0 → get_or l i 0 ≤ 57 → (d : ℕ) → d ≡ get_or l i 0 → Running l most (i + 1) (v * 10 + (d - 48))
      running_more low high d q =
          let p : take (i + 1) l ≡ take i l ++ get_or l i 0 ∷ [] = take_next l i 0 running-inside in
          let n : i + 1 ≡ suc i = omega arith in
          record {
            run =
                record {
                  fits = omega (arith, running-inside);
                  inside = k.run.inside ∙ span_in in_field l i running-inside (rw (← blank_above (get_or l i 0) (omega arith)));
                  digits = rw p (all_snoc is_digit (take i l) (get_or l i 0) ∙ rw (k.run.digits, le-leb 48 (get_or l i 0) low, le-leb (get_or l i 0) 57 high));
                  value = rw (p, q, k.run.value) (sym (tenfold_snoc 0 (take i l) (get_or l i 0)));
                  small = running_add high d q;
                };
            below = rw (n, pow-succ' 10 i) (omega (arith, k.below));
            few = k.few;
            upto = omega arith;
            within = k.within;
          }

-- ---- digits that are all of a field

module _ (l : Bytes) (n v : ℕ) (k : IsRun l n v) (zero : long_zero (take n l) ≡ false) where
  run_number : 0 < n → (reader : Reader) → number_of reader (take n l) ≡ Some v
  run_number h reader =
      rw k.value
      (number-plain reader (take n l) zero (rw (length-take-le n l k.fits) h) k.digits (rw (← k.value) k.small))

  -- plain_number: t is what stands behind the digits
  module _ (t : Bytes) (q : t ≡ drop n l) where
    pub plain-got : 1 ≤ length t → (n ≡ 0 → ⊥) → (stop : ℕ) → get_or t 0 0 ≡ stop → IsPlain l stop v (take (length t - 1) (drop 1 t))
    plain-got h some_byte stop e =
        let behind : drop n l ≡ t = sym q in
        record {
          field = take n l;
          some_byte = rw (length-take-le n l k.fits) (omega (arith, some_byte));
          digits = k.digits;
          stands = sym (take-append-drop n l) ∙ ap (λ (x : Bytes). take n l ++ x) (behind ∙ rw (← e, tail-lent t 1) (rest_more t 0 0 h));
          value = run_number (omega (arith, some_byte));
        }

-- next_number
module _ (reader : Reader) (l front : Bytes) (e : front ≡ from_field l) (empty : Bool) (b : empty ≡ (length front == 0)) (f : empty ≡ false) (n v : ℕ) (k : IsRun front n v) (zero : long_zero (take n front) ≡ false) where
  not_empty : (t : Bytes) (x : Bool) → x ≡ (length t == 0) → x ≡ false → 0 < length t
  not_empty [] x p q = let z : ◌≡◌ {A = ℕ} 0 1 = cc in absurd (omega arith)
  not_empty (x ∷ xs) y p q = omega arith

  h : 0 < length front
  h = not_empty front empty b f

  -- no blank stands at the front, so the field there has a byte
  some_byte : 0 < span in_field front
  some_byte =
      let first : is_blank (get_or front 0 0) ≡ false = rw e (front-in_field l (omega (arith, ap length e, h))) in
      omega (arith, span_in in_field front 0 (omega (arith, h)) (rw first))

  pub number_run : (r : Bytes) → r ≡ drop n front → span in_field r ≡ 0 → (0 < length (from_field l)) × NumberStands reader (from_field l) v r
  number_run r q w =
      let ends : span in_field front ≡ n = omega (arith, k.inside, w, ap (span in_field) q) in (
        omega (arith, ap length e, h),
        rw (← e) (record { value = rw ends (run_number front n v k zero (omega (arith, some_byte)) reader); rest = rw ends q }),
      )
