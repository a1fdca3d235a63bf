-- Laws of joint literals, one after the other.
use Prim.Native.Nat.{ℕ, ◌+◌, ◌*◌, ◌/◌, ◌%◌, ◌≤◌, ◌<◌}
use mathlib.Core.List.{List, map, append-nil}
use mathlib.Core.Path.{◌≡◌, refl, sym, ap, ◌∙◌, subst}
use native.Mathlib.Omega.{arith}
use borrow.Author.Tests.{eq-eqb, ne_eqb, le-leb, lt-leb}
use lib.ListN.{length, get_or, set, length-map, get_or-map, drop_of_length-le}
use Rattle.lists.specs.Parts.{put}
use Rattle.lists.proofs.PartLaws.{Copied, copied_none, copied_more, copied-done, put_front}
use Rattle.witness_text.specs.declared.AagCounts.{AagCounts}
use Rattle.compose_joint.specs.declared.Shift.{Shift}
use Rattle.compose_joint.specs.declared.Literals.{Literals}
use Rattle.compose_joint.specs.declared.Literals.TheVariants as literals
use Rattle.compose_joint.specs.Inner.Joint.{shifted, shifted_literal}
use Rattle.compose_gather.specs.declared.Range.{Range}
use Rattle.compose_gather.specs.Inner.Gathered.{range_of, Shiftable, CanShift, SmallWord}

-- ---- one variable

module _ (h : Shift) (x : ℕ) (k : Shiftable h x) where
  pub shift_none : x ≡ 0 → SmallWord 0 (shifted h x)
  shift_none e = record { is = rw (eq-eqb x 0 e) refl; small = omega arith }

  module _ (n : x ≡ 0 → ⊥) where
    pub shift_input : x ≤ h.inputs → SmallWord (x + h.by_input) (shifted h x)
    shift_input i = record { is = rw (ne_eqb x 0 n, le-leb x h.inputs i) refl; small = omega (arith, k.small, k.by.by_input) }

    module _ (i : h.inputs < x) where
      pub shift_latch : x ≤ h.leaves → SmallWord (x + h.by_latch) (shifted h x)
      shift_latch q = record { is = rw (ne_eqb x 0 n, lt-leb x h.inputs i, le-leb x h.leaves q) refl; small = omega (arith, k.small, k.by.by_latch) }

      pub shift_gate : h.leaves < x → SmallWord (x + h.by_gate) (shifted h x)
      shift_gate q = record { is = rw (ne_eqb x 0 n, lt-leb x h.inputs i, lt-leb x h.leaves q) refl; small = omega (arith, k.small, k.by.by_gate) }

pub half_shiftable : (h : Shift) (l y : ℕ) → y ≡ l / 2 → Shiftable h l → Shiftable h y
half_shiftable h l y e k = record { by = k.by; small = omega (arith, k.small) }

-- the literal of a joint variable
pub literal-shifted : (h : Shift) (l y x : ℕ) → y ≡ l / 2 → SmallWord x (shifted h y) → 2 * x + l % 2 ≡ shifted_literal h l
literal-shifted h l y x e k = ap (λ (z : ℕ). 2 * z + l % 2) (k.is ∙ ap (shifted h) e)

-- ---- where a list stands

module _ (kind : Literals) (n : AagCounts) where
  pub range-latches : kind ≡ literals.Latches → ◌≡◌ {A = Range} (record { start = 2 * n.inputs + 2 * n.latches; count = 2 * n.latches }) (range_of kind n)
  range-latches e = rw e refl

  module _ (e : kind ≡ literals.Safety) where
    pub range-outputs : n.bads ≡ 0 → ◌≡◌ {A = Range} (record { start = 2 * n.inputs + 4 * n.latches; count = n.outputs }) (range_of kind n)
    range-outputs z = rw (e, eq-eqb n.bads 0 z) refl

    pub range-bads : (n.bads ≡ 0 → ⊥) → ◌≡◌ {A = Range} (record { start = 2 * n.inputs + 4 * n.latches + n.outputs; count = n.bads }) (range_of kind n)
    range-bads z = rw (e, ne_eqb n.bads 0 z) refl

  pub range-constraints : kind ≡ literals.Constraints
      → ◌≡◌ {A = Range} (record { start = 2 * n.inputs + 4 * n.latches + n.outputs + n.bads; count = n.constraints }) (range_of kind n)
  range-constraints e = rw e refl

  pub range-operands : kind ≡ literals.Operands
      → ◌≡◌ {A = Range} (record { start = 2 * n.inputs + 4 * n.latches + n.outputs + n.bads + n.constraints; count = 2 * n.gates }) (range_of kind n)
  range-operands e = rw e refl

-- ---- a list

-- a list written over one that is as long
pub put-whole : (o c : List ℕ) → length c ≡ length o → put o 0 c ≡ c
put-whole o c e = put_front o c ∙ rw (drop_of_length-le o {i = length c} (omega (arith, e))) (append-nil c)

-- so many literals are written
pub record Shifting (h : Shift) (xs ys₀ ys : List ℕ) (i : ℕ) : Type 0 where
  pub can : CanShift h xs ys₀
  pub copied : Copied ys₀ 0 (map (shifted_literal h) xs) ys i

pub shifting-none : (h : Shift) (xs ys : List ℕ) → CanShift h xs ys → Shifting h xs ys ys 0
shifting-none h xs ys can =
    record { can = can; copied = copied_none ys 0 (map (shifted_literal h) xs) (omega (arith, can.same, length-map xs (shifted_literal h))) }

module _ (h : Shift) (xs ys₀ ys : List ℕ) (i : ℕ) (k : Shifting h xs ys₀ ys i) where
  pub shifting-end : length xs ≤ i → ys ≡ map (shifted_literal h) xs
  shifting-end e =
      copied-done ys₀ 0 (map (shifted_literal h) xs) ys i k.copied (omega (arith, length-map xs (shifted_literal h)))
      ∙ put-whole ys₀ (map (shifted_literal h) xs) (length-map xs (shifted_literal h) ∙ sym k.can.same)

  module _ (less : i < length xs) where
    pub shifting-small : Shiftable h (get_or xs i 0)
    shifting-small = record { by = k.can.small; small = k.can.literals i less }

    pub shifting-more : (y : ℕ) → y ≡ shifted_literal h (get_or xs i 0) → Shifting h xs ys₀ (set ys i y) (i + 1)
    shifting-more y f =
        let first : 0 + i ≡ i = omega arith in
        let z : y ≡ get_or (map (shifted_literal h) xs) i 0 = f ∙ sym (get_or-map (shifted_literal h) xs i 0) in
        record {
          can = k.can;
          copied =
              rw z
              (subst (λ (j : ℕ). Copied ys₀ 0 (map (shifted_literal h) xs) (set ys j (get_or (map (shifted_literal h) xs) i 0)) (i + 1)) first
              (copied_more ys₀ 0 (map (shifted_literal h) xs) ys i k.copied 0 (omega (arith, less, length-map xs (shifted_literal h)))));
        }
