-- Laws of what one input or latch maps to.
use Rattle.std.specs.Prelude.{Some, None}
use Rattle.std.specs.declared.option.Option as option
use Prim.Native.Nat.{ℕ, ◌+◌, ◌-◌, ◌*◌, ◌/◌, ◌%◌, ◌≤◌, ◌<◌}
use mathlib.Core.Bool.{Bool, true, false, not, and-false}
use mathlib.Core.List.{[], ◌∷◌}
use mathlib.Core.Option.{some}
use mathlib.Core.Path.{◌≡◌, refl, sym, ap, ◌∙◌}
use native.Mathlib.Numerals.{add-one}
use native.Mathlib.Omega.{arith}
use borrow.Author.Tests.{eq-eqb, ne_eqb, lt-ltb, le-ltb, le-leb, lt-leb}
use lib.Dec.{eqb, ltb}
use lib.ListN.{length, drop, take}
use Rattle.lists.specs.Bits.{odd}
use Rattle.lists.specs.Parts.{Bytes}
use Rattle.lists.proofs.PartLaws.{tail-lent}
use Rattle.scan.specs.Same.{begins_with}
use Rattle.text.specs.declared.Reader.TheVariants.{Witness}
use Rattle.text.specs.Numbers.{number_of}
use Rattle.compose_spec.specs.declared.ModelLeaves.{ModelLeaves}
use Rattle.compose_spec.specs.declared.Mapping.{Mapping}
use Rattle.compose_spec.specs.declared.Mapping.TheVariants as mapping
use Rattle.compose_spec.specs.Mapping.{equals, onto_number, by_name, by_position}

-- ---- a literal

module _ (p : ModelLeaves) (l : ℕ) where
  pub onto_odd : l % 2 ≡ 1 → mapping.Wrong ≡ onto_number p (Some l)
  onto_odd e = rw (eq-eqb (l % 2) 1 e) refl

  module _ (x : ℕ) (e : x ≡ l / 2) where
    pub onto_before : x ≤ p.before → mapping.Wrong ≡ onto_number p (Some l)
    onto_before h = rw (le-ltb p.before (l / 2) (omega arith), and-false (not (odd l))) refl

    pub onto_behind : p.before < x → p.count < x - p.before → mapping.Wrong ≡ onto_number p (Some l)
    onto_behind b h = rw (lt-leb (l / 2) (p.before + p.count) (omega arith), and-false (ltb p.before (l / 2)), and-false (not (odd l))) refl

    pub onto_it : (l % 2 ≡ 1 → ⊥) → p.before < x → x - p.before ≤ p.count → mapping.Onto l ≡ onto_number p (Some l)
    onto_it n h k = rw (ne_eqb (l % 2) 1 n, lt-ltb p.before (l / 2) (omega arith), le-leb (l / 2) (p.before + p.count) (omega arith)) refl

-- ---- a name

module _ (p : ModelLeaves) (digits : Bytes) (n : option.Option ℕ) (e : n ≡ number_of Witness digits) where
  pub onto_unreadable : n ≡ None → mapping.Wrong ≡ onto_number p (number_of Witness digits)
  onto_unreadable u = ap (onto_number p) (sym u ∙ e)

  pub onto_readable : (l : ℕ) → n ≡ Some l → (r : Mapping) → r ≡ onto_number p (Some l) → r ≡ onto_number p (number_of Witness digits)
  onto_readable l u r f = f ∙ ap (onto_number p) (sym u ∙ e)

short-begins : (name : Bytes) → length name < 2 → begins_with name equals ≡ false
short-begins [] h = refl
short-begins (x ∷ []) h = and-false (eqb x 61)
short-begins (x ∷ y ∷ name) h = absurd (omega arith)

module _ (p : ModelLeaves) (name : Bytes) where
  pub name-short : length name < 2 → mapping.Private ≡ by_name p (some name)
  name-short h = rw (short-begins name h) refl

  module _ (b : Bool) (e : b ≡ begins_with name (61 ∷ 32 ∷ [])) where
    pub name-mapped : b ≡ true → (r : Mapping) → r ≡ onto_number p (number_of Witness (take (length name - 2) (drop 2 name))) → r ≡ by_name p (some name)
    name-mapped t r f = f ∙ (ap (λ (d : Bytes). onto_number p (number_of Witness d)) (tail-lent name 2) ∙ rw (sym e ∙ t) refl)

    pub name_private : b ≡ false → mapping.Private ≡ by_name p (some name)
    name_private t = rw (sym e ∙ t) refl

-- ---- a position

module _ (p : ModelLeaves) (k : ℕ) where
  pub position_shared : k < p.count → mapping.Onto (2 * (p.before + k + 1)) ≡ by_position p k
  position_shared h = rw (lt-ltb k p.count h, add-one (p.before + k)) refl

  pub position_private : p.count ≤ k → mapping.Private ≡ by_position p k
  position_private h = rw (le-ltb k p.count h) refl
