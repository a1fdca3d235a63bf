-- The loop that adds literals to a set of bits: its invariant, and one turn.
use Prim.Native.Nat.{ℕ, ◌+◌, ◌*◌, ◌≤◌, ◌<◌}
use mathlib.Core.Bool.{Bool, true, false, not}
use mathlib.Core.List.{List, [], ◌∷◌, ◌++◌}
use mathlib.Core.Path.{◌≡◌, refl, sym, ap, ◌∙◌}
use native.Mathlib.Nat.{add-zero}
use native.Mathlib.Omega.{arith}
use lib.ListN.{length, get_or, take, length-map}
use lib.Seq.{take_all}
use Rattle.lists.specs.Bits.{bit}
use Rattle.lists.specs.Sets.{holds, with_bit, set_of}
use Rattle.lists.proofs.BitSetLaws.{with_length}
use Rattle.lists.proofs.MapLaws.{map_at}
use Rattle.lists.proofs.RestLaws.{take_next}
use Rattle.text_print.specs.Inner.Elements.{elements}
use Rattle.text_print.proofs.ElementLaws.{elements-zeros, elements-more, elements_new, elements_old}
use Rattle.compose_gates.specs.Inner.Linked.{Translatable}
use Rattle.compose_spec.specs.Sharing.{translate}
use Rattle.compose_numbers.specs.Inner.Marked.{composed_in, CanAdd, Added}

-- i literals are added, `found` of them for the first time
pub record Adding (literals vars set₀ set : List ℕ) (found i : ℕ) : Type 0 where
  pub passed : i ≤ length literals
  pub few : found ≤ i
  pub same : length set ≡ length set₀
  pub is : elements set ≡ set_of (take i (composed_in literals vars))
  pub counted : found ≡ length (elements set)

module _ (literals vars set₀ : List ℕ) (pre : CanAdd literals vars set₀) where
  pub adding-none : Adding literals vars set₀ set₀ 0 0
  adding-none =
      let none : elements set₀ ≡ [] = rw pre.empty (elements-zeros (length set₀)) in
      record { passed = omega arith; few = omega arith; same = refl; is = none; counted = sym (ap length none) }

  module _ (set : List ℕ) (found i : ℕ) (s : Adding literals vars set₀ set found i) where
    pub adding-done : length literals ≤ i → Added literals vars set found
    adding-done h =
        let all : take i (composed_in literals vars) ≡ composed_in literals vars =
        take_all i (composed_in literals vars) (omega (arith, length-map literals (translate vars))) in
        record { is = s.is ∙ ap set_of all; returns = s.counted ∙ ap length (s.is ∙ ap set_of all) }

    module _ (more : i < length literals) where
      pub turn_translatable : Translatable vars (get_or literals i 0)
      turn_translatable = (pre.each i more).literal

      -- the composed literal
      abbrev l : ℕ
      l = translate vars (get_or literals i 0)

      inside : l < 64 * length set
      inside = omega (arith, s.same, (pre.each i more).below)

      next : take (i + 1) (composed_in literals vars) ≡ take i (composed_in literals vars) ++ l ∷ []
      next =
          take_next (composed_in literals vars) i 0 (omega (arith, length-map literals (translate vars)))
          ∙ ap (λ (x : ℕ). take i (composed_in literals vars) ++ x ∷ []) (map_at (translate vars) literals i 0 0 more)

      counts : (b : Bool) → holds set l ≡ b → found + bit (not b) ≡ length (elements (with_bit set l))
      counts true e = add-zero found ∙ s.counted ∙ sym (ap length (elements_old set l inside e))
      counts false e = omega (arith, s.counted, elements_new set l inside e)

      few-more : (b : Bool) → found + bit (not b) ≤ i + 1
      few-more true = omega (arith, s.few)
      few-more false = omega (arith, s.few)

      pub turn_more : (x : ℕ) → x ≡ l → (new : Bool) → new ≡ not (holds set x) → (set' : List ℕ) → set' ≡ with_bit set x → (n : ℕ) → n ≡ bit new
          → Adding literals vars set₀ set' (found + n) (i + 1)
      turn_more x e new f set' g n h =
          let number : found + n ≡ found + bit (not (holds set l)) = ap (λ (k : ℕ). found + k) (h ∙ ap bit (f ∙ ap (λ (k : ℕ). not (holds set k)) e)) in
          let is : set' ≡ with_bit set l = g ∙ ap (with_bit set) e in
          record {
            passed = omega arith;
            few = omega (arith, number, few-more (holds set l));
            same = ap length is ∙ (with_length set l ∙ s.same);
            is = ap elements is ∙ elements-more set l inside (take i (composed_in literals vars)) s.is ∙ ap set_of (sym next);
            counted = number ∙ counts (holds set l) refl ∙ sym (ap (λ (w : List ℕ). length (elements w)) is);
          }
