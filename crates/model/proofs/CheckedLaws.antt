-- Laws of `well_defined` and `checked`, as the code goes through their tests.
use Prim.Native.Nat.{ℕ, ◌*◌, ◌/◌, ◌<◌, ◌≤◌}
use Rattle.std.specs.Prelude.{Ok, Err}
use mathlib.Core.Bool.{Bool, true, false, ◌&&◌, and-true}
use mathlib.Core.List.{List, [], ◌++◌, map}
use mathlib.Core.Path.{◌≡◌, refl, sym, ◌∙◌}
use native.Mathlib.Omega.{arith}
use lib.Dec.{leb, ltb}
use lib.ListN.{length, take}
use mathlib.Core.Logic.{⊎_elim}
use borrow.Author.Tests.{le-ltb, lt-ltb, lt-leb, le-leb, leb-true}
use Rattle.lists.specs.Answer.{got, unless}
use Rattle.lists.specs.Parts.{zeros}
use Rattle.lists.specs.Tests.{all, every}
use Rattle.lists.specs.Words.{triples_of}
use Rattle.std.proofs.lemmas.Bool.{and_parts}
use Rattle.lists.proofs.BoolLaws.{below_or, to_false}
use Rattle.lists.proofs.MapLaws.{map-take}
use Rattle.lists.proofs.ZeroLaws.{zeros-length, zeros_own}
use Rattle.aiger.specs.declared.Gate.{Gate}
use Rattle.aiger.specs.declared.Refusal.TheVariants.{Room, Definition}
use Rattle.aiger.specs.Gates.{gate_from}
use Rattle.aiger.specs.Defined.{literal, defined}
use Rattle.model.specs.declared.AigerTransition.{AigerTransition}
use Rattle.model.specs.Circuit.{Circuit, circuit_of, current_of, next_of, leaves_of, nexts_of}
use Rattle.model.specs.Limits.{counted, well_defined}
use Rattle.model.specs.Checked.{checked, judged, counts_of}
use Rattle.model.specs.Inner.Marking.{leaves_of_record, literals_of_record, AddsLeaves, AddsGates, Checkable, Marking, limited}
use Rattle.model.proofs.MarkingLaws.{marking-none, adds-both, adds_lost, gates_lost}

-- ---- the definitions of a record

module _ (c : Circuit) where
  abbrev d : Bool
  d = defined c.variables (leaves_of c) c.gates

  abbrev l : Bool
  l = all (literal c.variables) (nexts_of c) && all (literal c.variables) c.outputs

  -- the definitions and the literals
  pub well_both : well_defined c ≡ (d && l)
  unfolding well_defined every
  well_both = rw (and-true (all (literal c.variables) c.outputs)) refl

  pub defined_fails : d ≡ false → well_defined c ≡ false
  defined_fails e = well_both ∙ rw e refl

  pub literals-left : d ≡ true → well_defined c ≡ l
  literals-left e = well_both ∙ rw e refl

module _ (m : AigerTransition) where
  -- inputs, then latches
  module _ (w is : List ℕ) (p : is ≡ take m.input_count m.inputs) (w₁ : List ℕ) (r₁ : Bool) (a : AddsLeaves m.max_variable w is w₁ r₁) where
    leaf_lists : (at ls : List ℕ) → at ≡ map current_of m.latches → ls ≡ take m.latch_count at → is ++ ls ≡ leaves_of_record m
    leaf_lists at ls e q = rw (p, q, e, ← map-take current_of m.latch_count m.latches) refl

    pub leaves-both : r₁ ≡ true → (at ls : List ℕ) → at ≡ map current_of m.latches → ls ≡ take m.latch_count at → (w₂ : List ℕ) (r : Bool) → AddsLeaves m.max_variable w₁ ls w₂ r
        → AddsLeaves m.max_variable w (leaves_of_record m) w₂ r
    leaves-both t at ls e q w₂ r b = rw (leaf_lists at ls e q) at (adds-both m.max_variable w is ls w₁ r₁ a t w₂ r b)

    pub leaves_lost : r₁ ≡ false → AddsLeaves m.max_variable w (leaves_of_record m) w₁ r₁
    leaves_lost t =
        let ls : List ℕ = take m.latch_count (map current_of m.latches) in
        rw t (rw (leaf_lists (map current_of m.latches) ls refl refl) at (adds_lost m.max_variable w is ls w₁ r₁ a t))

  -- next literals, then outputs
  module _ (to ns : List ℕ) (e : to ≡ map next_of m.latches) (p : ns ≡ take m.latch_count to) (r₁ : Bool) (q : r₁ ≡ all (literal m.max_variable) ns) where
    nexts-are : all (literal m.max_variable) (map next_of (take m.latch_count m.latches)) ≡ r₁
    nexts-are = rw (map-take next_of m.latch_count m.latches, ← e, ← p) (sym q)

    pub literals-both : r₁ ≡ true → (os : List ℕ) → os ≡ take m.output_count m.outputs → (r : Bool) → r ≡ all (literal m.max_variable) os → r ≡ literals_of_record m
    literals-both t os o r x = rw (nexts-are, t, x, o) refl

    pub literals_lost : r₁ ≡ false → r₁ ≡ literals_of_record m
    literals_lost t = rw (nexts-are, t) refl

-- leaves, then gates
module _ (most count : ℕ) (g w : List ℕ) (k : Checkable most count g w) (ls w₁ : List ℕ) (r₁ : Bool) (a : AddsLeaves most w ls w₁ r₁) where
  leaves_marked : Marking most w₁ ls [] r₁
  leaves_marked = a [] (rw k.clear (marking-none most (length w) k.room))

  pub definitions-say : r₁ ≡ true → (gs : List Gate) (w₂ : List ℕ) (r : Bool) → AddsGates most w₁ true gs w₂ r → r ≡ defined most ls gs
  definitions-say t gs w₂ r b = (b ls (rw t at leaves_marked)).says

  pub definitions_lost : r₁ ≡ false → (gs : List Gate) → r₁ ≡ defined most ls gs
  definitions_lost t gs = rw t (gates_lost most w₁ ls [] gs (rw t at leaves_marked)).says

-- ---- the limits

module _ (m : AigerTransition) (k : ℕ) where
  pub record Limited : Type 0 where
    pub counts : counted (counts_of m) ≡ true
    pub inputs : m.input_count ≤ length m.inputs
    pub outputs : m.output_count ≤ length m.outputs
    pub gates : m.and_count ≤ k

  -- the literals are what is left to test
  pub limited-left : Limited → literals_of_record m ≡ limited m k
  unfolding limited
  limited-left h =
      rw (h.counts, le-leb m.input_count (length m.inputs) h.inputs, le-leb m.output_count (length m.outputs) h.outputs, le-leb m.and_count k h.gates) refl

  pub limited_facts : limited m k ≡ true → Limited
  unfolding limited
  limited_facts e =
      let a = and_parts (counted (counts_of m)) _ e in
      let b = and_parts (leb m.input_count (length m.inputs)) _ a.1 in
      let c = and_parts (leb m.output_count (length m.outputs)) _ b.1 in
      let d = and_parts (leb m.and_count k) (literals_of_record m) c.1 in
      record {
        counts = a.0;
        inputs = leb-true m.input_count (length m.inputs) b.0;
        outputs = leb-true m.output_count (length m.outputs) c.0;
        gates = leb-true m.and_count k d.0;
      }

  pub limited_fails : (Limited → ⊥) → false ≡ limited m k
  limited_fails n = sym (to_false (limited m k) (λ e. n (limited_facts e)))

-- ---- the answer

three_times : (a n k : ℕ) → n / 3 ≡ k → leb a k ≡ leb (3 * a) n
three_times a n k e = ⊎_elim (λ h. lt-leb a k h ∙ sym (lt-leb (3 * a) n (omega arith))) (λ h. le-leb a k h ∙ sym (le-leb (3 * a) n (omega arith))) (below_or k a)

module _ (m : AigerTransition) (g : List ℕ) (k w : ℕ) (n : k ≡ length g / 3) where
  abbrev once : Bool
  once = defined m.max_variable (leaves_of_record m) (take m.and_count (triples_of gate_from g))

  -- the work words, the limits, then the definitions
  pub checked_by : checked m g w ≡ unless 7 (ltb m.max_variable w) (unless 11 (limited m k && once) (got (circuit_of m g)))
  unfolding checked limited
  checked_by =
      rw (well_both (circuit_of m g), ← three_times m.and_count (length g) k (sym n))
      (go (ltb m.max_variable w) (counted (counts_of m)) (leb m.input_count (length m.inputs)) (leb m.output_count (length m.outputs)) (leb m.and_count k) (literals_of_record m) once)
    where
      go : (a b c d e l o : Bool)
          → unless 7 a (unless 11 b (unless 11 c (unless 11 d (unless 11 e (unless 11 (o && l) (got (circuit_of m g)))))))
          ≡ unless 7 a (unless 11 ((b && (c && (d && (e && l)))) && o) (got (circuit_of m g)))
      go true true true true true true true = refl
      go true true true true true true false = refl
      go true true true true true false true = refl
      go true true true true true false false = refl
      go true true true true false l o = refl
      go true true true false e l o = refl
      go true true false d e l o = refl
      go true false c d e l o = refl
      go false b c d e l o = refl

  -- the code's tests, in their order
  pub check_room : w ≤ m.max_variable → judged (Err Room) (circuit_of m g) ≡ checked m g w
  check_room h = sym (checked_by ∙ rw (le-ltb m.max_variable w h) refl)

  module _ (h : m.max_variable < w) (x : Bool) (p : x ≡ limited m k) where
    pub check_limits : x ≡ false → judged (Err Definition) (circuit_of m g) ≡ checked m g w
    check_limits u = sym (checked_by ∙ rw (lt-ltb m.max_variable w h, ← p, u) refl)

    module _ (t : x ≡ true) (y : Bool) (q : y ≡ once) where
      pub check_fails : y ≡ false → judged (Err Definition) (circuit_of m g) ≡ checked m g w
      check_fails u = sym (checked_by ∙ rw (lt-ltb m.max_variable w h, ← p, t, ← q, u) refl)

      pub check_holds : y ≡ true → judged (Ok tt) (circuit_of m g) ≡ checked m g w
      check_holds u = sym (checked_by ∙ rw (lt-ltb m.max_variable w h, ← p, t, ← q, u) refl)

-- what the check of the definitions may take for granted
pub checkable : (m : AigerTransition) (g w : List ℕ) (k n : ℕ) → k ≡ length g / 3 → w ≡ zeros n → m.max_variable < n → limited m k ≡ true → Checkable m.max_variable m.and_count g w
checkable m g w k n q z h e =
    record {
      words = omega (arith, (limited_facts m k e).gates);
      room = rw (z, zeros-length n) h;
      clear = zeros_own w n z;
    }
