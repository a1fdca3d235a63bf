-- The two passes over the gates' lines: checking them, and writing their words.
use Prim.Native.Nat.{ℕ, ◌+◌, ◌*◌, ◌≤◌, ◌<◌}
use mathlib.Core.Bool.{Bool, true, false}
use mathlib.Core.List.{List, [], ◌∷◌, ◌++◌, append_assoc}
use mathlib.Core.Path.{◌≡◌, refl, sym, ap, ◌∙◌}
use native.Mathlib.Omega.{arith}
use lib.ListN.{length, set, length-append}
use Rattle.lists.specs.Answer.{refused}
use Rattle.lists.specs.Parts.{Bytes, front}
use Rattle.lists.specs.Words.{words_of}
use Rattle.lists.proofs.PartLaws.{Grown, grown-none, grown-set}
use Rattle.lists.proofs.WordLaws.{words_append}
use Rattle.text.specs.declared.Reader.TheVariants.{Transition}
use Rattle.text.specs.Lines.{lines_of}
use Rattle.aiger.specs.declared.Gate.{Gate}
use Rattle.aiger.specs.Gates.{gate_words}
use Rattle.aiger.specs.Sections.{section}
use Rattle.aiger.proofs.SectionLaws.{Taking, taking-none, taking-more, taking_bad, taking-done, same-items, no_section}
use Rattle.model.specs.Inner.Marking.{AddsGate, AddsGates}
use Rattle.model.proofs.MarkingLaws.{marking_gate_lost}
use Rattle.circuit_lines.specs.SectionLines.{gate_line}
use Rattle.circuit_lines.specs.Inner.Takes.{SectionTaken}
use Rattle.model_read.specs.Inner.Passes.{AddsNext, Found, Writes}

-- ---- one more gate

module _ (most : ℕ) (w : List ℕ) (fine : Bool) (g : Gate) where
  pub next-after : fine ≡ true → (w' : List ℕ) (r : Bool) → AddsGate most w g w' r → AddsNext most w fine g w' r
  next-after t w' r k leaves gates m = k leaves gates (rw t at m)

  pub next_lost : fine ≡ false → AddsNext most w fine g w false
  next_lost t leaves gates m = marking_gate_lost most w leaves gates (rw t at m) g

-- ---- the check

-- i gates are taken and checked; the text r is left, and `good` says whether what was defined so far holds
pub record Checking (s : Bytes) (n most : ℕ) (fine : Bool) (w₀ w : List ℕ) (r : Bytes) (good : Bool) (i : ℕ) : Type 0 where
  pub gates : List Gate
  pub count : i ≡ length gates
  pub taking : Taking (gate_line Transition) n (lines_of s) gates (lines_of r)
  pub marking : AddsGates most w₀ fine gates w good

module _ (s : Bytes) (n most : ℕ) (fine : Bool) (w₀ : List ℕ) where
  pub checking-none : Checking s n most fine w₀ w₀ s fine 0
  checking-none = record { gates = []; count = refl; taking = taking-none (gate_line Transition) n (lines_of s); marking = λ leaves m. m }

  module _ (w : List ℕ) (r : Bytes) (good : Bool) (i : ℕ) (k : Checking s n most fine w₀ w r good i) where
    module _ (h : i < n) where
      pub checking_bad : section (gate_line Transition) 1 (lines_of r) ≡ refused 8 → section (gate_line Transition) n (lines_of s) ≡ refused 8
      checking_bad q = taking_bad (gate_line Transition) n (lines_of s) k.gates (lines_of r) k.taking (omega (arith, k.count)) q

      pub checking-more : (g : Gate) (t : Bytes) → SectionTaken (gate_line Transition) r 1 (g ∷ []) t → (w' : List ℕ) (b : Bool) → AddsNext most w good g w' b
          → Checking s n most fine w₀ w' t b (i + 1)
      checking-more g t q w' b a =
          record {
            gates = k.gates ++ g ∷ [];
            count = rw (length-append k.gates (g ∷ [])) (omega (arith, k.count));
            taking = taking-more (gate_line Transition) n (lines_of s) k.gates (lines_of r) k.taking (omega (arith, k.count)) g (lines_of t) q.section;
            marking = λ leaves m. a leaves k.gates (k.marking leaves m);
          }

    pub checking-done : n ≤ i → Found s n most fine w₀ good
    checking-done h =
        record {
          gates = k.gates;
          rest = lines_of r;
          takes = taking-done (gate_line Transition) n (lines_of s) k.gates (lines_of r) k.taking (omega (arith, k.count));
          says = λ leaves m. (k.marking leaves m).says;
        }

-- ---- the writing

-- i gates are taken, the text r is left, and their words stand in front of the buffer
pub record Writing (s : Bytes) (n : ℕ) (o₀ o : List ℕ) (r : Bytes) (i : ℕ) : Type 0 where
  pub gates : List Gate
  pub count : i ≡ length gates
  pub taking : Taking (gate_line Transition) n (lines_of s) gates (lines_of r)
  pub grown : Grown o₀ (words_of gate_words gates) o (3 * i)

module _ (s : Bytes) (n : ℕ) (o₀ : List ℕ) where
  pub writing-none : Writing s n o₀ o₀ s 0
  writing-none = record { gates = []; count = refl; taking = taking-none (gate_line Transition) n (lines_of s); grown = grown-none o₀ }

  module _ (o : List ℕ) (r : Bytes) (i : ℕ) (k : Writing s n o₀ o r i) where
    three : (g : Gate) → 3 * i + 2 < length o
        → Grown o₀ (words_of gate_words (k.gates ++ g ∷ [])) (set (set (set o (3 * i) g.output) (3 * i + 1) g.left) (3 * i + 2) g.right) (3 * (i + 1))
    three g h =
        let ws : List ℕ = words_of gate_words k.gates in
        let o₁ : List ℕ = set o (3 * i) g.output in
        let a : Grown o₀ (ws ++ g.output ∷ []) o₁ (3 * i + 1) = grown-set o₀ ws o (3 * i) k.grown g.output (omega arith) in
        let o₂ : List ℕ = set o₁ (3 * i + 1) g.left in
        let b : Grown o₀ ((ws ++ g.output ∷ []) ++ g.left ∷ []) o₂ (3 * i + 1 + 1) =
        grown-set o₀ (ws ++ g.output ∷ []) o₁ (3 * i + 1) a g.left (omega (arith, a.same, k.grown.same)) in
        let n₂ : 3 * i + 1 + 1 ≡ 3 * i + 2 = omega arith in
        let b' : Grown o₀ ((ws ++ g.output ∷ []) ++ g.left ∷ []) o₂ (3 * i + 2) = rw n₂ at b in
        let d = grown-set o₀ ((ws ++ g.output ∷ []) ++ g.left ∷ []) o₂ (3 * i + 2) b' g.right (omega (arith, b'.same, k.grown.same)) in
        let n₃ : 3 * i + 2 + 1 ≡ 3 * (i + 1) = omega arith in
        let e : ((ws ++ g.output ∷ []) ++ g.left ∷ []) ++ g.right ∷ [] ≡ words_of gate_words (k.gates ++ g ∷ []) =
        rw (words_append gate_words k.gates (g ∷ []), append_assoc (ws ++ g.output ∷ []) (g.left ∷ []) (g.right ∷ []), append_assoc ws (g.output ∷ []) (g.left ∷ g.right ∷ [])) refl in
        rw (n₃, e) at d

    module _ (h : i < n) where
      pub writing_more : (g : Gate) (t : Bytes) → SectionTaken (gate_line Transition) r 1 (g ∷ []) t → length o ≡ length o₀ → 3 * n ≤ length o₀
          → Writing s n o₀ (set (set (set o (3 * i) g.output) (3 * i + 1) g.left) (3 * i + 2) g.right) t (i + 1)
      writing_more g t q z b =
          record {
            gates = k.gates ++ g ∷ [];
            count = rw (length-append k.gates (g ∷ [])) (omega (arith, k.count));
            taking = taking-more (gate_line Transition) n (lines_of s) k.gates (lines_of r) k.taking (omega (arith, k.count)) g (lines_of t) q.section;
            grown = three g (omega arith);
          }

      pub writing_bad : section (gate_line Transition) 1 (lines_of r) ≡ refused 8 → Writes s n o₀ o
      writing_bad q gates rest f =
          no_section gates rest 8 (sym f ∙ taking_bad (gate_line Transition) n (lines_of s) k.gates (lines_of r) k.taking (omega (arith, k.count)) q)

    pub writing-done : n ≤ i → Writes s n o₀ o
    writing-done h gates rest f =
        let e = taking-done (gate_line Transition) n (lines_of s) k.gates (lines_of r) k.taking (omega (arith, k.count)) in
        k.grown.is ∙ ap (λ (x : List Gate). front o₀ (words_of gate_words x)) (same-items k.gates gates (lines_of r) rest (sym e ∙ f))
