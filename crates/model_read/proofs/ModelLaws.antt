-- A model whose gates are checked from their lines.
use Rattle.std.specs.Prelude.{Option, Some, None}
use Prim.Native.Nat.{ℕ, ◌<◌}
use mathlib.Core.Bool.{Bool, true, false, not}
use mathlib.Core.List.{List, []}
use mathlib.Core.Path.{◌≡◌, refl, sym, ◌∙◌, ap, subst}
use lib.ListN.{length}
use borrow.Author.Tests.{not-true, not-false}
use Rattle.lists.specs.Answer.{Answer, got, refused}
use Rattle.lists.specs.Parts.{Bytes, zeros}
use Rattle.aiger.specs.Defined.{defined}
use Rattle.model.specs.declared.AigerTransition.{AigerTransition}
use Rattle.model.specs.declared.lent.LentModel.{LentModel}
use Rattle.model.specs.Inner.Lent.{lent_record}
use Rattle.model.specs.Circuit.{Circuit, circuit_of, leaves_of}
use Rattle.model.specs.Limits.{well_defined}
use Rattle.model.specs.Inner.Marking.{Marking, AddsLeaves, leaves_of_record, literals_of_record}
use Rattle.model.proofs.MarkingLaws.{marking-none}
use Rattle.model.proofs.CheckedLaws.{defined_fails, literals-left}
use Rattle.text.specs.Lines.{lines_of}
use Rattle.model_read.specs.Inner.Passes.{verdict_of, Found, ChecksGates, with_gates, gates_of}

module _ (s : Bytes) (m : AigerTransition) (l : LentModel) (same : lent_record l ≡ m) (w : List ℕ) (h : m.max_variable < length w) (z : w ≡ zeros (length w)) (w₁ : List ℕ) (fine : Bool)
    (a : AddsLeaves (lent_record l).max_variable w (leaves_of_record (lent_record l)) w₁ fine) (t : Option Bool) (q : ChecksGates s m.and_count m.max_variable fine w₁ t) where
  abbrev answer : Answer (Unit {0})
  answer = verdict_of (gates_of (circuit_of m []) m.and_count (lines_of s))

  pub lines_bad : t ≡ None → refused 8 ≡ answer
  lines_bad e = let f : ChecksGates s m.and_count m.max_variable fine w₁ None = rw e at q in rw f refl

  module _ (good : Bool) (e : t ≡ Some good) where
    found : Found s m.and_count m.max_variable fine w₁ good
    found = rw e at q

    abbrev c : Circuit
    c = with_gates (circuit_of m []) found.gates

    counted-leaves : AddsLeaves m.max_variable w (leaves_of_record m) w₁ fine
    counted-leaves = subst (λ (x : AigerTransition). AddsLeaves x.max_variable w (leaves_of_record x) w₁ fine) same a

    leaves : Marking m.max_variable w₁ (leaves_of c) [] fine
    leaves = counted-leaves [] (rw z (marking-none m.max_variable (length w) h))

    says : good ≡ defined c.variables (leaves_of c) c.gates
    says = found.says (leaves_of c) leaves

    pub gates_undefined : not good ≡ true → refused 11 ≡ answer
    gates_undefined u = rw (found.takes, defined_fails c (sym says ∙ not-true good u)) refl

    module _ (u : not good ≡ false) (r : Bool) (k : r ≡ literals_of_record (lent_record l)) where
      well : well_defined c ≡ r
      well = literals-left c (sym says ∙ not-false good u) ∙ sym (k ∙ ap literals_of_record same)

      pub literals_good : r ≡ true → got tt ≡ answer
      literals_good v = rw (found.takes, well, v) refl

      pub literals-above : r ≡ false → refused 11 ≡ answer
      literals-above v = rw (found.takes, well, v) refl
