-- Where no gate is listed before one that it reads, the step's values follow the gate equations, so that the step leads where these lead.
use Prim.Native.Nat.{ℕ, ◌+◌, ◌*◌, ◌^◌, ◌≤◌, ◌<◌}
use mathlib.Core.Bool.{true, false, ◌&&◌}
use mathlib.Core.List.{List, ◌++◌, map, map-append}
use mathlib.Core.Path.{◌≡◌, sym, ap, ◌∙◌}
use lib.Dec.{ltb}
use lib.ListN.{length, length-map}
use borrow.Author.Tests.{ltb-true}
use Rattle.lists.specs.Answer.{Answer, got, unless}
use Rattle.lists.specs.Bits.{bits}
use Rattle.lists.specs.Tests.{Each}
use Rattle.lists.specs.Sets.{member, distinct, rising}
use Rattle.lists.proofs.AnswerLaws.{unless_test, unless-got, got_same, and_then-got}
use Rattle.lists.proofs.BitLaws.{bits-length}
use Rattle.lists.proofs.DistinctLaws.{member-left, member_right, distinct-left, distinct-right, distinct_apart, apart_swap}
use Rattle.lists.proofs.MapLaws.{each_maps}
use Rattle.lists.proofs.TestLaws.{each-so, each_with, each_of_map, each-split}
use Rattle.aiger.specs.Gates.{variable, Valuation, value, output_of, Conjunction}
use Rattle.aiger.specs.Defined.{definitions}
use Rattle.aiger.proofs.DefinedLaws.{Defines, Defined, defined_facts, zero_undefined, value_even}
use Rattle.model.specs.declared.AigerTransition.{AigerTransition}
use Rattle.model.specs.Circuit.{Circuit, current_of, currents_of, nexts_of, leaves_of}
use Rattle.model.specs.Checked.{checked}
use Rattle.model.specs.Values.{Settles}
use Rattle.model.proofs.ValueLaws.{Sound, Sized, checked-sound, Literals, well_facts, settles-unique, settles-literals}
use Rattle.model_step.specs.declared.Outcome.{Outcome}
use Rattle.model_step.specs.Step.{start, assigned, computed, step_values, outcome_under, step_of}
use Rattle.model_step.proofs.ComputedLaws.{values-kept, assigned-other, assigned-bits, gate_variables, Listed, rising-listed, computed-other, computed-says}

module _ (c : Circuit) (sound : Sound c) (s x : ℕ) where
  abbrev facts : Defined c.variables (leaves_of c) c.gates
  facts = defined_facts c.variables (leaves_of c) c.gates (well_facts c sound.well).once

  abbrev ins : List ℕ
  ins = map variable c.inputs

  abbrev curs : List ℕ
  curs = map variable (currents_of c)

  variables-are : map variable (definitions (leaves_of c) c.gates) ≡ (ins ++ curs) ++ gate_variables c.gates
  variables-are = map-append variable (leaves_of c) (map output_of c.gates) ∙ rw (map-append variable c.inputs (currents_of c))

  once : distinct ((ins ++ curs) ++ gate_variables c.gates) ≡ true
  once = rw variables-are at facts.once

  zero-free : member 0 ((ins ++ curs) ++ gate_variables c.gates) ≡ false
  zero-free = rw variables-are at (zero_undefined c.variables (definitions (leaves_of c) c.gates) facts.each)

  leaves_once : distinct (ins ++ curs) ≡ true
  leaves_once = distinct-left (ins ++ curs) (gate_variables c.gates) once

  leaves_no_gates : Each (λ n. member n (gate_variables c.gates) ≡ false) ins × Each (λ n. member n (gate_variables c.gates) ≡ false) curs
  leaves_no_gates = each-split (λ n. member n (gate_variables c.gates) ≡ false) ins curs (distinct_apart (ins ++ curs) (gate_variables c.gates) once)

  latches_no_inputs : Each (λ n. member n ins ≡ false) curs
  latches_no_inputs = apart_swap ins curs (distinct_apart ins curs leaves_once)

  leaf_defines : Each (Defines c.variables) c.inputs × Each (Defines c.variables) (currents_of c)
  leaf_defines = each-split (Defines c.variables) c.inputs (currents_of c) (each-split (Defines c.variables) (leaves_of c) (map output_of c.gates) facts.each).0

  gate_defines : Each (λ g. Defines c.variables g.output) c.gates
  gate_defines =
      each_of_map output_of (Defines c.variables) c.gates (each-split (Defines c.variables) (leaves_of c) (map output_of c.gates) facts.each).1

  -- the values after the latches, after the inputs and after the gates
  abbrev latched : Valuation
  latched = assigned start (currents_of c) (bits (length c.latches) s)

  abbrev loaded : Valuation
  loaded = assigned latched c.inputs (bits (length c.inputs) x)

  abbrev final : Valuation
  final = computed loaded c.gates

  inputs_have : map (value final) c.inputs ≡ bits (length c.inputs) x
  inputs_have =
      values-kept final loaded c.inputs
      (each-so (λ n. member n (gate_variables c.gates) ≡ false) (λ n. final n ≡ loaded n) (computed-other loaded c.gates) ins leaves_no_gates.0)
      ∙ assigned-bits c.variables latched c.inputs (bits (length c.inputs) x) (bits-length (length c.inputs) x)
      (distinct-left ins curs leaves_once) leaf_defines.0

  latches_have : map (value final) (currents_of c) ≡ bits (length c.latches) s
  latches_have =
      values-kept final loaded (currents_of c)
      (each-so (λ n. member n (gate_variables c.gates) ≡ false) (λ n. final n ≡ loaded n) (computed-other loaded c.gates) curs leaves_no_gates.1)
      ∙ values-kept loaded latched (currents_of c)
      (each-so (λ n. member n ins ≡ false) (λ n. loaded n ≡ latched n) (assigned-other latched c.inputs (bits (length c.inputs) x)) curs latches_no_inputs)
      ∙ assigned-bits c.variables start (currents_of c) (bits (length c.latches) s)
      (bits-length (length c.latches) s ∙ sym (length-map c.latches current_of))
      (distinct-right ins curs leaves_once) leaf_defines.1

  constant-has : final 0 ≡ false
  constant-has =
      let leaves : member 0 (ins ++ curs) ≡ false = member-left 0 (ins ++ curs) (gate_variables c.gates) zero-free in
      computed-other loaded c.gates 0 (member_right 0 (ins ++ curs) (gate_variables c.gates) zero-free)
      ∙ assigned-other latched c.inputs (bits (length c.inputs) x) 0 (member-left 0 ins curs leaves)
      ∙ assigned-other start (currents_of c) (bits (length c.latches) s) 0 (member_right 0 ins curs leaves)

  gates_have : Listed c.gates → Each (Conjunction final) c.gates
  gates_have l =
      each_with (λ g. Defines c.variables g.output) (λ g. final (variable g.output) ≡ (value final g.left && value final g.right)) (Conjunction final)
      (λ g d e. value_even final g.output d.even ∙ e) c.gates gate_defines
      (computed-says loaded c.gates (distinct-right (ins ++ curs) (gate_variables c.gates) once) facts.order l)

  -- the step follows the gate equations, where no gate is listed before one that it reads
  pub listed-settles : Listed c.gates → Settles c s x (step_values c s x)
  unfolding step_values
  listed-settles l =
      record { latches = latches_have; inputs = inputs_have; follows = record { constant = constant-has; conjunctions = gates_have l } }

  -- so where outputs rise
  pub step-settles : rising (map output_of c.gates) ≡ true → Settles c s x (step_values c s x)
  step-settles r = listed-settles (rising-listed c.gates r facts.order)

  pub literals-agree : (u v : Valuation) → Settles c s x u → Settles c s x v → (ls : List ℕ) → Literals c.variables ls → map (value u) ls ≡ map (value v) ls
  literals-agree u v f g ls e =
      each_maps (value u) (value v) ls (each-so (λ l. l ≤ 2 * c.variables + 1) (λ l. value u l ≡ value v l) (settles-literals c sound s x u v f g) ls e)

  -- the gate equations lead to one outcome
  pub outcome-unique : (u v : Valuation) → Settles c s x u → Settles c s x v → outcome_under c u ≡ outcome_under c v
  unfolding outcome_under
  outcome-unique u v f g =
      rw (literals-agree u v f g (nexts_of c) (well_facts c sound.well).nexts, literals-agree u v f g c.outputs (well_facts c sound.well).outputs)

  module _ (r : rising (map output_of c.gates) ≡ true) (v : Valuation) (f : Settles c s x v) where
    pub step-agrees : (n : ℕ) → n ≤ c.variables → step_values c s x n ≡ v n
    step-agrees = settles-unique c sound s x (step_values c s x) v (step-settles r) f

    pub step-outcome : outcome_under c v ≡ outcome_under c (step_values c s x)
    step-outcome = outcome-unique v (step_values c s x) f (step-settles r)

-- ---- what an accepted step says

pub record Steps (m : AigerTransition) (g : List ℕ) (w s x : ℕ) (o : Outcome) : Type 0 where
  pub circuit : Circuit
  pub valid : checked m g w ≡ got circuit
  pub state : s < 2 ^ length circuit.latches
  pub word : x < 2 ^ length circuit.inputs
  pub outcome : o ≡ outcome_under circuit (step_values circuit s x)

pub step-got : (m : AigerTransition) (g : List ℕ) (w s x : ℕ) (o : Outcome) → step_of m g w s x ≡ got o → Steps m g w s x o
unfolding step_of
step-got m g w s x o e =
    let rest : Circuit → Answer Outcome =
    λ c. unless 12 (ltb s (2 ^ length c.latches)) (unless 12 (ltb x (2 ^ length c.inputs)) (got (outcome_under c (step_values c s x)))) in
    let found = and_then-got (checked m g w) rest o e in
    let c = found.0 in
    let last : Answer Outcome = got (outcome_under c (step_values c s x)) in
    let inner : Answer Outcome = unless 12 (ltb x (2 ^ length c.inputs)) last in
    let e₁ : inner ≡ got o = unless-got 12 inner o (ltb s (2 ^ length c.latches)) found.2 in
    record {
      circuit = c;
      valid = found.1;
      state = ltb-true s (2 ^ length c.latches) (unless_test 12 inner o (ltb s (2 ^ length c.latches)) found.2);
      word = ltb-true x (2 ^ length c.inputs) (unless_test 12 last o (ltb x (2 ^ length c.inputs)) e₁);
      outcome = sym (got_same (outcome_under c (step_values c s x)) o (unless-got 12 last o (ltb x (2 ^ length c.inputs)) e₁));
    }

-- An accepted step leads where the gate equations lead, where the model's gates are listed with rising outputs.
pub step_follows : (m : AigerTransition) (g : List ℕ) (w s x : ℕ) (o : Outcome) → Sized m → step_of m g w s x ≡ got o
    → (c : Circuit) → checked m g w ≡ got c → rising (map output_of c.gates) ≡ true → (v : Valuation) → Settles c s x v → o ≡ outcome_under c v
step_follows m g w s x o sized e c k r v f =
    let t = step-got m g w s x o e in
    let same : t.circuit ≡ c = got_same t.circuit c (sym t.valid ∙ k) in
    t.outcome ∙ ap (λ (d : Circuit). outcome_under d (step_values d s x)) same ∙ sym (step-outcome c (checked-sound m g w c sized k) s x r v f)
