-- The literals of an obligation's lists are at most 2M + 1, so that its clauses have CNF variables below M alone.
use Prim.Native.Nat.{ℕ, ◌+◌, ◌*◌, ◌/◌, ◌<◌, ◌≤◌}
use mathlib.Core.Bool.{Bool, true, false, not}
use mathlib.Core.List.{List, [], ◌∷◌, ◌++◌, map}
use native.Mathlib.Omega.{arith}
use lib.ListN.{length, get_or}
use Rattle.lists.specs.Bits.{odd, bits}
use Rattle.lists.specs.Tests.{Each}
use Rattle.lists.specs.Words.{words_of}
use Rattle.lists.proofs.TestLaws.{each_append, each-split, each_at, each-so, each_map, each_of_map, each-any}
use Rattle.aiger.specs.declared.Gate.{Gate}
use Rattle.aiger.specs.Gates.{output_of}
use Rattle.aiger.proofs.DefinedLaws.{Defines, Orders, Defined, defined_facts}
use Rattle.model.specs.Circuit.{Circuit, currents_of, nexts_of, leaves_of}
use Rattle.model.proofs.ValueLaws.{Literals, Sound, well_facts}
use Rattle.model_step.specs.declared.Outcome.{Outcome}
use Rattle.cnf.specs.Clauses.{Clause}
use Rattle.cnf.specs.Simplified.{opposite}
use Rattle.cnf.proofs.SignLaws.{opposite-is}
use Rattle.obligation_spec.specs.Lists.{valued, predicate_literal, source_lists, gate_lists, differing, target_list, observed_of, output_bits, outcome_list, state_list, body_lists, row_lists}
use Rattle.obligation_spec.proofs.BodyLaws.{Boundary}

-- all literals of the lists are at most 2M + 1
abbrev pub LowLists : ℕ → List (List ℕ) → Type 0
LowLists most lists = Each (λ ls. Each (λ l. l ≤ 2 * most + 1) ls) lists

module _ (most : ℕ) where
  pub opposite-low : (l : ℕ) → l ≤ 2 * most + 1 → opposite l ≤ 2 * most + 1
  opposite-low l h = omega (arith, opposite-is l)

  valued-low : (l : ℕ) (b : Bool) → l ≤ 2 * most + 1 → valued l b ≤ 2 * most + 1
  valued-low l true h = h
  valued-low l false h = opposite-low l h

  source-low : (ls : List ℕ) (bs : List Bool) → Literals most ls → LowLists most (source_lists ls bs)
  source-low [] bs e = tt
  source-low (l ∷ ls) [] e = tt
  source-low (l ∷ ls) (b ∷ bs) e = ((valued-low l b e.0, tt), source-low ls bs e.1)

  pub differing-low : (ls : List ℕ) (bs : List Bool) → Literals most ls → Literals most (differing ls bs)
  differing-low [] bs e = tt
  differing-low (l ∷ ls) [] e = tt
  differing-low (l ∷ ls) (b ∷ bs) e = (valued-low l (not b) e.0, differing-low ls bs e.1)

  gates-low : (gs : List Gate) → Each (λ g. Defines most g.output) gs → Each Orders gs → LowLists most (words_of gate_lists gs)
  gates-low [] d o = tt
  gates-low (g ∷ gs) d o =
      let out : g.output ≤ 2 * most + 1 = d.0.low in
      let left : g.left ≤ 2 * most + 1 = omega (arith, o.0.left, out) in
      let right : g.right ≤ 2 * most + 1 = omega (arith, o.0.right, out) in (
        (opposite-low g.output out, (left, tt)),
        (
          (opposite-low g.output out, (right, tt)),
          (
            (out, (opposite-low g.left left, (opposite-low g.right right, tt))),
            gates-low gs d.1 o.1,
          ),
        ),
      )

  -- one list for each claim
  pub claims-low : {A : Type 0} (f : A → List ℕ) → ((x : A) → Literals most (f x)) → (l : List A) → LowLists most (map f l)
  claims-low f h l = each_map f (Literals most) l (each-any (λ x. Literals most (f x)) h l)

-- the literals of a sound circuit
module _ (c : Circuit) (sound : Sound c) where
  abbrev facts : Defined c.variables (leaves_of c) c.gates
  facts = defined_facts c.variables (leaves_of c) c.gates (well_facts c sound.well).once

  definitions-split : Each (Defines c.variables) (leaves_of c) × Each (Defines c.variables) (map output_of c.gates)
  definitions-split = each-split (Defines c.variables) (leaves_of c) (map output_of c.gates) facts.each

  leaves-split : Each (Defines c.variables) c.inputs × Each (Defines c.variables) (currents_of c)
  leaves-split = each-split (Defines c.variables) c.inputs (currents_of c) definitions-split.0

  low-definitions : (ls : List ℕ) → Each (Defines c.variables) ls → Literals c.variables ls
  low-definitions ls e = each-so (Defines c.variables) (λ l. l ≤ 2 * c.variables + 1) (λ l d. d.low) ls e

  inputs-low : Literals c.variables c.inputs
  inputs-low = low-definitions c.inputs leaves-split.0

  currents-low : Literals c.variables (currents_of c)
  currents-low = low-definitions (currents_of c) leaves-split.1

  pub target-low : (t : ℕ) → Literals c.variables (target_list c t)
  target-low t = differing-low c.variables (nexts_of c) (bits (length c.latches) t) (well_facts c sound.well).nexts

  pub state-low : (s : ℕ) → Literals c.variables (state_list c s)
  state-low s = differing-low c.variables (currents_of c) (bits (length c.latches) s) currents-low

  pub output-low : (i : ℕ) → i < length c.outputs → get_or c.outputs i 0 ≤ 2 * c.variables + 1
  output-low i h = each_at (λ l. l ≤ 2 * c.variables + 1) c.outputs i 0 (well_facts c sound.well).outputs h

  pub outcome-low : (observed : List ℕ) → Each (λ i. i < length c.outputs) observed → (o : Outcome) → Literals c.variables (outcome_list c observed o)
  outcome-low observed e o =
      each_append (λ l. l ≤ 2 * c.variables + 1) (target_list c o.target) (differing (observed_of c observed) (output_bits o)) (target-low o.target)
      (differing-low c.variables (observed_of c observed) (output_bits o)
      (each_map (λ i. get_or c.outputs i 0) (λ l. l ≤ 2 * c.variables + 1) observed
      (each-so (λ i. i < length c.outputs) (λ i. get_or c.outputs i 0 ≤ 2 * c.variables + 1) output-low observed e)))

  module _ (relevant : List ℕ) (predicate : List Clause) (b : Boundary c relevant predicate) where
    literal-low : (w : ℕ) → w / 2 < length relevant → predicate_literal c.inputs relevant w ≤ 2 * c.variables + 1
    literal-low w h =
        let i : ℕ = get_or relevant (w / 2) 0 in
        valued-low c.variables (get_or c.inputs i 0) (odd w)
        (each_at (λ l. l ≤ 2 * c.variables + 1) c.inputs i 0 inputs-low (each_at (λ i. i < length c.inputs) relevant (w / 2) 0 b.inputs h))

    predicate-low : LowLists c.variables (map (map (predicate_literal c.inputs relevant)) predicate)
    predicate-low =
        each_map (map (predicate_literal c.inputs relevant)) (Literals c.variables) predicate
        (each-so (λ k. Each (λ w. w / 2 < length relevant) k) (λ k. Literals c.variables (map (predicate_literal c.inputs relevant) k))
        (λ k e.
        each_map (predicate_literal c.inputs relevant) (λ l. l ≤ 2 * c.variables + 1) k
        (each-so (λ w. w / 2 < length relevant) (λ w. predicate_literal c.inputs relevant w ≤ 2 * c.variables + 1) literal-low k e))
        predicate b.indices)

    module _ (claims : List (List ℕ)) (low : LowLists c.variables claims) where
      pub body-low : LowLists c.variables (body_lists c relevant predicate claims)
      body-low =
          each_append (Literals c.variables) (map (map (predicate_literal c.inputs relevant)) predicate) (words_of gate_lists c.gates ++ claims) predicate-low
          (each_append (Literals c.variables) (words_of gate_lists c.gates) claims
          (gates-low c.variables c.gates (each_of_map output_of (Defines c.variables) c.gates definitions-split.1) facts.order)
          low)

      pub row_low : (s : ℕ) → LowLists c.variables (row_lists c relevant predicate s claims)
      row_low s =
          each_append (Literals c.variables) (source_lists (currents_of c) (bits (length c.latches) s)) (body_lists c relevant predicate claims)
          (source-low c.variables (currents_of c) (bits (length c.latches) s) currents-low) body-low
