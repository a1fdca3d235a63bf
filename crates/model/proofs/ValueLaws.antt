-- R11.1: for every state and input word of a model there are values that follow the gate equations, and they agree on every variable and
-- literal.
use Prim.Native.Nat.{ℕ, ◌+◌, ◌*◌, ◌≤◌, ◌<◌}
use mathlib.Core.Bool.{Bool, true}
use mathlib.Core.List.{List, [], ◌∷◌, ◌++◌, map, map-append}
use mathlib.Core.Path.{◌≡◌, refl, sym, ◌∙◌}
use native.Mathlib.Omega.{arith}
use lib.Dec.{leb, ltb}
use lib.ListN.{length, length-append, length-map}
use lib.Seq.{length-take-le}
use borrow.Author.Tests.{ltb-true, leb-true}
use Rattle.lists.specs.Answer.{Answer, got, unless}
use Rattle.lists.specs.Bits.{bits}
use Rattle.lists.specs.Tests.{all, Each}
use Rattle.lists.specs.Words.{triples_of}
use Rattle.lists.proofs.AnswerLaws.{unless_test, unless-got, got_same}
use Rattle.lists.proofs.BitLaws.{bits-length}
use Rattle.lists.proofs.PartLaws.{append_heads, append_tails}
use Rattle.lists.proofs.TestLaws.{every_facts, each_of_all, each-so}
use Rattle.lists.proofs.WordLaws.{triples_count}
use Rattle.aiger.specs.Gates.{Valuation, value, gate_from}
use Rattle.aiger.specs.Defined.{literal, defined}
use Rattle.aiger.proofs.DefinedLaws.{literal-low}
use Rattle.aiger.proofs.ExistLaws.{values-exist}
use Rattle.aiger.proofs.UniqueLaws.{values-unique, literals-unique}
use Rattle.model.specs.declared.AigerTransition.{AigerTransition}
use Rattle.model.specs.Circuit.{Circuit, circuit_of, current_of, currents_of, nexts_of, leaves_of}
use Rattle.model.specs.Limits.{counted, well_defined}
use Rattle.model.specs.Checked.{checked, counts_of}
use Rattle.model.specs.Values.{Settles}
use Rattle.model.proofs.CountLaws.{counted_facts}

-- the literals are at most 2M + 1
abbrev pub Literals : ℕ → List ℕ → Type 0
Literals most ls = Each (λ l. l ≤ 2 * most + 1) ls

-- what `well_defined` says
pub record WellDefined (c : Circuit) : Type 0 where
  pub once : defined c.variables (leaves_of c) c.gates ≡ true
  pub nexts : Literals c.variables (nexts_of c)
  pub outputs : Literals c.variables c.outputs

literals-low : (most : ℕ) (ls : List ℕ) → all (literal most) ls ≡ true → Literals most ls
literals-low most ls h = each-so (λ l. literal most l ≡ true) (λ l. l ≤ 2 * most + 1) (literal-low most) ls (each_of_all (literal most) ls h)

pub well_facts : (c : Circuit) → well_defined c ≡ true → WellDefined c
unfolding well_defined
well_facts c h =
    let f =
    every_facts
    (defined c.variables (leaves_of c) c.gates ∷ all (literal c.variables) (nexts_of c) ∷ all (literal c.variables) c.outputs ∷ [])
    h in
    record {
      once = f.0;
      nexts = literals-low c.variables (nexts_of c) f.1.0;
      outputs = literals-low c.variables c.outputs f.1.1.0;
    }

-- each variable of 1 to M is defined once, operands are smaller than their gate, and literals are at most 2M + 1
pub record Sound (c : Circuit) : Type 0 where
  pub well : well_defined c ≡ true
  pub sum : length c.inputs + length c.latches + length c.gates ≡ c.variables

leaves-count : (c : Circuit) → length (leaves_of c) ≡ length c.inputs + length c.latches
leaves-count c = length-append c.inputs (currents_of c) ∙ rw (length-map c.latches current_of)

module _ (c : Circuit) (sound : Sound c) (s x : ℕ) where
  abbrev leaf_bits : List Bool
  leaf_bits = bits (length c.inputs) x ++ bits (length c.latches) s

  bits-count : length leaf_bits ≡ length (leaves_of c)
  bits-count =
      length-append (bits (length c.inputs) x) (bits (length c.latches) s)
      ∙ rw (bits-length (length c.inputs) x, bits-length (length c.latches) s) (sym (leaves-count c))

  pub settles-exist : (v : Valuation) × Settles c s x v
  settles-exist =
      let r = values-exist c.variables (leaves_of c) c.gates (well_facts c sound.well).once leaf_bits bits-count in
      let v = r.values in
      let e : map (value v) c.inputs ++ map (value v) (currents_of c) ≡ leaf_bits = sym (map-append (value v) c.inputs (currents_of c)) ∙ r.given in
      let n : length (map (value v) c.inputs) ≡ length (bits (length c.inputs) x) =
      length-map c.inputs (value v) ∙ sym (bits-length (length c.inputs) x) in (
        v,
        record {
          latches = append_tails (map (value v) c.inputs) (bits (length c.inputs) x) (map (value v) (currents_of c)) (bits (length c.latches) s) n e;
          inputs = append_heads (map (value v) c.inputs) (bits (length c.inputs) x) (map (value v) (currents_of c)) (bits (length c.latches) s) n e;
          follows = r.follows;
        },
      )

  -- any two settle alike
  module _ (u v : Valuation) (f : Settles c s x u) (g : Settles c s x v) where
    leaves-same : map (value u) (leaves_of c) ≡ map (value v) (leaves_of c)
    leaves-same =
        map-append (value u) c.inputs (currents_of c)
        ∙ rw (f.inputs, f.latches, ← g.inputs, ← g.latches) (sym (map-append (value v) c.inputs (currents_of c)))

    leaves_sum : length (leaves_of c) + length c.gates ≡ c.variables
    leaves_sum = rw (leaves-count c) sound.sum

    pub settles-unique : (n : ℕ) → n ≤ c.variables → u n ≡ v n
    settles-unique =
        values-unique c.variables (leaves_of c) c.gates u v (well_facts c sound.well).once leaves_sum f.follows g.follows leaves-same

    pub settles-literals : (l : ℕ) → l ≤ 2 * c.variables + 1 → value u l ≡ value v l
    settles-literals =
        literals-unique c.variables (leaves_of c) c.gates u v (well_facts c sound.well).once leaves_sum f.follows g.follows leaves-same

-- a state and an input word fix the value of every variable and literal
pub record Fixes (c : Circuit) (s x : ℕ) : Type 0 where
  pub values : Valuation
  pub settles : Settles c s x values
  pub variables : (u : Valuation) → Settles c s x u → (n : ℕ) → n ≤ c.variables → u n ≡ values n
  pub literals : (u : Valuation) → Settles c s x u → (l : ℕ) → l ≤ 2 * c.variables + 1 → value u l ≡ value values l

pub sound-fixes : (c : Circuit) → Sound c → (s x : ℕ) → Fixes c s x
sound-fixes c sound s x =
    let v = settles-exist c sound s x in
    record {
      values = v.0;
      settles = v.1;
      variables = λ u f. settles-unique c sound s x u v.0 f v.1;
      literals = λ u f. settles-literals c sound s x u v.0 f v.1;
    }

-- ---- the model of a record that was checked

pub record Passed (m : AigerTransition) (g : List ℕ) (w : ℕ) (c : Circuit) : Type 0 where
  pub work : m.max_variable < w
  pub counts : counted (counts_of m) ≡ true
  pub inputs : m.input_count ≤ length m.inputs
  pub outputs : m.output_count ≤ length m.outputs
  pub words : 3 * m.and_count ≤ length g
  pub well : well_defined c ≡ true
  pub is : c ≡ circuit_of m g

pub checked-got : (m : AigerTransition) (g : List ℕ) (w : ℕ) (c : Circuit) → checked m g w ≡ got c → Passed m g w c
unfolding checked
checked-got m g w c e =
    let model = circuit_of m g in
    let r₃ : Answer Circuit = unless 11 (well_defined model) (got model) in
    let r₂ : Answer Circuit = unless 11 (leb (3 * m.and_count) (length g)) r₃ in
    let ro : Answer Circuit = unless 11 (leb m.output_count (length m.outputs)) r₂ in
    let ri : Answer Circuit = unless 11 (leb m.input_count (length m.inputs)) ro in
    let r₁ : Answer Circuit = unless 11 (counted (counts_of m)) ri in
    let e₁ : r₁ ≡ got c = unless-got 7 r₁ c (ltb m.max_variable w) e in
    let ei : ri ≡ got c = unless-got 11 ri c (counted (counts_of m)) e₁ in
    let eo : ro ≡ got c = unless-got 11 ro c (leb m.input_count (length m.inputs)) ei in
    let e₂ : r₂ ≡ got c = unless-got 11 r₂ c (leb m.output_count (length m.outputs)) eo in
    let e₃ : r₃ ≡ got c = unless-got 11 r₃ c (leb (3 * m.and_count) (length g)) e₂ in
    let is : c ≡ model = sym (got_same model c (unless-got 11 (got model) c (well_defined model) e₃)) in
    record {
      work = ltb-true m.max_variable w (unless_test 7 r₁ c (ltb m.max_variable w) e);
      counts = unless_test 11 ri c (counted (counts_of m)) e₁;
      inputs = leb-true m.input_count (length m.inputs) (unless_test 11 ro c (leb m.input_count (length m.inputs)) ei);
      outputs = leb-true m.output_count (length m.outputs) (unless_test 11 r₂ c (leb m.output_count (length m.outputs)) eo);
      words = leb-true (3 * m.and_count) (length g) (unless_test 11 r₃ c (leb (3 * m.and_count) (length g)) e₂);
      well = rw is (unless_test 11 (got model) c (well_defined model) e₃);
      is = is;
    }

-- a record as the code has it: it has eight latches
pub record Sized (m : AigerTransition) : Type 0 where
  pub latches : length m.latches ≡ 8

-- the model has as many of each as the record counts
pub record AsMany (m : AigerTransition) (c : Circuit) : Type 0 where
  pub variables : c.variables ≡ m.max_variable
  pub inputs : length c.inputs ≡ m.input_count
  pub latches : length c.latches ≡ m.latch_count
  pub outputs : length c.outputs ≡ m.output_count
  pub gates : length c.gates ≡ m.and_count

module _ (m : AigerTransition) (g : List ℕ) (w : ℕ) (c : Circuit) (sized : Sized m) (e : checked m g w ≡ got c) where
  pub checked-counts : AsMany m c
  checked-counts =
      let p = checked-got m g w c e in
      let n = counted_facts (counts_of m) p.counts in
      rw p.is
      (record {
        variables = refl;
        inputs = length-take-le m.input_count m.inputs p.inputs;
        latches = length-take-le m.latch_count m.latches (omega (arith, n.latches, sized.latches));
        outputs = length-take-le m.output_count m.outputs p.outputs;
        gates = length-take-le m.and_count (triples_of gate_from g) (rw (triples_count gate_from g) (omega (arith, p.words)));
      })

  pub checked-sound : Sound c
  checked-sound =
      let p = checked-got m g w c e in
      let n = counted_facts (counts_of m) p.counts in
      let k = checked-counts in
      record { well = p.well; sum = omega (arith, n.sum, k.variables, k.inputs, k.latches, k.gates) }

  -- R11.1: the inputs and latches of a checked model determine all its values
  pub checked-fixes : (s x : ℕ) → Fixes c s x
  checked-fixes = sound-fixes c checked-sound
