-- What the meaning of a row rests on, held to the numbers themselves: which bit of an outcome is which output, and where a word leads.
use Prim.Native.Nat.{ℕ, zero, suc, ◌+◌, ◌*◌, ◌/◌, ◌^◌, ◌≤◌, ◌<◌}
use mathlib.Core.Bool.{Bool, true, false}
use mathlib.Core.List.{List, [], ◌∷◌, map, Memᴰ}
use mathlib.Core.Path.{◌≡◌, refl, sym, ap, ◌∙◌}
use native.Mathlib.Omega.{arith}
use lib.ListN.{length, get_or, take, drop, length-map, length-take}
use lib.Seq.{ext_get_or}
use Rattle.lists.specs.Answer.{got}
use Rattle.lists.specs.Bits.{odd, bits, packed}
use Rattle.lists.specs.Sets.{rising}
use Rattle.lists.proofs.BitLaws.{bits_at, bits-length, bits_halves, packed-at, packed-bits, packed_halves, packed_under}
use Rattle.aiger.specs.Gates.{Valuation, value, output_of}
use Rattle.model.specs.declared.AigerTransition.{AigerTransition}
use Rattle.model.specs.Circuit.{Circuit, circuit_of, nexts_of}
use Rattle.model.specs.Checked.{checked, counts_of}
use Rattle.model.specs.Values.{Settles}
use Rattle.model.proofs.CountLaws.{counted_facts}
use Rattle.model.proofs.ValueLaws.{Sized, Sound, checked-got, checked-sound, checked-counts, well_facts, settles-exist}
use Rattle.model_step.specs.declared.Outcome.{Outcome}
use Rattle.model_step.specs.Step.{step_values, outcome_under, step_of}
use Rattle.model_step.proofs.AgreeLaws.{literals-agree, step-settles, step-got}
use Rattle.obligation_spec.specs.Lists.{output_bits}
use Rattle.obligation_spec.specs.Meaning.{Leads, ToOutcome}

-- ---- the two words of an outcome's outputs (R12.7)

-- the bits of an outcome's outputs are those of the number that its halves form
pub output-bits : (o : Outcome) → o.low < 2 ^ 64 → output_bits o ≡ bits 128 (o.low + 2 ^ 64 * o.high)
output-bits o h = bits_halves 64 64 o.low o.high h

pub output-bit : (o : Outcome) (k : ℕ) → o.low < 2 ^ 64 → k < 128 → get_or (output_bits o) k false ≡ odd ((o.low + 2 ^ 64 * o.high) / 2 ^ k)
output-bit o k h l = ap (λ (bs : List Bool). get_or bs k false) (output-bits o h) ∙ bits_at 128 (o.low + 2 ^ 64 * o.high) k l

-- the outcome of some outputs, at most 128, has their bits
pub outcome-bit : (outs : List Bool) (t k : ℕ) → length outs ≤ 128 → k < length outs
    → get_or (output_bits (record { target = t; high = packed (drop 64 outs); low = packed (take 64 outs) })) k false ≡ get_or outs k false
outcome-bit outs t k h l =
    let o : Outcome = record { target = t; high = packed (drop 64 outs); low = packed (take 64 outs) } in
    let low : packed (take 64 outs) < 2 ^ 64 = packed_under (take 64 outs) 64 (omega (arith, length-take 64 outs)) in
    output-bit o k low (omega arith) ∙ rw (packed_halves 64 outs) (packed-at outs k l)

-- ---- a word leads to one state with one list of outputs (R11.1)

module _ (c : Circuit) (sound : Sound c) (s x : ℕ) where
  -- there is a state that the word leads to
  pub record Somewhere : Type 0 where
    pub target : ℕ
    pub outputs : List Bool
    pub leads : Leads c s x target outputs

  pub leads-somewhere : Somewhere
  leads-somewhere =
      let v = settles-exist c sound s x in
      record {
        target = packed (map (value v.0) (nexts_of c));
        outputs = map (value v.0) c.outputs;
        leads = record { values = v.0; settles = v.1; target = refl; outputs = refl };
      }

  pub leads_once : (t t' : ℕ) (os os' : List Bool) → Leads c s x t os → Leads c s x t' os' → (t ≡ t') × (os ≡ os')
  leads_once t t' os os' p q =
      let n = literals-agree c sound s x p.values q.values p.settles q.settles (nexts_of c) (well_facts c sound.well).nexts in
      let o = literals-agree c sound s x p.values q.values p.settles q.settles c.outputs (well_facts c sound.well).outputs in
      (p.target ∙ ap packed n ∙ sym q.target, p.outputs ∙ o ∙ sym q.outputs)

-- ---- the step

-- n numbers from a on
abbrev pub counting_from : ℕ → ℕ → List ℕ
counting_from a zero = []
counting_from a (suc n) = a ∷ counting_from (a + 1) n

pub counting-length : (n a : ℕ) → length (counting_from a n) ≡ n
counting-length zero a = refl
counting-length (suc n) a = rw (counting-length n (a + 1))

pub counting-at : (n a k : ℕ) → k < n → get_or (counting_from a n) k 0 ≡ a + k
counting-at zero a k h = absurd (omega arith)
counting-at (suc n) a zero h = omega arith
counting-at (suc n) a (suc k) h = omega (arith, counting-at n (a + 1) k (omega arith))

-- every output of the model
abbrev pub all_outputs : Circuit → List ℕ
all_outputs c = counting_from 0 (length c.outputs)

-- the outcome under values that settle is one that the word leads to, with all outputs observed
pub settled_outcome : (c : Circuit) (s x : ℕ) (v : Valuation) → length c.outputs ≤ 128 → Settles c s x v → ToOutcome c s (all_outputs c) (outcome_under c v ∷ []) x
unfolding outcome_under
settled_outcome c s x v few f =
    let outs : List Bool = map (value v) c.outputs in
    let n : length outs ≡ length c.outputs = length-map c.outputs (value v) in
    record {
      outcome = outcome_under c v;
      outputs = outs;
      leads = record { values = v; settles = f; target = refl; outputs = refl };
      claimed = Memᴰ.head refl;
      agrees = λ k h.
          let l : k < length c.outputs = omega (arith, counting-length (length c.outputs) 0) in
          let i : get_or (all_outputs c) k 0 ≡ k = omega (arith, counting-at (length c.outputs) 0 k l) in
          ap (λ (j : ℕ). get_or outs j false) i ∙ sym (outcome-bit outs (packed (map (value v) (nexts_of c))) k (omega arith) (omega arith));
    }

-- .. and the only one: no other outcome without bits beyond the outputs has that target and those bits
same_outcome : (o : Outcome) (target high low : ℕ) → o.target ≡ target → o.high ≡ high → o.low ≡ low → o ≡ record { target = target; high = high; low = low }
same_outcome o target high low e f g = rw (← e, ← f, ← g)

same_halves : (a b c d : ℕ) → a < 2 ^ 64 → c < 2 ^ 64 → a + 2 ^ 64 * b ≡ c + 2 ^ 64 * d → (a ≡ c) × (b ≡ d)
same_halves a b c d h k e = (omega arith, omega arith)

module _ (c : Circuit) (sound : Sound c) (s x : ℕ) (v : Valuation) (few : length c.outputs ≤ 128) (f : Settles c s x v) where
  abbrev outs : List Bool
  outs = map (value v) c.outputs

  outs_length : length outs ≡ length c.outputs
  outs_length = length-map c.outputs (value v)

  pub outcome_once : (outcomes : List Outcome) (p : ToOutcome c s (all_outputs c) outcomes x)
      → p.outcome.low < 2 ^ 64 → p.outcome.low + 2 ^ 64 * p.outcome.high < 2 ^ length c.outputs → p.outcome ≡ outcome_under c v
  unfolding outcome_under
  outcome_once outcomes p low fits =
      let o : Outcome = p.outcome in
      let n : ℕ = length c.outputs in
      let number : ℕ = o.low + 2 ^ 64 * o.high in
      let here : Leads c s x (packed (map (value v) (nexts_of c))) outs = record { values = v; settles = f; target = refl; outputs = refl } in
      let same = leads_once c sound s x o.target (packed (map (value v) (nexts_of c))) p.outputs outs p.leads here in
      let bit : (k : ℕ) → k < n → get_or (bits n number) k false ≡ get_or outs k false =
      λ k h.
      let i : get_or (all_outputs c) k 0 ≡ k = omega (arith, counting-at n 0 k h) in
      bits_at n number k h
      ∙ sym (output-bit o k low (omega arith))
      ∙ sym (p.agrees k (omega (arith, counting-length n 0)))
      ∙ ap (λ (j : ℕ). get_or p.outputs j false) i
      ∙ ap (λ (l : List Bool). get_or l k false) same.1 in
      let is : bits n number ≡ outs =
      ext_get_or false (bits n number) outs (bits-length n number ∙ sym outs_length) (λ k h. bit k (omega (arith, bits-length n number))) in
      let whole : number ≡ packed (take 64 outs) + 2 ^ 64 * packed (drop 64 outs) = sym (packed-bits n number fits) ∙ ap packed is ∙ sym (packed_halves 64 outs) in
      let lower : packed (take 64 outs) < 2 ^ 64 = packed_under (take 64 outs) 64 (omega (arith, length-take 64 outs)) in
      let halves = same_halves o.low o.high (packed (take 64 outs)) (packed (drop 64 outs)) low lower whole in
      same_outcome o (packed (map (value v) (nexts_of c))) (packed (drop 64 outs)) (packed (take 64 outs)) same.0 halves.1 halves.0

-- R6.2: where gates are listed with rising outputs, an accepted step's outcome is the one that the word leads to
module _ (m : AigerTransition) (g : List ℕ) (w s x : ℕ) (o : Outcome) (sized : Sized m) (e : step_of m g w s x ≡ got o) (r : rising (map output_of (circuit_of m g).gates) ≡ true) where
  abbrev model : Circuit
  model = circuit_of m g

  is-model : (step-got m g w s x o e).circuit ≡ model
  is-model = let t = step-got m g w s x o e in (checked-got m g w t.circuit t.valid).is

  valid : checked m g w ≡ got model
  valid = (step-got m g w s x o e).valid ∙ ap got is-model

  is-outcome : o ≡ outcome_under model (step_values model s x)
  is-outcome = (step-got m g w s x o e).outcome ∙ ap (λ (d : Circuit). outcome_under d (step_values d s x)) is-model

  few-outputs : length model.outputs ≤ 128
  few-outputs = omega (arith, (counted_facts (counts_of m) (checked-got m g w model valid).counts).outputs, (checked-counts m g w model sized valid).outputs)

  sound-model : Sound model
  sound-model = checked-sound m g w model sized valid

  settled : Settles model s x (step_values model s x)
  settled = step-settles model sound-model s x r

  pub step-leads : ToOutcome model s (all_outputs model) (o ∷ []) x
  step-leads = rw is-outcome (settled_outcome model s x (step_values model s x) few-outputs settled)

  pub step-only : (outcomes : List Outcome) (p : ToOutcome model s (all_outputs model) outcomes x)
      → p.outcome.low < 2 ^ 64 → p.outcome.low + 2 ^ 64 * p.outcome.high < 2 ^ length model.outputs → p.outcome ≡ o
  step-only outcomes p low fits = outcome_once model sound-model s x (step_values model s x) few-outputs settled outcomes p low fits ∙ sym is-outcome
