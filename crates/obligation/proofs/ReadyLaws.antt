-- From what is accepted to what the functions that make the clauses require.
use Prim.Native.Nat.{ℕ, ◌+◌, ◌*◌, ◌≤◌, ◌<◌, ◌^◌}
use mathlib.Core.Bool.{true, false}
use mathlib.Core.List.{List, []}
use mathlib.Core.Path.{◌≡◌, refl}
use native.Mathlib.Omega.{arith}
use borrow.Author.Tests.{le-leb, lt-ltb}
use lib.ListN.{length, length-map}
use lib.Pow.{pow_mono}
use Rattle.lists.specs.Answer.{got}
use Rattle.lists.proofs.CountLaws.{distinct-count}
use Rattle.lists.proofs.RisingLaws.{rising-distinct}
use Rattle.model.specs.Circuit.{current_of, next_of, currents_of, nexts_of}
use Rattle.model.specs.Checked.{counts_of, checked}
use Rattle.model.proofs.CountLaws.{Counted, counted_facts}
use Rattle.model.proofs.ValueLaws.{Sized, AsMany, checked-counts}
use Rattle.obligation_spec.specs.Limits.{states_claimed, outcomes_claimed}
use Rattle.obligation_spec.specs.Lists.{outcomes_of}
use Rattle.obligation_spec.specs.Calls.{Asked, circuit}
use Rattle.obligation_spec.proofs.AcceptedLaws.{states_facts, outcomes_facts}
use Rattle.word_sort.specs.Inner.Sorted.{sorted}
use Rattle.word_sort.proofs.SortedLaws.{each-sorted, sorted-length}
use Rattle.obligation_check.specs.declared.Question.{Question}
use Rattle.obligation_check.specs.Inner.Questions.{asked_in}
use Rattle.obligation_check.proofs.OutcomeLaws.{outcomes_count}
use Rattle.obligation_claims.specs.Inner.Claims.{keys_from, outcome_keys}
use Rattle.obligation_claims.proofs.KeyLaws.{keys_length, keys-low, outcome-length, outcome-low}
use Rattle.obligation_gates.specs.Inner.Encoding.{Low}
use Rattle.obligation_gates.proofs.BoundedLaws.{currents-low, nexts-low, outputs-low, gates-low, accepted-bounded, accepted-few}
use Rattle.obligation.specs.Inner.Appended.{parts_of, claimed_of, FrontReady, ClaimsReady, Asks}

-- a lent record has its eight latches
pub sized_in : (q : Question) → Sized (asked_in q).model
sized_in q = record { latches = q.model.eight }

module _ (q : Asked) (a : Asks q) (sized : Sized q.model) where
  counts : Counted (counts_of q.model)
  counts = counted_facts (counts_of q.model) a.counts

  checks : checked q.model q.gates (q.model.max_variable + 1) ≡ got (circuit q)
  unfolding checked
  checks =
      rw (lt-ltb q.model.max_variable (q.model.max_variable + 1) (omega arith), a.counts, le-leb q.model.input_count (length q.model.inputs) a.inputs, le-leb q.model.output_count (length q.model.outputs) a.outputs, le-leb (3 * q.model.and_count) (length q.gates) a.words, a.well)
      refl

  pub many : AsMany q.model (circuit q)
  many = checked-counts q.model q.gates (q.model.max_variable + 1) (circuit q) sized checks

  pub few-latches : q.model.latch_count ≤ 8
  few-latches = counts.latches

  pub few-outputs : q.model.output_count ≤ 128
  few-outputs = counts.outputs

  few-variables : (circuit q).variables ≤ 1000000
  few-variables = counts.most

  pub low-nexts : Low (nexts_of (circuit q))
  low-nexts = nexts-low (circuit q) a.well few-variables

  pub low-currents : Low (currents_of (circuit q))
  low-currents = currents-low (circuit q) a.well few-variables

  pub low-outputs : Low (circuit q).outputs
  low-outputs = outputs-low (circuit q) a.well few-variables

  pub few-nexts : length (nexts_of (circuit q)) ≤ 8
  few-nexts = rw (length-map (circuit q).latches next_of, many.latches) few-latches

  pub few-currents : length (currents_of (circuit q)) ≤ 8
  few-currents = rw (length-map (circuit q).latches current_of, many.latches) few-latches

  -- the parts of the clauses before the claims: the latches, or none of them
  module _ (source : ℕ) where
    ready : (currents : List ℕ) → Low currents → length currents ≤ 8 → FrontReady (parts_of currents source (circuit q).inputs q.relevant q.pairs q.words q.gates q.model.and_count)
    ready currents l f =
        record {
          low = l;
          few = f;
          bounded = accepted-bounded (circuit q) a.well few-variables q.relevant q.pairs q.words a.bounds;
          clauses = accepted-few (circuit q) q.relevant q.pairs q.words a.bounds;
          most = omega (arith, counts.sum, counts.most);
          low_gates = gates-low (circuit q) a.well few-variables;
        }

    pub row-ready : FrontReady (parts_of (currents_of (circuit q)) source (circuit q).inputs q.relevant q.pairs q.words q.gates q.model.and_count)
    row-ready = ready (currents_of (circuit q)) low-currents few-currents

    pub terminal_ready : FrontReady (parts_of [] source (circuit q).inputs q.relevant q.pairs q.words q.gates q.model.and_count)
    terminal_ready = ready [] tt (omega arith)

  -- claimed states are at most 256
  pub few_states : (states : List ℕ) → states_claimed (circuit q) states ≡ true → length states ≤ 1000000
  few_states states h =
      let f = states_facts (circuit q) states h in
      let n : length states ≤ 2 ^ length (circuit q).latches = distinct-count (2 ^ length (circuit q).latches) states (rising-distinct states f.rises) f.inside in
      let p : 2 ^ length (circuit q).latches ≤ 2 ^ 8 = pow_mono {i = length (circuit q).latches} {j = 8} (rw many.latches few-latches) in
      omega arith

  pub few_outcomes : (observed words : List ℕ) → outcomes_claimed (circuit q) observed (outcomes_of words) ≡ true → length words ≤ 1000000
  few_outcomes observed words h =
      let f = outcomes_facts (circuit q) observed (outcomes_of words) h in
      omega (arith, f.few, outcomes_count words)

  -- so are the observed outputs few
  pub few-observed : (observed words : List ℕ) → outcomes_claimed (circuit q) observed (outcomes_of words) ≡ true → length observed ≤ 128
  few-observed observed words h =
      let f = outcomes_facts (circuit q) observed (outcomes_of words) h in
      omega (arith, distinct-count (length (circuit q).outputs) observed (rising-distinct observed f.rises) f.outputs, many.outputs, few-outputs)

-- ---- the claims

pub states_ready : (ls keys states : List ℕ) → keys ≡ sorted (keys_from 0 ls) → Low ls → length ls ≤ 8 → length states ≤ 1000000 → ClaimsReady (claimed_of keys states false)
states_ready ls keys states e l n f =
    record {
      few_keys = record { few = rw (e, sorted-length (keys_from 0 ls), keys_length 0 ls) (omega arith); low = rw e (each-sorted (λ key. key < 2 ^ 39) (keys_from 0 ls) (keys-low 0 ls (omega arith) l)) };
      few_words = f;
    }

pub outcomes_ready : (nexts observed keys words : List ℕ) → keys ≡ sorted (outcome_keys nexts observed) → Low nexts → Low observed → length nexts ≤ 8 → length observed ≤ 128 → length words ≤ 1000000 → ClaimsReady (claimed_of keys words true)
outcomes_ready nexts observed keys words e l k n m f =
    record {
      few_keys = record { few = rw (e, sorted-length (outcome_keys nexts observed), outcome-length nexts observed) (omega arith); low = rw e (each-sorted (λ key. key < 2 ^ 39) (outcome_keys nexts observed) (outcome-low nexts observed (omega arith) m l k)) };
      few_words = f;
    }
