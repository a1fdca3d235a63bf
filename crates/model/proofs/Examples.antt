-- Worked examples of the definitions, around each limit.
use Prim.Native.Nat.{ℕ}
use mathlib.Core.Bool.{true, false}
use mathlib.Core.List.{[], ◌∷◌, ◌++◌}
use Rattle.std.specs.Prelude.{Ok, Err}
use mathlib.Core.Path.{◌≡◌, refl}
use lib.Dec.{eqb, ltb}
use lib.ListN.{length, replicate}
use Rattle.lists.specs.Answer.{Answer, got, refused}
use Rattle.lists.specs.Parts.{front, zeros}
use Rattle.lists.specs.Tests.{every}
use Rattle.aiger.specs.declared.Gate.{Gate}
use Rattle.aiger.specs.Gates.{gate_from, value}
use Rattle.aiger.specs.Defined.{literal, defining, ordered, defined}
use Rattle.model.specs.declared.AigerLatch.{AigerLatch}
use Rattle.model.specs.declared.AigerTransition.{AigerTransition}
use Rattle.model.specs.declared.Counts.{Counts}
use Rattle.aiger.specs.declared.Refusal.TheVariants.{Room}
use Rattle.model.specs.Circuit.{Circuit, no_circuit, circuit_of, record_from, record_of, words_of_gates}
use Rattle.model.specs.Limits.{counted, well_defined}
use Rattle.model.specs.Checked.{checked, judged}
use Rattle.model.specs.RecordWords.{counts_in, record_in}
use Rattle.model.specs.Values.{Settles}

-- ---- counts: M, I, L, O, A

abbrev pub counts : ℕ → ℕ → ℕ → ℕ → ℕ → Counts
counts m i l o a = record { max_variable = m; inputs = i; latches = l; outputs = o; ands = a }

-- R5.3: inputs, latches and outputs at their limits and one beyond
pub sections :
    (counted (counts 65 64 1 0 0) ≡ true)
    × (counted (counts 66 65 1 0 0) ≡ false)
    × (counted (counts 1 1 0 0 0) ≡ false)
    × (counted (counts 1 0 1 0 0) ≡ true)
    × (counted (counts 8 0 8 0 0) ≡ true)
    × (counted (counts 9 0 9 0 0) ≡ false)
    × (counted (counts 1 0 1 128 0) ≡ true)
    × (counted (counts 1 0 1 129 0) ≡ false)
unfolding every counted
sections = (refl, refl, refl, refl, refl, refl, refl, refl)

-- R5.3: M at the sum and beside it, at its limits and one beyond
pub sums :
    (counted (counts 3 1 1 1 1) ≡ true)
    × (counted (counts 2 1 1 1 1) ≡ false)
    × (counted (counts 4 1 1 1 1) ≡ false)
    × (counted (counts 0 0 0 0 0) ≡ false)
    × (counted (counts 0 0 1 0 0) ≡ false)
    × (counted (counts 1000000 64 8 128 999928) ≡ true)
    × (counted (counts 1000001 64 8 128 999929) ≡ false)
    × (counted (counts 1000000 0 1 0 999999) ≡ true)
    × (counted (counts 1000001 0 1 0 1000000) ≡ false)
unfolding every counted
sums = (refl, refl, refl, refl, refl, refl, refl, refl, refl)

-- ---- records

abbrev pub latch : ℕ → ℕ → AigerLatch
latch current next = record { current = current; next = next }

-- one input, one latch, one output and one gate: M is 3, its literals are at most 7
abbrev pub small : (input current next output : ℕ) → Gate → Circuit
small input current next output gate =
    record { variables = 3; inputs = input ∷ []; latches = latch current next ∷ []; outputs = output ∷ []; gates = gate ∷ [] }

abbrev pub K : Circuit
K = small 2 4 6 6 (gate_from 6 4 2)

abbrev pub check : Circuit → Answer Circuit
check c = checked (record_of c) (words_of_gates c) 4

-- an output and a next literal of 2M + 1 are taken, of 2M + 2 not; so are constants
pub ranges :
    (check K ≡ got K)
    × (check (small 2 4 6 7 (gate_from 6 4 2)) ≡ got (small 2 4 6 7 (gate_from 6 4 2)))
    × (check (small 2 4 6 8 (gate_from 6 4 2)) ≡ refused 11)
    × (check (small 2 4 7 6 (gate_from 6 4 2)) ≡ got (small 2 4 7 6 (gate_from 6 4 2)))
    × (check (small 2 4 8 6 (gate_from 6 4 2)) ≡ refused 11)
    × (check (small 2 4 0 1 (gate_from 6 1 0)) ≡ got (small 2 4 0 1 (gate_from 6 1 0)))
unfolding checked every counted well_defined literal defining ordered defined
ranges = (refl, refl, refl, refl, refl, refl)

-- a variable that an input and a latch, an input and a gate, or a latch and a gate define; a gate that reads itself
pub once_each :
    (check (small 2 2 6 6 (gate_from 6 2 2)) ≡ refused 11)
    × (check (small 2 4 2 2 (gate_from 2 0 0)) ≡ refused 11)
    × (check (small 2 4 4 4 (gate_from 4 2 2)) ≡ refused 11)
    × (check (small 2 4 6 6 (gate_from 6 6 2)) ≡ refused 11)
    × (check (small 6 4 2 2 (gate_from 2 4 6)) ≡ refused 11)
    × (check (small 6 2 4 4 (gate_from 4 2 3)) ≡ got (small 6 2 4 4 (gate_from 4 2 3)))
unfolding checked every counted well_defined literal defining ordered defined
once_each = (refl, refl, refl, refl, refl, refl)

-- two inputs of one variable
pub two_inputs : check (record { variables = 3; inputs = 2 ∷ 2 ∷ []; latches = latch 4 4 ∷ []; outputs = []; gates = [] }) ≡ refused 11
unfolding checked every counted well_defined literal defining ordered defined
two_inputs = refl

-- the sum is off by one
pub off_by_one : checked (record_of (record { variables = 4; inputs = 2 ∷ []; latches = latch 4 6 ∷ []; outputs = []; gates = gate_from 6 4 2 ∷ [] })) (6 ∷ 4 ∷ 2 ∷ []) 9 ≡ refused 11
unfolding checked every counted
off_by_one = refl

-- R9.7: M + 1 work words are taken, M are 7
pub work-words :
    (checked (record_of K) (6 ∷ 4 ∷ 2 ∷ []) 4 ≡ got K)
    × (checked (record_of K) (6 ∷ 4 ∷ 2 ∷ []) 3 ≡ refused 7)
    × (checked (record_of K) (6 ∷ 4 ∷ []) 3 ≡ refused 7)
    × (checked (record_of (small 2 2 6 6 (gate_from 6 2 2))) (6 ∷ 2 ∷ 2 ∷ []) 3 ≡ refused 7)
unfolding checked every counted well_defined literal defining ordered defined
work-words = (refl, refl, refl, refl)

-- R9.11: 3A gate words are taken, 3A - 1 are 11, and what stands after 3A is not read
pub gate_words_lem :
    (checked (record_of K) (6 ∷ 4 ∷ []) 4 ≡ refused 11)
    × (checked (record_of K) (6 ∷ 4 ∷ 2 ∷ 8 ∷ []) 4 ≡ got K)
    × (checked (record_of K) (6 ∷ 4 ∷ 2 ∷ 6 ∷ 6 ∷ 6 ∷ []) 4 ≡ got K)
unfolding checked every counted well_defined literal defining ordered defined
gate_words_lem = (refl, refl, refl)

-- K's record, with words past the counts that no literal may be
abbrev pub littered : AigerTransition
littered =
    record {
      max_variable = 3;
      input_count = 1;
      inputs = front (replicate 64 2) (2 ∷ []);
      latch_count = 1;
      latches = front (replicate 8 (latch 2 99)) (latch 4 6 ∷ []);
      output_count = 1;
      outputs = front (replicate 128 99) (6 ∷ []);
      and_count = 1;
    }

pub past_ignored : checked littered (6 ∷ 4 ∷ 2 ∷ 99 ∷ 99 ∷ 99 ∷ []) 4 ≡ got K
unfolding checked every counted well_defined literal defining ordered defined
past_ignored = refl

-- the arrays of a record have their lengths
pub filled :
    (length (record_of K).inputs ≡ 64)
    × (length (record_of K).latches ≡ 8)
    × (length (record_of K).outputs ≡ 128)
    × (circuit_of (record_of K) (words_of_gates K) ≡ K)
filled = (refl, refl, refl, refl)

-- K at state 1: with input 1 every variable but 0 is true, with input 0 only the latch's
pub settled : Settles K 1 1 (λ n. ltb 0 n) × Settles K 1 0 (λ n. eqb n 2)
unfolding value
settled = (
  record { latches = refl; inputs = refl; follows = record { constant = refl; conjunctions = (refl, tt) } },
  record { latches = refl; inputs = refl; follows = record { constant = refl; conjunctions = (refl, tt) } },
)

-- a record of which only the counts matter: one latch, 2, that keeps its value, and zeros
abbrev pub wild : (m i l o a : ℕ) → AigerTransition
wild m i l o a =
    record {
      max_variable = m;
      input_count = i;
      inputs = zeros 64;
      latch_count = l;
      latches = replicate 8 (latch 2 2);
      output_count = o;
      outputs = zeros 128;
      and_count = a;
    }

-- counts that break the limits: 7 comes before them, up to M = 2^64 - 1; with work words enough they are 11
pub wild_counts :
    (checked (wild 1 0 1 128 0) [] 2 ≡ got (record { variables = 1; inputs = []; latches = latch 2 2 ∷ []; outputs = zeros 128; gates = [] }))
    × (checked (wild 1 0 1 129 0) [] 2 ≡ refused 11)
    × (checked (wild 1 0 1 129 0) [] 1 ≡ refused 7)
    × (checked (wild 0 0 0 0 0) [] 0 ≡ refused 7)
    × (checked (wild 0 0 0 0 0) [] 1 ≡ refused 11)
    × (checked (wild 18446744073709551615 0 1 0 0) [] 18446744073709551615 ≡ refused 7)
    × (checked (wild 18446744073709551615 0 1 0 18446744073709551614) [] 18446744073709551616 ≡ refused 11)
unfolding checked every counted well_defined literal defining ordered defined
wild_counts = (refl, refl, refl, refl, refl, refl, refl)

-- K's record slot by slot, and the record of no model: zeros past the counts
pub slots :
    (record_of K ≡ record {
      max_variable = 3;
      input_count = 1;
      inputs = 2 ∷ zeros 63;
      latch_count = 1;
      latches = latch 4 6 ∷ replicate 7 (latch 0 0);
      output_count = 1;
      outputs = 6 ∷ zeros 127;
      and_count = 1;
    })
    × (record_of no_circuit ≡ record {
      max_variable = 0;
      input_count = 0;
      inputs = zeros 64;
      latch_count = 0;
      latches = replicate 8 (latch 0 0);
      output_count = 0;
      outputs = zeros 128;
      and_count = 0;
    })
slots = (refl, refl)

pub verdicts : (judged (Ok tt) K ≡ got K) × (judged (Err Room) K ≡ refused 7)
verdicts = (refl, refl)

-- the words of a record's memory: counts and arrays in the order of the fields; words that are not there are 0
pub in_words :
    (record_in ((3 ∷ 1 ∷ 2 ∷ zeros 63) ++ ((1 ∷ 4 ∷ 6 ∷ zeros 14) ++ ((1 ∷ 6 ∷ zeros 127) ++ (1 ∷ [])))) ≡ record_of K)
    × (record_in (7 ∷ zeros 212) ≡ record_from (record { max_variable = 7; inputs = 0; latches = 0; outputs = 0; ands = 0 }) (zeros 64) (replicate 8 (latch 0 0)) (zeros 128))
    × (counts_in (7 ∷ []) ≡ record { max_variable = 7; inputs = 0; latches = 0; outputs = 0; ands = 0 })
in_words = (refl, refl, refl)

-- inputs or outputs that are lent and do not reach their counts: 11, also where what is there would be well defined
pub too_short :
    (checked (record_from (record { max_variable = 2; inputs = 1; latches = 1; outputs = 0; ands = 0 }) [] (replicate 8 (latch 2 4)) []) [] 3 ≡ refused 11)
    × (checked (record_from (record { max_variable = 1; inputs = 0; latches = 1; outputs = 2; ands = 0 }) [] (replicate 8 (latch 2 2)) (2 ∷ [])) [] 2 ≡ refused 11)
    × (checked (record_from (record { max_variable = 1; inputs = 0; latches = 1; outputs = 1; ands = 0 }) [] (replicate 8 (latch 2 2)) (2 ∷ [])) [] 2
    ≡ got (record { variables = 1; inputs = []; latches = latch 2 2 ∷ []; outputs = 2 ∷ []; gates = [] }))
unfolding checked every counted well_defined literal defining ordered defined
too_short = (refl, refl, refl)
