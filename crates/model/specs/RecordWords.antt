-- A model record that is lent as the words of its memory: 213 of them, since each of its fields and elements is a word of 64 bits.
use Rattle.std.specs.Prelude.{ℕ, zero, suc, ◌+◌, cond, List, [], ◌∷◌, ◌++◌, ltb, length, get_or}
use Rattle.lists.specs.Parts.{part}
use Rattle.lists.specs.Words.{words_of}
use Rattle.model.specs.declared.AigerLatch.{AigerLatch}
use Rattle.model.specs.declared.AigerTransition.{AigerTransition}
use Rattle.model.specs.declared.Counts.{Counts}
use Rattle.model.specs.Circuit.{record_from}

-- L is word 66. A record that is cut, with fewer than 213 words, has no latches, so that it breaks the limits (R9.11).
abbrev pub latch_count_in : List ℕ → ℕ
latch_count_in ws = cond (ltb (length ws) 213) 0 (get_or ws 66 0)

-- M is word 0, I word 1, O word 83, A word 212; a word that is not there is 0
abbrev pub counts_in : List ℕ → Counts
counts_in ws =
    record {
      max_variable = get_or ws 0 0;
      inputs = get_or ws 1 0;
      latches = latch_count_in ws;
      outputs = get_or ws 83 0;
      ands = get_or ws 212 0;
    }

-- the latch whose two words begin at a place
abbrev pub latch_in : List ℕ → ℕ → AigerLatch
latch_in ws at = record { current = get_or ws at 0; next = get_or ws (at + 1) 0 }

-- n latches from a place on
abbrev pub latches_in : List ℕ → ℕ → ℕ → List AigerLatch
latches_in ws zero at = []
latches_in ws (suc n) at = latch_in ws at ∷ latches_in ws n (at + 2)

-- the inputs are words 2 to 65, the latches words 67 to 82, the outputs words 84 to 211; inputs and outputs end where the words do
abbrev pub record_in : List ℕ → AigerTransition
record_in ws = record_from (counts_in ws) (part ws 2 66) (latches_in ws 8 67) (part ws 84 212)

-- ---- and back: the words of a record, as its memory has them in C

abbrev pub latch_words : AigerLatch → List ℕ
latch_words l = l.current ∷ l.next ∷ []

abbrev pub words_in : AigerTransition → List ℕ
words_in m =
    (m.max_variable ∷ m.input_count ∷ m.inputs)
    ++ (m.latch_count ∷ words_of latch_words m.latches
    ++ (m.output_count ∷ m.outputs
    ++ m.and_count ∷ []))
