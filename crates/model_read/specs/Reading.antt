-- The transition reader (R5; refusals R9.3, R9.4, R9.5, R9.7, R9.8, R9.11 in this order): from the bytes to the model or the first number.
use Rattle.std.specs.Prelude.{ℕ, ◌*◌, List, Result, ◌≡◌, leb, ltb, drop}
use Rattle.lists.specs.Answer.{Answer, got, refused, unless, and_then}
use Rattle.lists.specs.Parts.{Bytes, front, zeros}
use Rattle.text.specs.declared.Reader.TheVariants.{Transition}
use Rattle.text.specs.Lines.{lines_of}
use Rattle.text.specs.Texts.{limited, good_text}
use Rattle.aiger.specs.declared.Refusal.{Refusal}
use Rattle.aiger.specs.Refusals.{answered}
use Rattle.aiger.specs.Sections.{section}
use Rattle.model.specs.declared.AigerTransition.{AigerTransition}
use Rattle.model.specs.declared.Counts.{Counts}
use Rattle.model.specs.Circuit.{Circuit, record_of, words_of_gates}
use Rattle.model.specs.Limits.{counted, well_defined}
use Rattle.model_text.specs.Header.{header_of}
use Rattle.circuit_lines.specs.SectionLines.{literal_line, gate_line}
use Rattle.model_text.specs.ModelLines.{latch_line}

-- R5.8, R9.8: the sections of so many lines, in the order of the file; what stands behind the gates is not looked at (R5.7)
abbrev pub sections_of : Counts → List Bytes → Answer Circuit
sections_of n ls =
    and_then (section (literal_line Transition) n.inputs ls) (λ inputs.
    and_then (section latch_line n.latches inputs.rest) (λ latches.
    and_then (section (literal_line Transition) n.outputs latches.rest) (λ outputs.
    and_then (section (gate_line Transition) n.ands outputs.rest) (λ gates.
    got (record {
      variables = n.max_variable;
      inputs = inputs.items;
      latches = latches.items;
      outputs = outputs.items;
      gates = gates.items;
    })))))

-- R9.8, R9.11: the model that the lines after the header write
abbrev pub model_of : Counts → List Bytes → Answer Circuit
model_of n ls = and_then (sections_of n ls) (λ c. unless 11 (well_defined c) (got c))

-- R9.5, R9.7, R9.8, R9.11: what follows a header, with g gate words, at least 3A, and w work words, more than M
abbrev pub body_of : ℕ → ℕ → List Bytes → Counts → Answer Circuit
body_of g w ls n =
    unless 5 (counted n)
    (unless 7 (leb (3 * n.ands) g)
    (unless 7 (ltb n.max_variable w)
    (model_of n ls)))

-- R5.1, R9.7: the model that a text writes, or the first number that applies, with g gate words and w work words
unfoldable pub read_transition : Bytes → ℕ → ℕ → Answer Circuit
read_transition t g w =
    unless 3 (good_text limited Transition t) (and_then (header_of (lines_of t)) (body_of g w (drop 1 (lines_of t))))

-- R10.3: what the call returns: the model's record, or the number of a refusal
abbrev pub read_of : Answer Circuit → Answer AigerTransition
read_of (got c) = got (record_of c)
read_of (refused n) = refused n

-- R10.4: the gate words after the call: the model's in front and the rest as it was; all as they were where it refuses
abbrev pub gates_after : Answer Circuit → List ℕ → List ℕ
gates_after (got c) g = front g (words_of_gates c)
gates_after (refused n) g = g

-- R16.1: the promise of the call, where `answer` is the model or the first number: what it returns, the gate and the work words after it
pub record Reads (answer : Answer Circuit) (gates : List ℕ) (work : ℕ) (r : Result AigerTransition Refusal) (gates' work' : List ℕ) : Type 0 where
  pub returns : answered r ≡ read_of answer
  pub writes : gates' ≡ gates_after answer gates
  pub clears : work' ≡ zeros work
