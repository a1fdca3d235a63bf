-- The section lines of a witness text (R4; refusal R9.8), and which literals they may have (R9.11). Where variables are defined one after
-- the other, none is defined twice.
use Rattle.std.specs.Prelude.{ℕ, ◌+◌, ◌*◌, Bool, List, [], ◌∷◌, eqb}
use Rattle.lists.specs.Answer.{Answer, got, and_then}
use Rattle.lists.specs.Parts.{Bytes}
use Rattle.lists.specs.Tests.{all, all_from, every}
use Rattle.text.specs.declared.Reader.TheVariants.{Witness}
use Rattle.aiger.specs.declared.Gate.{Gate}
use Rattle.aiger.specs.Defined.{literal, ordered}
use Rattle.aiger.specs.Sections.{section}
use Rattle.circuit_lines.specs.SectionLines.{literal_line, gate_line}
use Rattle.witness_text.specs.declared.AagCounts.{AagCounts}
use Rattle.witness_text.specs.declared.Latch.{Latch}
use Rattle.witness_text.specs.LatchLines.{latch_line}

-- R4.13: the section lines as they stand, and the lines after them
pub record Body : Type 0 where
  pub inputs : List ℕ
  pub latches : List Latch
  pub outputs : List ℕ
  pub bads : List ℕ
  pub constraints : List ℕ
  pub gates : List Gate
  pub rest : List Bytes

-- R4.13, R9.8: the sections of so many lines, in the order of the file
abbrev pub body_of : AagCounts → List Bytes → Answer Body
body_of n ls =
    and_then (section (literal_line Witness) n.inputs ls) (λ inputs.
    and_then (section latch_line n.latches inputs.rest) (λ latches.
    and_then (section (literal_line Witness) n.outputs latches.rest) (λ outputs.
    and_then (section (literal_line Witness) n.bads outputs.rest) (λ bads.
    and_then (section (literal_line Witness) n.constraints bads.rest) (λ constraints.
    and_then (section (gate_line Witness) n.gates constraints.rest) (λ gates.
    got (record {
      inputs = inputs.items;
      latches = latches.items;
      outputs = outputs.items;
      bads = bads.items;
      constraints = constraints.items;
      gates = gates.items;
      rest = gates.rest;
    })))))))

-- R4.5: the literal that defines variable k
abbrev pub defines : ℕ → ℕ → Bool
defines k l = eqb l (2 * k)

-- R4.5, R4.7, R4.13: the latch of variable k, with next and reset literals at most 2M + 1
unfoldable pub latch_numbered : ℕ → ℕ → Latch → Bool
latch_numbered most k q = every (defines k q.current ∷ literal most q.next ∷ literal most q.reset ∷ [])

-- R4.5, R4.6: the gate of variable k, with operands of smaller variables
unfoldable pub gate_numbered : ℕ → Gate → Bool
gate_numbered k g = every (defines k g.output ∷ ordered g ∷ [])

-- R4.5, R9.11: inputs, latches and gates define the variables 1, 2, .. in this order, up to M by R4.4, and no literal is above 2M + 1
unfoldable pub well_numbered : AagCounts → Body → Bool
well_numbered n d =
    every
    (all_from defines 1 d.inputs
    ∷ all_from (latch_numbered n.max_variable) (n.inputs + 1) d.latches
    ∷ all (literal n.max_variable) d.outputs
    ∷ all (literal n.max_variable) d.bads
    ∷ all (literal n.max_variable) d.constraints
    ∷ all_from gate_numbered (n.inputs + n.latches + 1) d.gates
    ∷ [])
