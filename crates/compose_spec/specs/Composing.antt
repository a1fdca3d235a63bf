-- R8 on sections: the composition of the witnesses ws for the model m, or the first of R9.16 to R9.19.
use Rattle.std.specs.Prelude.{ℕ, suc, ◌+◌, Bool, true, false, cond, ◌&&◌, List, [], ◌∷◌, map, eqb, leb, length, get_or}
use Rattle.std.proofs.Math.Option.{Option, some}
use Rattle.lists.specs.Answer.{Answer, got, unless}
use Rattle.lists.specs.Parts.{Bytes}
use Rattle.lists.specs.Tests.{all, all_from}
use Rattle.lists.specs.Sets.{set_of}
use Rattle.lists.specs.Words.{words_of}
use Rattle.witness_read.specs.Sections.{NamedLatch, Sections, latch_names}
use Rattle.compose_spec.specs.declared.ModelLeaves.{ModelLeaves}
use Rattle.compose_spec.specs.declared.Mapping.{Mapping}
use Rattle.compose_spec.specs.declared.Mapping.TheVariants.{Private, Onto, Wrong}
use Rattle.compose_spec.specs.Mapping.{maps_by_name, mapping_of, model_inputs, model_latches}
use Rattle.compose_spec.specs.Numbering.{Entry, input_firsts, latch_firsts, Placed, placed, leaf_count}
use Rattle.compose_spec.specs.Sharing.{translate, Operands, gates_after, whole_after, gates_from}

-- ---- R9.16

abbrev pub is_right : Mapping → Bool
is_right Private = true
is_right (Onto l) = true
is_right Wrong = false

-- no input, or latch, of a witness has a wrong literal
abbrev pub leaves_right : ModelLeaves → Bool → List (Option Bytes) → Bool
leaves_right p named names = all_from (λ k name. is_right (mapping_of p named k name)) 0 names

abbrev pub maps_right : Sections → Sections → Bool
maps_right m s = leaves_right (model_inputs m) (maps_by_name s) s.inputs && leaves_right (model_latches m) (maps_by_name s) (latch_names s)

-- ---- gates

-- the composed gates: the first has the variable after all inputs and latches
abbrev pub composed_gates : Sections → List Sections → List Operands
composed_gates m ws = gates_after (suc (leaf_count m ws)) (placed m ws) []

-- each witness with the composed variables of all its variables
abbrev pub whole : Sections → List Sections → List Placed
whole m ws = whole_after (suc (leaf_count m ws)) (placed m ws) []

-- R9.17: no new gate is beyond variable 2,000,000. The last one has the largest; inputs and latches alone may be more.
abbrev pub gates_fit : ℕ → List Operands → Bool
gates_fit leaves [] = true
gates_fit leaves (g ∷ gs) = leb (leaves + length (g ∷ gs)) 2000000

-- ---- latches

-- a witness's latch in the literals of the composition
pub record Defined : Type 0 where
  pub variable : ℕ
  pub next : ℕ
  pub reset : ℕ

-- the latches of a witness; the first has the witness's variable x
abbrev pub defined_from : List ℕ → ℕ → List NamedLatch → List Defined
defined_from vars x [] = []
defined_from vars x (q ∷ qs) =
    record { variable = get_or vars x 0; next = translate vars q.next; reset = translate vars q.reset } ∷ defined_from vars (suc x) qs

abbrev pub defined_in : Placed → List Defined
defined_in p = defined_from p.vars (suc (length p.sections.inputs)) p.sections.latches

abbrev pub all_defined : List Placed → List Defined
all_defined ps = words_of defined_in ps

-- the first definition of the composed variable x
abbrev pub definition_of : ℕ → List Defined → Defined
definition_of x [] = record { variable = x; next = 0; reset = 0 }
definition_of x (d ∷ ds) = cond (eqb d.variable x) d (definition_of x ds)

abbrev pub same_defined : Defined → Defined → Bool
same_defined d e = eqb d.next e.next && eqb d.reset e.reset

-- R9.18: all definitions of a latch are as its first
abbrev pub agree : List Defined → Bool
agree ds = all (λ d. same_defined (definition_of d.variable ds) d) ds

-- the composed latches; the first has the variable x
abbrev pub composed_latches : ℕ → List Entry → List Defined → List NamedLatch
composed_latches x [] ds = []
composed_latches x (e ∷ es) ds =
    record { next = (definition_of x ds).next; reset = (definition_of x ds).reset; name = some e.name } ∷ composed_latches (suc x) es ds

-- ---- safety and constraints

abbrev pub or_outputs : List ℕ → List ℕ → List ℕ
or_outputs [] outputs = outputs
or_outputs (b ∷ bs) outputs = b ∷ bs

-- R8.6: the safety literals of a witness
abbrev pub safety : Sections → List ℕ
safety s = or_outputs s.bads s.outputs

-- R9.19: there is a safety literal
abbrev pub is_some : List ℕ → Bool
is_some [] = false
is_some (l ∷ ls) = true

-- R8.7: a list of each witness in the literals of the composition, as one set in rising order
abbrev pub literals_of : (Sections → List ℕ) → List Placed → List ℕ
literals_of list ps = set_of (words_of (λ p. map (translate p.vars) (list p.sections)) ps)

-- ---- the composition

-- R8: inputs and latches at their first appearance, no outputs (R8.9), bads, constraints and shared gates
abbrev pub composed : Sections → List Sections → Sections
composed m ws =
    record {
      inputs = map (λ e. some e.name) (input_firsts m ws);
      latches = composed_latches (suc (length (input_firsts m ws))) (latch_firsts m ws) (all_defined (whole m ws));
      outputs = [];
      bads = literals_of safety (whole m ws);
      constraints = literals_of (λ s. s.constraints) (whole m ws);
      gates = gates_from (suc (leaf_count m ws)) (composed_gates m ws);
    }

-- the composition, or the first number that applies, each over all witnesses
unfoldable pub compose : Sections → List Sections → Answer Sections
compose m ws =
    unless 16 (all (maps_right m) ws)
    (unless 17 (gates_fit (leaf_count m ws) (composed_gates m ws))
    (unless 18 (agree (all_defined (whole m ws)))
    (unless 19 (all (λ s. is_some (safety s)) ws)
    (got (composed m ws)))))
