-- For the contracts of the composer's inner functions: all witnesses side by side, as one circuit with joint variables. The constant has the joint
-- variable 0; then come the inputs of all witnesses, the latches of all, the gates of all.
use Rattle.std.specs.Prelude.{ℕ, suc, ◌+◌, ◌-◌, ◌*◌, ◌%◌, Bool, cond, List, [], ◌∷◌, ◌++◌, map, eqb, leb, length}
use Rattle.std.proofs.Math.Option.{Option}
use Rattle.lists.specs.Parts.{Bytes}
use Rattle.lists.specs.Words.{words_of}
use Rattle.aiger.specs.Gates.{variable}
use Rattle.witness_text.specs.declared.AagCounts.{AagCounts}
use Rattle.witness_read.specs.Sections.{Sections, leaves, latch_names}
use Rattle.witness_load.specs.Inner.Loaded.{latch_words, operand_words}
use Rattle.compose_spec.specs.declared.ModelLeaves.{ModelLeaves}
use Rattle.compose_spec.specs.declared.Mapping.{Mapping}
use Rattle.compose_spec.specs.declared.Mapping.TheVariants as mapping
use Rattle.compose_spec.specs.Mapping.{maps_by_name, mapping_of, model_inputs, model_latches}
use Rattle.compose_spec.specs.Numbering.{Entry, private_input, private_latch, input_entries, latch_entries}
use Rattle.compose_spec.specs.Composing.{safety}
use Rattle.compose_joint.specs.declared.Shift.{Shift}
use Rattle.compose_joint.specs.declared.Before.{Before}
use Rattle.compose_joint.specs.declared.Literals.{Literals}
use Rattle.compose_joint.specs.declared.Literals.TheVariants as literals
use Rattle.compose_joint.specs.declared.Leaves.{Leaves}
use Rattle.compose_joint.specs.declared.Leaves.TheVariants as leaf

-- a number of each witness, all together
abbrev pub total_of : (Sections → ℕ) → List Sections → ℕ
total_of count [] = 0
total_of count (s ∷ ss) = count s + total_of count ss

abbrev pub input_count : Sections → ℕ
input_count s = length s.inputs

abbrev pub latch_count : Sections → ℕ
latch_count s = length s.latches

abbrev pub gate_count : Sections → ℕ
gate_count s = length s.gates

-- ---- joint variables and literals

abbrev pub shifted : Shift → ℕ → ℕ
shifted h x =
    cond (eqb x 0) 0
    (cond (leb x h.inputs) (x + h.by_input)
    (cond (leb x h.leaves) (x + h.by_latch)
    (x + h.by_gate)))

abbrev pub shifted_literal : Shift → ℕ → ℕ
shifted_literal h l = 2 * shifted h (variable l) + l % 2

abbrev pub nothing_before : Before
nothing_before = record { inputs = 0; latches = 0; gates = 0 }

-- what stands before the next witness
abbrev pub beyond : Before → Sections → Before
beyond b s = record { inputs = b.inputs + input_count s; latches = b.latches + latch_count s; gates = b.gates + gate_count s }

-- the shift of the witness s, where there are i inputs and q latches in all
abbrev pub shift_of : ℕ → ℕ → Before → Sections → Shift
shift_of i q b s =
    record {
      inputs = input_count s;
      leaves = leaves s;
      by_input = b.inputs;
      by_latch = i + b.latches - input_count s;
      by_gate = i + q + b.gates - leaves s;
    }

-- words of each witness, one list after the other; w counts the witnesses before, and b what they have
abbrev pub gathered_from : (ℕ → Before → Sections → List ℕ) → ℕ → Before → List Sections → List ℕ
gathered_from words w b [] = []
gathered_from words w b (s ∷ ss) = words w b s ++ gathered_from words (suc w) (beyond b s) ss

abbrev pub gathered : (ℕ → Before → Sections → List ℕ) → List Sections → List ℕ
gathered words ws = gathered_from words 0 nothing_before ws

-- a list of literals of a witness as joint literals, where there are i inputs and q latches in all
abbrev pub joint_literals : (Sections → List ℕ) → ℕ → ℕ → ℕ → Before → Sections → List ℕ
joint_literals list i q w b s = map (shifted_literal (shift_of i q b s)) (list s)

-- those of all witnesses
abbrev pub joint : (Sections → List ℕ) → List Sections → List ℕ
joint list ws = gathered (joint_literals list (total_of input_count ws) (total_of latch_count ws)) ws

abbrev pub list_of : Literals → Sections → List ℕ
list_of literals.Latches s = words_of latch_words s.latches
list_of literals.Safety s = safety s
list_of literals.Constraints s = s.constraints
list_of literals.Operands s = words_of operand_words s.gates

-- ---- inputs and latches

abbrev pub names_of : Leaves → Sections → List (Option Bytes)
names_of leaf.Inputs s = s.inputs
names_of leaf.Latches s = latch_names s

-- how many inputs, or latches, a text with these counts has, and where their names begin among its words
abbrev pub leaf_counts : Leaves → AagCounts → ℕ
leaf_counts leaf.Inputs n = n.inputs
leaf_counts leaf.Latches n = n.latches

abbrev pub names_before : Leaves → AagCounts → ℕ
names_before leaf.Inputs n = 0
names_before leaf.Latches n = 2 * n.inputs

-- the byte that begins the symbol lines: `i` or `l`
abbrev pub kind_of : Leaves → ℕ
kind_of leaf.Inputs = 105
kind_of leaf.Latches = 108

abbrev pub model_of : Leaves → Sections → ModelLeaves
model_of leaf.Inputs m = model_inputs m
model_of leaf.Latches m = model_latches m

-- what stands for a private name where there is none
abbrev pub unnamed_of : Leaves → Bytes
unnamed_of leaf.Inputs = private_input
unnamed_of leaf.Latches = private_latch

-- the entries of all witnesses in their order; the first witness has the index w
abbrev pub entries_of : Leaves → Sections → ℕ → List Sections → List Entry
entries_of leaf.Inputs m w ws = input_entries m w ws
entries_of leaf.Latches m w ws = latch_entries m w ws

-- what one of them is, as a word: the literal of the model, which is even, or an odd number that says the index w of the only witness that has it
abbrev pub origin_word : ℕ → Mapping → ℕ
origin_word w mapping.Private = 2 * w + 1
origin_word w (mapping.Onto l) = l
origin_word w mapping.Wrong = 2 * w + 1

-- those of witness w from number k on
abbrev pub origins_from : ModelLeaves → ℕ → Bool → ℕ → List (Option Bytes) → List ℕ
origins_from p w named k [] = []
origins_from p w named k (name ∷ names) = origin_word w (mapping_of p named k name) ∷ origins_from p w named (suc k) names

-- those of witness w
abbrev pub joint_origins : Leaves → Sections → ℕ → Before → Sections → List ℕ
joint_origins leaf m w b s = origins_from (model_of leaf m) w (maps_by_name s) 0 (names_of leaf s)

-- those of all witnesses
abbrev pub origins : Leaves → Sections → List Sections → List ℕ
origins leaf m ws = gathered (joint_origins leaf m) ws
