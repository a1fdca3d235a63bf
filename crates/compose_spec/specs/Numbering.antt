-- How composed variables are numbered (R8.4), and what inputs and latches are called (R8.8). Gates: Sharing.
use Rattle.std.specs.Prelude.{ℕ, suc, ◌+◌, Bool, false, ◌&&◌, List, [], ◌∷◌, ◌++◌, map, eqb, length}
use Rattle.std.proofs.Math.Option.{Option, some, none}
use Rattle.lists.specs.Quoted.{bytes}
use Rattle.lists.specs.Firsts.{place, appearing}
use Rattle.lists.specs.Parts.{Bytes}
use Rattle.text_decimal.specs.Decimal.{decimal}
use Rattle.witness_read.specs.Sections.{Sections, latch_names}
use Rattle.compose_spec.specs.declared.ModelLeaves.{ModelLeaves}
use Rattle.compose_spec.specs.declared.Mapping.{Mapping}
use Rattle.compose_spec.specs.declared.Mapping.TheVariants.{Private, Onto, Wrong}
use Rattle.compose_spec.specs.Mapping.{equals, maps_by_name, mapping_of, model_inputs, model_latches}

-- Which input (or latch) of the composition one of a witness is: that of a literal of the model, or that of number k of witness w alone.
pub data Key : Type 0 where
  shared : ℕ → Key
  alone : ℕ → ℕ → Key

abbrev pub same_key : Key → Key → Bool
same_key (shared l) (shared m) = eqb l m
same_key (shared l) (alone w k) = false
same_key (alone w k) (shared l) = false
same_key (alone w k) (alone x m) = eqb w x && eqb k m

-- an input, or latch, as it appears in a witness, with the name that the composition gives it
pub record Entry : Type 0 where
  pub key : Key
  pub name : Bytes

abbrev pub same_entry : Entry → Entry → Bool
same_entry a b = same_key a.key b.key

-- the bytes of `private-input` and of `private-latch`
abbrev pub private_input : Bytes
private_input = bytes "private-input"

abbrev pub private_latch : Bytes
private_latch = bytes "private-latch"

-- a name, or what stands for it where there is none; an empty name is one
abbrev pub or_else : Bytes → Option Bytes → Bytes
or_else unnamed none = unnamed
or_else unnamed (some name) = name

-- R8.8: the byte 119, the number of the witness, the byte 58, and the name or what stands for it
abbrev pub private_name : Bytes → ℕ → Option Bytes → Bytes
private_name unnamed w name = 119 ∷ (decimal w ++ 58 ∷ or_else unnamed name)

-- R8.9: the name of a shared one: `= ` and the literal of the model
abbrev pub shared_name : ℕ → Bytes
shared_name l = equals ++ decimal l

-- number k of witness w, by what it maps to (a wrong literal is refused before anything is made of it)
abbrev pub entry_of : Bytes → ℕ → ℕ → Option Bytes → Mapping → Entry
entry_of unnamed w k name (Onto l) = record { key = shared l; name = shared_name l }
entry_of unnamed w k name Private = record { key = alone w k; name = private_name unnamed w name }
entry_of unnamed w k name Wrong = record { key = alone w k; name = private_name unnamed w name }

-- those of witness w from number k on
abbrev pub entries_from : ModelLeaves → Bytes → ℕ → Bool → ℕ → List (Option Bytes) → List Entry
entries_from p unnamed w named k [] = []
entries_from p unnamed w named k (name ∷ names) =
    entry_of unnamed w k name (mapping_of p named k name) ∷ entries_from p unnamed w named (suc k) names

-- the inputs of witness w, and its latches
abbrev pub inputs_in : Sections → ℕ → Sections → List Entry
inputs_in m w s = entries_from (model_inputs m) private_input w (maps_by_name s) 0 s.inputs

abbrev pub latches_in : Sections → ℕ → Sections → List Entry
latches_in m w s = entries_from (model_latches m) private_latch w (maps_by_name s) 0 (latch_names s)

-- those of all witnesses in their order; the first witness has the index w
abbrev pub input_entries : Sections → ℕ → List Sections → List Entry
input_entries m w [] = []
input_entries m w (s ∷ ss) = inputs_in m w s ++ input_entries m (suc w) ss

abbrev pub latch_entries : Sections → ℕ → List Sections → List Entry
latch_entries m w [] = []
latch_entries m w (s ∷ ss) = latches_in m w s ++ latch_entries m (suc w) ss

-- the composition's inputs, and its latches, in the order of first appearance
abbrev pub input_firsts : Sections → List Sections → List Entry
input_firsts m ws = appearing same_entry [] (input_entries m 0 ws)

abbrev pub latch_firsts : Sections → List Sections → List Entry
latch_firsts m ws = appearing same_entry [] (latch_entries m 0 ws)

-- the composed variable of an entry, where the entries `firsts` have the variables n, n + 1, ..
abbrev pub numbered : ℕ → List Entry → Entry → ℕ
numbered n firsts e = n + place same_entry e firsts

-- R8.4: a witness, and the composed variable of each of its variables 0, 1, ..: the constant stays 0; inputs; latches. (Gates: Sharing.)
pub record Placed : Type 0 where
  pub sections : Sections
  pub vars : List ℕ

abbrev pub placed_from : Sections → List Entry → List Entry → ℕ → List Sections → List Placed
placed_from m is qs w [] = []
placed_from m is qs w (s ∷ ss) =
    record {
      sections = s;
      vars = 0 ∷ (map (numbered 1 is) (inputs_in m w s) ++ map (numbered (suc (length is)) qs) (latches_in m w s));
    }
    ∷ placed_from m is qs (suc w) ss

-- each witness with the composed variables of its inputs and latches
abbrev pub placed : Sections → List Sections → List Placed
placed m ws = placed_from m (input_firsts m ws) (latch_firsts m ws) 0 ws

-- how many inputs and latches the composition has
abbrev pub leaf_count : Sections → List Sections → ℕ
leaf_count m ws = length (input_firsts m ws) + length (latch_firsts m ws)
