-- Which literal of the model an input or a latch of a witness maps to (R8.2, R8.3), and when a name's literal is wrong (R9.16).
use Rattle.std.specs.Prelude.{ℕ, suc, ◌+◌, ◌*◌, Bool, true, false, cond, not, ◌&&◌, leb, ltb, length, drop, Some, None}
use Rattle.std.specs.declared.option.Option as option
use Rattle.std.proofs.Math.Option.{Option, some, none}
use Rattle.lists.specs.Quoted.{bytes}
use Rattle.lists.specs.Bits.{odd}
use Rattle.lists.specs.Parts.{Bytes}
use Rattle.lists.specs.Tests.{any}
use Rattle.scan.specs.Same.{begins_with}
use Rattle.text.specs.declared.Reader.TheVariants.{Witness}
use Rattle.text.specs.Numbers.{number_of}
use Rattle.aiger.specs.Gates.{variable}
use Rattle.witness_read.specs.Sections.{Sections, names_in}
use Rattle.compose_spec.specs.declared.ModelLeaves.{ModelLeaves}
use Rattle.compose_spec.specs.declared.Mapping.{Mapping}
use Rattle.compose_spec.specs.declared.Mapping.TheVariants.{Private, Onto, Wrong}

-- the two bytes of `= `
abbrev pub equals : Bytes
equals = bytes "= "

-- a name that begins with `= `
abbrev pub is_mapped : Option Bytes → Bool
is_mapped none = false
is_mapped (some name) = begins_with name equals

-- R8.2: the witness maps by name, since the name of one of its inputs or latches begins so
abbrev pub maps_by_name : Sections → Bool
maps_by_name w = any is_mapped (names_in w)

-- R9.16: an even literal of one of these inputs, or latches, of the model
abbrev pub is_of : ModelLeaves → ℕ → Bool
is_of p l = not (odd l) && (ltb p.before (variable l) && leb (variable l) (p.before + p.count))

-- R9.16, of the number behind `= `
abbrev pub onto_number : ModelLeaves → option.Option ℕ → Mapping
onto_number p None = Wrong
onto_number p (Some l) = cond (is_of p l) (Onto l) Wrong

-- R8.2: what a name maps to, in a witness that maps by name
abbrev pub by_name : ModelLeaves → Option Bytes → Mapping
by_name p none = Private
by_name p (some name) = cond (begins_with name equals) (onto_number p (number_of Witness (drop 2 name))) Private

-- R8.3: onto number k of the model, counted from 0, or private where the model has none
abbrev pub by_position : ModelLeaves → ℕ → Mapping
by_position p k = cond (ltb k p.count) (Onto (2 * suc (p.before + k))) Private

-- what input, or latch, number k of a witness maps to; `named` says whether the witness maps by name
abbrev pub mapping_of : ModelLeaves → Bool → ℕ → Option Bytes → Mapping
mapping_of p true k name = by_name p name
mapping_of p false k name = by_position p k

-- the inputs of the model m, and its latches
abbrev pub model_inputs : Sections → ModelLeaves
model_inputs m = record { before = 0; count = length m.inputs }

abbrev pub model_latches : Sections → ModelLeaves
model_latches m = record { before = length m.inputs; count = length m.latches }
