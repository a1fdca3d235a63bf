-- For the contracts of the functions that check definitions one by one: the marks in the work slice, a bit for each variable that was defined so far.
use Rattle.std.specs.Prelude.{ℕ, ◌+◌, ◌*◌, ◌≤◌, ◌<◌, Bool, true, ◌&&◌, List, [], ◌∷◌, ◌++◌, map, ◌≡◌, length, take, leb}
use Rattle.lists.specs.Parts.{zeros}
use Rattle.lists.specs.Sets.{holds, Marked}
use Rattle.lists.specs.Tests.{all}
use Rattle.aiger.specs.declared.Gate.{Gate}
use Rattle.aiger.specs.Gates.{variable}
use Rattle.aiger.specs.Defined.{literal, definitions, defined}
use Rattle.model.specs.declared.AigerLatch.{AigerLatch}
use Rattle.model.specs.declared.Counts.{Counts}
use Rattle.model.specs.declared.AigerTransition.{AigerTransition}
use Rattle.model.specs.Circuit.{current_of, next_of}
use Rattle.model.specs.Limits.{counted}
use Rattle.model.specs.Checked.{counts_of}

-- `fine` says whether the definitions so far hold, and as long as they do the bits of the work words are their variables
pub record Marking (most : ℕ) (work leaves : List ℕ) (gates : List Gate) (fine : Bool) : Type 0 where
  pub says : fine ≡ defined most leaves gates
  pub marks : fine ≡ true → Marked (most + 1) (holds work) (map variable (definitions leaves gates))
  pub room : most < 64 * length work

-- whatever was defined before, these literals are checked and marked after it
abbrev pub AddsLeaves : ℕ → List ℕ → List ℕ → List ℕ → Bool → Type 0
AddsLeaves most work literals work' r = (leaves : List ℕ) → Marking most work leaves [] true → Marking most work' (leaves ++ literals) [] r

-- so is this gate
abbrev pub AddsGate : ℕ → List ℕ → Gate → List ℕ → Bool → Type 0
AddsGate most work g work' r = (leaves : List ℕ) (gates : List Gate) → Marking most work leaves gates true → Marking most work' leaves (gates ++ g ∷ []) r

-- so are these gates, after leaves of which `fine` says whether they hold
abbrev pub AddsGates : ℕ → List ℕ → Bool → List Gate → List ℕ → Bool → Type 0
AddsGates most work fine gates work' r = (leaves : List ℕ) → Marking most work leaves [] fine → Marking most work' leaves gates r

-- the limits that hold where definitions are checked, with no bit set in the work words
pub record Checkable (most count : ℕ) (g work : List ℕ) : Type 0 where
  pub words : 3 * count ≤ length g
  pub room : most < length work
  pub clear : work ≡ zeros (length work)

-- of a record's parts: the literals of inputs and latches, and whether the other literals are within 2M + 1
abbrev pub leaves_from : Counts → List ℕ → List AigerLatch → List ℕ
leaves_from n inputs latches = take n.inputs inputs ++ map current_of (take n.latches latches)

abbrev pub literals_from : Counts → List AigerLatch → List ℕ → Bool
literals_from n latches outputs = all (literal n.max_variable) (map next_of (take n.latches latches)) && all (literal n.max_variable) (take n.outputs outputs)

-- the same of a record
abbrev pub leaves_of_record : AigerTransition → List ℕ
leaves_of_record m = leaves_from (counts_of m) m.inputs m.latches

abbrev pub literals_of_record : AigerTransition → Bool
literals_of_record m = literals_from (counts_of m) m.latches m.outputs

-- R9.11: the tests of a record that come before its definitions, with so many gates beside it
unfoldable pub limited : AigerTransition → ℕ → Bool
limited m gates =
    counted (counts_of m)
    && (leb m.input_count (length m.inputs)
    && (leb m.output_count (length m.outputs)
    && (leb m.and_count gates
    && literals_of_record m)))
