-- For the contracts of the composer's inner functions: leaves numbered at their first appearance, and sets of composed literals, in lent words.
use Rattle.std.specs.Prelude.{ℕ, ◌+◌, ◌*◌, ◌/◌, ◌≤◌, ◌<◌, false, cond, List, map, ◌≡◌, eqb, length, get_or, set, Option, Some, None}
use Rattle.lists.specs.Bits.{odd}
use Rattle.lists.specs.Parts.{zeros}
use Rattle.lists.specs.Sets.{set_of}
use Rattle.text_print.specs.Inner.Elements.{elements}
use Rattle.compose_spec.specs.Sharing.{translate}
use Rattle.compose_joint.specs.Inner.Numbers.{slot, number_all}
use Rattle.compose_gates.specs.Inner.Linked.{Translatable}

-- ---- one leaf

-- an origin word, where it is even, is a literal whose variable has a word among the `size` words of the assigned numbers
abbrev pub HasSlot : (before size x : ℕ) → Type 0
HasSlot before size x = odd x ≡ false → (before < x / 2) × (x / 2 ≤ before + size)

-- what a leaf has: its number, if it has one already, and the assigned numbers afterwards
pub record Known : Type 0 where
  pub assigned : List ℕ
  pub number : Option ℕ

abbrev pub known : List ℕ → Option ℕ → Known
known assigned number = record { assigned = assigned; number = number }

-- An odd origin word has none. An even one has that among the assigned numbers, where it is not 0; else the next number is stored there.
abbrev pub known_one : (before x next : ℕ) → List ℕ → Known
known_one before x next assigned =
    cond (odd x) (known assigned None)
    (cond (eqb (get_or assigned (slot before x) 0) 0) (known (set assigned (slot before x) next) None) (known assigned (Some (get_or assigned (slot before x) 0))))

abbrev pub KnownNumber : (before x next : ℕ) (assigned assigned' : List ℕ) (r : Option ℕ) → Type 0
KnownNumber before x next assigned assigned' r = known assigned' r ≡ known_one before x next assigned

-- ---- all leaves

-- each even origin word has a word among the assigned numbers, and there is room for a number of each
pub record CanNumber (origins assigned : List ℕ) (before : ℕ) (numbers : List ℕ) (next : ℕ) : Type 0 where
  pub room : length numbers ≡ length origins
  pub few : next + length origins < 1073741824
  pub each : (i : ℕ) → i < length origins → HasSlot before (length assigned) (get_or origins i 0)

-- The promise: the next number, the assigned numbers and the numbers are those of `number_all`.
pub record Numbered (origins assigned : List ℕ) (before next : ℕ) (assigned' numbers' : List ℕ) (r : ℕ) : Type 0 where
  pub returns : r ≡ (number_all before next origins assigned).next
  pub stored : assigned' ≡ (number_all before next origins assigned).assigned
  pub numbered : numbers' ≡ (number_all before next origins assigned).numbers

-- ---- sets of composed literals

-- the composed literals of joint ones
abbrev pub composed_in : (literals vars : List ℕ) → List ℕ
composed_in literals vars = map (translate vars) literals

-- a literal that can be translated, whose composed literal has a bit among so many words
pub record Addable (vars : List ℕ) (words l : ℕ) : Type 0 where
  pub literal : Translatable vars l
  pub below : translate vars l < 64 * words

-- joint literals, composed variables, and an empty set
pub record CanAdd (literals vars set : List ℕ) : Type 0 where
  pub empty : set ≡ zeros (length set)
  pub each : (i : ℕ) → i < length literals → Addable vars (length set) (get_or literals i 0)

-- The promise: the set has the composed literals, and r is how many they are.
pub record Added (literals vars set : List ℕ) (r : ℕ) : Type 0 where
  pub is : elements set ≡ set_of (composed_in literals vars)
  pub returns : r ≡ length (set_of (composed_in literals vars))
