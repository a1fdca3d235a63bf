-- For the contracts of the functions that map inputs and latches onto the model's.
use Rattle.std.specs.Prelude.{ℕ, ◌+◌, ◌*◌, ◌≤◌, ◌<◌, Bool, true, false, List, map, ◌≡◌, length, drop, Option, Some, None}
use Rattle.std.proofs.Math.Option as math
use Rattle.lists.specs.Parts.{Bytes, put}
use Rattle.lists.specs.Tests.{any, all}
use Rattle.lists.specs.Words.{pairs_of}
use Rattle.witness_text.specs.declared.AagCounts.{AagCounts}
use Rattle.witness_read.specs.Sections.{Sections}
use Rattle.witness_read.specs.Reading.{counts_in}
use Rattle.witness_load.specs.Inner.Loaded.{name_from}
use Rattle.compose_spec.specs.declared.ModelLeaves.{ModelLeaves}
use Rattle.compose_spec.specs.Mapping.{is_mapped, maps_by_name}
use Rattle.compose_spec.specs.Composing.{leaves_right}
use Rattle.compose_joint.specs.declared.Before.{Before}
use Rattle.compose_joint.specs.declared.Leaves.{Leaves}
use Rattle.compose_joint.specs.Inner.Joint.{total_of, gathered, names_of, origins_from, leaf_counts}
use Rattle.compose_gather.specs.Inner.Gathered.{words_for, Block, Readable, CanGather, leaf_count_of}

-- few inputs, or latches, so that the literal of number k is a word
pub record FewLeaves (p : ModelLeaves) (k : ℕ) : Type 0 where
  pub model : p.before + p.count < 1073741824
  pub number : k < 1073741824

-- pairs of words say these names
abbrev pub SaysNames : Bytes → List ℕ → List (math.Option Bytes) → Type 0
SaysNames t words names = pairs_of (name_from t) words ≡ map math.some names

pub record SayNames (t : Bytes) (words : List ℕ) : Type 0 where
  pub names : List (math.Option Bytes)
  pub say : SaysNames t words names

abbrev pub AnyMapped : Bytes → List ℕ → Bool → Type 0
AnyMapped t words r = (names : List (math.Option Bytes)) → SaysNames t words names → r ≡ any is_mapped names

-- pairs of words say names, and there are as many words for origins
pub record CanMap (p : ModelLeaves) (t : Bytes) (words : List ℕ) (w : ℕ) (origins : List ℕ) : Type 0 where
  pub few : FewLeaves p (length origins)
  pub witness : w < 64
  pub names : SayNames t words
  pub count : length words ≡ 2 * length origins

-- nothing where a literal is wrong, else the origins
abbrev pub OriginsIf : Option (Unit {0}) → ModelLeaves → ℕ → Bool → List (math.Option Bytes) → List ℕ → Type 0
OriginsIf (Some e) p w named names origins = (leaves_right p named names ≡ true) × (origins ≡ origins_from p w named 0 names)
OriginsIf None p w named names origins = leaves_right p named names ≡ false

abbrev pub StoresOrigins : ModelLeaves → Bytes → List ℕ → Bool → ℕ → List ℕ → Option (Unit {0}) → Type 0
StoresOrigins p t words named w origins r = (names : List (math.Option Bytes)) → SaysNames t words names → OriginsIf r p w named names origins

-- ---- one witness

-- the words of a text stand from a place on
pub record CanTest (t : Bytes) (n : AagCounts) (work : List ℕ) (from : ℕ) : Type 0 where
  pub sections : Sections
  pub counts : n ≡ counts_in sections
  pub block : Block t sections (drop from work)
  pub room : from + words_for n ≤ length work

pub record TestsWitness (t : Bytes) (n : AagCounts) (work : List ℕ) (from : ℕ) (r : Bool) : Type 0 where
  pub tests : (s : Sections) → n ≡ counts_in s → Block t s (drop from work) → r ≡ maps_by_name s

-- the words of witness w stand from one place on, and there is room for its origins from another place on
pub record CanMapWitness (p : ModelLeaves) (leaves : Leaves) (t : Bytes) (n : AagCounts) (work : List ℕ) (from w to : ℕ) : Type 0 where
  pub sections : Sections
  pub counts : n ≡ counts_in sections
  pub block : Block t sections (drop from work)
  pub few : FewLeaves p (n.inputs + n.latches)
  pub witness : w < 64
  pub behind : from + words_for n ≤ to
  pub room : to + leaf_counts leaves n ≤ length work

-- the origins of the inputs, or latches, of witness w
abbrev pub origins_by : ModelLeaves → Leaves → ℕ → Before → Sections → List ℕ
origins_by p leaves w b s = origins_from p w (maps_by_name s) 0 (names_of leaves s)

abbrev pub right_by : ModelLeaves → Leaves → Sections → Bool
right_by p leaves s = leaves_right p (maps_by_name s) (names_of leaves s)

-- 16 of one witness, or its origins and the place after them
abbrev pub WitnessOrigins : ModelLeaves → Leaves → AagCounts → ℕ → Sections → List ℕ → ℕ → List ℕ → Option ℕ → Type 0
WitnessOrigins p leaves n w s work to work' (Some e) =
    (right_by p leaves s ≡ true) × ((work' ≡ put work to (origins_from p w (maps_by_name s) 0 (names_of leaves s))) × (e ≡ to + leaf_counts leaves n))
WitnessOrigins p leaves n w s work to work' None = right_by p leaves s ≡ false

pub record MapsWitness (p : ModelLeaves) (leaves : Leaves) (t : Bytes) (n : AagCounts) (work : List ℕ) (from w to : ℕ) (work' : List ℕ) (r : Option ℕ) : Type 0 where
  pub maps : (s : Sections) → n ≡ counts_in s → Block t s (drop from work) → WitnessOrigins p leaves n w s work to work' r

-- ---- all witnesses

pub record CanMapAll (p : ModelLeaves) (leaves : Leaves) (buffer : Bytes) (pairs work : List ℕ) (to : ℕ) : Type 0 where
  pub gather : CanGather (leaf_count_of leaves) buffer pairs work to
  pub few : p.before + p.count < 1073741824

-- 16 of all witnesses, or their origins and the place after them
abbrev pub AllOrigins : ModelLeaves → Leaves → List Sections → List ℕ → ℕ → List ℕ → Option ℕ → Type 0
AllOrigins p leaves ws work to work' (Some e) =
    (all (right_by p leaves) ws ≡ true) × ((work' ≡ put work to (gathered (origins_by p leaves) ws)) × (e ≡ to + total_of (leaf_count_of leaves) ws))
AllOrigins p leaves ws work to work' None = all (right_by p leaves) ws ≡ false

abbrev pub MapsAll : ModelLeaves → Leaves → Bytes → List ℕ → List ℕ → ℕ → List ℕ → Option ℕ → Type 0
MapsAll p leaves buffer pairs work to work' r = (ws : List Sections) → Readable buffer pairs ws → AllOrigins p leaves ws work to work' r
