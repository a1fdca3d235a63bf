-- For the contracts of the functions that load and gather: how the words of all witnesses stand.
use Rattle.std.specs.Prelude.{ℕ, ◌+◌, ◌-◌, ◌*◌, ◌≤◌, ◌<◌, cond, List, [], ◌∷◌, ◌++◌, map, ◌≡◌, eqb, length, take, drop, get_or}
use Rattle.std.proofs.Math.Option.{some}
use Rattle.lists.specs.Answer.{got}
use Rattle.lists.specs.Parts.{Bytes, part, put}
use Rattle.lists.specs.Words.{pairs_of}
use Rattle.witness_text.specs.declared.AagCounts.{AagCounts}
use Rattle.witness_read.specs.Sections.{Sections, leaves, names_in}
use Rattle.witness_load.specs.Inner.Loaded.{name_from, literal_words, word_count}
use Rattle.witness_load.specs.Inner.Loading.{HasRoom, Loadable}
use Rattle.compose_spec.specs.Calling.{read_all, texts_in}
use Rattle.compose_joint.specs.declared.Before.{Before}
use Rattle.compose_joint.specs.declared.Shift.{Shift}
use Rattle.compose_joint.specs.declared.Literals.{Literals}
use Rattle.compose_joint.specs.declared.Literals.TheVariants as literals
use Rattle.compose_joint.specs.declared.Leaves.{Leaves}
use Rattle.compose_joint.specs.Inner.Joint.{total_of, input_count, latch_count, shifted_literal, gathered, list_of, names_of}
use Rattle.compose_gather.specs.declared.Range.{Range}
use Rattle.compose_gather.specs.Inner.Checking.{FewInOrder}

-- how many words the sections of a text with these counts need
abbrev pub words_for : AagCounts → ℕ
words_for n = 2 * n.inputs + 4 * n.latches + n.outputs + n.bads + n.constraints + 2 * n.gates

-- the words of one text: the places of its names, then its literals
pub record Block (t : Bytes) (s : Sections) (ws : List ℕ) : Type 0 where
  pub name_words : List ℕ
  pub count : length name_words ≡ 2 * leaves s
  pub names : pairs_of (name_from t) name_words ≡ map some (names_in s)
  pub stand : take (word_count s) ws ≡ name_words ++ literal_words s

-- the words of all texts, one after the other, in front of ws
abbrev pub Blocks : List Bytes → List Sections → List ℕ → Type 0
Blocks [] [] ws = Unit {0}
Blocks [] (s ∷ ss) ws = ⊥
Blocks (t ∷ ts) [] ws = ⊥
Blocks (t ∷ ts) (s ∷ ss) ws = Block t s ws × Blocks ts ss (drop (word_count s) ws)

-- a text with these counts is accepted, and there is room for its words from a place on
pub record LoadableAt (t : Bytes) (n : AagCounts) (work : List ℕ) (at : ℕ) : Type 0 where
  pub room : at + words_for n ≤ length work
  pub loadable : Loadable t n (drop at work)

-- its words stand from the place on, and what was in front of it is kept
pub record LoadedAt (t : Bytes) (s : Sections) (at : ℕ) (work work' : List ℕ) : Type 0 where
  pub kept : take at work' ≡ take at work
  pub block : Block t s (drop at work')

abbrev pub LoadsAt : Bytes → AagCounts → ℕ → List ℕ → List ℕ → Type 0
LoadsAt t n at work work' = (s : Sections) → HasRoom t n (drop at work) s → LoadedAt t s at work work'

-- how many words all texts need
abbrev pub word_total : List Sections → ℕ
word_total ws = total_of word_count ws

-- the witnesses are read, and there is room for their words
pub record Readable (buffer : Bytes) (pairs : List ℕ) (ws : List Sections) : Type 0 where
  pub pairs_hold : FewInOrder buffer pairs
  pub reads : read_all (texts_in buffer pairs) ≡ got ws

pub record CanLoad (buffer : Bytes) (pairs work : List ℕ) : Type 0 where
  pub ws : List Sections
  pub readable : Readable buffer pairs ws
  pub room : word_total ws ≤ length work

-- what loading does: all words of the texts stand in front, and r is their number
abbrev pub LoadsAll : Bytes → List ℕ → List ℕ → ℕ → Type 0
LoadsAll buffer pairs work r = (ws : List Sections) → Readable buffer pairs ws → Blocks (texts_in buffer pairs) ws work × (r ≡ word_total ws)

-- the witnesses are loaded, and there is room from a place on, behind them, for so many words of each
pub record CanGather (count : Sections → ℕ) (buffer : Bytes) (pairs work : List ℕ) (to : ℕ) : Type 0 where
  pub ws : List Sections
  pub readable : Readable buffer pairs ws
  pub blocks : Blocks (texts_in buffer pairs) ws work
  pub behind : word_total ws ≤ to
  pub room : to + total_of count ws ≤ length work

-- what gathering does: words of each witness stand from a place on, and r is the place after them
abbrev pub Gathers : (ℕ → Before → Sections → List ℕ) → (Sections → ℕ) → Bytes → List ℕ → List ℕ → ℕ → List ℕ → ℕ → Type 0
Gathers words count buffer pairs work to work' r =
    (ws : List Sections) → Readable buffer pairs ws → (work' ≡ put work to (gathered words ws)) × (r ≡ to + total_of count ws)

-- ---- lists of literals

abbrev pub literal_count : Literals → Sections → ℕ
literal_count kind s = length (list_of kind s)

-- where a list stands among the words of a text with these counts, and how long it is
abbrev pub range_of : Literals → AagCounts → Range
range_of literals.Latches n = record { start = 2 * n.inputs + 2 * n.latches; count = 2 * n.latches }
range_of literals.Safety n =
    cond (eqb n.bads 0)
    (record { start = 2 * n.inputs + 4 * n.latches; count = n.outputs })
    (record { start = 2 * n.inputs + 4 * n.latches + n.outputs; count = n.bads })
range_of literals.Constraints n = record { start = 2 * n.inputs + 4 * n.latches + n.outputs + n.bads; count = n.constraints }
range_of literals.Operands n = record { start = 2 * n.inputs + 4 * n.latches + n.outputs + n.bads + n.constraints; count = 2 * n.gates }

-- small numbers to move by
pub record SmallShift (h : Shift) : Type 0 where
  pub by_input : h.by_input < 4294967296
  pub by_latch : h.by_latch < 4294967296
  pub by_gate : h.by_gate < 4294967296

-- a small number to be moved
pub record Shiftable (h : Shift) (x : ℕ) : Type 0 where
  pub by : SmallShift h
  pub small : x < 4294967296

-- r is this number, and so small that twice of it is a word
pub record SmallWord (r is-it : ℕ) : Type 0 where
  pub is : r ≡ is-it
  pub small : r < 8589934592

-- literals that are small, and as many words
pub record CanShift (h : Shift) (xs ys : List ℕ) : Type 0 where
  pub small : SmallShift h
  pub same : length ys ≡ length xs
  pub literals : (i : ℕ) → i < length xs → get_or xs i 0 < 4294967296

-- the literals of a range behind a place are small, and there is room for them behind all of that
pub record CanShiftRange (range : Range) (h : Shift) (work : List ℕ) (from to : ℕ) : Type 0 where
  pub small : SmallShift h
  pub behind : from + range.start + range.count ≤ to
  pub room : to + range.count ≤ length work
  pub literals : (i : ℕ) → i < range.count → get_or work (from + range.start + i) 0 < 4294967296

-- the shift of a witness with these counts, where there are i inputs and q latches in all
abbrev pub shift_for : ℕ → ℕ → Before → AagCounts → Shift
shift_for i q b n =
    record {
      inputs = n.inputs;
      leaves = n.inputs + n.latches;
      by_input = b.inputs;
      by_latch = i + b.latches - n.inputs;
      by_gate = i + q + b.gates - (n.inputs + n.latches);
    }

-- what stands before the next witness
abbrev pub beyond_counts : Before → AagCounts → Before
beyond_counts b n = record { inputs = b.inputs + n.inputs; latches = b.latches + n.latches; gates = b.gates + n.gates }

-- counts of a witness among those of all
pub record SmallBefore (i q : ℕ) (b : Before) (n : AagCounts) : Type 0 where
  pub inputs : b.inputs + n.inputs ≤ i
  pub latches : b.latches + n.latches ≤ q
  pub gates : b.gates + n.gates < 1073741824
  pub few_inputs : i < 1073741824
  pub few_latches : q < 1073741824

-- the literals of a range stand from a place on as joint literals, and r is the place after them
pub record ShiftsRange (range : Range) (h : Shift) (work : List ℕ) (from to : ℕ) (work' : List ℕ) (r : ℕ) : Type 0 where
  pub is : work' ≡ put work to (map (shifted_literal h) (part work (from + range.start) (from + range.start + range.count)))
  pub next : r ≡ to + range.count

-- the totals are those of the witnesses
abbrev pub RightTotals : Bytes → List ℕ → ℕ → ℕ → Type 0
RightTotals buffer pairs i q = (ws : List Sections) → Readable buffer pairs ws → (i ≡ total_of input_count ws) × (q ≡ total_of latch_count ws)

-- ---- inputs and latches

abbrev pub leaf_count_of : Leaves → Sections → ℕ
leaf_count_of leaf s = length (names_of leaf s)
