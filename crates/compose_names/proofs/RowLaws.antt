-- The names of a witness, from its words.
use Prim.Native.Nat.{ℕ, ◌+◌, ◌*◌, ◌<◌}
use mathlib.Core.List.{List}
use mathlib.Core.Option.{Option, some, none}
use mathlib.Core.Path.{◌≡◌, sym, ap, ap₂, ◌∙◌}
use native.Mathlib.Omega.{arith}
use lib.ListN.{length, get_or, drop, length-map, get_or-append, get_or-map}
use lib.Seq.{get_or-append-add, get_or-drop, get_or-take}
use Rattle.lists.specs.Parts.{Bytes}
use Rattle.lists.proofs.WordLaws.{pairs-at}
use Rattle.witness_read.specs.Sections.{Sections, leaves, names_in, latch_names}
use Rattle.witness_read.specs.Reading.{counts_in}
use Rattle.witness_load.specs.Inner.Loaded.{name_from, literal_words, word_count}
use Rattle.compose_joint.specs.declared.Leaves.{Leaves}
use Rattle.compose_joint.specs.declared.Leaves.TheVariants as leaf
use Rattle.compose_joint.specs.Inner.Joint.{names_of, names_before}
use Rattle.compose_gather.specs.Inner.Gathered.{Block, leaf_count_of}
use Rattle.compose_gather.proofs.NameLaws.{Says, name_said}

module _ (t : Bytes) (s : Sections) (ws : List ℕ) (block : Block t s ws) where
  -- a word of a name
  name-word : (i : ℕ) → i < 2 * leaves s → get_or block.name_words i 0 ≡ get_or ws i 0
  name-word i h =
      sym (get_or-append block.name_words (literal_words s) 0 i (omega (arith, block.count)))
      ∙ (ap (λ (l : List ℕ). get_or l i 0) (sym block.stand) ∙ get_or-take (word_count s) ws i 0 (omega arith))

  -- name j of all
  name-at : (j : ℕ) → j < leaves s → name_from t (get_or ws (2 * j) 0) (get_or ws (2 * j + 1) 0) ≡ some (get_or (names_in s) j none)
  name-at j h =
      ap₂ (name_from t) (sym (name-word (2 * j) (omega arith))) (sym (name-word (2 * j + 1) (omega arith)))
      ∙ (sym (pairs-at (name_from t) block.name_words j 0 (some none) (omega (arith, block.count)))
      ∙ (ap (λ (l : List (Option (Option Bytes))). get_or l j (some none)) block.names ∙ get_or-map some (names_in s) j none))

  -- the same, with other words for the place and the name
  name_as : (j i : ℕ) (x : Option Bytes) → j < leaves s → i ≡ 2 * j → get_or (names_in s) j none ≡ x → name_from t (get_or ws i 0) (get_or ws (i + 1) 0) ≡ some x
  name_as j i x h e f = rw e (name-at j h ∙ ap some f)

  -- name k of the inputs, or latches
  pub leaf_name : (kind : Leaves) (k : ℕ) → k < leaf_count_of kind s
      → name_from t (get_or ws (names_before kind (counts_in s) + 2 * k) 0) (get_or ws (names_before kind (counts_in s) + 2 * k + 1) 0) ≡ some (get_or (names_of kind s) k none)
  leaf_name leaf.Inputs k h = name_as k (0 + 2 * k) (get_or s.inputs k none) (omega arith) (omega arith) (get_or-append s.inputs (latch_names s) none k h)
  leaf_name leaf.Latches k h =
      name_as (length s.inputs + k) (2 * length s.inputs + 2 * k) (get_or (latch_names s) k none) (omega (arith, length-map s.latches (λ q. q.name))) (omega arith)
      (get_or-append-add s.inputs (latch_names s) k none)

-- the same, at places of all words
pub leaf_said : (t : Bytes) (s : Sections) (work : List ℕ) (from : ℕ) → Block t s (drop from work) → (kind : Leaves) (k : ℕ) → k < leaf_count_of kind s
    → Says t (get_or work (from + names_before kind (counts_in s) + 2 * k) 0) (get_or work (from + names_before kind (counts_in s) + 2 * k + 1) 0) (get_or (names_of kind s) k none)
leaf_said t s work from block kind k h =
    go (names_before kind (counts_in s)) (leaf_name t s (drop from work) block kind k h)
  where
    word : (i j : ℕ) → from + i ≡ j → get_or work j 0 ≡ get_or (drop from work) i 0
    word i j e = sym (get_or-drop from work i 0 ∙ ap (λ (x : ℕ). get_or work x 0) e)

    go : (a : ℕ) → name_from t (get_or (drop from work) (a + 2 * k) 0) (get_or (drop from work) (a + 2 * k + 1) 0) ≡ some (get_or (names_of kind s) k none)
        → Says t (get_or work (from + a + 2 * k) 0) (get_or work (from + a + 2 * k + 1) 0) (get_or (names_of kind s) k none)
    go a e =
        name_said t (get_or work (from + a + 2 * k) 0) (get_or work (from + a + 2 * k + 1) 0) (get_or (names_of kind s) k none)
        (ap₂ (name_from t) (word (a + 2 * k) (from + a + 2 * k) (omega arith)) (word (a + 2 * k + 1) (from + a + 2 * k + 1) (omega arith)) ∙ e)
