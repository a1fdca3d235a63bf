-- The rows of all witnesses are their entries with their numbers.
use Rattle.std.specs.Prelude.{Some, None}
use Rattle.std.specs.declared.option.Option as option
use Prim.Native.Nat.{ℕ, zero, suc, ◌+◌, ◌-◌, ◌*◌, ◌%◌, ◌≤◌, ◌<◌}
use mathlib.Core.Bool.{Bool, true, false, cond, not, ◌&&◌}
use mathlib.Core.List.{List, [], ◌∷◌, ◌++◌, map, map-append}
use mathlib.Core.Option.{Option, some, none}
use mathlib.Core.Path.{◌≡◌, refl, sym, ap, ap₂, ◌∙◌, subst}
use native.Mathlib.Nat.{add-zero}
use native.Mathlib.Omega.{arith}
use borrow.Author.Tests.{eq-eqb, ne_eqb}
use lib.Dec.{leb, ltb}
use lib.ListN.{length, get_or, drop, length-append, length-map, get_or-append}
use lib.Seq.{get_or-append-add, drop-drop}
use Rattle.lists.specs.Bits.{odd}
use Rattle.lists.specs.Parts.{Bytes, part}
use Rattle.lists.proofs.BoolLaws.{and_left}
use Rattle.lists.proofs.MapLaws.{map_at}
use Rattle.lists.proofs.PartLaws.{part_at, part_length}
use Rattle.scan.specs.Same.{begins_with}
use Rattle.text.specs.declared.Reader.TheVariants.{Witness}
use Rattle.text.specs.Numbers.{number_of}
use Rattle.aiger.specs.Gates.{variable}
use Rattle.witness_read.specs.Sections.{Sections}
use Rattle.witness_read.specs.Reading.{counts_in}
use Rattle.witness_load.specs.Inner.Loaded.{word_count}
use Rattle.compose_spec.specs.declared.ModelLeaves.{ModelLeaves}
use Rattle.compose_spec.specs.declared.Mapping.{Mapping}
use Rattle.compose_spec.specs.declared.Mapping.TheVariants.{Private, Onto, Wrong}
use Rattle.compose_spec.specs.Mapping.{equals, is_of, onto_number, maps_by_name, mapping_of}
use Rattle.compose_spec.specs.Numbering.{Entry, shared, numbered, entry_of, entries_from}
use Rattle.compose_spec.proofs.PlacedLaws.{entries_length}
use Rattle.compose_joint.specs.declared.Before.{Before}
use Rattle.compose_joint.specs.declared.Leaves.{Leaves}
use Rattle.compose_joint.proofs.AmountLaws.{origin-words}
use Rattle.compose_joint.specs.Inner.Joint.{total_of, beyond, gathered_from, names_of, model_of, origin_word, origins_from, joint_origins, unnamed_of, entries_of, leaf_counts}
use Rattle.compose_joint.proofs.OriginLaws.{entries_in, entries_none, entries_split}
use Rattle.compose_gather.specs.Inner.Gathered.{Block, Blocks, leaf_count_of}
use Rattle.compose_gather.proofs.CountLaws.{counts-leaves}
use Rattle.compose_gather.proofs.BlockLaws.{words_for_lem}
use Rattle.compose_names.specs.declared.Starts.{Starts}
use Rattle.compose_names.specs.Inner.Names.{name_for}
use Rattle.compose_names.specs.Inner.Symbols.{Row, row_at, rows_from, names_at, rows_at, passed}
use Rattle.compose_names.proofs.FirstLaws.{row_of}
use Rattle.compose_names.proofs.RowLaws.{leaf_said}

-- ---- the name by the origin word

-- a mapping onto an even literal, or none
abbrev Even : Mapping → Type 0
Even Private = Unit {0}
Even (Onto l) = odd l ≡ false
Even Wrong = Unit {0}

-- what is not so
not-not : (b : Bool) → not b ≡ true → b ≡ false
not-not true e = sym e
not-not false e = refl

-- mappings are onto even literals
onto_even : (p : ModelLeaves) (x : option.Option ℕ) → Even (onto_number p x)
onto_even p None = tt
onto_even p (Some l) = go (is_of p l) refl
  where
    go : (b : Bool) → is_of p l ≡ b → Even (cond b (Onto l) Wrong)
    go true e = not-not (odd l) (and_left (not (odd l)) (ltb p.before (variable l) && leb (variable l) (p.before + p.count)) e)
    go false e = tt

-- by name or by position
mapping_even : (p : ModelLeaves) (named : Bool) (k : ℕ) (name : Option Bytes) → Even (mapping_of p named k name)
mapping_even p true k none = tt
mapping_even p true k (some name) = go (begins_with name equals)
  where
    go : (b : Bool) → Even (cond b (onto_number p (number_of Witness (drop 2 name))) Private)
    go true = onto_even p (number_of Witness (drop 2 name))
    go false = tt
mapping_even p false k name = go (ltb k p.count)
  where
    go : (b : Bool) → Even (cond b (Onto (2 * suc (p.before + k))) Private)
    go true = ne_eqb (2 * suc (p.before + k) % 2) 1 (λ e. omega (arith, e))
    go false = tt

-- the name of an entry
entry-name : (kind : Leaves) (w k : ℕ) (name : Option Bytes) (x : Mapping) → Even x → (entry_of (unnamed_of kind) w k name x).name ≡ name_for kind w (origin_word w x) name
entry-name kind w k name Private h = sym (rw (eq-eqb ((2 * w + 1) % 2) 1 (omega arith)) refl)
entry-name kind w k name (Onto l) h = sym (rw h refl)
entry-name kind w k name Wrong h = sym (rw (eq-eqb ((2 * w + 1) % 2) 1 (omega arith)) refl)

module _ (kind : Leaves) (p : ModelLeaves) (w : ℕ) (named : Bool) where
  -- one of them
  entry_at : (j : ℕ) (names : List (Option Bytes)) (k : ℕ) (d : Entry) → k < length names
      → (get_or (entries_from p (unnamed_of kind) w named j names) k d).name ≡ name_for kind w (get_or (origins_from p w named j names) k 0) (get_or names k none)
  entry_at j [] k d h = absurd (omega arith)
  entry_at j (x ∷ xs) zero d h = entry-name kind w j x (mapping_of p named j x) (mapping_even p named j x)
  entry_at j (x ∷ xs) (suc k) d h = entry_at (suc j) xs k d (omega arith)

-- ---- a list among the words

-- the list stands from a place on
abbrev pub StandsAt : List ℕ → ℕ → List ℕ → Type 0
StandsAt work at l = (k : ℕ) → k < length l → get_or work (at + k) 0 ≡ get_or l k 0

-- a part of the words
pub part-stands : (work : List ℕ) (at n : ℕ) (l : List ℕ) → at + n ≤ length work → part work at (at + n) ≡ l → StandsAt work at l
part-stands work at n l h e k less =
    let long : length l ≡ at + n - at = sym (ap length e) ∙ part_length work at (at + n) h in
    sym (part_at work at (at + n) k 0 (omega (arith, long))) ∙ ap (λ (x : List ℕ). get_or x k 0) e

module _ (work : List ℕ) (at : ℕ) (xs ys : List ℕ) (s : StandsAt work at (xs ++ ys)) where
  -- the front of it
  stands-front : StandsAt work at xs
  stands-front k h = s k (omega (arith, length-append xs ys)) ∙ get_or-append xs ys 0 k h

  -- what is behind the front
  stands-back : (n : ℕ) → length xs ≡ n → StandsAt work (at + n) ys
  stands-back n e k h =
      let x : at + n + k ≡ at + (length xs + k) = omega (arith, e) in
      ap (λ (i : ℕ). get_or work i 0) x ∙ (s (length xs + k) (omega (arith, length-append xs ys)) ∙ get_or-append-add xs ys k 0)

-- rows by their numbers
rows-map : (row : ℕ → Row) (f : Entry → Row) (d : Entry) (k : ℕ) (es : List Entry) → ((j : ℕ) → j < length es → row (k + j) ≡ f (get_or es j d)) → rows_from row k (length es) ≡ map f es
rows-map row f d k [] h = refl
rows-map row f d k (e ∷ es) h =
    ap₂ (λ (x : Row) (xs : List Row). x ∷ xs) (sym (ap row (add-zero k)) ∙ h 0 (omega arith))
    (rows-map row f d (suc k) es (λ j l. let m : suc k + j ≡ k + suc j = omega arith in ap row m ∙ h (suc j) (omega arith)))

-- ---- one witness, and all

-- the rows of all witnesses; the first has the index w
abbrev pub rows_all : Leaves → List ℕ → ℕ → List Bytes → List Sections → Starts → List Row
rows_all kind work w [] ss p = []
rows_all kind work w (t ∷ ts) [] p = []
rows_all kind work w (t ∷ ts) (s ∷ ss) p = rows_at t (counts_in s) work kind w p ++ rows_all kind work (suc w) ts ss (passed kind (counts_in s) p)

-- no witness is left
pub rows_none : (kind : Leaves) (work : List ℕ) (w : ℕ) (ts : List Bytes) (p : Starts) → rows_all kind work w ts [] p ≡ []
rows_none kind work w [] p = refl
rows_none kind work w (t ∷ ts) p = refl

module _ (kind : Leaves) (m : Sections) (first : ℕ) (firsts : List Entry) (work : List ℕ) where
  -- the rows of a witness are its entries
  rows_in_lem : (w : ℕ) (t : Bytes) (s : Sections) (p : Starts) → Block t s (drop p.names work)
      → StandsAt work p.origins (origins_from (model_of kind m) w (maps_by_name s) 0 (names_of kind s)) → StandsAt work p.numbers (map (numbered first firsts) (entries_in kind m w s))
      → rows_at t (counts_in s) work kind w p ≡ map (row_of first firsts) (entries_in kind m w s)
  rows_in_lem w t s p block os ns =
      ap (rows_from row 0) (counts-leaves kind s ∙ sym long) ∙ rows-map row (row_of first firsts) d 0 es (λ j h. let z : 0 + j ≡ j = omega arith in ap row z ∙ same j h)
    where
      es : List Entry
      es = entries_in kind m w s

      row : ℕ → Row
      row = row_at t work kind w (names_at kind (counts_in s) p)

      d : Entry
      d = record { key = shared 0; name = [] }

      long : length es ≡ leaf_count_of kind s
      long = entries_length (model_of kind m) (unnamed_of kind) w (maps_by_name s) 0 (names_of kind s)

      same : (j : ℕ) → j < length es → row j ≡ row_of first firsts (get_or es j d)
      same j h =
          let k : j < leaf_count_of kind s = omega (arith, long) in
          ap₂ (λ (x : ℕ) (y : Bytes). record { number = x; name = y })
          (ns j (omega (arith, length-map es (numbered first firsts))) ∙ map_at (numbered first firsts) es j d 0 h)
          (ap₂ (name_for kind w) (os j (omega (arith, origin-words (model_of kind m) w (maps_by_name s) 0 (names_of kind s)))) (leaf_said t s work p.names block kind j k).own
          ∙ sym (entry_at kind (model_of kind m) w (maps_by_name s) 0 (names_of kind s) j d k))

  -- those of all witnesses
  pub rows_are : (w : ℕ) (b : Before) (ts : List Bytes) (ss : List Sections) (p : Starts) → Blocks ts ss (drop p.names work)
      → StandsAt work p.origins (gathered_from (joint_origins kind m) w b ss) → StandsAt work p.numbers (map (numbered first firsts) (entries_of kind m w ss))
      → rows_all kind work w ts ss p ≡ map (row_of first firsts) (entries_of kind m w ss)
  rows_are w b [] [] p bs os ns = sym (ap (map (row_of first firsts)) (entries_none kind m w))
  rows_are w b [] (s ∷ ss) p bs os ns = absurd bs
  rows_are w b (t ∷ ts) [] p bs os ns = absurd bs
  rows_are w b (t ∷ ts) (s ∷ ss) p bs os ns =
      let es : List Entry = entries_in kind m w s in
      let f : Entry → ℕ = numbered first firsts in
      let mine : List ℕ = origins_from (model_of kind m) w (maps_by_name s) 0 (names_of kind s) in
      let others : List ℕ = gathered_from (joint_origins kind m) (suc w) (beyond b s) ss in
      let count : leaf_count_of kind s ≡ leaf_counts kind (counts_in s) = sym (counts-leaves kind s) in
      let numbers : StandsAt work p.numbers (map f es ++ map f (entries_of kind m (suc w) ss)) =
      subst (StandsAt work p.numbers) (ap (map f) (entries_split kind m w s ss) ∙ map-append f es (entries_of kind m (suc w) ss)) ns in
      ap₂ (λ (xs ys : List Row). xs ++ ys)
      (rows_in_lem w t s p bs.0 (stands-front work p.origins mine others os) (stands-front work p.numbers (map f es) (map f (entries_of kind m (suc w) ss)) numbers))
      (rows_are (suc w) (beyond b s) ts ss (passed kind (counts_in s) p)
      (subst (Blocks ts ss) (drop-drop (word_count s) p.names work ∙ ap (λ (n : ℕ). drop (p.names + n) work) (words_for_lem s)) bs.1)
      (stands-back work p.origins mine others os (leaf_counts kind (counts_in s)) (origin-words (model_of kind m) w (maps_by_name s) 0 (names_of kind s) ∙ count))
      (stands-back work p.numbers (map f es) (map f (entries_of kind m (suc w) ss)) numbers (leaf_counts kind (counts_in s))
      (length-map es f ∙ (entries_length (model_of kind m) (unnamed_of kind) w (maps_by_name s) 0 (names_of kind s) ∙ count))))
      ∙ (sym (map-append (row_of first firsts) es (entries_of kind m (suc w) ss)) ∙ ap (map (row_of first firsts)) (sym (entries_split kind m w s ss)))

-- ---- how many there are

-- an entry for each input, or latch, of all witnesses
pub entries_total : (kind : Leaves) (m : Sections) (w : ℕ) (ss : List Sections) → length (entries_of kind m w ss) ≡ total_of (leaf_count_of kind) ss
entries_total kind m w [] = rw (entries_none kind m w) refl
entries_total kind m w (s ∷ ss) =
    ap length (entries_split kind m w s ss)
    ∙ length-append (entries_in kind m w s) (entries_of kind m (suc w) ss)
    ∙ ap₂ (λ (x y : ℕ). x + y) (entries_length (model_of kind m) (unnamed_of kind) w (maps_by_name s) 0 (names_of kind s)) (entries_total kind m (suc w) ss)
