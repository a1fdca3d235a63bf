-- The origin word of each input, or latch, beside its entry: what the word says of the entry, and that private entries are always new.
use Rattle.std.specs.Prelude.{Some, None}
use Rattle.std.specs.declared.option.Option as option
use Prim.Native.Nat.{ℕ, suc, ◌+◌, ◌*◌, ◌/◌, ◌%◌, ◌≤◌, ◌<◌}
use mathlib.Core.Bool.{Bool, true, false, cond, not, ◌&&◌}
use mathlib.Core.List.{List, [], ◌∷◌, ◌++◌}
use mathlib.Core.Option.{Option, some, none}
use mathlib.Core.Path.{◌≡◌, refl}
use native.Mathlib.Omega.{arith}
use lib.Dec.{ltb, leb}
use lib.ListN.{drop}
use borrow.Author.Tests.{ltb-true, leb-true, lt-ltb, le-leb, eq-eqb, ne_eqb, not-true}
use Rattle.lists.specs.Bits.{odd}
use Rattle.lists.specs.Parts.{Bytes}
use Rattle.lists.specs.Tests.{Each}
use Rattle.lists.proofs.BoolLaws.{and_left, and_right, true-false}
use Rattle.scan.specs.Same.{begins_with}
use Rattle.text.specs.declared.Reader.TheVariants.{Witness}
use Rattle.text.specs.Numbers.{number_of}
use Rattle.aiger.specs.Gates.{variable}
use Rattle.witness_read.specs.Sections.{Sections}
use Rattle.compose_spec.specs.declared.ModelLeaves.{ModelLeaves}
use Rattle.compose_spec.specs.declared.Mapping.{Mapping}
use Rattle.compose_spec.specs.declared.Mapping.TheVariants as mapping
use Rattle.compose_spec.specs.Mapping.{equals, is_of, onto_number, by_name, by_position, maps_by_name, mapping_of}
use Rattle.compose_spec.specs.Numbering.{Key, shared, alone, Entry, entry_of, entries_from}
use Rattle.compose_spec.proofs.WholeLaws.{Both}
use Rattle.compose_joint.specs.declared.Before.{Before}
use Rattle.compose_joint.specs.declared.Leaves.{Leaves}
use Rattle.compose_joint.specs.declared.Leaves.TheVariants as leaf
use Rattle.compose_joint.specs.Inner.Joint.{beyond, nothing_before, gathered_from, names_of, model_of, origin_word, origins_from, joint_origins, origins, unnamed_of, entries_of}
use Rattle.compose_joint.specs.Inner.Numbers.{slot}

-- ---- the entries of a kind

-- the entries of witness w
abbrev pub entries_in : Leaves → Sections → ℕ → Sections → List Entry
entries_in kind m w s = entries_from (model_of kind m) (unnamed_of kind) w (maps_by_name s) 0 (names_of kind s)

-- those of no witness
pub entries_none : (kind : Leaves) (m : Sections) (w : ℕ) → entries_of kind m w [] ≡ []
entries_none leaf.Inputs m w = refl
entries_none leaf.Latches m w = refl

-- those of a witness and of those after it
pub entries_split : (kind : Leaves) (m : Sections) (w : ℕ) (s : Sections) (ss : List Sections) → entries_of kind m w (s ∷ ss) ≡ entries_in kind m w s ++ entries_of kind m (suc w) ss
entries_split leaf.Inputs m w s ss = refl
entries_split leaf.Latches m w s ss = refl

-- ---- what a word says

-- a literal of the model, as a mapping gives it, is one of this kind
abbrev Right : ModelLeaves → Mapping → Type 0
Right p mapping.Private = Unit {0}
Right p (mapping.Onto l) = is_of p l ≡ true
Right p mapping.Wrong = Unit {0}

module _ (p : ModelLeaves) where
  -- one that is tested is
  tested_right : (l : ℕ) (q : Bool) → is_of p l ≡ q → Right p (cond q (mapping.Onto l) mapping.Wrong)
  tested_right l true e = e
  tested_right l false e = tt

  -- so is one that a number gives
  number-right : (n : option.Option ℕ) → Right p (onto_number p n)
  number-right None = tt
  number-right (Some l) = tested_right l (is_of p l) refl

  -- so is one by name
  name-right : (name : Option Bytes) → Right p (by_name p name)
  name-right none = tt
  name-right (some name) = go (begins_with name equals)
    where
      go : (q : Bool) → Right p (cond q (onto_number p (number_of Witness (drop 2 name))) mapping.Private)
      go true = number-right (number_of Witness (drop 2 name))
      go false = tt

  -- so is one by position
  position_right : (k : ℕ) → Right p (by_position p k)
  position_right k = go (ltb k p.count) refl
    where
      go : (q : Bool) → ltb k p.count ≡ q → Right p (cond q (mapping.Onto (2 * suc (p.before + k))) mapping.Private)
      go true e =
          let l : ℕ = 2 * suc (p.before + k) in
          let half : l / 2 ≡ suc (p.before + k) = omega arith in
          let even : odd l ≡ false = ne_eqb (l % 2) 1 (λ h. omega arith) in
          let h : k < p.count = ltb-true k p.count e in
          rw (even, half, lt-ltb p.before (suc (p.before + k)) (omega arith), le-leb (suc (p.before + k)) (p.before + p.count) (omega arith))
      go false e = tt

  -- so is every one
  mapping-right : (named : Bool) (k : ℕ) (name : Option Bytes) → Right p (mapping_of p named k name)
  mapping-right true k name = name-right name
  mapping-right false k name = position_right k

-- an even word of a kind: the literal of one of these inputs, or latches, of the model
pub record OfKind (p : ModelLeaves) (x : ℕ) : Type 0 where
  pub slot : slot p.before x < p.count
  pub above : p.before < x / 2

-- what the origin word x says of a key: its literal, or that it is private
abbrev pub Says : ModelLeaves → ℕ → Key → Type 0
Says p x (shared l) = (x ≡ l) × ((odd x ≡ false) × OfKind p x)
Says p x (alone w k) = odd x ≡ true

module _ (p : ModelLeaves) (unnamed : Bytes) (w : ℕ) where
  -- an odd word is odd
  private_odd : odd (2 * w + 1) ≡ true
  private_odd = eq-eqb ((2 * w + 1) % 2) 1 (omega arith)

  -- the word of a mapping says the key of its entry
  word-says : (k : ℕ) (name : Option Bytes) (x : Mapping) → Right p x → Says p (origin_word w x) (entry_of unnamed w k name x).key
  word-says k name mapping.Private r = private_odd
  word-says k name (mapping.Onto l) r =
      let low : Bool = ltb p.before (variable l) in
      let high : Bool = leb (variable l) (p.before + p.count) in
      let both : (low && high) ≡ true = and_right (not (odd l)) (low && high) r in
      let above : p.before < l / 2 = ltb-true p.before (variable l) (and_left low high both) in
      let below : l / 2 ≤ p.before + p.count = leb-true (variable l) (p.before + p.count) (and_right low high both) in
      (refl, (not-true (odd l) (and_left (not (odd l)) (low && high) r), record { slot = omega arith; above = above }))
  word-says k name mapping.Wrong r = private_odd

  -- the words of a witness say its keys
  words-say : (named : Bool) (k : ℕ) (names : List (Option Bytes))
      → Both (λ x e. Says p x e.key) (origins_from p w named k names) (entries_from p unnamed w named k names)
  words-say named k [] = tt
  words-say named k (name ∷ names) = (word-says k name (mapping_of p named k name) (mapping-right p named k name), words-say named (suc k) names)

-- two pairs of lists, one behind the other
both_append : {A B : Type 0} (R : A → B → Type 0) (xs us : List A) (ys vs : List B) → Both R xs ys → Both R us vs → Both R (xs ++ us) (ys ++ vs)
both_append R [] us [] vs r t = t
both_append R [] us (y ∷ ys) vs r t = absurd r
both_append R (x ∷ xs) us [] vs r t = absurd r
both_append R (x ∷ xs) us (y ∷ ys) vs r t = (r.0, both_append R xs us ys vs r.1 t)

-- the words of witnesses say their keys
all_say : (kind : Leaves) (m : Sections) (w : ℕ) (b : Before) (ws : List Sections)
    → Both (λ x e. Says (model_of kind m) x e.key) (gathered_from (joint_origins kind m) w b ws) (entries_of kind m w ws)
all_say kind m w b [] = rw (entries_none kind m w) tt
all_say kind m w b (s ∷ ss) =
    rw (entries_split kind m w s ss)
    (both_append (λ x e. Says (model_of kind m) x e.key) (joint_origins kind m w b s) (gathered_from (joint_origins kind m) (suc w) (beyond b s) ss)
    (entries_in kind m w s) (entries_of kind m (suc w) ss)
    (words-say (model_of kind m) (unnamed_of kind) w (maps_by_name s) 0 (names_of kind s))
    (all_say kind m (suc w) (beyond b s) ss))

-- each origin word says the key of its entry
pub origins-say : (kind : Leaves) (m : Sections) (ws : List Sections) → Both (λ x e. Says (model_of kind m) x e.key) (origins kind m ws) (entries_of kind m 0 ws)
origins-say kind m ws = all_say kind m 0 nothing_before ws

-- a word that says a key is odd or within its kind
says-within : (p : ModelLeaves) (x : ℕ) (k : Key) → Says p x k → odd x ≡ false → OfKind p x
says-within p x (shared l) h e = h.1.1
says-within p x (alone w k) h e = true-false h e

-- so are all that say keys
all-within : (p : ModelLeaves) (xs : List ℕ) (es : List Entry) → Both (λ x e. Says p x e.key) xs es → Each (λ x. odd x ≡ false → OfKind p x) xs
all-within p [] [] h = tt
all-within p [] (e ∷ es) h = absurd h
all-within p (x ∷ xs) [] h = absurd h
all-within p (x ∷ xs) (e ∷ es) h = (says-within p x e.key h.0, all-within p xs es h.1)

-- each origin word that is even is within its kind
pub origins-within : (kind : Leaves) (m : Sections) (ws : List Sections) → Each (λ x. odd x ≡ false → OfKind (model_of kind m) x) (origins kind m ws)
origins-within kind m ws = all-within (model_of kind m) (origins kind m ws) (entries_of kind m 0 ws) (origins-say kind m ws)
