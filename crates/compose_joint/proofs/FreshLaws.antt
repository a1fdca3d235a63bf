-- Private entries are always new: each belongs to one number of one witness.
use Prim.Native.Nat.{ℕ, suc, ◌≤◌, ◌<◌}
use mathlib.Core.Bool.{Bool, true, false, ◌&&◌}
use mathlib.Core.List.{List, [], ◌∷◌, ◌++◌}
use mathlib.Core.Option.{Option}
use mathlib.Core.Path.{◌≡◌, refl, sym}
use native.Mathlib.Omega.{arith}
use lib.Dec.{eqb}
use borrow.Author.Tests.{eqb-true, ne_eqb}
use Rattle.lists.specs.Firsts.{joined, appearing}
use Rattle.lists.specs.Parts.{Bytes}
use Rattle.lists.specs.Tests.{any, Each}
use Rattle.lists.proofs.FirstLaws.{each-joined, each-appearing}
use Rattle.lists.proofs.TestLaws.{each-so}
use Rattle.witness_read.specs.Sections.{Sections}
use Rattle.compose_spec.specs.declared.ModelLeaves.{ModelLeaves}
use Rattle.compose_spec.specs.declared.Mapping.{Mapping}
use Rattle.compose_spec.specs.declared.Mapping.TheVariants as mapping
use Rattle.compose_spec.specs.Mapping.{maps_by_name, mapping_of}
use Rattle.compose_spec.specs.Numbering.{Key, shared, alone, same_key, Entry, same_entry, private_name, entry_of, entries_from}
use Rattle.compose_joint.specs.declared.Leaves.{Leaves}
use Rattle.compose_joint.specs.Inner.Joint.{names_of, model_of, unnamed_of, entries_of}
use Rattle.compose_joint.proofs.OriginLaws.{entries_in, entries_none, entries_split}

-- a private key of an earlier witness, or of witness w with a number below k; or a shared one
abbrev Earlier : ℕ → ℕ → Key → Type 0
Earlier w k (shared l) = Unit {0}
Earlier w k (alone x j) = (x ≤ w) × (x ≡ w → j < k)

-- this holds for the number after it
earlier_more : (w k : ℕ) (a : Key) → Earlier w k a → Earlier w (suc k) a
earlier_more w k (shared l) h = tt
earlier_more w k (alone x j) h = (h.0, λ e. omega (arith, h.1 e))

-- and for the next witness
earlier-next : (w k : ℕ) (a : Key) → Earlier w k a → Earlier (suc w) 0 a
earlier-next w k (shared l) h = tt
earlier-next w k (alone x j) h = (omega (arith, h.0), λ e. absurd (omega (arith, h.0)))

-- number k of witness w is earlier than the number after it
entry-earlier : (unnamed : Bytes) (w k : ℕ) (name : Option Bytes) (x : Mapping) → Earlier w (suc k) (entry_of unnamed w k name x).key
entry-earlier unnamed w k name mapping.Private = (omega arith, λ e. omega arith)
entry-earlier unnamed w k name (mapping.Onto l) = tt
entry-earlier unnamed w k name mapping.Wrong = (omega arith, λ e. omega arith)

-- number k of witness w is no earlier one
alone_new : (w k : ℕ) (a : Key) → Earlier w k a → same_key (alone w k) a ≡ false
alone_new w k (shared l) h = refl
alone_new w k (alone x j) h = go (eqb w x) refl
  where
    go : (q : Bool) → eqb w x ≡ q → (q && eqb k j) ≡ false
    go true e =
        let low : j < k = h.1 (sym (eqb-true w x e)) in
        ne_eqb k j (λ f. omega arith)
    go false e = refl

-- it is none of earlier ones
alone-none : (w k : ℕ) (name : Bytes) (seen : List Entry) → Each (λ a. Earlier w k a.key) seen → any (same_entry (record { key = alone w k; name = name })) seen ≡ false
alone-none w k name [] h = refl
alone-none w k name (a ∷ as') h = rw (alone_new w k a.key h.0) (alone-none w k name as' h.1)

-- where the key is private, the entry was not there before
abbrev pub New : Key → Bool → Type 0
New (shared l) there = Unit {0}
New (alone w k) there = there ≡ false

-- private entries are new behind those seen and behind each other
abbrev pub Fresh : List Entry → List Entry → Type 0
Fresh seen [] = Unit {0}
Fresh seen (e ∷ es) = New e.key (any (same_entry e) seen) × Fresh (joined same_entry e seen) es

-- two lists one after the other
fresh_append : (seen es fs : List Entry) → Fresh seen es → Fresh (appearing same_entry seen es) fs → Fresh seen (es ++ fs)
fresh_append seen [] fs h k = k
fresh_append seen (e ∷ es) fs h k = (h.0, fresh_append (joined same_entry e seen) es fs h.1 k)

module _ (p : ModelLeaves) (unnamed : Bytes) (w : ℕ) where
  -- number k of witness w is new behind earlier ones
  entry_new : (k : ℕ) (name : Option Bytes) (x : Mapping) (seen : List Entry) → Each (λ a. Earlier w k a.key) seen
      → New (entry_of unnamed w k name x).key (any (same_entry (entry_of unnamed w k name x)) seen)
  entry_new k name mapping.Private seen h = alone-none w k (private_name unnamed w name) seen h
  entry_new k name (mapping.Onto l) seen h = tt
  entry_new k name mapping.Wrong seen h = alone-none w k (private_name unnamed w name) seen h

  -- so are those from number k on
  witness_fresh : (named : Bool) (k : ℕ) (names : List (Option Bytes)) (seen : List Entry) → Each (λ a. Earlier w k a.key) seen
      → Fresh seen (entries_from p unnamed w named k names)
  witness_fresh named k [] seen h = tt
  witness_fresh named k (name ∷ names) seen h =
      let x : Mapping = mapping_of p named k name in
      let e : Entry = entry_of unnamed w k name x in (
        entry_new k name x seen h,
        witness_fresh named (suc k) names (joined same_entry e seen)
            (each-joined same_entry (λ a. Earlier w (suc k) a.key) e seen (entry-earlier unnamed w k name x)
            (each-so (λ a. Earlier w k a.key) (λ a. Earlier w (suc k) a.key) (λ a. earlier_more w k a.key) seen h)),
      )

  -- the entries of witness w are earlier than the next witness
  witness-earlier : (named : Bool) (k : ℕ) (names : List (Option Bytes)) → Each (λ a. Earlier (suc w) 0 a.key) (entries_from p unnamed w named k names)
  witness-earlier named k [] = tt
  witness-earlier named k (name ∷ names) =
      let x : Mapping = mapping_of p named k name in
      (earlier-next w (suc k) (entry_of unnamed w k name x).key (entry-earlier unnamed w k name x), witness-earlier named (suc k) names)

-- the private entries of all witnesses are new, behind those of earlier ones
all_fresh : (kind : Leaves) (m : Sections) (w : ℕ) (ws : List Sections) (seen : List Entry) → Each (λ a. Earlier w 0 a.key) seen → Fresh seen (entries_of kind m w ws)
all_fresh kind m w [] seen h = rw (entries_none kind m w) tt
all_fresh kind m w (s ∷ ss) seen h =
    let p : ModelLeaves = model_of kind m in
    let es : List Entry = entries_in kind m w s in
    rw (entries_split kind m w s ss)
    (fresh_append seen es (entries_of kind m (suc w) ss)
    (witness_fresh p (unnamed_of kind) w (maps_by_name s) 0 (names_of kind s) seen h)
    (all_fresh kind m (suc w) ss (appearing same_entry seen es)
    (each-appearing same_entry (λ a. Earlier (suc w) 0 a.key) seen es
    (each-so (λ a. Earlier w 0 a.key) (λ a. Earlier (suc w) 0 a.key) (λ a. earlier-next w 0 a.key) seen h)
    (witness-earlier p (unnamed_of kind) w (maps_by_name s) 0 (names_of kind s)))))

-- the private entries of all witnesses are new
pub entries_fresh : (kind : Leaves) (m : Sections) (ws : List Sections) → Fresh [] (entries_of kind m 0 ws)
entries_fresh kind m ws = all_fresh kind m 0 ws [] tt
