-- The numbers that the origin words get, with the numbers assigned to the model's literals, are those of their entries at first appearance.
use Prim.Native.Nat.{ℕ, suc, ◌+◌, ◌*◌, ◌/◌, ◌%◌, ◌<◌}
use mathlib.Core.Bool.{Bool, true, false, cond, or-false}
use mathlib.Core.List.{List, [], ◌∷◌, ◌++◌, map}
use mathlib.Core.Path.{◌≡◌, refl, sym, ap, ap₂, subst, ◌∙◌}
use native.Mathlib.Omega.{arith}
use lib.Dec.{eqb}
use lib.ListN.{length, get_or, set, length-append, length-set}
use lib.Seq.{get_or-set_same, get_or-set_other}
use borrow.Author.Tests.{eqb-true, eqb-false, eq-eqb, ne_eqb}
use Rattle.lists.specs.Bits.{odd}
use Rattle.lists.specs.Firsts.{place, joined, appearing}
use Rattle.lists.specs.Parts.{zeros}
use Rattle.lists.specs.Tests.{any}
use Rattle.lists.proofs.FirstLaws.{place_outside, place_append, place_same, place-joined, place-first, joined-has, joined-any}
use Rattle.lists.proofs.TestLaws.{any_append, any_cong}
use Rattle.lists.proofs.ZeroLaws.{zeros-length, zeros-at}
use Rattle.witness_read.specs.Sections.{Sections}
use Rattle.compose_spec.specs.declared.ModelLeaves.{ModelLeaves}
use Rattle.compose_spec.specs.Numbering.{Key, shared, alone, same_key, Entry, same_entry, input_entries, latch_entries, input_firsts, latch_firsts, numbered, leaf_count}
use Rattle.compose_spec.proofs.PlacedLaws.{entry_self, entry_alike}
use Rattle.compose_spec.proofs.WholeLaws.{Both}
use Rattle.compose_joint.specs.declared.Leaves.{Leaves}
use Rattle.compose_joint.specs.declared.Leaves.TheVariants as leaf
use Rattle.compose_joint.specs.Inner.Joint.{model_of, origins, entries_of}
use Rattle.compose_joint.specs.Inner.Numbers.{Numbers, with_number, slot, number_all}
use Rattle.compose_joint.proofs.OriginLaws.{OfKind, Says, origins-say}
use Rattle.compose_joint.proofs.FreshLaws.{New, Fresh, entries_fresh}

-- the numbers r that entries get, where `firsts` have the numbers n, n + 1, ..
pub record Numbered (n : ℕ) (firsts es : List Entry) (r : Numbers) : Type 0 where
  pub numbers : r.numbers ≡ map (numbered n firsts) es
  pub next : r.next ≡ n + length firsts

-- an entry of the literal l of the model
abbrev entry_for : ℕ → Entry
entry_for l = record { key = shared l; name = [] }

module _ (n : ℕ) where
  -- the word of an entry in the assigned numbers: its number, or 0 where it was not seen
  abbrev word_of : List Entry → Entry → ℕ
  word_of seen e = cond (any (same_entry e) seen) (n + place same_entry e seen) 0

  -- another entry that is joined does not change it
  word-other : (seen : List Entry) (e d : Entry) → same_entry d e ≡ false → word_of (joined same_entry e seen) d ≡ word_of seen d
  word-other seen e d h = go (any (same_entry e) seen) (any (same_entry d) seen) refl
    where
      same : any (same_entry d) (seen ++ (e ∷ [])) ≡ any (same_entry d) seen
      same = any_append (same_entry d) seen (e ∷ []) ∙ rw h (or-false (any (same_entry d) seen))

      go : (q t : Bool) → any (same_entry d) seen ≡ t → word_of (cond q seen (seen ++ (e ∷ []))) d ≡ word_of seen d
      go true t f = refl
      go false true f = rw (same, f) (ap (λ (k : ℕ). n + k) (place_append same_entry d seen (e ∷ []) f))
      go false false f = rw (same, f) refl

  -- entries that are the same have one word
  word_alike : (seen : List Entry) (e d : Entry) → same_entry e d ≡ true → word_of seen e ≡ word_of seen d
  word_alike seen e d h =
      rw (any_cong (same_entry e) (same_entry d) (λ z. entry_alike e d z h) seen, place_same same_entry entry_self entry_alike e d seen h) refl

  -- one that is joined has its number
  word-joined : (seen : List Entry) (e : Entry) → word_of (joined same_entry e seen) e ≡ n + place same_entry e seen
  word-joined seen e = rw (joined-any same_entry entry_self e seen) (ap (λ (k : ℕ). n + k) (place-joined same_entry entry_self e seen))

  -- one more entry with its number
  one_more : (e : Entry) (seen es : List Entry) (y : ℕ) (r : Numbers) → y ≡ n + place same_entry e seen → Numbered n (appearing same_entry (joined same_entry e seen) es) es r
      → Numbered n (appearing same_entry (joined same_entry e seen) es) (e ∷ es) (with_number y r)
  one_more e seen es y r h t =
      record {
        numbers =
            ap₂ {C = List ℕ} (λ z zs. z ∷ zs) (h ∙ ap (λ (k : ℕ). n + k) (sym (place-first same_entry entry_self e seen es))) t.numbers;
        next = t.next;
      }

  -- a new entry makes one more
  new_next : (e : Entry) (seen : List Entry) → any (same_entry e) seen ≡ false → n + length (joined same_entry e seen) ≡ suc (n + length seen)
  new_next e seen h = rw h (omega (arith, length-append seen (e ∷ [])))

-- a number is never 0
module _ (n : ℕ) (some : 0 < n) (p : ModelLeaves) where
  -- each word of the assigned numbers is that of its literal
  abbrev Assigned : List Entry → List ℕ → Type 0
  Assigned seen assigned = (j : ℕ) → j < length assigned → get_or assigned j 0 ≡ word_of n seen (entry_for (2 * suc (p.before + j)))

  -- the words behind those seen are numbered, whatever the assigned numbers are
  abbrev Rest : List Entry → List ℕ → List Entry → Type 0
  Rest seen xs es =
      (assigned : List ℕ) → length assigned ≡ p.count → Assigned seen assigned
      → Numbered n (appearing same_entry seen es) es (number_all p.before (n + length seen) xs assigned)

  module _ (e : Entry) (seen : List Entry) (x : ℕ) (xs : List ℕ) (es : List Entry) (rest : Rest (joined same_entry e seen) xs es) (assigned : List ℕ) (long : length assigned ≡ p.count) (t : Assigned seen assigned) where
    -- the first appearances in the end
    abbrev firsts : List Entry
    firsts = appearing same_entry (joined same_entry e seen) es

    -- the next number
    abbrev next : ℕ
    next = n + length seen

    -- a new entry has the next number
    with_new : any (same_entry e) seen ≡ false → (after : List ℕ) → length after ≡ p.count → Assigned (joined same_entry e seen) after
        → Numbered n firsts (e ∷ es) (with_number next (number_all p.before (suc next) xs after))
    with_new f after l u =
        one_more n e seen es next (number_all p.before (suc next) xs after) (ap (λ (k : ℕ). n + k) (sym (place_outside same_entry e seen f)))
        (subst (λ (a : ℕ). Numbered n firsts es (number_all p.before a xs after)) (new_next n e seen f) (rest after l u))

    -- a private entry
    number-alone : (w k : ℕ) → e.key ≡ alone w k → odd x ≡ true → any (same_entry e) seen ≡ false
        → Numbered n firsts (e ∷ es) (number_all p.before next (x ∷ xs) assigned)
    number-alone w k is o f =
        rw o (with_new f assigned long (λ j h. t j h ∙ sym (word-other n seen e (entry_for (2 * suc (p.before + j))) (ap (same_key (shared (2 * suc (p.before + j)))) is))))

    module _ (is : e.key ≡ shared x) (o : odd x ≡ false) (within : OfKind p x) where
      -- the word's place in the assigned numbers
      abbrev at : ℕ
      at = slot p.before x

      -- the literal of the word's place in the assigned numbers
      literal-at : x ≡ 2 * suc (p.before + at)
      literal-at =
          let e' : x % 2 ≡ 1 → ⊥ = eqb-false (x % 2) 1 o in
          let above : p.before < x / 2 = within.above in
          omega arith

      -- it is in the assigned numbers
      inside : at < length assigned
      inside = rw long within.slot

      -- the entry is that of the literal
      same-entry : same_entry e (entry_for (2 * suc (p.before + at))) ≡ true
      same-entry = ap (λ (k : Key). same_key k (shared (2 * suc (p.before + at)))) is ∙ eq-eqb x (2 * suc (p.before + at)) literal-at

      -- the assigned numbers have its word
      word-here : get_or assigned at 0 ≡ word_of n seen e
      word-here = t at inside ∙ sym (word_alike n seen e (entry_for (2 * suc (p.before + at))) same-entry)

      -- one that was seen has the number in the assigned numbers
      number_seen : any (same_entry e) seen ≡ true → Numbered n firsts (e ∷ es) (number_all p.before next (x ∷ xs) assigned)
      number_seen f =
          let is_number : get_or assigned at 0 ≡ n + place same_entry e seen = word-here ∙ rw f refl in
          let found : eqb (get_or assigned at 0) 0 ≡ false = ne_eqb (get_or assigned at 0) 0 (λ z. omega arith) in
          let kept : joined same_entry e seen ≡ seen = joined-has same_entry e seen f in
          rw (o, found)
          (one_more n e seen es (get_or assigned at 0) (number_all p.before next xs assigned) is_number
          (subst (λ (a : ℕ). Numbered n firsts es (number_all p.before a xs assigned)) (ap (λ (l : List Entry). n + length l) kept)
          (rest assigned long (subst (λ (l : List Entry). Assigned l assigned) (sym kept) t))))

      -- the assigned numbers with the next number at its place
      assigned-set : any (same_entry e) seen ≡ false → Assigned (joined same_entry e seen) (set assigned at next)
      assigned-set f j h = go (eqb j at) refl
        where
          go : (q : Bool) → eqb j at ≡ q → get_or (set assigned at next) j 0 ≡ word_of n (joined same_entry e seen) (entry_for (2 * suc (p.before + j)))
          go true g =
              subst (λ (i : ℕ). get_or (set assigned at next) i 0 ≡ word_of n (joined same_entry e seen) (entry_for (2 * suc (p.before + i)))) (sym (eqb-true j at g))
              (get_or-set_same assigned at next 0 inside ∙ ap (λ (k : ℕ). n + k) (sym (place_outside same_entry e seen f)) ∙ sym (word-joined n seen e)
              ∙ word_alike n (joined same_entry e seen) e (entry_for (2 * suc (p.before + at))) same-entry)
          go false g =
              let apart : j ≡ at → ⊥ = eqb-false j at g in
              let other : same_entry (entry_for (2 * suc (p.before + j))) e ≡ false =
              ap (same_key (shared (2 * suc (p.before + j)))) is ∙ ne_eqb (2 * suc (p.before + j)) x (λ z. apart (omega (arith, literal-at))) in
              get_or-set_other assigned at j next 0 apart ∙ t j (rw length-set at h) ∙ sym (word-other n seen e (entry_for (2 * suc (p.before + j))) other)

      -- one that is new has the next number
      number-shared_new : any (same_entry e) seen ≡ false → Numbered n firsts (e ∷ es) (number_all p.before next (x ∷ xs) assigned)
      number-shared_new f =
          let empty : eqb (get_or assigned at 0) 0 ≡ true = eq-eqb (get_or assigned at 0) 0 (word-here ∙ rw f refl) in
          rw (o, empty) (with_new f (set assigned at next) (length-set assigned at next ∙ long) (assigned-set f))

      -- either way
      number-shared : (q : Bool) → any (same_entry e) seen ≡ q → Numbered n firsts (e ∷ es) (number_all p.before next (x ∷ xs) assigned)
      number-shared true f = number_seen f
      number-shared false f = number-shared_new f

    -- an entry of either sort
    number_one_lem : (k : Key) → e.key ≡ k → Says p x k → New k (any (same_entry e) seen) → Numbered n firsts (e ∷ es) (number_all p.before next (x ∷ xs) assigned)
    number_one_lem (shared l) is h f = number-shared (is ∙ ap shared (sym h.0)) h.1.0 h.1.1 (any (same_entry e) seen) refl
    number_one_lem (alone w k) is h f = number-alone w k is h f

  -- words that say the keys of entries get the numbers of the entries
  number-rest : (xs : List ℕ) (es seen : List Entry) → Both (λ x e. Says p x e.key) xs es → Fresh seen es → Rest seen xs es
  number-rest [] [] seen h f assigned long t = record { numbers = refl; next = refl }
  number-rest [] (e ∷ es) seen h f assigned long t = absurd h
  number-rest (x ∷ xs) [] seen h f assigned long t = absurd h
  number-rest (x ∷ xs) (e ∷ es) seen h f assigned long t =
      number_one_lem e seen x xs es (number-rest xs es (joined same_entry e seen) h.1 f.1) assigned long t e.key refl h.0 f.0

-- The origin words of a kind get the numbers of their entries, from n on.
pub number-origins : (kind : Leaves) (m : Sections) (ws : List Sections) (n : ℕ) → 0 < n
    → Numbered n (appearing same_entry [] (entries_of kind m 0 ws)) (entries_of kind m 0 ws)
    (number_all (model_of kind m).before n (origins kind m ws) (zeros (model_of kind m).count))
number-origins kind m ws n some =
    let p : ModelLeaves = model_of kind m in
    let e : n + 0 ≡ n = omega arith in
    let es : List Entry = entries_of kind m 0 ws in
    subst (λ (a : ℕ). Numbered n (appearing same_entry [] es) es (number_all p.before a (origins kind m ws) (zeros p.count))) e
    (number-rest n some p (origins kind m ws) es [] (origins-say kind m ws) (entries_fresh kind m ws)
    (zeros p.count) (zeros-length p.count) (λ j h. zeros-at p.count j))

-- the same for the inputs
inputs-numbered : (m : Sections) (ws : List Sections)
    → Numbered 1 (input_firsts m ws) (input_entries m 0 ws) (number_all 0 1 (origins leaf.Inputs m ws) (zeros (length m.inputs)))
inputs-numbered m ws = number-origins leaf.Inputs m ws 1 (omega arith)

-- the same for the latches, behind the inputs
latches-numbered : (m : Sections) (ws : List Sections)
    → Numbered (suc (length (input_firsts m ws))) (latch_firsts m ws) (latch_entries m 0 ws)
    (number_all (length m.inputs) (suc (length (input_firsts m ws))) (origins leaf.Latches m ws) (zeros (length m.latches)))
latches-numbered m ws = number-origins leaf.Latches m ws (suc (length (input_firsts m ws))) (omega arith)

-- The inputs of all witnesses get the composed variables of their entries.
pub input-numbers : (m : Sections) (ws : List Sections)
    → (number_all 0 1 (origins leaf.Inputs m ws) (zeros (length m.inputs))).numbers ≡ map (numbered 1 (input_firsts m ws)) (input_entries m 0 ws)
input-numbers m ws = (inputs-numbered m ws).numbers

-- The number behind them.
pub input-next : (m : Sections) (ws : List Sections) → (number_all 0 1 (origins leaf.Inputs m ws) (zeros (length m.inputs))).next ≡ suc (length (input_firsts m ws))
input-next m ws = (inputs-numbered m ws).next ∙ omega arith

-- The latches of all witnesses get the composed variables of their entries.
pub latch_numbers_lem : (m : Sections) (ws : List Sections)
    → (number_all (length m.inputs) (suc (length (input_firsts m ws))) (origins leaf.Latches m ws) (zeros (length m.latches))).numbers
    ≡ map (numbered (suc (length (input_firsts m ws))) (latch_firsts m ws)) (latch_entries m 0 ws)
latch_numbers_lem m ws = (latches-numbered m ws).numbers

-- The number behind them is that of the first composed gate.
pub latch_next : (m : Sections) (ws : List Sections)
    → (number_all (length m.inputs) (suc (length (input_firsts m ws))) (origins leaf.Latches m ws) (zeros (length m.latches))).next ≡ suc (leaf_count m ws)
latch_next m ws = (latches-numbered m ws).next ∙ omega arith
