-- A key that is found, and one that is added: the table holds the keys and it.
use Prim.Native.Nat.{ℕ, zero, suc, ◌+◌, ◌-◌, ◌≤◌, ◌<◌}
use mathlib.Core.Path.{◌≡◌, refl, sym, ap, subst, ◌∙◌}
use mathlib.Core.Bool.{true, false}
use mathlib.Core.Logic.{⊎_elim}
use mathlib.Core.List.{List, [], ◌∷◌, ◌++◌}
use native.Mathlib.Decide.{ℕ_discrete}
use native.Mathlib.Nat.{add-zero}
use native.Mathlib.Omega.{arith}
use lib.Dec.{eqb}
use lib.ListN.{length, get_or, set, length-set, length-append, get_or-append}
use lib.Seq.{get_or-set_same, get_or-set_other, get_or-append_seam}
use Rattle.lists.specs.Tests.{any}
use Rattle.lists.specs.Firsts.{place}
use Rattle.lists.specs.Parts.{put}
use Rattle.lists.proofs.BoolLaws.{to_false, below_or}
use Rattle.lists.proofs.FirstLaws.{place_inside, place_outside}
use Rattle.lists.proofs.PartLaws.{put-length, put-before, put-inside}
use Rattle.key_table.specs.Inner.Table.{mix_of, head_of, code_of, node_at, node_of, Passes, Reached, Leads, Held, Walked, Finds}
use Rattle.key_table.proofs.PlaceLaws.{place_at, any_at}
use Rattle.key_table.proofs.PathLaws.{path-same}
use Rattle.key_table.proofs.HeldLaws.{leads-none, Extends, comes-stands, comes-kept}

module _ (heads key : ℕ) (keys t : List ℕ) (held : Held heads keys t) (at : ℕ) (w : Walked heads key t at) where
  -- a key that is held is where the search ends
  known : any (eqb key) keys ≡ true → get_or t at 0 ≡ place eqb key keys + 1
  known h =
      let j = place eqb key keys in
      let low = place_inside eqb key keys h in
      let r = subst (λ (k : ℕ). Reached heads k t j) (place_at key keys h) (held.found j low) in
      let e : get_or t (node_at heads j) 0 ≡ key + 1 = held.key j low ∙ ap (λ (k : ℕ). k + 1) (place_at key keys h) in
      let n : get_or t r.at 0 - 1 ≡ j = omega (arith, r.word) in
      let here : Passes heads key t r.at → ⊥ = λ p. p.other (ap (λ (i : ℕ). get_or t (node_at heads i) 0) n ∙ e) in
      let there : Passes heads key t at → ⊥ = λ p. p.other (w.stops p.some) in
      ap (λ (i : ℕ). get_or t i 0) (path-same heads key t w.comes.steps r.comes.steps (head_of heads (mix_of key)) (code_of (mix_of key)) at w.code r.at r.code w.comes.path r.comes.path there here)
      ∙ r.word

  -- the search ends at a word that leads to the key's node
  found : 0 < heads → 0 < get_or t at 0 → any (eqb key) keys ≡ true
  found some h =
      let n = get_or t at 0 - 1 in
      let low : n < length keys = omega (arith, (comes-stands heads keys t held some key at w.code w.comes).leads.low) in
      any_at key keys n low (omega (arith, held.key n low, w.stops h))

  -- the search ends at a 0
  missing : get_or t at 0 ≡ 0 → any (eqb key) keys ≡ false
  missing e = to_false (any (eqb key) keys) (λ h. absurd (omega (arith, known h)))

-- the key is added as node n, led to from `at`
abbrev pub with_node : (heads n key : ℕ) (t : List ℕ) (at : ℕ) → List ℕ
with_node heads n key t at = set (put t (node_at heads n) (node_of key)) at (n + 1)

module _ (heads n key : ℕ) (t : List ℕ) (at : ℕ) (low : at < node_at heads n) (inside : node_at heads n + 3 ≤ length t) where
  kept-other : (i : ℕ) → (i ≡ at → ⊥) → i < node_at heads n → get_or (with_node heads n key t at) i 0 ≡ get_or t i 0
  kept-other i a b = get_or-set_other (put t (node_at heads n) (node_of key)) at i (n + 1) 0 a ∙ put-before t (node_at heads n) (node_of key) (omega arith) i 0 b

  new_word : get_or (with_node heads n key t at) at 0 ≡ n + 1
  new_word = get_or-set_same (put t (node_at heads n) (node_of key)) at (n + 1) 0 (omega (arith, put-length t (node_at heads n) (node_of key) (omega arith)))

  -- the words of the node
  new_node : (i : ℕ) → i < 3 → get_or (with_node heads n key t at) (node_at heads n + i) 0 ≡ get_or (node_of key) i 0
  new_node i h =
      get_or-set_other (put t (node_at heads n) (node_of key)) at (node_at heads n + i) (n + 1) 0 (λ e. absurd (omega (arith, e)))
      ∙ put-inside t (node_at heads n) (node_of key) (omega arith) i 0 h

  new_key : get_or (with_node heads n key t at) (node_at heads n) 0 ≡ key + 1
  new_key = ap (λ (i : ℕ). get_or (with_node heads n key t at) i 0) (sym (add-zero (node_at heads n))) ∙ new_node 0 (omega arith)

  new_link : (b : ℕ) → b < 2 → get_or (with_node heads n key t at) (node_at heads n + 1 + b) 0 ≡ 0
  new_link b h =
      let e : node_at heads n + 1 + b ≡ node_at heads n + suc b = omega arith in
      ap (λ (i : ℕ). get_or (with_node heads n key t at) i 0) e ∙ new_node (suc b) (omega arith) ∙ none b h
    where
      none : (b : ℕ) → b < 2 → get_or (node_of key) (suc b) 0 ≡ 0
      none zero h = refl
      none (suc zero) h = refl
      none (suc (suc b)) h = absurd (omega arith)

  extends : get_or t at 0 ≡ 0 → Extends (node_at heads n) t (with_node heads n key t at)
  extends a i b h = kept-other i (λ e. absurd (omega (arith, a, ap (λ (k : ℕ). get_or t k 0) e))) b

  leads-kept : (a : ℕ) → a < node_at heads n → Leads heads n t a → Leads heads (n + 1) (with_node heads n key t at) a
  leads-kept a b l = go (ℕ_discrete a at)
    where
      go : Dec (a ≡ at) → Leads heads (n + 1) (with_node heads n key t at) a
      go (yes e) =
          let f : get_or (with_node heads n key t at) a 0 ≡ n + 1 = ap (λ (i : ℕ). get_or (with_node heads n key t at) i 0) e ∙ new_word in
          record { low = omega (arith, f); onward = λ h. omega (arith, f) }
      go (no o) =
          let f = kept-other a o b in
          record { low = omega (arith, f, l.low); onward = rw f l.onward }

module _ (heads key : ℕ) (keys t : List ℕ) (held : Held heads keys t) (some : 0 < heads) (at : ℕ) (w : Walked heads key t at) where
  -- the table with the key
  added : List ℕ
  added = with_node heads (length keys) key t at

  module _ (empty : get_or t at 0 ≡ 0) (room : node_at heads (length keys + 1) ≤ length t) where
    low : at < node_at heads (length keys)
    low = (comes-stands heads keys t held some key at w.code w.comes).low

    more : Extends (node_at heads (length keys)) t added
    unfolding added
    more = extends heads (length keys) key t at low (omega arith) empty

    old_key : (n : ℕ) → n < length keys → get_or (keys ++ key ∷ []) n 0 ≡ get_or keys n 0
    old_key n h = get_or-append keys (key ∷ []) 0 n h

    last_key : (n : ℕ) → n ≡ length keys → get_or (keys ++ key ∷ []) n 0 ≡ key
    last_key n e = ap (λ (i : ℕ). get_or (keys ++ key ∷ []) i 0) e ∙ get_or-append_seam keys key [] 0

    reached_old : (n : ℕ) → n < length keys → Reached heads (get_or keys n 0) added n
    reached_old n h =
        let r = held.found n h in
        record {
          at = r.at;
          code = r.code;
          comes = comes-kept heads keys t held some (get_or keys n 0) r.at r.code r.comes added more;
          word =
              more r.at (comes-stands heads keys t held some (get_or keys n 0) r.at r.code r.comes).low (omega (arith, r.word))
              ∙ r.word;
        }

    reached_new : Reached heads key added (length keys)
    unfolding added
    reached_new =
        record {
          at = at;
          code = w.code;
          comes = comes-kept heads keys t held some key at w.code w.comes added more;
          word = new_word heads (length keys) key t at low (omega arith);
        }

    leads-added : (a : ℕ) → a < node_at heads (length keys) → Leads heads (length keys) t a → Leads heads (length keys + 1) added a
    unfolding added
    leads-added = leads-kept heads (length keys) key t at low (omega arith)

    -- the new node leads nowhere
    leads_new : (b : ℕ) → b < 2 → Leads heads (length keys + 1) added (node_at heads (length keys) + 1 + b)
    unfolding added
    leads_new b k = leads-none heads (length keys + 1) added (node_at heads (length keys) + 1 + b) (new_link heads (length keys) key t at low (omega arith) b k)

    link-added : (n b : ℕ) → n < length keys + 1 → b < 2 → Leads heads (length keys + 1) added (node_at heads n + 1 + b)
    link-added n b h k = ⊎_elim old new (below_or n (length keys))
      where
        old : n < length keys → Leads heads (length keys + 1) added (node_at heads n + 1 + b)
        old o = leads-added (node_at heads n + 1 + b) (omega arith) (held.link n b o k)

        new : length keys ≤ n → Leads heads (length keys + 1) added (node_at heads n + 1 + b)
        new o =
            let e : length keys ≡ n = omega arith in
            subst (λ (i : ℕ). Leads heads (length keys + 1) added (node_at heads i + 1 + b)) e (leads_new b k)

    key-added : (n : ℕ) → n < length keys + 1 → get_or added (node_at heads n) 0 ≡ get_or (keys ++ key ∷ []) n 0 + 1
    unfolding added
    key-added n h = ⊎_elim old new (below_or n (length keys))
      where
        old : n < length keys → get_or added (node_at heads n) 0 ≡ get_or (keys ++ key ∷ []) n 0 + 1
        old o = rw (old_key n o) (more (node_at heads n) (omega arith) (omega (arith, held.key n o)) ∙ held.key n o)

        new : length keys ≤ n → get_or added (node_at heads n) 0 ≡ get_or (keys ++ key ∷ []) n 0 + 1
        new o =
            let e : n ≡ length keys = omega arith in
            rw (last_key n e) (ap (λ (i : ℕ). get_or added (node_at heads i) 0) e ∙ new_key heads (length keys) key t at low (omega arith))

    found-added : (n : ℕ) → n < length keys + 1 → Reached heads (get_or (keys ++ key ∷ []) n 0) added n
    found-added n h = ⊎_elim old new (below_or n (length keys))
      where
        old : n < length keys → Reached heads (get_or (keys ++ key ∷ []) n 0) added n
        old o = rw (old_key n o) (reached_old n o)

        new : length keys ≤ n → Reached heads (get_or (keys ++ key ∷ []) n 0) added n
        new o =
            let e : n ≡ length keys = omega arith in
            rw (last_key n e) (subst (λ (i : ℕ). Reached heads key added i) (sym e) reached_new)

    pub held-added : Held heads (keys ++ key ∷ []) (with_node heads (length keys) key t at)
    unfolding added
    held-added =
        let l : length (keys ++ key ∷ []) ≡ length keys + 1 = length-append keys (key ∷ []) in
        record {
          fits = omega (arith, l, room, length-set (put t (node_at heads (length keys)) (node_of key)) at (length keys + 1), put-length t (node_at heads (length keys)) (node_of key) (omega arith));
          head = rw l (λ a h. leads-added a (omega arith) (held.head a h));
          link = rw l link-added;
          key = rw l key-added;
          found = rw l found-added;
        }

-- the search ends at a word that leads to a node: it is the key's
pub finds-known : (heads count key : ℕ) (t : List ℕ) (at number : ℕ) → 0 < heads → Walked heads key t at → get_or t at 0 ≡ number + 1 → Finds heads count key t t number
finds-known heads count key t at number some w e keys held c =
    let is = found heads key keys t held at w some (omega (arith, e)) in
    (omega (arith, e, known heads key keys t held at w is), rw is held)

-- the search ends at a 0: the key is added
pub finds_new : (heads count key : ℕ) (t t' : List ℕ) (at : ℕ) → 0 < heads → node_at heads (count + 1) ≤ length t → Walked heads key t at → get_or t at 0 ≡ 0
    → t' ≡ with_node heads count key t at → Finds heads count key t t' count
finds_new heads count key t t' at some room w z q keys held c =
    let is = missing heads key keys t held at w z in
    (sym (place_outside eqb key keys is ∙ c), rw (is, q, ← c) (held-added heads key keys t held some at w z (rw c room)))
