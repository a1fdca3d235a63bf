-- Laws of `Held`: an empty table, where a search can be, a search in a table with more words, and the keys read back. (That the nodes fit into the words is its field `fits`.)
use Prim.Native.Nat.{ℕ, zero, suc, ◌+◌, ◌-◌, ◌/◌, ◌%◌, ◌≤◌, ◌<◌}
use mathlib.Core.Path.{◌≡◌, sym, ap, ◌∙◌}
use mathlib.Core.List.{List, []}
use native.Mathlib.Omega.{arith}
use lib.ListN.{length, get_or, take}
use lib.Seq.{get_or-take}
use Rattle.lists.specs.Parts.{zeros}
use Rattle.lists.proofs.ZeroLaws.{zeros-at}
use Rattle.key_table.specs.Inner.Table.{mix_of, head_of, code_of, node_at, node_from, link_from, Passes, Path, Comes, Leads, Held, Searchable, Holding}
use Rattle.key_table.proofs.HashLaws.{head-below}
use Rattle.key_table.proofs.PathLaws.{path-more}

-- a word that is 0 leads nowhere
pub leads-none : (heads count : ℕ) (t : List ℕ) (a : ℕ) → get_or t a 0 ≡ 0 → Leads heads count t a
leads-none heads count t a e = record { low = omega (arith, e); onward = λ h. absurd (omega (arith, e)) }

-- words whose heads are 0 hold no keys, whatever stands behind the heads
pub held_none : (heads : ℕ) (t : List ℕ) → heads ≤ length t → take heads t ≡ zeros heads → Held heads [] t
held_none heads t h e =
    record {
      fits = omega arith;
      head = λ a k. leads-none heads 0 t a (sym (get_or-take heads t a 0 k) ∙ ap (λ (l : List ℕ). get_or l a 0) e ∙ zeros-at heads a);
      link = λ j b k. absurd (omega arith);
      key = λ j k. absurd (omega arith);
      found = λ j k. absurd (omega arith);
    }

-- what a caller has to know to look for a key
pub holding : (heads count key : ℕ) (keys t : List ℕ) → Held heads keys t → length keys ≡ count → 0 < heads → heads ≤ 4294967296 → key + 1 < 18446744073709551616
    → node_at heads (count + 1) ≤ length t → Holding heads count key t
holding heads count key keys t held c some most word room =
    record { base = record { keys = keys; held = held; some = some; most = most; word = word }; counted = c; room = room }

-- the place of a search among the heads and links of so many nodes
pub record Stands (heads count : ℕ) (t : List ℕ) (a : ℕ) : Type 0 where
  pub leads : Leads heads count t a
  pub low : a < node_at heads count

-- before place n, words that are not 0 stay as they are
abbrev pub Extends : ℕ → (t t' : List ℕ) → Type 0
Extends n t t' = (i : ℕ) → i < n → 0 < get_or t i 0 → get_or t' i 0 ≡ get_or t i 0

module _ (heads : ℕ) (keys t : List ℕ) (held : Held heads keys t) where
  stands-more : (a c : ℕ) → Stands heads (length keys) t a → 0 < get_or t a 0 → Stands heads (length keys) t (link_from heads t a c)
  stands-more a c s h =
      record {
        leads = held.link (get_or t a 0 - 1) (c % 2) (omega (arith, s.leads.low)) (omega arith);
        low = omega (arith, s.leads.low);
      }

  stands_after : (key n a c z d : ℕ) → Path heads key t n a c z d → Stands heads (length keys) t a → Stands heads (length keys) t z
  stands_after key zero a c z d p s = rw p.0 at s
  stands_after key (suc n) a c z d p s = stands_after key n (link_from heads t a c) (c / 2) z d p.1 (stands-more a c s p.0.some)

  -- a search in a table whose words are the same, where they are not 0 and stand before the end of the nodes
  module _ (key : ℕ) (t' : List ℕ) (x : Extends (node_at heads (length keys)) t t') where
    passes_kept : (a : ℕ) → Stands heads (length keys) t a → Passes heads key t a → Passes heads key t' a
    passes_kept a s p =
        let e = x a s.low p.some in
        let f = x (node_from heads t a) (omega (arith, s.leads.low, p.some)) p.used in
        record { some = rw e p.some; used = rw (e, f) p.used; other = rw (e, f) p.other }

    path-kept : (n a c z d : ℕ) → Stands heads (length keys) t a → Path heads key t n a c z d → Path heads key t' n a c z d
    path-kept zero a c z d s p = p
    path-kept (suc n) a c z d s p = (
      passes_kept a s p.0,
      rw (x a s.low p.0.some) (path-kept n (link_from heads t a c) (c / 2) z d (stands-more a c s p.0.some) p.1),
    )

  module _ (some : 0 < heads) (key at code : ℕ) (m : Comes heads key t at code) where
    start : Stands heads (length keys) t (head_of heads (mix_of key))
    start =
        let h = head-below heads (mix_of key) some in
        record { leads = held.head (head_of heads (mix_of key)) h; low = omega (arith, h) }

    pub comes-stands : Stands heads (length keys) t at
    comes-stands = stands_after key m.steps (head_of heads (mix_of key)) (code_of (mix_of key)) at code m.path start

    pub comes-kept : (t' : List ℕ) → Extends (node_at heads (length keys)) t t' → Comes heads key t' at code
    comes-kept t' x = record { steps = m.steps; path = path-kept key t' x m.steps (head_of heads (mix_of key)) (code_of (mix_of key)) at code start m.path }

    -- a word that is not 0 leads to a node
    pub node_used : 0 < get_or t at 0 → 0 < get_or t (node_from heads t at) 0
    node_used h = omega (arith, held.key (get_or t at 0 - 1) (omega (arith, comes-stands.leads.low)))

-- node `number`, which the word at place `at` leads to, stands further on, within so many words
pub record Ahead (heads size at number : ℕ) : Type 0 where
  pub onward : at < node_at heads number
  pub within : node_at heads number + 3 ≤ size

module _ (heads key : ℕ) (t : List ℕ) (s : Searchable heads key t) (at code : ℕ) (m : Comes heads key t at code) where
  stands : Stands heads (length s.keys) t at
  stands = comes-stands heads s.keys t s.held s.some key at code m

  -- the code may read there
  pub comes-within : at < length t
  comes-within = omega (arith, stands.low, s.held.fits)

  module _ (number : ℕ) (e : get_or t at 0 ≡ number + 1) where
    -- it is the node that `Table` says
    number-is : get_or t at 0 - 1 ≡ number
    number-is = omega (arith, e)

    -- and at the node that it finds there
    pub comes-ahead : Ahead heads (length t) at number
    comes-ahead =
        record {
          onward = rw number-is at (stands.leads.onward (omega (arith, e)));
          within = omega (arith, e, stands.leads.low, s.held.fits);
        }

    -- a search that passes a node
    pub comes-more : (get_or t (node_at heads number) 0 ≡ key + 1 → ⊥) → Comes heads key t (node_at heads number + 1 + code % 2) (code / 2)
    comes-more o =
        let some : 0 < get_or t at 0 = omega (arith, e) in
        rw (← number-is)
        (record {
          steps = suc m.steps;
          path = path-more heads key t m.steps (head_of heads (mix_of key)) (code_of (mix_of key)) at code m.path
              (record {
                some = some;
                used = node_used heads s.keys t s.held s.some key at code m some;
                other = rw (← number-is) at o;
              });
        })
