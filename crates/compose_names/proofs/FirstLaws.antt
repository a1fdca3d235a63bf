-- Numbers at first appearance: rows with their numbers, walked in their order, are new exactly where they first appear.
use Prim.Native.Nat.{ℕ, suc, ◌+◌, ◌-◌, ◌<◌}
use mathlib.Core.Bool.{Bool, true, false, cond}
use mathlib.Core.List.{List, [], ◌∷◌, ◌++◌, map, append_assoc, append-nil}
use mathlib.Core.Option.{some}
use mathlib.Core.Path.{◌≡◌, refl, sym, ap, ◌∙◌, subst}
use native.Mathlib.Omega.{arith}
use borrow.Author.Tests.{eq-eqb, ne_eqb}
use lib.ListN.{length, length-append}
use Rattle.lists.specs.Firsts.{place, joined, appearing}
use Rattle.lists.specs.Parts.{Bytes}
use Rattle.lists.specs.Tests.{any}
use Rattle.lists.proofs.FirstLaws.{place_new, Begins, place-begins, place_inside, joined-has, joined_new, joined-any, appearing-begins}
use Rattle.compose_spec.specs.Numbering.{Entry, same_entry, numbered}
use Rattle.compose_spec.specs.Printing.{symbol_line, symbol_lines}
use Rattle.compose_spec.proofs.PlacedLaws.{entry_self}
use Rattle.compose_names.specs.Inner.Symbols.{Row, new_lines}

-- those of a list that are new behind others
abbrev fresh : List Entry → List Entry → List Entry
fresh seen [] = []
fresh seen (e ∷ es) = cond (any (same_entry e) seen) (fresh seen es) (e ∷ fresh (seen ++ e ∷ []) es)

-- they stand behind the others
fresh_appear : (seen es : List Entry) → appearing same_entry seen es ≡ seen ++ fresh seen es
fresh_appear seen [] = sym (append-nil seen)
fresh_appear seen (e ∷ es) = go (any (same_entry e) seen) (fresh_appear seen es) (fresh_appear (seen ++ e ∷ []) es)
  where
    go : (b : Bool) → appearing same_entry seen es ≡ seen ++ fresh seen es → appearing same_entry (seen ++ e ∷ []) es ≡ (seen ++ e ∷ []) ++ fresh (seen ++ e ∷ []) es
        → appearing same_entry (cond b seen (seen ++ e ∷ [])) es ≡ seen ++ cond b (fresh seen es) (e ∷ fresh (seen ++ e ∷ []) es)
    go true h k = h
    go false h k = k ∙ append_assoc seen (e ∷ []) (fresh (seen ++ e ∷ []) es)

-- an entry with its number, where the entries `firsts` have the numbers from `first` on
abbrev pub row_of : ℕ → List Entry → Entry → Row
row_of first firsts e = record { number = numbered first firsts e; name = e.name }

module _ (kind first : ℕ) (firsts : List Entry) where
  -- the lines of the new ones
  fresh_lines : (seen es : List Entry) → firsts ≡ appearing same_entry seen es
      → new_lines kind first (first + length seen) (map (row_of first firsts) es) ≡ symbol_lines kind (length seen) (map (λ (e : Entry). some e.name) (fresh seen es))
  fresh_lines seen [] h = refl
  fresh_lines seen (e ∷ es) h = go (any (same_entry e) seen) refl (fresh_lines seen es) (fresh_lines (seen ++ e ∷ []) es)
    where
      rows : List Row
      rows = map (row_of first firsts) es

      begins : Begins (joined same_entry e seen) firsts
      begins = subst (Begins (joined same_entry e seen)) (sym h) (appearing-begins same_entry (joined same_entry e seen) es)

      number : place same_entry e firsts ≡ place same_entry e (joined same_entry e seen)
      number = place-begins same_entry e (joined same_entry e seen) firsts begins (joined-any same_entry entry_self e seen)

      longer : length (seen ++ e ∷ []) ≡ suc (length seen)
      longer = omega (arith, length-append seen (e ∷ []))

      go : (b : Bool) → any (same_entry e) seen ≡ b
          → (firsts ≡ appearing same_entry seen es → new_lines kind first (first + length seen) rows ≡ symbol_lines kind (length seen) (map (λ (x : Entry). some x.name) (fresh seen es)))
          → (firsts ≡ appearing same_entry (seen ++ e ∷ []) es
          → new_lines kind first (first + length (seen ++ e ∷ [])) rows ≡ symbol_lines kind (length (seen ++ e ∷ [])) (map (λ (x : Entry). some x.name) (fresh (seen ++ e ∷ []) es)))
          → new_lines kind first (first + length seen) (row_of first firsts e ∷ rows)
          ≡ symbol_lines kind (length seen) (map (λ (x : Entry). some x.name) (cond b (fresh seen es) (e ∷ fresh (seen ++ e ∷ []) es)))
      go true b p q =
          let old : place same_entry e firsts ≡ place same_entry e seen = number ∙ ap (place same_entry e) (joined-has same_entry e seen b) in
          let less : place same_entry e seen < length seen = place_inside same_entry e seen b in
          rw (ne_eqb (first + place same_entry e firsts) (first + length seen) (λ s. omega (arith, old, less, s))) (p (h ∙ ap (λ (x : List Entry). appearing same_entry x es) (joined-has same_entry e seen b)))
      go false b p q =
          let new : place same_entry e firsts ≡ length seen = number ∙ (ap (place same_entry e) (joined_new same_entry e seen b) ∙ place_new same_entry entry_self e seen b) in
          let index : first + length seen - first ≡ length seen = omega arith in
          let next : first + length (seen ++ e ∷ []) ≡ suc (first + length seen) = omega (arith, longer) in
          let others : new_lines kind first (suc (first + length seen)) rows ≡ symbol_lines kind (suc (length seen)) (map (λ (x : Entry). some x.name) (fresh (seen ++ e ∷ []) es)) =
          sym (ap (λ (n : ℕ). new_lines kind first n rows) next)
          ∙ (q (h ∙ ap (λ (x : List Entry). appearing same_entry x es) (joined_new same_entry e seen b))
          ∙ ap (λ (n : ℕ). symbol_lines kind n (map (λ (x : Entry). some x.name) (fresh (seen ++ e ∷ []) es))) longer) in
          rw (eq-eqb (first + place same_entry e firsts) (first + length seen) (omega (arith, new)), index)
          (ap (λ (ls : List Bytes). symbol_line kind (length seen) e.name ∷ ls) others)

-- walking all entries prints the first ones
pub first-lines : (kind first : ℕ) (es : List Entry)
    → new_lines kind first first (map (row_of first (appearing same_entry [] es)) es) ≡ symbol_lines kind 0 (map (λ (e : Entry). some e.name) (appearing same_entry [] es))
first-lines kind first es =
    let none : first + 0 ≡ first = omega arith in
    let firsts : List Entry = appearing same_entry [] es in
    sym (ap (λ (n : ℕ). new_lines kind first n (map (row_of first firsts) es)) none)
    ∙ (fresh_lines kind first firsts [] es refl ∙ ap (λ (x : List Entry). symbol_lines kind 0 (map (λ (e : Entry). some e.name) x)) (sym (fresh_appear [] es)))
