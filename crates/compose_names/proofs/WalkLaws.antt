-- Rows walked in their order: the lines of those that are new, and the loop that prints them.
use Prim.Native.Nat.{ℕ, zero, suc, ◌+◌, ◌-◌, ◌≤◌, ◌<◌}
use mathlib.Core.Bool.{Bool, true, false, cond}
use mathlib.Core.List.{List, [], ◌∷◌, ◌++◌, append_assoc}
use mathlib.Core.Path.{◌≡◌, refl, sym, ap, ◌∙◌, subst}
use native.Mathlib.Numerals.{add-one}
use native.Mathlib.Omega.{arith}
use borrow.Author.Tests.{eq-eqb, ne_eqb}
use lib.Dec.{eqb}
use lib.ListN.{length}
use Rattle.lists.specs.Parts.{Bytes}
use Rattle.text_decimal.specs.Printed.{text_of}
use Rattle.text_print.specs.declared.Printer.{Printer}
use Rattle.text_print.specs.Inner.Prints.{PrintsOn}
use Rattle.text_print.proofs.PrintsLaws.{Printing, printing-none, printing-more, printing_as, printing-done}
use Rattle.compose_spec.specs.Printing.{symbol_line}
use Rattle.compose_joint.specs.declared.Leaves.{Leaves}
use Rattle.compose_joint.specs.Inner.Joint.{kind_of}
use Rattle.compose_names.specs.Inner.Symbols.{Row, new_lines, next_after, rows_from, PrintsNew}

-- the text of the new ones
abbrev pub new_text : ℕ → ℕ → ℕ → List Row → Bytes
new_text kind first next rows = text_of (new_lines kind first next rows)

-- there are so many rows
pub rows-length : (row : ℕ → Row) (k left : ℕ) → length (rows_from row k left) ≡ left
rows-length row k zero = refl
rows-length row k (suc left) = ap suc (rows-length row (suc k) left)

module _ (kind first : ℕ) where
  -- one row
  pub row_old : (next : ℕ) (x : Row) (xs : List Row) → (x.number ≡ next → ⊥) → new_text kind first next (x ∷ xs) ≡ new_text kind first next xs
  row_old next x xs h = rw (ne_eqb x.number next h) refl

  -- a new one
  pub row_new : (next : ℕ) (x : Row) (xs : List Row) → x.number ≡ next
      → new_text kind first next (x ∷ xs) ≡ (symbol_line kind (next - first) x.name ++ 10 ∷ []) ++ new_text kind first (suc next) xs
  row_new next x xs h = rw (eq-eqb x.number next h) (sym (append_assoc (symbol_line kind (next - first) x.name) (10 ∷ []) (new_text kind first (suc next) xs)))

  -- rows one list after the other
  pub rows_append : (next : ℕ) (xs ys : List Row) → new_text kind first next (xs ++ ys) ≡ new_text kind first next xs ++ new_text kind first (next_after next xs) ys
  rows_append next [] ys = refl
  rows_append next (x ∷ xs) ys = go (eqb x.number next) (rows_append next xs ys) (rows_append (suc next) xs ys)
    where
      line : Bytes
      line = symbol_line kind (next - first) x.name

      go : (b : Bool) → new_text kind first next (xs ++ ys) ≡ new_text kind first next xs ++ new_text kind first (next_after next xs) ys
          → new_text kind first (suc next) (xs ++ ys) ≡ new_text kind first (suc next) xs ++ new_text kind first (next_after (suc next) xs) ys
          → text_of (cond b (line ∷ new_lines kind first (suc next) (xs ++ ys)) (new_lines kind first next (xs ++ ys)))
          ≡ text_of (cond b (line ∷ new_lines kind first (suc next) xs) (new_lines kind first next xs)) ++ new_text kind first (cond b (next_after (suc next) xs) (next_after next xs)) ys
      go true e f =
          ap (λ (l : Bytes). line ++ 10 ∷ l) f
          ∙ sym (append_assoc line (10 ∷ new_text kind first (suc next) xs) (new_text kind first (next_after (suc next) xs) ys))
      go false e f = e

-- the next new variable after one row
after_old : (next : ℕ) (x : Row) (xs : List Row) → (x.number ≡ next → ⊥) → next_after next (x ∷ xs) ≡ next_after next xs
after_old next x xs h = rw (ne_eqb x.number next h) refl

after_new : (next : ℕ) (x : Row) (xs : List Row) → x.number ≡ next → next_after next (x ∷ xs) ≡ next_after (suc next) xs
after_new next x xs h = rw (eq-eqb x.number next h) refl

-- the next new variable does not fall
pub after_least : (next : ℕ) (xs : List Row) → next ≤ next_after next xs
after_least next [] = omega arith
after_least next (x ∷ xs) = go (eqb x.number next) (next_after (suc next) xs) (next_after next xs) (after_least (suc next) xs) (after_least next xs)
  where
    go : (b : Bool) (m n : ℕ) → suc next ≤ m → next ≤ n → next ≤ cond b m n
    go true m n h k = omega arith
    go false m n h k = k

-- and each row makes at most one new one
pub after-most : (next : ℕ) (xs : List Row) → next_after next xs ≤ next + length xs
after-most next [] = omega arith
after-most next (x ∷ xs) = go (eqb x.number next) (next_after (suc next) xs) (next_after next xs) (after-most (suc next) xs) (after-most next xs)
  where
    go : (b : Bool) (m n : ℕ) → m ≤ suc next + length xs → n ≤ next + length xs → cond b m n ≤ next + suc (length xs)
    go true m n h k = omega arith
    go false m n h k = omega arith

-- ---- the loop over the names of a witness

-- the rows from number k on
abbrev rest : (ℕ → Row) → ℕ → ℕ → List Row
rest row count k = rows_from row k (count - k)

-- the first of them
rest-first : (row : ℕ → Row) (count k : ℕ) → k < count → rest row count k ≡ row k ∷ rest row count (k + 1)
rest-first row count k h =
    let e : count - k ≡ suc (count - (k + 1)) = omega arith in
    rw (e, add-one k) refl

-- the rows in front of number k are walked
pub record Walk (leaves : Leaves) (row : ℕ → Row) (count first new : ℕ) (p₀ p : Printer) (next k : ℕ) : Type 0 where
  pub printing : Printing p₀ (new_text (kind_of leaves) first new (rows_from row 0 count)) p (new_text (kind_of leaves) first next (rest row count k))
  pub after : next_after next (rest row count k) ≡ next_after new (rows_from row 0 count)
  pub low : first ≤ next
  pub few : next ≤ new + k

module _ (leaves : Leaves) (row : ℕ → Row) (count first new : ℕ) (p₀ : Printer) where
  -- what is printed in all
  abbrev all : Bytes
  all = new_text (kind_of leaves) first new (rows_from row 0 count)

  -- before the loop
  pub walk_none : first ≤ new → Walk leaves row count first new p₀ p₀ new 0
  walk_none h =
      let e : count - 0 ≡ count = omega arith in
      record { printing = rw e (printing-none p₀ all); after = rw e refl; low = h; few = omega arith }

  module _ (p : Printer) (next k : ℕ) (walk : Walk leaves row count first new p₀ p next k) where
    -- a row that is not new
    pub walk_old : k < count → ((row k).number ≡ next → ⊥) → Walk leaves row count first new p₀ p next (k + 1)
    walk_old h e =
        let split : rest row count k ≡ row k ∷ rest row count (k + 1) = rest-first row count k h in
        record {
          printing =
              printing_as p₀ all p (new_text (kind_of leaves) first next (rest row count k)) walk.printing (new_text (kind_of leaves) first next (rest row count (k + 1)))
              (ap (new_text (kind_of leaves) first next) split ∙ row_old (kind_of leaves) first next (row k) (rest row count (k + 1)) e);
          after = sym (ap (next_after next) split ∙ after_old next (row k) (rest row count (k + 1)) e) ∙ walk.after;
          low = walk.low;
          few = omega (arith, walk.few);
        }

    -- a row that is new
    pub walk_new : (p' : Printer) → k < count → (row k).number ≡ next
        → PrintsOn p (symbol_line (kind_of leaves) (next - first) (row k).name ++ 10 ∷ []) p' → Walk leaves row count first new p₀ p' (next + 1) (k + 1)
    walk_new p' h e q =
        let split : rest row count k ≡ row k ∷ rest row count (k + 1) = rest-first row count k h in
        let suc-next : suc next ≡ next + 1 = omega arith in
        subst (λ (j : ℕ). Walk leaves row count first new p₀ p' j (k + 1)) suc-next
        (record {
          printing =
              printing-more p₀ all p (new_text (kind_of leaves) first next (rest row count k)) walk.printing (symbol_line (kind_of leaves) (next - first) (row k).name ++ 10 ∷ [])
              (new_text (kind_of leaves) first (suc next) (rest row count (k + 1))) p'
              (ap (new_text (kind_of leaves) first next) split ∙ row_new (kind_of leaves) first next (row k) (rest row count (k + 1)) e) q;
          after = sym (ap (next_after next) split ∙ after_new next (row k) (rest row count (k + 1)) e) ∙ walk.after;
          low = omega (arith, walk.low);
          few = omega (arith, walk.few);
        })

    -- after the loop
    pub walk_end : count ≤ k → PrintsNew leaves first new (rows_from row 0 count) p₀ p next
    walk_end h =
        let e : count - k ≡ 0 = omega arith in
        let none : rest row count k ≡ [] = ap (rows_from row k) e in
        record {
          prints = printing-done p₀ all p (new_text (kind_of leaves) first next (rest row count k)) walk.printing (ap (new_text (kind_of leaves) first next) none);
          after = sym (ap (next_after next) none) ∙ walk.after;
        }
