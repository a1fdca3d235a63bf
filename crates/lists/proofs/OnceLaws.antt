-- Laws of `member` and `distinct`, and marks: a loop that finds a number that stands twice.
use Prim.Native.Nat.{ℕ, ◌*◌, ◌≤◌, ◌<◌}
use mathlib.Core.Path.{◌≡◌, refl, sym, ◌∙◌}
use mathlib.Core.Bool.{Bool, true, false, not, ◌&&◌, ◌||◌, or_assoc, or-true, or-false, and-false}
use mathlib.Core.List.{List, [], ◌∷◌, ◌++◌}
use native.Mathlib.Omega.{arith}
use borrow.Author.Tests.{eqb-true, eqb-false}
use lib.Dec.{eqb}
use lib.ListN.{length}
use Rattle.lists.specs.Parts.{zeros}
use Rattle.lists.specs.Sets.{member, distinct, holds, with_bit, Marked}
use Rattle.lists.proofs.BoolLaws.{true-false, eqb_swap}
use Rattle.lists.proofs.BitSetLaws.{with_same, with_other, holds-zeros}

pub member_append : (x : ℕ) (xs ys : List ℕ) → member x (xs ++ ys) ≡ (member x xs || member x ys)
member_append x [] ys = refl
member_append x (y ∷ xs) ys = rw (member_append x xs ys) (sym (or_assoc (eqb x y) (member x xs) (member x ys)))

pub member_snoc : (x : ℕ) (xs : List ℕ) (y : ℕ) → member x (xs ++ y ∷ []) ≡ (member x xs || eqb x y)
member_snoc x xs y = rw (member_append x xs (y ∷ []), or-false (eqb x y))

pub distinct_snoc : (xs : List ℕ) (x : ℕ) → distinct (xs ++ x ∷ []) ≡ (distinct xs && not (member x xs))
distinct_snoc [] x = refl
distinct_snoc (y ∷ xs) x = rw (member_snoc y xs x, distinct_snoc xs x, eqb_swap y x) (go (member y xs) (eqb x y) (distinct xs) (member x xs))
  where
    go : (m e d n : Bool) → (not (m || e) && (d && not n)) ≡ ((not m && d) && not (e || n))
    go true e d n = refl
    go false true true n = refl
    go false true false n = refl
    go false false d n = refl

-- a number that stands twice in the first part stands twice
pub distinct_append_false : (xs ys : List ℕ) → distinct xs ≡ false → distinct (xs ++ ys) ≡ false
distinct_append_false [] ys h = true-false refl h
distinct_append_false (x ∷ xs) ys h = rw (member_append x xs ys) (go (member x xs) h (distinct_append_false xs ys))
  where
    go : (m : Bool) → (not m && distinct xs) ≡ false → (distinct xs ≡ false → distinct (xs ++ ys) ≡ false) → (not (m || member x ys) && distinct (xs ++ ys)) ≡ false
    go true h ih = refl
    go false h ih = rw (ih h) (and-false (not (member x ys)))

pub marked-none : (size : ℕ) (f : ℕ → Bool) → ((k : ℕ) → f k ≡ false) → Marked size f []
marked-none size f h = record { says = λ k b. h k }

-- g marks x besides
pub marked_more : (size : ℕ) (f g : ℕ → Bool) (xs : List ℕ) (x : ℕ) → (x < size → g x ≡ true) → ((k : ℕ) → (k ≡ x → ⊥) → g k ≡ f k)
    → Marked size f xs → Marked size g (xs ++ x ∷ [])
marked_more size f g xs x one other m = record { says = λ k b. go k b (eqb k x) refl ∙ sym (member_snoc k xs x) }
  where
    go : (k : ℕ) → k < size → (t : Bool) → eqb k x ≡ t → g k ≡ (member k xs || t)
    go k b true e = let q : k ≡ x = eqb-true k x e in rw q (one (rw (← q) b) ∙ sym (or-true (member x xs)))
    go k b false e = other k (eqb-false k x e) ∙ m.says k b ∙ sym (or-false (member k xs))

-- marks that are bits
pub marked_no_bit : (size n : ℕ) → Marked size (holds (zeros n)) []
marked_no_bit size n = marked-none size (holds (zeros n)) (holds-zeros n)

pub marked-bit : (size : ℕ) (ws xs : List ℕ) (x : ℕ) → size ≤ 64 * length ws → Marked size (holds ws) xs → Marked size (holds (with_bit ws x)) (xs ++ x ∷ [])
marked-bit size ws xs x h = marked_more size (holds ws) (holds (with_bit ws x)) xs x (λ b. with_same ws x (omega arith)) (with_other ws x)
