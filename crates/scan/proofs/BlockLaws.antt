-- A loop that looks at every byte of a block and keeps the highest rank, and loops over blocks.
use Prim.Native.Nat.{ℕ, suc, ◌+◌, ◌≤◌, ◌<◌, max}
use mathlib.Core.Path.{◌≡◌, refl, sym, ap, ◌∙◌}
use mathlib.Core.Bool.{Bool, true, false, cond, ◌&&◌, and_assoc, and-true}
use mathlib.Core.List.{[], ◌∷◌, ◌++◌}
use native.Mathlib.Omega.{arith}
use borrow.Author.Tests.{le-leb, lt-leb, leb-true, leb-false}
use lib.Dec.{leb}
use lib.Seq.{drop-drop, drop-append_seam}
use lib.ListN.{length, get_or, take, drop, take-append-drop, drop_of_length-le}
use Rattle.lists.specs.Parts.{Bytes}
use Rattle.lists.specs.Tests.{all}
use Rattle.lists.proofs.BoolLaws.{and_left, and_right}
use Rattle.lists.proofs.RestLaws.{rest_more}
use Rattle.scan.specs.Spans.{span}
use Rattle.scan.proofs.SpanLaws.{span_le}

-- ---- the highest rank: a byte passes the test where its rank is at most `top`

max-leb : (m x top : ℕ) → leb (max m x) top ≡ (leb m top && leb x top)
max-leb m x top = go (leb m top) (leb x top) refl refl
  where
    go : (a b : Bool) → leb m top ≡ a → leb x top ≡ b → leb (max m x) top ≡ (a && b)
    go true true e f = le-leb (max m x) top (omega (arith, leb-true m top e, leb-true x top f))
    go true false e f = lt-leb (max m x) top (omega (arith, leb-false x top f))
    go false b e f = lt-leb (max m x) top (omega (arith, leb-false m top e))

-- `most` is the highest rank of the first i bytes
pub record Highest (p : ℕ → Bool) (top : ℕ) (l : Bytes) (most i : ℕ) : Type 0 where
  pub is : all p l ≡ (leb most top && all p (drop i l))

module _ (p : ℕ → Bool) (top : ℕ) (l : Bytes) where
  pub highest-none : Highest p top l 0 0
  highest-none = record { is = rw (le-leb 0 top (omega arith)) }

  module _ (most i : ℕ) (k : Highest p top l most i) where
    pub highest-more : (x next : ℕ) → i < length l → leb x top ≡ p (get_or l i 0) → next ≡ max most x → Highest p top l next (i + 1)
    highest-more x next h e f =
        record {
          is = k.is ∙ rw (f, max-leb most x top, e, rest_more l i 0 h) (sym (and_assoc (leb most top) (p (get_or l i 0)) (all p (drop (i + 1) l))));
        }

    pub highest-end : length l ≤ i → leb most top ≡ all p l
    highest-end h = sym (k.is ∙ rw (drop_of_length-le l h) (and-true (leb most top)))

-- ---- a span over a block

module _ (p : ℕ → Bool) where
  stops_at : (x : ℕ) (xs ys : Bytes) → (span p xs < length xs → span p (xs ++ ys) ≡ span p xs) → (q : Bool)
      → cond q (suc (span p xs)) 0 < suc (length xs) → cond q (suc (span p (xs ++ ys))) 0 ≡ cond q (suc (span p xs)) 0
  stops_at x xs ys ih true h = ap suc (ih (omega arith))
  stops_at x xs ys ih false h = refl

  stops : (xs ys : Bytes) → span p xs < length xs → span p (xs ++ ys) ≡ span p xs
  stops [] ys h = absurd (omega arith)
  stops (x ∷ xs) ys h = stops_at x xs ys (stops xs ys) (p x) h

  passes_at : (x : ℕ) (xs ys : Bytes) → (span p xs ≡ length xs → span p (xs ++ ys) ≡ length xs + span p ys) → (q : Bool)
      → cond q (suc (span p xs)) 0 ≡ suc (length xs) → cond q (suc (span p (xs ++ ys))) 0 ≡ suc (length xs) + span p ys
  passes_at x xs ys ih true h = let e : span p (xs ++ ys) ≡ length xs + span p ys = ih (omega arith) in omega arith
  passes_at x xs ys ih false h = absurd (omega arith)

  passes : (xs ys : Bytes) → span p xs ≡ length xs → span p (xs ++ ys) ≡ length xs + span p ys
  passes [] ys h = omega arith
  passes (x ∷ xs) ys h = passes_at x xs ys (passes xs ys) (p x) h

  whole : (xs : Bytes) → all p xs ≡ true → span p xs ≡ length xs
  whole [] h = refl
  whole (x ∷ xs) h = rw (and_left (p x) (all p xs) h, whole xs (and_right (p x) (all p xs) h))

-- a block whose bytes all pass, at the front, is part of the span
pub span-passed : (p : ℕ → Bool) (rest block after : Bytes) → rest ≡ block ++ after → (q : Bool) → q ≡ all p block → q ≡ true → (n passed : ℕ)
    → n ≡ passed + span p rest → n ≡ passed + length block + span p after
span-passed p rest block after cut q e t n passed k =
    let m : span p rest ≡ length block + span p after = ap (span p) cut ∙ passes p block after (whole p block (sym e ∙ t)) in
    omega (arith, k, m)

-- and what follows it is the rest
pub passed-block : (s rest block after : Bytes) (passed : ℕ) → drop passed s ≡ rest → rest ≡ block ++ after → drop (passed + length block) s ≡ after
passed-block s rest block after passed d cut =
    sym (drop-drop (length block) passed s) ∙ ap (drop (length block)) (d ∙ cut) ∙ drop-append_seam block after

-- n bytes at the front, and what follows them
module _ (p : ℕ → Bool) (s front others : Bytes) (n : ℕ) (f : front ≡ take n s) (o : others ≡ drop n s) (i : ℕ) (k : i ≡ span p front) where
  both : s ≡ front ++ others
  both = rw (f, o) (sym (take-append-drop n s))

  pub span_near : i < length front → i ≡ span p s
  span_near l = k ∙ sym (stops p front others (omega (arith, k))) ∙ ap (span p) (sym both)

  pub span_past : length front ≤ i → (j : ℕ) → j ≡ span p others → i + j ≡ span p s
  span_past l j e =
      let all_pass : span p front ≡ length front = omega (arith, k, span_le p front) in
      omega (arith, ap (span p) both, passes p front others all_pass, k, all_pass, e)
