-- Laws of the witness texts of a call: where they stand, and how they are read one after the other.
use Prim.Native.Nat.{ℕ, zero, suc, ◌+◌, ◌*◌, ◌/◌, ◌≤◌, ◌<◌}
use mathlib.Core.Bool.{true, ◌&&◌}
use mathlib.Core.List.{List, [], ◌∷◌}
use mathlib.Core.Path.{◌≡◌, refl, sym, ap, ◌∙◌, subst}
use native.Mathlib.Omega.{arith}
use borrow.Author.Tests.{leb-true}
use lib.Dec.{leb}
use lib.ListN.{length, get_or, drop, drop_of_length-le}
use Rattle.lists.specs.Answer.{got, and_then}
use Rattle.lists.specs.Parts.{Bytes, part}
use Rattle.lists.specs.Words.{in_order}
use Rattle.lists.proofs.AnswerLaws.{and_then-got, got_same}
use Rattle.lists.proofs.BoolLaws.{and_left, and_right}
use Rattle.lists.proofs.PairLaws.{pair_rest}
use Rattle.lists.proofs.RestLaws.{rest_more}
use Rattle.lists.proofs.WordLaws.{pairs-count, pairs-at}
use Rattle.text.specs.Texts.{limited}
use Rattle.witness_read.specs.Sections.{Sections}
use Rattle.witness_read.specs.Reading.{read_aag}
use Rattle.compose_spec.specs.Calling.{read_all, texts_in}

-- ---- where they stand

-- the pairs from number w on are in order
order-rest : (end size : ℕ) (w : ℕ) (pairs : List ℕ) → in_order end size pairs ≡ true → (e : ℕ) × (in_order e size (drop (2 * w) pairs) ≡ true)
order-rest end size zero pairs h = (end, h)
order-rest end size (suc w) [] h = let k : 2 * suc w ≡ suc (suc (2 * w)) = omega arith in (end, rw k refl)
order-rest end size (suc w) (x ∷ []) h = let k : 2 * suc w ≡ suc (suc (2 * w)) = omega arith in (end, rw k refl)
order-rest end size (suc w) (x ∷ y ∷ pairs) h =
    let k : 2 * suc w ≡ suc (suc (2 * w)) = omega arith in
    let t = order-rest (x + y) size w pairs (and_right (leb (x + y) size) (in_order (x + y) size pairs) (and_right (leb end x) (leb (x + y) size && in_order (x + y) size pairs) h)) in
    (t.0, rw k t.1)

head-within : (end size x y : ℕ) (pairs : List ℕ) → in_order end size (x ∷ y ∷ pairs) ≡ true → x + y ≤ size
head-within end size x y pairs h =
    leb-true (x + y) size (and_left (leb (x + y) size) (in_order (x + y) size pairs) (and_right (leb end x) (leb (x + y) size && in_order (x + y) size pairs) h))

module _ (buffer : Bytes) (pairs : List ℕ) (w : ℕ) (less : w < length pairs / 2) where
  module _ (start size : ℕ) (a : start ≡ get_or pairs (2 * w) 0) (n : size ≡ get_or pairs (2 * w + 1) 0) where
    -- 2: the part of a pair ends within the buffer
    pub text_ends : in_order 0 (length buffer) pairs ≡ true → start + size ≤ length buffer
    text_ends h =
        let t = order-rest 0 (length buffer) w pairs h in
        rw (a, n) (head-within t.0 (length buffer) (get_or pairs (2 * w) 0) (get_or pairs (2 * w + 1) 0) (drop (2 * (w + 1)) pairs)
        (subst (λ l. in_order t.0 (length buffer) l ≡ true) (pair_rest pairs w (omega arith)) t.1))

    -- the text of number w
    pub text_is_lem : (r : Bytes) → r ≡ part buffer start (start + size) → r ≡ get_or (texts_in buffer pairs) w []
    text_is_lem r e = e ∙ rw (a, n) (sym (pairs-at (λ o m. part buffer o (o + m)) pairs w 0 [] (omega arith)))

  -- it is the first of those that are left
  pub texts_left : drop w (texts_in buffer pairs) ≡ get_or (texts_in buffer pairs) w [] ∷ drop (w + 1) (texts_in buffer pairs)
  texts_left = rest_more (texts_in buffer pairs) w [] (omega (arith, pairs-count (λ o n. part buffer o (o + n)) pairs))

-- none is left
pub texts_end : (buffer : Bytes) (pairs : List ℕ) (w : ℕ) → length pairs / 2 ≤ w → drop w (texts_in buffer pairs) ≡ []
texts_end buffer pairs w h = drop_of_length-le (texts_in buffer pairs) {i = w} (omega (arith, pairs-count (λ o n. part buffer o (o + n)) pairs))

-- ---- how they are read

-- the sections of a first text and of those after it
pub record FirstRead (t : Bytes) (ts : List Bytes) (ws : List Sections) : Type 0 where
  pub first : Sections
  pub others : List Sections
  pub is : ws ≡ first ∷ others
  pub reads : read_aag limited true t ≡ got first
  pub read_others : read_all ts ≡ got others

pub first_read : (t : Bytes) (ts : List Bytes) (ws : List Sections) → read_all (t ∷ ts) ≡ got ws → FirstRead t ts ws
first_read t ts ws e =
    let a = and_then-got (read_aag limited true t) (λ s. and_then (read_all ts) (λ ss. got (s ∷ ss))) ws e in
    let b = and_then-got (read_all ts) (λ ss. got (a.0 ∷ ss)) ws a.2 in
    record { first = a.0; others = b.0; is = sym (got_same (a.0 ∷ b.0) ws b.2); reads = a.1; read_others = b.1 }

pub none_read : (ws : List Sections) → read_all [] ≡ got ws → ws ≡ []
none_read ws e = sym (got_same [] ws e)

-- the sections of the texts from number w on are `rest`
abbrev pub Left : Bytes → List ℕ → ℕ → List Sections → Type 0
Left buffer pairs w rest = read_all (drop w (texts_in buffer pairs)) ≡ got rest

module _ (buffer : Bytes) (pairs : List ℕ) (w : ℕ) (rest : List Sections) (l : Left buffer pairs w rest) where
  pub left-more : w < length pairs / 2 → FirstRead (get_or (texts_in buffer pairs) w []) (drop (w + 1) (texts_in buffer pairs)) rest
  left-more h = first_read (get_or (texts_in buffer pairs) w []) (drop (w + 1) (texts_in buffer pairs)) rest (sym (ap read_all (texts_left buffer pairs w h)) ∙ l)

  pub left-none : length pairs / 2 ≤ w → rest ≡ []
  left-none h = none_read rest (sym (ap read_all (texts_end buffer pairs w h)) ∙ l)
