-- The pieces of a line between single spaces, taken one after the other.
use Rattle.std.specs.Prelude.{Option, Some, None}
use Prim.Native.Nat.{ℕ, ◌+◌, ◌-◌, ◌≤◌, ◌<◌}
use mathlib.Core.Path.{◌≡◌, refl, sym, ap, ◌∙◌}
use mathlib.Core.Bool.{Bool, true, false, cond}
use mathlib.Core.List.{List, [], ◌∷◌, ◌++◌, append_assoc, append-nil}
use native.Mathlib.Omega.{arith}
use borrow.Author.Tests.{le-leb, lt-leb, ltb-true, ltb-false}
use lib.Dec.{leb, ltb, eqb}
use lib.ListN.{length, take, drop, set, length-set, drop_of_length-le}
use lib.Seq.{drop-drop, take-set-le, get_or-set_same}
use Rattle.lists.proofs.PartLaws.{tail-lent}
use Rattle.lists.proofs.RestLaws.{rest_more, take_next}
use Rattle.lists.specs.Answer.{Answer, got, refused, and_then}
use Rattle.lists.specs.Parts.{Bytes, part}
use Rattle.scan.specs.Spans.{span}
use Rattle.scan.proofs.SpanLaws.{span-within}
use Rattle.text.specs.declared.Reader.TheVariants.{Transition}
use Rattle.text.specs.Lines.{cons_head}
use Rattle.text.specs.Numbers.{number_of}
use Rattle.row_text.specs.RowProgram.{pieces, piece_number, numbers_of}
use Rattle.row_text.specs.Inner.Steps.{in_piece}

-- the first piece, and those behind the space that ends it
abbrev behind : Bytes → List Bytes
behind [] = []
behind (b ∷ bs) = pieces bs

first-at : (b : ℕ) (bs : Bytes) → pieces bs ≡ take (span in_piece bs) bs ∷ behind (drop (span in_piece bs) bs) → (q : Bool) → eqb b 32 ≡ q
    → pieces (b ∷ bs) ≡ take (span in_piece (b ∷ bs)) (b ∷ bs) ∷ behind (drop (span in_piece (b ∷ bs)) (b ∷ bs))
first-at b bs ih true e = rw e
first-at b bs ih false e = rw e (ap (cons_head b) ih)

first : (t : Bytes) → pieces t ≡ take (span in_piece t) t ∷ behind (drop (span in_piece t) t)
first [] = refl
first (b ∷ bs) = first-at b bs (first bs) (eqb b 32) refl

-- the pieces from a place on; none behind the end of the line
abbrev pub pieces_from : Bytes → ℕ → List Bytes
pieces_from l at = cond (leb at (length l)) (pieces (drop at l)) []

behind-from : (l : Bytes) (e : ℕ) → (q : Bool) → ltb e (length l) ≡ q → behind (drop e l) ≡ pieces_from l (e + 1)
behind-from l e true k =
    let h : e < length l = ltb-true e (length l) k in
    rw (rest_more l e 0 h, le-leb (e + 1) (length l) (omega arith))
behind-from l e false k =
    let h : length l ≤ e = ltb-false e (length l) k in
    rw (drop_of_length-le l h, lt-leb (e + 1) (length l) (omega arith))

pub pieces-first : (l : Bytes) (at e : ℕ) → at ≤ length l → e ≡ at + span in_piece (drop at l) → pieces_from l at ≡ part l at e ∷ pieces_from l (e + 1)
pieces-first l at e h k =
    let n : e - at ≡ span in_piece (drop at l) = omega arith in
    rw (le-leb at (length l) h)
    (first (drop at l)
    ∙ ap (λ (m : ℕ). take m (drop at l) ∷ behind (drop (span in_piece (drop at l)) (drop at l))) (sym n)
    ∙ ap (λ (x : Bytes). part l at e ∷ behind x) (drop-drop (span in_piece (drop at l)) at l ∙ ap (λ (j : ℕ). drop j l) (sym k))
    ∙ ap (λ (x : List Bytes). part l at e ∷ x) (behind-from l e (ltb e (length l)) refl))

-- the numbers of a line are being stored: `count` of them stand in front of s, and the pieces from place `at` on are left
pub record Taking (l : Bytes) (s₀ s : List ℕ) (count at : ℕ) : Type 0 where
  pub is : and_then (numbers_of (pieces_from l at)) (λ ns. got (take count s ++ ns)) ≡ numbers_of (pieces l)
  pub few : count ≤ at
  pub passed : at ≤ length l + 1
  pub room : length l < length s₀
  pub same : length s ≡ length s₀

whole : (a : Answer (List ℕ)) → and_then a (λ ns. got ns) ≡ a
whole (got ns) = refl
whole (refused n) = refl

pub taking-none : (l : Bytes) (s : List ℕ) → length l < length s → Taking l s s 0 0
taking-none l s h = record { is = rw (le-leb 0 (length l) (omega arith)) (whole (numbers_of (pieces l))); few = omega arith; passed = omega arith; room = h; same = refl }

take-stored : (s : List ℕ) (count v : ℕ) → count < length s → take (count + 1) (set s count v) ≡ take count s ++ v ∷ []
take-stored s count v h =
    take_next (set s count v) count 0 (rw (length-set s count v) h)
    ∙ rw (get_or-set_same s count v 0 h, take-set-le count s count v (omega arith))

store : (s : List ℕ) (count v : ℕ) → count < length s → (a : Answer (List ℕ))
    → and_then a (λ ns. got (take (count + 1) (set s count v) ++ ns)) ≡ and_then (and_then a (λ ns. got (v ∷ ns))) (λ ns. got (take count s ++ ns))
store s count v h (got ns) = ap got (ap (λ (x : List ℕ). x ++ ns) (take-stored s count v h) ∙ append_assoc (take count s) (v ∷ []) ns)
store s count v h (refused n) = refl

module _ (l : Bytes) (s₀ s : List ℕ) (count at : ℕ) (k : Taking l s₀ s count at) where
  -- the piece at the front of the part that is left is n bytes long
  module _ (h : at ≤ length l) (n : ℕ) (lent : n ≡ span in_piece (take (length l - at) (drop at l))) where
    abbrev e : ℕ
    e = at + n

    q : e ≡ at + span in_piece (drop at l)
    q = ap (λ (m : ℕ). at + m) (lent ∙ ap (span in_piece) (tail-lent l at))

    pub piece_within : e ≤ length l
    piece_within = omega (arith, q, span-within in_piece l at h)

    module _ (r : Option ℕ) (p : r ≡ number_of Transition (part l at e)) where
      numbers : numbers_of (pieces_from l at) ≡ and_then (piece_number r) (λ n. and_then (numbers_of (pieces_from l (e + 1))) (λ ns. got (n ∷ ns)))
      numbers = ap numbers_of (pieces-first l at e h q) ∙ rw p

      pub taking-more : (v : ℕ) → r ≡ Some v → Taking l s₀ (set s count v) (count + 1) (e + 1)
      taking-more v m =
          let known : numbers_of (pieces_from l at) ≡ and_then (numbers_of (pieces_from l (e + 1))) (λ ns. got (v ∷ ns)) = rw m at numbers in
          record {
            is =
                store s count v (omega (arith, k.few, k.room, k.same)) (numbers_of (pieces_from l (e + 1)))
                ∙ ap (λ (a : Answer (List ℕ)). and_then a (λ ns. got (take count s ++ ns))) (sym known)
                ∙ k.is;
            few = omega (arith, k.few);
            passed = omega (arith, piece_within);
            room = k.room;
            same = length-set s count v ∙ k.same;
          }

      pub taking_bad : r ≡ None → refused 14 ≡ numbers_of (pieces l)
      taking_bad m =
          let known : numbers_of (pieces_from l at) ≡ refused 14 = rw m at numbers in
          ap (λ (a : Answer (List ℕ)). and_then a (λ ns. got (take count s ++ ns))) (sym known) ∙ k.is

  pub taking-done : length l < at → got (take count s) ≡ numbers_of (pieces l)
  taking-done h =
      let none : pieces_from l at ≡ [] = rw (lt-leb at (length l) h) in
      ap got (sym (append-nil (take count s)))
      ∙ ap (λ (ps : List Bytes). and_then (numbers_of ps) (λ ns. got (take count s ++ ns))) (sym none)
      ∙ k.is
