-- Laws of `lines_of`: the first line of a text and the text behind it, for the code that takes lines.
use Prim.Native.Nat.{ℕ, suc, ◌+◌, ◌<◌}
use mathlib.Core.Path.{◌≡◌, refl, ap, sym, ◌∙◌}
use mathlib.Core.List.{List, [], ◌∷◌, ◌++◌, append-nil}
use mathlib.Core.Bool.{Bool, true, false}
use native.Mathlib.Omega.{arith}
use borrow.Author.Tests.{not-true}
use lib.ListN.{length, take, drop, length-drop}
use lib.Seq.{drop-drop}
use lib.Dec.{eqb}
use Rattle.scan.specs.Spans.{span, in_line}
use Rattle.scan.proofs.SpanLaws.{span-passes}
use Rattle.text.specs.Lines.{cons_head, lines_of, line_size}
use Rattle.text.specs.Inner.Fronts.{Behind, LineTaken}
use Rattle.lists.specs.Parts.{Bytes}
use Rattle.lists.specs.Tests.{all}
use Rattle.lists.proofs.BoolLaws.{and_left, and_right}
use Rattle.lists.proofs.PartLaws.{drop_min}

-- ---- texts behind a text

pub behind-none : (s : Bytes) → Behind s s
behind-none s = record { size = 0; is = refl }

pub behind_then : (s r t : Bytes) → Behind s r → Behind r t → Behind s t
behind_then s r t k h = record { size = k.size + h.size; is = h.is ∙ ap (drop h.size) k.is ∙ drop-drop h.size k.size s }

-- ---- the lines of a text are its first line and those of the text behind it

Cut : List ℕ → Type 0
Cut t = 0 < length t → lines_of t ≡ take (span in_line t) t ∷ lines_of (drop (suc (span in_line t)) t)

cut_at : (b : ℕ) (bs : List ℕ) → Cut bs → (q : Bool) → eqb b 10 ≡ q → Cut (b ∷ bs)
unfolding Cut
cut_at b bs ih true e h = simp e
cut_at b [] ih false e h = simp e
cut_at b (c ∷ cs) ih false e h = simp e (ap (cons_head b) (ih (omega arith)))

cut : (t : List ℕ) → Cut t
unfolding Cut
cut [] h = absurd (omega arith)
cut (b ∷ bs) h = cut_at b bs (cut bs) (eqb b 10) refl h

pub lines_none : (s : Bytes) → s ≡ [] → lines_of s ≡ []
lines_none s e = ap lines_of e

module _ (s l r : Bytes) (k : LineTaken s l r) where
  pub lines-some : lines_of s ≡ l ∷ lines_of r
  unfolding Cut
  lines-some =
      rw (k.line, k.rest, drop_min (suc (span in_line s)) s) (cut s k.some_byte)

  -- a line has no byte 10
  pub line_plain : all in_line l ≡ true
  line_plain = rw k.line (span-passes in_line s)

  -- a line takes up some bytes
  pub line-moves : 0 < line_size s
  line-moves = omega (arith, k.some_byte)

  -- so less of the text is left, for a loop over lines
  pub line-less : length r < length s
  line-less = omega (arith, k.some_byte, line-moves, ap length k.rest, length-drop (line_size s) s)

  pub line-behind : Behind s r
  line-behind = record { size = line_size s; is = k.rest }

-- what stands behind the first line has the other lines
pub lines-behind : (s : Bytes) → lines_of (drop (line_size s) s) ≡ drop 1 (lines_of s)
unfolding Cut
lines-behind [] = refl
lines-behind (b ∷ bs) =
    ap lines_of (drop_min (suc (span in_line (b ∷ bs))) (b ∷ bs)) ∙ sym (ap (drop 1) (cut (b ∷ bs) (omega arith)))

-- ---- bytes of a line in front of others, as lists

-- the first line of t is l, and the bytes in front of t belong to it
pub line-front : (f t : Bytes) → all in_line f ≡ true → (l : Bytes) (ls : List Bytes) → lines_of t ≡ l ∷ ls → lines_of (f ++ t) ≡ (f ++ l) ∷ ls
line-front [] t h l ls k = k
line-front (b ∷ bs) t h l ls k =
    let e : eqb b 10 ≡ false = not-true (eqb b 10) (and_left (in_line b) (all in_line bs) h) in
    rw e (ap (cons_head b) (line-front bs t (and_right (in_line b) (all in_line bs) h) l ls k))

-- a line in front of others
pub line_in_front : (l rest : Bytes) → all in_line l ≡ true → lines_of (l ++ 10 ∷ rest) ≡ l ∷ lines_of rest
line_in_front l rest h = line-front l (10 ∷ rest) h [] (lines_of rest) refl ∙ rw (append-nil l)
