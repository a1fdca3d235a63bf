-- From the input to the row: the model and the first line, and the promise.
use Rattle.std.specs.Prelude.{Option, Some, None}
use Prim.Native.Nat.{ℕ, ◌+◌, ◌*◌, ◌≤◌, ◌<◌, ◌^◌}
use mathlib.Core.Path.{◌≡◌, sym, ap, ◌∙◌}
use mathlib.Core.List.{List, [], ◌∷◌}
use native.Mathlib.Omega.{arith}
use native.Mathlib.Nat.{zero-add}
use borrow.Author.Tests.{le-leb, lt-leb}
use lib.ListN.{length, take, drop, length-take}
use lib.Seq.{length-take-le}
use Rattle.lists.specs.Answer.{refused}
use Rattle.lists.specs.Parts.{Bytes}
use Rattle.lists.proofs.PartLaws.{put_front}
use Rattle.scan.specs.Spans.{span, in_line}
use Rattle.scan.proofs.SpanLaws.{span_le}
use Rattle.row_text.specs.RowProgram.{first_line, after_line, pieces, numbers_of, row_answer, printed, row_text, row_for, RowWrites}
use Rattle.row_text.specs.Inner.Steps.{answer_in}
use Rattle.row_text.specs.Inner.Made.{PrintsAnswer, PrintsIn}
use Rattle.row_text.proofs.PrintLaws.{more_room}
use Rattle.text_print.specs.declared.Printer.{Printer}
use Rattle.text_print.specs.Inner.Prints.{Prints}

-- ---- the model

module _ (p : Printer) (ns : List ℕ) (t : Bytes) (gates : List ℕ) (work pairs literals : ℕ) (p' : Printer) where
  abbrev most : ℕ
  most = 21 * (pairs + literals) + 29

  pub for_none : length ns ≡ 0 → PrintsAnswer p (refused 14) 29 p' → PrintsIn p ns t gates work pairs literals p'
  for_none h w = by_list ns h
    where
      by_list : (l : List ℕ) → length l ≡ 0 → PrintsIn p l t gates work pairs literals p'
      by_list [] h = more_room p (refused 14) 29 p' most (omega arith) w
      by_list (x ∷ xs) h = absurd (omega arith)

-- ---- the first line

pub line-length : (t : Bytes) (end : ℕ) → end ≡ span in_line t → end ≡ length (take end t)
line-length t end e = sym (length-take-le end t (omega (arith, span_le in_line t)))

pub line-short : (t : Bytes) (end n : ℕ) → length t ≤ 16384 → 16384 < n → length (take end t) < n
line-short t end n h k = omega (arith, length-take end t)

module _ (p : Printer) (t : Bytes) (p' : Printer) where
  pub too_long : 16384 < length t → PrintsAnswer p (refused 3) 29 p' → PrintsAnswer p (row_answer t) 700000 p'
  unfolding row_answer
  too_long h w = rw (lt-leb (length t) 16384 h) (more_room p (refused 3) 29 p' 700000 (omega arith) w)

  module _ (h : length t ≤ 16384) (end : ℕ) (e : end ≡ span in_line t) (r : Option ℕ) (s : List ℕ) (k : answer_in r s ≡ numbers_of (pieces (take end t))) where
    line : numbers_of (pieces (first_line t)) ≡ answer_in r s
    line = sym (k ∙ ap (λ (j : ℕ). numbers_of (pieces (take j t))) e)

    pub other_form : r ≡ None → PrintsAnswer p (refused 14) 29 p' → PrintsAnswer p (row_answer t) 700000 p'
    unfolding row_answer
    other_form m w = rw (le-leb (length t) 16384 h, line, m) (more_room p (refused 14) 29 p' 700000 (omega arith) w)

    pub numbers_read : (count : ℕ) → r ≡ Some count → (ns rest : List ℕ) → ns ≡ take count s → rest ≡ drop (end + 1) t
        → PrintsAnswer p (row_for ns rest) 700000 p' → PrintsAnswer p (row_answer t) 700000 p'
    unfolding row_answer
    numbers_read count m ns rest q f w =
        let g : rest ≡ after_line t = f ∙ ap (λ (j : ℕ). drop (j + 1) t) e in
        rw (le-leb (length t) 16384 h, line, m) (rw (q, g) at w)

-- ---- the promise

pub row-some : (t o : Bytes) (r : ℕ) (o' : Bytes) → 700000 ≤ length o → length o < 2 ^ 64 → length (printed (row_answer t)) ≤ 700000 → Prints o 0 (printed (row_answer t)) o' r → RowWrites t o r o'
unfolding row_text
row-some t o r o' h l few w =
    let end : r ≡ length (row_text t) = omega (arith, w.next) in
    record {
      counts = λ k. end;
      prints = λ k. w.stands (omega arith) ∙ put_front o (row_text t);
      fits = omega (arith, end);
      none = λ k. absurd (omega arith);
      keeps = λ k. absurd (omega arith);
    }
