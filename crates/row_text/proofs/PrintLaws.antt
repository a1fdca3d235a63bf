-- The printed lines, number by number, and how long they are.
use Prim.Native.Nat.{ℕ, suc, ◌+◌, ◌-◌, ◌*◌, ◌/◌, ◌≤◌, ◌<◌, ◌^◌}
use mathlib.Core.Path.{◌≡◌, refl, sym, ap, ◌∙◌}
use mathlib.Core.List.{List, [], ◌∷◌, ◌++◌, append_assoc}
use native.Mathlib.Omega.{arith}
use lib.ListN.{length, drop, get_or, length-append, length-drop}
use lib.Seq.{take_at, drop_at, drop-drop, get_or-drop}
use Rattle.lists.specs.Answer.{Answer, got, refused}
use Rattle.lists.specs.Parts.{Bytes, part}
use Rattle.lists.specs.Tests.{Each}
use Rattle.lists.proofs.RestLaws.{rest-head}
use Rattle.text_decimal.specs.Decimal.{decimal}
use Rattle.text_decimal.specs.Printed.{number_line, text_of}
use Rattle.text_decimal.proofs.DecimalLaws.{decimal-length-word}
use Rattle.text_print.specs.declared.Printer.{Printer}
use Rattle.text_print.specs.Inner.Lines.{fields_text}
use Rattle.text_print.specs.Inner.Prints.{PrintsOn}
use Rattle.text_print.proofs.LineLaws.{spaced_fields}
use Rattle.text_print.proofs.PrintsLaws.{Printing, prints_as, prints_then, printing-none, printing-more, printing-done}
use Rattle.cnf.specs.Clauses.{Clause, literals_of, pairs_from}
use Rattle.cnf.proofs.ReturnedLaws.{pairs-length}
use Rattle.aiger.specs.declared.Refusal.{Refusal}
use Rattle.aiger.specs.Refusals.{refusal_number}
use Rattle.row_text.specs.RowProgram.{clause_lines, rows_word, refused_word, printed}
use Rattle.row_text.specs.Inner.Steps.{Stands}
use Rattle.row_text.specs.Inner.Made.{numbers_in, room_for, PrintsAnswer}

-- ---- the line of a clause

abbrev fields : List ℕ → Bytes
fields ns = fields_text (λ n. n) ns

module _ (offset size start more : ℕ) (words : List ℕ) (es : start ≡ offset) (em : more ≡ size) where
  pub clause_printed : (p p₁ p₂ p₃ p₄ : Printer) → PrintsOn p (decimal offset) p₁ → PrintsOn p₁ (32 ∷ decimal size) p₂ → PrintsOn p₂ (fields (part words start (start + more))) p₃
      → PrintsOn p₃ (10 ∷ []) p₄ → PrintsOn p (number_line (offset ∷ size ∷ part words offset (offset + size)) ++ 10 ∷ []) p₄
  clause_printed p p₁ p₂ p₃ p₄ q r s₀ t =
      let ns : List ℕ = part words offset (offset + size) in
      let s : PrintsOn p₂ (fields ns) p₃ = rw (es, em) at s₀ in
      let rest : PrintsOn p₁ (fields (size ∷ ns)) p₃ = prints_then p₁ (32 ∷ decimal size) p₂ (fields ns) p₃ r s in
      let line : Bytes = decimal offset ++ fields (size ∷ ns) in
      prints_as p (line ++ 10 ∷ []) p₄ (number_line (offset ∷ size ∷ ns) ++ 10 ∷ []) (ap (λ (x : Bytes). x ++ 10 ∷ []) (sym (spaced_fields (decimal offset) (size ∷ ns))))
      (prints_then p line p₃ (10 ∷ []) p₄ (prints_then p (decimal offset) p₁ (fields (size ∷ ns)) p₃ q rest) t)

-- ---- all clauses

abbrev lines_from : ℕ → List Clause → Bytes
lines_from off cs = text_of (clause_lines off cs)

-- the lines of clauses are being printed: those of the first i are, and `rest` are left, whose words begin at `off`
pub record Listing (cs : List Clause) (pairs words : List ℕ) (p₀ p : Printer) (i : ℕ) : Type 0 where
  pub rest : List Clause
  pub off : ℕ
  pub other_words : List ℕ
  pub left : 2 * (i + length rest) ≡ length pairs
  pub pairs-left : drop (2 * i) pairs ≡ pairs_from off rest
  pub in_words : off ≤ length words
  pub words_left : drop off words ≡ literals_of rest ++ other_words
  pub printing : Printing p₀ (lines_from 0 cs) p (lines_from off rest)

pub listing_none : (cs : List Clause) (pairs words : List ℕ) (p : Printer) → Stands cs pairs words → Listing cs pairs words p p 0
listing_none cs pairs words p f =
    record {
      rest = cs;
      off = 0;
      other_words = f.other_words;
      left = omega (arith, pairs-length 0 cs, ap length f.pairs-are);
      pairs-left = f.pairs-are;
      in_words = omega arith;
      words_left = f.words_are;
      printing = printing-none p (lines_from 0 cs);
    }

-- the next clause
record Next (rest : List Clause) : Type 0 where
  c : Clause
  others : List Clause
  is : rest ≡ c ∷ others

next : (rest : List Clause) → 0 < length rest → Next rest
next [] h = absurd (omega arith)
next (c ∷ cs) h = record { c = c; others = cs; is = refl }

none_left : (rest : List Clause) → length rest ≡ 0 → rest ≡ []
none_left [] h = refl
none_left (c ∷ cs) h = absurd (omega arith)

module _ (cs : List Clause) (pairs words : List ℕ) (p₀ p : Printer) (i : ℕ) (k : Listing cs pairs words p₀ p i) where
  pub listing-done : length pairs / 2 ≤ i → PrintsOn p₀ (lines_from 0 cs) p
  listing-done h =
      let none : k.rest ≡ [] = none_left k.rest (omega (arith, k.left)) in
      printing-done p₀ (lines_from 0 cs) p (lines_from k.off k.rest) k.printing (ap (lines_from k.off) none)

  module _ (h : i < length pairs / 2) where
    n : Next k.rest
    n = next k.rest (omega (arith, k.left))

    pairs_first : drop (2 * i) pairs ≡ k.off ∷ length n.c ∷ pairs_from (k.off + length n.c) n.others
    pairs_first = k.pairs-left ∙ ap (pairs_from k.off) n.is

    words-first : drop k.off words ≡ n.c ++ (literals_of n.others ++ k.other_words)
    words-first = k.words_left ∙ ap (λ (l : List Clause). literals_of l ++ k.other_words) n.is ∙ append_assoc n.c (literals_of n.others) k.other_words

    offset_is : get_or pairs (2 * i) 0 ≡ k.off
    offset_is = sym (rest-head pairs (2 * i) 0) ∙ ap (λ (l : List ℕ). get_or l 0 0) pairs_first

    size_is : get_or pairs (2 * i + 1) 0 ≡ length n.c
    size_is = sym (get_or-drop (2 * i) pairs 1 0) ∙ ap (λ (l : List ℕ). get_or l 1 0) pairs_first

    inside : k.off + length n.c ≤ length words
    inside = omega (arith, k.in_words, ap length words-first, length-append n.c (literals_of n.others ++ k.other_words), length-drop k.off words)

    module _ (offset size : ℕ) (eo : offset ≡ get_or pairs (2 * i) 0) (ez : size ≡ get_or pairs (2 * i + 1) 0) where
      pub listing-within : offset + size ≤ length words
      listing-within = omega (arith, inside, offset_is, size_is)

      here : part words offset (offset + size) ≡ n.c
      here =
          let m : offset + size - offset ≡ length n.c = omega (arith, size_is) in
          let f : offset ≡ k.off = omega (arith, offset_is) in
          rw m (rw (f, words-first) (take_at n.c (literals_of n.others ++ k.other_words) (length n.c) refl))

      pub listing-more : (p' : Printer) → PrintsOn p (number_line (offset ∷ size ∷ part words offset (offset + size)) ++ 10 ∷ []) p' → Listing cs pairs words p₀ p' (i + 1)
      listing-more p' w =
          let f : offset ≡ k.off = omega (arith, offset_is) in
          let s : size ≡ length n.c = omega (arith, size_is) in
          let twice : 2 * (i + 1) ≡ 2 * i + 2 = omega arith in
          let line : Bytes = number_line (offset ∷ size ∷ part words offset (offset + size)) in
          let same : number_line (k.off ∷ length n.c ∷ n.c) ≡ line =
          ap (λ (x : ℕ). number_line (x ∷ length n.c ∷ n.c)) (sym f) ∙ ap (λ (x : ℕ). number_line (offset ∷ x ∷ n.c)) (sym s) ∙ ap (λ (c : Clause). number_line (offset ∷ size ∷ c)) (sym here) in
          let later : Bytes = lines_from (k.off + length n.c) n.others in
          record {
            rest = n.others;
            off = k.off + length n.c;
            other_words = k.other_words;
            left = omega (arith, k.left, ap length n.is);
            pairs-left = rw twice (sym (drop-drop 2 (2 * i) pairs) ∙ ap (drop 2) pairs_first);
            in_words = inside;
            words_left =
                sym (drop-drop (length n.c) k.off words)
                ∙ ap (drop (length n.c)) words-first
                ∙ drop_at n.c (literals_of n.others ++ k.other_words) (length n.c) refl;
            printing =
                printing-more p₀ (lines_from 0 cs) p (lines_from k.off k.rest) k.printing (line ++ 10 ∷ []) later p'
                (ap (lines_from k.off) n.is ∙ ap (λ (x : Bytes). x ++ 10 ∷ later) same ∙ sym (append_assoc line (10 ∷ []) later))
                w;
          }

-- ---- how long the lines are

-- a number that a word holds
abbrev Word : ℕ → Type 0
Word n = n < 2 ^ 64

each_left : (xs ys : List ℕ) → Each Word (xs ++ ys) → Each Word xs
each_left [] ys e = tt
each_left (x ∷ xs) ys e = (e.0, each_left xs ys e.1)

each_right : (xs ys : List ℕ) → Each Word (xs ++ ys) → Each Word ys
each_right [] ys e = e
each_right (x ∷ xs) ys e = each_right xs ys e.1

each_word : (xs : List ℕ) → ((i : ℕ) → get_or xs i 0 < 2 ^ 64) → Each Word xs
each_word [] h = tt
each_word (x ∷ xs) h = (h 0, each_word xs (λ i. h (suc i)))

fields-length : (ns : List ℕ) → Each Word ns → length (fields ns) ≤ 21 * length ns
fields-length [] e = omega arith
fields-length (n ∷ ns) e = omega (arith, decimal-length-word n e.0, fields-length ns e.1, length-append (32 ∷ decimal n) (fields ns))

line-length : (n : ℕ) (ns : List ℕ) → Word n → Each Word ns → length (number_line (n ∷ ns)) ≤ 20 + 21 * length ns
line-length n ns h e = omega (arith, ap length (spaced_fields (decimal n) ns), decimal-length-word n h, fields-length ns e, length-append (decimal n) (fields ns))

lines-length : (off : ℕ) (cs : List Clause) → off + length (literals_of cs) < 2 ^ 64 → Each Word (literals_of cs) → length (lines_from off cs) ≤ 21 * numbers_in cs
lines-length off [] h e = omega arith
lines-length off (c ∷ cs) h e =
    let size : length (literals_of (c ∷ cs)) ≡ length c + length (literals_of cs) = length-append c (literals_of cs) in
    let line : Bytes = number_line (off ∷ length c ∷ c) in
    let first = line-length off (length c ∷ c) (omega (arith, size)) (omega (arith, size), each_left c (literals_of cs) e) in
    let others = lines-length (off + length c) cs (omega (arith, size)) (each_right c (literals_of cs) e) in
    omega (arith, first, others, length-append line (10 ∷ lines_from (off + length c) cs))

-- ---- answers

module _ (p p₁ p₂ p₃ : Printer) where
  pub refused_printed : (r : Refusal) (n : ℕ) → n ≡ refusal_number r → n < 2 ^ 64 → PrintsOn p refused_word p₁ → PrintsOn p₁ (decimal n) p₂ → PrintsOn p₂ (10 ∷ []) p₃
      → PrintsAnswer p (refused (refusal_number r)) 29 p₃
  refused_printed r n e w q s t =
      let line : Bytes = refused_word ++ decimal n in
      rw (← e)
      (record {
        prints = prints_then p line p₂ (10 ∷ []) p₃ (prints_then p refused_word p₁ (decimal n) p₂ q s) t;
        few = omega (arith, length-append line (10 ∷ []), length-append refused_word (decimal n), decimal-length-word n w);
      })

  pub rows_printed : (cs : List Clause) (count : ℕ) (pairs words : List ℕ) (p₄ : Printer) → Stands cs pairs words → count ≡ length pairs / 2 → ((i : ℕ) → get_or words i 0 < 2 ^ 64) → length words < 2 ^ 64
      → count < 2 ^ 64 → PrintsOn p rows_word p₁ → PrintsOn p₁ (decimal count) p₂ → PrintsOn p₂ (10 ∷ []) p₃ → PrintsOn p₃ (lines_from 0 cs) p₄ → PrintsAnswer p (got cs) (room_for (got cs)) p₄
  rows_printed cs count pairs words p₄ f half small n w q s t u =
      let counted : length cs ≡ count = omega (arith, half, pairs-length 0 cs, ap length f.pairs-are) in
      let line : Bytes = rows_word ++ decimal count in
      let lines : Bytes = lines_from 0 cs in
      let all : printed (got cs) ≡ line ++ 10 ∷ lines = ap (λ (k : ℕ). (rows_word ++ decimal k) ++ 10 ∷ lines) counted in
      let literals : Each Word (literals_of cs) = each_left (literals_of cs) f.other_words (each_word (literals_of cs ++ f.other_words) (rw f.words_are at small)) in
      let size : length words ≡ length (literals_of cs) + length f.other_words = ap length f.words_are ∙ length-append (literals_of cs) f.other_words in
      record {
        prints =
            prints_as p ((line ++ 10 ∷ []) ++ lines) p₄ (printed (got cs)) (append_assoc line (10 ∷ []) lines ∙ sym all)
            (prints_then p (line ++ 10 ∷ []) p₃ lines p₄ (prints_then p line p₂ (10 ∷ []) p₃ (prints_then p rows_word p₁ (decimal count) p₂ q s) t) u);
        few =
            omega
            (arith, ap length all, length-append line (10 ∷ lines), length-append rows_word (decimal count), decimal-length-word count w, lines-length 0 cs (omega (arith, size)) literals);
      }

-- bytes that are more than enough
pub more_room : (p : Printer) (a : Answer (List Clause)) (most : ℕ) (p' : Printer) (room : ℕ) → most ≤ room → PrintsAnswer p a most p' → PrintsAnswer p a room p'
more_room p a most p' room h q = record { prints = q.prints; few = omega (arith, q.few) }
