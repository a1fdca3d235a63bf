-- What the row program (R14) prints for every input.
use Rattle.std.specs.Prelude.{ℕ, ◌+◌, ◌≤◌, ◌<◌, cond, List, [], ◌∷◌, ◌++◌, ◌≡◌, leb, eqb, length, take, drop, Option, Some, None}
use Rattle.lists.specs.Quoted.{bytes}
use Rattle.lists.specs.Answer.{Answer, got, refused, unless, and_then}
use Rattle.lists.specs.Parts.{Bytes, front, zeros}
use Rattle.scan.specs.Spans.{span, in_line}
use Rattle.text.specs.declared.Reader.TheVariants.{Transition}
use Rattle.text.specs.Lines.{cons_head}
use Rattle.text.specs.Numbers.{number_of}
use Rattle.text_decimal.specs.Decimal.{decimal}
use Rattle.text_decimal.specs.Printed.{number_line, text_of}
use Rattle.model.specs.declared.AigerTransition.{AigerTransition}
use Rattle.model.specs.Circuit.{Circuit, record_of, words_of_gates}
use Rattle.model_read.specs.Reading.{read_transition}
use Rattle.cnf.specs.Clauses.{Clause}
use Rattle.obligation_spec.specs.Calls.{Asked, Lent, relation_row}

-- R14.1: the first line, up to byte 10 or the end, and what follows it
abbrev pub first_line : Bytes → Bytes
first_line t = take (span in_line t) t

abbrev pub after_line : Bytes → Bytes
after_line t = drop (span in_line t + 1) t

-- what stands before, between and after single spaces (byte 32); nothing stands between two of them
abbrev pub pieces : Bytes → List Bytes
pieces [] = [] ∷ []
pieces (b ∷ bs) = cond (eqb b 32) ([] ∷ pieces bs) (cons_head b (pieces bs))

-- R14.3: each piece of the line is a number by the transition reader's rule, else 14
abbrev pub piece_number : Option ℕ → Answer ℕ
piece_number (Some n) = got n
piece_number None = refused 14

abbrev pub numbers_of : List Bytes → Answer (List ℕ)
numbers_of [] = got []
numbers_of (f ∷ fs) = and_then (piece_number (number_of Transition f)) (λ n. and_then (numbers_of fs) (λ ns. got (n ∷ ns)))

-- R14.1: what is asked has no relevant inputs and no predicate
abbrev pub bare : AigerTransition → List ℕ → Asked
bare m gates = record { model = m; gates = gates; relevant = []; pairs = []; words = [] }

-- the model with its gate words in front of those lent
abbrev pub bare_of : Circuit → List ℕ → Asked
bare_of c gates = bare (record_of c) (front gates (words_of_gates c))

-- R14.1: the row of the source and the targets, and of the model, with gate words lent and so many words of each other kind
abbrev pub row_in : List ℕ → Bytes → List ℕ → Lent → Answer (List Clause)
row_in [] t gates lent = refused 14
row_in (source ∷ targets) t gates lent =
    and_then (read_transition t (length gates) lent.work) (λ c. relation_row (bare_of c gates) source targets lent)

-- R14.4: the words lent beside 6,000 for the gates; a pair is two words
abbrev pub row_lent : Lent
row_lent = record { work = 2100; pairs = 16384; literals = 16384 }

abbrev pub row_for : List ℕ → Bytes → Answer (List Clause)
row_for ns t = row_in ns t (zeros 6000) row_lent

-- R14.2, R14.3, and then the model and the row
unfoldable pub row_answer : Bytes → Answer (List Clause)
row_answer t = unless 3 (leb (length t) 16384) (and_then (numbers_of (pieces (first_line t))) (λ ns. row_for ns (after_line t)))

-- R14.5: a line for each clause
abbrev pub clause_lines : ℕ → List Clause → List Bytes
clause_lines at [] = []
clause_lines at (c ∷ cs) = number_line (at ∷ length c ∷ c) ∷ clause_lines (at + length c) cs

-- the bytes of `refused ` and of `rows `
abbrev pub refused_word : Bytes
refused_word = bytes "refused "

abbrev pub rows_word : Bytes
rows_word = bytes "rows "

-- R14.5: the lines for an answer
abbrev pub printed : Answer (List Clause) → Bytes
printed (got cs) = text_of ((rows_word ++ decimal (length cs)) ∷ clause_lines 0 cs)
printed (refused n) = text_of ((refused_word ++ decimal n) ∷ [])

-- the output of the program for an input
unfoldable pub row_text : Bytes → Bytes
row_text t = printed (row_answer t)

-- The promise of the program's function, for every input t and every buffer o: r bytes are written.
-- Where there are 700,000 bytes, the buffer begins with the program's output, and the bytes past it keep theirs; else all do.
pub record RowWrites (t o : Bytes) (r : ℕ) (o' : Bytes) : Type 0 where
  pub counts : 700000 ≤ length o → r ≡ length (row_text t)
  pub prints : 700000 ≤ length o → o' ≡ front o (row_text t)
  pub fits : r ≤ length o
  pub none : length o < 700000 → r ≡ 0
  pub keeps : length o < 700000 → o' ≡ o
