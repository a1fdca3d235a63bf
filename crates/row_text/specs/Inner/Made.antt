-- For the contracts of inner functions: what is printed for an answer, with buffers of any length.
use Rattle.std.specs.Prelude.{ℕ, ◌+◌, ◌*◌, ◌≤◌, ◌≡◌, List, [], ◌∷◌, length, take, Result, Ok, Err}
use Rattle.lists.specs.Answer.{Answer, got, refused}
use Rattle.lists.specs.Parts.{Bytes}
use Rattle.text_print.specs.declared.Printer.{Printer}
use Rattle.text_print.specs.Inner.Prints.{PrintsOn}
use Rattle.cnf.specs.declared.ClauseCounts.{ClauseCounts}
use Rattle.cnf.specs.Clauses.{Clause, returned}
use Rattle.aiger.specs.declared.Refusal.{Refusal}
use Rattle.aiger.specs.Refusals.{refusal_number}
use Rattle.row_text.specs.RowProgram.{printed, row_in}
use Rattle.row_text.specs.Inner.Steps.{Stands}

-- what the call's answer and the buffers say together
abbrev pub made_answer : Result ClauseCounts Refusal → List ℕ → List ℕ → Answer (List Clause)
made_answer (Ok t) pairs words = got (returned t.clauses pairs words)
made_answer (Err r) pairs words = refused (refusal_number r)

-- so many clauses stand in front of the buffers
pub record InFront (count : ℕ) (pairs words : List ℕ) : Type 0 where
  pub fits : 2 * count ≤ length pairs
  pub stands : Stands (returned count pairs words) (take (2 * count) pairs) words

-- the clauses of an accepted answer do
abbrev pub Standing : Result ClauseCounts Refusal → List ℕ → List ℕ → Type 0
Standing r pairs words = (t : ClauseCounts) → r ≡ Ok t → InFront t.clauses pairs words

-- how many numbers the lines of clauses have
abbrev pub numbers_in : List Clause → ℕ
numbers_in [] = 0
numbers_in (c ∷ cs) = length c + 2 + numbers_in cs

-- bytes that are enough for an answer: 20 digits and the byte behind them for each number
abbrev pub room_for : Answer (List Clause) → ℕ
room_for (got cs) = 21 * numbers_in cs + 26
room_for (refused n) = 29

-- a printer prints an answer, in at most so many bytes
pub record PrintsAnswer (p : Printer) (a : Answer (List Clause)) (most : ℕ) (p' : Printer) : Type 0 where
  pub prints : PrintsOn p (printed a) p'
  pub few : length (printed a) ≤ most

-- a printer prints the row with what is lent
abbrev pub PrintsIn : Printer → List ℕ → Bytes → List ℕ → ℕ → ℕ → ℕ → Printer → Type 0
PrintsIn p ns t gates work pairs literals p' =
    PrintsAnswer p (row_in ns t gates (record { work = work; pairs = pairs; literals = literals })) (21 * (pairs + literals) + 29) p'
