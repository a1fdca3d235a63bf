-- The names of one witness: where their words stand.
use Prim.Native.Nat.{ℕ, ◌+◌, ◌<◌}
use mathlib.Core.List.{List}
use mathlib.Core.Path.{◌≡◌, refl}
use native.Mathlib.Omega.{arith}
use Rattle.lists.specs.Parts.{Bytes}
use Rattle.text_print.specs.declared.Printer.{Printer}
use Rattle.witness_text.specs.declared.AagCounts.{AagCounts}
use Rattle.compose_joint.specs.declared.Leaves.{Leaves}
use Rattle.compose_joint.specs.Inner.Joint.{leaf_counts, names_before}
use Rattle.compose_gather.specs.Inner.Gathered.{words_for}
use Rattle.compose_names.specs.declared.Starts.{Starts}
use Rattle.compose_names.specs.Inner.Symbols.{row_at, rows_from, RowWords, CanPrintNames, PrintsNew, rows_at, CanPrintWitness, passed}

module _ (t : Bytes) (work : List ℕ) (p : Starts) where
  -- each row of so many
  pub row_words : (count first next k : ℕ) → CanPrintNames t work p count first next → k < count → RowWords t work p k
  row_words count first next k c h =
      record { name = record { there = omega (arith, c.named); within = c.within k h }; origin = omega (arith, c.origins_fit) }

-- the places with a start of the names
abbrev from : Starts → ℕ → Starts
from p start = record { names = p.names + start; origins = p.origins; numbers = p.numbers }

module _ (leaves : Leaves) (n : AagCounts) (p : Starts) (start count : ℕ) (a : start ≡ names_before leaves n) (c : count ≡ leaf_counts leaves n) (t : Bytes) (work : List ℕ) (first next : ℕ) where
  -- the names may be printed from their start on
  pub witness-can : CanPrintWitness t n work leaves p first next → CanPrintNames t work (from p start) count first next
  witness-can k = rw (a, c) k.can

  -- and what is printed are the rows of the witness
  pub witness-prints : (w : ℕ) (q q' : Printer) (r : ℕ) → PrintsNew leaves first next (rows_from (row_at t work leaves w (from p start)) 0 count) q q' r
      → PrintsNew leaves first next (rows_at t n work leaves w p) q q' r
  witness-prints w q q' r k = rw (← a, ← c) k

-- the places of the next witness
pub passed_is : (leaves : Leaves) (n : AagCounts) (p : Starts) (names count : ℕ) → names ≡ p.names + words_for n → count ≡ leaf_counts leaves n
    → ◌≡◌ {A = Starts} (record { names = names; origins = p.origins + count; numbers = p.numbers + count }) (passed leaves n p)
passed_is leaves n p names count e c = rw (e, c) refl
