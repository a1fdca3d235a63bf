-- The lines after the gates (R4.8; refusal R9.9): symbols, and comments behind the line `c`.
use Rattle.std.specs.Prelude.{ℕ, suc, zero, Bool, true, false, cond, ◌&&◌, List, [], ◌∷◌, eqb}
use Rattle.std.proofs.Math.Option.{Option, some, none}
use Rattle.lists.specs.Answer.{Answer, got, unless, and_then}
use Rattle.lists.specs.Parts.{Bytes}
use Rattle.lists.specs.Sets.{distinct}
use Rattle.witness_text.specs.declared.AagCounts.{AagCounts}
use Rattle.witness_text.specs.declared.Kind.{Kind}
use Rattle.witness_text.specs.declared.Kind.TheVariants.{Input, Latch, Output, Bad, Constraint}
use Rattle.witness_text.specs.Symbols.{ends_symbols, Symbol, symbol_of}

-- R4.8: the symbols, and the comments: the lines after the line `c`
pub record Tail : Type 0 where
  pub symbols : List Symbol
  pub comments : List Bytes

-- a symbol in front of those of the lines after it
abbrev pub with_symbol : Symbol → Tail → Answer Tail
with_symbol s t = got (record { symbols = s ∷ t.symbols; comments = t.comments })

-- R4.8: the symbol lines up to the first line `c`, or to the end, and the comments behind it; `c0 name` is a symbol line (R15.4)
abbrev pub tail_of : AagCounts → List Bytes → Answer Tail
tail_of n [] = got (record { symbols = []; comments = [] })
tail_of n (l ∷ ls) =
    cond (ends_symbols l) (got (record { symbols = []; comments = ls }))
    (and_then (symbol_of n l) (λ s. and_then (tail_of n ls) (with_symbol s)))

abbrev pub is_input : Kind → Bool
is_input Input = true
is_input Latch = false
is_input Output = false
is_input Bad = false
is_input Constraint = false

abbrev pub is_latch : Kind → Bool
is_latch Input = false
is_latch Latch = true
is_latch Output = false
is_latch Bad = false
is_latch Constraint = false

-- R4.12: the indices that the symbols of a kind name
abbrev pub indices_of : (Kind → Bool) → List Symbol → List ℕ
indices_of is [] = []
indices_of is (s ∷ ss) = cond (is s.kind) (s.index ∷ indices_of is ss) (indices_of is ss)

-- R4.12: no input and no latch is named twice
abbrev pub named_once : List Symbol → Bool
named_once ss = distinct (indices_of is_input ss) && distinct (indices_of is_latch ss)

-- R9.9: the symbols and comments of the lines after the gates; refused also where an input or a latch is named twice
unfoldable pub symbols_of : AagCounts → List Bytes → Answer Tail
symbols_of n ls = and_then (tail_of n ls) (λ t. unless 9 (named_once t.symbols) (got t))

-- R4.10: the name of number k of a kind, where a symbol gives one
abbrev pub name_of : (Kind → Bool) → ℕ → List Symbol → Option Bytes
name_of is k [] = none
name_of is k (s ∷ ss) = cond (is s.kind && eqb k s.index) (some s.name) (name_of is k ss)

-- the names of the numbers k, k + 1, .., n many
abbrev pub names_of : (Kind → Bool) → ℕ → ℕ → List Symbol → List (Option Bytes)
names_of is k zero ss = []
names_of is k (suc n) ss = name_of is k ss ∷ names_of is (suc k) n ss
