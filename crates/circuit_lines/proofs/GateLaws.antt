-- Laws of `gate_line`, for the code that takes a gate.
use Rattle.std.specs.Prelude.{Some}
use Rattle.std.specs.Borrow.{Bor}
use Prim.Native.Nat.{ℕ}
use mathlib.Core.List.{[], ◌∷◌}
use mathlib.Core.Path.{ap, ◌∙◌}
use Rattle.lists.specs.Parts.{Bytes}
use Rattle.text.specs.declared.Reader.{Reader}
use Rattle.text.specs.Inner.PlainDigits.{IsPlain}
use Rattle.text.proofs.PlainLineLaws.{PlainLine, plain_last, plain_more}
use Rattle.aiger.specs.Gates.{gate_from}
use Rattle.aiger.specs.Sections.{section}
use Rattle.circuit_lines.specs.SectionLines.{gate_line}
use Rattle.circuit_lines.specs.Inner.Takes.{TakesGate}

-- plain_gate: its three numbers, and the texts between them
module _ (s : Bytes) (output left right : ℕ) (o l : Bytes) (r : Bor Bytes) (k₁ : IsPlain s 32 output o) (k₂ : IsPlain o 32 left l) (k₃ : IsPlain l 10 right r.now) where
  line_of : PlainLine s (output ∷ left ∷ right ∷ []) r.now
  line_of = plain_more s output o k₁ (left ∷ right ∷ []) r.now (plain_more o left l k₂ (right ∷ []) r.now (plain_last l right r.now k₃))

  pub plain-got : (reader : Reader) → TakesGate reader s (Some (record { value = gate_from output left right; rest = r }))
  plain-got reader = record { section = ap (section (gate_line reader) 1) line_of.lines ∙ rw (line_of.numbers reader); behind = line_of.behind }
