-- For the contracts of functions that the witness reader uses: what those that take the header, a latch or a symbol say of the lines of a text.
use Rattle.std.specs.Prelude.{◌≡◌, drop, Option, Some, None}
use Rattle.lists.specs.Answer.{Answer, got, refused}
use Rattle.lists.specs.Parts.{Bytes}
use Rattle.text.specs.declared.Parsed.{Parsed}
use Rattle.text.specs.Lines.{lines_of}
use Rattle.text.specs.Inner.Fronts.{Behind}
use Rattle.witness_text.specs.declared.AagCounts.{AagCounts}
use Rattle.witness_text.specs.declared.SymbolLine.{SymbolLine}
use Rattle.witness_text.specs.Header.{header_of}
use Rattle.witness_text.specs.Symbols.{Symbol}

-- the first line has the counts n, and the text r with the others stands behind it
pub record Headed (s : Bytes) (n : AagCounts) (r : Bytes) : Type 0 where
  pub counts : header_of (lines_of s) ≡ got n
  pub rest : drop 1 (lines_of s) ≡ lines_of r
  pub behind : Behind s r

abbrev pub TakesCounts : Bytes → Option (Parsed AagCounts) → Type 0
TakesCounts s (Some p) = Headed s p.value p.rest.now
TakesCounts s None = header_of (lines_of s) ≡ refused 4

-- what a line's answer in the code stands for
abbrev pub symbol_answer : Option SymbolLine → Answer Symbol
symbol_answer (Some x) = got (record { kind = x.kind; index = x.index; name = x.name.now })
symbol_answer None = refused 9
