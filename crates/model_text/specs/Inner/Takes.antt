-- For the contracts of functions that the reader uses: what the one that takes the header says of the lines of a text.
use Rattle.std.specs.Prelude.{◌≡◌, drop, Option, Some, None}
use Rattle.lists.specs.Answer.{got, refused}
use Rattle.lists.specs.Parts.{Bytes}
use Rattle.text.specs.declared.Parsed.{Parsed}
use Rattle.text.specs.Lines.{lines_of}
use Rattle.model.specs.declared.Counts.{Counts}
use Rattle.model_text.specs.Header.{header_of}

-- the first line has the counts n, and the text r with the others stands behind it
pub record Headed (s : Bytes) (n : Counts) (r : Bytes) : Type 0 where
  pub counts : header_of (lines_of s) ≡ got n
  pub rest : drop 1 (lines_of s) ≡ lines_of r

abbrev pub TakesCounts : Bytes → Option (Parsed Counts) → Type 0
TakesCounts s (Some p) = Headed s p.value p.rest.now
TakesCounts s None = header_of (lines_of s) ≡ refused 4
