-- Laws for the functions that take one line: the first line of a text, with its item, is a section of one line.
use mathlib.Core.List.{[], ◌∷◌}
use mathlib.Core.Path.{◌≡◌, ap, ◌∙◌}
use Rattle.lists.specs.Answer.{Answer, got, refused}
use Rattle.lists.specs.Parts.{Bytes}
use Rattle.text.specs.Lines.{lines_of}
use Rattle.text.specs.Inner.Fronts.{LineTaken}
use Rattle.text.proofs.LineLaws.{lines_none, lines-some, line-behind}
use Rattle.aiger.specs.Sections.{section}
use Rattle.circuit_lines.specs.Inner.Takes.{SectionTaken}

module _ {A : Type 0} (item : Bytes → Answer A) (s : Bytes) where
  pub one_none : s ≡ [] → section item 1 (lines_of s) ≡ refused 8
  one_none e = ap (section item 1) (lines_none s e)

  module _ (l r : Bytes) (k : LineTaken s l r) where
    pub one_bad : refused 8 ≡ item l → section item 1 (lines_of s) ≡ refused 8
    one_bad p = ap (section item 1) (lines-some s l r k) ∙ rw (← p)

    pub one_got : (x : A) → got x ≡ item l → SectionTaken item s 1 (x ∷ []) r
    one_got x p = record { section = ap (section item 1) (lines-some s l r k) ∙ rw (← p); behind = line-behind s l r k }
