-- Laws of `plain_comment` and `plain_comments`, for the code that looks at the comment lines.
use mathlib.Core.List.{[]}
use mathlib.Core.Bool.{Bool, true, false, not}
use mathlib.Core.Path.{◌≡◌, sym, ap, ◌∙◌}
use borrow.Author.Tests.{not-true, not-false}
use Rattle.lists.specs.Parts.{Bytes}
use Rattle.lists.specs.Tests.{all}
use Rattle.scan.specs.Same.{same_bytes}
use Rattle.text.specs.Fields.{first_field}
use Rattle.text.specs.Lines.{lines_of}
use Rattle.text.specs.Inner.Fronts.{LineTaken}
use Rattle.text.proofs.LineLaws.{lines_none, lines-some}
use Rattle.witness_read.specs.Comments.{MAPPING, INTERVENTION, plain_comment, plain_comments}

module _ (l first : Bytes) (e : first ≡ first_field l) where
  pub maps : (b : Bool) → b ≡ same_bytes first MAPPING → b ≡ true → false ≡ plain_comment l
  maps b f h = rw (← e, sym f ∙ h)

  pub intervenes : (b : Bool) → b ≡ same_bytes first MAPPING → b ≡ false → (d : Bool) → d ≡ same_bytes first INTERVENTION → not d ≡ plain_comment l
  intervenes b f h d g = rw (← e, sym f ∙ h, g)

-- those of a model are not looked at
pub model-comments : (s : Bytes) (witness : Bool) → not witness ≡ true → true ≡ plain_comments witness (lines_of s)
model-comments s witness h = rw (not-true witness h)

module _ (s p : Bytes) (witness : Bool) (h : not witness ≡ false) (j : all plain_comment (lines_of p) ≡ all plain_comment (lines_of s)) where
  so : (b : Bool) → all plain_comment (lines_of p) ≡ b → b ≡ plain_comments witness (lines_of s)
  so b e = rw (not-false witness h) (sym e ∙ j)

  pub comments-end : p ≡ [] → true ≡ plain_comments witness (lines_of s)
  comments-end k = so true (ap (all plain_comment) (lines_none p k))

  module _ (l r : Bytes) (k : LineTaken p l r) (b : Bool) (f : b ≡ plain_comment l) where
    pub comments-stop : not b ≡ true → false ≡ plain_comments witness (lines_of s)
    comments-stop g = so false (ap (all plain_comment) (lines-some p l r k) ∙ rw (sym f ∙ not-true b g))

    pub comments-more : not b ≡ false → all plain_comment (lines_of r) ≡ all plain_comment (lines_of s)
    comments-more g = sym (ap (all plain_comment) (lines-some p l r k) ∙ rw (sym f ∙ not-false b g)) ∙ j
