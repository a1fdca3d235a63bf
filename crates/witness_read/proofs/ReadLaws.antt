-- Laws for the functions that read a text: which reason comes first, and the counts of what is accepted.
use mathlib.Core.Bool.{Bool, true, false, not}
use mathlib.Core.Path.{◌≡◌, sym, ap, ◌∙◌}
use borrow.Author.Tests.{not-true, not-false}
use Rattle.lists.specs.Answer.{Answer, got, refused}
use Rattle.lists.specs.Parts.{Bytes}
use Rattle.lists.proofs.BoolLaws.{told_not}
use Rattle.text.specs.declared.Reader.TheVariants.{Witness}
use Rattle.text.specs.Lines.{lines_of}
use Rattle.text.specs.Texts.{limited, good_text}
use Rattle.aiger.specs.declared.Refusal.{Refusal}
use Rattle.aiger.specs.Refusals.{refusal_number}
use Rattle.witness_text.specs.declared.AagCounts.{AagCounts}
use Rattle.witness_text.specs.Header.{header_of, counted, without_liveness}
use Rattle.witness_text.specs.Inner.Takes.{Headed}
use Rattle.witness_read.specs.Names.{symbols_of}
use Rattle.witness_read.specs.Comments.{plain_comments}
use Rattle.witness_read.specs.Order.{body_of, well_numbered}
use Rattle.witness_read.specs.Reading.{sections_from, sections_of, after_header, read_aag, counts_in, counts_read}
use Rattle.witness_read.proofs.AcceptedLaws.{body-parts, parts-counts, counts_same}
use Rattle.witness_read.specs.Inner.Passes.{PassedAll, PassedSymbols}

-- ---- read_sections

module _ (s : Bytes) (n : AagCounts) (witness : Bool) where
  pub sections_bad : body_of n (lines_of s) ≡ refused 8 → refused 8 ≡ counts_read (sections_of witness n (lines_of s))
  sections_bad e = rw e

  module _ (p : Bytes) (fine : Bool) (body : PassedAll (body_of n) (λ d. d.rest) (well_numbered n) s p fine) where
    pub symbols-refused : (m : Refusal) → symbols_of n (lines_of p) ≡ refused (refusal_number m) → refused (refusal_number m) ≡ counts_read (sections_of witness n (lines_of s))
    symbols-refused m e = rw (body.takes, body.left, e)

    module _ (e : Bytes) (tail : PassedSymbols p n e) (w : Bool) (q : w ≡ plain_comments witness (lines_of e)) where
      pub comments-refused : not w ≡ true → refused 10 ≡ counts_read (sections_of witness n (lines_of s))
      comments-refused h = let o : plain_comments witness (lines_of e) ≡ false = sym q ∙ not-true w h in rw (body.takes, body.left, tail.takes, o)

      module _ (h : not w ≡ false) where
        plain : plain_comments witness (lines_of e) ≡ true
        plain = told_not (plain_comments witness (lines_of e)) w q h

        pub order-refused : not fine ≡ true → refused 11 ≡ counts_read (sections_of witness n (lines_of s))
        order-refused g = let o : well_numbered n body.taken ≡ false = sym body.says ∙ not-true fine g in rw (body.takes, o, body.left, tail.takes, plain)

        pub sections_read : counted limited n ≡ true → without_liveness n ≡ true → not fine ≡ false → got n ≡ counts_read (sections_of witness n (lines_of s))
        sections_read x y g =
            let o : well_numbered n body.taken ≡ true = sym body.says ∙ not-false fine g in
            let same : counts_in (sections_from body.taken tail.symbols) ≡ n =
            counts_same limited n body.taken tail.symbols x y (parts-counts n (lines_of s) body.taken (body-parts n (lines_of s) body.taken body.takes)) in
            ap got (sym same) ∙ rw (body.takes, o, body.left, tail.takes, plain)

-- ---- read_body

pub counts_told : (n : AagCounts) (a : Bool) → a ≡ counted limited n → not a ≡ false → counted limited n ≡ true
counts_told n a p h = told_not (counted limited n) a p h

pub liveness_told : (n : AagCounts) (a : Bool) → a ≡ without_liveness n → not a ≡ false → without_liveness n ≡ true
liveness_told n a p h = told_not (without_liveness n) a p h

module _ (s : Bytes) (n : AagCounts) (witness : Bool) (a : Bool) (p : a ≡ counted limited n) where
  pub counts-refused : not a ≡ true → refused 5 ≡ counts_read (after_header limited witness (lines_of s) n)
  counts-refused h = rw (← p, not-true a h)

  module _ (h : not a ≡ false) (b : Bool) (q : b ≡ without_liveness n) where
    counts_hold : counted limited n ≡ true
    counts_hold = counts_told n a p h

    pub liveness_refused : not b ≡ true → refused 6 ≡ counts_read (after_header limited witness (lines_of s) n)
    liveness_refused k = rw (counts_hold, ← q, not-true b k)

    module _ (k : not b ≡ false) where
      no_liveness : without_liveness n ≡ true
      no_liveness = liveness_told n b q k

      pub body_read : (r : Answer AagCounts) → r ≡ counts_read (sections_of witness n (lines_of s)) → r ≡ counts_read (after_header limited witness (lines_of s) n)
      body_read r e = e ∙ rw (counts_hold, no_liveness)

-- ---- parse_aag

module _ (s : Bytes) (witness : Bool) (a : Bool) (p : a ≡ good_text limited Witness s) where
  pub text_refused : not a ≡ true → refused 3 ≡ counts_read (read_aag limited witness s)
  unfolding read_aag
  text_refused h = rw (← p, not-true a h)

  module _ (h : not a ≡ false) where
    good : good_text limited Witness s ≡ true
    good = told_not (good_text limited Witness s) a p h

    pub header_refused : header_of (lines_of s) ≡ refused 4 → refused 4 ≡ counts_read (read_aag limited witness s)
    unfolding read_aag
    header_refused e = rw (good, e)

    pub text_read_lem : (n : AagCounts) (r : Bytes) → Headed s n r → (x : Answer AagCounts) → x ≡ counts_read (after_header limited witness (lines_of r) n)
        → x ≡ counts_read (read_aag limited witness s)
    unfolding read_aag
    text_read_lem n r g x e = e ∙ rw (good, g.counts, g.rest)
