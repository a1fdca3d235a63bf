-- The header of a witness text (R4.2; refusals R9.4, R9.5 and R9.6).
use Rattle.std.specs.Prelude.{ℕ, ◌+◌, Bool, List, [], ◌∷◌, eqb, leb, length, get_or, Option, Some, None}
use Rattle.lists.specs.Answer.{Answer, got, refused, unless}
use Rattle.lists.specs.Parts.{Bytes}
use Rattle.lists.specs.Tests.{every}
use Rattle.text.specs.declared.Reader.TheVariants.{Witness}
use Rattle.text.specs.Texts.{Limits, within}
use Rattle.circuit_lines.specs.SectionLines.{first_numbers}
use Rattle.witness_text.specs.declared.AagCounts.{AagCounts}

-- R4.2: the counts M I L O A B C J F in their order; one that is not there is 0
abbrev pub counts_from : List ℕ → AagCounts
counts_from ns =
    record {
      max_variable = get_or ns 0 0;
      inputs = get_or ns 1 0;
      latches = get_or ns 2 0;
      outputs = get_or ns 3 0;
      gates = get_or ns 4 0;
      bads = get_or ns 5 0;
      constraints = get_or ns 6 0;
      justice = get_or ns 7 0;
      fairness = get_or ns 8 0;
    }

-- R4.2: the counts, where the numbers are readable and five to nine
abbrev pub five_to_nine : Option (List ℕ) → Answer AagCounts
five_to_nine None = refused 4
five_to_nine (Some ns) = unless 4 (leb 5 (length ns)) (unless 4 (leb (length ns) 9) (got (counts_from ns)))

-- R9.4: the counts of the first line; refused where there is none, without the word `aag`, and without five to nine numbers behind it
abbrev pub header_of : List Bytes → Answer AagCounts
header_of ls = five_to_nine (first_numbers Witness ls)

-- R4.4, R9.5: M is the sum of I, L and A and, with limits (else R11.7), at most 2,000,000
unfoldable pub counted : Limits → AagCounts → Bool
counted lim n = every (eqb n.max_variable (n.inputs + n.latches + n.gates) ∷ within lim 2000000 n.max_variable ∷ [])

-- R9.6: neither justice nor fairness is counted
unfoldable pub without_liveness : AagCounts → Bool
without_liveness n = every (eqb n.justice 0 ∷ eqb n.fairness 0 ∷ [])
