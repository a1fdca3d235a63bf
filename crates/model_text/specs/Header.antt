-- The header of a transition text (R5.2; refusal R9.4).
use Rattle.std.specs.Prelude.{ℕ, List, eqb, length, get_or, Option, Some, None}
use Rattle.lists.specs.Answer.{Answer, got, refused, unless}
use Rattle.lists.specs.Parts.{Bytes}
use Rattle.text.specs.declared.Reader.TheVariants.{Transition}
use Rattle.circuit_lines.specs.SectionLines.{first_numbers}
use Rattle.model.specs.declared.Counts.{Counts}

-- R5.2: the counts M I L O A in their order
abbrev pub counts_from : List ℕ → Counts
counts_from ns =
    record {
      max_variable = get_or ns 0 0;
      inputs = get_or ns 1 0;
      latches = get_or ns 2 0;
      outputs = get_or ns 3 0;
      ands = get_or ns 4 0;
    }

-- R5.2: the counts, where the numbers are readable and five
abbrev pub five_counts : Option (List ℕ) → Answer Counts
five_counts None = refused 4
five_counts (Some ns) = unless 4 (eqb (length ns) 5) (got (counts_from ns))

-- R9.4: the counts of the first line; refused where there is none, without the word `aag`, and without five numbers behind it
abbrev pub header_of : List Bytes → Answer Counts
header_of ls = five_counts (first_numbers Transition ls)
