-- The witness reader (R4; refusals R9.3, R9.4, R9.5, R9.6, R9.8, R9.9, R9.10, R9.11 in this order): from the bytes to the sections or the
-- first number.
use Rattle.std.specs.Prelude.{ℕ, suc, Bool, List, [], ◌∷◌, length, drop}
use Rattle.lists.specs.Answer.{Answer, got, refused, unless, and_then}
use Rattle.lists.specs.Parts.{Bytes}
use Rattle.text.specs.declared.Reader.TheVariants.{Witness}
use Rattle.text.specs.Lines.{lines_of}
use Rattle.text.specs.Texts.{Limits, good_text}
use Rattle.witness_text.specs.declared.AagCounts.{AagCounts}
use Rattle.witness_text.specs.declared.Latch.{Latch}
use Rattle.witness_text.specs.Header.{header_of, counted, without_liveness}
use Rattle.witness_text.specs.Symbols.{Symbol}
use Rattle.witness_read.specs.Sections.{NamedLatch, Sections, variables}
use Rattle.witness_read.specs.Names.{is_input, is_latch, symbols_of, name_of, names_of}
use Rattle.witness_read.specs.Comments.{plain_comments}
use Rattle.witness_read.specs.Order.{Body, body_of, well_numbered}

-- the latches from number k on with their names
abbrev pub named_latches : ℕ → List Latch → List Symbol → List NamedLatch
named_latches k [] ss = []
named_latches k (q ∷ qs) ss = record { next = q.next; reset = q.reset; name = name_of is_latch k ss } ∷ named_latches (suc k) qs ss

-- the section lines with the names
abbrev pub sections_from : Body → List Symbol → Sections
sections_from d ss =
    record {
      inputs = names_of is_input 0 (length d.inputs) ss;
      latches = named_latches 0 d.latches ss;
      outputs = d.outputs;
      bads = d.bads;
      constraints = d.constraints;
      gates = d.gates;
    }

-- R9.8 to R9.11: the sections that the lines after the header write; `witness` is false where the text is read as the model
abbrev pub sections_of : Bool → AagCounts → List Bytes → Answer Sections
sections_of witness n ls =
    and_then (body_of n ls) (λ d.
    and_then (symbols_of n d.rest) (λ t.
    unless 10 (plain_comments witness t.comments)
    (unless 11 (well_numbered n d)
    (got (sections_from d t.symbols)))))

-- R9.5, R9.6, then R9.8 to R9.11: what follows a header
abbrev pub after_header : Limits → Bool → List Bytes → AagCounts → Answer Sections
after_header lim witness ls n =
    unless 5 (counted lim n)
    (unless 6 (without_liveness n)
    (sections_of witness n ls))

-- R4.1, R11.7: the sections of a text, or the first number that applies; without limits M and the length may be any, all else is the same
unfoldable pub read_aag : Limits → Bool → Bytes → Answer Sections
read_aag lim witness t = unless 3 (good_text lim Witness t) (and_then (header_of (lines_of t)) (after_header lim witness (drop 1 (lines_of t))))

-- the counts of sections: M I L O A B C, with J and F 0
abbrev pub counts_in : Sections → AagCounts
counts_in s =
    record {
      max_variable = variables s;
      inputs = length s.inputs;
      latches = length s.latches;
      outputs = length s.outputs;
      gates = length s.gates;
      bads = length s.bads;
      constraints = length s.constraints;
      justice = 0;
      fairness = 0;
    }

-- R12.13: what the call returns: the counts or the number
abbrev pub counts_read : Answer Sections → Answer AagCounts
counts_read (got s) = got (counts_in s)
counts_read (refused n) = refused n
