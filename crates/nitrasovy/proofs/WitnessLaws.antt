-- The witness reader's promise, of the flat answer.
use mathlib.Core.Bool.{Bool}
use mathlib.Core.Path.{◌≡◌, refl, ap, ◌∙◌}
use Rattle.lists.specs.Answer.{Answer, got, refused}
use Rattle.lists.specs.Parts.{Bytes}
use Rattle.text.specs.Texts.{limited}
use Rattle.std.specs.Prelude.{Result}
use Rattle.aiger.specs.declared.Refusal.{Refusal}
use Rattle.aiger.specs.Refusals.{answered}
use Rattle.witness_text.specs.declared.AagCounts.{AagCounts}
use Rattle.witness_read.specs.Sections.{Sections}
use Rattle.witness_read.specs.Reading.{read_aag, counts_read}
use Rattle.nitrasovy.specs.declared.witnesses.NitWitness.{NitWitness}
use Rattle.nitrasovy.specs.Inner.FlatEnums.{flat_counts}
use Rattle.nitrasovy.specs.FlatWitnesses.{flat_witness, CountsFlat}
use Rattle.nitrasovy.proofs.CallReasons.{witness-among}

flat_answer : (a : Answer Sections) → flat_counts (counts_read a) ≡ flat_witness a
flat_answer (got s) = refl
flat_answer (refused n) = refl

pub counts_flat : (witness : Bool) (t : Bytes) (x : Result AagCounts Refusal) → answered x ≡ counts_read (read_aag limited witness t) → (r : NitWitness) → r ≡ flat_counts (answered x) → CountsFlat (read_aag limited witness t) r
counts_flat witness t x e r q =
    record { returns = q ∙ ap flat_counts e ∙ flat_answer (read_aag limited witness t); numbered = witness-among witness t }
