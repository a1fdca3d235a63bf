-- The composer's promise, of the flat answer.
use Rattle.std.specs.Prelude.{ℕ, Result}
use mathlib.Core.List.{List}
use mathlib.Core.Path.{◌≡◌, refl, sym, ap, ◌∙◌}
use lib.ListN.{length}
use Rattle.lists.specs.Answer.{Answer, got, refused}
use Rattle.lists.specs.Parts.{Bytes}
use Rattle.compose_spec.specs.Calling.{compose_call}
use Rattle.aiger.specs.declared.Refusal.{Refusal}
use Rattle.aiger.specs.Refusals.{answered}
use Rattle.aiger.proofs.AnsweredLaws.{answered-got}
use Rattle.compose.specs.Promise.{composed_answer, Composes}
use Rattle.nitrasovy.specs.declared.compositions.NitComposed.{NitComposed}
use Rattle.nitrasovy.specs.Reasons.{compose_reasons, Among}
use Rattle.nitrasovy.specs.Inner.FlatEnums.{flat_bytes}
use Rattle.nitrasovy.specs.FlatCompositions.{flat_composed, ComposesFlat}
use Rattle.nitrasovy.proofs.ReasonLaws.{no_reason}
use Rattle.nitrasovy.proofs.CallReasons.{compose-among}

flat_answer : (a : Answer Bytes) → flat_bytes (composed_answer a) ≡ flat_composed a
flat_answer (got text) = refl
flat_answer (refused n) = refl

-- reason 0 is that of a text
text_accepted : (a : Answer Bytes) → Among compose_reasons a → (r : NitComposed) → r ≡ flat_composed a → r.reason ≡ 0 → composed_answer a ≡ got r.bytes
text_accepted (got text) h r e z = ap got (sym (ap (λ (x : NitComposed). x.bytes) e))
text_accepted (refused n) h r e z = no_reason compose_reasons n refl (h.numbered n refl) (sym (ap (λ (x : NitComposed). x.reason) e) ∙ z)

pub composes_flat : (model buffer : Bytes) (pairs work : List ℕ) (out : Bytes) (work' : List ℕ) (out' : Bytes) (x : Result ℕ Refusal) (r : NitComposed)
    → Composes model buffer pairs work out work' out' x → r ≡ flat_bytes (answered x) → ComposesFlat model buffer pairs work out work' out' r
composes_flat model buffer pairs work out work' out' x r k e =
    let answer = compose_call (length work) (length out) model buffer pairs in
    let flat : r ≡ flat_composed answer = e ∙ ap flat_bytes k.returns ∙ flat_answer answer in
    record {
      returns = flat;
      numbered = compose-among (length work) (length out) model buffer pairs;
      result = k.result;
      zero = k.zero;
      means = λ z. k.means r.bytes (answered-got x r.bytes (k.returns ∙ text_accepted answer (compose-among (length work) (length out) model buffer pairs) r flat z));
    }
