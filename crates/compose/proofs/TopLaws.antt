-- Laws of the composer's call: the model's text, 1 and 2, and the whole promise.
use Rattle.std.specs.Prelude.{Result, Ok, Err}
use Rattle.std.specs.Result.{IsErrAnd}
use Rattle.aiger.specs.declared.Refusal.{Refusal}
use Rattle.aiger.specs.declared.Refusal.TheVariants as refusal
use Rattle.aiger.specs.Refusals.{refusal_number, answered}
use Rattle.std.proofs.Common.{◌⊎◌, inl, inr}
use Prim.Native.Nat.{ℕ, ◌+◌, ◌/◌, ◌≤◌, ◌<◌}
use mathlib.Core.Bool.{Bool, true, false, not, and-false}
use mathlib.Core.List.{List}
use mathlib.Core.Path.{◌≡◌, refl, sym, ap, ◌∙◌, subst}
use borrow.Author.Tests.{not-true, not-false, le-leb, lt-leb}
use lib.Dec.{leb}
use lib.ListN.{length, take}
use lib.Seq.{take_at}
use Rattle.lists.specs.Answer.{Answer, got, refused, and_then}
use Rattle.lists.specs.Parts.{Bytes, part, zeros}
use Rattle.lists.specs.Words.{in_order}
use Rattle.lists.proofs.AnswerLaws.{got_same, got-refused}
use Rattle.lists.proofs.WordLaws.{pairs-count}
use Rattle.text.specs.Texts.{limited}
use Rattle.witness_text.specs.declared.AagCounts.{AagCounts}
use Rattle.witness_text.proofs.CountLaws.{counted_facts}
use Rattle.witness_read.specs.Sections.{Sections}
use Rattle.witness_read.specs.Reading.{read_aag, counts_in, counts_read}
use Rattle.witness_read.proofs.AcceptedLaws.{read_accepted, read_got, read_refused}
use Rattle.compose_spec.specs.Calling.{read_all, compose_texts, texts_in, compose_call, compose_read}
use Rattle.compose_spec.specs.Meaning.{Composition}
use Rattle.compose_spec.proofs.DemandLaws.{composition-means}
use Rattle.compose.specs.Promise.{composed_answer, result_bytes, Composes}
use Rattle.compose.specs.Inner.Steps.{Answers, ModelIs, ModelSome, ComposesWitnesses}
use Rattle.compose.proofs.ChainLaws.{refuses, refuses_on, answers-same}

-- ---- the model

module _ (model buffer : Bytes) (pairs work : List ℕ) (out : Bytes) where
  pub model-refused : (m : Refusal) → refused (refusal_number m) ≡ counts_read (read_aag limited false model) → (r : Result ℕ Refusal) → IsErrAnd r (λ k. k ≡ m)
      → Answers out (compose_texts (length work) (length out) model (texts_in buffer pairs)) out r
  model-refused m e r h =
      refuses_on out (compose_texts (length work) (length out) model (texts_in buffer pairs)) m
      (rw (read_refused (read_aag limited false model) (refusal_number m) e) refl) r h

  module _ (mc : AagCounts) (e : got mc ≡ counts_read (read_aag limited false model)) where
    accepted : (m : Sections) × (read_aag limited false model ≡ got m) × (mc ≡ counts_in m)
    accepted = read_got (read_aag limited false model) mc e

    is : ModelIs mc accepted.0
    is = record { counts = accepted.2; few = (counted_facts (counts_in accepted.0) (read_accepted limited false model accepted.0 accepted.1).limits).most }

    pub model-some : ModelSome mc
    model-some = record { m = accepted.0; is = is }

    pub model-composed : (out' : Bytes) (r : Result ℕ Refusal) → ComposesWitnesses mc buffer pairs work out out' r → Answers out (compose_texts (length work) (length out) model (texts_in buffer pairs)) out' r
    model-composed out' r h =
        answers-same out (compose_texts (length work) (length out) model (texts_in buffer pairs)) (and_then (read_all (texts_in buffer pairs)) (compose_read (length work) (length out) accepted.0)) out' r
        (rw accepted.1 refl) (h.each accepted.0 is)

-- ---- 1 and 2

module _ (work room : ℕ) (model buffer : Bytes) (pairs : List ℕ) (out : Bytes) (count : ℕ) (number : count ≡ length pairs / 2) where
  texts : length (texts_in buffer pairs) ≡ count
  texts = pairs-count (λ (o n : ℕ). part buffer o (o + n)) pairs ∙ sym number

  pub call_few : (count < 2) ⊎ ((2 ≤ count) × (64 < count)) → Answers out (compose_call work room model buffer pairs) out (Err refusal.WitnessCount)
  unfolding compose_call
  call_few (inl h) = refuses out (compose_call work room model buffer pairs) refusal.WitnessCount (rw (texts, lt-leb 2 count h) refl)
  call_few (inr h) = refuses out (compose_call work room model buffer pairs) refusal.WitnessCount (rw (texts, lt-leb count 64 h.1, and-false (leb 2 count)) refl)

  module _ (some : 2 ≤ count) (most : count ≤ 64) (b : Bool) (e : b ≡ in_order 0 (length buffer) pairs) where
    pub call_apart : not b ≡ true → Answers out (compose_call work room model buffer pairs) out (Err refusal.WitnessPairs)
    unfolding compose_call
    call_apart f = refuses out (compose_call work room model buffer pairs) refusal.WitnessPairs (rw (texts, le-leb 2 count some, le-leb count 64 most, sym e ∙ not-true b f) refl)

    module _ (t : not b ≡ false) where
      pub call_composed : (out' : Bytes) (r : Result ℕ Refusal) → Answers out (compose_texts work room model (texts_in buffer pairs)) out' r → Answers out (compose_call work room model buffer pairs) out' r
      unfolding compose_call
      call_composed out' r h =
          answers-same out (compose_call work room model buffer pairs) (compose_texts work room model (texts_in buffer pairs)) out' r
          (rw (texts, le-leb 2 count some, le-leb count 64 most, sym e ∙ not-false b t) refl) h

-- ---- the promise

module _ (model buffer : Bytes) (pairs work : List ℕ) (out out' : Bytes) (r : Result ℕ Refusal) (h : Answers out (compose_call (length work) (length out) model buffer pairs) out' r) where
  means : (answer : Answer Bytes) → compose_call (length work) (length out) model buffer pairs ≡ answer → (n : ℕ) → r ≡ Ok n → Composition model (texts_in buffer pairs) (take n out')
  means answer e n f = go answer e (sym (ap answered f) ∙ (h.returns ∙ ap composed_answer e))
    where
      go : (answer : Answer Bytes) → compose_call (length work) (length out) model buffer pairs ≡ answer → got n ≡ composed_answer answer → Composition model (texts_in buffer pairs) (take n out')
      go (got text) e g =
          let long : n ≡ length text = got_same n (length text) g in
          let there : take n out' ≡ text = ap (take n) (h.result ∙ ap (result_bytes out) e) ∙ take_at text _ n (sym long) in
          subst (Composition model (texts_in buffer pairs)) (sym there) (composition-means (length work) (length out) model buffer pairs text e)
      go (refused k) e g = let g : refused k ≡ got n = sym g in got-refused g refl

  pub promised : (mid work' : List ℕ) → length mid ≡ length work → work' ≡ zeros (length mid) → Composes model buffer pairs work out work' out' r
  promised mid work' e z = record { returns = h.returns; result = h.result; zero = z ∙ ap zeros e; means = means (compose_call (length work) (length out) model buffer pairs) refl }
