-- For the contracts of the composer's inner functions: what each of them answers.
use Rattle.std.specs.Prelude.{ℕ, Option, Some, None, ◌-◌, ◌/◌, ◌≤◌, Bool, true, cond, List, ◌≡◌, ltb, length, Result}
use Rattle.lists.specs.Answer.{Answer, and_then}
use Rattle.lists.specs.Parts.{Bytes}
use Rattle.lists.specs.Tests.{all}
use Rattle.aiger.specs.declared.Refusal.{Refusal}
use Rattle.aiger.specs.Refusals.{answered}
use Rattle.witness_text.specs.declared.AagCounts.{AagCounts}
use Rattle.witness_read.specs.Sections.{Sections, variables}
use Rattle.witness_read.specs.Reading.{counts_in}
use Rattle.compose_spec.specs.Composing.{is_some, safety, maps_right, composed}
use Rattle.compose_spec.specs.Printing.{printed}
use Rattle.compose_spec.specs.Calling.{read_all, compose_sections, texts_in, compose_read, printed_within}
use Rattle.compose_gather.specs.declared.Totals.{Totals}
use Rattle.compose_gather.specs.Inner.Gathered.{Readable}
use Rattle.compose_layout.specs.declared.Layout.{Layout}
use Rattle.compose_layout.specs.Inner.Laid.{Fitting, Ready, OfSome}
use Rattle.text_print.specs.Inner.Prints.{capped}
use Rattle.compose.specs.Promise.{composed_answer, result_bytes}

-- how many units of 16 words there are behind the first 1,024
abbrev pub first_room : ℕ → Option ℕ
first_room words = cond (ltb words 1024) None (Some ((words - 1024) / 16))

-- an answer and the result bytes with it
pub record Answers (out : Bytes) (answer : Answer Bytes) (out' : Bytes) (r : Result ℕ Refusal) : Type 0 where
  pub returns : answered r ≡ composed_answer answer
  pub result : out' ≡ result_bytes out answer

-- 19 does not apply
abbrev pub all_safe : List Sections → Bool
all_safe ws = all (λ s. is_some (safety s)) ws

abbrev pub TestsSafety : Bytes → List ℕ → Bool → Type 0
TestsSafety buffer pairs r = (ws : List Sections) → Readable buffer pairs ws → r ≡ all_safe ws

-- ---- from the call down

-- a model with these counts is read
pub record ModelIs (mc : AagCounts) (m : Sections) : Type 0 where
  pub counts : mc ≡ counts_in m
  pub few : variables m ≤ 2000000

pub record ModelSome (mc : AagCounts) : Type 0 where
  pub m : Sections
  pub is : ModelIs mc m

-- 3 to 11 of the witnesses, and 15 to 20
pub record ComposesWitnesses (mc : AagCounts) (buffer : Bytes) (pairs work : List ℕ) (out out' : Bytes) (r : Result ℕ Refusal) : Type 0 where
  pub each : (m : Sections) → ModelIs mc m → Answers out (and_then (read_all (texts_in buffer pairs)) (compose_read (length work) (length out) m)) out' r

-- 16 to 20
pub record ComposesFitting (mc : AagCounts) (t : Totals) (buffer : Bytes) (pairs work : List ℕ) (out out' : Bytes) (r : Result ℕ Refusal) : Type 0 where
  pub each : (m : Sections) (ws : List Sections) → Fitting mc t buffer pairs work m ws → Answers out (compose_sections (length out) m ws) out' r

-- all is laid out, and 16 does not apply
pub record LaidRight (mc : AagCounts) (t : Totals) (buffer : Bytes) (pairs work : List ℕ) (at : Layout) (m : Sections) (ws : List Sections) : Type 0 where
  pub fitting : Fitting mc t buffer pairs work m ws
  pub right : all (maps_right m) ws ≡ true
  pub ready : Ready buffer pairs m ws at work

abbrev pub LaidSome : AagCounts → Totals → Bytes → List ℕ → List ℕ → Layout → Type 0
LaidSome mc t buffer pairs work at = OfSome (LaidRight mc t buffer pairs work at)

-- the length of the text is counted, and nothing is written
pub record Measures (Holds : Sections → List Sections → Type 0) (out out' : Bytes) (r : ℕ) : Type 0 where
  pub same : out' ≡ out
  pub size : (m : Sections) (ws : List Sections) → Holds m ws → r ≡ capped (length (printed (composed m ws)))

-- 20 of a composition that is merged
pub record Writes (Holds : Sections → List Sections → Type 0) (out out' : Bytes) (r : Result ℕ Refusal) : Type 0 where
  pub each : (m : Sections) (ws : List Sections) → Holds m ws → Answers out (printed_within (length out) (composed m ws)) out' r

-- 17 to 20
pub record ComposesLaid (mc : AagCounts) (t : Totals) (buffer : Bytes) (pairs work : List ℕ) (at : Layout) (out out' : Bytes) (r : Result ℕ Refusal) : Type 0 where
  pub each : (m : Sections) (ws : List Sections) → LaidRight mc t buffer pairs work at m ws → Answers out (compose_sections (length out) m ws) out' r
