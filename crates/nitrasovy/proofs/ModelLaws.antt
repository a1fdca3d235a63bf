-- The reader's and the step's promises, of flat answers; a record that is lent as its words.
use Prim.Native.Nat.{ℕ}
use mathlib.Core.List.{List}
use Rattle.std.specs.Prelude.{Result, Ok, Err}
use mathlib.Core.Path.{◌≡◌, refl, ap, ◌∙◌}
use native.Mathlib.Omega.{arith}
use lib.ListN.{length}
use Rattle.lists.specs.Answer.{Answer, got, refused}
use Rattle.lists.specs.Parts.{Bytes, zeros}
use Rattle.aiger.specs.declared.Refusal.{Refusal}
use Rattle.aiger.specs.Refusals.{refusal_number, answered}
use Rattle.model.specs.declared.AigerTransition.{AigerTransition}
use Rattle.model.specs.declared.lent.LentModel.{LentModel}
use Rattle.model.specs.Inner.Lent.{lent_record}
use Rattle.model.specs.Circuit.{Circuit, record_of, no_circuit}
use Rattle.model.specs.RecordWords.{record_in}
use Rattle.model_read.specs.Reading.{read_transition, read_of, Reads}
use Rattle.model_step.specs.declared.Outcome.{Outcome}
use Rattle.model_step.specs.Step.{step_of}
use Rattle.nitrasovy.specs.declared.models.NitRead.{NitRead}
use Rattle.nitrasovy.specs.declared.models.NitStepped.{NitStepped}
use Rattle.nitrasovy.specs.FlatModels.{flat_read, flat_step, ReadsFlat, StepsFlat}
use Rattle.nitrasovy.proofs.CallReasons.{read_among, step-among}

-- ---- the reader

-- the record, or the number and a record of zeros, are the flat answer
flat_got : (a : Answer Circuit) (m : AigerTransition) → got m ≡ read_of a → ◌≡◌ {A = NitRead} (record { reason = 0; model = m }) (flat_read a)
flat_got (got c) m e = let q : m ≡ record_of c = cc in rw q refl
flat_got (refused n) m e = absurd (let z : ◌≡◌ {A = ℕ} 0 1 = cc in omega arith)

flat_refused : (a : Answer Circuit) (k : ℕ) → refused k ≡ read_of a → ◌≡◌ {A = NitRead} (record { reason = k; model = record_of no_circuit }) (flat_read a)
flat_refused (got c) k e = absurd (let z : ◌≡◌ {A = ℕ} 0 1 = cc in omega arith)
flat_refused (refused n) k e = let q : k ≡ n = cc in rw q refl

module _ (t : Bytes) (gates work : List ℕ) (x : Result AigerTransition Refusal) (gates' work' : List ℕ) (h : Reads (read_transition t (length gates) (length work)) gates (length work) x gates' work') where
  abbrev answer : Answer Circuit
  answer = read_transition t (length gates) (length work)

  reads : (r : NitRead) → r ≡ flat_read answer → ReadsFlat answer gates work r gates' work'
  reads r e = record { returns = e; numbered = read_among t (length gates) (length work); writes = h.writes; clears = h.clears }

  pub reads_got : (m : AigerTransition) → x ≡ Ok m → ReadsFlat answer gates work (record { reason = 0; model = m }) gates' work'
  reads_got m e = let k : got m ≡ read_of answer = rw e at h.returns in reads _ (flat_got answer m k)

  pub reads_refused : (n : Refusal) → x ≡ Err n → (k : ℕ) → k ≡ refusal_number n → (m : AigerTransition) → m ≡ record_of no_circuit → ReadsFlat answer gates work (record { reason = k; model = m }) gates' work'
  reads_refused n e k q m z = let f : refused (refusal_number n) ≡ read_of answer = rw e at h.returns in reads _ (rw (q, z) (flat_refused answer (refusal_number n) f))

-- ---- the step

pub steps_flat : (m : AigerTransition) (g work : List ℕ) (s x : ℕ) (e : Result Outcome Refusal) → answered e ≡ step_of m g (length work) s x → (work' : List ℕ) → work' ≡ zeros (length work)
    → (r : NitStepped) → r ≡ flat_step (answered e) → StepsFlat (step_of m g (length work) s x) work r work'
steps_flat m g work s x e k work' z r q = record { returns = q ∙ ap flat_step k; numbered = step-among m g (length work) s x; clears = z }

pub words_stepped : (ws g work : List ℕ) (l : LentModel) → lent_record l ≡ record_in ws → (s x : ℕ) (e : Result Outcome Refusal) → answered e ≡ step_of (lent_record l) g (length work) s x
    → (work' : List ℕ) → work' ≡ zeros (length work) → (r : NitStepped) → r ≡ flat_step (answered e) → StepsFlat (step_of (record_in ws) g (length work) s x) work r work'
words_stepped ws g work l h s x e k work' z r q = steps_flat (record_in ws) g work s x e (rw h at k) work' z r q
