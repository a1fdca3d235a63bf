-- Steps of a model that was read: an accepted text never gives 11.
use Prim.Native.Nat.{ℕ, ◌^◌}
use mathlib.Core.Bool.{Bool, true, false}
use mathlib.Core.List.{List}
use mathlib.Core.Path.{◌≡◌, sym, ap, ◌∙◌}
use native.Mathlib.Omega.{arith}
use lib.Dec.{ltb}
use lib.ListN.{length}
use Rattle.lists.specs.Answer.{got, refused, unless}
use Rattle.lists.specs.Parts.{Bytes}
use Rattle.lists.proofs.AnswerLaws.{unless_then}
use Rattle.model.specs.Circuit.{Circuit, record_of}
use Rattle.model_read.specs.Reading.{read_transition, gates_after}
use Rattle.model.specs.declared.AigerTransition.{AigerTransition}
use Rattle.model.specs.RecordWords.{record_in, words_in}
use Rattle.model_read.proofs.ValidLaws.{read_valid, read_words}
use Rattle.model_step.specs.declared.Outcome.{Outcome}
use Rattle.model_step.specs.Step.{step_values, outcome_under, step_of}

-- an answer of three tests is none of the numbers but theirs
never : (a b c : Bool) (o : Outcome) → unless 7 a (unless 12 b (unless 12 c (got o))) ≡ refused 11 → ⊥
never true true true o e = let z : ◌≡◌ {A = ℕ} 0 1 = cc in omega arith
never true true false o e = let z : ◌≡◌ {A = ℕ} 12 11 = cc in omega arith
never true false c o e = let z : ◌≡◌ {A = ℕ} 12 11 = cc in omega arith
never false b c o e = let z : ◌≡◌ {A = ℕ} 7 11 = cc in omega arith

module _ (t : Bytes) (g : List ℕ) (w : ℕ) (c : Circuit) (e : read_transition t (length g) w ≡ got c) (w' s x : ℕ) where
  -- the record and the gate words that were read, stepped with w' work words
  pub read_steps : step_of (record_of c) (gates_after (got c) g) w' s x
      ≡ unless 7 (ltb c.variables w') (unless 12 (ltb s (2 ^ length c.latches)) (unless 12 (ltb x (2 ^ length c.inputs)) (got (outcome_under c (step_values c s x)))))
  unfolding step_of
  read_steps =
      rw (read_valid t g w c e w')
      (unless_then 7 (ltb c.variables w') c (λ d. unless 12 (ltb s (2 ^ length d.latches)) (unless 12 (ltb x (2 ^ length d.inputs)) (got (outcome_under d (step_values d s x))))))

  -- the same with the record lent as the words of its memory
  pub words_step : step_of (record_in (words_in (record_of c))) (gates_after (got c) g) w' s x ≡ step_of (record_of c) (gates_after (got c) g) w' s x
  words_step = ap (λ (m : AigerTransition). step_of m (gates_after (got c) g) w' s x) (read_words t g w c e)

  pub never_11 : step_of (record_of c) (gates_after (got c) g) w' s x ≡ refused 11 → ⊥
  never_11 k =
      never (ltb c.variables w') (ltb s (2 ^ length c.latches)) (ltb x (2 ^ length c.inputs)) (outcome_under c (step_values c s x))
      (sym read_steps ∙ k)
