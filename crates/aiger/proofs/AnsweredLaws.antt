-- What `?` hands on, and which result an answer is of.
use Rattle.std.specs.Prelude.{◌≡◌, Result, Ok, Err}
use Rattle.std.specs.Result.{IsErrAnd}
use Rattle.std.proofs.Common.{refl, ap}
use Rattle.lists.specs.Answer.{got, refused}
use Rattle.lists.proofs.AnswerLaws.{got_same, got-refused}
use Rattle.aiger.specs.declared.Refusal.{Refusal}
use Rattle.aiger.specs.Refusals.{refusal_number, answered, answered_as}

module _ (m : Refusal) where
  pub answered-err : {A : Type 0} (r : Result A Refusal) → IsErrAnd r (λ k. k ≡ m) → answered r ≡ refused (refusal_number m)
  answered-err (Ok x) h = absurd h
  answered-err (Err k) h = rw h refl

  pub answered_as-err : {A B : Type 0} (f : A → B) (r : Result A Refusal) → IsErrAnd r (λ k. k ≡ m) → answered_as f r ≡ refused (refusal_number m)
  answered_as-err f (Ok x) h = absurd h
  answered_as-err f (Err k) h = rw h refl

pub answered-got : {A : Type 0} (r : Result A Refusal) (x : A) → answered r ≡ got x → r ≡ Ok x
answered-got (Ok y) x e = ap Ok (got_same y x e)
answered-got (Err k) x e = got-refused e refl
