-- Which of R9's numbers each call can answer. 0 is none of them, so that reason 0 says that the call accepted.
use Rattle.std.specs.Prelude.{ℕ, true, List, [], ◌∷◌, ◌≡◌, eqb}
use Rattle.lists.specs.Answer.{Answer, refused}
use Rattle.lists.specs.Tests.{any}

-- the transition reader
abbrev pub read_reasons : List ℕ
read_reasons = 3 ∷ 4 ∷ 5 ∷ 7 ∷ 8 ∷ 11 ∷ []

-- the step
abbrev pub step_reasons : List ℕ
step_reasons = 7 ∷ 11 ∷ 12 ∷ []

-- the obligations
abbrev pub made_reasons : List ℕ
made_reasons = 7 ∷ 11 ∷ 13 ∷ 14 ∷ 20 ∷ []

-- the witness reader
abbrev pub witness_reasons : List ℕ
witness_reasons = 3 ∷ 4 ∷ 5 ∷ 6 ∷ 8 ∷ 9 ∷ 10 ∷ 11 ∷ []

-- the composer
abbrev pub compose_reasons : List ℕ
compose_reasons = 1 ∷ 2 ∷ 3 ∷ 4 ∷ 5 ∷ 6 ∷ 8 ∷ 9 ∷ 10 ∷ 11 ∷ 15 ∷ 16 ∷ 17 ∷ 18 ∷ 19 ∷ 20 ∷ []

-- a refusal has one of these numbers
pub record Among {A : Type 0} (reasons : List ℕ) (a : Answer A) : Type 0 where
  pub numbered : (n : ℕ) → a ≡ refused n → any (eqb n) reasons ≡ true
