-- Worked examples of the definitions.
use Prim.Native.Nat.{ℕ}
use mathlib.Core.Path.{◌≡◌, refl}
use mathlib.Core.Bool.{true, false}
use mathlib.Core.List.{[], ◌∷◌}
use Rattle.lists.specs.Answer.{Answer, got, refused, unless, and_then}
use Rattle.lists.specs.Parts.{part, put, front}
use Rattle.lists.specs.Words.{pairs_of, triples_of}
use Rattle.lists.specs.Bits.{bits, packed}
use Rattle.lists.specs.Sets.{distinct, rising, holds, with_bit}

-- first one wins: 3 before 4, and 4 where 3 does not apply
abbrev pub tried : (three four : Answer ℕ) → Answer ℕ
tried three four = and_then three (λ n. four)

pub first_wins : tried (unless 3 false (got 7)) (unless 4 false (got 8)) ≡ refused 3
first_wins = refl

pub second_applies : tried (unless 3 true (got 7)) (unless 4 false (got 8)) ≡ refused 4
second_applies = refl

pub none_applies : tried (unless 3 true (got 7)) (unless 4 true (got 8)) ≡ got 8
none_applies = refl

-- places count from 0, and the end is not included
pub middle : part {A = ℕ} (5 ∷ 6 ∷ 7 ∷ 8 ∷ []) 1 3 ≡ 6 ∷ 7 ∷ []
middle = refl

pub put_middle : put {A = ℕ} (5 ∷ 6 ∷ 7 ∷ 8 ∷ []) 1 (1 ∷ 2 ∷ []) ≡ 5 ∷ 1 ∷ 2 ∷ 8 ∷ []
put_middle = refl

pub past_kept : front {A = ℕ} (5 ∷ 6 ∷ 7 ∷ []) (1 ∷ []) ≡ 1 ∷ 6 ∷ 7 ∷ []
past_kept = refl

-- half a pair, and a third of a triple, are not read
pub half_pair : pairs_of (λ (a n : ℕ). a ∷ n ∷ []) (1 ∷ 2 ∷ 3 ∷ []) ≡ (1 ∷ 2 ∷ []) ∷ []
half_pair = refl

pub part_triple : triples_of (λ (a b c : ℕ). a ∷ b ∷ c ∷ []) (1 ∷ 2 ∷ 3 ∷ 4 ∷ 5 ∷ []) ≡ (1 ∷ 2 ∷ 3 ∷ []) ∷ []
part_triple = refl

-- the lowest bit is the first: 6 is 2 + 4
pub six : bits 4 6 ≡ false ∷ true ∷ true ∷ false ∷ []
six = refl

pub six_packed : packed (false ∷ true ∷ true ∷ false ∷ []) ≡ 6
six_packed = refl

pub twice : distinct (3 ∷ 1 ∷ 3 ∷ []) ≡ false
twice = refl

pub once : distinct (3 ∷ 1 ∷ 2 ∷ []) ≡ true
once = refl

-- strictly: an equal neighbour does not rise
pub rises : (rising [] ≡ true) × (rising (3 ∷ []) ≡ true) × (rising (0 ∷ 3 ∷ 7 ∷ []) ≡ true) × (rising (0 ∷ 3 ∷ 3 ∷ []) ≡ false) × (rising (3 ∷ 0 ∷ 7 ∷ []) ≡ false)
rises = (refl, refl, refl, refl, refl)

-- bit 64 is the lowest of the second word
pub second_word : with_bit (0 ∷ 0 ∷ []) 64 ≡ 0 ∷ 1 ∷ []
unfolding with_bit
second_word = refl

pub second-word-held : holds (0 ∷ 1 ∷ []) 64 ≡ true
unfolding holds
second-word-held = refl

pub first-word-free : holds (0 ∷ 1 ∷ []) 0 ≡ false
unfolding holds
first-word-free = refl
