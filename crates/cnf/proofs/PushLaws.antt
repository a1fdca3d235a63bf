-- How the functions that append one clause meet `Pushes` and `Appends`: by its pair and its words, or by what it becomes.
use Prim.Native.Nat.{ℕ, ◌≤◌, ◌<◌, ◌^◌}
use mathlib.Core.Path.{◌≡◌, ◌∙◌}
use mathlib.Core.Bool.{Bool, true, false}
use mathlib.Core.List.{List, [], ◌∷◌}
use native.Mathlib.Omega.{arith}
use lib.ListN.{length}
use Rattle.lists.specs.Parts.{put}
use Rattle.cnf.specs.declared.Clauses.{Clauses}
use Rattle.cnf.specs.Clauses.{Clause}
use Rattle.cnf.specs.Simplified.{cnf_word, simplified}
use Rattle.cnf.specs.Inner.Appending.{SameBuffers, Appends, Pushes, Opens}
use Rattle.cnf.proofs.SignLaws.{word_number}
use Rattle.cnf.proofs.AppendLaws.{same_then, counted, appends_full, appends-stored}

pub word-narrow : (l : ℕ) → 2 ≤ l → l < 2 ^ 32 → cnf_word l < 2 ^ 32
word-narrow l h k = omega (arith, word_number l h)

-- ---- the pair and the words

module _ (c : Clause) (short : length c ≤ 1024) (p p₁ p' : Clauses) (r : Bool) (o : Opens (length c) p r p₁) (same : SameBuffers p₁ p') (counts : p'.counts ≡ counted p.counts (length c)) (pairs : p'.pairs.now ≡ p₁.pairs.now) where
  pub pushes_full : r ≡ false → p'.literals.now ≡ p₁.literals.now → Pushes c p p'
  pushes_full h w ls e = let f = o.when_full h in appends_full ls c e short p p' (same_then p p₁ p' o.same same) counts f.0 (pairs ∙ f.1) (w ∙ o.literals)

  pub pushes_stored : r ≡ true → p'.literals.now ≡ put p₁.literals.now p.counts.literals c → Pushes c p p'
  pushes_stored h w ls e = let f = o.when_open h in appends-stored ls c e short p p' (same_then p p₁ p' o.same same) counts f.0 f.1 (pairs ∙ f.2) (rw o.literals at w)

-- ---- a clause with other literals that becomes the same

pub appends-same : (ls ms : List ℕ) → simplified ls ≡ simplified ms → (p p' : Clauses) → Appends (ms ∷ []) p p' → Appends (ls ∷ []) p p'
appends-same ls ms same p p' g =
    record {
      same = g.same;
      holds = λ p₀ w₀ cs h. rw same (g.holds p₀ w₀ cs h);
      clauses = g.clauses;
      literals = g.literals;
    }

-- ---- a literal's word, as the code stores it

pub word_fits : (r l : ℕ) → r ≡ cnf_word l → 2 ≤ l → l < 2 ^ 32 → r < 2 ^ 32
word_fits r l e h k = rw e (word-narrow l h k)
