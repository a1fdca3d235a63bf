-- The order and the repeats of a clause's literals do not matter; nor do false constants that fill it up.
use Prim.Native.Nat.{ℕ}
use mathlib.Core.Path.{◌≡◌, sym, ◌∙◌}
use mathlib.Core.Bool.{not, ◌&&◌}
use mathlib.Core.List.{List, map}
use lib.Dec.{eqb}
use Rattle.lists.specs.Tests.{any}
use Rattle.lists.specs.Sets.{member}
use Rattle.lists.proofs.TestLaws.{any_cong, any-map}
use Rattle.lists.proofs.SetLaws.{set_same}
use Rattle.lists.proofs.AnyLaws.{member-any, any_same}
use Rattle.cnf.specs.Simplified.{opposite, cnf_word, without_false, both_signs, dropped, simplified}
use Rattle.cnf.proofs.SignLaws.{both-any, any_without}

module _ (xs ys : List ℕ) (same : (x : ℕ) → member x xs ≡ member x ys) where
  both_members : both_signs xs ≡ both_signs ys
  both_members =
      both-any xs
      ∙ any_cong (λ x. member (opposite x) xs) (λ x. member (opposite x) ys) (λ x. same (opposite x)) xs
      ∙ any_same (λ x. member (opposite x) ys) xs ys same
      ∙ sym (both-any ys)

  word_members : (w : ℕ) → member w (map cnf_word (without_false xs)) ≡ member w (map cnf_word (without_false ys))
  word_members w = to xs ∙ any_same (λ l. not (eqb l 0) && eqb w (cnf_word l)) xs ys same ∙ sym (to ys)
    where
      to : (l : List ℕ) → member w (map cnf_word (without_false l)) ≡ any (λ l. not (eqb l 0) && eqb w (cnf_word l)) l
      to l =
          member-any w (map cnf_word (without_false l))
          ∙ any-map cnf_word (eqb w) (without_false l)
          ∙ any_without (λ x. eqb w (cnf_word x)) l

  pub simplified_members : simplified xs ≡ simplified ys
  unfolding simplified dropped
  simplified_members =
      rw (same 1, both_members, set_same (map cnf_word (without_false xs)) (map cnf_word (without_false ys)) word_members)
