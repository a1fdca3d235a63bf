-- Laws of `pairs_from` and `literals_of`, and: the clauses that stand in the buffers are the clauses.
use Prim.Native.Nat.{ℕ, ◌+◌, ◌*◌}
use mathlib.Core.Path.{◌≡◌, refl, ap, ◌∙◌}
use mathlib.Core.List.{List, [], ◌∷◌, ◌++◌, append_assoc, append-nil}
use native.Mathlib.Nat.{add-zero, add_assoc}
use native.Mathlib.Omega.{arith}
use lib.ListN.{length, take, drop, length-append}
use lib.Seq.{take_at, drop_at}
use Rattle.lists.specs.Parts.{front}
use Rattle.lists.proofs.WordLaws.{words_append}
use Rattle.cnf.specs.Clauses.{Clause, literals_of, pairs_from, clauses_in, returned}

pub pairs-length : (at : ℕ) (cs : List Clause) → length (pairs_from at cs) ≡ 2 * length cs
pairs-length at [] = refl
pairs-length at (c ∷ cs) = omega (arith, pairs-length (at + length c) cs)

pub literals_append : (cs ds : List Clause) → literals_of (cs ++ ds) ≡ literals_of cs ++ literals_of ds
literals_append cs ds = words_append (λ c. c) cs ds

pub literals-more : (cs : List Clause) (c : Clause) → literals_of (cs ++ c ∷ []) ≡ literals_of cs ++ c
literals-more cs c = literals_append cs (c ∷ []) ∙ rw (append-nil c)

pub pairs_append : (at : ℕ) (cs ds : List Clause) → pairs_from at (cs ++ ds) ≡ pairs_from at cs ++ pairs_from (at + length (literals_of cs)) ds
pairs_append at [] ds = rw (add-zero at)
pairs_append at (c ∷ cs) ds =
    rw (pairs_append (at + length c) cs ds, length-append c (literals_of cs), add_assoc at (length c) (length (literals_of cs)))

pub pairs-more : (cs : List Clause) (c : Clause) → pairs_from 0 (cs ++ c ∷ []) ≡ pairs_from 0 cs ++ length (literals_of cs) ∷ length c ∷ []
pairs-more cs c = let e : 0 + length (literals_of cs) ≡ length (literals_of cs) = omega arith in pairs_append 0 cs (c ∷ []) ∙ rw e

-- the pairs cut the clauses from their words, whatever stands before and behind these
cut : (before : List ℕ) (cs : List Clause) (behind : List ℕ) → clauses_in (before ++ (literals_of cs ++ behind)) (pairs_from (length before) cs) ≡ cs
cut before [] behind = refl
cut before (c ∷ cs) behind = first ∙ ap (λ (l : List Clause). c ∷ l) (rest ∙ cut (before ++ c) cs behind)
  where
    words : List ℕ
    words = before ++ ((c ++ literals_of cs) ++ behind)

    here : take (length c) (drop (length before) words) ≡ c
    here =
        rw (drop_at before ((c ++ literals_of cs) ++ behind) (length before) refl, append_assoc c (literals_of cs) behind)
        (take_at c (literals_of cs ++ behind) (length c) refl)

    first : clauses_in words (pairs_from (length before) (c ∷ cs)) ≡ c ∷ clauses_in words (pairs_from (length before + length c) cs)
    first = ap (λ (d : Clause). d ∷ clauses_in words (pairs_from (length before + length c) cs)) here

    moved : words ≡ (before ++ c) ++ (literals_of cs ++ behind)
    moved = simp append_assoc

    rest : clauses_in words (pairs_from (length before + length c) cs) ≡ clauses_in ((before ++ c) ++ (literals_of cs ++ behind)) (pairs_from (length (before ++ c)) cs)
    rest = rw (moved, length-append before c)

pub returned-back : (cs : List Clause) (pairs words : List ℕ) → returned (length cs) (front pairs (pairs_from 0 cs)) (front words (literals_of cs)) ≡ cs
returned-back cs pairs words =
    ap (clauses_in (front words (literals_of cs))) (take_at (pairs_from 0 cs) (drop (length (pairs_from 0 cs)) pairs) (2 * length cs) (pairs-length 0 cs))
    ∙ cut [] cs (drop (length (literals_of cs)) words)
