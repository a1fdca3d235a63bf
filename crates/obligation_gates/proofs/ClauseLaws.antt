-- Laws for the loop over a predicate's pairs: each cuts a clause from the words, and its clause is appended.
use Prim.Native.Nat.{ℕ, zero, suc, ◌+◌, ◌-◌, ◌*◌, ◌/◌, ◌≤◌, ◌<◌}
use mathlib.Core.Bool.{true, ◌&&◌}
use mathlib.Core.List.{List, [], ◌∷◌, map}
use mathlib.Core.Path.{◌≡◌, refl, ap, ◌∙◌}
use native.Mathlib.Omega.{arith}
use borrow.Author.Tests.{ltb-true, leb-true}
use lib.Dec.{leb, ltb}
use lib.ListN.{length, get_or, take, drop, length-map, length-take}
use Rattle.lists.specs.Parts.{part}
use Rattle.lists.specs.Tests.{all}
use Rattle.lists.specs.Words.{in_order, lengths}
use Rattle.lists.proofs.BoolLaws.{and_left, and_right}
use Rattle.lists.proofs.MapLaws.{map_at}
use Rattle.lists.proofs.TestLaws.{all-at, each_of_all, each-so}
use Rattle.lists.proofs.WordLaws.{pairs-count, pairs-at, twice}
use Rattle.cnf.specs.declared.Clauses.{Clauses}
use Rattle.cnf.specs.Clauses.{clauses_in}
use Rattle.cnf.specs.Inner.Appending.{Appends, Space}
use Rattle.cnf.proofs.AppendLaws.{appends-none, appends-next, appends-end, space-next}
use Rattle.obligation_spec.specs.Lists.{predicate_literal}
use Rattle.obligation_check.specs.Inner.Boundary.{indexes}
use Rattle.obligation_gates.specs.Inner.Encoding.{Clausal, BoundedBy}

-- ---- pairs by their index

twice_one : (i : ℕ) → suc (suc (2 * i)) + 1 ≡ suc (suc (2 * i + 1))
twice_one i = omega arith

-- each pair of pairs in order ends inside the buffer
pub order-at : (end size : ℕ) (ws : List ℕ) (i : ℕ) → in_order end size ws ≡ true → i < length ws / 2 → get_or ws (2 * i) 0 + get_or ws (2 * i + 1) 0 ≤ size
order-at end size [] i e h = absurd (omega arith)
order-at end size (x ∷ []) i e h = absurd (omega arith)
order-at end size (x ∷ y ∷ ws) zero e h =
    leb-true (x + y) size (and_left (leb (x + y) size) (in_order (x + y) size ws) (and_right (leb end x) (leb (x + y) size && in_order (x + y) size ws) e))
order-at end size (x ∷ y ∷ ws) (suc i) e h =
    rw (twice i, twice_one i)
    (order-at (x + y) size ws i
    (and_right (leb (x + y) size) (in_order (x + y) size ws) (and_right (leb end x) (leb (x + y) size && in_order (x + y) size ws) e))
    (omega arith))

-- each length is part of the sum
pub lengths-at : (ws : List ℕ) (i : ℕ) → i < length ws / 2 → get_or ws (2 * i + 1) 0 ≤ lengths ws
lengths-at [] i h = absurd (omega arith)
lengths-at (x ∷ []) i h = absurd (omega arith)
lengths-at (x ∷ y ∷ ws) zero h = omega arith
lengths-at (x ∷ y ∷ ws) (suc i) h = rw (twice i, twice_one i) (omega (arith, lengths-at ws i (omega arith)))

-- ---- the loop

module _ (inputs relevant pairs words : List ℕ) where
  -- the lists of literals of the predicate's clauses
  abbrev pub clause_lists : List (List ℕ)
  clause_lists = map (map (predicate_literal inputs relevant)) (clauses_in words pairs)

  pub lists-count : length clause_lists ≡ length pairs / 2
  lists-count = length-map (clauses_in words pairs) (map (predicate_literal inputs relevant)) ∙ pairs-count (λ offset size. take size (drop offset words)) pairs

  -- no pair: no clause
  pub clauses-none : length pairs < 2 → (p : Clauses) → Appends clause_lists p p
  clauses-none h p = appends-end clause_lists 0 p p p (omega (arith, lists-count)) (appends-none p)

  -- the pair at i has this offset and this length
  module _ (i start size : ℕ) (h : i < length pairs / 2) (first : start ≡ get_or pairs (2 * i) 0) (second : size ≡ get_or pairs (2 * i + 1) 0) where
    clause-is : get_or (clauses_in words pairs) i [] ≡ part words start (start + size)
    clause-is =
        let n : start + size - start ≡ size = omega arith in
        pairs-at (λ offset size. take size (drop offset words)) pairs i 0 [] (omega arith) ∙ rw (n, first, second) refl

    list_is : get_or clause_lists i [] ≡ map (predicate_literal inputs relevant) (part words start (start + size))
    list_is =
        map_at (map (predicate_literal inputs relevant)) (clauses_in words pairs) i [] []
        (rw (pairs-count (λ offset size. take size (drop offset words)) pairs) h)
        ∙ ap (map (predicate_literal inputs relevant)) clause-is

    module _ (b : BoundedBy inputs relevant pairs words) where
      pub clause-inside : start + size ≤ length words
      clause-inside =
          rw (first, second)
          (order-at 0 (length words) pairs i
          (and_left (in_order 0 (length words) pairs) (all (indexes (length relevant)) (clauses_in words pairs)) b.holds)
          h)

      pub clause-short : length (part words start (start + size)) ≤ 1024
      clause-short =
          let k : size ≤ lengths pairs = rw second (lengths-at pairs i h) in
          omega (arith, length-take (start + size - start) (drop start words), b.few)

      clause-indexes : indexes (length relevant) (part words start (start + size)) ≡ true
      clause-indexes =
          rw (← clause-is)
          (all-at (indexes (length relevant)) (clauses_in words pairs) i []
          (and_right (in_order 0 (length words) pairs) (all (indexes (length relevant)) (clauses_in words pairs)) b.holds)
          (rw (pairs-count (λ offset size. take size (drop offset words)) pairs) h))

      pub clause-clausal : Clausal inputs relevant (part words start (start + size))
      clause-clausal =
          record {
            low = b.low;
            variables = b.variables;
            among = b.among;
            most = b.most;
            indexed =
                each-so (λ w. ltb (w / 2) (length relevant) ≡ true) (λ w. w / 2 < length relevant) (λ w t. ltb-true (w / 2) (length relevant) t)
                (part words start (start + size))
                (each_of_all (λ w. ltb (w / 2) (length relevant)) (part words start (start + size)) clause-indexes);
          }

    module _ (p q : Clauses) (g : Appends (take i clause_lists) p q) where
      pub clause-space : Space p.counts (length pairs / 2) → Space q.counts 1
      clause-space s = space-next clause_lists i p q (rw lists-count h) g (rw lists-count s)

      pub clause-next : (r : Clauses) → Appends (map (predicate_literal inputs relevant) (part words start (start + size)) ∷ []) q r → Appends (take (i + 1) clause_lists) p r
      clause-next r k = appends-next clause_lists i p q r [] (rw lists-count h) g (rw list_is k)

  pub clauses-end : (i : ℕ) (p q : Clauses) → length pairs / 2 ≤ i → Appends (take i clause_lists) p q → Appends clause_lists p q
  clauses-end i p q h g = appends-end clause_lists i p q q (rw lists-count h) g
