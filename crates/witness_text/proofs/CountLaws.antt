-- The limits on the counts of a header, one by one.
use Prim.Native.Nat.{ℕ, ◌+◌, ◌-◌, ◌≤◌, ◌<◌}
use mathlib.Core.Bool.{Bool, true, false}
use mathlib.Core.Path.{◌≡◌, refl, sym}
use native.Mathlib.Omega.{arith}
use lib.Dec.{eqb}
use borrow.Author.Tests.{leb-true, le-leb, eqb-true, eqb-false, eq-eqb, ne_eqb}
use Rattle.lists.proofs.TestLaws.{every_facts, every_holds, every_fails}
use Rattle.text.specs.Texts.{Limits, limited}
use Rattle.witness_text.specs.declared.AagCounts.{AagCounts}
use Rattle.witness_text.specs.Header.{counted, without_liveness}

module _ (n : AagCounts) where
  -- R4.4: the limits as numbers
  pub record Counted : Type 0 where
    pub sum : n.max_variable ≡ n.inputs + n.latches + n.gates
    pub most : n.max_variable ≤ 2000000

  pub counted_facts : counted limited n ≡ true → Counted
  unfolding counted
  counted_facts h =
      let k = every_facts _ h in
      record {
        sum = eqb-true n.max_variable (n.inputs + n.latches + n.gates) k.0;
        most = leb-true n.max_variable 2000000 k.1.0;
      }

  -- the sum, with or without limits
  pub counted_sum : (lim : Limits) → counted lim n ≡ true → n.max_variable ≡ n.inputs + n.latches + n.gates
  unfolding counted
  counted_sum lim h = eqb-true n.max_variable (n.inputs + n.latches + n.gates) (every_facts _ h).0

  pub counted-holds : Counted → counted limited n ≡ true
  unfolding counted
  counted-holds k = every_holds _ (eq-eqb n.max_variable (n.inputs + n.latches + n.gates) k.sum, (le-leb n.max_variable 2000000 k.most, tt))

  pub counted_fails : (Counted → ⊥) → counted limited n ≡ false
  counted_fails h = go (counted limited n) refl
    where
      go : (b : Bool) → counted limited n ≡ b → counted limited n ≡ false
      go true e = absurd (h (counted_facts e))
      go false e = e

  -- what is left to test after M, I and L
  pub counted-rest : n.max_variable ≤ 2000000 → n.inputs ≤ n.max_variable → n.latches ≤ n.max_variable - n.inputs
      → eqb (n.max_variable - n.inputs - n.latches) n.gates ≡ counted limited n
  counted-rest m i l = go (eqb (n.max_variable - n.inputs - n.latches) n.gates) refl
    where
      go : (t : Bool) → eqb (n.max_variable - n.inputs - n.latches) n.gates ≡ t → t ≡ counted limited n
      go true e = let g = eqb-true (n.max_variable - n.inputs - n.latches) n.gates e in sym (counted-holds (record { sum = omega arith; most = m }))
      go false e = let g = eqb-false (n.max_variable - n.inputs - n.latches) n.gates e in sym (counted_fails (λ k. g (omega (arith, k.sum))))

  -- J and F
  pub liveness_justice : (n.justice ≡ 0 → ⊥) → false ≡ without_liveness n
  unfolding without_liveness
  liveness_justice h = sym (every_fails _ 0 (ne_eqb n.justice 0 h))

  pub liveness_fairness : n.justice ≡ 0 → eqb n.fairness 0 ≡ without_liveness n
  unfolding without_liveness
  liveness_fairness h = go (eqb n.fairness 0) refl
    where
      go : (t : Bool) → eqb n.fairness 0 ≡ t → t ≡ without_liveness n
      go true e = sym (every_holds _ (eq-eqb n.justice 0 h, (e, tt)))
      go false e = sym (every_fails _ 1 e)

  -- where there is no liveness, both are 0
  pub record NoLiveness : Type 0 where
    pub justice : ◌≡◌ {A = ℕ} n.justice 0
    pub fairness : ◌≡◌ {A = ℕ} n.fairness 0

  pub liveness_facts : without_liveness n ≡ true → NoLiveness
  unfolding without_liveness
  liveness_facts h = let k = every_facts _ h in record { justice = eqb-true n.justice 0 k.0; fairness = eqb-true n.fairness 0 k.1.0 }

-- what the counts allow
module _ (n : AagCounts) (h : counted limited n ≡ true) where
  pub counts-inputs : n.inputs ≤ 2000000
  counts-inputs = let k = counted_facts n h in omega (arith, k.sum, k.most)

  pub counts-leaves : n.inputs + n.latches ≤ 2000000
  counts-leaves = let k = counted_facts n h in omega (arith, k.sum, k.most)

  -- the sum fits in a word
  pub counts_fit : n.inputs + n.latches < 18446744073709551616
  counts_fit = omega (arith, counts-leaves)

  pub counts-gates : n.inputs + n.latches + n.gates ≤ 2000000
  counts-gates = let k = counted_facts n h in omega (arith, k.sum, k.most)

  pub counts-most : (m : ℕ) → m ≡ n.max_variable → m ≤ 2000000
  counts-most m e = let k = counted_facts n h in omega (arith, k.most)
