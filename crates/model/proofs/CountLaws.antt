-- The limits on counts, one by one.
use Prim.Native.Nat.{◌+◌, ◌≤◌}
use mathlib.Core.Bool.{Bool, true, false}
use mathlib.Core.Path.{◌≡◌, refl, sym}
use lib.Dec.{eqb}
use borrow.Author.Tests.{leb-true, le-leb, eqb-true, eqb-false, eq-eqb}
use Rattle.lists.proofs.TestLaws.{every_facts, every_holds}
use Rattle.model.specs.declared.Counts.{Counts}
use Rattle.model.specs.Limits.{counted}

module _ (n : Counts) where
  -- R5.3: the limits as numbers
  pub record Counted : Type 0 where
    pub inputs : n.inputs ≤ 64
    pub some : 1 ≤ n.latches
    pub latches : n.latches ≤ 8
    pub outputs : n.outputs ≤ 128
    pub sum : n.max_variable ≡ n.inputs + n.latches + n.ands
    pub least : 1 ≤ n.max_variable
    pub most : n.max_variable ≤ 1000000

  pub counted_facts : counted n ≡ true → Counted
  unfolding counted
  counted_facts h =
      let k = every_facts _ h in
      record {
        inputs = leb-true n.inputs 64 k.0;
        some = leb-true 1 n.latches k.1.0;
        latches = leb-true n.latches 8 k.1.1.0;
        outputs = leb-true n.outputs 128 k.1.1.1.0;
        sum = eqb-true n.max_variable (n.inputs + n.latches + n.ands) k.1.1.1.1.0;
        least = leb-true 1 n.max_variable k.1.1.1.1.1.0;
        most = leb-true n.max_variable 1000000 k.1.1.1.1.1.1.0;
      }

  pub counted_fails : (Counted → ⊥) → counted n ≡ false
  counted_fails h = go (counted n) refl
    where
      go : (b : Bool) → counted n ≡ b → counted n ≡ false
      go true e = absurd (h (counted_facts e))
      go false e = e

  pub counted-holds : Counted → counted n ≡ true
  unfolding counted
  counted-holds k =
      every_holds _ (
        le-leb n.inputs 64 k.inputs,
        (
          le-leb 1 n.latches k.some,
          (
            le-leb n.latches 8 k.latches,
            (
              le-leb n.outputs 128 k.outputs,
              (
                eq-eqb n.max_variable (n.inputs + n.latches + n.ands) k.sum,
                (
                  le-leb 1 n.max_variable k.least,
                  (le-leb n.max_variable 1000000 k.most, tt),
                ),
              ),
            ),
          ),
        ),
      )

  -- the sum is what is left to test
  pub counted_sum : n.inputs ≤ 64 → 1 ≤ n.latches → n.latches ≤ 8 → n.outputs ≤ 128 → 1 ≤ n.max_variable → n.max_variable ≤ 1000000
      → eqb n.max_variable (n.inputs + n.latches + n.ands) ≡ counted n
  counted_sum i s l o b m = go (eqb n.max_variable (n.inputs + n.latches + n.ands)) refl
    where
      go : (t : Bool) → eqb n.max_variable (n.inputs + n.latches + n.ands) ≡ t → t ≡ counted n
      go true e = sym (counted-holds (record { inputs = i; some = s; latches = l; outputs = o; sum = eqb-true n.max_variable (n.inputs + n.latches + n.ands) e; least = b; most = m }))
      go false e = sym (counted_fails (λ k. eqb-false n.max_variable (n.inputs + n.latches + n.ands) e k.sum))
