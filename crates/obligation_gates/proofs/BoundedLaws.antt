-- From a checked model and an accepted boundary to what the functions require.
use Prim.Native.Nat.{ℕ, ◌+◌, ◌*◌, ◌/◌, ◌≤◌, ◌<◌, ◌^◌}
use mathlib.Core.Bool.{true}
use mathlib.Core.List.{List, map}
use mathlib.Core.Path.{◌≡◌}
use native.Mathlib.Omega.{arith}
use borrow.Author.Tests.{lt-ltb}
use lib.Dec.{ltb}
use lib.ListN.{length}
use Rattle.lists.specs.Tests.{all, Each}
use Rattle.lists.specs.Words.{in_order}
use Rattle.lists.proofs.BoolLaws.{and_both}
use Rattle.lists.proofs.TestLaws.{each-split, each-so, each_with, each_of_map, all_of_each}
use Rattle.aiger.specs.declared.Gate.{Gate}
use Rattle.aiger.specs.Gates.{output_of}
use Rattle.aiger.proofs.DefinedLaws.{Defines, Orders, Defined, defined_facts}
use Rattle.model.specs.Circuit.{Circuit, currents_of, nexts_of, leaves_of}
use Rattle.model.specs.Limits.{well_defined}
use Rattle.model.proofs.ValueLaws.{well_facts}
use Rattle.cnf.specs.Clauses.{clauses_in}
use Rattle.obligation_spec.specs.Limits.{bounded}
use Rattle.obligation_spec.proofs.AcceptedLaws.{bounded_facts}
use Rattle.obligation_check.specs.Inner.Boundary.{indexes}
use Rattle.obligation_gates.specs.Inner.Encoding.{Low, LowGate, BoundedBy}

module _ (c : Circuit) (well : well_defined c ≡ true) where
  facts : Defined c.variables (leaves_of c) c.gates
  facts = defined_facts c.variables (leaves_of c) c.gates (well_facts c well).once

  leaves : Each (Defines c.variables) (leaves_of c)
  leaves = (each-split (Defines c.variables) (leaves_of c) (map output_of c.gates) facts.each).0

  inputs : Each (Defines c.variables) c.inputs
  inputs = (each-split (Defines c.variables) c.inputs (currents_of c) leaves).0

  -- an input is no constant
  pub inputs-variables : Each (λ l. 2 ≤ l) c.inputs
  inputs-variables = each-so (Defines c.variables) (λ l. 2 ≤ l) (λ l d. omega (arith, d.some, d.even)) c.inputs inputs

  module _ (few : c.variables ≤ 1000000) where
    defines-low : (l : ℕ) → Defines c.variables l → l < 2 ^ 31
    defines-low l d = omega (arith, d.low)

    pub inputs-low : Low c.inputs
    inputs-low = each-so (Defines c.variables) (λ l. l < 2 ^ 31) defines-low c.inputs inputs

    pub currents-low : Low (currents_of c)
    currents-low =
        each-so (Defines c.variables) (λ l. l < 2 ^ 31) defines-low (currents_of c)
        (each-split (Defines c.variables) c.inputs (currents_of c) leaves).1

    pub nexts-low : Low (nexts_of c)
    nexts-low = each-so (λ l. l ≤ 2 * c.variables + 1) (λ l. l < 2 ^ 31) (λ l h. omega arith) (nexts_of c) (well_facts c well).nexts

    pub outputs-low : Low c.outputs
    outputs-low = each-so (λ l. l ≤ 2 * c.variables + 1) (λ l. l < 2 ^ 31) (λ l h. omega arith) c.outputs (well_facts c well).outputs

    gate_low : (g : Gate) → Defines c.variables g.output → Orders g → LowGate g
    gate_low g d o =
        record {
          output = defines-low g.output d;
          left = omega (arith, d.low, o.left);
          right = omega (arith, d.low, o.right);
        }

    pub gates-low : Each LowGate c.gates
    gates-low =
        each_with (λ g. Defines c.variables g.output) Orders LowGate gate_low c.gates
        (each_of_map output_of (Defines c.variables) c.gates
        (each-split (Defines c.variables) (leaves_of c) (map output_of c.gates) facts.each).1)
        facts.order

    -- an accepted boundary
    module _ (relevant pairs words : List ℕ) (accepted : bounded c relevant pairs words ≡ true) where
      pub accepted-bounded : BoundedBy c.inputs relevant pairs words
      accepted-bounded =
          let b = bounded_facts c relevant pairs words accepted in
          record {
            low = inputs-low;
            variables = inputs-variables;
            among = b.inputs;
            most = b.few;
            few = b.literals;
            holds =
                and_both (in_order 0 (length words) pairs) (all (indexes (length relevant)) (clauses_in words pairs)) b.ordered
                (all_of_each (indexes (length relevant)) (clauses_in words pairs)
                (each-so (λ k. Each (λ w. w / 2 < length relevant) k) (λ k. indexes (length relevant) k ≡ true)
                (λ k e. all_of_each (λ w. ltb (w / 2) (length relevant)) k (each-so (λ w. w / 2 < length relevant) (λ w. ltb (w / 2) (length relevant) ≡ true) (λ w h. lt-ltb (w / 2) (length relevant) h) k e))
                (clauses_in words pairs) b.indices));
          }

pub accepted-few : (c : Circuit) (relevant pairs words : List ℕ) → bounded c relevant pairs words ≡ true → length pairs / 2 ≤ 64
accepted-few c relevant pairs words accepted = (bounded_facts c relevant pairs words accepted).clauses
