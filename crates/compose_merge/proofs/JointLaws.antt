-- Laws of the work words once gates are shared: composed variables are small, joint literals name them, and their composed literals are those of the composition.
use Prim.Native.Nat.{ℕ, suc, ◌+◌, ◌*◌, ◌≤◌, ◌<◌}
use mathlib.Core.List.{List, map}
use mathlib.Core.Path.{◌≡◌, sym, ap₂, subst, ◌∙◌}
use native.Mathlib.Omega.{arith}
use lib.ListN.{length, get_or, take}
use Rattle.lists.specs.Parts.{part}
use Rattle.lists.specs.Tests.{Each}
use Rattle.lists.proofs.KeptLaws.{part-kept}
use Rattle.lists.proofs.PartLaws.{part_at, part_length}
use Rattle.compose_gates.specs.Inner.Linked.{Translatable}
use Rattle.lists.proofs.TestLaws.{each-so, each_at}
use Rattle.aiger.specs.Gates.{variable}
use Rattle.witness_read.specs.Sections.{Sections}
use Rattle.compose_spec.specs.Numbering.{leaf_count}
use Rattle.compose_spec.specs.Sharing.{translate}
use Rattle.compose_spec.specs.Composing.{composed_gates}
use Rattle.compose_joint.specs.declared.Literals.{Literals}
use Rattle.compose_joint.specs.Inner.Joint.{total_of, input_count, gate_count, joint, list_of}
use Rattle.compose_joint.specs.Inner.Numbers.{joint_shared}
use Rattle.compose_joint.proofs.AmountLaws.{leaf_count-most, joint-literals-most}
use Rattle.compose_joint.proofs.GateLaws.{joint-vars-most, joint-vars-length, composed-gates-most}
use Rattle.compose_numbers.specs.Inner.Marked.{composed_in}
use Rattle.compose_numbers.proofs.CallLaws.{literals-part}
use Rattle.compose_layout.specs.declared.Layout.{Layout}
use Rattle.compose_layout.specs.Inner.Laid.{Has, variable_total, Regions}
use Rattle.compose_layout.proofs.HasLaws.{has_same}
use Rattle.compose_merge.specs.Inner.Merged.{Base, input_numbers, latch_numbers}
use Rattle.compose_merge.specs.Inner.Stages.{Shared}
use Rattle.compose_merge.proofs.WordLaws.{part-has, has-at}
use Rattle.compose_merge.proofs.LeafLaws.{inputs_long, latches_long}

-- a literal of a joint variable
abbrev pub Joint : List Sections → ℕ → Type 0
Joint ws l = l ≤ 2 * variable_total ws + 1

module _ (at : Layout) (work : List ℕ) (m : Sections) (ws : List Sections) (b : Base at work m ws) (s : Shared at work m ws) where
  -- no composed variable is larger than the number of joint ones
  most : leaf_count m ws + length (composed_gates m ws) ≤ variable_total ws
  most = omega (arith, leaf_count-most m ws, composed-gates-most m ws b.plan.range)

  -- none of those in the list
  pub vars-low : Each (λ x. x ≤ variable_total ws) (joint_shared m ws).vars
  vars-low =
      each-so (λ x. x ≤ leaf_count m ws + length (composed_gates m ws)) (λ x. x ≤ variable_total ws) (λ x h. omega (arith, most)) (joint_shared m ws).vars
      (joint-vars-most m ws b.plan.range)

  -- the composed variables of all joint ones
  pub vars-are : part work at.vars (at.vars + suc (variable_total ws)) ≡ (joint_shared m ws).vars
  vars-are = part-has work at.vars (joint_shared m ws).vars s.vars (suc (variable_total ws)) (sym (joint-vars-length m ws))

  -- none of those in the words
  pub var_low : (x : ℕ) → x < suc (variable_total ws) → get_or work (at.vars + x) 0 ≤ variable_total ws
  var_low x h =
      let inside : x < length (joint_shared m ws).vars = omega (arith, joint-vars-length m ws) in
      omega (
        arith,
        has-at work at.vars (joint_shared m ws).vars s.vars x inside,
        each_at (λ y. y ≤ variable_total ws) (joint_shared m ws).vars x 0 vars-low inside,
      )

  module _ (kind : Literals) (from count : ℕ) (h : Has work from (joint (list_of kind) ws)) (n : count ≡ length (joint (list_of kind) ws)) where
    -- the joint literals that stand in the words
    pub literals_in : Each (Joint ws) (part work from (from + count))
    literals_in = subst (Each (Joint ws)) (sym (part-has work from (joint (list_of kind) ws) h count n)) (joint-literals-most kind ws b.plan.range)

    -- their composed literals, by the words up to a place behind the composed variables
    pub literals-translated : (e : ℕ) → at.gates ≤ e → composed_in (part work from (from + count)) (part work at.vars e) ≡ map (translate (joint_shared m ws).vars) (joint (list_of kind) ws)
    literals-translated e g =
        literals-part at.vars (suc (variable_total ws)) work e (omega (arith, g, b.plan.regions.gates)) (part work from (from + count))
        (each-so (Joint ws) (λ l. variable l < suc (variable_total ws)) (λ l k. omega arith) (part work from (from + count)) literals_in)
        ∙ ap₂ (λ (vs ls : List ℕ). map (translate vs) ls) vars-are (part-has work from (joint (list_of kind) ws) h count n)

  -- a joint literal can be translated by the words up to a place behind the composed variables
  pub translatable : (e : ℕ) → at.gates ≤ e → e ≤ length work → (l : ℕ) → Joint ws l
      → Translatable (part work at.vars e) l × (get_or (part work at.vars e) (variable l) 0 ≤ variable_total ws)
  translatable e behind within l j =
      let r : Regions m ws at = b.plan.regions in
      let inside : variable l < suc (variable_total ws) = omega arith in
      let low : get_or work (at.vars + variable l) 0 ≤ variable_total ws = var_low (variable l) inside in
      let here : get_or (part work at.vars e) (variable l) 0 ≡ get_or work (at.vars + variable l) 0 = part_at work at.vars e (variable l) 0 (omega (arith, behind, r.gates)) in (
        record {
          within = omega (arith, part_length work at.vars e within, inside, behind, r.gates);
          small = omega (arith, here, low, b.plan.few);
        },
        omega (arith, here, low),
      )

-- what is shared stays where nothing in front of the definitions is written
pub shared_kept : (at : Layout) (work work' : List ℕ) (m : Sections) (ws : List Sections) → Regions m ws at → take at.definitions work' ≡ take at.definitions work → length work' ≡ length work
    → Shared at work m ws → Shared at work' m ws
shared_kept at work work' m ws r e n s =
    record {
      leaves =
          record {
            inputs =
                has_same work work' at.definitions (at.vars + 1) (input_numbers m ws) e n (omega (arith, inputs_long m ws, r.gates, r.definitions)) s.leaves.inputs;
            latches =
                has_same work work' at.definitions (at.vars + 1 + total_of input_count ws) (latch_numbers m ws) e n (omega (arith, latches_long m ws, r.gates, r.definitions))
                s.leaves.latches;
          };
      vars =
          has_same work work' at.definitions at.vars (joint_shared m ws).vars e n (omega (arith, joint-vars-length m ws, r.gates, r.definitions)) s.vars;
      keys =
          rw (part-kept work' work at.definitions e at.gates (at.gates + (4 * total_of gate_count ws + 1)) (omega (arith, r.definitions))) s.keys;
    }
