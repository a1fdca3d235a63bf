-- Laws of the last pass: the bads and the constraints are collected.
use Rattle.std.specs.Prelude.{Ok}
use Prim.Native.Nat.{ℕ, suc, ◌+◌, ◌-◌, ◌*◌, ◌/◌, ◌%◌, ◌≤◌, ◌<◌}
use mathlib.Core.List.{List, [], ◌∷◌, map}
use mathlib.Core.Path.{◌≡◌, refl, sym, ap, ◌∙◌, subst}
use native.Mathlib.Omega.{arith}
use lib.ListN.{length, get_or}
use Rattle.lists.specs.Parts.{part, zeros}
use Rattle.lists.specs.Tests.{Each}
use Rattle.lists.specs.Sets.{set_of}
use Rattle.lists.proofs.KeptLaws.{take-kept}
use Rattle.lists.proofs.ZeroLaws.{zeros-length}
use Rattle.lists.proofs.TestLaws.{each-so, each_at}
use Rattle.aiger.specs.Gates.{variable}
use Rattle.text_print.specs.Inner.Elements.{elements}
use Rattle.witness_read.specs.Sections.{Sections}
use Rattle.compose_spec.specs.Numbering.{leaf_count}
use Rattle.compose_spec.specs.Sharing.{Operands, translate}
use Rattle.compose_spec.specs.Composing.{composed_gates, whole, safety, literals_of}
use Rattle.compose_spec.proofs.MeaningLaws.{composed-order}
use Rattle.compose_spec.proofs.ShareLaws.{OperandsFrom}
use Rattle.compose_joint.specs.declared.Literals.{Literals}
use Rattle.compose_joint.specs.declared.Literals.TheVariants as literals
use Rattle.compose_joint.specs.Inner.Joint.{joint, list_of}
use Rattle.compose_joint.specs.Inner.Numbers.{joint_shared}
use Rattle.compose_joint.proofs.AmountLaws.{leaf_count-most}
use Rattle.compose_joint.proofs.GateLaws.{composed-gates-most}
use Rattle.compose_joint.proofs.VarsLaws.{joint-safety, joint-constraints}
use Rattle.compose_numbers.specs.Inner.Marked.{Addable, CanAdd, composed_in}
use Rattle.compose_layout.specs.declared.Layout.{Layout}
use Rattle.compose_layout.specs.Inner.Laid.{Has, variable_total, Regions, OfSome}
use Rattle.compose_layout.proofs.HasLaws.{has_same}
use Rattle.compose_layout.proofs.StageLaws.{literals_long}
use Rattle.compose_merge.specs.Inner.Merged.{Base, Goes, ResultWords, Counted, SmallOperands, definition_words}
use Rattle.compose_merge.specs.Inner.Stages.{Shared, CanCollect, Collects}
use Rattle.compose_merge.proofs.WordLaws.{clean-part}
use Rattle.compose_merge.proofs.DefineLaws.{definitions_long, LatchesDefined}
use Rattle.compose_merge.proofs.JointLaws.{Joint, translatable, literals_in, literals-translated, shared_kept}

-- ---- literals in general

-- a composed literal whose variable is small has a bit
bit-there : (v l total bits : ℕ) → v ≤ total → bits ≡ total / 32 + 1 → 2 * v + l % 2 < 64 * bits
bit-there v l total bits h e = omega arith

module _ (at : Layout) (work : List ℕ) (m : Sections) (ws : List Sections) (b : Base at work m ws) (s : Shared at work m ws) (e : ℕ) (behind : at.gates ≤ e) (within : e ≤ length work) where
  -- a joint literal can be added by the words up to a place behind the composed variables
  addable : (l : ℕ) → Joint ws l → Addable (part work at.vars e) at.bits l
  addable l j =
      let k = translatable at work m ws b s e behind within l j in
      record { literal = k.0; below = bit-there (get_or (part work at.vars e) (variable l) 0) l (variable_total ws) at.bits k.1 b.plan.regions.bits }

  module _ (kind : Literals) (from count : ℕ) (h : Has work from (joint (list_of kind) ws)) (n : count ≡ length (joint (list_of kind) ws)) where
    -- a joint list can be added to an empty set
    can_add : (set : List ℕ) → set ≡ zeros at.bits → CanAdd (part work from (from + count)) (part work at.vars e) set
    can_add set empty =
        let long : length set ≡ at.bits = ap length empty ∙ zeros-length at.bits in
        record {
          empty = rw long empty;
          each = λ i less.
              subst (λ (k : ℕ). Addable (part work at.vars e) k (get_or (part work from (from + count)) i 0)) (sym long)
              (each_at (Addable (part work at.vars e) at.bits) (part work from (from + count)) i 0
              (each-so (Joint ws) (Addable (part work at.vars e) at.bits) addable (part work from (from + count)) (literals_in at work m ws b s kind from count h n)) less);
        }

-- ---- operands

-- the operands of gates with few variables are small
operands-small : (n : ℕ) (gs : List Operands) → n + length gs ≤ 1073741824 → OperandsFrom n gs → Each SmallOperands gs
operands-small n [] h o = tt
operands-small n (g ∷ gs) h o = (record { left = omega (arith, o.0.0); right = omega (arith, o.0.1) }, operands-small (suc n) gs (omega arith) o.1)

-- so are those of the composed gates
composed-small : (at : Layout) (work : List ℕ) (m : Sections) (ws : List Sections) → Base at work m ws → Each SmallOperands (composed_gates m ws)
composed-small at work m ws b =
    operands-small (suc (leaf_count m ws)) (composed_gates m ws) (omega (arith, leaf_count-most m ws, composed-gates-most m ws b.plan.range, b.plan.few)) (composed-order m ws)

-- ---- the two lists

module _ (at : Layout) (first next g : ℕ) (work : List ℕ) where
  module _ (m : Sections) (ws : List Sections) (k : LatchesDefined at first next g work m ws) where
    -- where everything stands
    abbrev places : Regions m ws at
    places = k.base.plan.regions

    -- the variables stand in front of the sets
    behind : at.gates ≤ at.bad_bits
    behind = omega (arith, places.definitions, places.bad_bits)

    within : at.bad_bits ≤ length work
    within = omega (arith, places.constraint_bits, places.end, k.base.fits)

    -- the places where the lists of joint literals end
    safety-end : at.constraints ≡ at.safety + length (joint (list_of literals.Safety) ws)
    safety-end = omega (arith, places.constraints, literals_long literals.Safety ws)

    constraints-end : at.input_origins ≡ at.constraints + length (joint (list_of literals.Constraints) ws)
    constraints-end = omega (arith, places.input_origins, literals_long literals.Constraints ws)

    -- a list up to its end can be added to a set
    list_can : (kind : Literals) (from to : ℕ) → to ≡ from + length (joint (list_of kind) ws) → Has work from (joint (list_of kind) ws)
        → (a e : ℕ) → e ≡ a + at.bits → at.bad_bits ≤ a → e ≤ at.end → CanAdd (part work from to) (part work at.vars at.bad_bits) (part work a e)
    list_can kind from to t h a e f i j =
        subst (λ (x : ℕ). CanAdd (part work from x) (part work at.vars at.bad_bits) (part work a e)) (sym t)
        (can_add at work m ws k.base k.shared at.bad_bits behind within kind from (length (joint (list_of kind) ws)) h refl (part work a e)
        (ap (part work a) f ∙ clean-part work at.bad_bits at.end k.bits a at.bits i (omega (arith, f, j))))

    -- and its composed literals are those of the composition
    list_is : (kind : Literals) (from to : ℕ) → to ≡ from + length (joint (list_of kind) ws) → Has work from (joint (list_of kind) ws)
        → composed_in (part work from to) (part work at.vars at.bad_bits) ≡ map (translate (joint_shared m ws).vars) (joint (list_of kind) ws)
    list_is kind from to t h =
        ap (λ (x : ℕ). composed_in (part work from x) (part work at.vars at.bad_bits)) t
        ∙ literals-translated at work m ws k.base k.shared kind from (length (joint (list_of kind) ws)) h refl at.bad_bits behind

    can : CanCollect at work
    can =
        record {
          safety = omega (arith, safety-end);
          constraints = omega (arith, constraints-end);
          lists =
              omega (arith, places.latch_origins, places.assigned, places.vars, places.gates, places.definitions, places.bad_bits);
          vars = omega (arith, places.gates, behind);
          bits = places.constraint_bits;
          end = places.end;
          fits = k.base.fits;
          bads_can =
              list_can literals.Safety at.safety at.constraints safety-end k.base.stands.safety at.bad_bits at.constraint_bits places.constraint_bits (omega arith)
              (omega (arith, places.end));
          constraints_can =
              list_can literals.Constraints at.constraints at.input_origins constraints-end k.base.stands.constraints at.constraint_bits at.end places.end
              (omega (arith, places.constraint_bits)) (omega arith);
        }

    -- the composed bads, and the composed constraints
    bads-are : set_of (composed_in (part work at.safety at.constraints) (part work at.vars at.bad_bits)) ≡ literals_of safety (whole m ws)
    bads-are = ap set_of (list_is literals.Safety at.safety at.constraints safety-end k.base.stands.safety) ∙ sym (joint-safety m ws k.base.plan.range)

    constraints-are : set_of (composed_in (part work at.constraints at.input_origins) (part work at.vars at.bad_bits)) ≡ literals_of (λ s. s.constraints) (whole m ws)
    constraints-are =
        ap set_of (list_is literals.Constraints at.constraints at.input_origins constraints-end k.base.stands.constraints) ∙ sym (joint-constraints m ws k.base.plan.range)

  -- as the code asks for it
  pub collect-can : OfSome (LatchesDefined at first next g work) → CanCollect at work
  collect-can s = can s.m s.ws s.holds

  module _ {work' : List ℕ} {bads limits : ℕ} (same : length work' ≡ length work) (found : Collects at work work' bads limits) where
    module _ (m : Sections) (ws : List Sections) (k : LatchesDefined at first next g work m ws) where
      -- variables and gates in the end
      shared : Shared at work' m ws
      shared =
          shared_kept at work work' m ws (places m ws k)
          (take-kept work' work at.bad_bits found.before at.definitions (omega (arith, (places m ws k).bad_bits))) same k.shared

      -- the counts in the end
      counted : Counted m ws (record { inputs = first - 1; latches = next - first; gates = g; bads = bads; constraints = limits })
      counted =
          record {
            inputs = omega (arith, k.first);
            latches = omega (arith, k.first, k.next);
            gates = k.count;
            bads = found.bads_added.returns ∙ ap length (bads-are m ws k);
            constraints = found.constraints_added.returns ∙ ap length (constraints-are m ws k);
          }

      -- all that stands in the end
      result : ResultWords m ws at (record { inputs = first - 1; latches = next - first; gates = g; bads = bads; constraints = limits }) work'
      result =
          record {
            counted = counted;
            inputs = shared.leaves.inputs;
            latches = shared.leaves.latches;
            keys = shared.keys;
            small = composed-small at work m ws k.base;
            definitions =
                has_same work work' at.bad_bits at.definitions (definition_words m ws) found.before same
                (omega (arith, definitions_long m ws, (places m ws k).bad_bits)) k.definitions;
            bads = ap (λ (x : ℕ). elements (part work' at.bad_bits x)) (sym (places m ws k).constraint_bits) ∙ (found.bads_added.is ∙ bads-are m ws k);
            constraints = ap (λ (x : ℕ). elements (part work' at.constraint_bits x)) (sym (places m ws k).end) ∙ (found.constraints_added.is ∙ constraints-are m ws k);
          }

    -- what comes out: 17 and 18 do not apply
    pub literals-done : Goes (LatchesDefined at first next g work) at work work' (Ok (record { inputs = first - 1; latches = next - first; gates = g; bads = bads; constraints = limits }))
    literals-done =
        record {
          goes = λ m ws k.
              record {
                fits = k.fits;
                agrees = k.agrees;
                result = result m ws k;
                kept =
                    take-kept work' work at.bad_bits found.before at.assigned
                    (omega (arith, (places m ws k).vars, (places m ws k).gates, (places m ws k).definitions, (places m ws k).bad_bits));
              };
        }
