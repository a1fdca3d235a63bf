-- Laws of the fourth pass: the gates are shared, or 17 applies.
use Rattle.std.specs.Prelude.{Option, Some, None}
use Rattle.std.specs.Prelude.{Err}
use Prim.Native.Nat.{ℕ, suc, ◌+◌, ◌-◌, ◌*◌, ◌/◌, ◌≤◌, ◌<◌}
use mathlib.Core.Bool.{Bool, true, false, cond}
use mathlib.Core.List.{List, [], ◌++◌, map}
use mathlib.Core.Path.{◌≡◌, refl, sym, ap, ap₂, subst, ◌∙◌}
use native.Mathlib.Omega.{arith}
use lib.ListN.{length, get_or, take, drop}
use lib.Seq.{take-take, take-add}
use Rattle.lists.proofs.PartLaws.{part_length}
use Rattle.lists.specs.Parts.{part}
use Rattle.lists.specs.Tests.{Each}
use Rattle.lists.specs.Words.{pairs_of}
use Rattle.lists.proofs.KeptLaws.{take-kept}
use Rattle.lists.proofs.TestLaws.{each-so}
use Rattle.aiger.specs.Gates.{variable, gate_from}
use Rattle.witness_read.specs.Sections.{Sections}
use Rattle.compose_spec.specs.Numbering.{leaf_count}
use Rattle.compose_spec.specs.Sharing.{Operands, Shared, share_gates}
use Rattle.compose_spec.specs.Inner.Keys.{key_of}
use Rattle.compose_spec.specs.Composing.{composed_gates, gates_fit}
use Rattle.compose_joint.specs.declared.Literals.TheVariants as literals
use Rattle.compose_joint.specs.Inner.Joint.{total_of, input_count, gate_count, joint, list_of}
use Rattle.compose_joint.specs.Inner.Numbers.{leaf_vars, joint_shared}
use Rattle.compose_joint.proofs.AmountLaws.{joint-operands-length, leaf_vars-length, leaf_vars-most, leaf_count-most}
use Rattle.compose_joint.proofs.GateLaws.{joint-gates, joint-earlier, joint-vars-length}
use Rattle.key_table.specs.Inner.Table.{Held}
use Rattle.compose_gates.specs.Inner.Linked.{shared_in, Linked}
use Rattle.compose_gather.specs.declared.Totals.{Totals}
use Rattle.compose_layout.specs.declared.Layout.{Layout}
use Rattle.compose_layout.specs.Inner.Laid.{Regions, OfSome}
use Rattle.compose_layout.proofs.HasLaws.{has_same}
use Rattle.aiger.specs.declared.Refusal.TheVariants as refusal
use Rattle.compose_merge.specs.Inner.Merged.{Plan, Goes, input_numbers, latch_numbers}
use Rattle.compose_merge.specs.Inner.Stages as stage
use Rattle.compose_merge.specs.Inner.Stages.{GatesShared, CanShare, SharesAll}
use Rattle.compose_merge.proofs.WordLaws.{has_part, part-has, clean-part, clean-behind}
use Rattle.compose_merge.proofs.LatchLaws.{LeavesNumbered}
use Rattle.compose_merge.proofs.BaseLaws.{base_kept, Step}
use Rattle.compose_merge.proofs.LeafLaws.{inputs_long, latches_long}

-- what the answer says of the test
many_false : (b : Bool) (n : ℕ) → None ≡ cond b (Some n) None → b ≡ false
many_false true n e = absurd (let z : ◌≡◌ {A = ℕ} 0 1 = cc in omega arith)
many_false false n e = refl

-- and how many gates there are
all_true : (b : Bool) (n g : ℕ) → Some g ≡ cond b (Some n) None → (b ≡ true) × (g ≡ n)
all_true true n g e = let h : g ≡ n = cc in (refl, h)
all_true false n g e = absurd (let z : ◌≡◌ {A = ℕ} 0 1 = cc in omega arith)

module _ (t : Totals) (at : Layout) (first next : ℕ) (work : List ℕ) where
  -- how many joint variables are known before the gates
  abbrev known : ℕ
  known = 1 + t.inputs + t.latches

  -- the joint operands, and the composed variables
  abbrev os : List ℕ
  os = part work at.operands at.safety

  abbrev vs : List ℕ
  vs = part work at.vars at.gates

  -- the joint circuit, shared
  abbrev all : Shared
  all = shared_in os vs known (next - 1)

  module _ (m : Sections) (ws : List Sections) (k : LeavesNumbered t at first next work m ws) where
    -- what does not change
    abbrev plan : Plan at m ws
    plan = k.base.plan

    -- where everything stands
    abbrev places : Regions m ws at
    places = plan.regions

    -- the inputs and latches of the composition
    leaves-are : next - 1 ≡ leaf_count m ws
    leaves-are = omega (arith, k.next)

    -- the words up to the end of the table of gates
    room : at.definitions ≤ length work
    room = omega (arith, places.bad_bits, places.constraint_bits, places.end, k.base.fits)

    vs-long : length vs ≡ known + t.gates
    vs-long = omega (arith, part_length work at.vars at.gates (omega (arith, room, places.definitions)), places.gates, k.totals.inputs, k.totals.latches, k.totals.gates)

    -- a part at the front of a part
    front : (a e n : ℕ) → a + n ≤ e → take n (part work a e) ≡ part work a (a + n)
    front a e n h =
        let d : n ≡ a + n - a = omega arith in
        take-take n (e - a) (drop a work) (omega arith) ∙ ap (λ (j : ℕ). take j (drop a work)) d

    -- the composed variables that are known
    vars-are : take known vs ≡ leaf_vars m ws
    vars-are =
        front at.vars at.gates known (omega (arith, places.gates, k.totals.inputs, k.totals.latches))
        ∙ part-has work at.vars (leaf_vars m ws) k.vars known (omega (arith, k.totals.inputs, k.totals.latches, leaf_vars-length m ws))

    -- the joint operands
    operands-are : os ≡ joint (list_of literals.Operands) ws
    operands-are =
        ap (part work at.operands) places.safety
        ∙ part-has work at.operands (joint (list_of literals.Operands) ws) k.base.stands.operands (2 * total_of gate_count ws) (sym (joint-operands-length ws))

    os-long : length os ≡ 2 * t.gates
    os-long = omega (arith, ap length operands-are, joint-operands-length ws, k.totals.gates)

    half : length os / 2 ≡ t.gates
    half = omega (arith, os-long)

    -- the operands of a gate stand before it
    earlier : (i : ℕ) → i < length os / 2 → (variable (get_or os (2 * i) 0) < known + i) × (variable (get_or os (2 * i + 1) 0) < known + i)
    earlier i h =
        let e = joint-earlier ws plan.range i (omega (arith, half, k.totals.gates)) in
        rw operands-are (omega (arith, e.0, k.totals.inputs, k.totals.latches), omega (arith, e.1, k.totals.inputs, k.totals.latches))

    -- it holds of the stage
    can : CanShare at t (next - 1) work
    can =
        record {
          operands = omega (arith, places.safety);
          lists = omega (arith, places.constraints, places.input_origins, places.latch_origins, places.assigned, places.vars);
          vars = omega (arith, places.gates);
          table = omega (arith, places.definitions);
          fits = room;
          known = omega (arith, room, places.definitions, places.gates, k.totals.inputs, k.totals.latches);
          can =
              record {
                even = omega (arith, os-long);
                long = omega (arith, vs-long, half);
                room = omega (arith, half, part_length work at.gates at.definitions room, places.definitions, k.totals.gates);
                few = omega (arith, leaves-are, leaf_count-most m ws, half, k.totals.gates, plan.few);
                empty =
                    rw half
                    (front at.gates at.definitions (t.gates + 1) (omega (arith, places.definitions, k.totals.gates))
                    ∙ clean-part work at.gates (at.gates + (total_of gate_count ws + 1)) k.heads at.gates (t.gates + 1) (omega arith) (omega (arith, k.totals.gates)));
                small =
                    subst (Each (λ x. x < 1073741824)) (sym vars-are)
                    (each-so (λ x. x ≤ leaf_count m ws) (λ x. x < 1073741824) (λ x h. omega (arith, leaf_count-most m ws, plan.few)) (leaf_vars m ws) (leaf_vars-most m ws));
                earlier = earlier;
              };
        }

    -- the joint circuit, shared
    given : all ≡ joint_shared m ws
    given =
        ap (λ (n : ℕ). share_gates (suc n) (pairs_of (gate_from 0) os) (record { vars = take known vs; gates = [] })) leaves-are
        ∙ ap₂ (λ (us ts : List ℕ). share_gates (suc (leaf_count m ws)) (pairs_of (gate_from 0) us) (record { vars = ts; gates = [] })) operands-are vars-are

    -- its gates are the composed ones
    gates-are : all.gates ≡ composed_gates m ws
    gates-are = ap (λ (s : Shared). s.gates) given ∙ joint-gates m ws plan.range

    -- the test of 17
    test_is : gates_fit (next - 1) all.gates ≡ gates_fit (leaf_count m ws) (composed_gates m ws)
    test_is = ap₂ (λ (n : ℕ) (gs : List Operands). gates_fit n gs) leaves-are gates-are

  -- as the code asks for it
  pub gates-can : OfSome (LeavesNumbered t at first next work) → CanShare at t (next - 1) work
  gates-can s = can s.m s.ws s.holds

  module _ {work' : List ℕ} {r : Option ℕ} (post : SharesAll at t (next - 1) work work' r) where
    -- 17
    pub gates_many : r ≡ None → (work'' : List ℕ) → Goes (LeavesNumbered t at first next work) at work work'' (Err refusal.GateLimit)
    gates_many e work'' =
        record {
          goes = λ m ws k rest.
              let f = sym (test_is m ws k) ∙ many_false (gates_fit (next - 1) all.gates) (length all.gates) (sym e ∙ post.shares.returns) in
              rw f refl;
        }

    module _ (same : length work' ≡ length work) {g : ℕ} (e : r ≡ Some g) where
      -- 17 does not apply, and so many gates there are
      answered : (gates_fit (next - 1) all.gates ≡ true) × (g ≡ length all.gates)
      answered = all_true (gates_fit (next - 1) all.gates) (length all.gates) g (sym e ∙ post.shares.returns)

      module _ (m : Sections) (ws : List Sections) (k : LeavesNumbered t at first next work m ws) where
        -- after the joint circuit is shared
        linked : Linked t.gates known vs (joint_shared m ws) (part work' at.vars at.gates) (part work' at.gates at.definitions)
        linked =
            subst (λ (n : ℕ). Linked n known vs (joint_shared m ws) (part work' at.vars at.gates) (part work' at.gates at.definitions)) (half m ws k)
            (subst (λ (s : Shared). Linked (length os / 2) known vs s (part work' at.vars at.gates) (part work' at.gates at.definitions)) (given m ws k) (post.shares.words answered.0))

        -- nothing in front of the variables of the gates is written
        ahead : take (at.vars + known) work' ≡ take (at.vars + known) work
        ahead =
            let h : at.vars + known ≤ at.gates = omega (arith, (places m ws k).gates, k.totals.inputs, k.totals.latches) in
            let d : at.vars + known - at.vars ≡ known = omega arith in
            let known-kept : take known (drop at.vars work') ≡ take known (drop at.vars work) =
            sym (take-take known (at.gates - at.vars) (drop at.vars work') (omega (arith, h)))
            ∙ (linked.before ∙ take-take known (at.gates - at.vars) (drop at.vars work) (omega (arith, h))) in
            take-add at.vars known work' ∙ (ap₂ (λ (x y : List ℕ). x ++ y) post.before known-kept ∙ sym (take-add at.vars known work))

        -- nothing in front of the assigned numbers is written
        before : take at.assigned work' ≡ take at.assigned work
        before = take-kept work' work at.vars post.before at.assigned (omega (arith, (places m ws k).vars))

        -- the table of gates has the keys of the composed gates
        keys : Held (total_of gate_count ws + 1) (map key_of (composed_gates m ws)) (part work' at.gates (at.gates + (4 * total_of gate_count ws + 1)))
        keys =
            subst (λ (x : ℕ). Held (total_of gate_count ws + 1) (map key_of (composed_gates m ws)) (part work' at.gates x)) (places m ws k).definitions
            (subst (λ (x : ℕ). Held (x + 1) (map key_of (composed_gates m ws)) (part work' at.gates at.definitions)) k.totals.gates
            (subst (λ (gs : List Operands). Held (t.gates + 1) (map key_of gs) (part work' at.gates at.definitions)) (joint-gates m ws (plan m ws k).range) linked.keys))

        -- all composed variables and gates
        shared : stage.Shared at work' m ws
        shared =
            let s : at.gates ≡ at.vars + (known + t.gates) = omega (arith, (places m ws k).gates, k.totals.inputs, k.totals.latches, k.totals.gates) in
            record {
              leaves =
                  record {
                    inputs =
                        has_same work work' (at.vars + known) (at.vars + 1) (input_numbers m ws) ahead same (omega (arith, inputs_long m ws, k.totals.inputs)) k.leaves.inputs;
                    latches =
                        has_same work work' (at.vars + known) (at.vars + 1 + total_of input_count ws) (latch_numbers m ws) ahead same
                        (omega (arith, latches_long m ws, k.totals.inputs, k.totals.latches)) k.leaves.latches;
                  };
              vars =
                  has_part work' at.vars (known + t.gates) (joint_shared m ws).vars (omega (arith, joint-vars-length m ws, k.totals.inputs, k.totals.latches, k.totals.gates))
                  (omega (arith, same, s, room m ws k, (places m ws k).definitions))
                  (ap (part work' at.vars) (sym s) ∙ linked.variables);
              keys = keys;
            }

        -- the next stage
        gates-shared : GatesShared t at first next g work' m ws
        gates-shared =
            record {
              totals = k.totals;
              base = base_kept at work work' m ws before same k.base;
              first = k.first;
              next = k.next;
              count = answered.1 ∙ ap length (gates-are m ws k);
              fits = sym (test_is m ws k) ∙ answered.0;
              shared = shared;
              bits =
                  clean-behind work at.bad_bits at.end k.bits work' at.definitions at.bad_bits post.behind
                  (omega (arith, (places m ws k).bad_bits)) (omega arith) (omega (arith, (places m ws k).constraint_bits, (places m ws k).end));
            }

      -- the pass as a step
      pub gates-step : Step (LeavesNumbered t at first next work) (GatesShared t at first next g work') at work work'
      gates-step = record { next = gates-shared; kept = before }
