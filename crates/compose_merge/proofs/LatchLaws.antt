-- Laws of the second pass: the inputs are numbered, then the latches.
use Prim.Native.Nat.{ℕ, suc, ◌+◌, ◌≤◌}
use mathlib.Core.List.{List, [], ◌∷◌, ◌++◌}
use mathlib.Core.Path.{◌≡◌, refl, sym, ap, ◌∙◌, ap₂, subst}
use native.Mathlib.Omega.{arith}
use lib.ListN.{length}
use Rattle.lists.specs.Parts.{part, zeros}
use Rattle.witness_text.specs.declared.AagCounts.{AagCounts}
use Rattle.witness_read.specs.Sections.{Sections}
use Rattle.compose_spec.specs.Numbering.{input_firsts, leaf_count}
use Rattle.compose_joint.specs.declared.Leaves.TheVariants as leaf
use Rattle.compose_joint.specs.Inner.Joint.{total_of, input_count, latch_count, gate_count, origins}
use Rattle.compose_joint.specs.Inner.Numbers.{Numbers, number_all, leaf_vars}
use Rattle.compose_joint.proofs.AmountLaws.{latch_origins-length, leaf_count-most, input-origins-length}
use Rattle.compose_joint.proofs.NumberLaws.{latch_numbers_lem, latch_next, input-numbers, input-next}
use Rattle.compose_gather.specs.declared.Totals.{Totals}
use Rattle.compose_layout.specs.declared.Layout.{Layout}
use Rattle.compose_layout.specs.Inner.Laid.{Has, Regions, OfSome, Summed}
use Rattle.compose_merge.specs.Inner.Merged.{Plan, Base, input_numbers, latch_numbers}
use Rattle.compose_merge.specs.Inner.Stages.{Clean, Leaves, CanNumberAll, NumbersAll}
use Rattle.compose_merge.proofs.WordLaws.{has_part, has_join, clean-part, clean-behind, part-has}
use Rattle.compose_merge.proofs.BaseLaws.{base_kept, Step}
use Rattle.compose_merge.proofs.LeafLaws.{inputs_long, latches_long, leaves-known}
use Rattle.compose_merge.proofs.ClearLaws.{Cleared}
use Rattle.lists.proofs.PartLaws.{part_length}
use Rattle.lists.proofs.ZeroLaws.{zeros-length}

-- inputs and latches have their numbers, and the next number is k; the first latch has the number n
pub record LeavesNumbered (t : Totals) (at : Layout) (n k : ℕ) (work : List ℕ) (m : Sections) (ws : List Sections) : Type 0 where
  pub totals : Summed t ws
  pub base : Base at work m ws
  pub first : n ≡ suc (length (input_firsts m ws))
  pub next : k ≡ suc (leaf_count m ws)
  pub leaves : Leaves at work m ws
  pub vars : Has work at.vars (leaf_vars m ws)
  pub heads : Clean work at.gates (at.gates + (total_of gate_count ws + 1))
  pub bits : Clean work at.bad_bits at.end

module _ (mc : AagCounts) (t : Totals) (at : Layout) (work : List ℕ) where
  -- the origin words of inputs and of latches, and their assigned numbers
  abbrev input_words : List ℕ
  input_words = part work at.input_origins at.latch_origins

  abbrev latch_words : List ℕ
  latch_words = part work at.latch_origins at.assigned

  abbrev input_slots : List ℕ
  input_slots = part work at.assigned (at.assigned + mc.inputs)

  abbrev latch_slots : List ℕ
  latch_slots = part work (at.assigned + mc.inputs) (at.assigned + mc.inputs + mc.latches)

  module _ (m : Sections) (ws : List Sections) (k : Cleared mc t at work m ws) where
    -- what does not change
    abbrev plan : Plan at m ws
    plan = k.base.plan

    -- where everything stands
    abbrev places : Regions m ws at
    places = plan.regions

    -- the words up to the end of the numbers
    room : at.vars + 1 + t.inputs + t.latches ≤ length work
    room =
        omega (arith, k.totals.inputs, k.totals.latches, places.gates, places.definitions, places.bad_bits, places.constraint_bits, places.end, k.base.fits)

    inputs-are : input_words ≡ origins leaf.Inputs m ws
    inputs-are =
        ap (part work at.input_origins) places.latch_origins
        ∙ part-has work at.input_origins (origins leaf.Inputs m ws) k.base.stands.input_origins (total_of input_count ws) (sym (input-origins-length m ws))

    latches-are : latch_words ≡ origins leaf.Latches m ws
    latches-are =
        ap (part work at.latch_origins) places.assigned
        ∙ part-has work at.latch_origins (origins leaf.Latches m ws) k.base.stands.latch_origins (total_of latch_count ws) (sym (latch_origins-length m ws))

    input-zeros : input_slots ≡ zeros (length m.inputs)
    input-zeros =
        clean-part work at.assigned (at.vars + 1) k.leaves at.assigned mc.inputs (omega arith) (omega (arith, k.model.inputs, places.vars)) ∙ ap zeros k.model.inputs

    latch-zeros : latch_slots ≡ zeros (length m.latches)
    latch-zeros =
        clean-part work at.assigned (at.vars + 1) k.leaves (at.assigned + mc.inputs) mc.latches (omega arith) (omega (arith, k.model.inputs, k.model.latches, places.vars))
        ∙ ap zeros k.model.latches

    -- the numbers that inputs get
    given-inputs : number_all 0 1 input_words input_slots ≡ number_all 0 1 (origins leaf.Inputs m ws) (zeros (length m.inputs))
    given-inputs = ap₂ (λ (xs tb : List ℕ). number_all 0 1 xs tb) inputs-are input-zeros

    first-is : (number_all 0 1 input_words input_slots).next ≡ suc (length (input_firsts m ws))
    first-is = ap (λ (x : Numbers). x.next) given-inputs ∙ input-next m ws

    -- and those of latches
    given-latches : (first : ℕ) → first ≡ suc (length (input_firsts m ws))
        → number_all mc.inputs first latch_words latch_slots ≡ number_all (length m.inputs) (suc (length (input_firsts m ws))) (origins leaf.Latches m ws) (zeros (length m.latches))
    given-latches first e =
        ap₂ (λ (b n : ℕ). number_all b n latch_words latch_slots) k.model.inputs e
        ∙ ap₂ (λ (xs tb : List ℕ). number_all (length m.inputs) (suc (length (input_firsts m ws))) xs tb) latches-are latch-zeros

    input-count : length input_words ≡ t.inputs
    input-count = ap length inputs-are ∙ (input-origins-length m ws ∙ sym k.totals.inputs)

    latch-count : length latch_words ≡ t.latches
    latch-count = ap length latches-are ∙ (latch_origins-length m ws ∙ sym k.totals.latches)

    -- it holds of the stage
    can : CanNumberAll at mc t work
    can =
        record {
          inputs = omega (arith, places.latch_origins);
          latches = omega (arith, places.assigned);
          vars = omega (arith, k.model.inputs, k.model.latches, places.vars);
          fits = room;
          inputs_can =
              record {
                room = omega (arith, input-count, part_length work (at.vars + 1) (at.vars + 1 + t.inputs) (omega (arith, room)));
                few = omega (arith, input-count, k.totals.inputs, plan.few);
                each = leaves-known leaf.Inputs m ws 0 (length input_slots) refl (ap length input-zeros ∙ zeros-length (length m.inputs)) input_words inputs-are;
              };
          latches_can = λ first e.
              record {
                room = omega (arith, latch-count, part_length work (at.vars + 1 + t.inputs) (at.vars + 1 + t.inputs + t.latches) room);
                few = omega (arith, latch-count, k.totals.latches, plan.few, e, first-is, leaf_count-most m ws);
                each = leaves-known leaf.Latches m ws mc.inputs (length latch_slots) k.model.inputs (ap length latch-zeros ∙ zeros-length (length m.latches)) latch_words latches-are;
              };
        }

  -- as the code asks for it
  pub numbers-can : OfSome (Cleared mc t at work) → CanNumberAll at mc t work
  numbers-can s = can s.m s.ws s.holds

  module _ {work' : List ℕ} {first next : ℕ} (same : length work' ≡ length work) (post : NumbersAll at mc t work work' first next) where
    module _ (m : Sections) (ws : List Sections) (k : Cleared mc t at work m ws) where
      first-number : first ≡ suc (length (input_firsts m ws))
      first-number = post.inputs.returns ∙ first-is m ws k

      size : at.vars + 1 + t.inputs + t.latches ≤ length work'
      size = omega (arith, same, room m ws k)

      -- the constant
      constant : Has work' at.vars (0 ∷ [])
      constant =
          let e : at.assigned + mc.inputs + mc.latches ≡ at.vars = omega (arith, k.model.inputs, k.model.latches, (places m ws k).vars) in
          has_part work' at.vars 1 (0 ∷ []) refl (omega (arith, size))
          (subst (λ (a : ℕ). part work' a (at.vars + 1) ≡ part work a (at.vars + 1)) e post.between
          ∙ clean-part work at.assigned (at.vars + 1) k.leaves at.vars 1 (omega (arith, (places m ws k).vars)) (omega arith))

      -- the numbers stand in their places
      inputs : Has work' (at.vars + 1) (input_numbers m ws)
      inputs =
          has_part work' (at.vars + 1) t.inputs (input_numbers m ws) (k.totals.inputs ∙ sym (inputs_long m ws)) (omega (arith, size))
          (post.inputs.numbered ∙ (ap (λ (x : Numbers). x.numbers) (given-inputs m ws k) ∙ input-numbers m ws))

      latches : Has work' (at.vars + 1 + t.inputs) (latch_numbers m ws)
      latches =
          has_part work' (at.vars + 1 + t.inputs) t.latches (latch_numbers m ws) (k.totals.latches ∙ sym (latches_long m ws)) size
          (post.latches.numbered ∙ (ap (λ (x : Numbers). x.numbers) (given-latches m ws k first first-number) ∙ latch_numbers_lem m ws))

      -- the next stage
      numbered : LeavesNumbered t at first next work' m ws
      numbered =
          record {
            totals = k.totals;
            base = base_kept at work work' m ws post.before same k.base;
            first = first-number;
            next = post.latches.returns ∙ ap (λ (x : Numbers). x.next) (given-latches m ws k first first-number) ∙ latch_next m ws;
            leaves = record { inputs = inputs; latches = rw (← k.totals.inputs) latches };
            vars =
                has_join work' at.vars (0 ∷ []) constant (at.vars + 1) (input_numbers m ws ++ latch_numbers m ws) refl
                (has_join work' (at.vars + 1) (input_numbers m ws) inputs (at.vars + 1 + t.inputs) (latch_numbers m ws) (omega (arith, inputs_long m ws, k.totals.inputs)) latches);
            heads =
                clean-behind work at.gates (at.gates + (total_of gate_count ws + 1)) k.heads work' (at.vars + 1 + t.inputs + t.latches) at.gates post.behind
                (omega (arith, k.totals.inputs, k.totals.latches, (places m ws k).gates)) (omega arith) (omega arith);
            bits =
                clean-behind work at.bad_bits at.end k.bits work' (at.vars + 1 + t.inputs + t.latches) at.bad_bits post.behind
                (omega (arith, k.totals.inputs, k.totals.latches, (places m ws k).gates, (places m ws k).definitions, (places m ws k).bad_bits)) (omega arith)
                (omega (arith, (places m ws k).constraint_bits, (places m ws k).end));
          }

    -- the pass as a step
    pub numbers-step : Step (Cleared mc t at work) (LeavesNumbered t at first next work') at work work'
    numbers-step = record { next = numbered; kept = λ m ws k. post.before }
