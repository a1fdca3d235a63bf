-- What is laid out, region by region.
use Prim.Native.Nat.{ℕ, ◌+◌, ◌/◌}
use mathlib.Core.List.{List, [], ◌∷◌, ◌++◌}
use mathlib.Core.Path.{◌≡◌, refl, sym, ap, subst}
use native.Mathlib.Omega.{arith}
use lib.ListN.{length}
use Rattle.lists.specs.Parts.{Bytes}
use Rattle.witness_text.specs.declared.AagCounts.{AagCounts}
use Rattle.witness_read.specs.Sections.{Sections}
use Rattle.compose_joint.specs.declared.Leaves.TheVariants as leaf
use Rattle.compose_joint.specs.declared.Literals.TheVariants as literals
use Rattle.compose_joint.specs.Inner.Joint.{total_of, input_count, latch_count, gate_count, joint, list_of, origins}
use Rattle.compose_joint.proofs.AmountLaws.{input-origins-length, latch_origins-length}
use Rattle.compose_gather.specs.declared.Totals.{Totals}
use Rattle.compose_layout.specs.declared.Lists.{Lists}
use Rattle.compose_layout.specs.Inner.Laid.{Has, Regions, Listed, Ready, Stage, LayoutFits, layout_of}
use Rattle.compose_layout.proofs.RoomLaws.{amounts}
use Rattle.compose_layout.proofs.StageLaws.{literals_long}
use Rattle.compose_layout.proofs.OriginLaws.{origins_at, with_inputs}

module _ (l : Lists) (mc : AagCounts) (t : Totals) (buffer : Bytes) (pairs work : List ℕ) (b assigned : ℕ) (m : Sections) (ws : List Sections)
    (k : Stage mc t buffer pairs work (with_inputs l m ws ++ origins_at leaf.Latches b m ws ∷ []) assigned m ws) where
  has : (a place : ℕ) (xs : List ℕ) → (place ≡ a) × Has work a xs → Has work place xs
  has a place xs h = subst (λ (j : ℕ). Has work j xs) (sym h.0) h.1

  listed : Listed buffer pairs m ws (layout_of l b assigned mc t) work
  listed =
      let s = k.standing in
      record {
        blocks = k.blocks;
        stands =
            record {
              latches = has _ l.latches (joint (list_of literals.Latches) ws) s.0;
              operands = has _ l.operands (joint (list_of literals.Operands) ws) s.1.0;
              safety = has _ l.safety (joint (list_of literals.Safety) ws) s.1.1.0;
              constraints = has _ l.constraints (joint (list_of literals.Constraints) ws) s.1.1.1.0;
              input_origins = has _ l.end (origins leaf.Inputs m ws) s.1.1.1.1.0;
              latch_origins = has _ b (origins leaf.Latches m ws) s.1.1.1.1.1.0;
            };
      }

  last_place : b + length (origins leaf.Latches m ws) ≡ assigned
  last_place = omega (arith, k.to_is, k.standing.1.1.1.1.1.0.0)

  regions : Regions m ws (layout_of l b assigned mc t)
  regions =
      let s = k.standing in
      let n = amounts ws in
      let f = k.fitting.totals in
      let mi : mc.inputs ≡ length m.inputs = ap (λ (c : AagCounts). c.inputs) k.fitting.model in
      let ml : mc.latches ≡ length m.latches = ap (λ (c : AagCounts). c.latches) k.fitting.model in
      record {
        latches = s.0.0;
        operands = omega (arith, s.0.0, s.1.0.0, literals_long literals.Latches ws, n.latches);
        safety = omega (arith, s.1.0.0, s.1.1.0.0, literals_long literals.Operands ws, n.operands);
        constraints = omega (arith, s.1.1.0.0, s.1.1.1.0.0, literals_long literals.Safety ws);
        input_origins = omega (arith, s.1.1.1.0.0, s.1.1.1.1.0.0, literals_long literals.Constraints ws);
        latch_origins = omega (arith, s.1.1.1.1.0.0, s.1.1.1.1.1.0.0, input-origins-length m ws);
        assigned = omega (arith, last_place, latch_origins-length m ws);
        vars = omega (arith, mi, ml);
        gates = omega (arith, f.inputs, f.latches, f.gates);
        definitions = omega (arith, f.gates);
        bad_bits = omega (arith, f.latches);
        bits = ap (λ (j : ℕ). j / 32 + 1) (sum t.inputs t.latches t.gates f.inputs f.latches f.gates);
        constraint_bits = refl;
        end = refl;
      }
    where
      sum : (i q a : ℕ) → i ≡ total_of input_count ws → q ≡ total_of latch_count ws → a ≡ total_of gate_count ws → i + q + a ≡ total_of input_count ws + total_of latch_count ws + total_of gate_count ws
      sum i q a e f g = omega arith

  pub stage-ready : LayoutFits assigned mc t (length work) → Ready buffer pairs m ws (layout_of l b assigned mc t) work
  stage-ready p = record { regions = regions; listed = listed; fits = omega (arith, p.fits) }
