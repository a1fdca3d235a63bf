-- Laws of the whole layout: the origins behind the lists, and the places behind them.
use Rattle.std.specs.Prelude.{Option, Some, None, ℕ, ◌+◌, ◌*◌, ◌/◌, ◌≤◌}
use mathlib.Core.Bool.{Bool, ◌&&◌}
use mathlib.Core.List.{List, [], ◌∷◌, ◌++◌}
use mathlib.Core.Path.{◌≡◌, sym, ap, ◌∙◌, subst}
use native.Mathlib.Omega.{arith}
use lib.ListN.{length}
use Rattle.lists.specs.Parts.{Bytes}
use Rattle.lists.specs.Tests.{all}
use Rattle.witness_text.specs.declared.AagCounts.{AagCounts}
use Rattle.witness_read.specs.Sections.{Sections}
use Rattle.witness_read.specs.Reading.{counts_in}
use Rattle.compose_spec.specs.Composing.{maps_right}
use Rattle.compose_spec.specs.Calling.{size, sizes}
use Rattle.compose_joint.specs.declared.Leaves.TheVariants as leaf
use Rattle.compose_joint.specs.declared.Literals.TheVariants as literals
use Rattle.compose_joint.specs.Inner.Joint.{total_of, input_count, latch_count, gate_count}
use Rattle.compose_joint.proofs.AmountLaws.{origins-length, input-origins-length, latch_origins-length}
use Rattle.compose_gather.specs.declared.Totals.{Totals}
use Rattle.compose_gather.specs.Inner.Gathered.{word_total, leaf_count_of}
use Rattle.compose_origins.specs.Inner.Mapped.{CanMapAll, MapsAll}
use Rattle.compose_layout.specs.declared.Layout.{Layout}
use Rattle.compose_layout.specs.declared.Lists.{Lists}
use Rattle.compose_layout.specs.Inner.Laid.{Fitting, Ready, CanLay, Lays, known_length, Reaches, with_lists, LayoutFits, layout_of}
use Rattle.compose_layout.proofs.RoomLaws.{amounts}
use Rattle.compose_layout.proofs.StageLaws.{literals_long}
use Rattle.compose_layout.proofs.ReadyLaws.{stage-ready}
use Rattle.compose_layout.proofs.OriginLaws.{right_leaves, right-both, origins_at, with_inputs, RoomyLeaves, model_by, leaves-can, leaves_wrong, leaves-right, leaves-next}

-- ---- the origins have room

latch_total : (m : Sections) (ws : List Sections) → total_of (leaf_count_of leaf.Latches) ws ≡ total_of latch_count ws
latch_total m ws = sym (origins-length leaf.Latches m ws) ∙ latch_origins-length m ws

pub roomy-inputs : (l : Lists) → RoomyLeaves (with_lists l) leaf.Inputs
roomy-inputs l =
    record {
      most = λ m ws.
          let n = amounts ws in
          omega (arith, n.latches, n.operands, n.safety, n.constraints, n.all, literals_long literals.Latches ws, literals_long literals.Operands ws, literals_long literals.Safety ws, literals_long literals.Constraints ws);
    }

pub roomy-leaves : (l : Lists) → RoomyLeaves (with_inputs l) leaf.Latches
roomy-leaves l =
    record {
      most = λ m ws.
          let n = amounts ws in
          omega (
            arith,
            n.latches,
            n.operands,
            n.safety,
            n.constraints,
            n.all,
            literals_long literals.Latches ws,
            literals_long literals.Operands ws,
            literals_long literals.Safety ws,
            literals_long literals.Constraints ws,
            input-origins-length m ws,
            latch_total m ws,
          );
    }

-- ---- the places

-- the lists and origins take at most so many words
assigned-most : (m : Sections) (ws : List Sections) (l : Lists) (b assigned : ℕ)
    → assigned ≡ word_total ws + known_length (with_inputs l m ws ++ origins_at leaf.Latches b m ws ∷ []) → assigned ≤ 7 * sizes ws
assigned-most m ws l b assigned e =
    let n = amounts ws in
    omega (
      arith,
      e,
      n.words,
      n.latches,
      n.operands,
      n.safety,
      n.constraints,
      n.all,
      literals_long literals.Latches ws,
      literals_long literals.Operands ws,
      literals_long literals.Safety ws,
      literals_long literals.Constraints ws,
      input-origins-length m ws,
      latch_origins-length m ws,
    )

model-size : (mc : AagCounts) (m : Sections) → mc ≡ counts_in m → mc.inputs + mc.latches ≤ size m
model-size mc m e = rw e (omega arith)

leaves-size : (ws : List Sections) (i q a : ℕ) → i ≡ total_of input_count ws → q ≡ total_of latch_count ws → a ≡ total_of gate_count ws → i + q + a ≤ sizes ws
leaves-size ws i q a e f g = omega (arith, e, f, g, (amounts ws).all)

-- so the regions behind them have room
regions-room : (assigned s z im lm i q a len : ℕ) → assigned ≤ 7 * s → im + lm ≤ z → i + q + a ≤ s → 16 * (z + s) + 1024 ≤ len
    → assigned + (im + lm) + (i + q + a + 1) + (4 * a + 1) + 2 * q + 2 * ((i + q + a) / 32 + 1) ≤ len
regions-room assigned s z im lm i q a len h k n f = omega arith

-- ---- the whole

module _ {l : Lists} {mc : AagCounts} {t : Totals} {buffer : Bytes} {pairs work₀ work₁ : List ℕ} (p : Reaches mc t buffer pairs work₀ work₁ (with_lists l) l.end) where
  pub inputs-can : CanLay mc t buffer pairs work₀ → CanMapAll (model_by leaf.Inputs mc) leaf.Inputs buffer pairs work₁ l.end
  inputs-can = leaves-can (roomy-inputs l) p

  module _ (work₂ : List ℕ) (r : Option ℕ) (g : MapsAll (model_by leaf.Inputs mc) leaf.Inputs buffer pairs work₁ l.end work₂ r) where
    pub inputs_wrong : r ≡ None → Lays mc t buffer pairs work₀ work₂ None
    inputs_wrong e m ws f = right-both m ws ∙ ap (λ (q : Bool). q && right_leaves leaf.Latches m ws) (leaves_wrong (roomy-inputs l) p work₂ r g e m ws f)

    module _ {b : ℕ} (e : r ≡ Some b) where
      listed : Reaches mc t buffer pairs work₀ work₂ (with_inputs l) b
      listed = leaves-next (roomy-inputs l) p work₂ r g e

      right : (m : Sections) (ws : List Sections) → Fitting mc t buffer pairs work₀ m ws → all (maps_right m) ws ≡ right_leaves leaf.Latches m ws
      right m ws f = right-both m ws ∙ ap (λ (q : Bool). q && right_leaves leaf.Latches m ws) (leaves-right (roomy-inputs l) p work₂ r g e m ws f)

      pub latches-can : CanLay mc t buffer pairs work₀ → CanMapAll (model_by leaf.Latches mc) leaf.Latches buffer pairs work₂ b
      latches-can = leaves-can (roomy-leaves l) listed

      module _ (work₃ : List ℕ) (r' : Option ℕ) (g' : MapsAll (model_by leaf.Latches mc) leaf.Latches buffer pairs work₂ b work₃ r') where
        pub latches_wrong : r' ≡ None → Lays mc t buffer pairs work₀ work₃ None
        latches_wrong e' m ws f = right m ws f ∙ leaves_wrong (roomy-leaves l) listed work₃ r' g' e' m ws f

        module _ {assigned : ℕ} (e' : r' ≡ Some assigned) where
          last : Reaches mc t buffer pairs work₀ work₃ (λ m ws. with_inputs l m ws ++ origins_at leaf.Latches b m ws ∷ []) assigned
          last = leaves-next (roomy-leaves l) listed work₃ r' g' e'

          fits : (m : Sections) (ws : List Sections) → Fitting mc t buffer pairs work₀ m ws → LayoutFits assigned mc t (length work₃)
          fits m ws f =
              let k = last.stage m ws f in
              let s = k.fitting.totals in
              record {
                fits =
                    regions-room assigned (sizes ws) (size m) mc.inputs mc.latches t.inputs t.latches t.gates (length work₃)
                    (assigned-most m ws l b assigned k.to_is) (model-size mc m f.model)
                    (leaves-size ws t.inputs t.latches t.gates s.inputs s.latches s.gates) k.fitting.room;
              }

          pub places_fit : CanLay mc t buffer pairs work₀ → LayoutFits assigned mc t (length work₃)
          places_fit s = fits s.m s.ws s.holds

          pub laid_out : {at : Layout} → at ≡ layout_of l b assigned mc t → Lays mc t buffer pairs work₀ work₃ (Some at)
          laid_out e'' m ws f = (
            right m ws f ∙ leaves-right (roomy-leaves l) listed work₃ r' g' e' m ws f,
            subst (λ (x : Layout). Ready buffer pairs m ws x work₃) (sym e'')
                (stage-ready l mc t buffer pairs work₃ b assigned m ws (last.stage m ws f) (fits m ws f)),
          )
