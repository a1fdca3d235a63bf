-- Laws of laying out region by region: the origins.
use Rattle.std.specs.Prelude.{Option, Some, None, ℕ, ◌+◌, ◌*◌, ◌≤◌, ◌<◌}
use mathlib.Core.Bool.{Bool, true, false, ◌&&◌}
use mathlib.Core.List.{List, [], ◌∷◌, ◌++◌}
use mathlib.Core.Path.{◌≡◌, refl, sym, ap, ◌∙◌, subst}
use native.Mathlib.Omega.{arith}
use lib.ListN.{length}
use Rattle.lists.specs.Parts.{Bytes}
use Rattle.lists.specs.Tests.{all}
use Rattle.lists.proofs.BoolLaws.{and_swap}
use Rattle.witness_text.specs.declared.AagCounts.{AagCounts}
use Rattle.witness_read.specs.Sections.{Sections}
use Rattle.witness_read.specs.Reading.{counts_in}
use Rattle.compose_spec.specs.declared.ModelLeaves.{ModelLeaves}
use Rattle.compose_spec.specs.Mapping.{maps_by_name}
use Rattle.compose_spec.specs.Composing.{leaves_right, maps_right}
use Rattle.compose_spec.specs.Calling.{sizes}
use Rattle.compose_joint.specs.declared.Leaves.{Leaves}
use Rattle.compose_joint.specs.declared.Leaves.TheVariants as leaf
use Rattle.compose_joint.specs.Inner.Joint.{total_of, names_of, model_of, origins}
use Rattle.compose_joint.proofs.AmountLaws.{origins-length}
use Rattle.compose_gather.specs.declared.Totals.{Totals}
use Rattle.compose_gather.specs.Inner.Gathered.{leaf_count_of}
use Rattle.compose_origins.specs.Inner.Mapped.{CanMapAll, AllOrigins, MapsAll}
use Rattle.compose_layout.specs.declared.Lists.{Lists}
use Rattle.compose_layout.specs.Inner.Laid.{Known, known_length, Reaches, Fitting, CanLay, with_lists}
use Rattle.compose_layout.proofs.RoomLaws.{amounts}
use Rattle.compose_layout.proofs.StageLaws.{stage-behind, stage-more}

-- ---- 16 of inputs and of latches

-- 16 does not apply because of the inputs, or of the latches
abbrev pub right_leaves : Leaves → Sections → List Sections → Bool
right_leaves leaf m ws = all (λ s. leaves_right (model_of leaf m) (maps_by_name s) (names_of leaf s)) ws

pub right-both : (m : Sections) (ws : List Sections) → all (maps_right m) ws ≡ (right_leaves leaf.Inputs m ws && right_leaves leaf.Latches m ws)
right-both m [] = refl
right-both m (s ∷ ss) =
    ap (λ (q : Bool). maps_right m s && q) (right-both m ss)
    ∙ and_swap (leaves_right (model_of leaf.Inputs m) (maps_by_name s) (names_of leaf.Inputs s)) (leaves_right (model_of leaf.Latches m) (maps_by_name s) (names_of leaf.Latches s))
    (right_leaves leaf.Inputs m ss) (right_leaves leaf.Latches m ss)

-- ---- origins behind lists

-- origins at their place
abbrev pub origins_at : Leaves → ℕ → Sections → List Sections → Known
origins_at leaves a m ws = record { place = a; words = origins leaves m ws }

-- the lists, and the origins of the inputs behind them
abbrev pub with_inputs : Lists → Sections → List Sections → List Known
with_inputs l m ws = with_lists l m ws ++ origins_at leaf.Inputs l.end m ws ∷ []

-- the lists so far and the origins have room
pub record RoomyLeaves (ks : Sections → List Sections → List Known) (leaves : Leaves) : Type 0 where
  pub most : (m : Sections) (ws : List Sections) → known_length (ks m ws) + total_of (leaf_count_of leaves) ws ≤ 3 * sizes ws

-- the model's inputs, or latches, by its counts
abbrev pub model_by : Leaves → AagCounts → ModelLeaves
model_by leaf.Inputs mc = record { before = 0; count = mc.inputs }
model_by leaf.Latches mc = record { before = mc.inputs; count = mc.latches }

model_is : (leaves : Leaves) (mc : AagCounts) (m : Sections) → mc ≡ counts_in m → model_by leaves mc ≡ model_of leaves m
model_is leaf.Inputs mc m e = rw e refl
model_is leaf.Latches mc m e = rw e refl

model-few : (leaves : Leaves) (m : Sections) → (model_of leaves m).before + (model_of leaves m).count ≤ length m.inputs + length m.latches
model-few leaf.Inputs m = omega arith
model-few leaf.Latches m = omega arith

module _ {ks : Sections → List Sections → List Known} {leaves : Leaves} (roomy : RoomyLeaves ks leaves) {mc : AagCounts} {t : Totals} {buffer : Bytes} {pairs work₀ work : List ℕ} {to : ℕ}
    (p : Reaches mc t buffer pairs work₀ work ks to) where
  room : (m : Sections) (ws : List Sections) → Fitting mc t buffer pairs work₀ m ws → to + total_of (leaf_count_of leaves) ws ≤ length work
  room m ws f =
      let k = p.stage m ws f in
      let n = amounts ws in
      omega (arith, roomy.most m ws, k.to_is, k.fitting.room, n.words, n.all)

  pub leaves-can : CanLay mc t buffer pairs work₀ → CanMapAll (model_by leaves mc) leaves buffer pairs work to
  leaves-can s =
      let k = p.stage s.m s.ws s.holds in
      record {
        gather =
            record {
              ws = s.ws;
              readable = k.fitting.readable;
              blocks = k.blocks;
              behind = stage-behind mc t buffer pairs work (ks s.m s.ws) to s.m s.ws k;
              room = room s.m s.ws s.holds;
            };
        few =
            subst (λ (q : ModelLeaves). q.before + q.count < 1073741824) (sym (model_is leaves mc s.m k.fitting.model))
            (omega (arith, k.fitting.few, model-few leaves s.m));
      }

  module _ (work' : List ℕ) (r : Option ℕ) (g : MapsAll (model_by leaves mc) leaves buffer pairs work to work' r) where
    made : (m : Sections) (ws : List Sections) → Fitting mc t buffer pairs work₀ m ws → AllOrigins (model_of leaves m) leaves ws work to work' r
    made m ws f = subst (λ (q : ModelLeaves). AllOrigins q leaves ws work to work' r) (model_is leaves mc m f.model) (g ws f.readable)

    pub leaves_wrong : r ≡ None → (m : Sections) (ws : List Sections) → Fitting mc t buffer pairs work₀ m ws → right_leaves leaves m ws ≡ false
    leaves_wrong e m ws f = subst (AllOrigins (model_of leaves m) leaves ws work to work') e (made m ws f)

    module _ {b : ℕ} (e : r ≡ Some b) where
      stored : (m : Sections) (ws : List Sections) → Fitting mc t buffer pairs work₀ m ws → AllOrigins (model_of leaves m) leaves ws work to work' (Some b)
      stored m ws f = subst (AllOrigins (model_of leaves m) leaves ws work to work') e (made m ws f)

      pub leaves-right : (m : Sections) (ws : List Sections) → Fitting mc t buffer pairs work₀ m ws → right_leaves leaves m ws ≡ true
      leaves-right m ws f = (stored m ws f).0

      pub leaves-next : Reaches mc t buffer pairs work₀ work' (λ m ws. ks m ws ++ origins_at leaves to m ws ∷ []) b
      leaves-next =
          record {
            stage = λ m ws f.
                let n : length (origins leaves m ws) ≡ total_of (leaf_count_of leaves) ws = origins-length leaves m ws in
                let s = (stored m ws f).1 in
                stage-more mc t buffer pairs work (ks m ws) to m ws (p.stage m ws f) work' (origins leaves m ws) s.0 (omega (arith, n, room m ws f)) b
                (s.1 ∙ ap (λ (j : ℕ). to + j) (sym n));
          }
