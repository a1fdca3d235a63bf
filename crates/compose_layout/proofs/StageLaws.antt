-- Laws of laying out region by region: the lists of literals.
use Prim.Native.Nat.{ℕ, ◌+◌, ◌*◌, ◌≤◌}
use mathlib.Core.List.{List, [], ◌∷◌, ◌++◌}
use mathlib.Core.Path.{◌≡◌, refl, sym, ap, ap₂, ◌∙◌, subst}
use native.Mathlib.Omega.{arith}
use lib.ListN.{length, take}
use Rattle.lists.specs.Parts.{Bytes, put}
use Rattle.lists.proofs.AnswerLaws.{got_same}
use Rattle.lists.proofs.PartLaws.{put-take, put-length}
use Rattle.witness_text.specs.declared.AagCounts.{AagCounts}
use Rattle.witness_read.specs.Sections.{Sections}
use Rattle.compose_spec.specs.Calling.{sizes, texts_in}
use Rattle.compose_joint.specs.declared.Literals.{Literals}
use Rattle.compose_joint.specs.declared.Literals.TheVariants as literals
use Rattle.compose_joint.specs.Inner.Joint.{total_of, input_count, latch_count, joint_literals, gathered, joint, list_of}
use Rattle.compose_joint.proofs.AmountLaws.{joint-length}
use Rattle.compose_gather.specs.declared.Totals.{Totals}
use Rattle.compose_gather.specs.Inner.Gathered.{word_total, CanLoad, LoadsAll, CanGather, Gathers, literal_count, RightTotals}
use Rattle.compose_gather.proofs.BlockLaws.{blocks-same}
use Rattle.compose_layout.specs.Inner.Laid.{Has, Known, known_length, Stage, Reaches, CanList, literals_at, Fitting}
use Rattle.compose_layout.proofs.HasLaws.{has-put, standing-more, known_more}
use Rattle.compose_layout.proofs.RoomLaws.{amounts}

-- how long a joint list of literals is
pub literals_long : (kind : Literals) (ws : List Sections) → length (joint (list_of kind) ws) ≡ total_of (literal_count kind) ws
literals_long kind ws = joint-length (list_of kind) ws

-- other words of the same length do as well
pub fitting-same : (mc : AagCounts) (t : Totals) (buffer : Bytes) (pairs work work' : List ℕ) (m : Sections) (ws : List Sections) → length work' ≡ length work
    → Fitting mc t buffer pairs work m ws → Fitting mc t buffer pairs work' m ws
fitting-same mc t buffer pairs work work' m ws e f = record { readable = f.readable; model = f.model; few = f.few; totals = f.totals; room = omega (arith, f.room) }

-- ---- any list behind others

module _ (mc : AagCounts) (t : Totals) (buffer : Bytes) (pairs work : List ℕ) (ks : List Known) (to : ℕ) (m : Sections) (ws : List Sections) (k : Stage mc t buffer pairs work ks to m ws) where
  pub stage-behind : word_total ws ≤ to
  stage-behind = omega (arith, k.to_is)

  module _ (work' ys : List ℕ) (e : work' ≡ put work to ys) (fits : to + length ys ≤ length work) where
    same : length work' ≡ length work
    same = ap length e ∙ put-length work to ys fits

    kept : (n : ℕ) → n ≤ to → take n work' ≡ take n work
    kept n h = ap (take n) e ∙ put-take work to ys (omega arith) n h

    pub stage-more : (to' : ℕ) → to' ≡ to + length ys → Stage mc t buffer pairs work' (ks ++ record { place = to; words = ys } ∷ []) to' m ws
    stage-more to' f =
        record {
          fitting = fitting-same mc t buffer pairs work work' m ws same k.fitting;
          blocks = blocks-same (texts_in buffer pairs) ws work work' (kept (word_total ws) stage-behind) k.blocks;
          standing =
              standing-more work work' to (word_total ws) ks (record { place = to; words = ys }) (kept to (omega arith)) same k.to_is refl
              (subst (λ (l : List ℕ). Has l to ys) (sym e) (has-put work to ys fits)) k.standing;
          to_is = omega (arith, f, k.to_is, known_more ks (record { place = to; words = ys }));
        }

  module _ (kind : Literals) (room : to + total_of (literal_count kind) ws ≤ length work) where
    pub can-gather : CanGather (literal_count kind) buffer pairs work to
    can-gather = record { ws = ws; readable = k.fitting.readable; blocks = k.blocks; behind = stage-behind; room = room }

    pub stage-gathered : (work' : List ℕ) (r : ℕ) → Gathers (joint_literals (list_of kind) t.inputs t.latches) (literal_count kind) buffer pairs work to work' r
        → Stage mc t buffer pairs work' (ks ++ record { place = to; words = joint (list_of kind) ws } ∷ []) r m ws
    stage-gathered work' r g =
        let made = g ws k.fitting.readable in
        let words : gathered (joint_literals (list_of kind) t.inputs t.latches) ws ≡ joint (list_of kind) ws =
        ap₂ (λ (i q : ℕ). gathered (joint_literals (list_of kind) i q) ws) k.fitting.totals.inputs k.fitting.totals.latches in
        let long : length (joint (list_of kind) ws) ≡ total_of (literal_count kind) ws = literals_long kind ws in
        stage-more work' (joint (list_of kind) ws) (made.0 ∙ ap (put work to) words) (omega (arith, long, room)) r (made.1 ∙ ap (λ (j : ℕ). to + j) (sym long))

-- ---- a list in its turn

-- the lists so far and the next one have room
pub record Roomy (ks : Sections → List Sections → List Known) (kind : Literals) : Type 0 where
  pub most : (m : Sections) (ws : List Sections) → known_length (ks m ws) + total_of (literal_count kind) ws ≤ 3 * sizes ws

-- the totals are those of the witnesses
pub list_totals : {t : Totals} {buffer : Bytes} {pairs work : List ℕ} → CanList t buffer pairs work → RightTotals buffer pairs t.inputs t.latches
list_totals k vs r =
    let s = k.can in
    let f = s.holds in
    let e : s.ws ≡ vs = got_same s.ws vs (sym f.readable.reads ∙ r.reads) in
    (f.totals.inputs ∙ ap (total_of input_count) e, f.totals.latches ∙ ap (total_of latch_count) e)

-- the witnesses can be loaded
pub list_load : {t : Totals} {buffer : Bytes} {pairs work : List ℕ} → CanList t buffer pairs work → CanLoad buffer pairs work
list_load k =
    let s = k.can in
    let n = amounts s.ws in
    record { ws = s.ws; readable = s.holds.readable; room = omega (arith, n.words, n.all, s.holds.room) }

-- and then no list stands yet
pub loaded : {mc : AagCounts} {t : Totals} {buffer : Bytes} {pairs work work' : List ℕ} {a : ℕ} → length work' ≡ length work → LoadsAll buffer pairs work' a
    → Reaches mc t buffer pairs work work' (λ m ws. []) a
loaded {mc} {t} {buffer} {pairs} {work} {work'} {a} same g =
    record {
      stage = λ m ws f.
          let x = g ws f.readable in
          record { fitting = fitting-same mc t buffer pairs work work' m ws same f; blocks = x.0; standing = tt; to_is = omega (arith, x.1) };
    }

module _ {ks : Sections → List Sections → List Known} {kind : Literals} (roomy : Roomy ks kind) {t : Totals} {buffer : Bytes} {pairs work' : List ℕ} {to : ℕ} where
  room : {mc : AagCounts} (m : Sections) (ws : List Sections) → Stage mc t buffer pairs work' (ks m ws) to m ws → to + total_of (literal_count kind) ws ≤ length work'
  room m ws k = let n = amounts ws in omega (arith, roomy.most m ws, k.to_is, k.fitting.room, n.words, n.all)

  pub turn-can : {work : List ℕ} → ((mc : AagCounts) → Reaches mc t buffer pairs work work' ks to) → CanList t buffer pairs work → CanGather (literal_count kind) buffer pairs work' to
  turn-can p c =
      let s = c.can in
      let k = (p c.counts).stage s.m s.ws s.holds in
      can-gather c.counts t buffer pairs work' (ks s.m s.ws) to s.m s.ws k kind (room s.m s.ws k)

  pub turn-next : {mc : AagCounts} {work work'' : List ℕ} {b : ℕ} → Reaches mc t buffer pairs work work' ks to
      → Gathers (joint_literals (list_of kind) t.inputs t.latches) (literal_count kind) buffer pairs work' to work'' b
      → Reaches mc t buffer pairs work work'' (λ m ws. ks m ws ++ literals_at kind to ws ∷ []) b
  turn-next {mc} {work} {work''} {b} p g =
      record {
        stage = λ m ws f.
            let k = p.stage m ws f in
            stage-gathered mc t buffer pairs work' (ks m ws) to m ws k kind (room m ws k) work'' b g;
      }

-- ---- the lists have room

pub roomy-latches : Roomy (λ m ws. []) literals.Latches
roomy-latches = record { most = λ m ws. let n = amounts ws in omega (arith, n.latches, n.all) }

pub roomy-operands : {a : ℕ} → Roomy (λ m ws. literals_at literals.Latches a ws ∷ []) literals.Operands
roomy-operands =
    record { most = λ m ws. let n = amounts ws in omega (arith, n.latches, n.operands, n.all, literals_long literals.Latches ws) }

pub roomy-safety : {a b : ℕ} → Roomy (λ m ws. literals_at literals.Latches a ws ∷ literals_at literals.Operands b ws ∷ []) literals.Safety
roomy-safety =
    record {
      most = λ m ws.
          let n = amounts ws in
          omega (arith, n.latches, n.operands, n.safety, n.all, literals_long literals.Latches ws, literals_long literals.Operands ws);
    }

pub roomy-constraints : {a b c : ℕ}
    → Roomy (λ m ws. literals_at literals.Latches a ws ∷ literals_at literals.Operands b ws ∷ literals_at literals.Safety c ws ∷ []) literals.Constraints
roomy-constraints =
    record {
      most = λ m ws.
          let n = amounts ws in
          omega (
            arith,
            n.latches,
            n.operands,
            n.safety,
            n.constraints,
            n.all,
            literals_long literals.Latches ws,
            literals_long literals.Operands ws,
            literals_long literals.Safety ws,
          );
    }
