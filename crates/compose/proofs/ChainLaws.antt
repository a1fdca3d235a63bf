-- Laws of the composer from the call down to what is laid out: each function's answer from that of the next.
use Rattle.std.specs.Prelude.{Option, Some, None, is_some, Result, Ok, Err}
use Rattle.std.specs.Result.{IsErrAnd}
use Rattle.aiger.specs.declared.Refusal.{Refusal}
use Rattle.aiger.specs.declared.Refusal.TheVariants as refusal
use Rattle.aiger.specs.Refusals.{refusal_number}
use Rattle.aiger.proofs.AnsweredLaws.{answered-err}
use Prim.Native.Nat.{ℕ, ◌+◌, ◌*◌}
use mathlib.Core.Bool.{Bool, true, false, not}
use mathlib.Core.List.{List, [], ◌∷◌}
use mathlib.Core.Path.{◌≡◌, refl, sym, ap, ap₂, ◌∙◌, subst}
use native.Mathlib.Omega.{arith}
use borrow.Author.Tests.{leb-true}
use lib.Dec.{leb}
use lib.ListN.{length}
use Rattle.lists.specs.Answer.{Answer, got, refused, and_then}
use Rattle.lists.specs.Parts.{Bytes}
use Rattle.lists.proofs.AnswerLaws.{got_same, got-refused}
use Rattle.lists.specs.Tests.{all}
use Rattle.witness_text.specs.declared.AagCounts.{AagCounts}
use Rattle.witness_read.specs.Sections.{Sections}
use Rattle.witness_read.specs.Reading.{counts_in}
use Rattle.compose_spec.specs.Composing.{maps_right, compose}
use Rattle.compose_spec.specs.Calling.{size, sizes, read_all, compose_sections, texts_in, compose_read}
use Rattle.compose_joint.specs.Inner.Joint.{total_of, input_count, latch_count, gate_count}
use Rattle.compose_gather.specs.declared.Totals.{Totals}
use Rattle.compose_gather.specs.Inner.Counts.{ChecksAll}
use Rattle.compose_gather.specs.Inner.Checking.{less, room_after, added_counts, FewInOrder, totals_from, checked_from, none_yet}
use Rattle.compose_layout.specs.declared.Layout.{Layout}
use Rattle.compose_layout.specs.Inner.Laid.{Fitting, LaidOut, CanLay, Lays}
use Rattle.compose_layout.proofs.StageLaws.{fitting-same}
use Rattle.compose.specs.Inner.Steps.{first_room, Answers, ModelIs, ModelSome, ComposesWitnesses, ComposesFitting, LaidRight, LaidSome, ComposesLaid}
use Rattle.compose_gather.proofs.RoomLaws.{less-zero, less-less, after-less}
use Rattle.compose.proofs.RoomLaws.{room-enough}

-- a refusal leaves the result bytes as they are
pub refuses : (out : Bytes) (answer : Answer Bytes) (m : Refusal) → answer ≡ refused (refusal_number m) → Answers out answer out (Err m)
refuses out answer m e = record { returns = rw e refl; result = rw e refl }

pub refuses_on : (out : Bytes) (answer : Answer Bytes) (m : Refusal) → answer ≡ refused (refusal_number m) → (r : Result ℕ Refusal) → IsErrAnd r (λ k. k ≡ m) → Answers out answer out r
refuses_on out answer m e r h = record { returns = answered-err m r h ∙ rw e refl; result = rw e refl }

pub answers-same : (out : Bytes) (a b : Answer Bytes) (out' : Bytes) (r : Result ℕ Refusal) → a ≡ b → Answers out b out' r → Answers out a out' r
answers-same out a b out' r e k = rw e k

-- ---- laid out

wrong_literal : (room : ℕ) (m : Sections) (ws : List Sections) → all (maps_right m) ws ≡ false → compose_sections room m ws ≡ refused 16
unfolding compose
wrong_literal room m ws e = rw e refl

module _ (mc : AagCounts) (t : Totals) (buffer : Bytes) (pairs work work' : List ℕ) (out : Bytes) (x : Option Layout) (l : Lays mc t buffer pairs work work' x) (same : length work' ≡ length work) where
  pub fitting_wrong : x ≡ None → ComposesFitting mc t buffer pairs work out out (Err refusal.Mapping)
  fitting_wrong e = record { each = λ m ws f. refuses out (compose_sections (length out) m ws) refusal.Mapping (wrong_literal (length out) m ws (subst (LaidOut buffer pairs m ws work') e (l m ws f))) }

  module _ (at : Layout) (e : x ≡ Some at) where
    right : (m : Sections) (ws : List Sections) → Fitting mc t buffer pairs work m ws → LaidRight mc t buffer pairs work' at m ws
    right m ws f =
        let o : LaidOut buffer pairs m ws work' (Some at) = subst (LaidOut buffer pairs m ws work') e (l m ws f) in
        record { fitting = fitting-same mc t buffer pairs work work' m ws same f; right = o.0; ready = o.1 }

    pub fitting_laid : CanLay mc t buffer pairs work → LaidSome mc t buffer pairs work' at
    fitting_laid k = record { m = k.m; ws = k.ws; holds = right k.m k.ws k.holds }

    pub fitting-composed : (out' : Bytes) (r : Result ℕ Refusal) → ComposesLaid mc t buffer pairs work' at out out' r → ComposesFitting mc t buffer pairs work out out' r
    fitting-composed out' r c = record { each = λ m ws f. c.each m ws (right m ws f) }

-- ---- the witnesses

-- what is counted of all witnesses
record Counts (t : Totals) (ws : List Sections) (u : Totals) : Type 0 where
  room : u.room ≡ less t.room (sizes ws)
  inputs : u.inputs ≡ t.inputs + total_of input_count ws
  latches : u.latches ≡ t.latches + total_of latch_count ws
  gates : u.gates ≡ t.gates + total_of gate_count ws

counts-are : (t : Totals) (ws : List Sections) → Counts t ws (totals_from t ws)
counts-are t [] = record { room = less-zero t.room; inputs = omega arith; latches = omega arith; gates = omega arith }
counts-are t (s ∷ ss) =
    let k = counts-are (added_counts t (counts_in s)) ss in
    record {
      room = k.room ∙ (ap (λ (x : Option ℕ). less x (sizes ss)) (after-less t.room (counts_in s)) ∙ less-less t.room (size s) (sizes ss));
      inputs = k.inputs ∙ omega arith;
      latches = k.latches ∙ omega arith;
      gates = k.gates ∙ omega arith;
    }

-- the answer of `check_all`, taken apart
checked_refused : (t : Totals) (a : Answer (List Sections)) (k : ℕ) → refused k ≡ checked_from t a → a ≡ refused k
checked_refused t (got ws) k e = let e : got (totals_from t ws) ≡ refused k = sym e in got-refused refl e
checked_refused t (refused n) k e = let s : n ≡ k = cc in ap refused s

checked_read : (t : Totals) (a : Answer (List Sections)) (u : Totals) → got u ≡ checked_from t a → (ws : List Sections) × (a ≡ got ws) × (u ≡ totals_from t ws)
checked_read t (got ws) u e = (ws, refl, got_same u (totals_from t ws) e)
checked_read t (refused n) u e = let e : refused n ≡ got u = sym e in got-refused e refl

module _ (mc : AagCounts) (buffer : Bytes) (pairs work : List ℕ) (out : Bytes) (first : Option ℕ) (f : first ≡ first_room (length work)) (room : Option ℕ) (a : room ≡ room_after first mc) (counts : List ℕ) where
  pub witnesses_refused : (m : Refusal) → ChecksAll room buffer pairs counts (Err m) → (r : Result ℕ Refusal) → IsErrAnd r (λ k. k ≡ m) → ComposesWitnesses mc buffer pairs work out out r
  witnesses_refused k checks r h =
      let f : read_all (texts_in buffer pairs) ≡ refused (refusal_number k) = checked_refused (none_yet room) (read_all (texts_in buffer pairs)) (refusal_number k) checks.is in
      record {
        each = λ m i.
            refuses_on out (and_then (read_all (texts_in buffer pairs)) (compose_read (length work) (length out) m)) k
            (ap (λ (z : Answer (List Sections)). and_then z (compose_read (length work) (length out) m)) f) r h;
      }

  module _ (t : Totals) (checks : ChecksAll room buffer pairs counts (Ok t)) (none : Bool) (q : is_some t.room ≡ not none) where
    all_read : (ws : List Sections) × (read_all (texts_in buffer pairs) ≡ got ws) × (t ≡ totals_from (none_yet room) ws)
    all_read = checked_read (none_yet room) (read_all (texts_in buffer pairs)) t checks.is

    counted : Counts (none_yet room) all_read.0 t
    counted = subst (Counts (none_yet room) all_read.0) (sym all_read.2) (counts-are (none_yet room) all_read.0)

    goes : (m : Sections) (y : Answer Bytes) → compose_read (length work) (length out) m all_read.0 ≡ y → and_then (read_all (texts_in buffer pairs)) (compose_read (length work) (length out) m) ≡ y
    goes m y f = ap (λ (z : Answer (List Sections)). and_then z (compose_read (length work) (length out) m)) all_read.1 ∙ f

    -- 15 by what is left of the room
    enough : (m : Sections) → ModelIs mc m → leb (16 * sizes (m ∷ all_read.0) + 1024) (length work) ≡ is_some t.room
    enough m i =
        let e : room ≡ less (first_room (length work)) (size m) = a ∙ (ap₂ room_after f i.counts ∙ after-less (first_room (length work)) (counts_in m)) in
        let g : t.room ≡ less (first_room (length work)) (sizes (m ∷ all_read.0)) =
        counted.room ∙ (ap (λ (x : Option ℕ). less x (sizes all_read.0)) e ∙ less-less (first_room (length work)) (size m) (sizes all_read.0)) in
        room-enough (length work) (sizes (m ∷ all_read.0)) ∙ ap is_some (sym g)

    pub witnesses_short : none ≡ true → ComposesWitnesses mc buffer pairs work out out (Err refusal.ComposingRoom)
    witnesses_short z =
        record {
          each = λ m i.
              refuses out (and_then (read_all (texts_in buffer pairs)) (compose_read (length work) (length out) m)) refusal.ComposingRoom
              (goes m (refused 15) (rw (enough m i ∙ (q ∙ ap not z)) refl));
        }

    module _ (z : none ≡ false) (cut : FewInOrder buffer pairs) where
      long_enough : (m : Sections) → ModelIs mc m → leb (16 * sizes (m ∷ all_read.0) + 1024) (length work) ≡ true
      long_enough m i = enough m i ∙ (q ∙ ap not z)

      fitting : (m : Sections) → ModelIs mc m → Fitting mc t buffer pairs work m all_read.0
      fitting m i =
          record {
            readable = record { pairs_hold = cut; reads = all_read.1 };
            model = i.counts;
            few = i.few;
            totals = record { inputs = counted.inputs ∙ omega arith; latches = counted.latches ∙ omega arith; gates = counted.gates ∙ omega arith };
            room = leb-true (16 * sizes (m ∷ all_read.0) + 1024) (length work) (long_enough m i);
          }

      pub witnesses_fit : ModelSome mc → CanLay mc t buffer pairs work
      witnesses_fit k = record { m = k.m; ws = all_read.0; holds = fitting k.m k.is }

      pub witnesses_composed : (out' : Bytes) (r : Result ℕ Refusal) → ComposesFitting mc t buffer pairs work out out' r → ComposesWitnesses mc buffer pairs work out out' r
      witnesses_composed out' r h =
          record {
            each = λ m i.
                answers-same out (and_then (read_all (texts_in buffer pairs)) (compose_read (length work) (length out) m)) (compose_sections (length out) m all_read.0) out' r
                (goes m (compose_sections (length out) m all_read.0) (rw (long_enough m i) refl)) (h.each m all_read.0 (fitting m i));
          }
