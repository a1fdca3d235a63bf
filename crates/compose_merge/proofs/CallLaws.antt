-- For callers: what is laid out can be merged, what was read stays, and what comes out is said of the composition.
use Prim.Native.Nat.{ℕ, ◌+◌, ◌≤◌}
use mathlib.Core.Bool.{true}
use mathlib.Core.List.{List, [], ◌∷◌}
use mathlib.Core.Path.{◌≡◌, refl, ap}
use native.Mathlib.Omega.{arith}
use lib.ListN.{length, take}
use Rattle.lists.specs.Answer.{got, refused, unless}
use Rattle.lists.specs.Parts.{Bytes, part}
use Rattle.lists.specs.Tests.{all, Each}
use Rattle.lists.proofs.KeptLaws.{take-kept}
use Rattle.lists.proofs.TestLaws.{each-so}
use Rattle.lists.proofs.WordLaws.{pairs-count}
use Rattle.witness_text.specs.declared.AagCounts.{AagCounts}
use Rattle.witness_read.specs.Sections.{Sections, variables}
use Rattle.compose_spec.specs.Composing.{maps_right, is_some, safety, composed, compose}
use Rattle.compose_spec.specs.Calling.{texts_in}
use Rattle.compose_spec.specs.Inner.Ranges.{InRange}
use Rattle.compose_spec.proofs.DemandLaws.{all_read}
use Rattle.compose_spec.proofs.NameLaws.{Granted}
use Rattle.compose_joint.specs.Inner.Joint.{total_of}
use Rattle.compose_gather.specs.declared.Totals.{Totals}
use Rattle.compose_gather.specs.Inner.Gathered.{word_total, Readable}
use Rattle.compose_gather.proofs.BlockLaws.{blocks-same}
use Rattle.compose_gather.proofs.TurnLaws.{total_small}
use Rattle.compose_layout.specs.declared.Layout.{Layout}
use Rattle.compose_layout.specs.Inner.Laid.{variable_total, Fitting, Regions, Ready, OfSome}
use Rattle.compose_merge.specs.declared.Merged.{Merged}
use Rattle.compose_merge.specs.Inner.Merged.{Mergeable, Done, Refuses}
use Rattle.compose_merge.proofs.BaseLaws.{stands-kept}

-- ---- before

-- the variables of all witnesses together
total_variables : (ws : List Sections) → total_of variables ws ≡ variable_total ws
total_variables [] = refl
total_variables (s ∷ ss) = omega (arith, total_variables ss)

module _ (buffer : Bytes) (pairs : List ℕ) (ws : List Sections) (r : Readable buffer pairs ws) where
  -- witnesses that are read are in range
  pub readable-range : Each InRange ws
  readable-range = each-so Granted InRange (λ w g. g.range) ws (all_read (texts_in buffer pairs) ws r.reads).granted

  -- and not too many
  pub readable-few : variable_total ws ≤ 128000000
  readable-few =
      omega (
        arith,
        total_variables ws,
        total_small (texts_in buffer pairs) ws r.reads,
        pairs-count (λ (o n : ℕ). part buffer o (o + n)) pairs,
        r.pairs_hold.few,
      )

module _ (mc : AagCounts) (t : Totals) (buffer : Bytes) (pairs work₀ work : List ℕ) (m : Sections) (ws : List Sections) (at : Layout) (f : Fitting mc t buffer pairs work₀ m ws) (r : Ready buffer pairs m ws at work) where
  -- what is laid out can be merged
  pub ready_merge : Mergeable mc t at work m ws
  ready_merge =
      record {
        model = record { inputs = ap (λ (n : AagCounts). n.inputs) f.model; latches = ap (λ (n : AagCounts). n.latches) f.model };
        totals = f.totals;
        base =
            record {
              plan = record { regions = r.regions; range = readable-range buffer pairs ws f.readable; few = readable-few buffer pairs ws f.readable };
              fits = r.fits;
              stands = r.listed.stands;
            };
      }

  -- as `merge` asks for
  pub ready-can : OfSome (Mergeable mc t at work)
  ready-can = record { m = m; ws = ws; holds = ready_merge }

-- ---- after

-- the words of the texts stand in front of the assigned numbers
words-ahead : (m : Sections) (ws : List Sections) (at : Layout) → Regions m ws at → word_total ws ≤ at.assigned
words-ahead m ws at r = omega (arith, r.latches, r.operands, r.safety, r.constraints, r.input_origins, r.latch_origins, r.assigned)

-- what was laid out stays
pub ready-kept : (buffer : Bytes) (pairs : List ℕ) (m : Sections) (ws : List Sections) (at : Layout) (work work' : List ℕ) → take at.assigned work' ≡ take at.assigned work
    → length work' ≡ length work → Ready buffer pairs m ws at work → Ready buffer pairs m ws at work'
ready-kept buffer pairs m ws at work work' e n r =
    record {
      regions = r.regions;
      listed =
          record {
            blocks =
                blocks-same (texts_in buffer pairs) ws work work' (take-kept work' work at.assigned e (word_total ws) (words-ahead m ws at r.regions)) r.listed.blocks;
            stands = stands-kept at work work' m ws r.regions e n r.listed.stands;
          };
      fits = omega (arith, r.fits, n);
    }

module _ (m : Sections) (ws : List Sections) (right : all (maps_right m) ws ≡ true) where
  -- 17 or 18 is what the composer answers, where 16 does not apply
  pub refused-composes : (k : ℕ) → Refuses m ws k → compose m ws ≡ refused k
  unfolding compose
  refused-composes k h = rw right (h (unless 19 (all (λ s. is_some (safety s)) ws) (got (composed m ws))))

  -- and where neither applies only 19 is left
  pub done-composes : (at : Layout) (work work' : List ℕ) (c : Merged) → Done m ws at work work' c
      → compose m ws ≡ unless 19 (all (λ s. is_some (safety s)) ws) (got (composed m ws))
  unfolding compose
  done-composes at work work' c d = rw (right, d.fits, d.agrees) refl
