-- Laws of the first pass: the words that are read before they are written are cleared.
use Prim.Native.Nat.{ℕ, ◌+◌, ◌-◌, ◌≤◌}
use mathlib.Core.List.{List}
use mathlib.Core.Path.{◌≡◌, ap, subst, ◌∙◌}
use native.Mathlib.Omega.{arith}
use lib.ListN.{length, take}
use Rattle.lists.specs.Parts.{part, put, zeros}
use Rattle.lists.proofs.KeptLaws.{take-kept}
use Rattle.lists.proofs.PartLaws.{put-length, put-take}
use Rattle.lists.proofs.ZeroLaws.{zeros-length}
use Rattle.witness_text.specs.declared.AagCounts.{AagCounts}
use Rattle.witness_read.specs.Sections.{Sections}
use Rattle.compose_numbers.proofs.CallLaws.{cleared-part}
use Rattle.compose_gather.specs.declared.Totals.{Totals}
use Rattle.compose_layout.specs.declared.Layout.{Layout}
use Rattle.compose_joint.specs.Inner.Joint.{total_of, gate_count}
use Rattle.compose_layout.specs.Inner.Laid.{Regions, OfSome, Summed}
use Rattle.compose_merge.specs.Inner.Merged.{Base, Model, Mergeable}
use Rattle.compose_merge.specs.Inner.Stages.{Clean, Clearable, Clears}
use Rattle.compose_merge.proofs.WordLaws.{clean-before}
use Rattle.compose_merge.proofs.BaseLaws.{base_kept, Step}

-- ---- the three regions

-- one region
module _ (work work' : List ℕ) (from to : ℕ) (h : from ≤ to) (k : to ≤ length work) (is : work' ≡ put work from (zeros (to - from))) where
  -- no word more or less
  length-kept : length work' ≡ length work
  length-kept = ap length is ∙ put-length work from (zeros (to - from)) (omega (arith, zeros-length (to - from)))

  -- nothing in front of it is written
  front_kept : take from work' ≡ take from work
  front_kept = ap (take from) is ∙ put-take work from (zeros (to - from)) (omega arith) from (omega arith)

  -- it is 0
  now-clean : Clean work' from to
  now-clean = record { is = ap (λ (w : List ℕ). part w from to) is ∙ cleared-part work from to h k }

-- each of them, and those in front of it stay
pub regions-cleared : (at : Layout) (gates : ℕ) (work leaves heads bits : List ℕ) → Clearable at gates work → leaves ≡ put work at.assigned (zeros (at.vars + 1 - at.assigned))
    → heads ≡ put leaves at.gates (zeros (at.gates + (gates + 1) - at.gates)) → bits ≡ put heads at.bad_bits (zeros (at.end - at.bad_bits)) → Clears at gates work bits
regions-cleared at gates work leaves heads bits c a b d =
    let table_end : ℕ = at.vars + 1 in
    let heads_end : ℕ = at.gates + (gates + 1) in
    let i : at.assigned ≤ table_end = omega (arith, c.leaves) in
    let j : table_end ≤ length work = omega (arith, c.heads, c.bits, c.ends, c.fits) in
    let n : length leaves ≡ length work = length-kept work leaves at.assigned table_end i j a in
    let k : heads_end ≤ length leaves = omega (arith, n, c.bits, c.ends, c.fits) in
    let l : at.gates ≤ heads_end = omega arith in
    let o : length heads ≡ length leaves = length-kept leaves heads at.gates heads_end l k b in
    let p : at.end ≤ length heads = omega (arith, n, o, c.fits) in
    let first : take at.gates heads ≡ take at.gates leaves = front_kept leaves heads at.gates heads_end l k b in
    let second : take at.bad_bits bits ≡ take at.bad_bits heads = front_kept heads bits at.bad_bits at.end c.ends p d in
    record {
      leaves =
          clean-before heads at.assigned table_end
          (clean-before leaves at.assigned table_end (now-clean work leaves at.assigned table_end i j a) heads at.gates first c.heads)
          bits at.bad_bits second (omega (arith, c.heads, c.bits));
      heads = clean-before heads at.gates heads_end (now-clean leaves heads at.gates heads_end l k b) bits at.bad_bits second c.bits;
      bits = now-clean heads bits at.bad_bits at.end c.ends p d;
      before =
          take-kept bits heads at.bad_bits second at.assigned (omega (arith, c.leaves, c.heads, c.bits))
          ∙ take-kept heads leaves at.gates first at.assigned (omega (arith, c.leaves, c.heads))
          ∙ front_kept work leaves at.assigned table_end i j a;
    }

-- ---- the pass

-- the words that are read before they are written are 0
pub record Cleared (mc : AagCounts) (t : Totals) (at : Layout) (work : List ℕ) (m : Sections) (ws : List Sections) : Type 0 where
  pub model : Model mc m
  pub totals : Summed t ws
  pub base : Base at work m ws
  pub leaves : Clean work at.assigned (at.vars + 1)
  pub heads : Clean work at.gates (at.gates + (total_of gate_count ws + 1))
  pub bits : Clean work at.bad_bits at.end

module _ {mc : AagCounts} {t : Totals} {at : Layout} {work : List ℕ} where
  -- the regions have their order
  clearable : (m : Sections) (ws : List Sections) → Mergeable mc t at work m ws → Clearable at t.gates work
  clearable m ws k =
      let r : Regions m ws at = k.base.plan.regions in
      record {
        leaves = omega (arith, r.vars);
        heads = omega (arith, r.gates);
        bits = omega (arith, k.totals.gates, r.definitions, r.bad_bits);
        ends = omega (arith, r.constraint_bits, r.end);
        fits = k.base.fits;
      }

  -- the sums of the code are small
  pub sums_small : OfSome (Mergeable mc t at work)
      → (at.vars + 1 + t.inputs ≤ length work) × ((at.assigned + mc.inputs ≤ length work) × (1 + t.inputs + t.latches ≤ 128000001))
  sums_small s =
      let k = s.holds in
      let r = k.base.plan.regions in
      let e : at.gates ≤ length work = omega (arith, r.definitions, r.bad_bits, r.constraint_bits, r.end, k.base.fits) in
      (omega (arith, r.gates, k.totals.inputs, e), (omega (arith, r.vars, r.gates, k.model.inputs, e), omega (arith, k.totals.inputs, k.totals.latches, k.base.plan.few)))

  -- as the code asks for it
  pub clear-can : OfSome (Mergeable mc t at work) → Clearable at t.gates work
  clear-can s = clearable s.m s.ws s.holds

  module _ {work' : List ℕ} (same : length work' ≡ length work) (post : Clears at t.gates work work') where
    -- the next stage
    cleared : (m : Sections) (ws : List Sections) → Mergeable mc t at work m ws → Cleared mc t at work' m ws
    cleared m ws k =
        record {
          model = k.model;
          totals = k.totals;
          base = base_kept at work work' m ws post.before same k.base;
          leaves = post.leaves;
          heads = subst (λ (n : ℕ). Clean work' at.gates (at.gates + (n + 1))) k.totals.gates post.heads;
          bits = post.bits;
        }

    -- the pass as a step
    pub clear_step : Step (Mergeable mc t at work) (Cleared mc t at work') at work work'
    clear_step = record { next = cleared; kept = λ m ws k. post.before }
