-- Laws of the origins of all witnesses.
use Rattle.std.specs.Prelude.{ℕ, ◌+◌, ◌/◌, ◌≤◌, ◌<◌, Some, None}
use mathlib.Core.Bool.{Bool, ◌&&◌}
use mathlib.Core.List.{List, []}
use mathlib.Core.Path.{◌≡◌, sym, ap, ◌∙◌, subst}
use native.Mathlib.Omega.{arith}
use lib.ListN.{length, drop, get_or}
use Rattle.lists.specs.Parts.{Bytes}
use Rattle.lists.specs.Tests.{all}
use Rattle.lists.proofs.AnswerLaws.{got_same}
use Rattle.witness_text.specs.declared.AagCounts.{AagCounts}
use Rattle.witness_read.specs.Sections.{Sections}
use Rattle.witness_read.specs.Reading.{counts_in}
use Rattle.witness_load.specs.Inner.Loaded.{word_count}
use Rattle.compose_spec.specs.declared.ModelLeaves.{ModelLeaves}
use Rattle.compose_spec.specs.Mapping.{maps_by_name}
use Rattle.compose_spec.specs.Calling.{texts_in}
use Rattle.compose_joint.specs.declared.Before.{Before}
use Rattle.compose_joint.specs.declared.Leaves.{Leaves}
use Rattle.compose_joint.specs.Inner.Joint.{nothing_before, beyond, names_of, leaf_counts}
use Rattle.compose_joint.proofs.AmountLaws.{origin-words}
use Rattle.compose_gather.specs.Inner.Counts.{CountsOf}
use Rattle.compose_gather.specs.Inner.Gathered.{words_for, Block, Readable, leaf_count_of}
use Rattle.compose_gather.proofs.TextLaws.{FirstRead, Left, left-more, left-none}
use Rattle.compose_gather.proofs.CountLaws.{counts-leaves}
use Rattle.compose_gather.proofs.CheckLaws.{read_counted}
use Rattle.compose_gather.proofs.BlockLaws.{words_for_lem, block-kept}
use Rattle.compose_gather.proofs.GatherLaws.{Gathering, Next, gathering-none, gathering-next, gathering-end}
use Rattle.compose_origins.specs.Inner.Mapped.{CanMapWitness, origins_by, right_by, WitnessOrigins, MapsWitness, CanMapAll, MapsAll}

-- the witnesses before number w have right literals, and their origins stand there
pub record Mapping (p : ModelLeaves) (leaves : Leaves) (buffer : Bytes) (pairs work₀ work : List ℕ) (to from at w : ℕ) : Type 0 where
  pub b : Before
  pub gathering : Gathering (origins_by p leaves) (leaf_count_of leaves) buffer pairs work₀ work to from at b w
  pub right : (ws rest : List Sections) → Readable buffer pairs ws → Left buffer pairs w rest → all (right_by p leaves) rest ≡ all (right_by p leaves) ws
  pub few : p.before + p.count < 1073741824

pub mapping-none : (p : ModelLeaves) (leaves : Leaves) (buffer : Bytes) (pairs work : List ℕ) (to : ℕ) → CanMapAll p leaves buffer pairs work to → Mapping p leaves buffer pairs work work to 0 to 0
mapping-none p leaves buffer pairs work to k =
    record {
      b = nothing_before;
      gathering = gathering-none (origins_by p leaves) (leaf_count_of leaves) buffer pairs to work k.gather;
      right = λ ws rest r l. ap (all (right_by p leaves)) (got_same rest ws (sym l ∙ r.reads));
      few = k.few;
    }

module _ (p : ModelLeaves) (leaves : Leaves) (buffer : Bytes) (pairs work₀ work : List ℕ) (to from at w count : ℕ) (k : Mapping p leaves buffer pairs work₀ work to from at w) (number : count ≡ length pairs / 2) where
  pub mapping-end : count ≤ w → MapsAll p leaves buffer pairs work₀ to work (Some at)
  mapping-end h ws r =
      let g = gathering-end (origins_by p leaves) (leaf_count_of leaves) buffer pairs to work₀ work from at k.b w count k.gathering number h ws r in
      let none : k.gathering.rest ≡ [] = left-none buffer pairs w k.gathering.rest k.gathering.left (omega arith) in
      (sym (k.right ws k.gathering.rest r k.gathering.left) ∙ ap (all (right_by p leaves)) none, (g.0, g.1))

  module _ (less : w < count) (t : Bytes) (is : t ≡ get_or (texts_in buffer pairs) w []) (n : AagCounts) (c : CountsOf (get_or (texts_in buffer pairs) w []) n) where
    next : Next (origins_by p leaves) (leaf_count_of leaves) buffer pairs work₀ work to from at k.b w k.gathering.ws
    next = gathering-next (origins_by p leaves) (leaf_count_of leaves) buffer pairs to work₀ work from at k.b w count k.gathering number less

    counts : n ≡ counts_in next.first
    counts = c next.first next.reads

    short : words_for n ≡ word_count next.first
    short = ap words_for counts ∙ sym (words_for_lem next.first)

    leaves-same : leaf_counts leaves n ≡ leaf_count_of leaves next.first
    leaves-same = ap (leaf_counts leaves) counts ∙ counts-leaves leaves next.first

    pub mapping-behind : from + words_for n ≤ at
    mapping-behind = omega (arith, short, next.behind, next.onward)

    block : Block t next.first (drop from work)
    block =
        block-kept t next.first work₀ work to from next.kept next.behind
        (subst (λ (x : Bytes). Block x next.first (drop from work₀)) (sym is) next.block)

    pub mapping-can : CanMapWitness p leaves t n work from w at
    mapping-can =
        let m = read_counted (get_or (texts_in buffer pairs) w []) next.first next.reads in
        record {
          sections = next.first;
          counts = counts;
          block = block;
          few = record { model = k.few; number = omega (arith, ap (λ (x : AagCounts). x.inputs + x.latches) counts, m.sum, m.most) };
          witness = omega (arith, k.gathering.readable.pairs_hold.few);
          behind = mapping-behind;
          room = omega (arith, leaves-same, next.room, next.same);
        }

    module _ (work' : List ℕ) where
      rest_read : FirstRead (get_or (texts_in buffer pairs) w []) (drop (w + 1) (texts_in buffer pairs)) k.gathering.rest
      rest_read = left-more buffer pairs w k.gathering.rest k.gathering.left (omega arith)

      -- 16 of this witness and of those after it
      split : (ws : List Sections) → Readable buffer pairs ws → (right_by p leaves next.first && all (right_by p leaves) rest_read.others) ≡ all (right_by p leaves) ws
      split ws a =
          ap (λ (s : Sections). right_by p leaves s && all (right_by p leaves) rest_read.others) (got_same next.first rest_read.first (sym next.reads ∙ rest_read.reads))
          ∙ (ap (all (right_by p leaves)) (sym rest_read.is) ∙ k.right ws k.gathering.rest a k.gathering.left)

      pub mapping_wrong : MapsWitness p leaves t n work from w at work' None → MapsAll p leaves buffer pairs work₀ to work' None
      mapping_wrong maps ws a =
          sym (split ws a) ∙ ap (λ (q : Bool). q && all (right_by p leaves) rest_read.others) (maps.maps next.first counts block)

      pub mapping-more : (e from' : ℕ) → MapsWitness p leaves t n work from w at work' (Some e) → from' ≡ from + words_for n → Mapping p leaves buffer pairs work₀ work' to from' e (w + 1)
      mapping-more e from' maps g =
          let m : WitnessOrigins p leaves n w next.first work at work' (Some e) = maps.maps next.first counts block in
          let long : length (origins_by p leaves w k.b next.first) ≡ leaf_count_of leaves next.first = origin-words p w (maps_by_name next.first) 0 (names_of leaves next.first) in
          let x : from + word_count next.first ≡ from' = omega (arith, short, g) in
          let y : at + leaf_count_of leaves next.first ≡ e = omega (arith, m.1.1, leaves-same) in
          record {
            b = beyond k.b next.first;
            gathering =
                subst (λ (j : ℕ). Gathering (origins_by p leaves) (leaf_count_of leaves) buffer pairs work₀ work' to j e (beyond k.b next.first) (w + 1)) x
                (subst (λ (j : ℕ). Gathering (origins_by p leaves) (leaf_count_of leaves) buffer pairs work₀ work' to (from + word_count next.first) j (beyond k.b next.first) (w + 1)) y
                (next.goes work' m.1.0 long));
            right = λ ws rest a l.
                ap (all (right_by p leaves)) (got_same rest rest_read.others (sym l ∙ rest_read.read_others))
                ∙ (ap (λ (q : Bool). q && all (right_by p leaves) rest_read.others) (sym m.0) ∙ split ws a);
            few = k.few;
          }
