-- Laws of gathering words of each witness, one list after the other.
use Prim.Native.Nat.{ℕ, ◌+◌, ◌/◌, ◌≤◌, ◌<◌}
use mathlib.Core.Bool.{true}
use mathlib.Core.List.{List, [], ◌∷◌, ◌++◌, append_assoc, append-nil}
use mathlib.Core.Path.{◌≡◌, refl, sym, ap, ◌∙◌, subst}
use native.Mathlib.Numerals.{add-one}
use native.Mathlib.Omega.{arith}
use lib.ListN.{length, take, drop, get_or, length-append}
use lib.Seq.{drop-drop}
use Rattle.lists.specs.Answer.{got}
use Rattle.lists.specs.Parts.{Bytes, put}
use Rattle.lists.proofs.AnswerLaws.{got_same}
use Rattle.lists.proofs.PartLaws.{put-none, put-put, put-length, put-take}
use Rattle.text.specs.Texts.{limited}
use Rattle.witness_read.specs.Sections.{Sections}
use Rattle.witness_read.specs.Reading.{read_aag}
use Rattle.witness_load.specs.Inner.Loaded.{word_count}
use Rattle.compose_spec.specs.Calling.{texts_in}
use Rattle.compose_joint.specs.declared.Before.{Before}
use Rattle.compose_joint.specs.Inner.Joint.{total_of, input_count, latch_count, gate_count, nothing_before, beyond, gathered_from, gathered}
use Rattle.compose_gather.specs.Inner.Gathered.{Block, Blocks, word_total, Readable, CanGather, Gathers}
use Rattle.compose_gather.proofs.TextLaws.{FirstRead, Left, left-more, left-none, texts_left}

-- what stands before a witness and what is left make the totals
pub record Amounts (ws : List Sections) (b : Before) (rest : List Sections) : Type 0 where
  pub inputs : b.inputs + total_of input_count rest ≡ total_of input_count ws
  pub latches : b.latches + total_of latch_count rest ≡ total_of latch_count ws
  pub gates : b.gates + total_of gate_count rest ≡ total_of gate_count ws

-- words of the witnesses before number w stand from the place `to` on, up to `at`; the words of witness w's text begin at `from`
pub record Gathering (words : ℕ → Before → Sections → List ℕ) (count : Sections → ℕ) (buffer : Bytes) (pairs work₀ work : List ℕ) (to from at : ℕ) (b : Before) (w : ℕ) : Type 0 where
  pub ws : List Sections
  pub rest : List Sections
  pub done : List ℕ
  pub readable : Readable buffer pairs ws
  pub left : Left buffer pairs w rest
  pub amounts : Amounts ws b rest
  pub blocks : Blocks (drop w (texts_in buffer pairs)) rest (drop from work₀)
  pub behind : from + word_total rest ≤ to
  pub room : at + total_of count rest ≤ length work₀
  pub total : at + total_of count rest ≡ to + total_of count ws
  pub is : work ≡ put work₀ to done
  pub at-is : at ≡ to + length done
  pub goes : done ++ gathered_from words w b rest ≡ gathered words ws

-- the next witness: its words stand behind `from`, what was written so far stands behind the words of all, and how it goes on
pub record Next (words : ℕ → Before → Sections → List ℕ) (count : Sections → ℕ) (buffer : Bytes) (pairs work₀ work : List ℕ) (to from at : ℕ) (b : Before) (w : ℕ) (ws : List Sections) : Type 0 where
  pub first : Sections
  pub reads : read_aag limited true (get_or (texts_in buffer pairs) w []) ≡ got first
  pub block : Block (get_or (texts_in buffer pairs) w []) first (drop from work₀)
  pub behind : from + word_count first ≤ to
  pub onward : to ≤ at
  pub room : at + count first ≤ length work₀
  pub same : length work ≡ length work₀
  pub inputs : b.inputs + input_count first ≤ total_of input_count ws
  pub latches : b.latches + latch_count first ≤ total_of latch_count ws
  pub gates : b.gates + gate_count first ≤ total_of gate_count ws
  pub kept : take to work ≡ take to work₀
  pub goes : (work' : List ℕ) → work' ≡ put work at (words w b first) → length (words w b first) ≡ count first
      → Gathering words count buffer pairs work₀ work' to (from + word_count first) (at + count first) (beyond b first) (w + 1)

module _ (words : ℕ → Before → Sections → List ℕ) (count : Sections → ℕ) (buffer : Bytes) (pairs : List ℕ) (to : ℕ) where
  pub gathering-none : (work : List ℕ) → CanGather count buffer pairs work to → Gathering words count buffer pairs work work to 0 to nothing_before 0
  gathering-none work k =
      record {
        ws = k.ws;
        rest = k.ws;
        done = [];
        readable = k.readable;
        left = k.readable.reads;
        amounts = record { inputs = omega arith; latches = omega arith; gates = omega arith };
        blocks = k.blocks;
        behind = omega (arith, k.behind);
        room = k.room;
        total = refl;
        is = sym (put-none work to);
        at-is = omega arith;
        goes = refl;
      }

  module _ (work₀ work : List ℕ) (from at : ℕ) (b : Before) (w all : ℕ) (k : Gathering words count buffer pairs work₀ work to from at b w) (number : all ≡ length pairs / 2) where
    pub gathering-end : all ≤ w → Gathers words count buffer pairs work₀ to work at
    gathering-end h ws r =
        let none : k.rest ≡ [] = left-none buffer pairs w k.rest k.left (omega arith) in
        let same : ws ≡ k.ws = got_same ws k.ws (sym r.reads ∙ k.readable.reads) in
        let whole : k.done ≡ gathered words k.ws = sym (append-nil k.done) ∙ (ap (λ (l : List Sections). k.done ++ gathered_from words w b l) (sym none) ∙ k.goes) in
        rw same (k.is ∙ ap (put work₀ to) whole, omega (arith, k.total, ap (total_of count) none))

    module _ (less : w < all) where
      next : FirstRead (get_or (texts_in buffer pairs) w []) (drop (w + 1) (texts_in buffer pairs)) k.rest
      next = left-more buffer pairs w k.rest k.left (omega arith)

      next-blocks : Blocks (get_or (texts_in buffer pairs) w [] ∷ drop (w + 1) (texts_in buffer pairs)) (next.first ∷ next.others) (drop from work₀)
      next-blocks =
          subst (λ (ss : List Sections). Blocks (get_or (texts_in buffer pairs) w [] ∷ drop (w + 1) (texts_in buffer pairs)) ss (drop from work₀)) next.is
          (subst (λ (ts : List Bytes). Blocks ts k.rest (drop from work₀)) (texts_left buffer pairs w (omega arith)) k.blocks)

      split : (f : Sections → ℕ) → total_of f k.rest ≡ f next.first + total_of f next.others
      split f = ap (total_of f) next.is

      more : (work' : List ℕ) → work' ≡ put work at (words w b next.first) → length (words w b next.first) ≡ count next.first
          → Gathering words count buffer pairs work₀ work' to (from + word_count next.first) (at + count next.first) (beyond b next.first) (w + 1)
      more work' e long =
          record {
            ws = k.ws;
            rest = next.others;
            done = k.done ++ words w b next.first;
            readable = k.readable;
            left = next.read_others;
            amounts =
                record {
                  inputs = omega (arith, k.amounts.inputs, split input_count);
                  latches = omega (arith, k.amounts.latches, split latch_count);
                  gates = omega (arith, k.amounts.gates, split gate_count);
                };
            blocks = subst (Blocks (drop (w + 1) (texts_in buffer pairs)) next.others) (drop-drop (word_count next.first) from work₀) next-blocks.1;
            behind = omega (arith, k.behind, split word_count);
            room = omega (arith, k.room, split count);
            total = omega (arith, k.total, split count);
            is =
                e ∙ (ap (λ (x : List ℕ). put x at (words w b next.first)) k.is
                ∙ (ap (λ (j : ℕ). put (put work₀ to k.done) j (words w b next.first)) k.at-is
                ∙ put-put work₀ to k.done (omega (arith, k.room, k.at-is)) (words w b next.first)));
            at-is = omega (arith, k.at-is, long, length-append k.done (words w b next.first));
            goes =
                append_assoc k.done (words w b next.first) (gathered_from words (w + 1) (beyond b next.first) next.others)
                ∙ (ap (λ (j : ℕ). k.done ++ (words w b next.first ++ gathered_from words j (beyond b next.first) next.others)) (add-one w)
                ∙ (ap (λ (l : List Sections). k.done ++ gathered_from words w b l) (sym next.is) ∙ k.goes));
          }

      pub gathering-next : Next words count buffer pairs work₀ work to from at b w k.ws
      gathering-next =
          record {
            first = next.first;
            reads = next.reads;
            block = next-blocks.0;
            behind = omega (arith, k.behind, split word_count);
            onward = omega (arith, k.at-is);
            room = omega (arith, k.room, split count);
            same = ap length k.is ∙ put-length work₀ to k.done (omega (arith, k.room, k.at-is));
            inputs = omega (arith, k.amounts.inputs, split input_count);
            latches = omega (arith, k.amounts.latches, split latch_count);
            gates = omega (arith, k.amounts.gates, split gate_count);
            kept = ap (take to) k.is ∙ put-take work₀ to k.done (omega (arith, k.room, k.at-is)) to (omega arith);
            goes = more;
          }
