-- Laws of the list of the witnesses' counts.
use Prim.Native.Nat.{ℕ, ◌+◌, ◌-◌, ◌*◌, ◌≤◌, ◌<◌}
use mathlib.Core.List.{List, append-nil}
use mathlib.Core.Path.{◌≡◌, refl, sym, ap, ◌∙◌, subst}
use native.Mathlib.Omega.{arith}
use borrow.Rule.Slice.PartMut.{put_mid}
use lib.ListN.{length, get_or, length-map, drop_of_length-le}
use Rattle.lists.specs.Parts.{part, put, front}
use Rattle.lists.proofs.PartLaws.{part_length, put_back, put-before, put-inside}
use Rattle.witness_text.specs.declared.AagCounts.{AagCounts}
use Rattle.witness_read.specs.Sections.{Sections}
use Rattle.witness_read.specs.Reading.{counts_in}
use Rattle.compose_joint.specs.declared.Leaves.{Leaves}
use Rattle.compose_joint.specs.declared.Leaves.TheVariants as leaf
use Rattle.compose_gather.specs.Inner.Counts.{count_words, counts_at}
use Rattle.compose_joint.specs.Inner.Joint.{leaf_counts, names_before}
use Rattle.compose_gather.specs.Inner.Gathered.{words_for, leaf_count_of}

-- ---- stored and read

-- nine words in the part that was lent
pub nine_stored : (o : List ℕ) (w : ℕ) (n : AagCounts) (b : List ℕ) → 9 * w + 8 < length o → b ≡ count_words n → put_mid (9 * w) (9 * w + 9 - 9 * w) o b ≡ put o (9 * w) (count_words n)
nine_stored o w n b h e =
    let size : length (part o (9 * w) (9 * w + 9)) ≡ 9 = part_length o (9 * w) (9 * w + 9) (omega arith) ∙ omega arith in
    let whole : b ≡ front (part o (9 * w) (9 * w + 9)) b =
    sym (rw (drop_of_length-le (part o (9 * w) (9 * w + 9)) {i = length b} (omega (arith, size, ap length e))) (append-nil b)) in
    ap (put_mid (9 * w) (9 * w + 9 - 9 * w) o) whole
    ∙ (put_back o (9 * w) b (omega arith) (9 * w + 9) (omega (arith, ap length e)) (omega arith) ∙ ap (put o (9 * w)) e)

-- ---- witness by witness

module _ (counts : List ℕ) (w : ℕ) (room : 9 * w + 8 < length counts) where
  -- the words stored for a witness say its counts
  pub counts_new : (n : AagCounts) → counts_at (put counts (9 * w) (count_words n)) w ≡ n
  counts_new n =
      let word : (j : ℕ) → j < 9 → get_or (put counts (9 * w) (count_words (n))) (9 * w + j) 0 ≡ get_or (count_words (n)) j 0 = λ j h. put-inside counts (9 * w) (count_words (n)) (omega arith) j 0 h in
      let z : 9 * w + 0 ≡ 9 * w = omega arith in
      let first : get_or (put counts (9 * w) (count_words (n))) (9 * w) 0 ≡ n.max_variable = subst (λ (i : ℕ). get_or (put counts (9 * w) (count_words (n))) i 0 ≡ n.max_variable) z (word 0 (omega arith)) in
      rw (first, word 1 (omega arith), word 2 (omega arith), word 3 (omega arith), word 4 (omega arith), word 5 (omega arith), word 6 (omega arith), word 7 (omega arith), word 8 (omega arith)) refl

  -- and keep those of the witnesses before it
  pub counts_old : (n : AagCounts) (v : ℕ) → v < w → counts_at (put counts (9 * w) (count_words n)) v ≡ counts_at counts v
  counts_old n v h =
      let word : (i : ℕ) → i < 9 * w → get_or (put counts (9 * w) (count_words n)) i 0 ≡ get_or counts i 0 = λ i k. put-before counts (9 * w) (count_words n) (omega arith) i 0 k in
      rw (word (9 * v) (omega arith), word (9 * v + 1) (omega arith), word (9 * v + 2) (omega arith), word (9 * v + 3) (omega arith), word (9 * v + 4) (omega arith), word (9 * v + 5) (omega arith), word (9 * v + 6) (omega arith), word (9 * v + 7) (omega arith), word (9 * v + 8) (omega arith)) refl

-- ---- inputs and latches

-- as many as the counts say
pub counts-leaves : (leaves : Leaves) (s : Sections) → leaf_counts leaves (counts_in s) ≡ leaf_count_of leaves s
counts-leaves leaf.Inputs s = refl
counts-leaves leaf.Latches s = sym (length-map s.latches (λ q. q.name))

-- the words of their names stand within those of the text
pub leaves-within : (leaves : Leaves) (n : AagCounts) → names_before leaves n + 2 * leaf_counts leaves n ≤ words_for n
leaves-within leaf.Inputs n = omega arith
leaves-within leaf.Latches n = omega arith
