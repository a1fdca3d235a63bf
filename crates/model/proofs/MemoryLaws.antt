-- A record's words give the record back: what a reader returned may be lent as the words of its memory.
use Prim.Native.Nat.{ℕ, zero, suc, ◌+◌}
use mathlib.Core.List.{List, [], ◌∷◌, ◌++◌}
use mathlib.Core.Path.{◌≡◌, refl, sym, ap, ◌∙◌}
use native.Mathlib.Omega.{arith}
use borrow.Author.Tests.{le-ltb}
use lib.ListN.{length, get_or, drop, length-append}
use lib.Seq.{take_at, drop_at, drop-append-add, get_or-drop}
use Rattle.lists.specs.Words.{words_of}
use Rattle.lists.proofs.WordLaws.{words-length}
use Rattle.model.specs.declared.AigerLatch.{AigerLatch}
use Rattle.model.specs.declared.AigerTransition.{AigerTransition}
use Rattle.model.specs.RecordWords.{latches_in, record_in, latch_words, words_in}

-- latches from a place on are those of the rest of the words
latches-rest : (ws : List ℕ) (a n at : ℕ) → latches_in ws n (a + at) ≡ latches_in (drop a ws) n at
latches-rest ws a zero at = refl
latches-rest ws a (suc n) at =
    let e : a + at + 1 ≡ a + (at + 1) = omega arith in
    let f : a + at + 2 ≡ a + (at + 2) = omega arith in
    rw (e, f, ← (get_or-drop a ws at 0), ← (get_or-drop a ws (at + 1) 0), latches-rest ws a n (at + 2)) refl

-- the latches that words write
latches-back : (ls : List AigerLatch) (post : List ℕ) → latches_in (words_of latch_words ls ++ post) (length ls) 0 ≡ ls
latches-back [] post = refl
latches-back (l ∷ ls) post =
    ap (λ (r : List AigerLatch). l ∷ r) (latches-rest (words_of latch_words (l ∷ ls) ++ post) 2 (length ls) 0 ∙ latches-back ls post)

-- a record as the code has it: every array in its length
pub record Whole (m : AigerTransition) : Type 0 where
  pub inputs : length m.inputs ≡ 64
  pub latches : length m.latches ≡ 8
  pub outputs : length m.outputs ≡ 128

module _ (m : AigerTransition) (h : Whole m) where
  abbrev ws : List ℕ
  ws = words_in m

  abbrev front : List ℕ
  front = m.max_variable ∷ m.input_count ∷ m.inputs

  abbrev last : List ℕ
  last = m.output_count ∷ m.outputs ++ m.and_count ∷ []

  abbrev middle : List ℕ
  middle = m.latch_count ∷ words_of latch_words m.latches

  from-latches : (k : ℕ) → drop (66 + k) ws ≡ drop k (middle ++ last)
  from-latches k = let n : 66 + k ≡ length front + k = omega (arith, h.inputs) in rw n (drop-append-add front (middle ++ last) k)

  middle_length : length middle ≡ 17
  middle_length = let n = words-length latch_words 2 (λ l. refl) m.latches in omega (arith, n, h.latches)

  from-outputs : (k : ℕ) → drop (83 + k) ws ≡ drop k last
  from-outputs k =
      let n : 83 + k ≡ 66 + (17 + k) = omega arith in
      let e : 17 + k ≡ length middle + k = omega (arith, middle_length) in
      ap (λ (i : ℕ). drop i ws) n ∙ from-latches (17 + k) ∙ ap (λ (i : ℕ). drop i (middle ++ last)) e ∙ drop-append-add middle last k

  words-length-is : length ws ≡ 213
  words-length-is =
      rw (length-append front (middle ++ last), length-append middle last, length-append m.outputs (m.and_count ∷ []))
      (omega (arith, h.inputs, h.outputs, middle_length))

  at-latches : (k : ℕ) → get_or ws (66 + k) 0 ≡ get_or (middle ++ last) k 0
  at-latches k =
      let n : k + 0 ≡ k = omega arith in
      let e : 66 + k + 0 ≡ 66 + k = omega arith in
      ap (λ (i : ℕ). get_or ws i 0) (sym e) ∙ sym (get_or-drop (66 + k) ws 0 0) ∙ ap (λ (l : List ℕ). get_or l 0 0) (from-latches k) ∙ get_or-drop k (middle ++ last) 0 0 ∙ ap (λ (i : ℕ). get_or (middle ++ last) i 0) n

  at-outputs : (k : ℕ) → get_or ws (83 + k) 0 ≡ get_or last k 0
  at-outputs k =
      let n : k + 0 ≡ k = omega arith in
      let e : 83 + k + 0 ≡ 83 + k = omega arith in
      ap (λ (i : ℕ). get_or ws i 0) (sym e) ∙ sym (get_or-drop (83 + k) ws 0 0) ∙ ap (λ (l : List ℕ). get_or l 0 0) (from-outputs k) ∙ get_or-drop k last 0 0 ∙ ap (λ (i : ℕ). get_or last i 0) n

  -- the last word
  last_word : get_or last 129 0 ≡ m.and_count
  last_word =
      at_128 ∙ ap (λ (l : List ℕ). get_or l 0 0) (drop_at m.outputs (m.and_count ∷ []) 128 h.outputs)
    where
      at_128 : get_or last 129 0 ≡ get_or (drop 128 (m.outputs ++ m.and_count ∷ [])) 0 0
      at_128 = sym (get_or-drop 128 (m.outputs ++ m.and_count ∷ []) 0 0)

  latches-are : latches_in ws 8 67 ≡ m.latches
  latches-are =
      latches-rest ws 67 8 0
      ∙ ap (λ (l : List ℕ). latches_in l 8 0) (from-latches 1)
      ∙ ap (λ (n : ℕ). latches_in (words_of latch_words m.latches ++ last) n 0) (sym h.latches)
      ∙ latches-back m.latches last

  pub record_back : record_in ws ≡ m
  record_back =
      rw (latches-are, from-outputs 1, le-ltb (length ws) 213 (omega (arith, words-length-is)), at-latches 0, at-outputs 0, at-outputs 129, last_word, take_at m.inputs (middle ++ last) 64 h.inputs, take_at m.outputs (m.and_count ∷ []) 128 h.outputs) refl
