-- Laws of `pairs_of`, `triples_of` and `words_of`, and the loops over flat words.
use Prim.Native.Nat.{ℕ, zero, suc, ◌+◌, ◌*◌, ◌/◌, ◌%◌, ◌≤◌, ◌<◌}
use mathlib.Core.Path.{◌≡◌, refl, sym, ap, ◌∙◌}
use mathlib.Core.Bool.{Bool}
use mathlib.Core.List.{List, [], ◌∷◌, ◌++◌, append_assoc, append-nil}
use native.Mathlib.Nat.{mul-suc}
use native.Mathlib.Omega.{arith}
use lib.ListN.{length, get_or, take, drop, set, length-append, length-drop, drop_of_length-le}
use lib.Seq.{take-nil, drop-nil}
use Rattle.lists.specs.Parts.{put}
use Rattle.lists.specs.Tests.{all, any, Each}
use Rattle.lists.specs.Words.{pairs_of, triples_of, words_of}
use Rattle.lists.proofs.PartLaws.{put_two}
use Rattle.lists.proofs.RestLaws.{rest-head, rest_more, take_next}
use Rattle.lists.proofs.TestLaws.{all_append, any_append, each_append}

pub twice : (k : ℕ) → 2 * suc k ≡ suc (suc (2 * k))
twice k = omega arith

thrice : (k : ℕ) → 3 * suc k ≡ suc (suc (suc (3 * k)))
thrice k = omega arith

module _ {A B : Type 0} (make : A → A → B) where
  pub pairs-count : (ws : List A) → length (pairs_of make ws) ≡ length ws / 2
  pairs-count [] = refl
  pairs-count (x ∷ []) = refl
  pairs-count (x ∷ y ∷ ws) = rw (pairs-count ws) (omega arith)

  pub pairs_append : (xs ys : List A) → length xs % 2 ≡ 0 → pairs_of make (xs ++ ys) ≡ pairs_of make xs ++ pairs_of make ys
  pairs_append [] ys h = refl
  pairs_append (x ∷ []) ys h = absurd (omega arith)
  pairs_append (x ∷ y ∷ xs) ys h = rw (pairs_append xs ys (omega arith))

  pub pairs-drop : (k : ℕ) (ws : List A) → drop k (pairs_of make ws) ≡ pairs_of make (drop (2 * k) ws)
  pairs-drop zero ws = refl
  pairs-drop (suc k) [] = rw (twice k)
  pairs-drop (suc k) (x ∷ []) = rw (twice k, drop-nil (suc (2 * k)))
  pairs-drop (suc k) (x ∷ y ∷ ws) = rw (twice k) (pairs-drop k ws)

  pub pairs-take : (k : ℕ) (ws : List A) → take k (pairs_of make ws) ≡ pairs_of make (take (2 * k) ws)
  pairs-take zero ws = refl
  pairs-take (suc k) [] = rw (twice k)
  pairs-take (suc k) (x ∷ []) = rw (twice k, take-nil (suc (2 * k)))
  pairs-take (suc k) (x ∷ y ∷ ws) = rw (twice k, pairs-take k ws)

  -- both words of pair i stored
  pairs_sets : (ws : List A) (i : ℕ) (x y : A) → 2 * i + 1 < length ws → pairs_of make (set (set ws (2 * i) x) (2 * i + 1) y) ≡ set (pairs_of make ws) i (make x y)
  pairs_sets [] i x y h = absurd (omega arith)
  pairs_sets (a ∷ []) i x y h = absurd (omega arith)
  pairs_sets (a ∷ b ∷ ws) zero x y h = refl
  pairs_sets (a ∷ b ∷ ws) (suc i) x y h =
      let e : 2 * suc i + 1 ≡ suc (suc (2 * i + 1)) = omega arith in
      rw (e, twice i) (ap (λ (l : List B). make a b ∷ l) (pairs_sets ws i x y (omega arith)))

  pub pairs-put : (ws : List A) (i : ℕ) (x y : A) → 2 * i + 1 < length ws → pairs_of make (put ws (2 * i) (x ∷ y ∷ [])) ≡ set (pairs_of make ws) i (make x y)
  pairs-put ws i x y h = rw (put_two ws (2 * i) x y h) (pairs_sets ws i x y h)

  module _ (ws : List A) where
    -- for code that keeps the place itself
    pub pairs-step : (at : ℕ) (d : A) → at + 1 < length ws
        → pairs_of make (drop at ws) ≡ make (get_or ws at d) (get_or ws (at + 1) d) ∷ pairs_of make (drop (at + 2) ws)
    pairs-step at d h =
        let n : at + 1 + 1 ≡ at + 2 = omega arith in
        rw (rest_more ws at d (omega arith), rest_more ws (at + 1) d h, n)

    -- no whole pair is left
    pub pairs_end : (at : ℕ) → length ws ≤ at + 1 → pairs_of make (drop at ws) ≡ []
    pairs_end at h = drop_of_length-le (pairs_of make (drop at ws)) {i = 0} (omega (arith, pairs-count (drop at ws), length-drop at ws))

    pub pairs-more : (i : ℕ) (d : A) → 2 * i + 1 < length ws
        → pairs_of make (drop (2 * i) ws) ≡ make (get_or ws (2 * i) d) (get_or ws (2 * i + 1) d) ∷ pairs_of make (drop (2 * (i + 1)) ws)
    pairs-more i d h = let n : 2 * (i + 1) ≡ 2 * i + 2 = omega arith in rw n (pairs-step (2 * i) d h)

    pub pairs-at : (i : ℕ) (d : A) (b : B) → 2 * i + 1 < length ws → get_or (pairs_of make ws) i b ≡ make (get_or ws (2 * i) d) (get_or ws (2 * i + 1) d)
    pairs-at i d b h = sym (rest-head (pairs_of make ws) i b) ∙ rw (pairs-drop i ws, pairs-more i d h)

module _ {A B : Type 0} (make : A → A → A → B) where
  pub triples_count : (ws : List A) → length (triples_of make ws) ≡ length ws / 3
  triples_count [] = refl
  triples_count (x ∷ []) = refl
  triples_count (x ∷ y ∷ []) = refl
  triples_count (x ∷ y ∷ z ∷ ws) = rw (triples_count ws) (omega arith)

  pub triples_append : (xs ys : List A) → length xs % 3 ≡ 0 → triples_of make (xs ++ ys) ≡ triples_of make xs ++ triples_of make ys
  triples_append [] ys h = refl
  triples_append (x ∷ []) ys h = absurd (omega arith)
  triples_append (x ∷ y ∷ []) ys h = absurd (omega arith)
  triples_append (x ∷ y ∷ z ∷ xs) ys h = rw (triples_append xs ys (omega arith))

  pub triples_drop : (k : ℕ) (ws : List A) → drop k (triples_of make ws) ≡ triples_of make (drop (3 * k) ws)
  triples_drop zero ws = refl
  triples_drop (suc k) [] = rw (thrice k)
  triples_drop (suc k) (x ∷ []) = rw (thrice k)
  triples_drop (suc k) (x ∷ y ∷ []) = rw (thrice k)
  triples_drop (suc k) (x ∷ y ∷ z ∷ ws) = rw (thrice k) (triples_drop k ws)

  pub triples_back : (words : B → List A) → ((x : B) → length (words x) ≡ 3) → ((x : B) → triples_of make (words x) ≡ x ∷ []) → (l : List B) → triples_of make (words_of words l) ≡ l
  triples_back words n e [] = refl
  triples_back words n e (x ∷ l) = triples_append (words x) (words_of words l) (rw (n x) refl) ∙ rw (e x, triples_back words n e l)

  module _ (ws : List A) where
    -- for code that keeps the place itself
    pub triples_step : (at : ℕ) (d : A) → at + 2 < length ws
        → triples_of make (drop at ws) ≡ make (get_or ws at d) (get_or ws (at + 1) d) (get_or ws (at + 2) d) ∷ triples_of make (drop (at + 3) ws)
    triples_step at d h =
        let n : at + 1 + 1 ≡ at + 2 = omega arith in
        let m : at + 2 + 1 ≡ at + 3 = omega arith in
        rw (rest_more ws at d (omega arith), rest_more ws (at + 1) d (omega arith), n, rest_more ws (at + 2) d h, m)

    pub triples_more : (i : ℕ) (d : A) → 3 * i + 2 < length ws
        → triples_of make (drop (3 * i) ws) ≡ make (get_or ws (3 * i) d) (get_or ws (3 * i + 1) d) (get_or ws (3 * i + 2) d) ∷ triples_of make (drop (3 * (i + 1)) ws)
    triples_more i d h = let n : 3 * (i + 1) ≡ 3 * i + 3 = omega arith in rw n (triples_step (3 * i) d h)

    pub triples_at : (i : ℕ) (d : A) (b : B) → 3 * i + 2 < length ws
        → get_or (triples_of make ws) i b ≡ make (get_or ws (3 * i) d) (get_or ws (3 * i + 1) d) (get_or ws (3 * i + 2) d)
    triples_at i d b h = sym (rest-head (triples_of make ws) i b) ∙ rw (triples_drop i ws, triples_more i d h)

module _ {A B : Type 0} (words : B → List A) where
  pub words_append : (xs ys : List B) → words_of words (xs ++ ys) ≡ words_of words xs ++ words_of words ys
  words_append [] ys = refl
  words_append (x ∷ xs) ys = rw (words_append xs ys) (sym (append_assoc (words x) (words_of words xs) (words_of words ys)))

  pub words-length : (n : ℕ) → ((x : B) → length (words x) ≡ n) → (l : List B) → length (words_of words l) ≡ n * length l
  words-length n e [] = omega arith
  words-length n e (x ∷ l) = length-append (words x) (words_of words l) ∙ rw (e x, words-length n e l, mul-suc n (length l)) (omega arith)

  -- a test of all words is a test of each element's
  pub any-words : (p : A → Bool) (l : List B) → any p (words_of words l) ≡ any (λ x. any p (words x)) l
  any-words p [] = refl
  any-words p (x ∷ l) = any_append p (words x) (words_of words l) ∙ rw (any-words p l)

  pub all_words : (p : A → Bool) (l : List B) → all p (words_of words l) ≡ all (λ x. all p (words x)) l
  all_words p [] = refl
  all_words p (x ∷ l) = all_append p (words x) (words_of words l) ∙ rw (all_words p l)

  pub each-words : (P : A → Type 0) (l : List B) → Each (λ x. Each P (words x)) l → Each P (words_of words l)
  each-words P [] e = tt
  each-words P (x ∷ l) e = each_append P (words x) (words_of words l) e.0 (each-words P l e.1)

  module _ (l : List B) (i : ℕ) (d : B) (h : i < length l) where
    pub words-next : words_of words (take (i + 1) l) ≡ words_of words (take i l) ++ words (get_or l i d)
    words-next = rw (take_next l i d h, words_append (take i l) (get_or l i d ∷ []), append-nil (words (get_or l i d)))
