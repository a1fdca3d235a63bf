-- Laws of `part`, `put` and `front`, and `Grown`: a lent list that is written from its front on.
use Prim.Native.Nat.{ℕ, zero, suc, ◌+◌, ◌-◌, ◌≤◌, ◌<◌, min}
use mathlib.Core.Path.{◌≡◌, refl, sym, ap, ◌∙◌}
use mathlib.Core.List.{List, [], ◌∷◌, ◌++◌, append_assoc, append-nil}
use native.Mathlib.Nat.{add-zero, zero-add, add_assoc, sub-zero}
use native.Mathlib.Numerals.{add-one, add-two}
use native.Mathlib.Omega.{arith}
use borrow.Rule.Slice.PartMut.{put_mid, post_of}
use lib.ListN.{length, get_or, take, drop, set, length-append, length-set, length-take, length-drop, take-append-drop, drop_of_length-le, get_or-append}
use lib.Seq.{take_all, take_at, drop_at, take-add, take-take, drop-drop, take-append-le, drop-append-le, drop-append-add, take-nil, get_or-take, get_or-drop, length-take-le, set_split, sets-eq}
use Rattle.lists.specs.Parts.{part, put, front}
use Rattle.lists.proofs.RestLaws.{take_next}

pub drop-take : {A : Type 0} (a n : ℕ) (l : List A) → drop a (take n l) ≡ take (n - a) (drop a l)
drop-take zero n l = rw (sub-zero n)
drop-take (suc a) zero l = let e : 0 - suc a ≡ 0 = omega arith in rw e
drop-take (suc a) (suc n) [] = sym (take-nil (suc n - suc a))
drop-take (suc a) (suc n) (x ∷ l) = let e : suc n - suc a ≡ n - a = omega arith in rw e (drop-take a n l)

pub drop_min : {A : Type 0} (n : ℕ) (l : List A) → drop (min n (length l)) l ≡ drop n l
drop_min zero l = let e : min 0 (length l) ≡ 0 = omega arith in rw e
drop_min (suc n) [] = let e : min (suc n) 0 ≡ 0 = omega arith in rw e
drop_min (suc n) (x ∷ l) = let e : min (suc n) (suc (length l)) ≡ suc (min n (length l)) = omega arith in rw e (drop_min n l)

-- a store into the second of two lists (`set-append_left` of `lib.Seq` is one into the first)
pub set_append_right : {A : Type 0} (xs ys : List A) (n i : ℕ) (v : A) → length xs ≡ n → set (xs ++ ys) (n + i) v ≡ xs ++ set ys i v
set_append_right [] ys zero i v h = rw (zero-add i)
set_append_right [] ys (suc n) i v h = absurd (omega arith)
set_append_right (x ∷ xs) ys zero i v h = absurd (omega arith)
set_append_right (x ∷ xs) ys (suc n) i v h =
    let e : suc n + i ≡ suc (n + i) = omega arith in
    rw (e, set_append_right xs ys n i v (omega arith))

-- equal lists, cut at the same place
module _ {A : Type 0} (a b c d : List A) (h : length a ≡ length b) (e : a ++ c ≡ b ++ d) where
  pub append_heads : a ≡ b
  append_heads = sym (take_at a c (length a) refl) ∙ ap (take (length a)) e ∙ take_at b d (length a) (sym h)

  pub append_tails : c ≡ d
  append_tails = sym (drop_at a c (length a) refl) ∙ ap (drop (length a)) e ∙ drop_at b d (length a) (sym h)

module _ {A : Type 0} (s : List A) where
  -- what `&s[a..]` holds
  pub part-drop : (a : ℕ) → part s a (length s) ≡ drop a s
  part-drop a = take_all (length s - a) (drop a s) (rw (length-drop a s) (omega arith))

  module _ (a e : ℕ) where
    pub part_length : e ≤ length s → length (part s a e) ≡ e - a
    part_length h = simp (length-take, length-drop) (omega arith)

    pub part_at : (i : ℕ) (d : A) → a + i < e → get_or (part s a e) i d ≡ get_or s (a + i) d
    part_at i d h = get_or-take (e - a) (drop a s) i d (omega arith) ∙ get_or-drop a s i d

    pub part_of_part : (b c : ℕ) → a + c ≤ e → part (part s a e) b c ≡ part s (a + b) (a + c)
    part_of_part b c h =
        let n : a + c - (a + b) ≡ c - b = omega arith in
        rw (drop-take b (e - a) (drop a s), n, drop-drop b a s) (take-take (c - b) (e - a - b) (drop (a + b) s) (omega arith))

    -- one element more at the end
    pub part-next : (d : A) → a ≤ e → e < length s → part s a (e + 1) ≡ part s a e ++ get_or s e d ∷ []
    part-next d h k =
        let n : e + 1 - a ≡ e - a + 1 = omega arith in
        let m : a + (e - a) ≡ e = omega arith in
        rw n (take_next (drop a s) (e - a) d (rw (length-drop a s) (omega arith)) ∙ rw (get_or-drop a s (e - a) d, m))

    pub part_join : (c : ℕ) → a ≤ e → e ≤ c → part s a e ++ part s e c ≡ part s a c
    part_join c h k =
        let n : c - a ≡ e - a + (c - e) = omega arith in
        let m : a + (e - a) ≡ e = omega arith in
        sym (rw n (take-add (e - a) (c - e) (drop a s) ∙ rw (drop-drop (e - a) a s, m)))

    -- the rest of a list: a part in front, and what follows it
    pub part-rest : a ≤ e → drop a s ≡ part s a e ++ drop e s
    part-rest h =
        let n : a + (e - a) ≡ e = omega arith in
        sym (ap (λ (x : List A). part s a e ++ x) (sym (drop-drop (e - a) a s ∙ rw n)) ∙ take-append-drop (e - a) (drop a s))

module _ {A : Type 0} (o c : List A) where
  pub put_front : put o 0 c ≡ front o c
  put_front = rw (zero-add (length c))

  pub front_length : length c ≤ length o → length (front o c) ≡ length o
  front_length h = simp (length-append, length-drop) (omega arith)

module _ {A : Type 0} (o : List A) (at : ℕ) where
  pub put-none : put o at [] ≡ o
  put-none = rw (add-zero at) (take-append-drop at o)

  -- stores in the code, as one `put`
  pub put_one : (x : A) → at < length o → put o at (x ∷ []) ≡ set o at x
  put_one x h = rw (add-one at) (sym (set_split o at x h))

  pub put_two : (x y : A) → at + 1 < length o → put o at (x ∷ y ∷ []) ≡ set (set o at x) (at + 1) y
  put_two x y h = rw (add-one at) (sym (sets-eq (x ∷ y ∷ []) o at (omega arith) ∙ append_assoc (take at o) (x ∷ y ∷ []) (drop (at + 2) o)))

  pub put_three : (x y z : A) → at + 2 < length o → put o at (x ∷ y ∷ z ∷ []) ≡ set (set (set o at x) (at + 1) y) (at + 2) z
  put_three x y z h =
      rw (add-one at, add-two at) (sym (sets-eq (x ∷ y ∷ z ∷ []) o at (omega arith) ∙ append_assoc (take at o) (x ∷ y ∷ z ∷ []) (drop (at + 3) o)))

  module _ (c : List A) where
    pub put-length : at + length c ≤ length o → length (put o at c) ≡ length o
    put-length h = simp (length-append, length-drop, length-take) (omega arith)

    module _ (h : at ≤ length o) where
      head : length (take at o ++ c) ≡ at + length c
      head = length-append (take at o) c ∙ rw (length-take-le at o h)

      flat : put o at c ≡ (take at o ++ c) ++ drop (at + length c) o
      flat = sym (append_assoc (take at o) c (drop (at + length c) o))

      pub put-take : (n : ℕ) → n ≤ at → take n (put o at c) ≡ take n o
      put-take n k = take-append-le n (take at o) (c ++ drop (at + length c) o) (rw (length-take-le at o h) k) ∙ take-take n at o k

      -- up to the end of c
      pub put-take-end : take (at + length c) (put o at c) ≡ take at o ++ c
      put-take-end = rw flat (take_at (take at o ++ c) (drop (at + length c) o) (at + length c) head)

      -- from c on
      pub put-drop : drop at (put o at c) ≡ front (drop at o) c
      put-drop = drop_at (take at o) (c ++ drop (at + length c) o) at (length-take-le at o h) ∙ rw (drop-drop (length c) at o)

      pub put-drop-end : (n : ℕ) → at + length c ≤ n → drop n (put o at c) ≡ drop n o
      put-drop-end n k =
          let m : ℕ = n - (at + length c) in
          let e : n ≡ length (take at o ++ c) + m = omega (arith, head) in
          let f : at + length c + m ≡ n = omega arith in
          rw flat (ap (λ (j : ℕ). drop j ((take at o ++ c) ++ drop (at + length c) o)) e ∙ drop-append-add (take at o ++ c) (drop (at + length c) o) m ∙ drop-drop m (at + length c) o ∙ rw f)

      pub put-part : part (put o at c) at (at + length c) ≡ c
      put-part = let n : at + length c - at ≡ length c = omega arith in rw (n, put-drop) (take_at c (drop (length c) (drop at o)) (length c) refl)

      pub put-before : (i : ℕ) (d : A) → i < at → get_or (put o at c) i d ≡ get_or o i d
      put-before i d k = get_or-append (take at o) (c ++ drop (at + length c) o) d i (rw (length-take-le at o h) k) ∙ get_or-take at o i d k

      pub put-inside : (i : ℕ) (d : A) → i < length c → get_or (put o at c) (at + i) d ≡ get_or c i d
      put-inside i d k = sym (get_or-drop at (put o at c) i d) ∙ rw put-drop (get_or-append c (drop (length c) (drop at o)) d i k)

      -- c, and then b behind it
      pub put-put : (b : List A) → put (put o at c) (at + length c) b ≡ put o at (c ++ b)
      put-put b = rw (put-take-end, put-drop-end (at + length c + length b) (omega arith)) (simp (append_assoc, length-append, add_assoc))

      -- the part `&mut o[at..e]`, given back with c in its front
      pub put_back : (e : ℕ) → at + length c ≤ e → e ≤ length o → put_mid at (e - at) o (front (part o at e) c) ≡ put o at c
      put_back e k g =
          let m : length c ≤ length (part o at e) = rw (part_length o at e g) (omega arith) in
          ap (λ (x : List A). take at o ++ x)
          (append_assoc c (drop (length c) (part o at e)) (post_of at (e - at) o)
          ∙ ap (λ (x : List A). c ++ x) (sym (drop-append-le (length c) (part o at e) (post_of at (e - at) o) m) ∙ rw (take-append-drop (e - at) (drop at o)) (drop-drop (length c) at o)))

-- o is o₀ with `done` written over its first elements; the next element goes to place `at`
pub record Grown {A : Type 0} (o₀ done o : List A) (at : ℕ) : Type 0 where
  pub at-is : at ≡ length done
  pub fits : at ≤ length o₀
  pub same : length o ≡ length o₀
  pub is : o ≡ front o₀ done

module _ {A : Type 0} where
  pub grown-none : (o : List A) → Grown o [] o 0
  grown-none o = record { at-is = refl; fits = omega arith; same = refl; is = refl }

  module _ (o₀ done o : List A) (at : ℕ) (g : Grown o₀ done o at) where
    pub grown-more : (c : List A) → at + length c ≤ length o → Grown o₀ (done ++ c) (put o at c) (at + length c)
    grown-more c h =
        record {
          at-is = simp length-append (omega arith);
          fits = omega arith;
          same = put-length o at c h ∙ g.same;
          is = rw (g.is, g.at-is) (simp zero-add at (put-put o₀ 0 done (omega arith) c));
        }

    pub grown-set : (x : A) → at < length o → Grown o₀ (done ++ x ∷ []) (set o at x) (at + 1)
    grown-set x h = rw (← put_one o at x h) (grown-more (x ∷ []) (omega arith))

-- o is o₀ with the first i elements of c copied into it, from place `at` on
pub record Copied {A : Type 0} (o₀ : List A) (at : ℕ) (c o : List A) (i : ℕ) : Type 0 where
  pub is : o ≡ put o₀ at (take i c)
  pub passed : i ≤ length c
  pub fits : at + length c ≤ length o₀
  pub same : length o ≡ length o₀

module _ {A : Type 0} (o₀ : List A) (at : ℕ) (c : List A) where
  pub copied_none : at + length c ≤ length o₀ → Copied o₀ at c o₀ 0
  copied_none h = record { is = sym (put-none o₀ at); passed = omega arith; fits = h; same = refl }

  module _ (o : List A) (i : ℕ) (k : Copied o₀ at c o i) where
    pub copied_more : (d : A) → i < length c → Copied o₀ at c (set o (at + i) (get_or c i d)) (i + 1)
    copied_more d h =
        let n : length (take i c) ≡ i = length-take-le i c k.passed in
        record {
          is =
              sym (put_one o (at + i) (get_or c i d) (omega (arith, k.fits, k.same)))
              ∙ ap (λ (x : List A). put x (at + i) (get_or c i d ∷ [])) k.is
              ∙ ap (λ (j : ℕ). put (put o₀ at (take i c)) (at + j) (get_or c i d ∷ [])) (sym n)
              ∙ put-put o₀ at (take i c) (omega (arith, k.fits)) (get_or c i d ∷ [])
              ∙ ap (put o₀ at) (sym (take_next c i d h));
          passed = omega arith;
          fits = k.fits;
          same = length-set o (at + i) (get_or c i d) ∙ k.same;
        }

    pub copied-done : length c ≤ i → o ≡ put o₀ at c
    copied-done h = k.is ∙ ap (put o₀ at) (take_all i c h)

-- the part `&mut w[at..]`: what is lent, and what stands there when it is given back
module _ {A : Type 0} (w : List A) (at : ℕ) where
  pub tail-lent : take (length w - at) (drop at w) ≡ drop at w
  tail-lent = take_all (length w - at) (drop at w) (omega (arith, length-drop at w))

  module _ (last : List A) (h : at ≤ length w) where
    rest-none : last ++ drop (length w - at) (drop at w) ≡ last
    rest-none = rw (drop_of_length-le (drop at w) {i = length w - at} (omega (arith, length-drop at w))) (append-nil last)

    pub tail-front : take at (take at w ++ (last ++ drop (length w - at) (drop at w))) ≡ take at w
    tail-front = take_at (take at w) (last ++ drop (length w - at) (drop at w)) at (length-take-le at w h)

    pub tail-back : drop at (take at w ++ (last ++ drop (length w - at) (drop at w))) ≡ last
    tail-back = drop_at (take at w) (last ++ drop (length w - at) (drop at w)) at (length-take-le at w h) ∙ rest-none
