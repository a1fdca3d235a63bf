-- Laws of `place`, `joined` and `appearing`: first appearances.
use Prim.Native.Nat.{ℕ, suc, ◌+◌, ◌≤◌, ◌<◌}
use mathlib.Core.Bool.{Bool, true, false, cond, ◌||◌, or-true}
use mathlib.Core.List.{List, [], ◌∷◌, ◌++◌, append_assoc, append-nil}
use mathlib.Core.Logic.{◌⊎◌, inl, inr, ⊎_elim}
use mathlib.Core.Path.{◌≡◌, refl, sym, ap, ◌∙◌}
use native.Mathlib.Omega.{arith}
use lib.Dec.{eqb}
use lib.ListN.{length, get_or, length-append, get_or-append}
use lib.Seq.{get_or-append_seam}
use borrow.Author.Tests.{eq-eqb, ne_eqb}
use Rattle.lists.specs.Firsts.{place, joined, appearing}
use Rattle.lists.specs.Tests.{any, Each}
use Rattle.lists.proofs.BoolLaws.{true-false, below_or, or_left, or_right}
use Rattle.lists.proofs.TestLaws.{any_append, each_append}

-- ---- a list that begins with another

-- ys begins with xs
pub record Begins {A : Type 0} (xs ys : List A) : Type 0 where
  pub rest : List A
  pub is : ys ≡ xs ++ rest

module _ {A : Type 0} where
  -- every list begins with itself
  pub begins_self : (xs : List A) → Begins xs xs
  begins_self xs = record { rest = []; is = sym (append-nil xs) }

  -- a list to which something is appended begins with the list
  pub begins_with_lem : (xs ys : List A) → Begins xs (xs ++ ys)
  begins_with_lem xs ys = record { rest = ys; is = refl }

  -- what begins with a list that begins with xs begins with xs
  pub begins_then : (xs ys zs : List A) → Begins xs ys → Begins ys zs → Begins xs zs
  begins_then xs ys zs b c = record { rest = b.rest ++ c.rest; is = c.is ∙ rw b.is (append_assoc xs b.rest c.rest) }

  -- inside the shorter list, both have the same elements
  pub begins-at : (xs ys : List A) → Begins xs ys → (i : ℕ) (d : A) → i < length xs → get_or ys i d ≡ get_or xs i d
  begins-at xs ys b i d h = rw b.is (get_or-append xs b.rest d i h)

  -- it is at least as long
  pub begins-length : (xs ys : List A) → Begins xs ys → length xs ≤ length ys
  begins-length xs ys b = omega (arith, ap length b.is, length-append xs b.rest)

-- ---- places

module _ {A : Type 0} (same : A → A → Bool) where
  -- where one is the same, the place is inside
  pub place_inside : (x : A) (ys : List A) → any (same x) ys ≡ true → place same x ys < length ys
  place_inside x [] h = true-false h refl
  place_inside x (y ∷ ys) h = go (same x y) h (place_inside x ys)
    where
      go : (q : Bool) → (q || any (same x) ys) ≡ true → (any (same x) ys ≡ true → place same x ys < length ys) → cond q 0 (suc (place same x ys)) < suc (length ys)
      go true k ih = omega arith
      go false k ih = omega (arith, ih k)

  -- where none is, it is the end
  pub place_outside : (x : A) (ys : List A) → any (same x) ys ≡ false → place same x ys ≡ length ys
  place_outside x [] h = refl
  place_outside x (y ∷ ys) h = rw (or_left (same x y) (any (same x) ys) h) (ap suc (place_outside x ys (or_right (same x y) (any (same x) ys) h)))

  -- what stands at the place of x is the same
  pub place-finds : (x d : A) (ys : List A) → any (same x) ys ≡ true → same x (get_or ys (place same x ys) d) ≡ true
  place-finds x d [] h = true-false h refl
  place-finds x d (y ∷ ys) h = go (same x y) refl h (place-finds x d ys)
    where
      go : (q : Bool) → same x y ≡ q → (q || any (same x) ys) ≡ true → (any (same x) ys ≡ true → same x (get_or ys (place same x ys) d) ≡ true)
          → same x (get_or (y ∷ ys) (cond q 0 (suc (place same x ys))) d) ≡ true
      go true e k ih = e
      go false e k ih = ih k

  -- what follows the first same one does not change the place
  pub place_append : (x : A) (ys zs : List A) → any (same x) ys ≡ true → place same x (ys ++ zs) ≡ place same x ys
  place_append x [] zs h = true-false h refl
  place_append x (y ∷ ys) zs h = go (same x y) h (place_append x ys zs)
    where
      go : (q : Bool) → (q || any (same x) ys) ≡ true → (any (same x) ys ≡ true → place same x (ys ++ zs) ≡ place same x ys)
          → cond q 0 (suc (place same x (ys ++ zs))) ≡ cond q 0 (suc (place same x ys))
      go true k ih = refl
      go false k ih = ap suc (ih k)

  -- so it is the same in a list that begins with ys
  pub place-begins : (x : A) (ys zs : List A) → Begins ys zs → any (same x) ys ≡ true → place same x zs ≡ place same x ys
  place-begins x ys zs b h = rw b.is (place_append x ys b.rest h)

  -- ---- one more

  -- x is not joined where one is the same
  pub joined-has : (x : A) (ys : List A) → any (same x) ys ≡ true → joined same x ys ≡ ys
  joined-has x ys h = rw h

  -- and stands at the end where none is
  pub joined_new : (x : A) (ys : List A) → any (same x) ys ≡ false → joined same x ys ≡ ys ++ (x ∷ [])
  joined_new x ys h = rw h

  -- nothing in front changes
  pub joined-begins : (x : A) (ys : List A) → Begins ys (joined same x ys)
  joined-begins x ys = go (any (same x) ys)
    where
      go : (q : Bool) → Begins ys (cond q ys (ys ++ (x ∷ [])))
      go true = begins_self ys
      go false = begins_with_lem ys (x ∷ [])

  -- there is at most one element more
  pub joined_length : (x : A) (ys : List A) → length (joined same x ys) ≤ suc (length ys)
  joined_length x ys = go (any (same x) ys)
    where
      go : (q : Bool) → length (cond q ys (ys ++ (x ∷ []))) ≤ suc (length ys)
      go true = omega arith
      go false = omega (arith, length-append ys (x ∷ []))

  -- what holds of x and of the others holds of each
  pub each-joined : (P : A → Type 0) (x : A) (ys : List A) → P x → Each P ys → Each P (joined same x ys)
  each-joined P x ys h e = go (any (same x) ys)
    where
      go : (q : Bool) → Each P (cond q ys (ys ++ (x ∷ [])))
      go true = e
      go false = each_append P ys (x ∷ []) e (h, tt)

  -- after x is joined, its place is inside
  pub joined-place : (x : A) (ys : List A) → place same x ys < length (joined same x ys)
  joined-place x ys = go (any (same x) ys) refl
    where
      go : (q : Bool) → any (same x) ys ≡ q → place same x ys < length (cond q ys (ys ++ (x ∷ [])))
      go true e = place_inside x ys e
      go false e = omega (arith, place_outside x ys e, length-append ys (x ∷ []))

  -- and where only equal ones are the same, x itself stands there
  pub joined_at : ((x y : A) → same x y ≡ true → x ≡ y) → (x d : A) (ys : List A) → get_or (joined same x ys) (place same x ys) d ≡ x
  joined_at sound x d ys = go (any (same x) ys) refl
    where
      go : (q : Bool) → any (same x) ys ≡ q → get_or (cond q ys (ys ++ (x ∷ []))) (place same x ys) d ≡ x
      go true e = sym (sound x (get_or ys (place same x ys) d) (place-finds x d ys e))
      go false e = rw (place_outside x ys e) (get_or-append_seam ys x [] d)

  -- ---- first appearances

  -- nothing in front changes
  pub appearing-begins : (xs ys : List A) → Begins xs (appearing same xs ys)
  appearing-begins xs [] = begins_self xs
  appearing-begins xs (y ∷ ys) =
      begins_then xs (joined same y xs) (appearing same (joined same y xs) ys) (joined-begins y xs) (appearing-begins (joined same y xs) ys)

  -- there are at most as many as appear
  pub appearing-length : (xs ys : List A) → length (appearing same xs ys) ≤ length xs + length ys
  appearing-length xs [] = omega arith
  appearing-length xs (y ∷ ys) = omega (arith, appearing-length (joined same y xs) ys, joined_length y xs)

  -- what holds of all that appear holds of the first ones
  pub each-appearing : (P : A → Type 0) (xs ys : List A) → Each P xs → Each P ys → Each P (appearing same xs ys)
  each-appearing P xs [] e f = e
  each-appearing P xs (y ∷ ys) e f = each-appearing P (joined same y xs) ys (each-joined P y xs f.0 e) f.1

  -- a test that some element passes is still passed by one where the list goes on
  pub any-begins : (p : A → Bool) (xs ys : List A) → Begins xs ys → any p xs ≡ true → any p ys ≡ true
  any-begins p xs ys b h = rw (b.is, any_append p xs b.rest, h)

  module _ (self : (x : A) → same x x ≡ true) where
    -- after x is joined, one is the same
    pub joined-any : (x : A) (ys : List A) → any (same x) (joined same x ys) ≡ true
    joined-any x ys = go (any (same x) ys) refl
      where
        go : (q : Bool) → any (same x) ys ≡ q → any (same x) (cond q ys (ys ++ (x ∷ []))) ≡ true
        go true e = e
        go false e = any_append (same x) ys (x ∷ []) ∙ rw (e, self x)

    -- a new one stands at the end
    pub place_new : (x : A) (ys : List A) → any (same x) ys ≡ false → place same x (ys ++ (x ∷ [])) ≡ length ys
    place_new x [] h = rw (self x) refl
    place_new x (y ∷ ys) h = rw (or_left (same x y) (any (same x) ys) h) (ap suc (place_new x ys (or_right (same x y) (any (same x) ys) h)))

    -- joining x keeps its place
    pub place-joined : (x : A) (ys : List A) → place same x (joined same x ys) ≡ place same x ys
    place-joined x ys = go (any (same x) ys) refl
      where
        go : (q : Bool) → any (same x) ys ≡ q → place same x (cond q ys (ys ++ (x ∷ []))) ≡ place same x ys
        go true e = refl
        go false e = place_new x ys e ∙ sym (place_outside x ys e)

    -- and so does all that appears later
    pub place-first : (x : A) (ys zs : List A) → place same x (appearing same (joined same x ys) zs) ≡ place same x ys
    place-first x ys zs =
        place-begins x (joined same x ys) (appearing same (joined same x ys) zs) (appearing-begins (joined same x ys) zs) (joined-any x ys) ∙ place-joined x ys

    -- one that appears has the place k
    abbrev stands_at : List A → ℕ → A → Bool
    stands_at all k y = eqb (place same y all) k

    -- each of those that are kept was kept before, or has the place of one that appears
    pub appearing-owned : (xs ys : List A) (k : ℕ) → k < length (appearing same xs ys) → (k < length xs) ⊎ (any (stands_at (appearing same xs ys) k) ys ≡ true)
    appearing-owned xs [] k h = inl h
    appearing-owned xs (y ∷ ys) k h = go (any (same y) xs) refl (appearing-owned (joined same y xs) ys k h)
      where
        new : any (same y) xs ≡ false → length xs ≤ k → k < length (joined same y xs) → stands_at (appearing same xs (y ∷ ys)) k y ≡ true
        new e low high =
            let at : place same y (appearing same (joined same y xs) ys) ≡ length xs =
            place-begins y (joined same y xs) (appearing same (joined same y xs) ys) (appearing-begins (joined same y xs) ys) (joined-any y xs)
            ∙ (ap (place same y) (joined_new y xs e) ∙ place_new y xs e) in
            eq-eqb (place same y (appearing same (joined same y xs) ys)) k (omega (arith, at, ap length (joined_new y xs e), length-append xs (y ∷ [])))

        go : (q : Bool) → any (same y) xs ≡ q → (k < length (joined same y xs)) ⊎ (any (stands_at (appearing same (joined same y xs) ys) k) ys ≡ true)
            → (k < length xs) ⊎ (any (stands_at (appearing same xs (y ∷ ys)) k) (y ∷ ys) ≡ true)
        go q e (inr f) = inr (rw f (or-true (stands_at (appearing same xs (y ∷ ys)) k y)))
        go true e (inl f) = inl (omega (arith, f, ap length (joined-has y xs e)))
        go false e (inl f) = ⊎_elim inl (λ low. inr (rw (new e low f) refl)) (below_or k (length xs))

    -- each that appears is the same as one of those that are kept
    pub appearing-any : (xs ys : List A) → Each (λ y. any (same y) (appearing same xs ys) ≡ true) ys
    appearing-any xs [] = tt
    appearing-any xs (y ∷ ys) = (
      any-begins (same y) (joined same y xs) (appearing same xs (y ∷ ys)) (appearing-begins (joined same y xs) ys) (joined-any y xs),
      appearing-any (joined same y xs) ys,
    )

    module _ (alike : (x y z : A) → same x y ≡ true → same x z ≡ same y z) where
      turned : (x y : A) → same x y ≡ true → same y x ≡ true
      turned x y h = sym (alike x y x h) ∙ self x

      -- those that are the same have one place
      pub place_same : (x y : A) (zs : List A) → same x y ≡ true → place same x zs ≡ place same y zs
      place_same x y [] h = refl
      place_same x y (z ∷ zs) h = rw (alike x y z h, place_same x y zs h)

      -- two that stand in a list have one place exactly when they are the same
      pub place_apart : (x y : A) (zs : List A) → any (same x) zs ≡ true → any (same y) zs ≡ true → eqb (place same x zs) (place same y zs) ≡ same x y
      place_apart x y zs h k = go (same x y) refl
        where
          one : place same x zs ≡ place same y zs → same x y ≡ true
          one e =
              let z : A = get_or zs (place same x zs) x in
              let f : same x z ≡ true = place-finds x x zs h in
              let g : same y z ≡ true = rw (← e) at (place-finds y x zs k) in
              alike x z y f ∙ turned y z g

          go : (q : Bool) → same x y ≡ q → eqb (place same x zs) (place same y zs) ≡ q
          go true e = eq-eqb (place same x zs) (place same y zs) (place_same x y zs e)
          go false e = ne_eqb (place same x zs) (place same y zs) (λ f. true-false (one f) e)
