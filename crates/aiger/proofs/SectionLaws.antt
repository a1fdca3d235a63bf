-- Laws of `section`, and `Taking`: a section that is taken one line at a time.
use Prim.Native.Nat.{ℕ, zero, suc, ◌+◌, ◌-◌, ◌≤◌, ◌<◌}
use mathlib.Core.List.{List, [], ◌∷◌, ◌++◌, append_assoc, append-nil}
use mathlib.Core.Path.{◌≡◌, refl, sym, ap, ◌∙◌}
use native.Mathlib.Nat.{zero-add}
use native.Mathlib.Omega.{arith}
use lib.ListN.{length, drop, set, length-append, length-drop, drop_of_length-le}
use Rattle.lists.specs.Answer.{Answer, got, refused, and_then}
use Rattle.lists.specs.Parts.{Bytes}
use Rattle.lists.proofs.AnswerLaws.{and_then-got}
use Rattle.lists.proofs.PartLaws.{Grown, grown-none, grown-set}
use Rattle.aiger.specs.Sections.{Section, with_item, section}

module _ {A : Type 0} where
  -- a section with items and the lines after it
  abbrev pub section_of : List A → List Bytes → Answer (Section A)
  section_of items rest = got (record { items = items; rest = rest })

  -- its items and the lines after it, to tell sections apart
  items_of : Answer (Section A) → List A
  items_of (got s) = s.items
  items_of (refused k) = []

  rest_of : Answer (Section A) → List Bytes
  rest_of (got s) = s.rest
  rest_of (refused k) = []

  pub same-items : (xs ys : List A) (xr yr : List Bytes) → section_of xs xr ≡ section_of ys yr → xs ≡ ys
  unfolding items_of
  same-items xs ys xr yr e = ap items_of e

  pub same_rest : (xs ys : List A) (xr yr : List Bytes) → section_of xs xr ≡ section_of ys yr → xr ≡ yr
  unfolding rest_of
  same_rest xs ys xr yr e = ap rest_of e

  pub no_section : {X : Type 0} (xs : List A) (rest : List Bytes) (k : ℕ) → section_of xs rest ≡ refused k → X
  no_section xs rest k e = let z : ◌≡◌ {A = ℕ} 0 1 = cc in absurd (omega arith)

  -- items in front of those of a section
  abbrev pub prefixed : List A → Answer (Section A) → Answer (Section A)
  prefixed xs (got s) = section_of (xs ++ s.items) s.rest
  prefixed xs (refused k) = refused k

  pub prefixed_none : (x : Answer (Section A)) → x ≡ prefixed [] x
  prefixed_none (got s) = refl
  prefixed_none (refused k) = refl

  pub prefixed_more : (xs : List A) (a : A) (x : Answer (Section A)) → prefixed xs (and_then x (with_item a)) ≡ prefixed (xs ++ a ∷ []) x
  prefixed_more xs a (got s) = ap (λ (l : List A). section_of l s.rest) (sym (append_assoc xs (a ∷ []) s.items))
  prefixed_more xs a (refused k) = refl

-- the first line of a section decides how it goes on
module _ {A : Type 0} (item : Bytes → Answer A) (l : Bytes) (ls : List Bytes) (m : ℕ) where
  more_by : (x : Answer A) → item l ≡ x → (a : A) (rest : List Bytes) → section item 1 (l ∷ ls) ≡ section_of (a ∷ []) rest
      → section item (suc m) (l ∷ ls) ≡ and_then (section item m rest) (with_item a)
  more_by (got b) e a rest h =
      let g : section_of (b ∷ []) ls ≡ section_of (a ∷ []) rest = simp e at h in
      let ea : b ∷ [] ≡ a ∷ [] = same-items (b ∷ []) (a ∷ []) ls rest g in
      let eb : b ≡ a = cc in
      rw (e, eb, same_rest (b ∷ []) (a ∷ []) ls rest g)
  more_by (refused k) e a rest h = no_section (a ∷ []) rest k (sym (simp e at h))

  bad_by : (x : Answer A) → item l ≡ x → section item 1 (l ∷ ls) ≡ refused 8 → section item (suc m) (l ∷ ls) ≡ refused 8
  bad_by (got b) e h = no_section (b ∷ []) ls 8 (simp e at h)
  bad_by (refused k) e h = let g : ◌≡◌ {A = Answer (Section A)} (refused k) (refused 8) = simp e at h in let ek : k ≡ 8 = cc in rw (e, ek)

module _ {A : Type 0} (item : Bytes → Answer A) where
  pub section-more : (lines : List Bytes) (a : A) (rest : List Bytes) → section item 1 lines ≡ section_of (a ∷ []) rest → (m : ℕ)
      → section item (suc m) lines ≡ and_then (section item m rest) (with_item a)
  section-more [] a rest h m = no_section (a ∷ []) rest 8 (sym h)
  section-more (l ∷ ls) a rest h m = more_by item l ls m (item l) refl a rest h

  pub section_bad : (lines : List Bytes) → section item 1 lines ≡ refused 8 → (m : ℕ) → section item (suc m) lines ≡ refused 8
  section_bad [] h m = refl
  section_bad (l ∷ ls) h m = bad_by item l ls m (item l) refl h

-- of the n items that the lines lines₀ are to give, those of `done` are taken, and `lines` are left
pub record Taking {A : Type 0} (item : Bytes → Answer A) (n : ℕ) (lines₀ : List Bytes) (done : List A) (lines : List Bytes) : Type 0 where
  pub is : section item n lines₀ ≡ prefixed done (section item (n - length done) lines)
  pub fits : length done ≤ n

module _ {A : Type 0} (item : Bytes → Answer A) (n : ℕ) (lines₀ : List Bytes) where
  pub taking-none : Taking item n lines₀ [] lines₀
  taking-none = let e : n - 0 ≡ n = omega arith in record { is = rw e (prefixed_none (section item n lines₀)); fits = omega arith }

  module _ (done : List A) (lines : List Bytes) (t : Taking item n lines₀ done lines) where
    pub taking-more : length done < n → (a : A) (rest : List Bytes) → section item 1 lines ≡ section_of (a ∷ []) rest → Taking item n lines₀ (done ++ a ∷ []) rest
    taking-more h a rest k =
        let e : n - length done ≡ suc (n - (length done + 1)) = omega arith in
        let f : length (done ++ a ∷ []) ≡ length done + 1 = length-append done (a ∷ []) in
        record {
          is =
              t.is
              ∙ ap (λ (m : ℕ). prefixed done (section item m lines)) e
              ∙ ap (prefixed done) (section-more item lines a rest k (n - (length done + 1)))
              ∙ prefixed_more done a (section item (n - (length done + 1)) rest)
              ∙ ap (λ (m : ℕ). prefixed (done ++ a ∷ []) (section item (n - m) rest)) (sym f);
          fits = omega arith;
        }

    pub taking_bad : length done < n → section item 1 lines ≡ refused 8 → section item n lines₀ ≡ refused 8
    taking_bad h k =
        let e : n - length done ≡ suc (n - (length done + 1)) = omega arith in
        t.is ∙ ap (λ (m : ℕ). prefixed done (section item m lines)) e ∙ ap (prefixed done) (section_bad item lines k (n - (length done + 1)))

    pub taking-done : n ≤ length done → section item n lines₀ ≡ section_of done lines
    taking-done h =
        let e : n - length done ≡ 0 = omega arith in
        t.is ∙ ap (λ (m : ℕ). prefixed done (section item m lines)) e ∙ ap (λ (l : List A). section_of l lines) (append-nil done)

-- such items stored as they are taken: o is o₀ with the first i of them in its front
pub record Storing {A : Type 0} (item : Bytes → Answer A) (n : ℕ) (lines₀ : List Bytes) (o₀ o : List A) (i : ℕ) (lines : List Bytes) : Type 0 where
  pub done : List A
  pub grown : Grown o₀ done o i
  pub taking : Taking item n lines₀ done lines

module _ {A : Type 0} (item : Bytes → Answer A) (n : ℕ) (lines₀ : List Bytes) (o₀ : List A) where
  pub storing-none : Storing item n lines₀ o₀ o₀ 0 lines₀
  storing-none = record { done = []; grown = grown-none o₀; taking = taking-none item n lines₀ }

  module _ (o : List A) (i : ℕ) (lines : List Bytes) (k : Storing item n lines₀ o₀ o i lines) where
    pub storing-more : i < n → i < length o → (a : A) (rest : List Bytes) → section item 1 lines ≡ section_of (a ∷ []) rest
        → Storing item n lines₀ o₀ (set o i a) (i + 1) rest
    storing-more h f a rest e =
        record {
          done = k.done ++ a ∷ [];
          grown = grown-set o₀ k.done o i k.grown a f;
          taking = taking-more item n lines₀ k.done lines k.taking (omega (arith, k.grown.at-is)) a rest e;
        }

    pub storing_bad : i < n → section item 1 lines ≡ refused 8 → section item n lines₀ ≡ refused 8
    storing_bad h e = taking_bad item n lines₀ k.done lines k.taking (omega (arith, k.grown.at-is)) e

    pub storing-done : n ≤ i → section item n lines₀ ≡ section_of k.done lines
    storing-done h = taking-done item n lines₀ k.done lines k.taking (omega (arith, k.grown.at-is))

    -- o₀ is as long as the section
    pub storing-all : length o₀ ≡ n → n ≤ i → section item n lines₀ ≡ section_of o lines
    storing-all e h =
        let z : length o₀ ≤ length k.done = omega (arith, k.grown.at-is) in
        storing-done h ∙ ap (λ (l : List A). section_of l lines) (sym (k.grown.is ∙ rw (drop_of_length-le o₀ z) (append-nil k.done)))

-- an accepted section has as many items as lines
module _ {A : Type 0} (item : Bytes → Answer A) where
  Counted : ℕ → List Bytes → Type 0
  Counted n lines = (items : List A) (rest : List Bytes) → section item n lines ≡ section_of items rest → length items ≡ n

  module _ (n : ℕ) (l : Bytes) (ls : List Bytes) (ih : Counted n ls) where
    by-rest : (a : A) → item l ≡ got a → (y : Answer (Section A)) → section item n ls ≡ y → Counted (suc n) (l ∷ ls)
    unfolding Counted
    by-rest a e (got s) f items rest h =
        rw (← same-items (a ∷ s.items) items s.rest rest (simp (e, f) at h)) (ap suc (ih s.items s.rest f))
    by-rest a e (refused k) f items rest h = no_section items rest k (sym (simp (e, f) at h))

    by_item : (x : Answer A) → item l ≡ x → Counted (suc n) (l ∷ ls)
    unfolding Counted
    by_item (got a) e items rest h = by-rest a e (section item n ls) refl items rest h
    by_item (refused k) e items rest h = no_section items rest k (sym (simp e at h))

  counted : (n : ℕ) (lines : List Bytes) → Counted n lines
  unfolding Counted
  counted zero lines items rest h = rw (← same-items [] items lines rest h)
  counted (suc n) [] items rest h = no_section items rest 8 (sym h)
  counted (suc n) (l ∷ ls) items rest h = by_item n l ls (counted n ls) (item l) refl items rest h

  pub section-length : (n : ℕ) (lines : List Bytes) (items : List A) (rest : List Bytes) → section item n lines ≡ section_of items rest → length items ≡ n
  unfolding Counted
  section-length = counted

  -- the lines after it
  pub section-rest : (n : ℕ) (lines : List Bytes) (items : List A) (rest : List Bytes) → section item n lines ≡ section_of items rest → rest ≡ drop n lines
  section-rest zero lines items rest h = sym (same_rest [] items lines rest h)
  section-rest (suc n) [] items rest h = no_section items rest 8 (sym h)
  section-rest (suc n) (l ∷ ls) items rest h =
      let one = and_then-got (item l) (λ a. and_then (section item n ls) (with_item a)) (record { items = items; rest = rest }) h in
      let more = and_then-got (section item n ls) (with_item one.0) (record { items = items; rest = rest }) one.2 in
      let s = more.0 in
      sym (same_rest (one.0 ∷ s.items) items s.rest rest more.2) ∙ section-rest n ls s.items s.rest more.1

  pub section_shorter : (n : ℕ) (lines : List Bytes) (items : List A) (rest : List Bytes) → section item n lines ≡ section_of items rest → length rest ≤ length lines
  section_shorter n lines items rest h = omega (arith, ap length (section-rest n lines items rest h), length-drop n lines)

  -- a section of a lines, and then one of b lines
  module _ (b : ℕ) where
    abbrev after : Section A → Answer (Section A)
    after s = prefixed s.items (section item b s.rest)

    item_first : (x : A) (xs : List A) (r : Answer (Section A)) → and_then (prefixed xs r) (with_item x) ≡ prefixed (x ∷ xs) r
    item_first x xs (got s) = refl
    item_first x xs (refused k) = refl

    items-first : (x : A) (r : Answer (Section A)) → and_then (and_then r after) (with_item x) ≡ and_then (and_then r (with_item x)) after
    items-first x (got s) = item_first x s.items (section item b s.rest)
    items-first x (refused k) = refl

    split_by : (a : ℕ) (ls : List Bytes) → section item (a + b) ls ≡ and_then (section item a ls) after → (r : Answer A)
        → and_then r (λ x. and_then (section item (a + b) ls) (with_item x)) ≡ and_then (and_then r (λ x. and_then (section item a ls) (with_item x))) after
    split_by a ls e (got x) = rw e (items-first x (section item a ls))
    split_by a ls e (refused k) = refl

    split : (a : ℕ) (lines : List Bytes) → section item (a + b) lines ≡ and_then (section item a lines) after
    split zero lines = rw (zero-add b) (prefixed_none (section item b lines))
    split (suc a) [] = let e : suc a + b ≡ suc (a + b) = omega arith in rw e
    split (suc a) (l ∷ ls) = let e : suc a + b ≡ suc (a + b) = omega arith in rw e (split_by a ls (split a ls) (item l))

    pub section-join : (a : ℕ) (lines : List Bytes) (xs ys : List A) (rest end : List Bytes) → section item a lines ≡ section_of xs rest → section item b rest ≡ section_of ys end
        → section item (a + b) lines ≡ section_of (xs ++ ys) end
    section-join a lines xs ys rest end e f = split a lines ∙ rw (e, f)
