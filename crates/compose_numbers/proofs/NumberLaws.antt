-- The loop that numbers leaves: its invariant, and one turn.
use Rattle.std.specs.Prelude.{Option, Some, None}
use Prim.Native.Nat.{ℕ, suc, ◌+◌, ◌≤◌, ◌<◌}
use mathlib.Core.Bool.{Bool, true, false, cond}
use mathlib.Core.List.{List, [], ◌∷◌, ◌++◌, append_assoc, append-nil}
use mathlib.Core.Path.{◌≡◌, refl, sym, ap, ◌∙◌}
use native.Mathlib.Omega.{arith}
use lib.Dec.{eqb}
use lib.ListN.{length, get_or, drop, set, length-set, length-append, drop_of_length-le}
use Rattle.lists.specs.Bits.{odd}
use Rattle.lists.specs.Parts.{put}
use Rattle.lists.proofs.PartLaws.{put-none, put_one, put_front, put-length, put-put}
use Rattle.lists.proofs.RestLaws.{rest_more}
use Rattle.compose_joint.specs.Inner.Numbers.{Numbers, with_number, slot, number_all}
use Rattle.compose_numbers.specs.Inner.Marked.{HasSlot, Known, known, KnownNumber, CanNumber, Numbered}

-- numbers that were given before
abbrev with_all : List ℕ → Numbers → Numbers
with_all ns n = record { numbers = ns ++ n.numbers; assigned = n.assigned; next = n.next }

with_all-more : (ns : List ℕ) (x : ℕ) (n : Numbers) → with_all (ns ++ x ∷ []) n ≡ with_all ns (with_number x n)
with_all-more ns x n = ap (λ (l : List ℕ). record { numbers = l; assigned = n.assigned; next = n.next }) (append_assoc ns (x ∷ []) n.numbers)

some-none : {X : Type 0} {m : ℕ} → Some m ≡ None → X
some-none e = let z : ◌≡◌ {A = ℕ} 0 1 = cc in absurd (omega arith)

some-is : {m k : ℕ} → Some m ≡ Some k → m ≡ k
some-is e = cc

-- i leaves are numbered
pub record Numbering (origins assigned₀ : List ℕ) (before : ℕ) (numbers₀ : List ℕ) (next₀ : ℕ) (assigned numbers : List ℕ) (next i : ℕ) : Type 0 where
  pub given : List ℕ
  pub passed : i ≤ length origins
  pub sized : length assigned ≡ length assigned₀
  pub counted : length given ≡ i
  pub low : next ≤ next₀ + i
  pub is : numbers ≡ put numbers₀ 0 given
  pub rest : with_all given (number_all before next (drop i origins) assigned) ≡ number_all before next₀ origins assigned₀

module _ (origins assigned₀ : List ℕ) (before : ℕ) (numbers₀ : List ℕ) (next₀ : ℕ) (pre : CanNumber origins assigned₀ before numbers₀ next₀) where
  pub numbering-none : Numbering origins assigned₀ before numbers₀ next₀ assigned₀ numbers₀ next₀ 0
  numbering-none =
      record { given = []; passed = omega arith; sized = refl; counted = refl; low = omega arith; is = sym (put-none numbers₀ 0); rest = refl }

  module _ (assigned numbers : List ℕ) (next i : ℕ) (s : Numbering origins assigned₀ before numbers₀ next₀ assigned numbers next i) where
    pub numbering-done : length origins ≤ i → Numbered origins assigned₀ before next₀ assigned numbers next
    numbering-done h =
        let none : drop i origins ≡ [] = drop_of_length-le origins {i = i} h in
        let all : with_all s.given (number_all before next [] assigned) ≡ number_all before next₀ origins assigned₀ =
        ap (λ (l : List ℕ). with_all s.given (number_all before next l assigned)) (sym none) ∙ s.rest in
        let long : length s.given ≡ length numbers₀ = omega (arith, s.counted, s.passed, pre.room) in
        let whole : put numbers₀ 0 s.given ≡ s.given =
        put_front numbers₀ s.given ∙ rw (drop_of_length-le numbers₀ {i = length s.given} (omega (arith, long))) (append-nil s.given) in
        record {
          returns = ap (λ (n : Numbers). n.next) all;
          stored = ap (λ (n : Numbers). n.assigned) all;
          numbered = s.is ∙ (whole ∙ (sym (append-nil s.given) ∙ ap (λ (n : Numbers). n.numbers) all));
        }

    module _ (more : i < length origins) where
      abbrev x : ℕ
      x = get_or origins i 0

      pub turn-slot : HasSlot before (length assigned) x
      turn-slot = rw s.sized (pre.each i more)

      -- the leaf gets number n, and the assigned numbers are t
      advanced : (t : List ℕ) (next₁ n : ℕ) → length t ≡ length assigned → next₁ ≤ next + 1
          → number_all before next (x ∷ drop (i + 1) origins) assigned ≡ with_number n (number_all before next₁ (drop (i + 1) origins) t)
          → Numbering origins assigned₀ before numbers₀ next₀ t (set numbers i n) next₁ (i + 1)
      advanced t next₁ n e l r =
          let o : List ℕ = put numbers₀ 0 s.given in
          let all-is : length o ≡ length numbers₀ = put-length numbers₀ 0 s.given (omega (arith, s.counted, pre.room)) in
          let place : i ≡ 0 + length s.given = omega (arith, s.counted) in
          let stored : set numbers i n ≡ put numbers₀ 0 (s.given ++ n ∷ []) =
          ap (λ (l : List ℕ). set l i n) s.is
          ∙ (sym (put_one o i n (omega (arith, all-is, pre.room)))
          ∙ (ap (λ (j : ℕ). put o j (n ∷ [])) place ∙ put-put numbers₀ 0 s.given (omega arith) (n ∷ []))) in
          record {
            given = s.given ++ n ∷ [];
            passed = omega arith;
            sized = e ∙ s.sized;
            counted = length-append s.given (n ∷ []) ∙ omega (arith, s.counted);
            low = omega (arith, l, s.low);
            is = stored;
            rest =
                with_all-more s.given n (number_all before next₁ (drop (i + 1) origins) t)
                ∙ ap (with_all s.given) (sym r ∙ ap (λ (l : List ℕ). number_all before next l assigned) (sym (rest_more origins i 0 more)))
                ∙ s.rest;
          }

      module _ (t : List ℕ) where
        -- a leaf that has a number
        pub turn_old : (n : ℕ) (o : Option ℕ) → o ≡ Some n → KnownNumber before x next assigned t o → Numbering origins assigned₀ before numbers₀ next₀ t (set numbers i n) next (i + 1)
        turn_old n o e f = go (odd x) refl (eqb (get_or assigned (slot before x) 0) 0) refl
          where
            words : (q r : Bool) → odd x ≡ q → eqb (get_or assigned (slot before x) 0) 0 ≡ r
                → known t (Some n)
                ≡ cond q (known assigned None) (cond r (known (set assigned (slot before x) next) None) (known assigned (Some (get_or assigned (slot before x) 0))))
            words q r a b = ap (known t) (sym e) ∙ (f ∙ rw (a, b) refl)

            go : (q : Bool) → odd x ≡ q → (r : Bool) → eqb (get_or assigned (slot before x) 0) 0 ≡ r → Numbering origins assigned₀ before numbers₀ next₀ t (set numbers i n) next (i + 1)
            go true a r b = some-none (ap (λ (k : Known). k.number) (words true r a b))
            go false a true b = some-none (ap (λ (k : Known). k.number) (words false true a b))
            go false a false b =
                let k = words false false a b in
                let same : n ≡ get_or assigned (slot before x) 0 = some-is (ap (λ (k : Known). k.number) k) in
                let whole : t ≡ assigned = ap (λ (k : Known). k.assigned) k in
                advanced t next n (ap length whole) (omega arith) (rw (a, b, same, whole) refl)

        -- one that has none
        pub turn_new : (o : Option ℕ) → o ≡ None → KnownNumber before x next assigned t o → Numbering origins assigned₀ before numbers₀ next₀ t (set numbers i next) (next + 1) (i + 1)
        turn_new o e f = go (odd x) refl (eqb (get_or assigned (slot before x) 0) 0) refl
          where
            words : (q r : Bool) → odd x ≡ q → eqb (get_or assigned (slot before x) 0) 0 ≡ r
                → known t None
                ≡ cond q (known assigned None) (cond r (known (set assigned (slot before x) next) None) (known assigned (Some (get_or assigned (slot before x) 0))))
            words q r a b = ap (known t) (sym e) ∙ (f ∙ rw (a, b) refl)

            after : suc next ≡ next + 1
            after = omega arith

            go : (q : Bool) → odd x ≡ q → (r : Bool) → eqb (get_or assigned (slot before x) 0) 0 ≡ r
                → Numbering origins assigned₀ before numbers₀ next₀ t (set numbers i next) (next + 1) (i + 1)
            go true a r b =
                let whole : t ≡ assigned = ap (λ (k : Known). k.assigned) (words true r a b) in
                advanced t (next + 1) next (ap length whole) (omega arith) (rw (a, whole, ← after) refl)
            go false a true b =
                let whole : t ≡ set assigned (slot before x) next = ap (λ (k : Known). k.assigned) (words false true a b) in
                advanced t (next + 1) next (ap length whole ∙ length-set assigned (slot before x) next) (omega arith) (rw (a, b, whole, ← after) refl)
            go false a false b = some-none (sym (ap (λ (k : Known). k.number) (words false false a b)))
