-- Laws of lists that stand in the work words, and of words that are 0.
use Prim.Native.Nat.{ℕ, zero, suc, ◌+◌, ◌-◌, ◌≤◌, ◌<◌}
use mathlib.Core.List.{List, ◌++◌}
use mathlib.Core.Path.{◌≡◌, refl, sym, ap, ap₂, ◌∙◌}
use native.Mathlib.Omega.{arith}
use lib.ListN.{length, get_or, take, drop, length-append}
use lib.Seq.{drop-drop}
use Rattle.lists.specs.Parts.{part, zeros}
use Rattle.lists.proofs.KeptLaws.{part-kept}
use Rattle.lists.proofs.PartLaws.{part_at, part_of_part, part_join}
use Rattle.lists.proofs.ZeroLaws.{zeros-take}
use Rattle.compose_layout.specs.Inner.Laid.{Has}
use Rattle.compose_merge.specs.Inner.Stages.{Clean}

-- ---- lists in the words

-- a part that is a list
pub has_part : (work : List ℕ) (a n : ℕ) (xs : List ℕ) → n ≡ length xs → a + n ≤ length work → part work a (a + n) ≡ xs → Has work a xs
has_part work a n xs e h p = record { room = omega arith; is = ap (λ (k : ℕ). part work a (a + k)) (sym e) ∙ p }

module _ (work : List ℕ) (a : ℕ) (xs : List ℕ) (h : Has work a xs) where
  -- and back
  pub part-has : (n : ℕ) → n ≡ length xs → part work a (a + n) ≡ xs
  part-has n e = ap (λ (k : ℕ). part work a (a + k)) e ∙ h.is

  -- one of its words
  pub has-at : (i : ℕ) → i < length xs → get_or work (a + i) 0 ≡ get_or xs i 0
  has-at i k = sym (part_at work a (a + length xs) i 0 (omega arith)) ∙ ap (λ (l : List ℕ). get_or l i 0) h.is

  -- one list behind another
  pub has_join : (b : ℕ) (ys : List ℕ) → b ≡ a + length xs → Has work b ys → Has work a (xs ++ ys)
  has_join b ys e k =
      has_part work a (length xs + length ys) (xs ++ ys) (sym (length-append xs ys)) (omega (arith, k.room))
      (ap (part work a) (sum (length xs) (length ys))
      ∙ sym (part_join work a (a + length xs) (a + length xs + length ys) (omega arith) (omega arith))
      ∙ ap₂ (λ (us vs : List ℕ). us ++ vs) h.is (ap (λ (c : ℕ). part work c (c + length ys)) (sym e) ∙ k.is))
    where
      sum : (i j : ℕ) → a + (i + j) ≡ a + i + j
      sum i j = omega arith

-- ---- words that are 0

-- zeros, some left out
zeros-drop : (k n : ℕ) → drop k (zeros n) ≡ zeros (n - k)
zeros-drop zero n = let e : n - 0 ≡ n = omega arith in rw e refl
zeros-drop (suc k) zero = let e : 0 - suc k ≡ 0 = omega arith in rw e refl
zeros-drop (suc k) (suc n) = let e : suc n - suc k ≡ n - k = omega arith in rw e (zeros-drop k n)

-- a part of zeros
zeros-part : (n a e : ℕ) → e ≤ n → part (zeros n) a e ≡ zeros (e - a)
zeros-part n a e h = ap (take (e - a)) (zeros-drop a n) ∙ zeros-take (e - a) (n - a) (omega arith)

module _ (work : List ℕ) (a e : ℕ) (k : Clean work a e) where
  -- fewer words
  pub clean-within : (b c : ℕ) → a ≤ b → b ≤ c → c ≤ e → Clean work b c
  clean-within b c h i j =
      let p : a + (b - a) ≡ b = omega arith in
      let q : a + (c - a) ≡ c = omega arith in
      let n : c - a - (b - a) ≡ c - b = omega arith in
      record {
        is =
            ap₂ (λ (x y : ℕ). part work x y) (sym p) (sym q)
            ∙ sym (part_of_part work a e (b - a) (c - a) (omega arith))
            ∙ ap (λ (l : List ℕ). part l (b - a) (c - a)) k.is
            ∙ zeros-part (e - a) (b - a) (c - a) (omega arith)
            ∙ ap zeros n;
      }

  -- so many of them
  pub clean-part : (b n : ℕ) → a ≤ b → b + n ≤ e → part work b (b + n) ≡ zeros n
  clean-part b n h i = let d : b + n - b ≡ n = omega arith in (clean-within b (b + n) h (omega arith) i).is ∙ ap zeros d

  -- words that are kept
  pub clean-kept : (work' : List ℕ) (b c : ℕ) → a ≤ b → b ≤ c → c ≤ e → part work' b c ≡ part work b c → Clean work' b c
  clean-kept work' b c h i j p = record { is = p ∙ (clean-within b c h i j).is }

  -- what stands in front of a place is kept
  pub clean-before : (work' : List ℕ) (p : ℕ) → take p work' ≡ take p work → e ≤ p → Clean work' a e
  clean-before work' p d h = record { is = part-kept work' work p d a e h ∙ k.is }

  -- what stands behind a place is kept
  pub clean-behind : (work' : List ℕ) (p b : ℕ) → drop p work' ≡ drop p work → p ≤ b → a ≤ b → b ≤ e → Clean work' b e
  clean-behind work' p b d h i j = clean-kept work' b e i j (omega arith) (ap (take (e - b)) (rest work' ∙ ap (drop (b - p)) d ∙ sym (rest work)))
    where
      rest : (w : List ℕ) → drop b w ≡ drop (b - p) (drop p w)
      rest w = let s : p + (b - p) ≡ b = omega arith in sym (drop-drop (b - p) p w ∙ ap (λ (x : ℕ). drop x w) s)
