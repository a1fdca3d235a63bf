-- What the lists of an obligation say of the values of their literals: source latches, gates and claims.
use Prim.Native.Nat.{ℕ, ◌≤◌}
use mathlib.Core.Bool.{Bool, true, false, not, cond, ◌&&◌, ◌||◌, or-false}
use mathlib.Core.List.{List, [], ◌∷◌, map}
use mathlib.Core.Path.{◌≡◌, refl, sym, ◌∙◌}
use native.Mathlib.Omega.{arith}
use lib.ListN.{length, take}
use Rattle.lists.specs.Tests.{all, any, Each}
use Rattle.lists.specs.Words.{words_of}
use Rattle.lists.proofs.BoolLaws.{true-false, and_left, and_right}
use Rattle.lists.proofs.TestLaws.{all_append}
use Rattle.aiger.specs.declared.Gate.{Gate}
use Rattle.aiger.specs.Gates.{Valuation, value, Conjunction}
use Rattle.cnf.proofs.TruthLaws.{value-opposite}
use Rattle.obligation_spec.specs.Lists.{valued, source_lists, gate_lists, differing}

-- each value has its bit, as far as both lists reach
abbrev pub matches : List Bool → List Bool → Bool
matches [] bs = true
matches (y ∷ ys) [] = true
matches (y ∷ ys) (b ∷ bs) = cond b y (not y) && matches ys bs

pub matches_take : (ys bs : List Bool) → length ys ≤ length bs → matches ys bs ≡ true → ys ≡ take (length ys) bs
matches_take [] bs e h = refl
matches_take (y ∷ ys) [] e h = absurd (omega arith)
matches_take (y ∷ ys) (b ∷ bs) e h =
    rw (← same b y (and_left (cond b y (not y)) (matches ys bs) h), ← matches_take ys bs (omega arith) (and_right (cond b y (not y)) (matches ys bs) h))
  where
    same : (b y : Bool) → cond b y (not y) ≡ true → y ≡ b
    same true y h = h
    same false true h = true-false h refl
    same false false h = refl

pub take_matches : (ys bs : List Bool) → length ys ≤ length bs → ys ≡ take (length ys) bs → matches ys bs ≡ true
take_matches [] bs e h = refl
take_matches (y ∷ ys) [] e h = refl
take_matches (y ∷ ys) (b ∷ bs) e h =
    let p : y ≡ b = cc in
    let q : ys ≡ take (length ys) bs = cc in
    rw (p, take_matches ys bs (omega arith) q) (same b)
  where
    same : (b : Bool) → (cond b b (not b) && true) ≡ true
    same true = refl
    same false = refl

module _ (v : Valuation) where
  pub value-valued : (l : ℕ) (b : Bool) → value v (valued l b) ≡ cond b (value v l) (not (value v l))
  value-valued l true = refl
  value-valued l false = value-opposite v l

  -- the source's lists: true where each latch has its bit
  pub source_is : (ls : List ℕ) (bs : List Bool) → all (any (value v)) (source_lists ls bs) ≡ matches (map (value v) ls) bs
  source_is [] bs = refl
  source_is (l ∷ ls) [] = refl
  source_is (l ∷ ls) (b ∷ bs) = rw (value-valued l b, source_is ls bs, or-false (cond b (value v l) (not (value v l))))

  -- a claim: false where each literal has its bit
  pub differing-is : (ls : List ℕ) (bs : List Bool) → any (value v) (differing ls bs) ≡ not (matches (map (value v) ls) bs)
  differing-is [] bs = refl
  differing-is (l ∷ ls) [] = refl
  differing-is (l ∷ ls) (b ∷ bs) = rw (value-valued l (not b), differing-is ls bs) (turned b (value v l) (matches (map (value v) ls) bs))
    where
      turned : (b y m : Bool) → (cond (not b) y (not y) || not m) ≡ not (cond b y (not y) && m)
      turned true true m = refl
      turned true false m = refl
      turned false true m = refl
      turned false false m = refl

  -- a gate's three clauses
  abbrev three : Bool → Bool → Bool → Bool
  three o l r = (not o || (l || false)) && ((not o || (r || false)) && ((o || (not l || (not r || false))) && true))

  gate_is : (g : Gate) → all (any (value v)) (gate_lists g) ≡ three (value v g.output) (value v g.left) (value v g.right)
  gate_is g = rw (value-opposite v g.output, value-opposite v g.left, value-opposite v g.right)

  three_says : (o l r : Bool) → three o l r ≡ true → o ≡ (l && r)
  three_says true true true h = refl
  three_says true true false h = true-false h refl
  three_says true false true h = true-false h refl
  three_says true false false h = true-false h refl
  three_says false true true h = true-false h refl
  three_says false true false h = refl
  three_says false false true h = refl
  three_says false false false h = refl

  three_true : (l r : Bool) → three (l && r) l r ≡ true
  three_true true true = refl
  three_true true false = refl
  three_true false true = refl
  three_true false false = refl

  pub gates-say : (gs : List Gate) → all (any (value v)) (words_of gate_lists gs) ≡ true → Each (Conjunction v) gs
  gates-say [] h = tt
  gates-say (g ∷ gs) h =
      let one : Bool = all (any (value v)) (gate_lists g) in
      let rest : Bool = all (any (value v)) (words_of gate_lists gs) in
      let k : (one && rest) ≡ true = sym (all_append (any (value v)) (gate_lists g) (words_of gate_lists gs)) ∙ h in
      (three_says (value v g.output) (value v g.left) (value v g.right) (sym (gate_is g) ∙ and_left one rest k), gates-say gs (and_right one rest k))

  pub gates-true : (gs : List Gate) → Each (Conjunction v) gs → all (any (value v)) (words_of gate_lists gs) ≡ true
  gates-true [] e = refl
  gates-true (g ∷ gs) e =
      all_append (any (value v)) (gate_lists g) (words_of gate_lists gs)
      ∙ rw (gate_is g, e.0, three_true (value v g.left) (value v g.right), gates-true gs e.1)
