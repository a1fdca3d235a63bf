-- The names that symbols give, with one symbol more at the end.
use Prim.Native.Nat.{ℕ, zero, suc, ◌+◌, ◌*◌, ◌<◌}
use mathlib.Core.Bool.{Bool, true, false, cond, ◌&&◌, ◌||◌, and-false}
use mathlib.Core.List.{List, [], ◌∷◌, ◌++◌, map}
use mathlib.Core.Option.{Option, some, none}
use mathlib.Core.Path.{◌≡◌, refl, sym, ap, ◌∙◌}
use native.Mathlib.Nat.{zero-add}
use native.Mathlib.Omega.{arith}
use borrow.Author.Tests.{eqb-true, eq-eqb, ne_eqb}
use lib.Dec.{eqb}
use lib.ListN.{set}
use lib.Seq.{set-append_left}
use Rattle.lists.specs.Parts.{Bytes, zeros}
use Rattle.lists.specs.Sets.{member, distinct}
use Rattle.lists.specs.Words.{pairs_of}
use Rattle.lists.proofs.BoolLaws.{true-false}
use Rattle.lists.proofs.DistinctLaws.{distinct_head, distinct_tail}
use Rattle.lists.proofs.MapLaws.{map-set}
use Rattle.lists.proofs.PartLaws.{set_append_right}
use Rattle.witness_text.specs.declared.AagCounts.{AagCounts}
use Rattle.witness_text.specs.declared.Kind.{Kind}
use Rattle.witness_text.specs.declared.Kind.TheVariants as kind
use Rattle.witness_text.specs.Symbols.{Symbol, count_of}
use Rattle.witness_read.specs.Names.{is_input, is_latch, indices_of, name_of, names_of}
use Rattle.witness_read.proofs.AcceptedLaws.{names-length}
use Rattle.witness_load.specs.Inner.Loaded.{name_from}
use Rattle.witness_load.specs.Inner.Loading.{leaf_words, with_name, leaf_names}

-- ---- one name

module _ (is : Kind → Bool) (x : Symbol) where
  -- it is another's
  name-other : (k : ℕ) → (is x.kind && eqb k x.index) ≡ false → (ss : List Symbol) → name_of is k (ss ++ x ∷ []) ≡ name_of is k ss
  name-other k e [] = rw e
  name-other k e (y ∷ ss) = ap (λ (r : Option Bytes). cond (is y.kind && eqb k y.index) (some y.name) r) (name-other k e ss)

  module _ (e : is x.kind ≡ true) where
    -- it had none
    name-here : (ss : List Symbol) → name_of is x.index ss ≡ none → name_of is x.index (ss ++ x ∷ []) ≡ some x.name
    name-here [] h = rw (e, eq-eqb x.index x.index refl)
    name-here (y ∷ ss) h = by (is y.kind && eqb x.index y.index) h (name-here ss)
      where
        by : (b : Bool) → cond b (some y.name) (name_of is x.index ss) ≡ none
            → (name_of is x.index ss ≡ none → name_of is x.index (ss ++ x ∷ []) ≡ some x.name)
            → cond b (some y.name) (name_of is x.index (ss ++ x ∷ [])) ≡ some x.name
        by true g ih = absurd (let z : ◌≡◌ {A = ℕ} 0 1 = cc in omega arith)
        by false g ih = ih g

    -- its index stands among those of the symbols
    index-member : (ss ys : List Symbol) → member x.index (indices_of is (ss ++ x ∷ ys)) ≡ true
    index-member [] ys = rw (e, eq-eqb x.index x.index refl)
    index-member (y ∷ ss) ys = by (is y.kind) (index-member ss ys)
      where
        either : (b c : Bool) → c ≡ true → (b || c) ≡ true
        either true c g = refl
        either false c g = g

        by : (b : Bool) → member x.index (indices_of is (ss ++ x ∷ ys)) ≡ true
            → member x.index (cond b (y.index ∷ indices_of is (ss ++ x ∷ ys)) (indices_of is (ss ++ x ∷ ys))) ≡ true
        by true g = either (eqb x.index y.index) (member x.index (indices_of is (ss ++ x ∷ ys))) g
        by false g = g

    -- so no symbol before it names it, where none is named twice
    pub name_new : (ss ys : List Symbol) → distinct (indices_of is (ss ++ x ∷ ys)) ≡ true → name_of is x.index ss ≡ none
    name_new [] ys h = refl
    name_new (y ∷ ss) ys h = by (is y.kind) h (name_new ss ys)
      where
        apart : (b : Bool) → eqb x.index y.index ≡ b → member y.index (indices_of is (ss ++ x ∷ ys)) ≡ false → eqb x.index y.index ≡ false
        apart true q g = true-false (index-member ss ys) (ap (λ (j : ℕ). member j (indices_of is (ss ++ x ∷ ys))) (eqb-true x.index y.index q) ∙ g)
        apart false q g = q

        by : (b : Bool) → distinct (cond b (y.index ∷ indices_of is (ss ++ x ∷ ys)) (indices_of is (ss ++ x ∷ ys))) ≡ true
            → (distinct (indices_of is (ss ++ x ∷ ys)) ≡ true → name_of is x.index ss ≡ none)
            → cond (b && eqb x.index y.index) (some y.name) (name_of is x.index ss) ≡ none
        by true g ih =
            rw (apart (eqb x.index y.index) refl (distinct_head y.index (indices_of is (ss ++ x ∷ ys)) g))
            (ih (distinct_tail y.index (indices_of is (ss ++ x ∷ ys)) g))
        by false g ih = ih g

-- ---- the names of all

module _ (is : Kind → Bool) where
  module _ (x : Symbol) (ss : List Symbol) where
    names-other : is x.kind ≡ false → (k n : ℕ) → names_of is k n (ss ++ x ∷ []) ≡ names_of is k n ss
    names-other e k zero = refl
    names-other e k (suc n) = rw (name-other is x k (rw e) ss, names-other e (suc k) n)

    another : (k : ℕ) → (k ≡ x.index → ⊥) → name_of is k (ss ++ x ∷ []) ≡ name_of is k ss
    another k h = name-other is x k (rw (ne_eqb k x.index h) (and-false (is x.kind))) ss

    names_past : (k n : ℕ) → x.index < k → names_of is k n (ss ++ x ∷ []) ≡ names_of is k n ss
    names_past k zero h = refl
    names_past k (suc n) h = rw (another k (λ z. omega arith), names_past (suc k) n (omega arith))

    names-set : is x.kind ≡ true → name_of is x.index ss ≡ none → (k n i : ℕ) → i < n → x.index ≡ k + i
        → names_of is k n (ss ++ x ∷ []) ≡ set (names_of is k n ss) i (some x.name)
    names-set e h k zero i f g = absurd (omega arith)
    names-set e h k (suc n) zero f g =
        let z : x.index ≡ k = omega arith in
        rw (names_past (suc k) n (omega arith)) (ap (λ (r : Option Bytes). r ∷ names_of is (suc k) n ss) (ap (λ (j : ℕ). name_of is j (ss ++ x ∷ [])) (sym z) ∙ name-here is x e ss h))
    names-set e h k (suc n) (suc i) f g = rw (another k (λ z. omega arith), names-set e h (suc k) n i (omega arith) (omega arith))

-- ---- inputs and latches

module _ (n : AagCounts) (x : Symbol) (ss : List Symbol) (h : x.index < count_of n x.kind) (i : is_input x.kind ≡ true → name_of is_input x.index ss ≡ none)
    (l : is_latch x.kind ≡ true → name_of is_latch x.index ss ≡ none) where
  by_kind : (z : Kind) → x.kind ≡ z → with_name n z x.index (some x.name) (leaf_names n ss) ≡ leaf_names n (ss ++ x ∷ [])
  by_kind kind.Input e =
      let f : x.index < count_of n kind.Input = rw e at h in
      rw (names-other is_latch x ss (rw e) 0 n.latches, names-set is_input x ss (rw e) (i (rw e)) 0 n.inputs x.index f (omega arith))
      (set-append_left (names_of is_input 0 n.inputs ss) (names_of is_latch 0 n.latches ss) x.index (some x.name) (rw (names-length is_input 0 n.inputs ss) f))
  by_kind kind.Latch e =
      let f : x.index < count_of n kind.Latch = rw e at h in
      rw (names-other is_input x ss (rw e) 0 n.inputs, names-set is_latch x ss (rw e) (l (rw e)) 0 n.latches x.index f (omega arith))
      (set_append_right (names_of is_input 0 n.inputs ss) (names_of is_latch 0 n.latches ss) n.inputs x.index (some x.name) (names-length is_input 0 n.inputs ss))
  by_kind kind.Output e = rw (names-other is_input x ss (rw e) 0 n.inputs, names-other is_latch x ss (rw e) 0 n.latches)
  by_kind kind.Bad e = rw (names-other is_input x ss (rw e) 0 n.inputs, names-other is_latch x ss (rw e) 0 n.latches)
  by_kind kind.Constraint e = rw (names-other is_input x ss (rw e) 0 n.inputs, names-other is_latch x ss (rw e) 0 n.latches)

  pub leaf_named : with_name n x.kind x.index (some x.name) (leaf_names n ss) ≡ leaf_names n (ss ++ x ∷ [])
  leaf_named = by_kind x.kind refl

-- names that are said
pub said_named : {A : Type 0} (n : AagCounts) (z : Kind) (k : ℕ) (name : A) (names : List A) → with_name n z k (some name) (map some names) ≡ map some (with_name n z k name names)
said_named n kind.Input k name names = sym (map-set some names k name)
said_named n kind.Latch k name names = sym (map-set some names (n.inputs + k) name)
said_named n kind.Output k name names = refl
said_named n kind.Bad k name names = refl
said_named n kind.Constraint k name names = refl

-- zeros say no name
module _ (s : Bytes) where
  no_names : (is : Kind → Bool) (k n : ℕ) → pairs_of (name_from s) (zeros (2 * n)) ≡ map some (names_of is k n [])
  no_names is k zero = refl
  no_names is k (suc n) = let e : 2 * suc n ≡ suc (suc (2 * n)) = omega arith in rw e (ap (λ (l : List (Option (Option Bytes))). some none ∷ l) (no_names is (suc k) n))

  none_of_all : (a b k : ℕ) → pairs_of (name_from s) (zeros (2 * (a + b))) ≡ map some (names_of is_input k a [] ++ names_of is_latch 0 b [])
  none_of_all zero b k = rw (zero-add b) (no_names is_latch 0 b)
  none_of_all (suc a) b k =
      let e : 2 * (suc a + b) ≡ suc (suc (2 * (a + b))) = omega arith in rw e (ap (λ (l : List (Option (Option Bytes))). some none ∷ l) (none_of_all a b (suc k)))

  pub leaf_none : (n : AagCounts) → pairs_of (name_from s) (zeros (leaf_words n)) ≡ map some (leaf_names n [])
  leaf_none n = none_of_all n.inputs n.latches 0
