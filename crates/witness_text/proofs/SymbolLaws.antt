-- Laws of `kind_of`, `before_space` and `symbol_of`, for the code that takes a symbol line apart, and for its callers.
use Rattle.std.specs.Prelude.{Option, Some, None}
use Prim.Native.Nat.{ℕ, suc, ◌+◌, ◌-◌, ◌≤◌, ◌<◌}
use mathlib.Core.Bool.{Bool, true, false}
use mathlib.Core.List.{[], ◌∷◌}
use mathlib.Core.Path.{◌≡◌, refl, ap, sym, ◌∙◌}
use native.Mathlib.Omega.{arith}
use lib.Dec.{ltb}
use lib.ListN.{length, get_or, take, drop, length-drop}
use lib.Seq.{drop-drop}
use borrow.Author.Tests.{ne_eqb, lt-ltb, le-ltb, ltb-true}
use Rattle.lists.specs.Answer.{Answer, got, refused, unless, and_then}
use Rattle.lists.proofs.PartLaws.{tail-lent}
use Rattle.lists.proofs.RestLaws.{rest_more}
use Rattle.lists.specs.Parts.{Bytes}
use Rattle.lists.proofs.AnswerLaws.{and_then-got, unless_test, unless-got, got_same, got-refused}
use Rattle.text.specs.declared.Reader.TheVariants.{Witness}
use Rattle.text.specs.Numbers.{number_of}
use Rattle.witness_text.specs.declared.AagCounts.{AagCounts}
use Rattle.witness_text.specs.declared.Kind.{Kind}
use Rattle.witness_text.specs.Symbols.{Symbol, kind_of, count_of, readable_index, indexed, symbol_from, before_space, symbol_of}
use Rattle.witness_text.specs.declared.Kind.TheVariants as kind

-- ---- kind_of

pub kind-input : (b : ℕ) → b ≡ 105 → got kind.Input ≡ kind_of b
kind-input b e = rw e

pub kind_latch : (b : ℕ) → b ≡ 108 → got kind.Latch ≡ kind_of b
kind_latch b e = rw e

pub kind-output : (b : ℕ) → b ≡ 111 → got kind.Output ≡ kind_of b
kind-output b e = rw e

pub kind_bad : (b : ℕ) → b ≡ 98 → got kind.Bad ≡ kind_of b
kind_bad b e = rw e

pub kind_constraint : (b : ℕ) → b ≡ 99 → got kind.Constraint ≡ kind_of b
kind_constraint b e = rw e

pub kind-other : (b : ℕ) → (b ≡ 105 → ⊥) → (b ≡ 108 → ⊥) → (b ≡ 111 → ⊥) → (b ≡ 98 → ⊥) → (b ≡ 99 → ⊥) → refused 9 ≡ kind_of b
kind-other b i l o d c = rw (ne_eqb b 105 i, ne_eqb b 108 l, ne_eqb b 111 o, ne_eqb b 98 d, ne_eqb b 99 c)

-- ---- symbol_line: the line is `front` before its first byte 32, and `others` from there on

module _ (l : Bytes) (n : AagCounts) (front others : Bytes) (m : ℕ) (q : m ≡ before_space l) (f : front ≡ take m l) (o : others ≡ drop m l) where
  pub no_space : length others < 1 → refused 9 ≡ symbol_of n l
  unfolding symbol_of
  no_space h = rw (← q, le-ltb m (length l) (omega (arith, length-drop m l, ap length o)))

  from_front : symbol_of n l ≡ unless 9 (ltb m (length l)) (symbol_from n front (drop (suc m) l))
  unfolding symbol_of
  from_front = rw (← q, f) refl

  pub no_kind : length front < 1 → refused 9 ≡ symbol_of n l
  no_kind h = sym (from_front ∙ ap (λ (x : Bytes). unless 9 (ltb m (length l)) (symbol_from n x (drop (suc m) l))) (empty front h) ∙ both (ltb m (length l)))
    where
      empty : (x : Bytes) → length x < 1 → x ≡ []
      empty [] k = refl
      empty (b ∷ bs) k = absurd (omega arith)

      both : (b : Bool) → unless 9 b (symbol_from n [] (drop (suc m) l)) ≡ refused 9
      both true = refl
      both false = refl

  module _ (h : 1 ≤ length front) (g : 1 ≤ length others) where
    abbrev digits : Bytes
    digits = take (length front - 1) (drop 1 front)

    abbrev name : Bytes
    name = take (length others - 1) (drop 1 others)

    from-kind : (y : Answer Kind) → kind_of (get_or front 0 0) ≡ y
        → symbol_of n l ≡ and_then y (λ k. and_then (readable_index (number_of Witness digits)) (indexed n name k))
    from-kind y p =
        let more : m < length l = omega (arith, length-drop m l, ap length o) in
        let next : suc m ≡ m + 1 = omega arith in
        let rest : drop (suc m) l ≡ name = ap (λ (k : ℕ). drop k l) next ∙ sym (drop-drop 1 m l) ∙ ap (drop 1) (sym o) ∙ sym (tail-lent others 1) in
        let whole : front ≡ get_or front 0 0 ∷ digits = rw (tail-lent front 1) (rest_more front 0 0 h) in
        from_front
        ∙ rw (lt-ltb m (length l) more, rest) refl
        ∙ ap (λ (x : Bytes). symbol_from n x name) whole
        ∙ ap (λ (z : Answer Kind). and_then z (λ k. and_then (readable_index (number_of Witness digits)) (indexed n name k))) p

    pub unknown_kind : refused 9 ≡ kind_of (get_or front 0 0) → refused 9 ≡ symbol_of n l
    unknown_kind p = sym (from-kind (refused 9) (sym p))

    module _ (k : Kind) (p : got k ≡ kind_of (get_or front 0 0)) where
      from-index : (w : Option ℕ) → number_of Witness digits ≡ w → symbol_of n l ≡ and_then (readable_index w) (indexed n name k)
      from-index w a = from-kind (got k) (sym p) ∙ ap (λ (z : Option ℕ). and_then (readable_index z) (indexed n name k)) a

      pub unreadable_index : None ≡ number_of Witness digits → refused 9 ≡ symbol_of n l
      unreadable_index a = sym (from-index None (sym a))

      module _ (i : ℕ) (a : Some i ≡ number_of Witness digits) (j : ℕ) (b : j ≡ i) (c : ℕ) (e : c ≡ count_of n k) where
        pub index_below : j < c → got (record { kind = k; index = j; name = name }) ≡ symbol_of n l
        index_below d = sym (from-index (Some i) (sym a) ∙ rw (lt-ltb i (count_of n k) (omega arith), b) refl)

        pub index_past : c ≤ j → refused 9 ≡ symbol_of n l
        index_past d = sym (from-index (Some i) (sym a) ∙ rw (le-ltb i (count_of n k) (omega arith)))

-- ---- a symbol

-- the index of a symbol is below the count of its kind
module _ (n : AagCounts) where
  below_by : (f name : Bytes) (x : Symbol) → symbol_from n f name ≡ got x → x.index < count_of n x.kind
  below_by [] name x e = got-refused e refl
  below_by (b ∷ f) name x e =
      let k = and_then-got (kind_of b) (λ z. and_then (readable_index (number_of Witness f)) (indexed n name z)) x e in
      let i = and_then-got (readable_index (number_of Witness f)) (indexed n name k.0) x k.2 in
      let y : Symbol = record { kind = k.0; index = i.0; name = name } in
      let h : i.0 < count_of n k.0 = ltb-true i.0 (count_of n k.0) (unless_test 9 (got y) x (ltb i.0 (count_of n k.0)) i.2) in
      rw (← got_same y x (unless-got 9 (got y) x (ltb i.0 (count_of n k.0)) i.2)) h

  pub symbol-below : (l : Bytes) (x : Symbol) → symbol_of n l ≡ got x → x.index < count_of n x.kind
  unfolding symbol_of
  symbol-below l x e =
      let b : ℕ = before_space l in
      below_by (take b l) (drop (suc b) l) x (unless-got 9 (symbol_from n (take b l) (drop (suc b) l)) x (ltb b (length l)) e)

  -- the name of a symbol is what stands behind its first byte 32
  from-name : (f name : Bytes) (x : Symbol) → symbol_from n f name ≡ got x → name ≡ x.name
  from-name [] name x e = got-refused e refl
  from-name (b ∷ f) name x e =
      let k = and_then-got (kind_of b) (λ z. and_then (readable_index (number_of Witness f)) (indexed n name z)) x e in
      let i = and_then-got (readable_index (number_of Witness f)) (indexed n name k.0) x k.2 in
      let y : Symbol = record { kind = k.0; index = i.0; name = name } in
      ap (λ (z : Symbol). z.name) (got_same y x (unless-got 9 (got y) x (ltb i.0 (count_of n k.0)) i.2))

  -- the name of a symbol line is what stands behind its first byte 32
  pub symbol-name : (l : Bytes) (x : Symbol) → symbol_of n l ≡ got x → drop (suc (before_space l)) l ≡ x.name
  unfolding symbol_of
  symbol-name l x e =
      let b : ℕ = before_space l in
      from-name (take b l) (drop (suc b) l) x (unless-got 9 (symbol_from n (take b l) (drop (suc b) l)) x (ltb b (length l)) e)
