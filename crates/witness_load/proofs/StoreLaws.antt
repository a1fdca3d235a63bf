-- The two words of an input or a latch stored among those of all, and what they say of its name.
use Rattle.std.proofs.Common.{◌⊎◌, inl, inr}
use Prim.Native.Nat.{ℕ, suc, ◌+◌, ◌-◌, ◌*◌, ◌≤◌, ◌<◌, min}
use mathlib.Core.List.{List, [], ◌∷◌}
use mathlib.Core.Option.{some}
use mathlib.Core.Path.{◌≡◌, refl, sym, ap, ◌∙◌}
use native.Mathlib.Omega.{arith}
use borrow.Author.Tests.{ne_eqb, le-leb}
use lib.ListN.{length, drop, set, length-drop}
use Rattle.lists.specs.Answer.{got}
use Rattle.lists.specs.Parts.{Bytes, part, put}
use Rattle.lists.specs.Words.{pairs_of}
use Rattle.lists.proofs.PartLaws.{drop_min, part_length, part-drop, part_of_part, put-length}
use Rattle.lists.proofs.WordLaws.{pairs-put}
use Rattle.witness_text.specs.declared.AagCounts.{AagCounts}
use Rattle.witness_text.specs.declared.Kind.TheVariants as kind
use Rattle.witness_text.specs.Symbols.{Symbol, count_of, before_space, symbol_of}
use Rattle.witness_text.specs.declared.SymbolLine.{SymbolLine}
use Rattle.witness_text.proofs.SymbolLaws.{symbol-below, symbol-name}
use Rattle.witness_load.specs.Inner.Loaded.{name_from}
use Rattle.witness_load.specs.Inner.Loading.{leaf_words, with_name, StandsAt, Named}

module _ (s : Bytes) (a e : ℕ) (h : 0 < a) (g : a ≤ e) (f : e ≤ length s) where
  -- the words of a name that begins at a place of the line
  said : (name b : ℕ) → b ≡ min (a + name) e → name_from s b (e - b) ≡ some (some (drop name (part s a e)))
  said name b q =
      let size : length (part s a e) ≡ e - a = part_length s a e f in
      let end : b + (e - b) ≡ e = omega arith in
      let back : b ≡ a + (b - a) = omega arith in
      let whole : a + length (part s a e) ≡ e = omega (arith, size) in
      let least : b - a ≡ min name (length (part s a e)) = omega (arith, size) in
      rw (ne_eqb b 0 (λ z. omega arith), end, le-leb e (length s) f)
      (ap (λ (t : Bytes). some (some t))
      (ap (λ (j : ℕ). part s j e) back
      ∙ sym (part_of_part s a e (b - a) (length (part s a e)) (omega arith) ∙ ap (part s (a + (b - a))) whole)
      ∙ part-drop (part s a e) (b - a)
      ∙ ap (λ (j : ℕ). drop j (part s a e)) least
      ∙ drop_min name (part s a e)))

module _ (l : Bytes) (n : AagCounts) (y : SymbolLine) (named : got (record { kind = y.kind; index = y.index; name = y.name.now }) ≡ symbol_of n l) where
  abbrev symbol : Symbol
  symbol = record { kind = y.kind; index = y.index; name = y.name.now }

  pub line-below : y.index < count_of n y.kind
  line-below = symbol-below n l symbol (sym named)

  pub name-within : length y.name.now ≤ length l
  name-within = omega (arith, ap length (symbol-name n l symbol (sym named)), length-drop (suc (before_space l)) l)

  -- the place of an input or a latch among both
  abbrev pub Placed : ℕ → Type 0
  Placed leaf = ((y.kind ≡ kind.Input) × (leaf ≡ y.index)) ⊎ ((y.kind ≡ kind.Latch) × (leaf ≡ n.inputs + y.index))

  pub latch-fits : y.kind ≡ kind.Latch → y.index < n.latches
  latch-fits e = rw e at line-below

  leaf_fits : (leaf : ℕ) → Placed leaf → leaf < n.inputs + n.latches
  leaf_fits leaf (inl (e, f)) = let g : y.index < n.inputs = rw e at line-below in omega arith
  leaf_fits leaf (inr (e, f)) = omega (arith, latch-fits e)

  leaf_named : {A : Type 0} (leaf : ℕ) → Placed leaf → (name : A) (names : List A) → set names leaf name ≡ with_name n y.kind y.index name names
  leaf_named leaf (inl (e, f)) name names = rw (e, f) refl
  leaf_named leaf (inr (e, f)) name names = rw (e, f) refl

  module _ (o : List ℕ) (w : length o ≡ leaf_words n) (leaf : ℕ) (p : Placed leaf) where
    pub leaf_room : 2 * leaf + 1 < length o
    leaf_room = omega (arith, leaf_fits leaf p, w)

    module _ (a b : ℕ) (j : b ≡ a + (length l - length y.name.now)) (o' : List ℕ) (v : o' ≡ put o (2 * leaf) (b ∷ length y.name.now ∷ [])) where
      pub line-named : (s : Bytes) → StandsAt s l a → Named s l n o o'
      line-named s t =
          let name : ℕ = suc (before_space l) in
          let is : y.name.now ≡ drop name l = sym (symbol-name n l symbol (sym named)) in
          let size : length y.name.now ≡ length l - name = ap length is ∙ length-drop name l in
          let place : b ≡ min (a + name) (a + length l) = omega (arith, size) in
          let rest : a + length l - b ≡ length y.name.now = omega (arith, size) in
          let at : name_from s b (a + length l - b) ≡ some (some (drop name (part s a (a + length l)))) =
          said s a (a + length l) t.past (omega arith) t.fits name b place in
          let told : name_from s b (length y.name.now) ≡ some (some y.name.now) = rw (rest, t.is, ← is) at at in
          record {
            symbol = symbol;
            is = sym named;
            same = ap length v ∙ put-length o (2 * leaf) (b ∷ length y.name.now ∷ []) (omega (arith, leaf_room));
            names =
                ap (pairs_of (name_from s)) v
                ∙ pairs-put (name_from s) o leaf b (length y.name.now) leaf_room
                ∙ ap (set (pairs_of (name_from s) o) leaf) told
                ∙ leaf_named leaf p (some (some y.name.now)) (pairs_of (name_from s) o);
          }
