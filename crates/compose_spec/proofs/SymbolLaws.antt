-- Printed symbol lines read back: the symbols, the names of inputs and latches, and none named twice.
use Prim.Native.Nat.{ℕ, suc, ◌+◌, ◌^◌, ◌≤◌, ◌<◌}
use mathlib.Core.Bool.{Bool, true, false}
use mathlib.Core.List.{List, [], ◌∷◌, ◌++◌}
use mathlib.Core.Option.{Option, some, none}
use mathlib.Core.Path.{◌≡◌, refl, ap, ap₂, ◌∙◌}
use native.Mathlib.Omega.{arith}
use lib.Dec.{eqb}
use lib.ListN.{length, drop, length-append}
use lib.Seq.{take-append_seam, drop-append-add}
use borrow.Author.Tests.{lt-ltb, eq-eqb, ne_eqb}
use Rattle.lists.specs.Answer.{got}
use Rattle.lists.specs.Parts.{Bytes}
use Rattle.lists.specs.Sets.{member, distinct}
use Rattle.lists.specs.Tests.{all}
use Rattle.lists.proofs.BoolLaws.{and_left, and_right, and_both}
use Rattle.scan.specs.Spans.{span}
use Rattle.text.specs.declared.Reader.TheVariants.{Witness}
use Rattle.text_decimal.specs.Decimal.{decimal}
use Rattle.text_decimal.proofs.DecimalLaws.{decimal-all}
use Rattle.text_decimal.proofs.ReadLaws.{decimal_read}
use Rattle.witness_text.specs.declared.AagCounts.{AagCounts}
use Rattle.witness_text.specs.declared.Kind.{Kind}
use Rattle.witness_text.specs.Symbols.{Symbol, kind_of, count_of, symbol_from, not_space, before_space, symbol_of}
use Rattle.witness_read.specs.Names.{Tail, tail_of, indices_of, name_of}
use Rattle.compose_spec.specs.Printing.{symbol_line, symbol_lines}

-- ---- one line

-- bytes that pass a test, up to one that does not
span-stops : (p : ℕ → Bool) (front : Bytes) (b : ℕ) (rest : Bytes) → all p front ≡ true → p b ≡ false → span p (front ++ b ∷ rest) ≡ length front
span-stops p [] b rest h e = rw e
span-stops p (x ∷ front) b rest h e = rw (and_left (p x) (all p front) h) (ap suc (span-stops p front b rest (and_right (p x) (all p front) h) e))

-- digits are no byte 32
decimal_no_space : (k : ℕ) → all not_space (decimal k) ≡ true
decimal_no_space = decimal-all not_space (λ b h k. rw (ne_eqb b 32 (λ e. omega arith)))

-- kind and index in front of the first byte 32, and the name behind it
front-back : (n : AagCounts) (front name : Bytes) → all not_space front ≡ true → symbol_of n (front ++ 32 ∷ name) ≡ symbol_from n front name
unfolding symbol_of
front-back n front name h =
    let l : Bytes = front ++ 32 ∷ name in
    let e : before_space l ≡ length front = span-stops not_space front 32 name h refl in
    let s : length front < length l = omega (arith, length-append front (32 ∷ name)) in
    let a : length front + 1 ≡ suc (length front) = omega arith in
    let d : drop (suc (length front)) l ≡ name = rw a at (drop-append-add front (32 ∷ name) 1) in
    rw (e, lt-ltb (length front) (length l) s) (ap₂ (symbol_from n) (take-append_seam front (32 ∷ name)) d)

module _ (n : AagCounts) (byte : ℕ) (kd : Kind) (is : kind_of byte ≡ got kd) (solid : not_space byte ≡ true) where
  -- a symbol line is taken apart into what was printed
  symbol-back : (k : ℕ) (name : Bytes) → k < 2 ^ 64 → k < count_of n kd → symbol_of n (symbol_line byte k name) ≡ got (record { kind = kd; index = k; name = name })
  symbol-back k name small h =
      front-back n (byte ∷ decimal k) name (and_both (not_space byte) (all not_space (decimal k)) solid (decimal_no_space k))
      ∙ rw (is, decimal_read Witness k small, lt-ltb k (count_of n kd) h) refl

-- ---- the symbols of a kind

-- a symbol where there is a name
abbrev with_name : Kind → ℕ → Option Bytes → List Symbol → List Symbol
with_name kd k none ss = ss
with_name kd k (some x) ss = record { kind = kd; index = k; name = x } ∷ ss

-- the symbols of the names of a kind, the first of which has the index k
abbrev pub symbols_from : Kind → ℕ → List (Option Bytes) → List Symbol
symbols_from kd k [] = []
symbols_from kd k (x ∷ xs) = with_name kd k x (symbols_from kd (suc k) xs)

module _ (n : AagCounts) (byte : ℕ) (kd : Kind) (is : kind_of byte ≡ got kd) (solid : not_space byte ≡ true) (other : eqb byte 99 ≡ false) where
  -- printed symbol lines give these symbols, in front of those of the lines after them
  pub symbols-back : (k : ℕ) (xs : List (Option Bytes)) (rest : List Bytes) (t : Tail) → k + length xs ≤ count_of n kd → count_of n kd < 2 ^ 64 → tail_of n rest ≡ got t
      → tail_of n (symbol_lines byte k xs ++ rest) ≡ got (record { symbols = symbols_from kd k xs ++ t.symbols; comments = t.comments })
  symbols-back k [] rest t h s e = e
  symbols-back k (none ∷ xs) rest t h s e = symbols-back (suc k) xs rest t (omega arith) s e
  symbols-back k (some x ∷ xs) rest t h s e =
      rw (other, symbol-back n byte kd is solid k x (omega arith) (omega arith), symbols-back (suc k) xs rest t (omega arith) s e) refl

-- ---- the names that they give

module _ (is : Kind → Bool) (kd : Kind) where
  -- symbols of another kind name none of this one
  pub name_of_other : is kd ≡ false → (k j : ℕ) (xs : List (Option Bytes)) (rest : List Symbol) → name_of is k (symbols_from kd j xs ++ rest) ≡ name_of is k rest
  name_of_other e k j [] rest = refl
  name_of_other e k j (none ∷ xs) rest = name_of_other e k (suc j) xs rest
  name_of_other e k j (some x ∷ xs) rest = rw e (name_of_other e k (suc j) xs rest)

  module _ (e : is kd ≡ true) where
    -- none of them has an index below the first
    name_below : (k j : ℕ) (xs : List (Option Bytes)) (rest : List Symbol) → k < j → name_of is k (symbols_from kd j xs ++ rest) ≡ name_of is k rest
    name_below k j [] rest h = refl
    name_below k j (none ∷ xs) rest h = name_below k (suc j) xs rest (omega arith)
    name_below k j (some x ∷ xs) rest h = rw (e, ne_eqb k j (λ q. omega arith)) (name_below k (suc j) xs rest (omega arith))

    -- those of this kind name what was printed
    module _ (rest : List Symbol) (r : (k : ℕ) → name_of is k rest ≡ none) where
      -- the first name
      pub name-first : (j : ℕ) (x : Option Bytes) (xs : List (Option Bytes)) → name_of is j (symbols_from kd j (x ∷ xs) ++ rest) ≡ x
      name-first j none xs = name_below j (suc j) xs rest (omega arith) ∙ r j
      name-first j (some x) xs = rw (e, eq-eqb j j refl)

      -- the names after it
      pub name-later : (k j : ℕ) (x : Option Bytes) (xs : List (Option Bytes)) → j < k
          → name_of is k (symbols_from kd j (x ∷ xs) ++ rest) ≡ name_of is k (symbols_from kd (suc j) xs ++ rest)
      name-later k j none xs h = refl
      name-later k j (some x) xs h = rw (e, ne_eqb k j (λ q. omega arith))

  -- ---- none is named twice

  -- symbols of another kind have no index of this one
  pub indices_of_other : is kd ≡ false → (j : ℕ) (xs : List (Option Bytes)) (rest : List Symbol) → indices_of is (symbols_from kd j xs ++ rest) ≡ indices_of is rest
  indices_of_other e j [] rest = refl
  indices_of_other e j (none ∷ xs) rest = indices_of_other e (suc j) xs rest
  indices_of_other e j (some x ∷ xs) rest = rw e (indices_of_other e (suc j) xs rest)

  module _ (e : is kd ≡ true) (rest : List Symbol) (r : indices_of is rest ≡ []) where
    -- none of them has an index below the first
    index_new : (k j : ℕ) (xs : List (Option Bytes)) → k < j → member k (indices_of is (symbols_from kd j xs ++ rest)) ≡ false
    index_new k j [] h = rw r
    index_new k j (none ∷ xs) h = index_new k (suc j) xs (omega arith)
    index_new k j (some x ∷ xs) h = rw (e, ne_eqb k j (λ q. omega arith)) (index_new k (suc j) xs (omega arith))

    -- those of this kind have different ones
    pub indices_once : (j : ℕ) (xs : List (Option Bytes)) → distinct (indices_of is (symbols_from kd j xs ++ rest)) ≡ true
    indices_once j [] = rw r
    indices_once j (none ∷ xs) = indices_once (suc j) xs
    indices_once j (some x ∷ xs) = rw (e, index_new j (suc j) xs (omega arith)) (indices_once (suc j) xs)
