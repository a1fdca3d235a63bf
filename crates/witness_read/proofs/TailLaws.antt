-- Laws of `tail_of` and `symbols_of`, for the loop that takes the symbol lines one at a time.
use Rattle.std.specs.Prelude.{ℕ, suc, ◌<◌, not, Option, Some, None, Result, Ok, Err}
use Rattle.std.specs.Borrow.{Bor}
use Rattle.std.specs.Result.{IsErrAnd}
use Rattle.std.proofs.lemmas.Option.{none-some}
use borrow.Author.Tests.{not-true, not-false}
use mathlib.Core.Bool.{Bool, true, false}
use mathlib.Core.List.{List, [], ◌∷◌, ◌++◌, append_assoc, append-nil}
use mathlib.Core.Path.{◌≡◌, refl, sym, ap, ◌∙◌}
use lib.Dec.{eqb, ltb}
use lib.ListN.{length, take, drop}
use Rattle.lists.specs.Answer.{Answer, got, refused, and_then}
use Rattle.lists.specs.Parts.{Bytes}
use Rattle.lists.proofs.AnswerLaws.{Only, only-unless, only-cond, only_then}
use Rattle.text.specs.declared.Reader.TheVariants.{Witness}
use Rattle.text.specs.Lines.{lines_of}
use Rattle.text.specs.Inner.Fronts.{LineTaken}
use Rattle.text.specs.Numbers.{number_of}
use Rattle.text.proofs.LineLaws.{lines_none, lines-some, line-less}
use Rattle.aiger.specs.declared.Refusal.{Refusal}
use Rattle.aiger.specs.declared.Refusal.TheVariants as refusal
use Rattle.aiger.specs.Refusals.{refusal_number}
use Rattle.witness_text.specs.declared.AagCounts.{AagCounts}
use Rattle.witness_text.specs.declared.Kind.{Kind}
use Rattle.witness_text.specs.declared.SymbolLine.{SymbolLine}
use Rattle.witness_text.specs.Symbols.{ends_symbols, Symbol, kind_of, count_of, readable_index, indexed, symbol_from, before_space, symbol_of}
use Rattle.witness_text.proofs.SymbolLaws.{symbol-below}
use Rattle.witness_read.specs.Names.{Tail, with_symbol, tail_of, named_once, symbols_of}
use Rattle.witness_read.specs.Inner.Passes.{TakenSymbol, BadSymbol, EndsSymbols, Follows, PassedSymbols, ChecksSymbols, Unmarked, MarksName}
use Rattle.witness_read.proofs.SymbolSetLaws.{Named, named_none, named_once_lem, named_more, named_again, twice_append}

-- ---- what an answer of `symbol_of` says

kind-only : (b : ℕ) → Only 9 (kind_of b)
kind-only b =
    only-cond 9 (eqb b 105) _ _ tt
    (only-cond 9 (eqb b 108) _ _ tt
    (only-cond 9 (eqb b 111) _ _ tt
    (only-cond 9 (eqb b 98) _ _ tt
    (only-cond 9 (eqb b 99) _ _ tt refl))))

index-only : (x : Option ℕ) → Only 9 (readable_index x)
index-only (Some v) = tt
index-only None = refl

from-only : (n : AagCounts) (front name : Bytes) → Only 9 (symbol_from n front name)
from-only n [] name = refl
from-only n (b ∷ index) name =
    only_then 9 (kind_of b) (λ k. and_then (readable_index (number_of Witness index)) (indexed n name k)) (kind-only b)
    (λ k. only_then 9 (readable_index (number_of Witness index)) (indexed n name k) (index-only (number_of Witness index))
    (λ i. only-unless 9 (ltb i (count_of n k)) (got (record { kind = k; index = i; name = name })) tt))

module _ (n : AagCounts) where
  symbol-only : (l : Bytes) → Only 9 (symbol_of n l)
  unfolding symbol_of
  symbol-only l =
      only-unless 9 (ltb (before_space l) (length l)) (symbol_from n (take (before_space l) l) (drop (suc (before_space l)) l))
      (from-only n (take (before_space l) l) (drop (suc (before_space l)) l))

  -- ---- the lines taken so far

  pub tail-only : (ls : List Bytes) → Only 9 (tail_of n ls)
  tail-only [] = tt
  tail-only (l ∷ ls) =
      only-cond 9 (ends_symbols l) (got (record { symbols = []; comments = ls })) (and_then (symbol_of n l) (λ s. and_then (tail_of n ls) (with_symbol s))) tt
      (only_then 9 (symbol_of n l) (λ s. and_then (tail_of n ls) (with_symbol s)) (symbol-only l)
      (λ s. only_then 9 (tail_of n ls) (with_symbol s) (tail-only ls) (λ t. tt)))

-- a tail with symbols and comments
abbrev tail : List Symbol → List Bytes → Answer Tail
tail ss ls = got (record { symbols = ss; comments = ls })

-- symbols in front of those of a tail
abbrev prefixed : List Symbol → Answer Tail → Answer Tail
prefixed ss (got t) = tail (ss ++ t.symbols) t.comments
prefixed ss (refused k) = refused k

prefixed_none : (x : Answer Tail) → x ≡ prefixed [] x
prefixed_none (got t) = refl
prefixed_none (refused k) = refl

prefixed_more : (ss : List Symbol) (s : Symbol) (x : Answer Tail) → prefixed ss (and_then x (with_symbol s)) ≡ prefixed (ss ++ s ∷ []) x
prefixed_more ss s (got t) = ap (λ (l : List Symbol). tail l t.comments) (sym (append_assoc ss (s ∷ []) t.symbols))
prefixed_more ss s (refused k) = refl

-- ---- one line

module _ (n : AagCounts) (l : Bytes) (ls : List Bytes) where
  -- the line `c`
  pub tail-comments : ends_symbols l ≡ true → tail_of n (l ∷ ls) ≡ tail [] ls
  tail-comments g = rw g

  -- a symbol line
  pub tail-symbol : ends_symbols l ≡ false → (z : Answer Symbol) → symbol_of n l ≡ z → tail_of n (l ∷ ls) ≡ and_then z (λ d. and_then (tail_of n ls) (with_symbol d))
  tail-symbol g z h = rw (g, h)

module _ (s : Bytes) (n : AagCounts) (x : Bytes) where
  follows_end : EndsSymbols s n x → Follows s n None x
  follows_end h = record { taken = λ y e. absurd (none-some y e); ends = λ e. h }

  follows_more : (y : SymbolLine) → TakenSymbol s n y.kind y.index x → Follows s n (Some y) x
  follows_more y h = record { taken = λ z e. let f : y ≡ z = cc in rw (sym f) h; ends = λ e. absurd (none-some y (sym e)) }

module _ (s : Bytes) (n : AagCounts) where
  pub symbol-none : s ≡ [] → Follows s n None s
  symbol-none u = let e : lines_of s ≡ [] = lines_none s u in follows_end s n s (record { takes = ap (tail_of n) e ∙ ap (tail []) (sym e) })

  module _ (l r : Bytes) (k : LineTaken s l r) (b : Bool) (f : b ≡ ends_symbols l) where
    pub symbol-comments : b ≡ true → Follows s n None r
    symbol-comments g = follows_end s n r (record { takes = ap (tail_of n) (lines-some s l r k) ∙ tail-comments n l (lines_of r) (sym f ∙ g) })

    module _ (g : b ≡ false) where
      pub symbol_bad : refused 9 ≡ symbol_of n l → BadSymbol s n 9
      symbol_bad z = record { line = l; rest = lines_of r; lines = lines-some s l r k; goes = sym f ∙ g; is = sym z }

      pub symbol-more : (x : SymbolLine) → got (record { kind = x.kind; index = x.index; name = x.name.now }) ≡ symbol_of n l → Follows s n (Some x) r
      symbol-more x z =
          follows_more s n r x (record {
            line = l;
            name = x.name.now;
            lines = lines-some s l r k;
            goes = sym f ∙ g;
            is = sym z;
            less = line-less s l r k;
          })

-- what a symbol that was taken says
module _ (s : Bytes) (n : AagCounts) (o : Option SymbolLine) (x : Bytes) (t : Follows s n o x) (y : SymbolLine) (e : o ≡ Some y) where
  pub index_below : y.index < count_of n y.kind
  index_below = let d = t.taken y e in symbol-below n d.line (record { kind = y.kind; index = y.index; name = d.name }) d.is

  pub symbol-less : length x < length s
  symbol-less = (t.taken y e).less

-- ---- the lines so far

-- the symbols of `done` are taken of the lines of s, and the text p is left
abbrev pub Begun : Bytes → AagCounts → List Symbol → Bytes → Type 0
Begun s n done p = tail_of n (lines_of s) ≡ prefixed done (tail_of n (lines_of p))

module _ (s : Bytes) (n : AagCounts) where
  pub begun_none : Begun s n [] s
  begun_none = prefixed_none (tail_of n (lines_of s))

  module _ (done : List Symbol) (p : Bytes) (k : Begun s n done p) where
    pub begun_end : named_once done ≡ true → (e : Bytes) → EndsSymbols p n e → PassedSymbols s n e
    unfolding symbols_of
    begun_end o e h =
        let t : tail_of n (lines_of s) ≡ tail done (lines_of e) = k ∙ ap (prefixed done) h.takes ∙ ap (λ (ss : List Symbol). tail ss (lines_of e)) (append-nil done) in
        record { symbols = done; takes = rw (t, o) }

    begun_refused : (m : Refusal) → BadSymbol p n (refusal_number m) → ChecksSymbols s n (Err m)
    unfolding symbols_of
    begun_refused m h = rw (k, ap (tail_of n) h.lines ∙ tail-symbol n h.line h.rest h.goes (refused (refusal_number m)) h.is)

    pub begun_bad : (m : Refusal) → BadSymbol p n (refusal_number m) → (r : Result (Bor Bytes) Refusal) → IsErrAnd r (λ k. k ≡ m) → ChecksSymbols s n r
    begun_bad m h (Ok e) g = absurd g
    begun_bad m h (Err j) g = begun_refused j (rw g h)

    module _ (kd : Kind) (i : ℕ) (x : Bytes) (t : TakenSymbol p n kd i x) where
      abbrev it : Symbol
      it = record { kind = kd; index = i; name = t.name }

      pub begun_more : Begun s n (done ++ it ∷ []) x
      begun_more =
          k
          ∙ ap (prefixed done) (ap (tail_of n) t.lines ∙ tail-symbol n t.line (lines_of x) t.goes (got it) t.is)
          ∙ prefixed_more done it (tail_of n (lines_of x))

      -- a second name
      begun_again : named_once (done ++ it ∷ []) ≡ false → ChecksSymbols s n (Err refusal.Symbol)
      unfolding symbols_of
      begun_again h = go (tail_of n (lines_of x)) refl (tail-only n (lines_of x))
        where
          go : (y : Answer Tail) → tail_of n (lines_of x) ≡ y → Only 9 y → symbols_of n (lines_of s) ≡ refused 9
          go (got y) d o = rw (begun_more, d, twice_append (done ++ it ∷ []) y.symbols h)
          go (refused l) d o = rw (begun_more, d, o)

-- ---- by marks

-- the symbols so far are marked in w
pub record Naming (s : Bytes) (n : AagCounts) (w : List ℕ) (p : Bytes) : Type 0 where
  pub done : List Symbol
  pub named : Named n w done
  pub begun : Begun s n done p

pub naming-none : (s : Bytes) (n : AagCounts) (w : List ℕ) → Unmarked n w → Naming s n w s
naming-none s n w u = record { done = []; named = named_none n w u; begun = begun_none s n }

module _ (s : Bytes) (n : AagCounts) (w : List ℕ) (p : Bytes) (k : Naming s n w p) where
  pub naming-bad : (m : Refusal) → BadSymbol p n (refusal_number m) → (r : Result (Bor Bytes) Refusal) → IsErrAnd r (λ j. j ≡ m) → ChecksSymbols s n r
  naming-bad m b r e = begun_bad s n k.done p k.begun m b r e

  module _ (q : Option SymbolLine) (x : Bytes) (t : Follows p n q x) where
    pub naming-end : q ≡ None → PassedSymbols s n x
    naming-end e = begun_end s n k.done p k.begun (named_once_lem n w k.done k.named) x (t.ends e)

    module _ (y : SymbolLine) (e : q ≡ Some y) (w' : List ℕ) (o : Bool) (j : MarksName n y.kind y.index w w' o) where
      this : TakenSymbol p n y.kind y.index x
      this = t.taken y e

      abbrev one : Symbol
      one = record { kind = y.kind; index = y.index; name = this.name }

      pub naming-more : not o ≡ false → Naming s n w' x
      naming-more h =
          record {
            done = k.done ++ one ∷ [];
            named = named_more n w k.done k.named w' o one (index_below p n q x t y e) j (not-false o h);
            begun = begun_more s n k.done p k.begun y.kind y.index x this;
          }

      pub naming-again : not o ≡ true → ChecksSymbols s n (Err refusal.Symbol)
      naming-again h = begun_again s n k.done p k.begun y.kind y.index x this (named_again n w k.done k.named w' o one (index_below p n q x t y e) j (not-true o h))
