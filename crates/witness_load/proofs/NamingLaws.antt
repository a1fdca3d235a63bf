-- The loop over the symbol lines: the words say the names of those that are passed.
use Prim.Native.Nat.{ℕ, ◌+◌, ◌-◌, ◌<◌}
use mathlib.Core.Bool.{Bool, true, false}
use mathlib.Core.List.{List, [], ◌∷◌, ◌++◌, map, append_assoc, append-nil}
use mathlib.Core.Option.{some}
use mathlib.Core.Path.{◌≡◌, refl, sym, ap, ◌∙◌}
use native.Mathlib.Omega.{arith}
use lib.ListN.{length}
use Rattle.lists.specs.Answer.{Answer, got, refused, and_then}
use Rattle.lists.specs.Parts.{Bytes, zeros}
use Rattle.lists.specs.Sets.{distinct}
use Rattle.lists.specs.Words.{pairs_of}
use Rattle.lists.proofs.AnswerLaws.{and_then-got, got_same, got-refused}
use Rattle.lists.proofs.BoolLaws.{and_left, and_right}
use Rattle.lists.proofs.ZeroLaws.{zeros-length}
use Rattle.text.proofs.LineLaws.{lines_none, lines-some, line-less, line-behind, behind_then}
use Rattle.text.specs.Lines.{lines_of}
use Rattle.text.specs.Inner.Fronts.{Behind, LineTaken}
use Rattle.witness_text.specs.declared.AagCounts.{AagCounts}
use Rattle.witness_text.specs.Symbols.{ends_symbols, Symbol, symbol_of}
use Rattle.witness_text.proofs.SymbolLaws.{symbol-below}
use Rattle.witness_read.specs.Names.{Tail, with_symbol, tail_of, is_input, is_latch, indices_of, named_once, symbols_of}
use Rattle.witness_read.proofs.AcceptedLaws.{symbols-tail, symbols_once}
use Rattle.witness_read.proofs.TailLaws.{tail-comments, tail-symbol}
use Rattle.witness_load.specs.Inner.Loaded.{name_from}
use Rattle.witness_load.specs.Inner.Loading.{leaf_words, with_name, StandsAt, Named, NamesLine, leaf_names, LoadsNames}
use Rattle.witness_load.proofs.LineLaws.{line-stands}
use Rattle.witness_load.proofs.NameLaws.{name_new, leaf_named, said_named, leaf_none}

-- of the symbols of t those of `done` are passed, and their names are stored
pub record Naming (s : Bytes) (n : AagCounts) (p : Bytes) (o : List ℕ) (t : Tail) : Type 0 where
  pub done : List Symbol
  pub left : Tail
  pub is : t.symbols ≡ done ++ left.symbols
  pub goes : tail_of n (lines_of p) ≡ got left
  pub names : pairs_of (name_from s) o ≡ map some (leaf_names n done)

pub record Names (s c : Bytes) (n : AagCounts) (p : Bytes) (o : List ℕ) : Type 0 where
  pub behind : Behind s p
  pub passed : length p < length s
  pub size : length o ≡ leaf_words n
  pub each : (t : Tail) → symbols_of n (lines_of c) ≡ got t → Naming s n p o t

module _ (s c : Bytes) (n : AagCounts) where
  pub names-none : (o : List ℕ) → Behind s c → length c < length s → o ≡ zeros (leaf_words n) → Names s c n c o
  names-none o k h e =
      record {
        behind = k;
        passed = h;
        size = ap length e ∙ zeros-length (leaf_words n);
        each = λ t g. record { done = []; left = t; is = refl; goes = symbols-tail n (lines_of c) t g; names = ap (pairs_of (name_from s)) e ∙ leaf_none s n };
      }

  module _ (p : Bytes) (o : List ℕ) (k : Names s c n p o) where
    -- no symbols are left
    ended : (x : Tail) → tail_of n (lines_of p) ≡ got x → x.symbols ≡ [] → LoadsNames s c n o
    ended x e z t g =
        let d = k.each t g in
        let same : x ≡ d.left = got_same x d.left (sym e ∙ d.goes) in
        let all : t.symbols ≡ d.done = d.is ∙ ap (λ (l : List Symbol). d.done ++ l) (ap (λ (y : Tail). y.symbols) (sym same) ∙ z) ∙ append-nil d.done in
        d.names ∙ ap (λ (l : List Symbol). map some (leaf_names n l)) (sym all)

    pub names-end : p ≡ [] → LoadsNames s c n o
    names-end u = ended (record { symbols = []; comments = [] }) (ap (tail_of n) (lines_none p u)) refl

    module _ (l r : Bytes) (t : LineTaken p l r) where
      pub names-place : StandsAt s l (length s - length p)
      names-place = line-stands s p k.behind k.passed l r t

      pub names-fit : length s < 18446744073709551616 → length s - length p + length l < 18446744073709551616
      names-fit h = omega (arith, names-place.fits)

      module _ (b : Bool) (v : b ≡ ends_symbols l) where
        pub names-stop : b ≡ true → LoadsNames s c n o
        names-stop w = ended (record { symbols = []; comments = lines_of r }) (ap (tail_of n) (lines-some p l r t) ∙ tail-comments n l (lines_of r) (sym v ∙ w)) refl

        module _ (w : b ≡ false) (o' : List ℕ) (y : Bool) (f : (x : Bytes) → StandsAt x l (length s - length p) → NamesLine x l n o o' y) where
          j : NamesLine s l n o o' y
          j = f s names-place

          first : (x : Answer Symbol) → symbol_of n l ≡ x → tail_of n (lines_of p) ≡ and_then x (λ z. and_then (tail_of n (lines_of r)) (with_symbol z))
          first x h = ap (tail_of n) (lines-some p l r t) ∙ tail-symbol n l (lines_of r) (sym v ∙ w) x h

          pub names-refused : y ≡ false → LoadsNames s c n o'
          names-refused h x g = got-refused (k.each x g).goes (first (refused 9) (rw h at j))

          pub names_more : y ≡ true → Names s c n r o'
          names_more h =
              record {
                behind = behind_then s p r k.behind (line-behind p l r t);
                passed = omega (arith, k.passed, line-less p l r t);
                size = i.same ∙ k.size;
                each = λ x g. next x g (k.each x g);
              }
            where
              i : Named s l n o o'
              i = rw h at j

              next : (z : Tail) → symbols_of n (lines_of c) ≡ got z → Naming s n p o z → Naming s n r o' z
              next z g d =
                  let x : Symbol = i.symbol in
                  let rest = and_then-got (tail_of n (lines_of r)) (with_symbol x) d.left (sym (first (got x) i.is) ∙ d.goes) in
                  let others : Tail = rest.0 in
                  let left : x ∷ others.symbols ≡ d.left.symbols = ap (λ (z : Tail). z.symbols) (got_same (record { symbols = x ∷ others.symbols; comments = others.comments }) d.left rest.2) in
                  let whole : z.symbols ≡ d.done ++ x ∷ others.symbols = d.is ∙ ap (λ (z : List Symbol). d.done ++ z) (sym left) in
                  let once : named_once (d.done ++ x ∷ others.symbols) ≡ true = ap named_once (sym whole) ∙ symbols_once n (lines_of c) z g in
                  let inputs : List ℕ = indices_of is_input (d.done ++ x ∷ others.symbols) in
                  let latches : List ℕ = indices_of is_latch (d.done ++ x ∷ others.symbols) in
                  record {
                    done = d.done ++ x ∷ [];
                    left = others;
                    is = whole ∙ sym (append_assoc d.done (x ∷ []) others.symbols);
                    goes = rest.1;
                    names =
                        i.names
                        ∙ ap (with_name n x.kind x.index (some (some x.name))) d.names
                        ∙ said_named n x.kind x.index (some x.name) (leaf_names n d.done)
                        ∙ ap (map some)
                        (leaf_named n x d.done (symbol-below n l x i.is)
                        (λ z. name_new is_input x z d.done others.symbols (and_left (distinct inputs) (distinct latches) once))
                        (λ z. name_new is_latch x z d.done others.symbols (and_right (distinct inputs) (distinct latches) once)));
                  }
