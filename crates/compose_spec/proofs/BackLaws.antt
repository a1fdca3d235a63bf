-- Printed sections read back: the text of sections is read, without limits, as these sections.
use Rattle.std.specs.Prelude.{Some, None}
use Prim.Native.Nat.{ℕ, zero, suc, ◌*◌, ◌≤◌}
use mathlib.Core.Bool.{Bool, true, false, cond}
use mathlib.Core.List.{List, [], ◌∷◌, ◌++◌, map, nil≢cons}
use mathlib.Core.Option.{Option, some, none}
use mathlib.Core.Path.{◌≡◌, refl, sym, ap, ap₂, ◌∙◌}
use native.Mathlib.Omega.{arith}
use lib.ListN.{length, drop, length-map}
use borrow.Author.Tests.{eq-eqb}
use Rattle.lists.specs.Quoted.{bytes}
use Rattle.lists.specs.Answer.{Answer, got, unless, and_then}
use Rattle.lists.specs.Parts.{Bytes}
use Rattle.lists.specs.Sets.{distinct}
use Rattle.lists.specs.Tests.{all, Each}
use Rattle.lists.proofs.BoolLaws.{and_both}
use Rattle.lists.proofs.TestLaws.{each_map, each-any, each-so, every_holds}
use Rattle.scan.specs.Allowed.{is_witness_byte, ends_in10}
use Rattle.scan.specs.Spans.{in_line}
use Rattle.text.specs.declared.Reader.TheVariants.{Witness}
use Rattle.text.specs.Fields.{fields_of, head_of, aag, is_header_word}
use Rattle.text.specs.Lines.{lines_of}
use Rattle.text.specs.Literals.{numbers_of}
use Rattle.text.specs.Texts.{free, good_text}
use Rattle.text_decimal.specs.Decimal.{decimal}
use Rattle.text_decimal.specs.Printed.{text_of}
use Rattle.text.proofs.FieldLaws.{IsField}
use Rattle.text_decimal.proofs.BackLaws.{fields_back, decimal-field, number-line-back, lines-back, text_all, text_ends}
use Rattle.witness_text.specs.declared.AagCounts.{AagCounts}
use Rattle.witness_text.specs.declared.Kind.{Kind}
use Rattle.witness_text.specs.declared.Kind.TheVariants.{Input, Latch}
use Rattle.witness_text.specs.Header.{five_to_nine, header_of, counted, without_liveness}
use Rattle.witness_text.specs.Symbols.{Symbol}
use Rattle.witness_read.specs.Sections.{NamedLatch, Sections, variables, latch_names}
use Rattle.witness_read.specs.Names.{Tail, tail_of, is_input, is_latch, indices_of, named_once, symbols_of, name_of, names_of}
use Rattle.witness_read.specs.Comments.{plain_comments}
use Rattle.witness_read.specs.Order.{Body, body_of, well_numbered}
use Rattle.witness_read.specs.Reading.{named_latches, sections_from, sections_of, after_header, read_aag, counts_in}
use Rattle.compose_spec.specs.Printing.{header_line, symbol_lines, closing, tail_lines, body_lines, printed}
use Rattle.compose_spec.specs.Inner.Ranges.{InRange}
use Rattle.compose_spec.proofs.NameLaws.{Plain, PlainName, plain-bytes, plain-line}
use Rattle.compose_spec.proofs.SymbolLaws.{symbols_from, symbols-back, name_of_other, name-first, name-later, indices_of_other, indices_once}
use Rattle.compose_spec.proofs.BodyLaws.{Small, evens, line_latches, body_in, body_back, body-numbered}
use Rattle.compose_spec.proofs.PlainLaws.{printed-plain}

-- what is asked of sections to be printed: literals in range, numbers below 2^64, names of plain bytes
pub record Printable (s : Sections) : Type 0 where
  pub range : InRange s
  pub small : Small (2 * suc (variables s))
  pub outputs : Small (length s.outputs)
  pub bads : Small (length s.bads)
  pub constraints : Small (length s.constraints)
  pub input_names : Each PlainName s.inputs
  pub latch_names : Each PlainName (latch_names s)

-- ---- names

module _ (is : Kind → Bool) (ss ts : List Symbol) where
  -- two lists of symbols that name the numbers from j on alike give the same names
  names_same : (j n : ℕ) → ((k : ℕ) → j ≤ k → name_of is k ss ≡ name_of is k ts) → names_of is j n ss ≡ names_of is j n ts
  names_same j zero h = refl
  names_same j (suc n) h = ap₂ (λ (x : Option Bytes) (xs : List (Option Bytes)). x ∷ xs) (h j (omega arith)) (names_same (suc j) n (λ k l. h k (omega arith)))

-- the symbols of names give these names
names-back : (is : Kind → Bool) (kd : Kind) → is kd ≡ true → (rest : List Symbol) → ((k : ℕ) → name_of is k rest ≡ none) → (j : ℕ) (xs : List (Option Bytes))
    → names_of is j (length xs) (symbols_from kd j xs ++ rest) ≡ xs
names-back is kd e rest r j [] = refl
names-back is kd e rest r j (x ∷ xs) =
    ap₂ (λ (y : Option Bytes) (ys : List (Option Bytes)). y ∷ ys) (name-first is kd e rest r j x xs)
    (names_same is (symbols_from kd j (x ∷ xs) ++ rest) (symbols_from kd (suc j) xs ++ rest) (suc j) (length xs) (λ k h. name-later is kd e rest r k j x xs h)
    ∙ names-back is kd e rest r (suc j) xs)

-- latches with the names that symbols give them, by these names
latches-named : (k x : ℕ) (qs : List NamedLatch) (ss : List Symbol) → names_of is_latch k (length qs) ss ≡ map (λ q. q.name) qs → named_latches k (line_latches x qs) ss ≡ qs
latches-named k x [] ss e = refl
latches-named k x (q ∷ qs) ss e =
    let a : name_of is_latch k ss ≡ q.name = cc in
    let b : names_of is_latch (suc k) (length qs) ss ≡ map (λ p. p.name) qs = cc in
    ap₂ (λ (n : Option Bytes) (ps : List NamedLatch). record { next = q.next; reset = q.reset; name = n } ∷ ps) a (latches-named (suc k) (suc x) qs ss b)

-- there is a literal for each input
evens_length : {A : Type 0} (x : ℕ) (is : List A) → length (evens x is) ≡ length is
evens_length x [] = refl
evens_length x (i ∷ is) = ap suc (evens_length (suc x) is)

module _ (s : Sections) where
  -- the symbols of latches
  abbrev latch_symbols : List Symbol
  latch_symbols = symbols_from Latch 0 (latch_names s) ++ []

  -- the symbols of inputs and latches
  abbrev symbols_in : List Symbol
  symbols_in = symbols_from Input 0 s.inputs ++ latch_symbols

  -- they give the inputs their names
  inputs-back : names_of is_input 0 (length s.inputs) symbols_in ≡ s.inputs
  inputs-back = names-back is_input Input refl latch_symbols (λ k. name_of_other is_input Latch refl k 0 (latch_names s) []) 0 s.inputs

  -- and the latches theirs
  latch_names-back : names_of is_latch 0 (length s.latches) symbols_in ≡ latch_names s
  latch_names-back =
      names_same is_latch symbols_in latch_symbols 0 (length s.latches) (λ k h. name_of_other is_latch Input refl k 0 s.inputs latch_symbols)
      ∙ ap (λ (n : ℕ). names_of is_latch 0 n latch_symbols) (sym (length-map s.latches (λ q. q.name)))
      ∙ names-back is_latch Latch refl [] (λ k. refl) 0 (latch_names s)

  -- lines and symbols give the sections
  sections-back : sections_from (body_in s) symbols_in ≡ s
  sections-back =
      ap₂ (λ (is : List (Option Bytes)) (qs : List NamedLatch). record { inputs = is; latches = qs; outputs = s.outputs; bads = s.bads; constraints = s.constraints; gates = s.gates })
      (ap (λ (n : ℕ). names_of is_input 0 n symbols_in) (evens_length 1 s.inputs) ∙ inputs-back)
      (latches-named 0 (suc (length s.inputs)) s.latches symbols_in latch_names-back)

  -- none is named twice
  once : named_once symbols_in ≡ true
  once =
      and_both (distinct (indices_of is_input symbols_in)) (distinct (indices_of is_latch symbols_in))
      (indices_once is_input Input refl latch_symbols (indices_of_other is_input Latch refl 0 (latch_names s) []) 0 s.inputs)
      (rw (indices_of_other is_latch Input refl 0 s.inputs latch_symbols) (indices_once is_latch Latch refl [] refl 0 (latch_names s)))

-- the closing comment is neither a mapping nor an intervention
comments-plain : (witness : Bool) → plain_comments witness (closing ∷ []) ≡ true
comments-plain true = refl
comments-plain false = refl

-- ---- the text

module _ (s : Sections) (p : Printable s) where
  -- what the lines after the gates say
  abbrev tail_in : Tail
  tail_in = record { symbols = symbols_in s; comments = closing ∷ [] }

  -- the printed lines after the gates say that
  tail-back : tail_of (counts_in s) (tail_lines s) ≡ got tail_in
  tail-back =
      let n : AagCounts = counts_in s in
      let cs : List Bytes = (bytes "c") ∷ closing ∷ [] in
      let last : Tail = record { symbols = []; comments = closing ∷ [] } in
      let mid : Tail = record { symbols = latch_symbols s; comments = closing ∷ [] } in
      let small : Small (2 * suc (variables s)) = p.small in
      symbols-back n 105 Input refl refl refl 0 s.inputs (symbol_lines 108 0 (latch_names s) ++ cs) mid (omega arith) (omega arith)
      (symbols-back n 108 Latch refl refl refl 0 (latch_names s) cs last (omega (arith, length-map s.latches (λ q. q.name))) (omega arith) refl)

  -- and 9 does not apply
  symbols_read : symbols_of (counts_in s) (tail_lines s) ≡ got tail_in
  unfolding symbols_of
  symbols_read = rw (tail-back, once s)

  -- the steps of reading after the header, one after the other
  after-symbols : (witness : Bool) (n : AagCounts) (d : Body)
      → unless 10 (plain_comments witness (closing ∷ [])) (unless 11 (well_numbered n d) (got (sections_from d (symbols_in s)))) ≡ got (sections_from d (symbols_in s))
      → sections_from d (symbols_in s) ≡ s → body_of n (body_lines s) ≡ got d → symbols_of n d.rest ≡ got tail_in → sections_of witness n (body_lines s) ≡ got s
  after-symbols witness n d e f g h = rw (g, h, e, f)

  -- the printed lines after the header give the sections
  sections_read : (witness : Bool) → sections_of witness (counts_in s) (body_lines s) ≡ got s
  sections_read witness =
      after-symbols witness (counts_in s) (body_in s) (rw (comments-plain witness, body-numbered s p.range)) (sections-back s) (body_back s p.range p.small) symbols_read

  -- the counts of the header
  abbrev numbers_in : List ℕ
  numbers_in = variables s ∷ length s.inputs ∷ length s.latches ∷ length s.outputs ∷ length s.gates ∷ length s.bads ∷ length s.constraints ∷ 0 ∷ 0 ∷ []

  -- the fields of the header
  header_fields : fields_of (header_line s) ≡ aag ∷ map decimal numbers_in
  header_fields =
      fields_back (aag ∷ map decimal numbers_in)
      (record { some_byte = λ e. nil≢cons (sym e); unblank = refl }, each_map decimal IsField numbers_in (each-any (λ n. IsField (decimal n)) decimal-field numbers_in))

  -- its numbers are read
  numbers_read : numbers_of Witness (map decimal numbers_in) ≡ Some numbers_in
  numbers_read =
      let small : Small (2 * suc (variables s)) = p.small in
      ap (numbers_of Witness) (sym (fields_back (map decimal numbers_in) (each_map decimal IsField numbers_in (each-any (λ n. IsField (decimal n)) decimal-field numbers_in))))
      ∙ number-line-back Witness numbers_in
      (omega arith, (omega arith, (omega arith, (p.outputs, (omega arith, (p.bads, (p.constraints, (omega arith, (omega arith, tt)))))))))

  -- the header gives the counts of the sections
  header_back : header_of (header_line s ∷ body_lines s) ≡ got (counts_in s)
  header_back =
      ap (λ (fs : List Bytes). five_to_nine (cond (is_header_word (head_of fs)) (numbers_of Witness (drop 1 fs)) None)) header_fields
      ∙ ap five_to_nine numbers_read

  -- 5 does not apply without limits
  counts_hold : counted free (counts_in s) ≡ true
  unfolding counted
  counts_hold = every_holds _ (eq-eqb (variables s) (variables s) refl, (refl, tt))

  -- 6 does not apply
  no_liveness : without_liveness (counts_in s) ≡ true
  unfolding without_liveness
  no_liveness = every_holds _ (refl, (refl, tt))

  -- every printed line is plain
  lines-plain : Each Plain (header_line s ∷ body_lines s)
  lines-plain = printed-plain s p.input_names p.latch_names

  -- 3 does not apply without limits
  text_good : good_text free Witness (printed s) ≡ true
  unfolding good_text printed
  text_good =
      let ls : List Bytes = header_line s ∷ body_lines s in
      every_holds (true ∷ all is_witness_byte (text_of ls) ∷ ends_in10 (text_of ls) ∷ [])
      (refl, (text_all is_witness_byte refl ls (each-so Plain (λ l. all is_witness_byte l ≡ true) plain-bytes ls lines-plain), (text_ends (header_line s) (body_lines s), tt)))

  -- the lines of the text are those that were printed
  text_lines : lines_of (printed s) ≡ header_line s ∷ body_lines s
  unfolding printed
  text_lines = let ls : List Bytes = header_line s ∷ body_lines s in lines-back ls (each-so Plain (λ l. all in_line l ≡ true) plain-line ls lines-plain)

  -- R11.7: read without limits, as a model or as a witness
  pub read_printed : (witness : Bool) → read_aag free witness (printed s) ≡ got s
  unfolding read_aag
  read_printed witness =
      rw (text_good, text_lines)
      (ap (λ (x : Answer AagCounts). and_then x (after_header free witness (body_lines s))) header_back
      ∙ rw (counts_hold, no_liveness) (sections_read witness))
