-- Bytes that may stand in a line of a text, and what an accepted text grants: its names are of such bytes, and M is limited.
use Prim.Native.Nat.{ℕ, zero, suc, ◌≤◌}
use mathlib.Core.Bool.{Bool, true, false, cond, not, ◌&&◌}
use mathlib.Core.List.{List, [], ◌∷◌, map}
use mathlib.Core.Option.{Option, some, none}
use mathlib.Core.Path.{◌≡◌, refl, sym, ap, ◌∙◌, subst}
use lib.Dec.{ltb, eqb}
use lib.ListN.{length, take, drop}
use Rattle.lists.specs.Answer.{Answer, got, and_then}
use Rattle.lists.specs.Parts.{Bytes}
use Rattle.lists.specs.Tests.{all, Each}
use Rattle.lists.proofs.AnswerLaws.{got-refused, got_same, unless-got, and_then-got}
use Rattle.lists.proofs.BoolLaws.{and_left, and_right, and_both}
use Rattle.lists.proofs.TestLaws.{all-and, all_drop, every_facts}
use Rattle.scan.specs.Allowed.{is_witness_byte, ends_in10}
use Rattle.scan.specs.Spans.{in_line}
use Rattle.text.specs.declared.Reader.TheVariants.{Witness}
use Rattle.text.specs.Lines.{cons_head, lines_of}
use Rattle.text.specs.Numbers.{number_of}
use Rattle.text.specs.Texts.{Limits, limited, within, good_text}
use Rattle.aiger.specs.Sections.{section}
use Rattle.aiger.proofs.SectionLaws.{section_of, section-rest}
use Rattle.circuit_lines.specs.SectionLines.{literal_line, gate_line}
use Rattle.witness_text.specs.declared.AagCounts.{AagCounts}
use Rattle.witness_text.specs.declared.Kind.{Kind}
use Rattle.witness_text.specs.declared.Latch.{Latch}
use Rattle.witness_text.specs.LatchLines.{latch_line}
use Rattle.witness_text.specs.Symbols.{ends_symbols, Symbol, kind_of, count_of, readable_index, indexed, symbol_from, before_space, symbol_of}
use Rattle.witness_text.proofs.CountLaws.{counted_facts}
use Rattle.witness_text.proofs.SymbolLaws.{symbol-name}
use Rattle.witness_read.specs.Sections.{Sections, variables, latch_names}
use Rattle.witness_read.specs.Names.{Tail, with_symbol, tail_of, is_input, is_latch, name_of, names_of}
use Rattle.witness_read.specs.Order.{Body}
use Rattle.witness_read.specs.Reading.{named_latches, read_aag, counts_in}
use Rattle.witness_read.proofs.AcceptedLaws.{Parts, body-parts, symbols-tail, read_accepted}
use Rattle.compose_spec.proofs.RangeLaws.{read_range}
use Rattle.compose_spec.specs.Inner.Ranges.{InRange}

-- a byte that a line of a witness may have: not above 127, neither 13 nor 10
abbrev pub plain : ℕ → Bool
plain b = is_witness_byte b && in_line b

-- bytes that may stand in a line
abbrev pub Plain : Bytes → Type 0
Plain l = all plain l ≡ true

-- a name of such bytes, where there is one
abbrev pub PlainName : Option Bytes → Type 0
PlainName none = Unit {0}
PlainName (some x) = Plain x

-- such bytes are those of a text, and none is byte 10
pub plain-bytes : (l : Bytes) → Plain l → all is_witness_byte l ≡ true
plain-bytes l h = and_left (all is_witness_byte l) (all in_line l) (sym (all-and is_witness_byte in_line l) ∙ h)

-- none of them is byte 10
pub plain-line : (l : Bytes) → Plain l → all in_line l ≡ true
plain-line l h = and_right (all is_witness_byte l) (all in_line l) (sym (all-and is_witness_byte in_line l) ∙ h)

-- ---- the lines of a text

-- a plain byte in front of plain lines
head_plain : (b : ℕ) (ls : List Bytes) → plain b ≡ true → Each Plain ls → Each Plain (cons_head b ls)
head_plain b [] h e = (and_both (plain b) true h refl, tt)
head_plain b (l ∷ ls) h e = (and_both (plain b) (all plain l) h e.0, e.1)

-- the lines of a text of a witness's bytes are plain
lines-plain : (t : Bytes) → all is_witness_byte t ≡ true → Each Plain (lines_of t)
lines-plain [] h = tt
lines-plain (b ∷ bs) h = go (eqb b 10) refl (lines-plain bs (and_right (is_witness_byte b) (all is_witness_byte bs) h))
  where
    go : (q : Bool) → eqb b 10 ≡ q → Each Plain (lines_of bs) → Each Plain (cond q ([] ∷ lines_of bs) (cons_head b (lines_of bs)))
    go true e ih = (refl, ih)
    go false e ih =
        let n : in_line b ≡ true = ap not e in
        head_plain b (lines_of bs) (and_both (is_witness_byte b) (in_line b) (and_left (is_witness_byte b) (all is_witness_byte bs) h) n) ih

-- what holds of each element holds of those that are left
each-drop : {A : Type 0} (P : A → Type 0) (n : ℕ) (l : List A) → Each P l → Each P (drop n l)
each-drop P zero l e = e
each-drop P (suc n) [] e = tt
each-drop P (suc n) (x ∷ l) e = each-drop P n l e.1

-- the lines after a section are lines of the text
after-section : {A : Type 0} (item : Bytes → Answer A) (n : ℕ) (ls : List Bytes) (xs : List A) (rest : List Bytes) → section item n ls ≡ section_of xs rest
    → Each Plain ls → Each Plain rest
after-section item n ls xs rest h e = rw (section-rest item n ls xs rest h) (each-drop Plain n ls e)

-- so are those after all section lines
after-body : (n : AagCounts) (ls : List Bytes) (d : Body) → Parts n ls d → Each Plain ls → Each Plain d.rest
after-body n ls d p e =
    after-section (gate_line Witness) n.gates p.after-constraints d.gates d.rest p.gates
    (after-section (literal_line Witness) n.constraints p.after-bads d.constraints p.after-constraints p.constraints
    (after-section (literal_line Witness) n.bads p.after-outputs d.bads p.after-bads p.bads
    (after-section (literal_line Witness) n.outputs p.after-latches d.outputs p.after-outputs p.outputs
    (after-section latch_line n.latches p.after-inputs d.latches p.after-latches p.latches
    (after-section (literal_line Witness) n.inputs ls d.inputs p.after-inputs p.inputs e)))))

-- ---- the names in symbols

module _ (n : AagCounts) where
  -- the name in a plain line is plain
  symbol-plain : (l : Bytes) (x : Symbol) → symbol_of n l ≡ got x → Plain l → Plain x.name
  symbol-plain l x e h = rw (← symbol-name n l x e) (all_drop plain (suc (before_space l)) l h)

  -- so is the name of each symbol in plain lines
  tail-plain : (ls : List Bytes) (t : Tail) → tail_of n ls ≡ got t → Each Plain ls → Each (λ s. Plain s.name) t.symbols
  tail-plain [] t e p = subst (λ (x : Tail). Each (λ s. Plain s.name) x.symbols) (got_same (record { symbols = []; comments = [] }) t e) tt
  tail-plain (l ∷ ls) t e p = go (ends_symbols l) e (tail-plain ls)
    where
      go : (q : Bool) → cond q (got (record { symbols = []; comments = ls })) (and_then (symbol_of n l) (λ s. and_then (tail_of n ls) (with_symbol s))) ≡ got t
          → ((t : Tail) → tail_of n ls ≡ got t → Each Plain ls → Each (λ s. Plain s.name) t.symbols) → Each (λ s. Plain s.name) t.symbols
      go true k ih = subst (λ (x : Tail). Each (λ s. Plain s.name) x.symbols) (got_same (record { symbols = []; comments = ls }) t k) tt
      go false k ih =
          let s = and_then-got (symbol_of n l) (λ s. and_then (tail_of n ls) (with_symbol s)) t k in
          let r = and_then-got (tail_of n ls) (with_symbol s.0) t s.2 in
          subst (λ (x : Tail). Each (λ s. Plain s.name) x.symbols) (got_same (record { symbols = s.0 ∷ r.0.symbols; comments = r.0.comments }) t r.2)
          (symbol-plain l s.0 s.1 p.0, ih r.0 r.1 p.1)

module _ (ss : List Symbol) (e : Each (λ s. Plain s.name) ss) where
  -- the name that plain symbols give is plain
  name-plain : (is : Kind → Bool) (k : ℕ) → PlainName (name_of is k ss)
  name-plain is k = by ss e
    where
      by : (xs : List Symbol) → Each (λ s. Plain s.name) xs → PlainName (name_of is k xs)
      by [] f = tt
      by (x ∷ xs) f = go (is x.kind && eqb k x.index) (by xs f.1)
        where
          go : (q : Bool) → PlainName (name_of is k xs) → PlainName (cond q (some x.name) (name_of is k xs))
          go true ih = f.0
          go false ih = ih

  -- so are all names of a kind
  names-plain : (is : Kind → Bool) (k n : ℕ) → Each PlainName (names_of is k n ss)
  names-plain is k zero = tt
  names-plain is k (suc n) = (name-plain is k, names-plain is (suc k) n)

  -- and those of latches
  latch_names-plain : (k : ℕ) (qs : List Latch) → Each PlainName (map (λ q. q.name) (named_latches k qs ss))
  latch_names-plain k [] = tt
  latch_names-plain k (q ∷ qs) = (name-plain is_latch k, latch_names-plain (suc k) qs)

-- ---- what an accepted text grants

pub record Granted (s : Sections) : Type 0 where
  pub range : InRange s
  pub most : variables s ≤ 2000000
  pub input_names : Each PlainName s.inputs
  pub latch_names : Each PlainName (latch_names s)

-- a text that is not refused with 3 has a witness's bytes
text_bytes : (lim : Limits) (t : Bytes) → good_text lim Witness t ≡ true → all is_witness_byte t ≡ true
unfolding good_text
text_bytes lim t h = (every_facts (within lim 16777216 (length t) ∷ all is_witness_byte t ∷ ends_in10 t ∷ []) h).1.0

-- of a witness or of a model
pub read_granted : (witness : Bool) (t : Bytes) (s : Sections) → read_aag limited witness t ≡ got s → Granted s
read_granted witness t s e =
    let a = read_accepted limited witness t s e in
    let n : AagCounts = counts_in s in
    let ls : List Bytes = drop 1 (lines_of t) in
    let d : Body = a.body in
    let ss : List Symbol = a.tail.symbols in
    let lines : Each Plain ls = each-drop Plain 1 (lines_of t) (lines-plain t (text_bytes limited t a.good)) in
    let names : Each (λ x. Plain x.name) ss = tail-plain n d.rest a.tail (symbols-tail n d.rest a.tail a.names) (after-body n ls d (body-parts n ls d a.takes) lines) in
    record {
      range = read_range limited witness t s e;
      most = (counted_facts n a.limits).most;
      input_names = subst (λ (x : Sections). Each PlainName x.inputs) a.is (names-plain ss names is_input 0 (length d.inputs));
      latch_names = subst (λ (x : Sections). Each PlainName (latch_names x)) a.is (latch_names-plain ss names 0 d.latches);
    }
