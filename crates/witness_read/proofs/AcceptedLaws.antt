-- What an accepted text says: its header, its section lines, its symbols, and the counts of its sections.
use Prim.Native.Nat.{ℕ, zero, suc}
use mathlib.Core.Bool.{Bool, true}
use mathlib.Core.List.{List, [], ◌∷◌}
use mathlib.Core.Path.{◌≡◌, refl, sym, ap, ◌∙◌, subst}
use lib.ListN.{length, drop}
use Rattle.lists.specs.Answer.{Answer, got, refused, unless, and_then}
use Rattle.lists.specs.Parts.{Bytes}
use Rattle.lists.proofs.AnswerLaws.{and_then-got, unless_test, unless-got, got_same, got-refused}
use Rattle.text.specs.declared.Reader.TheVariants.{Witness}
use Rattle.text.specs.Lines.{lines_of}
use Rattle.text.specs.Texts.{Limits, good_text}
use Rattle.aiger.specs.Sections.{section}
use Rattle.aiger.proofs.SectionLaws.{section_of, section-length}
use Rattle.circuit_lines.specs.SectionLines.{literal_line, gate_line}
use Rattle.witness_text.specs.declared.AagCounts.{AagCounts}
use Rattle.witness_text.specs.declared.Kind.{Kind}
use Rattle.witness_text.specs.declared.Latch.{Latch}
use Rattle.witness_text.specs.Header.{header_of, counted, without_liveness}
use Rattle.witness_text.specs.LatchLines.{latch_line}
use Rattle.witness_text.specs.Symbols.{Symbol}
use Rattle.witness_text.proofs.CountLaws.{counted_sum, liveness_facts}
use Rattle.witness_read.specs.Sections.{Sections}
use Rattle.witness_read.specs.Names.{Tail, is_input, tail_of, named_once, symbols_of, names_of}
use Rattle.witness_read.specs.Comments.{plain_comments}
use Rattle.witness_read.specs.Order.{Body, body_of, well_numbered}
use Rattle.witness_read.specs.Reading.{named_latches, sections_from, sections_of, after_header, read_aag, counts_in, counts_read}

-- ---- the section lines

-- the sections of the body d, each with the lines after it
pub record Parts (n : AagCounts) (ls : List Bytes) (d : Body) : Type 0 where
  pub after-inputs : List Bytes
  pub after-latches : List Bytes
  pub after-outputs : List Bytes
  pub after-bads : List Bytes
  pub after-constraints : List Bytes
  pub inputs : section (literal_line Witness) n.inputs ls ≡ section_of d.inputs after-inputs
  pub latches : section latch_line n.latches after-inputs ≡ section_of d.latches after-latches
  pub outputs : section (literal_line Witness) n.outputs after-latches ≡ section_of d.outputs after-outputs
  pub bads : section (literal_line Witness) n.bads after-outputs ≡ section_of d.bads after-bads
  pub constraints : section (literal_line Witness) n.constraints after-bads ≡ section_of d.constraints after-constraints
  pub gates : section (gate_line Witness) n.gates after-constraints ≡ section_of d.gates d.rest

pub body-parts : (n : AagCounts) (ls : List Bytes) (d : Body) → body_of n ls ≡ got d → Parts n ls d
body-parts n ls d e =
    let i = and_then-got (section (literal_line Witness) n.inputs ls) _ d e in
    let l = and_then-got (section latch_line n.latches i.0.rest) _ d i.2 in
    let o = and_then-got (section (literal_line Witness) n.outputs l.0.rest) _ d l.2 in
    let b = and_then-got (section (literal_line Witness) n.bads o.0.rest) _ d o.2 in
    let c = and_then-got (section (literal_line Witness) n.constraints b.0.rest) _ d b.2 in
    let g = and_then-got (section (gate_line Witness) n.gates c.0.rest) _ d c.2 in
    rw (← got_same _ d g.2) (record {
      after-inputs = i.0.rest;
      after-latches = l.0.rest;
      after-outputs = o.0.rest;
      after-bads = b.0.rest;
      after-constraints = c.0.rest;
      inputs = i.1;
      latches = l.1;
      outputs = o.1;
      bads = b.1;
      constraints = c.1;
      gates = g.1;
    })

-- each section has as many items as the header says
pub record Counts (n : AagCounts) (d : Body) : Type 0 where
  pub inputs : length d.inputs ≡ n.inputs
  pub latches : length d.latches ≡ n.latches
  pub outputs : length d.outputs ≡ n.outputs
  pub bads : length d.bads ≡ n.bads
  pub constraints : length d.constraints ≡ n.constraints
  pub gates : length d.gates ≡ n.gates

pub parts-counts : (n : AagCounts) (ls : List Bytes) (d : Body) → Parts n ls d → Counts n d
parts-counts n ls d p =
    record {
      inputs = section-length (literal_line Witness) n.inputs ls d.inputs p.after-inputs p.inputs;
      latches = section-length latch_line n.latches p.after-inputs d.latches p.after-latches p.latches;
      outputs = section-length (literal_line Witness) n.outputs p.after-latches d.outputs p.after-outputs p.outputs;
      bads = section-length (literal_line Witness) n.bads p.after-outputs d.bads p.after-bads p.bads;
      constraints = section-length (literal_line Witness) n.constraints p.after-bads d.constraints p.after-constraints p.constraints;
      gates = section-length (gate_line Witness) n.gates p.after-constraints d.gates d.rest p.gates;
    }

-- ---- the symbols

pub names-length : (is : Kind → Bool) (k n : ℕ) (ss : List Symbol) → length (names_of is k n ss) ≡ n
names-length is k zero ss = refl
names-length is k (suc n) ss = ap suc (names-length is (suc k) n ss)

pub latches-length : (k : ℕ) (qs : List Latch) (ss : List Symbol) → length (named_latches k qs ss) ≡ length qs
latches-length k [] ss = refl
latches-length k (q ∷ qs) ss = ap suc (latches-length (suc k) qs ss)

module _ (n : AagCounts) (ls : List Bytes) (t : Tail) (e : symbols_of n ls ≡ got t) where
  tail : (x : Tail) × (tail_of n ls ≡ got x) × (unless 9 (named_once x.symbols) (got x) ≡ got t)
  unfolding symbols_of
  tail = and_then-got (tail_of n ls) (λ x. unless 9 (named_once x.symbols) (got x)) t e

  same-tail : tail.0 ≡ t
  same-tail = got_same tail.0 t (unless-got 9 (got tail.0) t (named_once tail.0.symbols) tail.2)

  pub symbols-tail : tail_of n ls ≡ got t
  symbols-tail = tail.1 ∙ ap got same-tail

  pub symbols_once : named_once t.symbols ≡ true
  symbols_once = ap (λ (x : Tail). named_once x.symbols) (sym same-tail) ∙ unless_test 9 (got tail.0) t (named_once tail.0.symbols) tail.2

-- ---- the counts of the sections are those of the header

counts_of_lem : (n : AagCounts) (m i l o a b c j f : ℕ) → m ≡ n.max_variable → i ≡ n.inputs → l ≡ n.latches → o ≡ n.outputs → a ≡ n.gates → b ≡ n.bads → c ≡ n.constraints
    → j ≡ n.justice → f ≡ n.fairness
    → record { max_variable = m; inputs = i; latches = l; outputs = o; gates = a; bads = b; constraints = c; justice = j; fairness = f } ≡ n
counts_of_lem n m i l o a b c j f p q r s t u v w x = rw (p, q, r, s, t, u, v, w, x) refl

module _ (lim : Limits) (n : AagCounts) (d : Body) (ss : List Symbol) (h : counted lim n ≡ true) (l : without_liveness n ≡ true) (c : Counts n d) where
  pub counts_same : counts_in (sections_from d ss) ≡ n
  counts_same =
      let j = liveness_facts n l in
      counts_of_lem n _ _ _ _ _ _ _ _ _
      (rw (names-length is_input 0 (length d.inputs) ss, latches-length 0 d.latches ss, c.inputs, c.latches, c.gates) (sym (counted_sum n lim h)))
      (names-length is_input 0 (length d.inputs) ss ∙ c.inputs)
      (latches-length 0 d.latches ss ∙ c.latches)
      c.outputs
      c.gates
      c.bads
      c.constraints
      (sym j.justice)
      (sym j.fairness)

-- ---- a text

-- the text t was read with the counts n and the sections x
pub record Accepted (lim : Limits) (witness : Bool) (t : Bytes) (n : AagCounts) (x : Sections) : Type 0 where
  pub body : Body
  pub tail : Tail
  pub good : good_text lim Witness t ≡ true
  pub heads : header_of (lines_of t) ≡ got n
  pub limits : counted lim n ≡ true
  pub live : without_liveness n ≡ true
  pub takes : body_of n (drop 1 (lines_of t)) ≡ got body
  pub names : symbols_of n body.rest ≡ got tail
  pub plain : plain_comments witness tail.comments ≡ true
  pub numbered : well_numbered n body ≡ true
  pub is : sections_from body tail.symbols ≡ x

pub read_accepted : (lim : Limits) (witness : Bool) (t : Bytes) (x : Sections) → read_aag lim witness t ≡ got x → Accepted lim witness t (counts_in x) x
unfolding read_aag
read_accepted lim witness t x e =
    let ls : List Bytes = drop 1 (lines_of t) in
    let h = and_then-got (header_of (lines_of t)) (after_header lim witness ls) x (unless-got 3 _ x (good_text lim Witness t) e) in
    let n : AagCounts = h.0 in
    let e₆ : unless 6 (without_liveness n) (sections_of witness n ls) ≡ got x = unless-got 5 (unless 6 (without_liveness n) (sections_of witness n ls)) x (counted lim n) h.2 in
    let b = and_then-got (body_of n ls) _ x (unless-got 6 (sections_of witness n ls) x (without_liveness n) e₆) in
    let d : Body = b.0 in
    let s = and_then-got (symbols_of n d.rest) _ x b.2 in
    let y : Sections = sections_from d s.0.symbols in
    let e₁₁ = unless-got 10 (unless 11 (well_numbered n d) (got y)) x (plain_comments witness s.0.comments) s.2 in
    let z : y ≡ x = got_same y x (unless-got 11 (got y) x (well_numbered n d) e₁₁) in
    let c : counted lim n ≡ true = unless_test 5 (unless 6 (without_liveness n) (sections_of witness n ls)) x (counted lim n) h.2 in
    let l : without_liveness n ≡ true = unless_test 6 (sections_of witness n ls) x (without_liveness n) e₆ in
    let same : counts_in x ≡ n = ap counts_in (sym z) ∙ counts_same lim n d s.0.symbols c l (parts-counts n ls d (body-parts n ls d b.1)) in
    subst (λ (m : AagCounts). Accepted lim witness t m x) (sym same)
    (record {
      body = d;
      tail = s.0;
      good = unless_test 3 (and_then (header_of (lines_of t)) (after_header lim witness ls)) x (good_text lim Witness t) e;
      heads = h.1;
      limits = c;
      live = l;
      takes = b.1;
      names = s.1;
      plain = unless_test 10 (unless 11 (well_numbered n d) (got y)) x (plain_comments witness s.0.comments) s.2;
      numbered = unless_test 11 (got y) x (well_numbered n d) e₁₁;
      is = z;
    })

-- the counts that a call returns are those of the header
pub read_header : (lim : Limits) (witness : Bool) (t : Bytes) (x : Sections) → read_aag lim witness t ≡ got x → header_of (lines_of t) ≡ got (counts_in x)
read_header lim witness t x e = (read_accepted lim witness t x e).heads

-- what an answer with counts was made from
pub read_got : (a : Answer Sections) (n : AagCounts) → got n ≡ counts_read a → (x : Sections) × (a ≡ got x) × (n ≡ counts_in x)
read_got (got x) n e = (x, refl, got_same n (counts_in x) e)
read_got (refused k) n e = let e : refused k ≡ got n = sym e in got-refused e refl

pub read_refused : (a : Answer Sections) (k : ℕ) → refused k ≡ counts_read a → a ≡ refused k
read_refused (got x) k e = let e : got (counts_in x) ≡ refused k = sym e in got-refused refl e
read_refused (refused j) k e = let s : k ≡ j = cc in rw s refl
