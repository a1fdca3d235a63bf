-- The reader's answer: the sections in two parts, then reason by reason.
use Rattle.std.specs.Prelude.{Option, Some, None}
use Prim.Native.Nat.{ℕ, ◌*◌, ◌/◌, ◌<◌, ◌≤◌}
use mathlib.Core.Bool.{Bool, true, false, not}
use mathlib.Core.List.{List, []}
use Rattle.std.specs.Prelude.{Result, Ok, Err}
use mathlib.Core.Path.{◌≡◌, refl, sym, ap, ◌∙◌}
use native.Mathlib.Omega.{arith}
use lib.ListN.{length, drop, replicate}
use lib.Seq.{take-append_seam}
use borrow.Author.Tests.{not-true, not-false, le-leb, lt-leb, lt-ltb, le-ltb}
use Rattle.lists.specs.Answer.{Answer, got, refused, unless, and_then}
use Rattle.lists.specs.Parts.{Bytes, front, zeros}
use Rattle.lists.specs.Words.{words_of}
use Rattle.lists.proofs.AnswerLaws.{got_same, unless-got, and_then-got, and_then_assoc, and_then-same}
use Rattle.lists.proofs.ZeroLaws.{zeros-length}
use Rattle.text.specs.declared.Parsed.{Parsed}
use Rattle.text.specs.Lines.{lines_of}
use Rattle.text.specs.declared.Reader.TheVariants.{Transition}
use Rattle.text.specs.Texts.{limited, good_text}
use Rattle.aiger.specs.declared.Gate.{Gate}
use Rattle.aiger.specs.Gates.{gate_words}
use Rattle.aiger.specs.Sections.{Section, section}
use Rattle.aiger.proofs.SectionLaws.{section-length}
use Rattle.aiger.specs.declared.Refusal.{Refusal}
use Rattle.aiger.specs.declared.Refusal.TheVariants as refusal
use Rattle.aiger.specs.Refusals.{refusal_number, answered}
use Rattle.model.specs.declared.AigerTransition.{AigerTransition}
use Rattle.model.specs.declared.Counts.{Counts}
use Rattle.model.specs.Circuit.{Circuit, circuit_of, no_latch}
use Rattle.model.specs.Limits.{counted, well_defined}
use Rattle.circuit_lines.specs.SectionLines.{literal_line, gate_line}
use Rattle.model_text.specs.ModelLines.{latch_line}
use Rattle.model_text.specs.Header.{header_of}
use Rattle.model_text.specs.Inner.Takes.{Headed, TakesCounts}
use Rattle.model_read.specs.Reading.{sections_of, model_of, body_of, read_transition, read_of, gates_after, Reads}
use Rattle.model_read.specs.Inner.Passes.{verdict_of, Started, start_of, with_gates, record_with, Starts, TakesStart, Writes, gates_of, Readable}

-- ---- the sections in two parts: all but the gates, then the gates

-- what follows a model without its gates
abbrev gates_then : Counts → Started → Answer Circuit
gates_then n t = and_then (section (gate_line Transition) n.ands t.rest) (λ gates. got (with_gates t.circuit gates.items))

sections-split : (n : Counts) (ls : List Bytes) → and_then (start_of n ls) (gates_then n) ≡ sections_of n ls
sections-split n ls =
    and_then_assoc (section (literal_line Transition) n.inputs ls) _ (gates_then n)
    ∙ and_then-same (section (literal_line Transition) n.inputs ls) _ _ (λ inputs.
    and_then_assoc (section latch_line n.latches inputs.rest) _ (gates_then n)
    ∙ and_then-same (section latch_line n.latches inputs.rest) _ _ (λ latches.
    and_then_assoc (section (literal_line Transition) n.outputs latches.rest) _ (gates_then n)))

model-split : (n : Counts) (ls : List Bytes) → model_of n ls ≡ and_then (start_of n ls) (λ t. gates_of t.circuit n.ands t.rest)
model-split n ls =
    ap (λ (x : Answer Circuit). and_then x (λ c. unless 11 (well_defined c) (got c))) (sym (sections-split n ls))
    ∙ and_then_assoc (start_of n ls) (gates_then n) _
    ∙ and_then-same (start_of n ls) _ _ (λ t. and_then_assoc (section (gate_line Transition) n.ands t.rest) _ _)

-- ---- the model

-- the record says what the gates are asked for
circuit-back : (c : Circuit) (n : ℕ) (ls : List Bytes) → gates_of (circuit_of (record_with c n) []) n ls ≡ gates_of c n ls
circuit-back c n ls =
    rw (
      take-append_seam c.inputs (drop (length c.inputs) (zeros 64)),
      take-append_seam c.latches (drop (length c.latches) (replicate 8 no_latch)),
      take-append_seam c.outputs (drop (length c.outputs) (zeros 128)),
    ) refl

verdict_got : (x : Answer Circuit) → got tt ≡ verdict_of x → (c : Circuit) × (x ≡ got c)
verdict_got (got c) e = (c, refl)
verdict_got (refused k) e = absurd (let z : ◌≡◌ {A = ℕ} 0 1 = cc in omega arith)

verdict_refused : (x : Answer Circuit) (k : ℕ) → refused k ≡ verdict_of x → x ≡ refused k
verdict_refused (got c) k e = absurd (let z : ◌≡◌ {A = ℕ} 0 1 = cc in omega arith)
verdict_refused (refused j) k e = let q : k ≡ j = cc in rw q refl

-- gates that are accepted
pub record Gated (c : Circuit) (n : ℕ) (ls : List Bytes) (d : Circuit) : Type 0 where
  pub gates : List Gate
  pub rest : List Bytes
  pub takes : section (gate_line Transition) n ls ≡ got (record { items = gates; rest = rest })
  pub is : d ≡ with_gates c gates

gates-got : (c : Circuit) (n : ℕ) (ls : List Bytes) (d : Circuit) → gates_of c n ls ≡ got d → Gated c n ls d
gates-got c n ls d e = from (and_then-got (section (gate_line Transition) n ls) (λ gates. unless 11 (well_defined (with_gates c gates.items)) (got (with_gates c gates.items))) d e)
  where
    from : (g : Section Gate) × (section (gate_line Transition) n ls ≡ got g) × (unless 11 (well_defined (with_gates c g.items)) (got (with_gates c g.items)) ≡ got d) → Gated c n ls d
    from (g, q, t) =
        record {
          gates = g.items;
          rest = g.rest;
          takes = q;
          is = sym (got_same (with_gates c g.items) d (unless-got 11 (got (with_gates c g.items)) d (well_defined (with_gates c g.items)) t));
        }

-- the promise of an acceptance
accepts : (answer : Answer Circuit) (c d : Circuit) (gates : List Gate) → answer ≡ got d → d ≡ with_gates c gates → (g g' w' : List ℕ) (n : ℕ) → w' ≡ zeros n
    → (m : AigerTransition) → m ≡ record_with c (length gates) → g' ≡ front g (words_of gate_words gates) → Reads answer g n (Ok m) g' w'
accepts answer c d gates e q g g' w' n z m k x = record { returns = rw (e, q, k) refl; writes = rw (e, q) x; clears = z }

-- the promise of a refusal
refuses : (answer : Answer Circuit) (k : Refusal) → answer ≡ refused (refusal_number k) → (g w : List ℕ) (n : ℕ) → w ≡ zeros n → Reads answer g n (Err k) g w
refuses answer k e g w n z = record { returns = ap read_of (sym e); writes = ap (λ (x : Answer Circuit). gates_after x g) (sym e); clears = z }

module _ (s : Bytes) (n : Counts) (g w : List ℕ) (k : Readable n g w) (h : Option (Parsed AigerTransition)) (t : TakesStart s n h) where
  abbrev answer : Answer Circuit
  answer = model_of n (lines_of s)

  pub model_no_head : h ≡ None → Reads answer g (length w) (Err refusal.Line) g w
  model_no_head e =
      let f : TakesStart s n None = rw e at t in
      refuses answer refusal.Line (model-split n (lines_of s) ∙ rw f refl) g w (length w) k.clear

  module _ (x : Parsed AigerTransition) (is : h ≡ Some x) where
    abbrev m : AigerTransition
    m = x.value

    abbrev e : Bytes
    e = x.rest.now

    starts : Starts s n m e
    starts = rw is at t

    answer-is : answer ≡ gates_of starts.circuit n.ands (lines_of e)
    answer-is = model-split n (lines_of s) ∙ rw starts.takes refl

    -- what the check of the gates is told
    pub model-room : m.max_variable < length w
    model-room = rw (starts.model, starts.variables) k.room

    module _ (v : Result (Unit {0}) Refusal) (q : answered v ≡ verdict_of (gates_of (circuit_of m []) m.and_count (lines_of e))) where
      verdict_is : answered v ≡ verdict_of answer
      verdict_is = q ∙ rw (starts.model, circuit-back starts.circuit n.ands (lines_of e), answer-is) refl

      pub model-refused : (j : Refusal) → v ≡ Err j → (w' : List ℕ) → w' ≡ zeros (length w) → Reads answer g (length w) (Err j) g w'
      model-refused j u w' z = refuses answer j (verdict_refused answer (refusal_number j) (rw u at verdict_is)) g w' (length w) z

      pub model-accepted : (u : Unit {0}) → v ≡ Ok u → (w' : List ℕ) → w' ≡ zeros (length w) → (g' : List ℕ) → Writes e n.ands g g' → Reads answer g (length w) (Ok m) g' w'
      model-accepted u o w' z g' x =
          let d = verdict_got answer (rw o at verdict_is) in
          let a = gates-got starts.circuit n.ands (lines_of e) d.0 (sym answer-is ∙ d.1) in
          let b : length a.gates ≡ n.ands = section-length (gate_line Transition) n.ands (lines_of e) a.gates a.rest a.takes in
          let y : m ≡ record_with starts.circuit (length a.gates) = starts.model ∙ ap (record_with starts.circuit) (sym b) in
          accepts answer starts.circuit d.0 a.gates d.1 a.is g g' w' (length w) z m y (x a.gates a.rest a.takes)

-- ---- the reasons before the sections

module _ (s : Bytes) (n : Counts) (g w : List ℕ) (z : w ≡ zeros (length w)) (b : Bool) (q : b ≡ counted n) where
  abbrev body : Answer Circuit
  body = body_of (length g) (length w) (lines_of s) n

  pub body-counts : not b ≡ true → Reads body g (length w) (Err refusal.Counts) g w
  body-counts t = refuses body refusal.Counts (rw (← q, not-true b t) refl) g w (length w) z

  module _ (t : not b ≡ false) where
    pub body-words : length g / 3 < n.ands → Reads body g (length w) (Err refusal.Room) g w
    body-words h = refuses body refusal.Room (rw (← q, not-false b t, lt-leb (3 * n.ands) (length g) (omega arith)) refl) g w (length w) z

    module _ (h : n.ands ≤ length g / 3) where
      pub body-work : length w ≤ n.max_variable → Reads body g (length w) (Err refusal.Room) g w
      body-work u =
          refuses body refusal.Room (rw (← q, not-false b t, le-leb (3 * n.ands) (length g) (omega arith), le-ltb n.max_variable (length w) u) refl) g w (length w) z

      module _ (u : n.max_variable < length w) where
        pub body-readable : Readable n g w
        body-readable = record { counts = sym q ∙ not-false b t; words = omega arith; room = u; clear = z }

        pub body-model : (r : Result AigerTransition Refusal) (g' w' : List ℕ) → Reads (model_of n (lines_of s)) g (length w) r g' w' → Reads body g (length w) r g' w'
        body-model r g' w' k =
            let e : body ≡ model_of n (lines_of s) =
            rw (← q, not-false b t, le-leb (3 * n.ands) (length g) (omega arith), lt-ltb n.max_variable (length w) u) refl in
            rw e k

module _ (s : Bytes) (g : List ℕ) (w : ℕ) (b : Bool) (q : b ≡ good_text limited Transition s) where
  abbrev text : Answer Circuit
  text = read_transition s (length g) w

  pub text_refused : not b ≡ true → (w' : List ℕ) → w' ≡ zeros w → Reads text g w (Err refusal.Text) g w'
  unfolding read_transition
  text_refused t w' z = refuses text refusal.Text (rw (← q, not-true b t) refl) g w' w z

  module _ (t : not b ≡ false) (h : Option (Parsed Counts)) (k : TakesCounts s h) where
    pub header_bad : h ≡ None → (w' : List ℕ) → w' ≡ zeros w → Reads text g w (Err refusal.Header) g w'
    unfolding read_transition
    header_bad e w' z = let f : header_of (lines_of s) ≡ refused 4 = rw e at k in refuses text refusal.Header (rw (← q, not-false b t, f) refl) g w' w z

    pub header_read : (p : Parsed Counts) → h ≡ Some p → (w₁ : List ℕ) → w₁ ≡ zeros w → (r : Result AigerTransition Refusal) (g' w' : List ℕ)
        → Reads (body_of (length g) (length w₁) (lines_of p.rest.now) p.value) g (length w₁) r g' w' → Reads text g w r g' w'
    unfolding read_transition
    header_read p e w₁ z r g' w' x =
        let f : Headed s p.value p.rest.now = rw e at k in
        let y : length w₁ ≡ w = ap length z ∙ zeros-length w in
        let a : read_transition s (length g) w ≡ body_of (length g) w (lines_of p.rest.now) p.value = rw (← q, not-false b t, f.counts, f.rest) refl in
        rw (a, ← y) x
