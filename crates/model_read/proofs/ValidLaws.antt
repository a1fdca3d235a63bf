-- What an accepted text says of its model: it is a valid one, and its record and gate words stand for it.
use Prim.Native.Nat.{ℕ, ◌*◌, ◌<◌, ◌≤◌}
use mathlib.Core.Bool.{true}
use mathlib.Core.List.{List}
use mathlib.Core.Path.{◌≡◌, refl, ap, ◌∙◌}
use native.Mathlib.Omega.{arith}
use lib.Dec.{leb, ltb}
use lib.ListN.{length, take, drop, replicate, length-append, length-replicate}
use lib.Seq.{take-append_seam}
use borrow.Author.Tests.{leb-true, ltb-true, le-leb}
use Rattle.lists.specs.Answer.{refused, Answer, got, unless, and_then}
use Rattle.lists.specs.Parts.{Bytes, front, zeros}
use Rattle.lists.specs.Words.{triples_of, words_of}
use Rattle.lists.proofs.AnswerLaws.{got_same, unless_test, unless-got, and_then-got}
use Rattle.lists.proofs.PartLaws.{front_length}
use Rattle.lists.proofs.ZeroLaws.{zeros-length}
use Rattle.lists.proofs.WordLaws.{triples_append, triples_back, words-length}
use Rattle.text.specs.declared.Reader.TheVariants.{Transition}
use Rattle.text.specs.Lines.{lines_of}
use Rattle.text.specs.Texts.{limited, good_text}
use Rattle.text.proofs.TextLaws.{text_long}
use Rattle.aiger.specs.declared.Gate.{Gate}
use Rattle.aiger.specs.Gates.{gate_from, gate_words}
use Rattle.aiger.specs.Sections.{section}
use Rattle.aiger.proofs.SectionLaws.{section-length}
use Rattle.model.specs.declared.Counts.{Counts}
use Rattle.model.specs.Circuit.{Circuit, circuit_of, record_of, no_latch, words_of_gates}
use Rattle.model.specs.Limits.{counted, well_defined}
use Rattle.model.specs.Checked.{checked, counts_of}
use Rattle.model.specs.RecordWords.{record_in, words_in}
use Rattle.model.proofs.CountLaws.{counted_facts}
use Rattle.model.proofs.MemoryLaws.{record_back}
use Rattle.model.proofs.ValueLaws.{Sound, Fixes, sound-fixes}
use Rattle.model_text.specs.Header.{header_of}
use Rattle.circuit_lines.specs.SectionLines.{literal_line, gate_line}
use Rattle.model_text.specs.ModelLines.{latch_line}
use Rattle.model_read.specs.Reading.{sections_of, model_of, body_of, read_transition, gates_after}

-- the sections have as many items as the header says
pub record AsCounted (n : Counts) (c : Circuit) : Type 0 where
  pub variables : c.variables ≡ n.max_variable
  pub inputs : length c.inputs ≡ n.inputs
  pub latches : length c.latches ≡ n.latches
  pub outputs : length c.outputs ≡ n.outputs
  pub gates : length c.gates ≡ n.ands

sections-counted : (n : Counts) (c : Circuit) (ls : List Bytes) → sections_of n ls ≡ got c → AsCounted n c
sections-counted n c ls e =
    let a = and_then-got (section (literal_line Transition) n.inputs ls) _ c e in
    let b = and_then-got (section latch_line n.latches a.0.rest) _ c a.2 in
    let d = and_then-got (section (literal_line Transition) n.outputs b.0.rest) _ c b.2 in
    let f = and_then-got (section (gate_line Transition) n.ands d.0.rest) _ c d.2 in
    rw (← got_same _ c f.2)
    (record {
      variables = refl;
      inputs = section-length (literal_line Transition) n.inputs ls a.0.items a.0.rest a.1;
      latches = section-length latch_line n.latches a.0.rest b.0.items b.0.rest b.1;
      outputs = section-length (literal_line Transition) n.outputs b.0.rest d.0.items d.0.rest d.1;
      gates = section-length (gate_line Transition) n.ands d.0.rest f.0.items f.0.rest f.1;
    })

-- what was tested of an accepted text, with g gate words and w work words
pub record Accepted (t : Bytes) (g w : ℕ) (c : Circuit) : Type 0 where
  pub good : good_text limited Transition t ≡ true
  pub counts : Counts
  pub header : header_of (lines_of t) ≡ got counts
  pub within : counted counts ≡ true
  pub words : 3 * counts.ands ≤ g
  pub work : counts.max_variable < w
  pub sections : sections_of counts (drop 1 (lines_of t)) ≡ got c
  pub well : well_defined c ≡ true

module _ (t : Bytes) (g w : ℕ) (c : Circuit) where
  abbrev ls : List Bytes
  ls = drop 1 (lines_of t)

  module _ (good : good_text limited Transition t ≡ true) (n : Counts) (h : header_of (lines_of t) ≡ got n) where
    by-sections : counted n ≡ true → 3 * n.ands ≤ g → n.max_variable < w
        → (d : Circuit) × (sections_of n ls ≡ got d) × (unless 11 (well_defined d) (got d) ≡ got c) → Accepted t g w c
    by-sections k a b (d, q, u) =
        let same : d ≡ c = got_same d c (unless-got 11 (got d) c (well_defined d) u) in
        record {
          good = good;
          counts = n;
          header = h;
          within = k;
          words = a;
          work = b;
          sections = rw (← same) q;
          well = rw (← same) (unless_test 11 (got d) c (well_defined d) u);
        }

    by-counts : body_of g w ls n ≡ got c → Accepted t g w c
    by-counts k =
        let m : Answer Circuit = model_of n ls in
        let x : Answer Circuit = unless 7 (ltb n.max_variable w) m in
        let y : Answer Circuit = unless 7 (leb (3 * n.ands) g) x in
        let ky : y ≡ got c = unless-got 5 y c (counted n) k in
        let kx : x ≡ got c = unless-got 7 x c (leb (3 * n.ands) g) ky in
        by-sections
        (unless_test 5 y c (counted n) k)
        (leb-true (3 * n.ands) g (unless_test 7 x c (leb (3 * n.ands) g) ky))
        (ltb-true n.max_variable w (unless_test 7 m c (ltb n.max_variable w) kx))
        (and_then-got (sections_of n ls) (λ d. unless 11 (well_defined d) (got d)) c (unless-got 7 m c (ltb n.max_variable w) kx))

  pub read_accepted : read_transition t g w ≡ got c → Accepted t g w c
  unfolding read_transition
  read_accepted e =
      let r : Answer Circuit = and_then (header_of (lines_of t)) (body_of g w ls) in
      from (unless_test 3 r c (good_text limited Transition t) e) (and_then-got (header_of (lines_of t)) (body_of g w ls) c (unless-got 3 r c (good_text limited Transition t) e))
    where
      from : good_text limited Transition t ≡ true → (n : Counts) × (header_of (lines_of t) ≡ got n) × (body_of g w ls n ≡ got c) → Accepted t g w c
      from good (n, h, k) = by-counts good n h k

-- ---- the record and the gate words stand for the model

-- its gates are read back from the words in front of a buffer
gates-back : (gs : List Gate) (g : List ℕ) → take (length gs) (triples_of gate_from (front g (words_of gate_words gs))) ≡ gs
gates-back gs g =
    let n : length (words_of gate_words gs) ≡ 3 * length gs = words-length gate_words 3 (λ x. refl) gs in
    rw (triples_append gate_from (words_of gate_words gs) (drop (length (words_of gate_words gs)) g) (omega arith), triples_back gate_from gate_words (λ x. refl) (λ x. refl) gs)
    (take-append_seam gs (triples_of gate_from (drop (length (words_of gate_words gs)) g)))

pub circuit_of_record : (c : Circuit) (g : List ℕ) → circuit_of (record_of c) (front g (words_of_gates c)) ≡ c
circuit_of_record c g =
    rw (
      gates-back c.gates g,
      take-append_seam c.inputs (drop (length c.inputs) (zeros 64)),
      take-append_seam c.latches (drop (length c.latches) (replicate 8 no_latch)),
      take-append_seam c.outputs (drop (length c.outputs) (zeros 128)),
    ) refl

counts-back : (n : Counts) (c : Circuit) → AsCounted n c → counts_of (record_of c) ≡ n
counts-back n c k = rw (k.variables, k.inputs, k.latches, k.outputs, k.gates) refl

module _ (t : Bytes) (g : List ℕ) (w : ℕ) (c : Circuit) (e : read_transition t (length g) w ≡ got c) where
  accepted : Accepted t (length g) w c
  accepted = read_accepted t (length g) w c e

  as_counted : AsCounted accepted.counts c
  as_counted = sections-counted accepted.counts c (drop 1 (lines_of t)) accepted.sections

  -- R11.1: the values of inputs and latches determine the others, in the model that was read
  pub read_sound : Sound c
  read_sound =
      let k = counted_facts accepted.counts accepted.within in
      record { well = accepted.well; sum = omega (arith, as_counted.inputs, as_counted.latches, as_counted.gates, as_counted.variables, k.sum) }

  -- every array of the record has its length, so that the words of its memory, which a caller lends to later calls, stand for it
  pub read_words : record_in (words_in (record_of c)) ≡ record_of c
  read_words =
      let k = counted_facts accepted.counts accepted.within in
      record_back (record_of c)
      (record {
        inputs = front_length (zeros 64) c.inputs (rw (zeros-length 64) (omega (arith, as_counted.inputs, k.inputs))) ∙ zeros-length 64;
        latches = front_length (replicate 8 no_latch) c.latches (rw (length-replicate 8 no_latch) (omega (arith, as_counted.latches, k.latches))) ∙ length-replicate 8 no_latch;
        outputs = front_length (zeros 128) c.outputs (rw (zeros-length 128) (omega (arith, as_counted.outputs, k.outputs))) ∙ zeros-length 128;
      })

  -- the record that was read, with its gate words, is valid: later calls refuse it for too short a work slice alone
  pub read_valid : (w' : ℕ) → checked (record_of c) (gates_after (got c) g) w' ≡ unless 7 (ltb c.variables w') (got c)
  unfolding checked
  read_valid w' =
      let k : counted (counts_of (record_of c)) ≡ true = ap counted (counts-back accepted.counts c as_counted) ∙ accepted.within in
      let n : length (words_of_gates c) ≡ 3 * length c.gates = words-length gate_words 3 (λ x. refl) c.gates in
      let b : 3 * length c.gates ≤ length (front g (words_of_gates c)) = rw (length-append (words_of_gates c) (drop (length (words_of_gates c)) g)) (omega arith) in
      let i : length c.inputs ≤ length (front (zeros 64) c.inputs) = rw (length-append c.inputs (drop (length c.inputs) (zeros 64))) (omega arith) in
      let o : length c.outputs ≤ length (front (zeros 128) c.outputs) = rw (length-append c.outputs (drop (length c.outputs) (zeros 128))) (omega arith) in
      rw (k, le-leb (length c.inputs) (length (front (zeros 64) c.inputs)) i, le-leb (length c.outputs) (length (front (zeros 128) c.outputs)) o, le-leb (3 * length c.gates) (length (front g (words_of_gates c))) b, circuit_of_record c g, accepted.well) refl

  -- so they fix every value, for each state and input word
  pub read_fixes : (s x : ℕ) → Fixes c s x
  read_fixes = sound-fixes c read_sound

-- the limit on the length of a text
pub too_long : (t : Bytes) (g w : ℕ) → 16777216 < length t → read_transition t g w ≡ refused 3
unfolding read_transition
too_long t g w h = rw (← text_long Transition t h) refl
