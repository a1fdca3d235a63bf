-- What an accepted text says of its sections and their words, and the call that loads them.
use Prim.Native.Nat.{ℕ, zero, suc, ◌+◌, ◌*◌, ◌≤◌, ◌<◌}
use mathlib.Core.Bool.{Bool}
use mathlib.Core.List.{List, [], ◌∷◌, ◌++◌, map, append_assoc}
use mathlib.Core.Option.{Option, some}
use mathlib.Core.Path.{◌≡◌, refl, sym, ap, ◌∙◌}
use native.Mathlib.Omega.{arith}
use lib.ListN.{length, drop, length-append, length-drop}
use lib.Seq.{drop-drop}
use Rattle.lists.specs.Answer.{got, refused}
use Rattle.lists.specs.Parts.{Bytes, front}
use Rattle.lists.specs.Words.{words_of}
use Rattle.lists.proofs.AnswerLaws.{got-refused}
use Rattle.lists.proofs.WordLaws.{words-length}
use Rattle.text.specs.declared.Reader.TheVariants.{Witness}
use Rattle.text.specs.Lines.{lines_of}
use Rattle.text.specs.Inner.Fronts.{Behind}
use Rattle.text.proofs.LineLaws.{behind_then}
use Rattle.text.specs.Texts.{limited}
use Rattle.aiger.proofs.SectionLaws.{section_shorter}
use Rattle.circuit_lines.specs.SectionLines.{literal_line, gate_line}
use Rattle.witness_text.specs.declared.AagCounts.{AagCounts}
use Rattle.witness_text.specs.declared.Latch.{Latch}
use Rattle.witness_text.specs.Header.{header_of}
use Rattle.witness_text.specs.LatchLines.{latch_line}
use Rattle.witness_text.specs.Symbols.{Symbol}
use Rattle.witness_text.specs.Inner.Takes.{Headed}
use Rattle.witness_read.specs.Sections.{Sections, names_in}
use Rattle.witness_read.specs.Names.{is_latch, symbols_of, name_of, names_of}
use Rattle.witness_read.specs.Order.{Body, body_of}
use Rattle.witness_read.specs.Reading.{named_latches, counts_in}
use Rattle.witness_load.specs.Inner.Loaded.{latch_words, operand_words, literal_words, word_count}
use Rattle.witness_load.specs.Inner.Loading.{stored_words, body_words, body_room, LoadsBody, leaf_words, leaf_names, LoadsNames, HasRoom, Loadable, LoadsText}
use Rattle.witness_read.proofs.AcceptedLaws.{Parts, body-parts, parts-counts, Accepted, read_accepted}

-- ---- the latches with their names

module _ (ss : List Symbol) where
  named-words : (k : ℕ) (qs : List Latch) → words_of latch_words (named_latches k qs ss) ≡ words_of stored_words qs
  named-words k [] = refl
  named-words k (q ∷ qs) = ap (λ (l : List ℕ). q.next ∷ q.reset ∷ l) (named-words (suc k) qs)

  named-names : (k : ℕ) (qs : List Latch) → names_of is_latch k (length qs) ss ≡ map (λ q. q.name) (named_latches k qs ss)
  named-names k [] = refl
  named-names k (q ∷ qs) = ap (λ (l : List (Option Bytes)). name_of is_latch k ss ∷ l) (named-names (suc k) qs)

-- ---- an accepted text

-- the text t with the counts n and the sections x
abbrev Taken : Bytes → AagCounts → Sections → Type 0
Taken t n x = (witness : Bool) × Accepted limited witness t n x

text_taken : (t : Bytes) (n : AagCounts) (o : List ℕ) (x : Sections) → HasRoom t n o x → Taken t n x
text_taken t n o x a = (a.witness, rw a.counts (read_accepted limited a.witness t x a.reads))

-- ---- the words

-- how many there are, by the counts
pub words-counted : (x : Sections) → word_count x ≡ leaf_words (counts_in x) + body_room (counts_in x)
words-counted x =
    let l : length (words_of latch_words x.latches) ≡ 2 * length x.latches = words-length latch_words 2 (λ q. refl) x.latches in
    let g : length (words_of operand_words x.gates) ≡ 2 * length x.gates = words-length operand_words 2 (λ q. refl) x.gates in
    simp (length-append, l, g) (omega arith)

module _ (t : Bytes) (n : AagCounts) (x : Sections) (k : Taken t n x) where
  -- the literals of the sections are those of their lines
  literals-same : literal_words x ≡ body_words k.1.body
  literals-same =
      ap literal_words (sym k.1.is)
      ∙ ap (λ (l : List ℕ). l ++ (k.1.body.outputs ++ (k.1.body.bads ++ (k.1.body.constraints ++ words_of operand_words k.1.body.gates)))) (named-words k.1.tail.symbols 0 k.1.body.latches)

  -- the names of the sections are those that the symbols give
  names_same : leaf_names n k.1.tail.symbols ≡ names_in x
  names_same =
      let d : Body = k.1.body in
      let ls : List Bytes = drop 1 (lines_of t) in
      let c = parts-counts n ls d (body-parts n ls d k.1.takes) in
      rw (← c.inputs, ← c.latches, named-names k.1.tail.symbols 0 d.latches) (ap names_in k.1.is)

-- ---- load

body_shorter : (n : AagCounts) (ls : List Bytes) (d : Body) → Parts n ls d → length d.rest ≤ length ls
body_shorter n ls d p =
    omega (
      arith,
      section_shorter (literal_line Witness) n.inputs ls d.inputs p.after-inputs p.inputs,
      section_shorter latch_line n.latches p.after-inputs d.latches p.after-latches p.latches,
      section_shorter (literal_line Witness) n.outputs p.after-latches d.outputs p.after-outputs p.outputs,
      section_shorter (literal_line Witness) n.bads p.after-outputs d.bads p.after-bads p.bads,
      section_shorter (literal_line Witness) n.constraints p.after-bads d.constraints p.after-constraints p.constraints,
      section_shorter (gate_line Witness) n.gates p.after-constraints d.gates d.rest p.gates,
    )

-- a text behind s that has fewer lines than s is shorter
past : (s : Bytes) (k : ℕ) (ls : List Bytes) → ls ≡ lines_of s → (n : AagCounts) → header_of ls ≡ got n → length (lines_of (drop k s)) ≤ length (drop 1 ls)
    → length (drop k s) < length s
past s k [] g n e h = got-refused e refl
past s zero (l ∷ ls) g n e h = absurd (omega (arith, ap length g))
past [] (suc k) (l ∷ ls) g n e h = absurd (omega (arith, ap length g))
past (b ∷ bs) (suc k) (l ∷ ls) g n e h = omega (arith, length-drop k bs)

module _ (s : Bytes) (n : AagCounts) (w₀ : List ℕ) where
  pub load-room : Loadable s n w₀ → leaf_words n + body_room n ≤ length w₀
  load-room a = rw (a.accepted.counts, ← words-counted a.sections) a.accepted.fits

  pub load_no_header : header_of (lines_of s) ≡ refused 4 → (w : List ℕ) → LoadsText s n w₀ w
  load_no_header u w x a = got-refused (text_taken s n w₀ x a).1.heads u

  module _ (m : AagCounts) (r : Bytes) (headed : Headed s m r) (c : Bytes) (k : Behind r c) where
    pub load-behind : Behind s c
    load-behind = behind_then s r c headed.behind k

    module _ (d : List ℕ) (b : LoadsBody r n d c) where
      loaded : (x : Sections) (k : Taken s n x) → (d ≡ body_words k.1.body) × (lines_of c ≡ k.1.body.rest)
      loaded x k = b k.1.body (ap (body_of n) (sym headed.rest) ∙ k.1.takes)

      pub load_past : Loadable s n w₀ → length c < length s
      load_past a =
          let k = text_taken s n w₀ a.sections a.accepted in
          let fewer : length (lines_of c) ≤ length (drop 1 (lines_of s)) =
          omega (arith, ap length (loaded a.sections k).1, body_shorter n (drop 1 (lines_of s)) k.1.body (body-parts n (drop 1 (lines_of s)) k.1.body k.1.takes)) in
          rw load-behind.is (past s load-behind.size (lines_of s) refl n k.1.heads (rw load-behind.is at fewer))

      -- the names' words and the body's, and the words behind them as they were
      pub load-done : (v : List ℕ) → length v ≡ leaf_words n → length d ≡ body_room n → LoadsNames s c n v → (behind : List ℕ) → behind ≡ drop (leaf_words n) w₀
          → LoadsText s n w₀ (v ++ (d ++ drop (body_room n) behind))
      load-done v e f g behind q x a =
          let k = text_taken s n w₀ x a in
          let end : leaf_words n + body_room n ≡ length (v ++ d) = omega (arith, length-append v d, e, f) in
          record {
            name_words = v;
            count = e ∙ ap leaf_words a.counts;
            names = g k.1.tail (ap (symbols_of n) (loaded x k).1 ∙ k.1.names) ∙ ap (map some) (names_same s n x k);
            stand =
                ap (λ (l : List ℕ). v ++ (d ++ l)) (ap (drop (body_room n)) q ∙ drop-drop (body_room n) (leaf_words n) w₀ ∙ ap (λ (j : ℕ). drop j w₀) end)
                ∙ sym (append_assoc v d (drop (length (v ++ d)) w₀))
                ∙ ap (λ (l : List ℕ). front w₀ (v ++ l)) ((loaded x k).0 ∙ sym (literals-same s n x k));
          }
