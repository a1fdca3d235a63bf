-- Demand 3 for compositions, on texts: what a call returns means what it should.
use Prim.Native.Nat.{ℕ, suc, ◌+◌, ◌*◌, ◌≤◌}
use mathlib.Core.Bool.{true, false, ◌&&◌}
use mathlib.Core.List.{List, [], ◌∷◌}
use mathlib.Core.Path.{◌≡◌, refl, sym, ap, ◌∙◌}
use lib.Dec.{leb}
use lib.ListN.{length}
use borrow.Author.Tests.{leb-true}
use Rattle.lists.specs.Answer.{Answer, got, unless, and_then}
use Rattle.lists.specs.Parts.{Bytes}
use Rattle.lists.specs.Tests.{all, Each}
use Rattle.lists.specs.Words.{in_order}
use Rattle.lists.proofs.AnswerLaws.{got_same, unless_test, unless-got, and_then-got}
use Rattle.lists.proofs.BoolLaws.{and_right}
use Rattle.lists.proofs.TestLaws.{each-so}
use Rattle.text.specs.Texts.{limited, free}
use Rattle.witness_read.specs.Sections.{Sections}
use Rattle.witness_read.specs.Reading.{read_aag}
use Rattle.compose_spec.specs.Numbering.{leaf_count}
use Rattle.compose_spec.specs.Composing.{maps_right, composed_gates, whole, gates_fit, all_defined, agree, is_some, safety, composed, compose}
use Rattle.compose_spec.specs.Printing.{printed}
use Rattle.compose_spec.specs.Calling.{read_all, sizes, compose_sections, compose_texts, texts_in, compose_call, printed_within, compose_read}
use Rattle.compose_spec.specs.Meaning.{Composition}
use Rattle.compose_spec.specs.Inner.Ranges.{InRange}
use Rattle.compose_spec.proofs.MeaningLaws.{composed-means}
use Rattle.compose_spec.proofs.NameLaws.{Granted, read_granted}
use Rattle.compose_spec.proofs.BackLaws.{read_printed}
use Rattle.compose_spec.proofs.PrintableLaws.{composed-printable}

-- as many witnesses as texts, each accepted
pub record AllRead (ts : List Bytes) (ws : List Sections) : Type 0 where
  pub count : length ws ≡ length ts
  pub granted : Each Granted ws

-- so it is where the texts of all witnesses are read
pub all_read : (ts : List Bytes) (ws : List Sections) → read_all ts ≡ got ws → AllRead ts ws
all_read [] ws e = rw (← got_same [] ws e) (record { count = refl; granted = tt })
all_read (t ∷ ts) ws e =
    let a = and_then-got (read_aag limited true t) (λ s. and_then (read_all ts) (λ ss. got (s ∷ ss))) ws e in
    let b = and_then-got (read_all ts) (λ ss. got (a.0 ∷ ss)) ws a.2 in
    let r = all_read ts b.0 b.1 in
    rw (← got_same (a.0 ∷ b.0) ws b.2) (record { count = ap suc r.count; granted = (read_granted true t a.0 a.1, r.granted) })

-- what it means that sections were composed: 16, 17 and 18 do not apply
pub record Composed (m : Sections) (ws : List Sections) (s : Sections) : Type 0 where
  pub mapped : all (maps_right m) ws ≡ true
  pub fit : gates_fit (leaf_count m ws) (composed_gates m ws) ≡ true
  pub agreed : agree (all_defined (whole m ws)) ≡ true
  pub is : composed m ws ≡ s

-- so it is where `compose` gives s
pub compose-got : (m : Sections) (ws : List Sections) (s : Sections) → compose m ws ≡ got s → Composed m ws s
unfolding compose
compose-got m ws s e =
    let fits = gates_fit (leaf_count m ws) (composed_gates m ws) in
    let agrees = agree (all_defined (whole m ws)) in
    let some = all (λ w. is_some (safety w)) ws in
    let r19 : Answer Sections = unless 19 some (got (composed m ws)) in
    let r18 : Answer Sections = unless 18 agrees r19 in
    let r17 : Answer Sections = unless 17 fits r18 in
    let e17 = unless-got 16 r17 s (all (maps_right m) ws) e in
    let e18 = unless-got 17 r18 s fits e17 in
    let e19 = unless-got 18 r19 s agrees e18 in
    record {
      mapped = unless_test 16 r17 s (all (maps_right m) ws) e;
      fit = unless_test 17 r18 s fits e17;
      agreed = unless_test 18 r19 s agrees e18;
      is = got_same (composed m ws) s (unless-got 19 (got (composed m ws)) s some e19);
    }

-- the sections that were read, and the text of their composition
made : (model : Bytes) (ts : List Bytes) (text : Bytes) (m : Sections) (ws : List Sections) (s : Sections) → read_aag limited false model ≡ got m → read_all ts ≡ got ws
    → length ts ≤ 64
    → compose m ws ≡ got s → Composed m ws s → printed s ≡ text → Composition model ts text
made model ts text m ws s rm rs few cs c e =
    let a = all_read ts ws rs in
    let p = composed-printable m ws a.granted (rw a.count few) c.fit in
    let t : text ≡ printed (composed m ws) = sym e ∙ ap printed (sym c.is) in
    record {
      m = m;
      ws = ws;
      s = composed m ws;
      model_read = rm;
      witnesses_read = rs;
      text_read = λ witness. ap (read_aag free witness) t ∙ read_printed (composed m ws) p witness;
      mapped = c.mapped;
      composes = cs ∙ ap got (sym c.is);
      text_is = t;
      means = composed-means m ws (each-so Granted InRange (λ w g. g.range) ws a.granted) c.agreed;
    }

-- the same for the text that is made of the texts
texts_mean : (work room : ℕ) (model : Bytes) (ts : List Bytes) (text : Bytes) → length ts ≤ 64 → compose_texts work room model ts ≡ got text → Composition model ts text
texts_mean work room model ts text few e =
    let a = and_then-got (read_aag limited false model) (λ m. and_then (read_all ts) (compose_read work room m)) text e in
    let m : Sections = a.0 in
    let b = and_then-got (read_all ts) (compose_read work room m) text a.2 in
    let ws : List Sections = b.0 in
    let e16 = unless-got 15 (compose_sections room m ws) text (leb (16 * sizes (m ∷ ws) + 1024) work) b.2 in
    let c = and_then-got (compose m ws) (printed_within room) text e16 in
    let s : Sections = c.0 in
    made model ts text m ws s a.1 b.1 few c.1 (compose-got m ws s c.1)
    (got_same (printed s) text (unless-got 20 (got (printed s)) text (leb (length (printed s)) room) c.2))

-- Demand 3 for compositions: the text that an accepted call returns.
pub composition-means : (work room : ℕ) (model buffer : Bytes) (pairs : List ℕ) (text : Bytes) → compose_call work room model buffer pairs ≡ got text
    → Composition model (texts_in buffer pairs) text
unfolding compose_call
composition-means work room model buffer pairs text e =
    let ts : List Bytes = texts_in buffer pairs in
    let count = leb 2 (length ts) && leb (length ts) 64 in
    let r : Answer Bytes = compose_texts work room model ts in
    let two : Answer Bytes = unless 2 (in_order 0 (length buffer) pairs) r in
    texts_mean work room model ts text
    (leb-true (length ts) 64 (and_right (leb 2 (length ts)) (leb (length ts) 64) (unless_test 1 two text count e)))
    (unless-got 2 r text (in_order 0 (length buffer) pairs) (unless-got 1 two text count e))
