-- Laws of the composer from what is laid out on: merging, 19, measuring and writing.
use Rattle.std.specs.Prelude.{Result, Ok, Err}
use Rattle.std.specs.Result.{IsErrAnd}
use Rattle.aiger.specs.declared.Refusal.{Refusal}
use Rattle.aiger.specs.declared.Refusal.TheVariants as refusal
use Rattle.aiger.specs.Refusals.{refusal_number}
use Prim.Native.Nat.{ℕ, ◌≤◌, ◌<◌}
use mathlib.Core.Bool.{Bool, true, false, not}
use mathlib.Core.List.{List, [], ◌∷◌, ◌++◌}
use mathlib.Core.Path.{◌≡◌, refl, sym, ap, ◌∙◌, subst}
use native.Mathlib.Nat.{zero-add}
use native.Mathlib.Omega.{arith}
use borrow.Author.Tests.{not-true, not-false, le-leb, lt-leb}
use lib.ListN.{length, take, drop}
use Rattle.lists.specs.Answer.{Answer, got, refused, and_then, unless}
use Rattle.lists.specs.Parts.{Bytes, put, front}
use Rattle.lists.proofs.PartLaws.{put_front}
use Rattle.text_print.specs.Inner.Prints.{capped, Prints}
use Rattle.witness_text.specs.declared.AagCounts.{AagCounts}
use Rattle.witness_read.specs.Sections.{Sections}
use Rattle.compose_spec.specs.Composing.{composed, compose}
use Rattle.compose_spec.specs.Printing.{printed}
use Rattle.compose_spec.specs.Calling.{compose_sections, printed_within}
use Rattle.compose_joint.proofs.AmountLaws.{leaf_count-most}
use Rattle.compose_joint.proofs.GateLaws.{composed-gates-most}
use Rattle.compose_gather.specs.declared.Totals.{Totals}
use Rattle.compose_layout.specs.declared.Layout.{Layout}
use Rattle.compose_layout.specs.Inner.Laid.{OfSome}
use Rattle.compose_merge.specs.declared.Merged.{Merged}
use Rattle.compose_merge.specs.Inner.Merged.{Mergeable, Done, Goes}
use Rattle.compose_merge.proofs.CallLaws.{readable-range, readable-few, ready_merge, ready-can, ready-kept, refused-composes, done-composes}
use Rattle.compose_lines.proofs.PartLaws.{composed-parts}
use Rattle.compose_print.specs.Inner.Written.{Printable, PrintsWhole}
use Rattle.compose.specs.Inner.Steps.{Answers, TestsSafety, all_safe, Measures, Writes, LaidRight, LaidSome, ComposesLaid}
use Rattle.compose.proofs.ChainLaws.{refuses, refuses_on, answers-same}

module _ (Holds : Sections → List Sections → Type 0) where
  -- the whole text is printed
  whole_text : (o o' : Bytes) (r : ℕ) → PrintsWhole Holds o o' r → (m : Sections) (ws : List Sections) → Holds m ws → Prints o 0 (printed (composed m ws)) o' r
  whole_text o o' r p m ws k = subst (λ (x : Bytes). Prints o 0 x o' r) (sym (composed-parts m ws)) (p.each m ws k)

  empty : (l : Bytes) → length l ≡ 0 → l ≡ []
  empty [] e = refl
  empty (x ∷ xs) e = absurd (omega arith)

  pub measured : (out l : Bytes) (r : ℕ) → length l ≡ 0 → PrintsWhole Holds (take 0 out) l r → Measures Holds out (l ++ drop 0 out) r
  measured out l r e p =
      record {
        same = ap (λ (x : Bytes). x ++ out) (empty l e);
        size = λ m ws k. (whole_text (take 0 out) l r p m ws k).next ∙ ap capped (zero-add (length (printed (composed m ws))));
      }

  module _ (out out₁ : Bytes) (size : ℕ) (h : Measures Holds out out₁ size) where
    pub too_long : length out₁ < size → Writes Holds out out₁ (Err refusal.ResultRoom)
    too_long l =
        record {
          each = λ m ws k.
              subst (λ (x : Bytes). Answers out (printed_within (length out) (composed m ws)) x (Err refusal.ResultRoom)) (sym h.same)
              (refuses out (printed_within (length out) (composed m ws)) refusal.ResultRoom (rw (lt-leb (length (printed (composed m ws))) (length out) (omega (arith, h.size m ws k, ap length h.same, l))) refl));
        }

    pub written : length out < 9223372036854775808 → size ≤ length out₁ → (out' : Bytes) (r : ℕ) → PrintsWhole Holds out₁ out' r → Writes Holds out out' (Ok r)
    written small l out' r p =
        record {
          each = λ m ws k.
              let x = whole_text out₁ out' r p m ws k in
              let text : Bytes = printed (composed m ws) in
              let fits : length text ≤ length out = omega (arith, h.size m ws k, ap length h.same, l, small) in
              let stands : out' ≡ put out₁ 0 text = x.stands (omega (arith, fits, ap length h.same)) in
              let next : r ≡ length text = omega (arith, x.next, fits, small) in
              answered m ws out' r fits (stands ∙ (ap (λ (o : Bytes). put o 0 text) h.same ∙ put_front out text)) next;
        }
      where
        answered : (m : Sections) (ws : List Sections) (out' : Bytes) (r : ℕ) → length (printed (composed m ws)) ≤ length out → out' ≡ front out (printed (composed m ws)) → r ≡ length (printed (composed m ws))
            → Answers out (printed_within (length out) (composed m ws)) out' (Ok r)
        answered m ws out' r f s n =
            answers-same out (printed_within (length out) (composed m ws)) (got (printed (composed m ws))) out' (Ok r)
            (rw (le-leb (length (printed (composed m ws))) (length out) f) refl) (record { returns = ap got n; result = s })

-- ---- merging and 19

module _ (mc : AagCounts) (t : Totals) (buffer : Bytes) (pairs work : List ℕ) (at : Layout) where
  pub laid_can : LaidSome mc t buffer pairs work at → OfSome (Mergeable mc t at work)
  laid_can k = ready-can mc t buffer pairs work work k.m k.ws at k.holds.fitting k.holds.ready

  module _ (work' : List ℕ) (same : length work' ≡ length work) where
    -- 16 to 20 of sections that compose to an answer
    answer_of_lem : (room : ℕ) (m : Sections) (ws : List Sections) (a : Answer Sections) → compose m ws ≡ a → compose_sections room m ws ≡ and_then a (printed_within room)
    answer_of_lem room m ws a e = ap (λ (z : Answer Sections). and_then z (printed_within room)) e

    pub laid_refused : (k : Refusal) → Goes (Mergeable mc t at work) at work work' (Err k) → (out : Bytes) (r : Result ℕ Refusal) → IsErrAnd r (λ j. j ≡ k)
        → ComposesLaid mc t buffer pairs work at out out r
    laid_refused k g out r h =
        record {
          each = λ m ws l.
              refuses_on out (compose_sections (length out) m ws) k
              (answer_of_lem (length out) m ws (refused (refusal_number k))
              (refused-composes m ws l.right (refusal_number k) (g.goes m ws (ready_merge mc t buffer pairs work work m ws at l.fitting l.ready)))) r h;
        }

    module _ (c : Merged) (g : Goes (Mergeable mc t at work) at work work' (Ok c)) where
      done : (m : Sections) (ws : List Sections) → LaidRight mc t buffer pairs work at m ws → Done m ws at work work' c
      done m ws l = g.goes m ws (ready_merge mc t buffer pairs work work m ws at l.fitting l.ready)

      left : (room : ℕ) (m : Sections) (ws : List Sections) → LaidRight mc t buffer pairs work at m ws
          → compose_sections room m ws ≡ and_then (unless 19 (all_safe ws) (got (composed m ws))) (printed_within room)
      left room m ws l = answer_of_lem room m ws (unless 19 (all_safe ws) (got (composed m ws))) (done-composes m ws l.right at work work' c (done m ws l))

      printable : (m : Sections) (ws : List Sections) → LaidRight mc t buffer pairs work at m ws → Printable buffer pairs work' at c t m ws
      printable m ws l =
          let d = done m ws l in
          let f = l.fitting in
          let y = ready-kept buffer pairs m ws at work work' d.kept same l.ready in
          let few = readable-few buffer pairs ws f.readable in
          record {
            readable = f.readable;
            regions = y.regions;
            listed = y.listed;
            result = d.result;
            inputs = f.totals.inputs;
            gates = f.totals.gates;
            few = omega (arith, few, leaf_count-most m ws, composed-gates-most m ws (readable-range buffer pairs ws f.readable));
            few_bits = omega (arith, few, y.regions.bits);
            fits = y.fits;
          }

      pub laid_printable : LaidSome mc t buffer pairs work at → OfSome (Printable buffer pairs work' at c t)
      laid_printable k = record { m = k.m; ws = k.ws; holds = printable k.m k.ws k.holds }

      module _ (b : Bool) (s : TestsSafety buffer pairs b) where
        pub laid_unsafe : not b ≡ true → (out : Bytes) → ComposesLaid mc t buffer pairs work at out out (Err refusal.NoSafety)
        laid_unsafe f out =
            record {
              each = λ m ws l.
                  refuses out (compose_sections (length out) m ws) refusal.NoSafety (left (length out) m ws l ∙ rw (sym (s ws l.fitting.readable) ∙ not-true b f) refl);
            }

        pub laid_written : not b ≡ false → (out out' : Bytes) (r : Result ℕ Refusal) → Writes (Printable buffer pairs work' at c t) out out' r → ComposesLaid mc t buffer pairs work at out out' r
        laid_written f out out' r h =
            record {
              each = λ m ws l.
                  answers-same out (compose_sections (length out) m ws) (printed_within (length out) (composed m ws)) out' r
                  (left (length out) m ws l ∙ rw (sym (s ws l.fitting.readable) ∙ not-false b f) refl) (h.each m ws (printable m ws l));
            }
