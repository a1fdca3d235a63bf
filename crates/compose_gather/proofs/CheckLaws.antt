-- Laws of `check_all`: what is counted of the witnesses that are read.
use Rattle.std.specs.Prelude.{ℕ, ◌+◌, ◌*◌, ◌/◌, ◌≤◌, ◌<◌, Option, Result, Ok, Err}
use Rattle.std.specs.Result.{IsErrAnd}
use mathlib.Core.Bool.{true}
use mathlib.Core.List.{List, [], ◌∷◌}
use mathlib.Core.Logic.{◌⊎◌, inl, inr}
use mathlib.Core.Path.{◌≡◌, refl, sym, ap, ◌∙◌, subst}
use native.Mathlib.Omega.{arith}
use lib.ListN.{length, get_or, drop}
use Rattle.lists.specs.Answer.{Answer, got, refused, and_then}
use Rattle.lists.specs.Parts.{Bytes, put}
use Rattle.lists.proofs.AnswerLaws.{got_same, got-refused}
use Rattle.lists.proofs.PartLaws.{put-length}
use Rattle.lists.proofs.BoolLaws.{below_or}
use Rattle.text.specs.Texts.{limited}
use Rattle.aiger.specs.declared.Refusal.{Refusal}
use Rattle.aiger.specs.Refusals.{refusal_number}
use Rattle.aiger.proofs.AnsweredLaws.{answered-err}
use Rattle.witness_text.specs.declared.AagCounts.{AagCounts}
use Rattle.witness_text.proofs.CountLaws.{Counted, counted_facts}
use Rattle.witness_read.specs.Sections.{Sections}
use Rattle.witness_read.specs.Reading.{read_aag, counts_in, counts_read}
use Rattle.witness_read.proofs.AcceptedLaws.{read_accepted, read_got, read_refused}
use Rattle.compose_spec.specs.Calling.{read_all, texts_in}
use Rattle.compose_gather.specs.declared.Totals.{Totals}
use Rattle.compose_gather.specs.Inner.Checking.{added_counts, SmallSums, checked_from, none_yet, FewInOrder}
use Rattle.compose_gather.specs.Inner.Counts.{CountsOf, count_words, counts_at, CanCheck, checked_one, ChecksOne, CountsBefore, ChecksAll}
use Rattle.compose_gather.proofs.TextLaws.{texts_left, texts_end}
use Rattle.compose_gather.proofs.CountLaws.{counts_new, counts_old}

-- the counts of an accepted text
pub read_counted : (t : Bytes) (s : Sections) → read_aag limited true t ≡ got s → Counted (counts_in s)
read_counted t s e = counted_facts (counts_in s) (read_accepted limited true t s e).limits

-- ---- one text

module _ (x : Bytes) (w : ℕ) (t : Totals) (counts : List ℕ) where
  pub one_refused : (m : Refusal) → refused (refusal_number m) ≡ counts_read (read_aag limited true x) → (r : Result Totals Refusal) → IsErrAnd r (λ k. k ≡ m)
      → ChecksOne x w t counts counts r
  one_refused m e r h =
      let none : read_aag limited true x ≡ refused (refusal_number m) = read_refused (read_aag limited true x) (refusal_number m) e in
      record { is = answered-err m r h ∙ rw none refl; lists = λ s g. got-refused g none }

  module _ (n : AagCounts) (e : got n ≡ counts_read (read_aag limited true x)) where
    accepted : (s : Sections) × (read_aag limited true x ≡ got s) × (n ≡ counts_in s)
    accepted = read_got (read_aag limited true x) n e

    one_counted : Counted n
    one_counted = rw accepted.2 (read_counted x accepted.0 accepted.1)

    pub one_fits : CanCheck counts w t → SmallSums t n
    one_fits c =
        record {
          inputs = omega (arith, c.inputs, one_counted.sum, one_counted.most);
          latches = omega (arith, c.latches, one_counted.sum, one_counted.most);
          gates = omega (arith, c.gates, one_counted.sum, one_counted.most);
        }

    pub one_read : (counts' : List ℕ) → counts' ≡ put counts (9 * w) (count_words n) → (t' : Totals) → t' ≡ added_counts t n → ChecksOne x w t counts counts' (Ok t')
    one_read counts' g t' h =
        record {
          is = ap (λ (u : Totals). got u) (h ∙ ap (added_counts t) accepted.2) ∙ sym (ap (checked_one t) accepted.1);
          lists = λ s q. g ∙ ap (λ (m : AagCounts). put counts (9 * w) (count_words m)) (accepted.2 ∙ ap counts_in (got_same accepted.0 s (sym accepted.1 ∙ q)));
        }

-- ---- all texts

-- the witnesses before number w are counted, and their counts listed
pub record Checking (buffer : Bytes) (pairs : List ℕ) (room : Option ℕ) (counts : List ℕ) (t : Totals) (w : ℕ) : Type 0 where
  pub is : checked_from t (read_all (drop w (texts_in buffer pairs))) ≡ checked_from (none_yet room) (read_all (texts_in buffer pairs))
  pub inputs : t.inputs ≤ 2000000 * w
  pub latches : t.latches ≤ 2000000 * w
  pub gates : t.gates ≤ 2000000 * w
  pub fits : 9 * (length pairs / 2) ≤ length counts
  pub listed : CountsBefore buffer pairs counts w

pub checking-none : (buffer : Bytes) (pairs : List ℕ) (room : Option ℕ) (counts : List ℕ) → 9 * (length pairs / 2) ≤ length counts → Checking buffer pairs room counts (none_yet room) 0
checking-none buffer pairs room counts h =
    record { is = refl; inputs = omega arith; latches = omega arith; gates = omega arith; fits = h; listed = record { each = λ v g. absurd (omega arith) } }

-- a first text and those after it
first-checked : (t : Totals) (x : Answer Sections) (ts : List Bytes) → (n : ℕ) → checked_one t x ≡ refused n → checked_from t (and_then x (λ s. and_then (read_all ts) (λ ss. got (s ∷ ss)))) ≡ refused n
first-checked t (got s) ts n e = got-refused refl e
first-checked t (refused k) ts n e = e

then_checked : (t : Totals) (s : Sections) (r : Answer (List Sections)) → checked_from t (and_then r (λ ss. got (s ∷ ss))) ≡ checked_from (added_counts t (counts_in s)) r
then_checked t s (got ss) = refl
then_checked t s (refused k) = refl

-- a text that is read has sections
read_sections : (t u : Totals) (x : Answer Sections) → checked_one t x ≡ got u → (s : Sections) × (x ≡ got s) × (u ≡ added_counts t (counts_in s))
read_sections t u (got s) e = (s, refl, sym (got_same (added_counts t (counts_in s)) u e))
read_sections t u (refused k) e = got-refused e refl

module _ (buffer : Bytes) (pairs : List ℕ) (room : Option ℕ) (counts : List ℕ) (t : Totals) (w count : ℕ) (k : Checking buffer pairs room counts t w) (all : count ≡ length pairs / 2) where
  pub checking-end : count ≤ w → ChecksAll room buffer pairs counts (Ok t)
  checking-end h =
      record {
        is = sym (ap (λ ts. checked_from t (read_all ts)) (texts_end buffer pairs w (omega arith))) ∙ k.is;
        lists = λ u e. record { room = k.fits; before = record { each = λ v f. k.listed.each v (omega arith) } };
      }

  module _ (less : w < count) where
    pub checking-can : FewInOrder buffer pairs → CanCheck counts w t
    checking-can o =
        record {
          room = omega (arith, k.fits);
          inputs = omega (arith, o.few, k.inputs);
          latches = omega (arith, o.few, k.latches);
          gates = omega (arith, o.few, k.gates);
        }

    module _ (x : Bytes) (same : x ≡ get_or (texts_in buffer pairs) w []) (counts' : List ℕ) where
      split : checked_from t (read_all (x ∷ drop (w + 1) (texts_in buffer pairs))) ≡ checked_from (none_yet room) (read_all (texts_in buffer pairs))
      split = ap (λ y. checked_from t (read_all (y ∷ drop (w + 1) (texts_in buffer pairs)))) same ∙ (sym (ap (λ ts. checked_from t (read_all ts)) (texts_left buffer pairs w (omega arith))) ∙ k.is)

      pub checking-refused : (m : Refusal) → ChecksOne x w t counts counts' (Err m) → (r : Result Totals Refusal) → IsErrAnd r (λ k. k ≡ m) → ChecksAll room buffer pairs counts' r
      checking-refused m o r h =
          record {
            is = answered-err m r h ∙ (sym (first-checked t (read_aag limited true x) (drop (w + 1) (texts_in buffer pairs)) (refusal_number m) (sym o.is)) ∙ split);
            lists = λ u g. absurd (subst (λ (q : Result Totals Refusal). IsErrAnd q (λ k. k ≡ m)) g h);
          }

      module _ (t' : Totals) (o : ChecksOne x w t counts counts' (Ok t')) where
        here : (s : Sections) × (read_aag limited true x ≡ got s) × (t' ≡ added_counts t (counts_in s))
        here = read_sections t t' (read_aag limited true x) (sym o.is)

        totals : t' ≡ added_counts t (counts_in here.0)
        totals = here.2

        counts-here : Counted (counts_in here.0)
        counts-here = read_counted x here.0 here.1

        new : counts' ≡ put counts (9 * w) (count_words (counts_in here.0))
        new = o.lists here.0 here.1

        within : 9 * w + 8 < length counts
        within = omega (arith, k.fits)

        listed : CountsBefore buffer pairs (put counts (9 * w) (count_words (counts_in here.0))) (w + 1)
        listed = record { each = λ v l. go v l (below_or v w) }
          where
            go : (v : ℕ) → v < w + 1 → (v < w) ⊎ (w ≤ v) → CountsOf (get_or (texts_in buffer pairs) v []) (counts_at (put counts (9 * w) (count_words (counts_in here.0))) v)
            go v m (inl l) = λ s q. counts_old counts w within (counts_in here.0) v l ∙ k.listed.each v l s q
            go v m (inr l) =
                let e : v ≡ w = omega arith in
                rw e (λ s q. counts_new counts w within (counts_in here.0) ∙ ap counts_in (got_same here.0 s (sym here.1 ∙ (ap (read_aag limited true) same ∙ q))))

        pub checking-more : Checking buffer pairs room counts' t' (w + 1)
        checking-more =
            subst (λ (u : Totals). Checking buffer pairs room counts' u (w + 1)) (sym totals)
            (subst (λ (c : List ℕ). Checking buffer pairs room c (added_counts t (counts_in here.0)) (w + 1)) (sym new)
            (record {
              is = sym (ap (λ (a : Answer Sections). checked_from t (and_then a (λ s. and_then (read_all (drop (w + 1) (texts_in buffer pairs))) (λ ss. got (s ∷ ss))))) here.1
                  ∙ then_checked t here.0 (read_all (drop (w + 1) (texts_in buffer pairs)))) ∙ split;
              inputs = omega (arith, k.inputs, counts-here.sum, counts-here.most);
              latches = omega (arith, k.latches, counts-here.sum, counts-here.most);
              gates = omega (arith, k.gates, counts-here.sum, counts-here.most);
              fits = omega (arith, k.fits, put-length counts (9 * w) (count_words (counts_in here.0)) (omega (arith, within)));
              listed = listed;
            }))
