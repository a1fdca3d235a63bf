-- For the contracts of the composer's inner functions: a list of the counts of all witnesses.
use Rattle.std.specs.Prelude.{ℕ, ◌+◌, ◌*◌, ◌/◌, ◌≤◌, ◌<◌, true, List, [], ◌∷◌, ◌≡◌, length, get_or, Option, Result, Ok}
use Rattle.lists.specs.Answer.{Answer, got, refused}
use Rattle.lists.specs.Parts.{Bytes, put}
use Rattle.text.specs.Texts.{limited}
use Rattle.aiger.specs.declared.Refusal.{Refusal}
use Rattle.aiger.specs.Refusals.{answered}
use Rattle.witness_text.specs.declared.AagCounts.{AagCounts}
use Rattle.witness_read.specs.Sections.{Sections}
use Rattle.witness_read.specs.Reading.{read_aag, counts_in}
use Rattle.compose_spec.specs.Calling.{read_all, texts_in}
use Rattle.compose_gather.specs.declared.Totals.{Totals}
use Rattle.compose_gather.specs.Inner.Checking.{added_counts, checked_from, none_yet}

-- the counts of a text that is accepted
abbrev pub CountsOf : Bytes → AagCounts → Type 0
CountsOf t n = (s : Sections) → read_aag limited true t ≡ got s → n ≡ counts_in s

-- the words of one witness: M, I, L, O, A, B, C, J, F
abbrev pub count_words : AagCounts → List ℕ
count_words n = n.max_variable ∷ n.inputs ∷ n.latches ∷ n.outputs ∷ n.gates ∷ n.bads ∷ n.constraints ∷ n.justice ∷ n.fairness ∷ []

-- the counts that the words of witness w say
abbrev pub counts_at : List ℕ → ℕ → AagCounts
counts_at counts w =
    record {
      max_variable = get_or counts (9 * w) 0;
      inputs = get_or counts (9 * w + 1) 0;
      latches = get_or counts (9 * w + 2) 0;
      outputs = get_or counts (9 * w + 3) 0;
      gates = get_or counts (9 * w + 4) 0;
      bads = get_or counts (9 * w + 5) 0;
      constraints = get_or counts (9 * w + 6) 0;
      justice = get_or counts (9 * w + 7) 0;
      fairness = get_or counts (9 * w + 8) 0;
    }

-- there is room for the counts of witness w, and the totals before it are small
pub record CanCheck (counts : List ℕ) (w : ℕ) (t : Totals) : Type 0 where
  pub room : 9 * w + 8 < length counts
  pub inputs : t.inputs ≤ 128000000
  pub latches : t.latches ≤ 128000000
  pub gates : t.gates ≤ 128000000

-- the totals with a text that is read, or the number of the reason
abbrev pub checked_one : Totals → Answer Sections → Answer Totals
checked_one t (got s) = got (added_counts t (counts_in s))
checked_one t (refused k) = refused k

-- so it is for a text, the one of witness w, whose counts are then listed
pub record ChecksOne (text : Bytes) (w : ℕ) (t : Totals) (counts counts' : List ℕ) (r : Result Totals Refusal) : Type 0 where
  pub is : answered r ≡ checked_one t (read_aag limited true text)
  pub lists : (s : Sections) → read_aag limited true text ≡ got s → counts' ≡ put counts (9 * w) (count_words (counts_in s))

-- the counts of the first so many witnesses stand in the list
pub record CountsBefore (buffer : Bytes) (pairs counts : List ℕ) (w : ℕ) : Type 0 where
  pub each : (v : ℕ) → v < w → CountsOf (get_or (texts_in buffer pairs) v []) (counts_at counts v)

-- those of all witnesses
pub record CountsListed (buffer : Bytes) (pairs counts : List ℕ) : Type 0 where
  pub room : 9 * (length pairs / 2) ≤ length counts
  pub before : CountsBefore buffer pairs counts (length pairs / 2)

-- the totals of all witnesses, whose counts are then listed, or the number of the first reason
pub record ChecksAll (room : Option ℕ) (buffer : Bytes) (pairs counts : List ℕ) (r : Result Totals Refusal) : Type 0 where
  pub is : answered r ≡ checked_from (none_yet room) (read_all (texts_in buffer pairs))
  pub lists : (t : Totals) → r ≡ Ok t → CountsListed buffer pairs counts
