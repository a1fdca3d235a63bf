-- The words that the sections of a text are loaded into: names by their places in the text, then literals.
use Rattle.std.specs.Prelude.{ℕ, ◌+◌, ◌*◌, cond, List, [], ◌∷◌, ◌++◌, map, ◌≡◌, eqb, leb, length, Result}
use Rattle.std.proofs.Math.Option.{Option, some, none}
use Rattle.lists.specs.Answer.{Answer, got, refused, unless, and_then}
use Rattle.lists.specs.Parts.{Bytes, part, front}
use Rattle.lists.specs.Words.{pairs_of, words_of}
use Rattle.aiger.specs.declared.Gate.{Gate}
use Rattle.aiger.specs.declared.Refusal.{Refusal}
use Rattle.aiger.specs.Refusals.{answered}
use Rattle.witness_text.specs.declared.AagCounts.{AagCounts}
use Rattle.witness_read.specs.Sections.{NamedLatch, Sections, leaves, names_in}
use Rattle.witness_read.specs.Reading.{counts_read}

-- The name that two words say: where it begins in the text and how long it is; two zeros say that there is none, since the header stands at place 0.
-- Any other words, which are no place of the text, say nothing (`none`).
abbrev pub name_from : Bytes → ℕ → ℕ → Option (Option Bytes)
name_from t offset n =
    cond (eqb offset 0)
    (cond (eqb n 0) (some none) none)
    (cond (leb (offset + n) (length t)) (some (some (part t offset (offset + n)))) none)

abbrev pub latch_words : NamedLatch → List ℕ
latch_words q = q.next ∷ q.reset ∷ []

abbrev pub operand_words : Gate → List ℕ
operand_words g = g.left ∷ g.right ∷ []

-- next and reset of each latch, outputs, bads, constraints, and the two operands of each gate
abbrev pub literal_words : Sections → List ℕ
literal_words x = words_of latch_words x.latches ++ (x.outputs ++ (x.bads ++ (x.constraints ++ words_of operand_words x.gates)))

-- how many words there are in all: 2I + 4L + O + B + C + 2A
abbrev pub word_count : Sections → ℕ
word_count x = 2 * leaves x + length (literal_words x)

-- the words o after the sections x of the text t were loaded into the front of o₀
pub record Loaded (t : Bytes) (x : Sections) (o₀ o : List ℕ) : Type 0 where
  pub name_words : List ℕ
  pub count : length name_words ≡ 2 * leaves x
  pub names : pairs_of (name_from t) name_words ≡ map some (names_in x)
  pub stand : o ≡ front o₀ (name_words ++ literal_words x)

-- the sections, refused with 20 where they need more words than were lent
abbrev pub with_room : ℕ → Answer Sections → Answer Sections
with_room size answer = and_then answer (λ x. unless 20 (leb (word_count x) size) (got x))

-- the words after a call: loaded, or as they were where it refuses
abbrev pub WordsAfter : Bytes → Answer Sections → List ℕ → List ℕ → Type 0
WordsAfter t (got x) o₀ o = Loaded t x o₀ o
WordsAfter t (refused k) o₀ o = o ≡ o₀

-- The promise of a call that loads a text: what it returns, and the words after it.
pub record Loads (t : Bytes) (answer : Answer Sections) (o₀ o : List ℕ) (r : Result AagCounts Refusal) : Type 0 where
  pub returns : answered r ≡ counts_read (with_room (length o₀) answer)
  pub words : WordsAfter t (with_room (length o₀) answer) o₀ o
