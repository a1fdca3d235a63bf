-- What the loader of witness texts answers, as a number: 0, or the number of the reason (R9).
use Rattle.std.specs.Prelude.{ℕ, List, ◌≡◌, length}
use Rattle.lists.specs.Answer.{Answer, got, refused}
use Rattle.lists.specs.Parts.{Bytes}
use Rattle.witness_text.specs.declared.AagCounts.{AagCounts}
use Rattle.witness_read.specs.Sections.{Sections}
use Rattle.witness_load.specs.Inner.Loaded.{with_room, WordsAfter}
use Rattle.probe.specs.Inner.Flat.{reason_of}

abbrev pub reason_read : Answer AagCounts → ℕ
reason_read (got n) = 0
reason_read (refused k) = k

-- what loading promises, of the number alone
pub record LoadsFlat (t : Bytes) (answer : Answer Sections) (o₀ o : List ℕ) (r : ℕ) : Type 0 where
  pub returns : r ≡ reason_of (with_room (length o₀) answer)
  pub words : WordsAfter t (with_room (length o₀) answer) o₀ o
