-- The number of a loaded text's answer.
use Prim.Native.Nat.{ℕ}
use mathlib.Core.List.{List}
use mathlib.Core.Path.{◌≡◌, refl, ap, ◌∙◌}
use lib.ListN.{length}
use Rattle.lists.specs.Answer.{Answer, got, refused}
use Rattle.lists.specs.Parts.{Bytes}
use Rattle.std.specs.Prelude.{Result}
use Rattle.aiger.specs.declared.Refusal.{Refusal}
use Rattle.aiger.specs.Refusals.{answered}
use Rattle.witness_text.specs.declared.AagCounts.{AagCounts}
use Rattle.witness_read.specs.Sections.{Sections}
use Rattle.witness_read.specs.Reading.{counts_read}
use Rattle.witness_load.specs.Inner.Loaded.{with_room, Loads}
use Rattle.probe.specs.Inner.Flat.{reason_of}
use Rattle.probe.specs.Inner.FlatLoads.{reason_read, LoadsFlat}

reason_same : (a : Answer Sections) → reason_read (counts_read a) ≡ reason_of a
reason_same (got x) = refl
reason_same (refused k) = refl

pub loads_flat : (t : Bytes) (a : Answer Sections) (o₀ o : List ℕ) (r : Result AagCounts Refusal) → Loads t a o₀ o r → (k : ℕ) → k ≡ reason_read (answered r) → LoadsFlat t a o₀ o k
loads_flat t a o₀ o r l k e = record { returns = e ∙ ap reason_read l.returns ∙ reason_same (with_room (length o₀) a); words = l.words }
