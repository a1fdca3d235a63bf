-- What the inner functions of this crate promise of one line.
use Rattle.std.specs.Prelude.{ℕ, Bool, true, false, List, [], ◌∷◌}
use Rattle.lists.specs.Parts.{Bytes}
use Rattle.model_text.specs.ModelLines.{initializer}

-- the fields after a latch's two literals: none, or an initializer of the latch
abbrev pub initializers : ℕ → List Bytes → Bool
initializers current [] = true
initializers current (i ∷ []) = initializer current i
initializers current (i ∷ f ∷ fs) = false
