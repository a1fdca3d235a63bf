-- When each variable of a circuit is defined once (R5.4, R5.5). `most` is M, the largest variable; `leaves` are the literals of inputs and
-- latches.
use Rattle.std.specs.Prelude.{ℕ, ◌+◌, ◌*◌, Bool, not, List, [], ◌∷◌, ◌++◌, map, ltb, leb}
use Rattle.lists.specs.Bits.{odd}
use Rattle.lists.specs.Tests.{all, every}
use Rattle.lists.specs.Sets.{distinct}
use Rattle.aiger.specs.declared.Gate.{Gate}
use Rattle.aiger.specs.Gates.{variable, output_of}

-- R5.5: a literal of variable M or a smaller one
unfoldable pub literal : ℕ → ℕ → Bool
literal most l = leb l (2 * most + 1)

-- R5.4: a literal that may define its variable: even, not 0, and at most 2M + 1
unfoldable pub defining : ℕ → ℕ → Bool
defining most l = every (ltb 0 l ∷ not (odd l) ∷ literal most l ∷ [])

-- R4.6, R5.5: both operands are of smaller variables than the gate's. (So they are at most 2M + 1 where the gate's own literal is.)
unfoldable pub ordered : Gate → Bool
ordered g = every (ltb (variable g.left) (variable g.output) ∷ ltb (variable g.right) (variable g.output) ∷ [])

-- R5.4: the literals that define variables, in the order of the file
abbrev pub definitions : List ℕ → List Gate → List ℕ
definitions leaves gates = leaves ++ map output_of gates

-- R5.4, R5.5: every definition is by a literal that may define, no variable has two, and operands are smaller; numbering is free.
-- (That none of 1 to M is left out follows where M is the number of definitions.)
unfoldable pub defined : ℕ → List ℕ → List Gate → Bool
defined most leaves gates =
    every
    (all (defining most) (definitions leaves gates)
    ∷ distinct (map variable (definitions leaves gates))
    ∷ all ordered gates
    ∷ [])
