-- The limits of a model (R5.3 to R5.5).
use Rattle.std.specs.Prelude.{◌+◌, Bool, [], ◌∷◌, leb, eqb}
use Rattle.lists.specs.Tests.{all, every}
use Rattle.aiger.specs.Defined.{literal, defined}
use Rattle.model.specs.declared.Counts.{Counts}
use Rattle.model.specs.Circuit.{Circuit, leaves_of, nexts_of}

-- R5.3: the counts of a lock are within their limits
unfoldable pub counted : Counts → Bool
counted n =
    every
    (leb n.inputs 64
    ∷ leb 1 n.latches
    ∷ leb n.latches 8
    ∷ leb n.outputs 128
    ∷ eqb n.max_variable (n.inputs + n.latches + n.ands)
    ∷ leb 1 n.max_variable
    ∷ leb n.max_variable 1000000
    ∷ [])

-- R5.4, R5.5: each variable is defined once, gate operands are smaller than the gate, and next and output literals are at most 2M + 1
unfoldable pub well_defined : Circuit → Bool
well_defined c =
    every
    (defined c.variables (leaves_of c) c.gates
    ∷ all (literal c.variables) (nexts_of c)
    ∷ all (literal c.variables) c.outputs
    ∷ [])
