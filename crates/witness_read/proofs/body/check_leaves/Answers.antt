use Rattle.std.proofs.Common.{arith, refl}
use Rattle.witness_text.proofs.CountLaws.{counts-inputs, counts-leaves, counts-most}
use Rattle.witness_read.proofs.BodyLaws.{leaves-done}
use Rattle.witness_read.proofs.body.check_leaves.Goals as goal

pub check_section-requires-clause-fits : goal.check_section-requires-clause-fits
check_section-requires-clause-fits c = omega (arith, counts-inputs _ c.requires)

pub check_section-requires-clause-may : goal.check_section-requires-clause-may
check_section-requires-clause-may c = λ i h. record { number = omega (arith, counts-inputs _ c.requires) }

pub overflow_add-counts : goal.overflow_add-counts
overflow_add-counts c = omega (arith, counts-inputs _ c.requires)

pub check_section-requires-2-clause-fits : goal.check_section-requires-2-clause-fits
check_section-requires-2-clause-fits c = omega (arith, counts-leaves _ c.requires)

pub check_section-requires-2-clause-may : goal.check_section-requires-2-clause-may
check_section-requires-2-clause-may c = λ i h. record { largest = counts-most _ c.requires _ refl; number = omega (arith, counts-leaves _ c.requires) }

pub returns : goal.returns
returns c = search (leaves-done, c.in_ok-inputs.ensures, c.in_ok-latches.ensures)
