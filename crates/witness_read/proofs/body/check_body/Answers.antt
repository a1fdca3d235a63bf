use Rattle.std.proofs.Common.{arith}
use Rattle.witness_text.proofs.CountLaws.{counts_fit, counts-gates}
use Rattle.witness_read.proofs.BodyLaws.{body-done}
use Rattle.witness_read.proofs.body.check_body.Goals as goal

pub overflow_add-counts : goal.overflow_add-counts
overflow_add-counts c = search counts_fit

pub overflow_add-counts-2 : goal.overflow_add-counts-2
overflow_add-counts-2 c = omega (arith, counts-gates _ c.requires)

pub check_section-requires-clause-fits : goal.check_section-requires-clause-fits
check_section-requires-clause-fits c = omega (arith, counts-gates _ c.requires)

pub check_section-requires-clause-may : goal.check_section-requires-clause-may
check_section-requires-clause-may c = λ i h. record { number = omega (arith, counts-gates _ c.requires) }

pub returns : goal.returns
returns c = search (body-done, c.in_ok-leaves.ensures, c.in_ok-properties.ensures, c.in_ok-gates.ensures)
