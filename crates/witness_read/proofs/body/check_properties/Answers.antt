use Rattle.std.proofs.Common.{refl}
use Rattle.witness_text.proofs.CountLaws.{counts-most}
use Rattle.witness_read.proofs.BodyLaws.{properties-done}
use Rattle.witness_read.proofs.body.check_properties.Goals as goal

pub check_section-requires-clause-may : goal.check_section-requires-clause-may
check_section-requires-clause-may c = λ i h. record { largest = counts-most _ c.requires _ refl }

pub check_section-requires-2-clause-may : goal.check_section-requires-2-clause-may
check_section-requires-2-clause-may c = λ i h. record { largest = counts-most _ c.requires _ refl }

pub check_section-requires-3-clause-may : goal.check_section-requires-3-clause-may
check_section-requires-3-clause-may c = λ i h. record { largest = counts-most _ c.requires _ refl }

pub returns : goal.returns
returns c = search (properties-done, c.in_ok-outputs.ensures, c.in_ok-bads.ensures, c.in_ok-constraints.ensures)
