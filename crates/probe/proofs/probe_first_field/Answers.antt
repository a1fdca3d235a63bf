use mathlib.Core.Path.{ap, ◌∙◌}
use Rattle.probe.specs.Inner.Flat.{flat_written}
use Rattle.probe.proofs.probe_first_field.Goals as goal

pub returns : goal.returns
returns c = (c.from.ensures ∙ ap flat_written c.write_bytes.ensures.0 ∙ simp c.first_field.ensures, c.write_bytes.ensures.1 ∙ simp c.first_field.ensures)
