use mathlib.Core.Path.{ap, ◌∙◌}
use Rattle.probe.specs.Inner.Flat.{flat_written}
use Rattle.probe.proofs.probe_write_decimal.Goals as goal

pub returns : goal.returns
returns c = (c.from.ensures ∙ ap flat_written c.write_decimal.ensures.0, c.write_decimal.ensures.1)
