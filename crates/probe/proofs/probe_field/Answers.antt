use mathlib.Core.Path.{◌∙◌}
use Rattle.probe.proofs.PartLaws.{no_field_left, field-found}
use Rattle.probe.proofs.probe_field.Goals as goal

pub returns-in_default : goal.returns-in_default
returns-in_default c = c.no_part-in_default.ensures ∙ no_field_left c.args.line.now c.args.at c.in_default.ensures

pub returns : goal.returns
returns c = field-found c.args.line.now c.args.at c.in-Some.field.value.now c.in-Some.field.rest.now c.in-Some.ensures
