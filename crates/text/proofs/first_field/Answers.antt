use Rattle.text.proofs.FieldLaws.{first_some, first-none}
use Rattle.text.proofs.first_field.Goals as goal

pub returns-in_default : goal.returns-in_default
returns-in_default c = first-none c.args.l.now c.in_default.ensures

pub returns : goal.returns
returns c = first_some _ _ _ c.in-Some.ensures
