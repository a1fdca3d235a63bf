use mathlib.Core.Path.{refl}
use Rattle.text.proofs.FieldLaws.{after-spaces}
use Rattle.text.proofs.from_field.Goals as goal

pub returns : goal.returns
returns c = after-spaces c.args.l.now _ _ _ c.passing.ensures.value refl c.passing-2.ensures.value
