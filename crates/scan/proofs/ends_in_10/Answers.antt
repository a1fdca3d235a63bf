use mathlib.Core.Path.{◌∙◌}
use Rattle.scan.proofs.AllowedLaws.{ends-std}
use Rattle.scan.proofs.ends_in_10.Goals as goal

pub returns : goal.returns
returns c = c.ends_with.ensures.value ∙ ends-std c.args.s.now
