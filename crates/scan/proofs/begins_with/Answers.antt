use mathlib.Core.Path.{◌∙◌}
use Rattle.scan.proofs.SameLaws.{begins-starts}
use Rattle.scan.proofs.begins_with.Goals as goal

pub returns : goal.returns
returns c = c.starts_with.ensures.value ∙ begins-starts c.args.s.now c.args.word.now
