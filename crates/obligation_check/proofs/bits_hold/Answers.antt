use mathlib.Core.Path.{◌∙◌}
use native.Mathlib.Omega.{arith}
use Rattle.lists.proofs.BitLaws.{high_fits}
use Rattle.obligation_check.proofs.bits_hold.Goals as goal

pub returns-then-n-ge64 : goal.returns-then-n-ge64
returns-then-n-ge64 c = c.fits.ensures ∙ high_fits c.args.high c.args.low c.args.n (omega arith) (omega arith)
