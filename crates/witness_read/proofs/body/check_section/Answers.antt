use Rattle.std.proofs.Common.{Bool, ◌&&◌, ap, refl}
use Rattle.witness_read.proofs.CheckingLaws.{checking-none, checking_bad, from_more}
use Rattle.witness_read.proofs.body.check_section.Goals as goal

pub loop-i-init : goal.loop-i-init
loop-i-init g c = checking-none _ _ _ _ refl

pub returns-in_err-taken : goal.returns-in_err-taken
returns-in_err-taken g c =
    rw c.from_residual.ensures (checking_bad _ _ _ _ _ _ _ c.loop-i.invariant c.loop-i-test.true c.in_err-taken.ensures)

pub loop-i-preserved : goal.loop-i-preserved
loop-i-preserved g c =
    from_more _ _ _ _ _ _ _ _ c.loop-i.invariant c.loop-i-test.true _ _ c.in_ok-taken.ensures _ refl _
    (ap (λ (b : Bool). c.loop-i.fine && b) c.passes-fine.ensures)
