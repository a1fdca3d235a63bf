use Rattle.std.proofs.Common.{rules}
use Rattle.compose_gather.proofs.CheckLaws.{checking-none, checking-can, checking-refused, checking-more, checking-end}
use Rattle.compose_gather.proofs.check_all.Goals as goal

pub loop-w-init : goal.loop-w-init
loop-w-init c = (search checking-none, search rules)

pub check_one-requires : goal.check_one-requires
check_one-requires c = search checking-can

pub returns-in_err-totals : goal.returns-in_err-totals
returns-in_err-totals c = checking-refused _ _ _ _ _ _ _ c.loop-w.invariant.0 c.len-w-end.ensures c.loop-w-test.true _ c.text.ensures _ _ c.in_err-totals.ensures _ c.from_residual.ensures.1

pub loop-w-preserved : goal.loop-w-preserved
loop-w-preserved c = (search (checking-more, c.in_ok-totals.ensures), search rules)

pub returns : goal.returns
returns c = search checking-end
