use Rattle.model_read.proofs.StartLaws.{head_without_inputs, head_without_latches, head_without_outputs, head-taken}
use Rattle.model_read.proofs.take_head.Goals as goal

pub returns-in_err-left : goal.returns-in_err-left
returns-in_err-left c = rw c.from_residual.ensures (search (head_without_inputs, c.in_err-left.ensures))

pub returns-in_err-left-2 : goal.returns-in_err-left-2
returns-in_err-left-2 c = rw c.from_residual-in_err-left-2.ensures (head_without_latches c.args.s.now c.args.counts c.requires _ _ c.in_ok-left.ensures c.in_err-left-2.ensures)

pub returns-in_err-rest : goal.returns-in_err-rest
returns-in_err-rest c =
    rw c.from_residual-in_err-rest.ensures
    (head_without_outputs c.args.s.now c.args.counts c.requires _ _ c.in_ok-left.ensures _ _ c.in_ok-left-2.ensures c.in_err-rest.ensures)

pub returns : goal.returns
returns c = head-taken c.args.s.now c.args.counts c.requires _ _ c.in_ok-left.ensures _ _ c.in_ok-left-2.ensures _ _ c.in_ok-rest.ensures
