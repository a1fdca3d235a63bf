use borrow.Author.Rules.{rules}
use Rattle.std.proofs.lemmas.Result.{err_from_is_err_and}
use Rattle.model_read.proofs.ReadLaws.{model_no_head, model-room, model-refused, model-accepted}
use Rattle.model_read.proofs.read_model.Goals as goal

pub returns-in_default : goal.returns-in_default
returns-in_default c = search model_no_head

pub check_model-checked-requires : goal.check_model-checked-requires
check_model-checked-requires c = (search model-room, search rules)

pub returns-in_err-checked : goal.returns-in_err-checked
returns-in_err-checked c =
    let p = err_from_is_err_and c.from_residual.result c.from_residual.ensures.1 in
    rw (p.1, p.2) (model-refused c.args.s.now _ _ _ c.requires _ c.take_head.ensures _ c.in-Some.is _ c.check_model-checked.ensures _ c.in_err-checked.was _ (search rules))

pub returns : goal.returns
returns c = model-accepted c.args.s.now _ _ _ c.requires _ c.take_head.ensures _ c.in-Some.is _ c.check_model-checked.ensures _ c.in_ok-checked.was _ (search rules) _ c.write_gates.ensures
