use Rattle.model.specs.Inner.Lent.{lent_record}
use Rattle.model.specs.RecordWords.{record_in}
use Rattle.probe.proofs.FlatLaws.{validated, invalidated}
use Rattle.probe.proofs.models.probe_validate.Goals as goal

pub returns-in-Ok : goal.returns-in-Ok
returns-in-Ok c = (validated (lent_record c.from_words.result) (record_in c.args.model.now) c.from_words.ensures _ _ _ _ c.validate.ensures _ c.in-Ok.is, c.validate.ensures.clears)

pub returns-in-Err : goal.returns-in-Err
returns-in-Err c = (invalidated (lent_record c.from_words.result) (record_in c.args.model.now) c.from_words.ensures _ _ _ _ c.validate.ensures _ c.in-Err.is _ c.from.ensures, c.validate.ensures.clears)
