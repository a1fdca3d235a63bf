-- The record that a lent one stands for.
use Rattle.model.specs.declared.AigerTransition.{AigerTransition}
use Rattle.model.specs.declared.lent.LentModel.{LentModel}
use Rattle.model.specs.Circuit.{record_from}

abbrev pub lent_record : LentModel → AigerTransition
lent_record m = record_from m.counts m.inputs.now m.latches m.outputs.now
