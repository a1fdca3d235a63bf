use Rattle.text_decimal.proofs.DecimalLaws.{digits-counted}
use Rattle.text_decimal.proofs.decimal_length.Goals as goal

pub returns : goal.returns
returns c = search digits-counted
