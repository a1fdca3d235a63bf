use Rattle.text.proofs.DigitLaws.{zeros-behind, zeros_within}
use Rattle.text.proofs.numbers.without_zeros.Goals as goal

pub returns : goal.returns
returns c = search zeros-behind
