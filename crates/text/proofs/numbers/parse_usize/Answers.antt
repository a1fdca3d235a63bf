use Rattle.text.proofs.NumberLaws.{usize-digits}
use Rattle.text.proofs.numbers.parse_usize.Goals as goal

pub returns : goal.returns
returns c = search usize-digits
