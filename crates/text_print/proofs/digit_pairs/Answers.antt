use mathlib.Core.Path.{refl}
use Rattle.text_print.specs.Inner.DigitPairs.{digit_pairs}
use Rattle.text_print.proofs.digit_pairs.Goals as goal

pub returns : goal.returns
unfolding digit_pairs
returns c = refl
