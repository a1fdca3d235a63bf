use Rattle.std.proofs.Common.{rules, tests}
use Rattle.std.proofs.lemmas.Iterator.{YieldsList-from_slice}
use lib.Dec.{ltb}
use Rattle.lists.proofs.ChainLaws.{all-ran}
use Rattle.lists.proofs.below.Goals as goal

pub returns : goal.returns
returns c = all-ran (λ x. ltb x c.args.n) _ _ c.all.result c.all.ensures.ran (YieldsList-from_slice c.args.words.now cc) (λ x b q k. search (rules, tests))
