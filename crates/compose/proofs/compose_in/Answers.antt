use Rattle.std.proofs.Common.{refl}
use Rattle.compose.proofs.TopLaws.{call_few, call_composed, call_apart}
use Rattle.compose.proofs.compose_in.Goals as goal

pub returns-then-count-lt2 : goal.returns-then-count-lt2
returns-then-count-lt2 c = call_few _ _ _ _ _ _ _ refl c.then-count-lt2.either

pub returns-then-not-in_order : goal.returns-then-not-in_order
returns-then-not-in_order c = search call_apart

pub returns : goal.returns
returns c = search call_composed
