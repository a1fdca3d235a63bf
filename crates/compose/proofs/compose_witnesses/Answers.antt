use Rattle.compose.proofs.ChainLaws.{witnesses_refused, witnesses_short, witnesses_fit, witnesses_composed}
use Rattle.compose.proofs.compose_witnesses.Goals as goal

pub returns-in_err-totals : goal.returns-in_err-totals
returns-in_err-totals c = witnesses_refused _ _ _ _ _ _ c.first_room.ensures _ c.room_after-room.ensures _ _ c.in_err-totals.ensures _ c.from_residual.ensures.1

pub returns-then-is_none : goal.returns-then-is_none
returns-then-is_none c = search (witnesses_short, c.in_ok-totals.ensures)

pub compose_fitting-requires : goal.compose_fitting-requires
compose_fitting-requires c = search (witnesses_fit, c.in_ok-totals.ensures)

pub returns : goal.returns
returns c = search (witnesses_composed, c.in_ok-totals.ensures)
