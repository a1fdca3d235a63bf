use Rattle.witness_load.proofs.CallLaws.{call_refused, call_counted, call_no_room, call_loadable, call_loaded}
use Rattle.witness_load.proofs.load_aag.Goals as goal

pub returns-in_err-counts : goal.returns-in_err-counts
returns-in_err-counts c = call_refused _ _ _ _ c.in_err-counts.ensures _ c.from_residual.ensures.1

pub has_room-requires : goal.has_room-requires
has_room-requires c = search (call_counted, c.in_ok-counts.ensures)

pub returns-then-not-has_room : goal.returns-then-not-has_room
returns-then-not-has_room c = search (call_no_room, c.in_ok-counts.ensures)

pub load-requires : goal.load-requires
load-requires c = search (call_loadable, c.in_ok-counts.ensures)

pub returns : goal.returns
returns c = search (call_loaded, c.in_ok-counts.ensures)
