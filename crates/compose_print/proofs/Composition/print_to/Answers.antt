use native.Mathlib.Omega.{arith}
use Rattle.compose_print.proofs.WriteLaws.{region_ends, inputs-small, latches-small, bads-small, constraints-small, gates-can}
use Rattle.compose_print.proofs.WriteLaws.{header_printed, inputs-printed, latches-printed, bads-printed, constraints-printed, gates-printed}
use Rattle.compose_print.proofs.Composition.print_to.Goals as goal

pub consecutive-requires : goal.consecutive-requires
consecutive-requires c = inputs-small c.requires

pub slice_bounds-pairs-end : goal.slice_bounds-pairs-end
slice_bounds-pairs-end c = omega (arith, region_ends c.requires)

pub pairs-requires : goal.pairs-requires
pairs-requires c = latches-small c.requires

pub set-requires : goal.set-requires
set-requires c = bads-small c.requires

pub set-requires-2 : goal.set-requires-2
set-requires-2 c = constraints-small c.requires

pub print_gates-requires : goal.print_gates-requires
print_gates-requires c = gates-can c.requires

pub returns : goal.returns
returns c =
    header_printed c.print_header.ensures
    (inputs-printed c.consecutive.ensures
    (latches-printed c.pairs.ensures
    (bads-printed c.set.ensures
    (constraints-printed c.set-2.ensures
    (gates-printed c.print_gates.ensures c.print_tail.ensures)))))
