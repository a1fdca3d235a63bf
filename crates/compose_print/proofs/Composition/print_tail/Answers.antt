use Rattle.compose_print.proofs.WriteLaws.{input-symbols, latch_symbols_lem, input-names-printed, latch_names-printed}
use Rattle.compose_print.proofs.Composition.print_tail.Goals as goal

pub print_symbols-requires : goal.print_symbols-requires
print_symbols-requires c = input-symbols c.requires

pub print_symbols-requires-2 : goal.print_symbols-requires-2
print_symbols-requires-2 c = latch_symbols_lem c.requires

pub returns : goal.returns
returns c = input-names-printed c.print_symbols.ensures (latch_names-printed c.print_symbols-2.ensures c.print_closing.ensures)
