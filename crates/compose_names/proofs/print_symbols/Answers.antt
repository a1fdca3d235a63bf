use Rattle.compose_names.proofs.SymbolLaws.{walking-none, walking-can, walking_pass, walking-more, walking-end}
use Rattle.compose_names.proofs.print_symbols.Goals as goal

pub loop-w-init : goal.loop-w-init
loop-w-init c = search walking-none

pub print_witness-next-requires : goal.print_witness-next-requires
print_witness-next-requires c = search walking-can

pub pass-starts-requires : goal.pass-starts-requires
pass-starts-requires c = search walking_pass

pub loop-w-preserved : goal.loop-w-preserved
loop-w-preserved c = walking-more _ _ _ _ _ _ _ _ _ _ _ _ _ c.loop-w.invariant c.len-w-end.ensures c.loop-w-test.true _ c.text.ensures _ c.counts_of-n.ensures _ _ c.print_witness-next.ensures _ c.pass-starts.ensures

pub returns : goal.returns
returns c = search walking-end
