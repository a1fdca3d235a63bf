use Rattle.std.proofs.Common.{refl, rules}
use Rattle.witness_read.proofs.TailLaws.{naming-none, naming-bad, naming-end, index_below, symbol-less, naming-more, naming-again}
use Rattle.witness_read.proofs.tail.check_symbols.Goals as goal

pub loop-symbol-init : goal.loop-symbol-init
loop-symbol-init c = (refl, search naming-none)

pub returns-in_err-symbol : goal.returns-in_err-symbol
returns-in_err-symbol c = naming-bad _ _ _ _ c.loop-symbol.invariant.1 _ c.in_err-symbol.ensures _ c.from_residual.ensures.1

pub returns-in_default : goal.returns-in_default
returns-in_default c = search (naming-end, c.in_ok-symbol.ensures)

pub name_first-requires : goal.name_first-requires
name_first-requires c = (search rules, search (index_below, c.in_ok-symbol.ensures))

pub returns-then-not-name_first : goal.returns-then-not-name_first
returns-then-not-name_first c = search (naming-again, c.in_ok-symbol.ensures)

pub loop-symbol-preserved : goal.loop-symbol-preserved
loop-symbol-preserved c = (search rules, search (naming-more, c.in_ok-symbol.ensures))

pub loop-symbol-smaller : goal.loop-symbol-smaller
loop-symbol-smaller c = search (symbol-less, c.in_ok-symbol.ensures)
