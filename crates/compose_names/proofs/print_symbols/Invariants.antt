use Rattle.compose_names.proofs.SymbolLaws.{Walking}
use Rattle.compose_names.proofs.print_symbols.Given as goal

abbrev pub invariant-loop-w : goal.invariant-loop-w
invariant-loop-w l = Walking l.leaves l.witnesses.texts.bytes.now l.witnesses.texts.pairs.now l.work l.origins l.numbers l.first l.initial.to l.to l.starts l.next l.w
