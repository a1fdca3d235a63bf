use Rattle.compose_names.specs.Inner.Symbols.{row_in}
use Rattle.compose_names.proofs.WalkLaws.{Walk}
use Rattle.compose_names.proofs.Rows.print_new.Given as goal

abbrev pub invariant-loop-k : goal.invariant-loop-k
invariant-loop-k l = Walk l.self.leaves (row_in l.self) l.count l.first l.fn.new l.initial.to l.to l.next l.k
