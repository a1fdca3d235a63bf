use Rattle.compose_gates.proofs.DefineLaws.{Defining}
use Rattle.compose_gates.proofs.define_latches.Given as goal

abbrev pub invariant-loop-j : goal.invariant-loop-j
invariant-loop-j l = Defining l.latches l.vars l.own l.first l.initial.definitions l.definitions l.seen l.j
