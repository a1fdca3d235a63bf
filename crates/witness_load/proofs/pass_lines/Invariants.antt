use Rattle.witness_load.proofs.LineLaws.{Passing}
use Rattle.witness_load.proofs.pass_lines.Given as goal

abbrev pub invariant-loop-i : goal.invariant-loop-i
invariant-loop-i l = Passing l.s l.n l.left l.i
