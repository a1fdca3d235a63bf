use Prim.Native.Nat.{◌<◌}
use native.Mathlib.Omega.{arith}
use lib.ListN.{length}
use borrow.Author.Rules.{rules}
use Rattle.obligation_gates.proofs.RepeatLaws.{keeping_none, keeping-more, keeping_seen, keeping-end}
use Rattle.obligation_gates.proofs.fill_clause.Goals as goal
use Rattle.obligation_gates.proofs.fill_clause.Goals.{then-add, else-add}

pub loop-word-init : goal.loop-word-init
loop-word-init c = keeping_none _ _ _ _

pub loop-word-preserved : goal.loop-word-preserved
loop-word-preserved c =
    let k = c.loop-word.invariant in
    let h : c.loop-word.word-index < length c.args.clause.now = omega arith in
    elim c.if-add.branch [
      | then-add w ↦ rw (w.list-is, w.n-is)
          (keeping-more c.args.inputs.now c.args.relevant.now c.args.clause.now _ _ _ c.loop-word.word-index c.requires.0 k h _ _ c.add.ensures (omega (arith, k.few, c.requires.1)) _ w.predicate_literal.ensures _ w.word.ensures)
      | else-add w ↦ rw (w.list-is, w.n-is)
          (keeping_seen c.args.inputs.now c.args.relevant.now c.args.clause.now _ _ _ c.loop-word.word-index c.requires.0 k h _ _ c.add.ensures (search rules))
    ]

pub returns : goal.returns
returns c = keeping-end c.args.inputs.now c.args.relevant.now c.args.clause.now c.requires.0 _ _ _ c.loop-word.word-index c.loop-word.invariant (omega arith) (omega arith)
