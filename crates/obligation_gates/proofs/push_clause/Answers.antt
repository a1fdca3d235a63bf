use native.Mathlib.Omega.{arith}
use lib.ListN.{length-take}
use Rattle.obligation_gates.proofs.RepeatLaws.{kept-appends, kept-narrow}
use Rattle.obligation_gates.proofs.push_clause.Goals as goal

pub push_simplified-requires : goal.push_simplified-requires
push_simplified-requires c = (
  omega (arith, length-take c.fill_clause-n.result c.fill_clause-n.new.list, c.fill_clause-n.ensures.few, c.requires.1),
  c.requires.3,
  kept-narrow c.args.inputs.now c.args.relevant.now c.args.clause.now _ _ c.fill_clause-n.ensures,
)

pub returns : goal.returns
returns c = kept-appends c.args.inputs.now c.args.relevant.now c.args.clause.now _ _ c.fill_clause-n.ensures (omega (arith, c.fill_clause-n.ensures.few, c.fill_clause-n.auto.list, c.requires.1, c.requires.2)) _ _ c.push_simplified.ensures
