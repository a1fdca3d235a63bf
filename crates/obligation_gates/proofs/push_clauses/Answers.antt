use mathlib.Core.Path.{refl}
use native.Mathlib.Omega.{arith}
use borrow.Author.Rules.{rules}
use Rattle.obligation_gates.proofs.ClauseLaws.{clause-inside, clause-clausal, clause-short, clause-space, clause-next, clauses-end}
use Rattle.obligation_gates.proofs.push_clauses.Goals as goal

pub overflow_add-end-in-loop-i : goal.overflow_add-end-in-loop-i
overflow_add-end-in-loop-i c =
    let k = clause-inside c.args.inputs.now c.args.predicate.now.relevant.now c.args.predicate.now.pairs.now c.args.predicate.now.literals.now c.loop-i.i _ _ (omega arith) refl refl c.requires.0 in
    search rules

pub offset_bounds-predicate-start : goal.offset_bounds-predicate-start
offset_bounds-predicate-start c =
    let k = clause-inside c.args.inputs.now c.args.predicate.now.relevant.now c.args.predicate.now.pairs.now c.args.predicate.now.literals.now c.loop-i.i _ _ (omega arith) refl refl c.requires.0 in
    search rules

pub slice_bounds-clause-end : goal.slice_bounds-clause-end
slice_bounds-clause-end c =
    let k = clause-inside c.args.inputs.now c.args.predicate.now.relevant.now c.args.predicate.now.pairs.now c.args.predicate.now.literals.now c.loop-i.i _ _ (omega arith) refl refl c.requires.0 in
    search rules

pub push_clause-requires : goal.push_clause-requires
push_clause-requires c = (
  clause-clausal c.args.inputs.now c.args.predicate.now.relevant.now c.args.predicate.now.pairs.now c.args.predicate.now.literals.now c.loop-i.i _ _ (omega arith) refl refl c.requires.0,
  clause-short c.args.inputs.now c.args.predicate.now.relevant.now c.args.predicate.now.pairs.now c.args.predicate.now.literals.now c.loop-i.i _ _ (omega arith) refl refl c.requires.0,
  search rules,
  clause-space c.args.inputs.now c.args.predicate.now.relevant.now c.args.predicate.now.pairs.now c.args.predicate.now.literals.now c.loop-i.i _ _ (omega arith) refl refl _ _ c.loop-i.invariant c.requires.2,
)

pub loop-i-preserved : goal.loop-i-preserved
loop-i-preserved c =
    clause-next c.args.inputs.now c.args.predicate.now.relevant.now c.args.predicate.now.pairs.now c.args.predicate.now.literals.now c.loop-i.i _ _ (omega arith) refl refl _ _ c.loop-i.invariant _ c.push_clause.ensures

pub returns : goal.returns
returns c = clauses-end c.args.inputs.now c.args.predicate.now.relevant.now c.args.predicate.now.pairs.now c.args.predicate.now.literals.now c.loop-i.i _ _ (omega arith) c.loop-i.invariant
