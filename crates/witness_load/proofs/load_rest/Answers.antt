use native.Mathlib.Omega.{arith}
use Rattle.witness_load.proofs.BodyLaws.{rest_no_literals, rest_no_gates, rest-loaded, rest-behind}
use Rattle.witness_load.proofs.load_rest.Goals as goal

pub returns-in_default-clause-words : goal.returns-in_default-clause-words
returns-in_default-clause-words c =
    let literals = rw c.split_at_mut-literals.ensures.front_len at c.in_default.ensures in
    rest_no_literals c.args.s.now c.args.counts literals _ c.args.s.now

pub returns-in_default-load_pairs-clause-words : goal.returns-in_default-load_pairs-clause-words
returns-in_default-load_pairs-clause-words c =
    let literals = rw c.split_at_mut-literals.ensures.front_len at c.in-Some.ensures in
    let gates = c.in_default-load_pairs.ensures c.args.counts.gates (omega (arith, c.split_at_mut-literals.ensures.back_len, c.requires)) in
    rest_no_gates c.args.s.now c.args.counts _ c.in-Some.gates.now literals gates _ c.args.s.now

pub returns-clause-words : goal.returns-clause-words
returns-clause-words c =
    let literals = rw c.split_at_mut-literals.ensures.front_len at c.in-Some.ensures in
    let gates = c.in-Some-load_pairs.ensures c.args.counts.gates (omega (arith, c.split_at_mut-literals.ensures.back_len, c.requires)) in
    rest-loaded c.args.s.now c.args.counts _ c.in-Some.gates.now literals _ c.in-Some-load_pairs.rest.now gates

pub returns-clause-behind : goal.returns-clause-behind
returns-clause-behind c =
    let literals = rw c.split_at_mut-literals.ensures.front_len at c.in-Some.ensures in
    let gates = c.in-Some-load_pairs.ensures c.args.counts.gates (omega (arith, c.split_at_mut-literals.ensures.back_len, c.requires)) in
    rest-behind c.args.s.now c.args.counts _ c.in-Some.gates.now literals _ c.in-Some-load_pairs.rest.now gates
