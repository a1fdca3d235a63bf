-- For the contracts of the functions that make the clauses: what a plan of the code says.
use Rattle.std.specs.Prelude.{take}
use Rattle.obligation_check.specs.declared.Question.{Question}
use Rattle.obligation_claims.specs.Inner.Kinds.{words_in, wide_in}
use Rattle.obligation.specs.declared.making.Plan.{Plan}
use Rattle.obligation.specs.Inner.Appended.{Parts, parts_of, Claimed, claimed_of}

-- the claims with their keys
abbrev pub claimed_in : Plan → Claimed
claimed_in p = claimed_of p.keys.now (words_in p.claims) (wide_in p.claims)

-- what stands before the claims
abbrev pub parts_in : Question → Plan → Parts
parts_in q p =
    parts_of p.currents.now p.source (take q.model.counts.inputs q.model.inputs.now) q.predicate.relevant.now q.predicate.pairs.now q.predicate.literals.now q.gates.now q.model.counts.ands
