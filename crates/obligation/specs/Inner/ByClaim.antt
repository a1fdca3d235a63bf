-- For the contracts of the functions that check a claim and make its clauses: the test and the clauses of each.
use Rattle.std.specs.Prelude.{Bool, ◌&&◌, List, ltb, length}
use Rattle.lists.specs.Answer.{Answer, unless}
use Rattle.model.specs.Circuit.{Circuit}
use Rattle.cnf.specs.Clauses.{Clause}
use Rattle.obligation_spec.specs.Lists.{outcomes_of, relation_clauses, transducer_clauses, terminal_clauses}
use Rattle.obligation_spec.specs.Limits.{is_state, states_claimed, outcomes_claimed}
use Rattle.obligation_spec.specs.Calls.{Asked, circuit, predicate, Lent, within}
use Rattle.obligation.specs.declared.Claim.{Claim}
use Rattle.obligation.specs.declared.Claim.TheVariants.{Relation, Transducer, Terminal}

-- R9.14: the claim is right for a circuit
abbrev pub claim_test : Circuit → Claim → Bool
claim_test c (Relation source targets) = is_state c source && states_claimed c targets.now
claim_test c (Transducer source observed outcomes) = is_state c source && outcomes_claimed c observed.now (outcomes_of outcomes.now)
claim_test c (Terminal bad states) = ltb bad (length c.outputs) && states_claimed c states.now

-- R7.5: its clauses
abbrev pub claim_clauses : Asked → Claim → List Clause
claim_clauses q (Relation source targets) = relation_clauses (circuit q) q.relevant (predicate q) source targets.now
claim_clauses q (Transducer source observed outcomes) = transducer_clauses (circuit q) q.relevant (predicate q) source observed.now (outcomes_of outcomes.now)
claim_clauses q (Terminal bad states) = terminal_clauses (circuit q) q.relevant (predicate q) bad states.now

-- R9.14, R9.20: what is left of a call
abbrev pub claim_after : Asked → Claim → Lent → Answer (List Clause)
claim_after q claim lent = unless 14 (claim_test (circuit q) claim) (within lent (claim_clauses q claim))
