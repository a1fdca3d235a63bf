-- What a question of the code asks about (R12.3).
use Rattle.model.specs.Inner.Lent.{lent_record}
use Rattle.obligation_spec.specs.Calls.{Asked, asked_of}
use Rattle.obligation_check.specs.declared.Question.{Question}

abbrev pub asked_in : Question → Asked
asked_in q = asked_of (lent_record q.model) q.gates.now q.predicate.relevant.now q.predicate.pairs.now q.predicate.literals.now
