use Rattle.witness_load.proofs.BodyLaws.{body_no_latches, body-loaded, body-behind}
use Rattle.witness_load.proofs.load_body.Goals as goal

pub returns-in_default-clause-words : goal.returns-in_default-clause-words
returns-in_default-clause-words c = search (body_no_latches, c.in_default.ensures c.args.counts.latches c.split_at_mut-pairs.ensures.front_len)

pub returns-clause-words : goal.returns-clause-words
returns-clause-words c = search (body-loaded, c.in-Some.ensures c.args.counts.latches c.split_at_mut-pairs.ensures.front_len)

pub returns-clause-behind : goal.returns-clause-behind
returns-clause-behind c = search (body-behind, c.in-Some.ensures c.args.counts.latches c.split_at_mut-pairs.ensures.front_len)
