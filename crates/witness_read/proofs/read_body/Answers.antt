use Rattle.witness_read.proofs.ReadLaws.{counts_told, liveness_told, counts-refused, liveness_refused, body_read}
use Rattle.witness_read.proofs.read_body.Goals as goal

pub returns-then-not-counts_hold : goal.returns-then-not-counts_hold
returns-then-not-counts_hold c = search counts-refused

pub returns-then-not-no_liveness : goal.returns-then-not-no_liveness
returns-then-not-no_liveness c = search liveness_refused

pub read_sections-requires : goal.read_sections-requires
read_sections-requires c = (counts_told _ _ c.counts_hold.ensures c.if-not-counts_hold.false-raw, liveness_told _ _ c.no_liveness.ensures c.if-not-no_liveness.false-raw)

pub returns : goal.returns
returns c = search body_read
