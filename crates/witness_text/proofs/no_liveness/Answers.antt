use Rattle.std.proofs.Common.{◌∙◌}
use borrow.Author.Tests.{ne_eqb}
use Rattle.witness_text.proofs.CountLaws.{liveness_justice, liveness_fairness}
use Rattle.witness_text.proofs.no_liveness.Goals as goal

pub returns-then-counts-eq0 : goal.returns-then-counts-eq0
returns-then-counts-eq0 c = search liveness_fairness

pub returns-else-counts-eq0 : goal.returns-else-counts-eq0
returns-else-counts-eq0 c = ne_eqb _ 0 c.if-counts-eq0.false ∙ search liveness_justice
