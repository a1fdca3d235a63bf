use native.Mathlib.Omega.{arith}
use Rattle.compose_gather.proofs.CountLaws.{leaves-within}
use Rattle.compose_origins.proofs.names_at.Goals as goal

pub overflow_add-result : goal.overflow_add-result
overflow_add-result c = omega (arith, c.names_before.ensures, leaves-within c.args.leaves c.args.counts)
