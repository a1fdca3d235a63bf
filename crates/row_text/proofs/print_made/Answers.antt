use native.Mathlib.Omega.{arith}
use Rattle.row_text.proofs.print_made.Goals as goal

pub overflow_mul-made : goal.overflow_mul-made
overflow_mul-made c = omega (arith, (c.requires _ c.in-Ok.is).fits)
