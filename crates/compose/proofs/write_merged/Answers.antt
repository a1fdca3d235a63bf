use Rattle.compose.proofs.LaidLaws.{too_long, written}
use lib.ListN.{length}
use Prim.Native.Nat.{◌<◌}
use native.Mathlib.Omega.{arith}
use Rattle.compose.proofs.write_merged.Goals as goal

pub returns-then-out-size : goal.returns-then-out-size
returns-then-out-size c = search too_long

pub returns : goal.returns
returns c = let small : length c.args.out.now < 9223372036854775808 = omega arith in search written
