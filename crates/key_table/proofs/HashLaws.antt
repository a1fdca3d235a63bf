-- Laws of `head_of`, and that the sums and products of mixing fit into words.
use Prim.Native.Nat.{ℕ, ◌*◌, ◌/◌, ◌<◌}
use native.Mathlib.Omega.{arith}
use native.Mathlib.Nat.{div-lt_iff_lt-mul, mul-lt-mul_of_pos_right, mul_comm}
use Rattle.key_table.specs.Inner.Table.{head_of}

scaled_below : (m heads : ℕ) → m < 4294967296 → 0 < heads → m * heads / 4294967296 < heads
scaled_below m heads p h =
    let q : m * heads < 4294967296 * heads = mul-lt-mul_of_pos_right p h in
    (div-lt_iff_lt-mul {k = 4294967296} (omega arith)).1 (rw (mul_comm heads 4294967296) q)

pub head-below : (heads mixed : ℕ) → 0 < heads → head_of heads mixed < heads
unfolding head_of
head-below heads mixed h = scaled_below _ heads (omega arith) h
