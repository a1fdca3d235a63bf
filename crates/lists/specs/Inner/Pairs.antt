-- For the contracts of the functions that go through pairs of offset and length in order.
use Rattle.std.specs.Prelude.{ℕ, ◌+◌, cond, ◌&&◌, leb, Option, Some, None}

-- where a part ends that starts at `end` or later and ends within a buffer of so many elements; none where it does not
abbrev pub part_end : ℕ → ℕ → ℕ → ℕ → Option ℕ
part_end end start size most = cond (leb end start && leb (start + size) most) (Some (start + size)) None
