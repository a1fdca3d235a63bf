use Prim.Native.Nat.{◌+◌, ◌<◌}
use mathlib.Core.Path.{◌≡◌}
use native.Mathlib.Omega.{arith}
use lib.ListN.{length, get_or}
use Rattle.key_table.proofs.HeldLaws.{Ahead, comes-within, comes-ahead, comes-more}
use Rattle.key_table.proofs.walk.Goals as goal
use Rattle.key_table.proofs.walk.Goals.{At-loop-number, In-Some}

within : (c : At-loop-number) → c.loop-number.at < length c.args.table.now
within c = comes-within c.args.heads c.args.key c.args.table.now c.requires c.loop-number.at c.loop-number.code c.loop-number.invariant

word : (c : In-Some) → get_or c.args.table.now c.loop-number.at 0 ≡ c.in-Some.number + 1
word c = omega (arith, c.in-Some.ensures)

ahead : (c : In-Some) → Ahead c.args.heads (length c.args.table.now) c.loop-number.at c.in-Some.number
ahead c = comes-ahead c.args.heads c.args.key c.args.table.now c.requires c.loop-number.at c.loop-number.code c.loop-number.invariant c.in-Some.number (word c)

pub offset_bounds-table-at : goal.offset_bounds-table-at
offset_bounds-table-at c = omega (arith, within (goal.at.offset_bounds-table-at c).At-loop-number)

pub bounds-table-at : goal.bounds-table-at
bounds-table-at c = within (goal.at.bounds-table-at c).At-loop-number

pub overflow_mul-node : goal.overflow_mul-node
overflow_mul-node c = omega (arith, ahead c)

pub overflow_add-node : goal.overflow_add-node
overflow_add-node c = omega (arith, ahead (goal.at.overflow_add-node c).In-Some)

pub offset_bounds-table-node : goal.offset_bounds-table-node
offset_bounds-table-node c = omega (arith, ahead (goal.at.offset_bounds-table-node c).In-Some)

pub bounds-table-node : goal.bounds-table-node
bounds-table-node c = omega (arith, ahead (goal.at.bounds-table-node c).In-Some)

pub overflow_add-at : goal.overflow_add-at
overflow_add-at c = omega (arith, ahead (goal.at.overflow_add-at c).In-Some)

pub overflow_add-at-in-loop-number : goal.overflow_add-at-in-loop-number
overflow_add-at-in-loop-number c = omega (arith, ahead (goal.at.overflow_add-at-in-loop-number c).In-Some)

pub loop-number-smaller : goal.loop-number-smaller
loop-number-smaller c =
    omega (arith, within (goal.at.loop-number-smaller c).At-loop-number, ahead (goal.at.loop-number-smaller c).In-Some)

pub loop-number-preserved : goal.loop-number-preserved
loop-number-preserved c = comes-more _ _ _ c.requires _ _ c.loop-number.invariant c.in-Some.number (omega (arith, c.in-Some.ensures)) c.if-table-node.false
