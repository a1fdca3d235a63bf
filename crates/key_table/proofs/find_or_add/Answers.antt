use Prim.Native.Nat.{◌<◌}
use native.Mathlib.Omega.{arith}
use lib.ListN.{length}
use Rattle.key_table.proofs.HeldLaws.{comes-within}
use Rattle.key_table.proofs.AddLaws.{finds-known, finds_new}
use Rattle.key_table.proofs.find_or_add.Goals as goal
use Rattle.key_table.proofs.find_or_add.Goals.{After-walk-at}

within : (c : After-walk-at) → c.walk-at.result < length c.args.table.now
within c = comes-within c.args.heads c.args.key c.args.table.now c.requires.base c.walk-at.result c.walk-at.ensures.code c.walk-at.ensures.comes

pub offset_bounds-table-at : goal.offset_bounds-table-at
offset_bounds-table-at c = omega (arith, within (goal.at.offset_bounds-table-at c).After-walk-at)

pub bounds-table-at : goal.bounds-table-at
bounds-table-at c = within (goal.at.bounds-table-at c).After-walk-at

pub add-requires : goal.add-requires
add-requires c = (omega (arith, c.requires.room), within (goal.at.add-requires c).After-walk-at, c.requires.base.word, omega (arith, c.requires.room))

pub returns-in_default : goal.returns-in_default
returns-in_default c = finds_new _ _ _ _ _ _ c.requires.base.some c.requires.room c.walk-at.ensures (omega (arith, c.in_default.ensures)) c.add.ensures

pub returns : goal.returns
returns c = finds-known _ _ _ _ _ _ c.requires.base.some c.walk-at.ensures (omega (arith, c.in-Some.ensures))
