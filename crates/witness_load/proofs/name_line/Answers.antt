use Rattle.std.proofs.Common.{◌∙◌, ◌+◌, ◌*◌, ◌<◌, length, ap, refl, inl, inr, arith}
use Rattle.lists.specs.Parts.{put}
use Rattle.witness_load.proofs.SectionLaws.{pair_back}
use Rattle.witness_load.proofs.StoreLaws.{name-within, latch-fits, leaf_room, line-named}
use Rattle.witness_load.proofs.name_line.Goals as goal
use Rattle.witness_load.proofs.name_line.Goals.{in-Input, in-Latch}

room : (c : goal.After-row_known-1) → 2 * c.match-symbol.leaf + 1 < length c.args.out.now
room c =
    leaf_room c.args.l.now c.args.counts c.in-Some.symbol c.in-Some.ensures _ c.requires.1 _
    (elim c.match-symbol.branch [ in-Input w ↦ inl (w.in-Input.is, w.leaf-is) | in-Latch w ↦ inr (w.in-Latch.is, w.leaf-is) ])

pub overflow_sub-place : goal.overflow_sub-place
overflow_sub-place c = name-within c.args.l.now c.args.counts c.in-Some.symbol c.in-Some.ensures

pub overflow_add-leaf : goal.overflow_add-leaf
overflow_add-leaf c = omega (arith, latch-fits c.args.l.now c.args.counts c.in-Some.symbol c.in-Some.ensures c.in-Latch.is, c.requires.1)

pub overflow_mul-leaf : goal.overflow_mul-leaf
overflow_mul-leaf c = omega (arith, room c)

pub overflow_mul-leaf-2 : goal.overflow_mul-leaf-2
overflow_mul-leaf-2 c = omega (arith, room c)

pub overflow_add-leaf-2 : goal.overflow_add-leaf-2
overflow_add-leaf-2 c = omega (arith, room c)

pub offset_bounds-out-leaf : goal.offset_bounds-out-leaf
offset_bounds-out-leaf c = omega (arith, room c)

pub slice_bounds-store_pair-end : goal.slice_bounds-store_pair-end
slice_bounds-store_pair-end c = omega (arith, room c)

pub returns : goal.returns
returns c =
    line-named c.args.l.now c.args.counts c.in-Some.symbol c.in-Some.ensures _ c.requires.1 _
    (elim c.match-symbol.branch [ in-Input w ↦ inl (w.in-Input.is, w.leaf-is) | in-Latch w ↦ inr (w.in-Latch.is, w.leaf-is) ])
    _ _ refl _ (pair_back _ _ _ (ap length c.store_pair.ensures) ∙ ap (put c.args.out.now (2 * c.match-symbol.leaf)) c.store_pair.ensures)
