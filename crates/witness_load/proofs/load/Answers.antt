use mathlib.Core.Path.{◌∙◌}
use native.Mathlib.Omega.{arith}
use lib.ListN.{length-take}
use Rattle.witness_load.proofs.TextLaws.{load-room, load_no_header, load_past, load-behind, load-done}
use Rattle.witness_load.proofs.load.Goals as goal

pub returns-in_default : goal.returns-in_default
returns-in_default c = search (load_no_header, c.in_default.ensures)

pub overflow_mul-others : goal.overflow_mul-others
overflow_mul-others c = omega (arith, load-room _ _ _ c.requires)

pub overflow_add-others-3 : goal.overflow_add-others-3
overflow_add-others-3 c = omega (arith, load-room _ _ _ c.requires)

pub overflow_add-body : goal.overflow_add-body
overflow_add-body c = omega (arith, load-room _ _ _ c.requires)

pub slice_bounds-body-end : goal.slice_bounds-body-end
slice_bounds-body-end c = omega (arith, load-room _ _ _ c.requires, c.split_at_mut-names.ensures.back_len)

pub slice_bounds-body-end-2 : goal.slice_bounds-body-end-2
slice_bounds-body-end-2 c = simp length-take (omega (arith, load-room _ _ _ c.requires, c.split_at_mut-names.ensures.back_len))

pub load_body-symbols-requires : goal.load_body-symbols-requires
load_body-symbols-requires c = simp length-take (omega (arith, load-room _ _ _ c.requires, c.split_at_mut-names.ensures.back_len))

pub load_names-requires : goal.load_names-requires
load_names-requires c = (search (load-behind, c.in-Some.ensures), search (load_past, c.in-Some.ensures), c.split_at_mut-names.ensures.front_len)

pub returns : goal.returns
returns c =
    load-done _ _ _ _ _ c.in-Some.ensures _ c.load_body-symbols.ensures.behind _ c.load_body-symbols.ensures.words _
    (c.load_names.auto.out ∙ c.split_at_mut-names.ensures.front_len)
    (c.load_body-symbols.auto.out ∙ simp length-take (omega (arith, load-room _ _ _ c.requires, c.split_at_mut-names.ensures.back_len)))
    c.load_names.ensures _ c.split_at_mut-names.ensures.back
