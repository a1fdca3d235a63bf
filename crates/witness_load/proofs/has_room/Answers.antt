use Rattle.witness_load.proofs.CallLaws.{input-words_fit, latch_words_fit, leaf_words_fit, gate_words_fit, fixed_words_fit, no_room_fixed, no_room-outputs, no_room-bads, room-constraints}
use Rattle.witness_load.proofs.has_room.Goals as goal

pub overflow_mul-fixed : goal.overflow_mul-fixed
overflow_mul-fixed c = search input-words_fit

pub overflow_mul-fixed-2 : goal.overflow_mul-fixed-2
overflow_mul-fixed-2 c = search latch_words_fit

pub overflow_add-fixed : goal.overflow_add-fixed
overflow_add-fixed c = search leaf_words_fit

pub overflow_mul-fixed-3 : goal.overflow_mul-fixed-3
overflow_mul-fixed-3 c = search gate_words_fit

pub overflow_add-fixed-2 : goal.overflow_add-fixed-2
overflow_add-fixed-2 c = search fixed_words_fit

pub returns-then-size-fixed : goal.returns-then-size-fixed
returns-then-size-fixed c = search no_room_fixed

pub returns-then-after_fixed-counts : goal.returns-then-after_fixed-counts
returns-then-after_fixed-counts c = search no_room-outputs

pub returns-then-after_outputs-counts : goal.returns-then-after_outputs-counts
returns-then-after_outputs-counts c = search no_room-bads

pub returns : goal.returns
returns c = search room-constraints
