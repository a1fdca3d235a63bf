use Rattle.witness_text.proofs.SymbolLaws.{no_space, no_kind, unknown_kind, unreadable_index, index_below, index_past}
use Rattle.witness_text.proofs.symbol_line.Goals as goal

pub returns-in_default : goal.returns-in_default
returns-in_default c =
    no_kind c.args.l.now c.args.counts c.split_at.result.0.now c.split_at.result.1.now _ c.passing.ensures.value c.split_at.ensures.front c.split_at.ensures.back c.in_default.len_below

pub returns-in_default-others : goal.returns-in_default-others
returns-in_default-others c =
    no_space c.args.l.now c.args.counts c.split_at.result.0.now c.split_at.result.1.now _ c.passing.ensures.value c.split_at.ensures.front c.split_at.ensures.back
    c.in_default-others.len_below

pub returns-in_err-kind : goal.returns-in_err-kind
returns-in_err-kind c =
    rw c.from_residual.ensures
    (unknown_kind c.args.l.now c.args.counts c.split_at.result.0.now c.split_at.result.1.now _ c.passing.ensures.value c.split_at.ensures.front c.split_at.ensures.back
    c.in-len1-up.len_at_least c.in-len1-up-others.len_at_least c.in_err-kind.ensures)

pub returns-in_err-index : goal.returns-in_err-index
returns-in_err-index c =
    rw c.from_residual-in_err-index.ensures
    (unreadable_index c.args.l.now c.args.counts c.split_at.result.0.now c.split_at.result.1.now _ c.passing.ensures.value c.split_at.ensures.front c.split_at.ensures.back
    c.in-len1-up.len_at_least c.in-len1-up-others.len_at_least _ c.in_ok-kind.ensures c.in_err-index.ensures)

pub returns-then-count_of-index : goal.returns-then-count_of-index
returns-then-count_of-index c = search (index_past, c.in_ok-kind.ensures, c.in_ok-index.ensures)

pub returns : goal.returns
returns c = search (index_below, c.in_ok-kind.ensures, c.in_ok-index.ensures)
