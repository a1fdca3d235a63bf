use Rattle.compose_names.proofs.PieceLaws.{line_printed}
use Rattle.compose_names.proofs.Rows.print_row.Goals as goal

pub returns : goal.returns
returns c =
    rw (← c.name_at-name.ensures)
    (line_printed _ _ _ _ _ _ _ _ _ _ c.kind.ensures c.byte.ensures c.number.ensures c.byte-2.ensures c.print_name.ensures c.byte-3.ensures)
