use Rattle.compose_lines.proofs.HeaderLaws.{header_printed}
use Rattle.compose_lines.proofs.print_header.Goals as goal

pub returns : goal.returns
returns c = header_printed _ c.args.counts _ _ _ c.bytes.ensures c.fields.ensures c.byte.ensures
