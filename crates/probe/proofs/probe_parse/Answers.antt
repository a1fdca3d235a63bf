use Rattle.probe.proofs.probe_parse.Goals as goal

pub returns : goal.returns
returns c = simp (c.from.ensures, c.parse_for.ensures, c.reader_of.ensures)
