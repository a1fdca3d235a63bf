use Rattle.probe.proofs.probe_good_text.Goals as goal

pub returns : goal.returns
returns c = simp (c.good_text.ensures, c.reader_of.ensures)
