use Rattle.std.proofs.Common.{refl}
use borrow.Author.Rules.{rules}
use Rattle.text.proofs.LineLaws.{line-less}
use Rattle.witness_load.proofs.NamingLaws.{names-none, names-end, names-fit, names-stop, names-refused, names_more}
use Rattle.witness_load.proofs.name_leaves.Goals as goal

pub loop-line-init : goal.loop-line-init
loop-line-init c = (refl, search names-none)

pub returns-then-ends_symbols : goal.returns-then-ends_symbols
returns-then-ends_symbols c = search (names-stop, c.in-Some.ensures)

pub name_line-requires : goal.name_line-requires
name_line-requires c = (search (names-fit, c.in-Some.ensures), search rules)

pub loop-line-smaller : goal.loop-line-smaller
loop-line-smaller c = search (line-less, c.in-Some.ensures)

pub loop-line-preserved : goal.loop-line-preserved
loop-line-preserved c = (search rules, search (names_more, c.in-Some.ensures))

pub returns-then-not-name_line : goal.returns-then-not-name_line
returns-then-not-name_line c = search (names-refused, c.in-Some.ensures)

pub returns : goal.returns
returns c = search (names-end, c.in_default.ensures)
