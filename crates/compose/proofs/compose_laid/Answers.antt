use Rattle.compose.proofs.LaidLaws.{laid_can, laid_refused, laid_printable, laid_unsafe, laid_written}
use Rattle.compose.proofs.compose_laid.Goals as goal

pub merge-requires : goal.merge-requires
merge-requires c = search laid_can

pub returns-in_err-merged : goal.returns-in_err-merged
returns-in_err-merged c = laid_refused _ _ _ _ _ _ _ c.merge.auto.work _ c.in_err-merged.ensures _ _ c.from_residual.ensures.1

pub returns-then-not-all_safe : goal.returns-then-not-all_safe
returns-then-not-all_safe c = search (laid_unsafe, c.in_ok-merged.ensures)

pub write_merged-requires : goal.write_merged-requires
write_merged-requires c = laid_printable _ _ _ _ _ _ _ c.merge.auto.work _ c.in_ok-merged.ensures c.requires

pub returns : goal.returns
returns c = search (laid_written, c.in_ok-merged.ensures)
