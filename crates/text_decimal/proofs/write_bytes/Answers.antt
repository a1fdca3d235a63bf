use native.Mathlib.Omega.{arith}
use borrow.Author.Rules.{rules}
use Rattle.lists.proofs.PartLaws.{copied_none, copied_more, copied-done}
use Rattle.text_decimal.proofs.WritingLaws.{no_room, room}
use Rattle.text_decimal.proofs.write_bytes.Goals as goal

pub returns-in_err-end : goal.returns-in_err-end
returns-in_err-end c = rw c.from_residual.ensures (no_room _ _ _ (λ h. c.in_err-end.ensures h))

pub loop-i-init : goal.loop-i-init
loop-i-init c = let fits = c.in_ok-end.ensures in copied_none _ _ _ (omega (arith, fits))

pub loop-i-preserved : goal.loop-i-preserved
loop-i-preserved c = search (rules, copied_more)

pub returns : goal.returns
returns c =
    let fits = c.in_ok-end.ensures in
    room _ _ _ _ _ (omega (arith, fits)) (omega (arith, fits)) (copied-done _ _ _ _ _ c.loop-i.invariant (omega arith))
