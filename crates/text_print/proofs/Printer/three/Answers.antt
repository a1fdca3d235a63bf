use mathlib.Core.Path.{refl, ap}
use native.Mathlib.Omega.{arith}
use lib.ListN.{length}
use Rattle.text_print.proofs.WriteLaws.{three_length, three_put, passed_put}
use Rattle.text_print.proofs.Printer.three.Goals as goal

pub returns-in-Some : goal.returns-in-Some
returns-in-Some c =
    let long = three_length _ _ _ _ _ _ c.digit_count-first.ensures.0 c.digit_count-second.ensures.0 c.digit_count-third.ensures.0 in
    let put = three_put _ _ _ _ _ _ c.digit_count-first.ensures.0 c.digit_count-second.ensures.0 c.digit_count-third.ensures.0 c.pass.new.self.out.now _ _ _ c.in-Some.at
    (omega (arith, c.in-Some.ensures, ap length c.pass.ensures.0.same_bytes)) c.write_field.ensures c.write_field-in-Some.ensures c.write_field-in-Some-2.ensures _ _ _ refl refl refl in
    passed_put _ _ _ _ _ c.pass.ensures.0 long (omega (arith, c.in-Some.ensures)) refl refl _ (omega (arith, c.in-Some.ensures)) put
