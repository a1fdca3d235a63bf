use mathlib.Core.Path.{◌≡◌, ◌∙◌}
use lib.ListN.{length}
use Rattle.model.specs.Inner.Lent.{lent_record}
use Rattle.model_step.proofs.RunLaws.{run_outcome}
use Rattle.model_step.proofs.run.Goals as goal

pub returns : goal.returns
returns g c =
    let same : length c.run_gates.new.values ≡ length c.args.values.now = c.run_gates.auto.values ∙ c.load-2.auto.values ∙ c.load.auto.values in
    run_outcome (lent_record c.args.model.now) _ c.args.state c.args.input c.requires.0 _ _ _ _ _ _ _ _ _ _ _ c.requires.1 same c.currents-currents.ensures c.nexts-nexts.ensures
    c.first.ensures c.load.ensures c.first-2.ensures c.load-2.ensures c.run_gates.ensures
    c.first-3.ensures c.first-4.ensures c.read_out.ensures
