use Rattle.std.proofs.Common.{◌*◌, length, refl, sym, ap, ◌∙◌, rules, arith}
use Rattle.lists.specs.Parts.{put}
use Rattle.witness_load.proofs.SectionLaws.{pair_back, loading-none, loading-more, loading_bad, loading-done}
use Rattle.witness_load.proofs.load_pairs.Goals as goal

pub loop-i-init : goal.loop-i-init
loop-i-init g c = (refl, λ n e. loading-none _ _ _ _ _)

pub returns-in_err-line : goal.returns-in_err-line
returns-in_err-line g c n e =
    rw c.from_residual.ensures (loading_bad _ _ _ _ _ _ _ _ (c.loop-i.invariant.1 n e) (omega (arith, c.loop-i-test.true)) c.in_err-line.ensures)

pub loop-i-preserved : goal.loop-i-preserved
loop-i-preserved g c = (
  search rules,
  λ n e. loading-more _ _ _ _ _ _ _ _ (c.loop-i.invariant.1 n e) g.met.K.PairLine.two (omega (arith, c.loop-i-test.true)) _ _ c.in_ok-line.ensures _
      (pair_back _ _ _ (ap length c.store_pair.ensures) ∙ ap (put c.loop-i.out (2 * c.loop-i.i)) (c.store_pair.ensures ∙ sym c.pair-x.ensures)),
)

pub returns : goal.returns
returns g c n e = loading-done _ _ _ _ _ _ _ _ (c.loop-i.invariant.1 n e) g.met.K.PairLine.two e (omega (arith, c.loop-i-test.false))
