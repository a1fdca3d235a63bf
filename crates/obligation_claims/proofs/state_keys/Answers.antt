use native.Mathlib.Omega.{arith}
use mathlib.Core.Path.{sym}
use borrow.Author.Rules.{rules}
use Rattle.obligation_claims.proofs.KeyLaws.{keys_length, sorted_front, in_order_lem}
use Rattle.obligation_claims.proofs.state_keys.Goals as goal

pub returns : goal.returns
returns c = in_order_lem _ _ _ _ _ c.add_keys.ensures (sym (keys_length 0 c.args.literals.now)) (search rules) (omega (arith, c.add_keys.auto.keys, c.requires.1)) (sorted_front c.add_keys.new.keys c.sort.new.s _ (omega (arith, c.add_keys.auto.keys, c.requires.1)) c.sort.ensures)
