use Rattle.lists.proofs.PartLaws.{Copied}
use Rattle.obligation_claims.specs.Inner.Claims.{keys_from}
use Rattle.obligation_claims.proofs.add_keys.Given as goal

abbrev pub invariant-loop-i : goal.invariant-loop-i
invariant-loop-i l = Copied l.initial.keys l.at (keys_from l.place l.literals) l.keys l.i
