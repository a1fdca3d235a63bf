use Rattle.witness_text.proofs.SymbolLaws.{kind-input, kind_latch, kind-output, kind_bad, kind_constraint, kind-other}
use Rattle.witness_text.proofs.kind_of.Goals as goal

pub returns-in-105 : goal.returns-in-105
returns-in-105 c = search kind-input

pub returns-in-108 : goal.returns-in-108
returns-in-108 c = search kind_latch

pub returns-in-111 : goal.returns-in-111
returns-in-111 c = search kind-output

pub returns-in-98 : goal.returns-in-98
returns-in-98 c = search kind_bad

pub returns-in-99 : goal.returns-in-99
returns-in-99 c = search kind_constraint

pub returns-in_default : goal.returns-in_default
returns-in_default c = search kind-other
