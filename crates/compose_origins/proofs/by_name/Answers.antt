use Rattle.compose_origins.proofs.MappingLaws.{name-short, name-mapped, name_private}
use Rattle.compose_origins.proofs.by_name.Goals as goal

pub returns-then-name-lt2 : goal.returns-then-name-lt2
returns-then-name-lt2 c = search name-short

pub returns-then-begins_with : goal.returns-then-begins_with
returns-then-begins_with c = search name-mapped

pub returns : goal.returns
returns c = search name_private
