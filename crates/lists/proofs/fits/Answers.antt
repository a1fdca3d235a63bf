use Rattle.lists.proofs.BitLaws.{fits_test}
use Rattle.lists.proofs.fits.Goals as goal

pub returns-else-n-eq64 : goal.returns-else-n-eq64
returns-else-n-eq64 c = search fits_test
