use Rattle.mk_splice.proofs.FoundSteps.{fits_are_told_lem}
use Rattle.mk_splice.proofs.laws.fits_are_told.Goals as goal

pub returns : goal.returns
returns c = fits_are_told_lem
