use Rattle.c_typing.proofs.Composites.{composite_fits}
use Rattle.c_typing.proofs.laws.composite_fits.Goals as goal

pub returns : goal.returns
returns c = composite_fits
