use Rattle.node_laws.proofs.Disks.{fresh_fits_law}
use Rattle.node_laws.proofs.laws.fresh_fits.Goals as goal

pub returns : goal.returns
returns c = fresh_fits_law
