use Rattle.std.proofs.Common.{refl}
use Rattle.listing_laws.proofs.rows.row_of_counts.Goals as goal

pub returns : goal.returns
returns c = record { install = refl; revocation = refl; answer = refl; begin = refl }
