use Rattle.page_laws.proofs.StorageParts.Redos.{redone_is_reached_law}
use Rattle.page_laws.proofs.storage.redone.redone_is_reached.Goals as goal

pub returns : goal.returns
returns c = redone_is_reached_law
