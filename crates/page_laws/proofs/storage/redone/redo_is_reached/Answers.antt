use Rattle.page_laws.proofs.StorageParts.Redos.{redo_is_reached_law}
use Rattle.page_laws.proofs.storage.redone.redo_is_reached.Goals as goal

pub returns : goal.returns
returns c = redo_is_reached_law
