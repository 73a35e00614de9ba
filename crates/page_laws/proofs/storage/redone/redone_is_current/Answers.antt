use Rattle.page_laws.proofs.StorageParts.Redos.{redone_is_current_law}
use Rattle.page_laws.proofs.storage.redone.redone_is_current.Goals as goal

pub returns : goal.returns
returns c = redone_is_current_law
