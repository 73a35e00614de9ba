use Rattle.page_laws.proofs.StorageParts.Calls.{forced_is_logged_law}
use Rattle.page_laws.proofs.storage.stored.forced_is_logged.Goals as goal

pub returns : goal.returns
returns c = forced_is_logged_law
