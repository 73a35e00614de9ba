use Rattle.page_laws.proofs.StorageParts.Calls.{torn_is_not_logged_law}
use Rattle.page_laws.proofs.storage.stored.torn_is_not_logged.Goals as goal

pub returns : goal.returns
returns c = torn_is_not_logged_law
