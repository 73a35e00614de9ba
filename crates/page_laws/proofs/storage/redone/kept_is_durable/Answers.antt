use Rattle.page_laws.proofs.StorageParts.Durables.{kept_is_durable_law}
use Rattle.page_laws.proofs.storage.redone.kept_is_durable.Goals as goal

pub returns : goal.returns
returns c = kept_is_durable_law
