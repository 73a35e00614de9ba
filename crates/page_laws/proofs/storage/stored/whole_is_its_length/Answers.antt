use Rattle.page_laws.proofs.StorageParts.Calls.{whole_is_its_length_law}
use Rattle.page_laws.proofs.storage.stored.whole_is_its_length.Goals as goal

pub returns : goal.returns
returns c = whole_is_its_length_law
