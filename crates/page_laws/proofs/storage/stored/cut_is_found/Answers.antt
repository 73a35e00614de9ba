use Rattle.page_laws.proofs.StorageParts.ReadPages.{cut_is_found_law}
use Rattle.page_laws.proofs.storage.stored.cut_is_found.Goals as goal

pub returns : goal.returns
returns c = cut_is_found_law
