use Rattle.page_laws.proofs.StorageParts.Calls.{other_logs_stay_law}
use Rattle.page_laws.proofs.storage.stored.other_logs_stay.Goals as goal

pub returns : goal.returns
returns c = other_logs_stay_law
