use Rattle.page_laws.proofs.StorageParts.Stops.{stops_leave_law}
use Rattle.page_laws.proofs.storage.stored.stops_leave.Goals as goal

pub returns : goal.returns
returns c = stops_leave_law
