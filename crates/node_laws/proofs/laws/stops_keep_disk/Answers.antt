use Rattle.node_laws.proofs.Disks.{stops_keep_disk_law}
use Rattle.node_laws.proofs.laws.stops_keep_disk.Goals as goal

pub returns : goal.returns
returns c = stops_keep_disk_law
