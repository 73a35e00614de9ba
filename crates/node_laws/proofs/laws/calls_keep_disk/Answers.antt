use Rattle.node_laws.proofs.Disks.{calls_keep_disk_law}
use Rattle.node_laws.proofs.laws.calls_keep_disk.Goals as goal

pub returns : goal.returns
returns c = calls_keep_disk_law
