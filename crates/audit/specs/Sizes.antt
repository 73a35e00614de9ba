-- A storage in memory of a configuration's sizes.
use Rattle.std.specs.Prelude.{Some}
use Rattle.pcl_base.specs.Limits.{Sizes}
use Rattle.disk_model.specs.Disk.{HasSizes}
use Rattle.disk_model.specs.Memory.{Disk, bytes_in, rooms_in}

-- it has the pages and the logs of the sizes
abbrev pub FitsIn : Sizes → Disk → Type 0
FitsIn c d = HasSizes c (Some d.pages) (Some (bytes_in d.logs)) (Some (rooms_in d.logs))
