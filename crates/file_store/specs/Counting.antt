-- The counts of faults of a store of files.
use Rattle.pcl_base.specs.declared.trace.Call.TheVariants.{Read, Log, Write, Force, Trim, Cut}
use Rattle.file_store.specs.declared.counts.Faults.{Faults}
use Rattle.disk_model.specs.Causes.{Counts}

-- the count of each kind
abbrev pub count_of : Faults → Counts
count_of f Read = f.read
count_of f Log = f.log
count_of f Write = f.write
count_of f Force = f.force
count_of f Trim = f.trim
count_of f Cut = f.cut
