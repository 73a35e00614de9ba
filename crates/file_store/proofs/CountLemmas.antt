-- Counts of faults rise.
use Rattle.std.proofs.Common.{◌≤◌}
use Rattle.pcl_base.specs.declared.trace.Call.{Call}
use Rattle.pcl_base.specs.declared.trace.Call.TheVariants.{Read, Log, Write, Force, Trim, Cut}
use Rattle.file_store.specs.declared.counts.Faults.{Faults}
use Rattle.file_store.specs.Counting.{count_of}

-- counts that are each at least what they were
pub counts_later : (f g : Faults) → f.read ≤ g.read → f.log ≤ g.log → f.write ≤ g.write → f.force ≤ g.force → f.trim ≤ g.trim → f.cut ≤ g.cut → (k : Call) → count_of f k ≤ count_of g k
counts_later f g a b c d e h Read = a
counts_later f g a b c d e h Log = b
counts_later f g a b c d e h Write = c
counts_later f g a b c d e h Force = d
counts_later f g a b c d e h Trim = e
counts_later f g a b c d e h Cut = h
