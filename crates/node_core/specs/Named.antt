-- The transaction that a halt of a commit names.
use Rattle.std.specs.Prelude.{List, Option, None, Result, Ok, Err}
use Rattle.std.specs.List.{fold}
use Rattle.pcl_base.specs.declared.trace.Call.{Call}
use Rattle.pcl_base.specs.declared.trace.Call.TheVariants as call
use Rattle.pcl_base.specs.declared.tx.TxId.{TxId}
use Rattle.node_rules.specs.DiskCalls.{DiskCall, forced}
use Rattle.node_parts.specs.declared.fault.StepFault.{StepFault}
use Rattle.node_parts.specs.declared.fault.StepFault.TheVariants.{NoMemory, Halted, Differs}

-- the transaction whose record is forced by some calls
abbrev pub forced_by : List DiskCall → Option TxId
forced_by calls = fold forced None calls

-- a halt at a read names the one that was forced before; one at another call names whom it named
abbrev pub kept_at : Call → Option TxId → Option TxId → Option TxId
kept_at call.Read t kept = t
kept_at _ t kept = kept

-- the same of an answer
abbrev pub names_forced : {T : Type 0} → Option TxId → Result T StepFault → Result T StepFault
names_forced t (Ok x) = Ok x
names_forced t (Err (Halted k kept)) = Err (Halted k (kept_at k t kept))
names_forced t (Err (Differs page expected found)) = Err (Differs page expected found)
names_forced t (Err NoMemory) = Err NoMemory
