-- Committed transactions are as if they had run one after the other, in commit order.
use Rattle.std.specs.Prelude.{◌≡◌, ℕ, Bool, List, [], ◌∷◌, is_some}
use Rattle.std.specs.List.{flat_map}
use Rattle.std.specs.Prelude.{Option, None}
use Rattle.pcl_base.specs.Limits.{Sizes}
use Rattle.pcl_base.specs.declared.tx.TxId.{TxId}
use Rattle.pcl_base.specs.declared.trace.Entry.{Entry}
use Rattle.run_rules.specs.Script.{Moment, Commits, moments}
use Rattle.run_rules.specs.Now.{Story, first_story, after_entry, first_fault}

-- the transaction of a commit point
abbrev pub committed : Moment → List TxId
committed (Commits tx) = tx ∷ []
committed _ = []

-- serial order: the transactions of the commit points in the order of the trace
unfoldable pub serial : List Entry → List TxId
serial trace = flat_map committed (moments trace)

-- whether no read of the commit points of an entry differs
abbrev pub is_serial : Story → Entry → Bool
is_serial s e = is_some (after_entry s e).base

-- the first entry, counted from 1, with a commit point whose script has a read that differs
abbrev pub serial_fault : Sizes → List Entry → Option ℕ
serial_fault c trace = first_fault is_serial 1 (first_story c) trace

-- Serial: running the scripts of the commit points from the first base meets no read that differs
abbrev pub IsSerial : Sizes → List Entry → Type 0
IsSerial c trace = serial_fault c trace ≡ None
