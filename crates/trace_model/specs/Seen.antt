-- What contracts see of a trace, and of the event that asks for an access.
use Rattle.std.specs.Prelude.{ℕ, Bool, false, List, Option, Some, None}
use Rattle.pcl_base.specs.Limits.{Sizes}
use Rattle.pcl_base.specs.declared.tx.TxId.{TxId}
use Rattle.pcl_base.specs.declared.event.Event.{Event}
use Rattle.pcl_base.specs.declared.event.Event.TheVariants.{Read, Write}
use Rattle.pcl_base.specs.declared.trace.Entry.{Entry}
use Rattle.run_rules.specs.Words.{pick, same_tx}
use Rattle.run_rules.specs.Script.{is_refused}

-- a configuration, the entries in order, and for how many more there is surely room
pub record TraceView : Type 0 where
  pub config : Sizes
  pub entries : List Entry
  pub spare : ℕ

-- the place and the bytes of a write
abbrev pub write_in : Event → Option (ℕ × List ℕ)
write_in (Write tx page place bytes) = Some (place, bytes)
write_in _ = None

-- the same of an event, if there is one
abbrev pub write_of : Option Event → Option (ℕ × List ℕ)
write_of None = None
write_of (Some event) = write_in event

-- whether an event is an access of a transaction
abbrev pub is_asked_by : TxId → Event → Bool
is_asked_by t (Read tx page) = same_tx t tx
is_asked_by t (Write tx page place bytes) = same_tx t tx
is_asked_by t _ = false

-- the write that t asked for last, so far w, once the event of an entry has happened
abbrev pub asked_write : TxId → Option (ℕ × List ℕ) → Entry → Option (ℕ × List ℕ)
asked_write t w e = pick (is_asked_by t e.event) (pick (is_refused e) w (write_in e.event)) w
