-- Faults of fields as the code has them, beside those of the definitions.
use Rattle.std.specs.Prelude.{ℕ, List, ◌++◌, Option, Some, None, Result, Ok, Err}
use Rattle.text_rules.specs.FieldBytes.{Fault as Reason, Short as short, BadField as bad_field, TooLong as too_long, Stop}
use Rattle.redo_log.specs.declared.fields.Fault.{Fault}
use Rattle.redo_log.specs.declared.fields.Fault.TheVariants.{Short, BadField, TooLong}
use Rattle.redo_log.specs.declared.fields.Stopped.{Stopped}
use Rattle.redo_log.specs.declared.fields.ReadFault.{ReadFault}
use Rattle.redo_log.specs.declared.fields.ReadFault.TheVariants.{Stopped as a_stop, NoMemory as no_memory}

-- what a field's fault is called in the definitions
abbrev pub fault_of : Fault → Reason
fault_of Short = short
fault_of BadField = bad_field
fault_of TooLong = too_long

-- a stop of the code is one of the definitions
abbrev pub stop_of : Stopped → Stop
stop_of s = record { fault = fault_of s.fault; left = s.left }

-- the stop of a fault, where it isn't want of memory
abbrev pub stop_in : ReadFault → Option Stop
stop_in (a_stop s) = Some (stop_of s)
stop_in no_memory = None

-- items before those that were read
abbrev pub prefixed : {X : Type 0} → List X → Result (List X × List ℕ) Stop → Result (List X × List ℕ) Stop
prefixed made (Ok p) = Ok (made ++ p.0, p.1)
prefixed made (Err s) = Err s
