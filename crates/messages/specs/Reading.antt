-- Faults as the code has them, beside those of the definitions.
use Rattle.std.specs.Prelude.{ℕ, ◌-◌, List, ◌++◌, Option, Some, None, Result, Ok, Err}
use Rattle.text_rules.specs.FieldBytes.{Fault as Reason, Short as short, BadKind as bad_kind, BadField as bad_field, TooLong as too_long, Stop}
use Rattle.messages.specs.declared.fields.Fault.{Fault}
use Rattle.messages.specs.declared.fields.Fault.TheVariants.{Short, BadKind, BadField, TooLong}
use Rattle.text_rules.specs.ReadMessage.{Refusal}
use Rattle.messages.specs.declared.fault.DecodeFault.{DecodeFault}
use Rattle.messages.specs.declared.fault.DecodeFault.TheVariants.{Short as Short_at, BadKind as BadKind_at, BadField as BadField_at, TooLong as TooLong_at, NoMemory as NoMemory_at_all}
use Rattle.messages.specs.declared.fields.Stopped.{Stopped}
use Rattle.messages.specs.declared.fields.ReadFault.{ReadFault}
use Rattle.messages.specs.declared.fields.ReadFault.TheVariants.{Stopped as a_stop, NoMemory as no_memory}

-- what a field's fault is called in the definitions
abbrev pub fault_of : Fault → Reason
fault_of Short = short
fault_of BadKind = bad_kind
fault_of BadField = bad_field
fault_of TooLong = too_long

-- a stop of the code is one of the definitions
abbrev pub stop_of : Stopped → Stop
stop_of s = record { fault = fault_of s.fault; left = s.left }

-- the stop of a fault, where it isn't want of memory
abbrev pub stop_in : ReadFault → Option Stop
stop_in (a_stop s) = Some (stop_of s)
stop_in no_memory = None

-- items before those that were read
abbrev pub prefixed : {X : Type 0} → List X → Result (List X × List ℕ) Stop → Result (List X × List ℕ) Stop
prefixed made (Ok p) = Ok (made ++ p.0, p.1)
prefixed made (Err s) = Err s

-- a stop among so many bytes
abbrev pub refusal_of : ℕ → Stop → Refusal
refusal_of count s = record { fault = s.fault; place = count - s.left }

abbrev pub refusal : Reason → ℕ → Option Refusal
refusal fault place = Some (record { fault = fault; place = place })

-- the refusal that a fault is, where it isn't want of memory
abbrev pub refusal_in : DecodeFault → Option Refusal
refusal_in (Short_at place) = refusal short place
refusal_in (BadKind_at place) = refusal bad_kind place
refusal_in (BadField_at place) = refusal bad_field place
refusal_in (TooLong_at place) = refusal too_long place
refusal_in NoMemory_at_all = None
