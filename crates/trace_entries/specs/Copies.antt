-- Events without lists.
use Rattle.pcl_base.specs.declared.event.Event.{Event}
use Rattle.pcl_base.specs.declared.event.Event.TheVariants.{Write, View}

-- an event that has neither bytes nor flags
abbrev pub IsBare : Event → Type 0
IsBare (Write tx page place bytes) = ⊥
IsBare (View live owners) = ⊥
IsBare _ = Unit {0}
