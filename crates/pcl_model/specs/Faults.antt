-- What a fault of a call says of the run.
use Rattle.std.specs.Prelude.{◌≡◌, Result, Err, ⊤}
use Rattle.pcl_model.specs.declared.fault.ApplyFault.{ApplyFault}
use Rattle.pcl_model.specs.declared.fault.ApplyFault.TheVariants.{Differs, NoMemory}
use Rattle.run_rules.specs.Base.{Base}
use Rattle.run_rules.specs.Running.{Difference}

-- a difference is that of the run; want of memory says nothing of it
abbrev pub IsNamed : ApplyFault → Result Base Difference → Type 0
IsNamed (Differs place expected) ran = ran ≡ Err (record { place = place; expected = expected })
IsNamed NoMemory ran = ⊤
