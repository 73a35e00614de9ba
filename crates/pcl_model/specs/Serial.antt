-- Scripts one after the other.
use Rattle.std.specs.Prelude.{◌≡◌, ℕ, ◌≤◌, Bool, List, Result, Err, ⊤}
use Rattle.std.specs.List.{list_all}
use Rattle.pcl_base.specs.Limits.{Sizes}
use Rattle.pcl_base.specs.declared.script.Step.{Step}
use Rattle.pcl_base.specs.declared.script.Script.{Script}
use Rattle.pcl_model.specs.declared.fault.SerialFault.{SerialFault}
use Rattle.pcl_model.specs.declared.fault.SerialFault.TheVariants.{Differs, NoMemory}
use Rattle.run_rules.specs.Base.{Base, version_at}
use Rattle.run_rules.specs.Running.{SerialDifference, step_fits}

-- the steps of a script
abbrev pub steps_of : Script → List Step
steps_of script = script.steps

-- whether the steps of a script are within a configuration
abbrev pub script_fits : Sizes → Script → Bool
script_fits c script = list_all (step_fits c.pages c.size) script.steps

-- a difference is that of the run; want of memory says nothing of it
abbrev pub IsNamedSerial : SerialFault → Result Base SerialDifference → Type 0
IsNamedSerial (Differs script place) ran = ran ≡ Err (record { script = script; place = place })
IsNamedSerial NoMemory ran = ⊤

-- no page has a version above k
abbrev pub AtMost : ℕ → Base → Type 0
AtMost k base = (p : ℕ) → version_at base p ≤ k
