-- Why no view was made.
use Rattle.std.specs.Prelude.{ℕ, Option, Some, None}
use Rattle.run_rules.specs.Words.{pick}
use Rattle.run_rules.specs.Views.{View, keeps_six}
use Rattle.authority_map.specs.declared.view.ViewFault.{ViewFault}
use Rattle.authority_map.specs.declared.view.ViewFault.TheVariants.{BadView, NoMemory}

-- the rule that a fault names; want of memory names none
abbrev pub rule_of : ViewFault → Option ℕ
rule_of (BadView rule) = Some rule
rule_of NoMemory = None

-- the rule that a view after all nodes were down breaks
abbrev pub reopen_broken : View → Option ℕ
reopen_broken before = pick (keeps_six before) None (Some 6)
