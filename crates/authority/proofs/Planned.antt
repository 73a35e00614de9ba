-- The laws of plans.
use Rattle.std.proofs.Common.{◌≡◌, ℕ, Bool, true, false, List, Option, Some, None, refl, ap, ◌∙◌}
use Rattle.pcl_base.specs.declared.tx.TxId.{TxId}
use Rattle.pcl_base.specs.declared.message.Change.{Change}
use Rattle.node_rules.specs.LockRule.{ask, returned, takes_change, end_tx}
use Rattle.node_rules.specs.LockTable.{LockTable, entry_at}
use Rattle.node_rules.specs.NodeState.{number_of}
use Rattle.node_rules.specs.OwnerRule.{carry_all, end_in, change_if_served, version_of_change}
use Rattle.authority.specs.Plans.{version_if, settled}
use Rattle.authority.specs.PlanLaws.{RequestsArePlanned, ReturnsArePlanned, EndsArePlanned, ChangesAreTaken, SettlingIsPlanned}
use Rattle.authority.proofs.Entering.{enter_as_plan, settle_as_plan}

-- the version of a change that counts
version_served : (b : Bool) (c : Option Change) → version_of_change (change_if_served b c) ≡ version_if b (version_of_change c)
version_served true c = refl
version_served false c = refl

pub requests_law : RequestsArePlanned
requests_law t p a w there = enter_as_plan p t w there (λ e. ask e a)

pub returns_law : ReturnsArePlanned
returns_law t p from readers w there = enter_as_plan p t w there (λ e. returned e from readers)

pub ends_law : EndsArePlanned
ends_law t p tx c w there =
    enter_as_plan p t w there (end_in tx (change_if_served t.serving c))
    ∙ ap (λ v. carry_all p t (settled t.serving (number_of w.node) (end_tx (entry_at t p) tx v)) w) (version_served t.serving c)

pub changes_law : ChangesAreTaken
changes_law t me p tx c = ap (λ v. takes_change (entry_at t p) tx v) (version_served t.serving c)

pub settling_law : SettlingIsPlanned
settling_law t p w there same = settle_as_plan p t w there same
