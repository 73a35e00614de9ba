-- What is ready before a view is installed: its plans, and all memory.
use Rattle.std.specs.Prelude.{◌≡◌, ◌≢◌, ℕ, ◌+◌, ◌≤◌, true, List, length, replicate, Option, Some, None, IfSome}
use Rattle.run_rules.specs.Disk.{Disk}
use Rattle.run_rules.specs.Views.{View}
use Rattle.node_rules.specs.InstallRule.{in_view}
use Rattle.disk_model.specs.Disk.{Pages, Logs, ReachesTo, told_at}
use Rattle.home.specs.Moves.{Lists}
use Rattle.install_laws.specs.InstallPlans.{plan_install}
use Rattle.node_parts.specs.Outputs.{OutputsView}
use Rattle.node_parts.specs.State.{PartsView, node_of}
use Rattle.install_plans.specs.declared.plan.InstallPlan.{InstallPlan}
use Rattle.install_plans.specs.Installs.{install_of}
use Rattle.partition_steps.specs.Carried.{AreTurning, CanCarryEach}
use Rattle.partition_steps.specs.Memory.{HasMemoryFor, needs_of_all}
use Rattle.home.specs.Moves.{MoveListView}
use Rattle.install_laws.specs.InstallPlans.{Differing}
use Rattle.node_parts.specs.Stock.{StockView}
use Rattle.install_plans.specs.declared.plan.PartitionPlan.{PartitionPlan}
use Rattle.install_steps.specs.declared.ready.Ready.{Ready}
use Rattle.install_steps.specs.Births.{KeepsRecords, is_born_in, kept_if}
use Rattle.install_steps.specs.Calls.{AreFrom}
use Rattle.install_steps.specs.Views.{AreAptFrom, IsUnbegun}

-- the plans leave a table exactly where the node owns the partition in the view, there is one for each
-- partition unless a page differs, and that page was read with another number than it must have
pub record IsApt (v : PartsView) (w : View) (p : InstallPlan) : Type 0 where
  pub apt : AreAptFrom v w 0 p.plans.items
  pub all : p.differs ≡ None → length p.plans.items ≡ v.home.config.nodes
  pub differs : IfSome p.differs (λ x. x.expected ≢ x.found)

-- all is ready for the install of a view at these parts, with room for what it answers
pub record IsReady (v : PartsView) (w : View) (pages : Pages) (logs : Logs) (out : OutputsView) (r : Ready) : Type 0 where
  pub view : r.view ≡ w
  pub born : r.is_born ≡ is_born_in w (node_of v)
  pub unbegun : r.is_born ≡ true → IsUnbegun v.home.txs
  pub apt : IsApt v w r.plan
  pub within : IfSome r.keep (λ k. ReachesTo (told_at logs v.me) k)
  pub keeps : KeepsRecords v.home.config v.me r.keep logs
  pub kept : (d : Disk) → logs ≡ Some d.logs → r.keep ≡ kept_if (is_born_in w (node_of v)) d (node_of v)
  pub planned : (d : Disk) → pages ≡ Some d.pages → logs ≡ Some d.logs → plan_install d d.pages v.view w (in_view w (node_of v)) ≡ install_of d (node_of v) r.plan
  pub can : CanCarryEach v.home.config v.me pages logs r.plan.plans.items
  pub list : Lists r.memory.list v.home
  pub memory : HasMemoryFor (needs_of_all r.plan.plans.items) r.memory.stock out
  pub size : r.memory.stock.size ≡ v.home.config.size
  pub further : (needs_of_all r.plan.plans.items).replies + 1 ≤ out.reply_room
  pub none : r.none ≡ record { config = v.home.config; places = replicate v.home.config.nodes None }

-- what the trim and the plans of an install need, once the node is in the view
pub record MayWork (v : PartsView) (keep : Option ℕ) (plans : List (ℕ × PartitionPlan)) (differs : Option Differing) (list : MoveListView) (stock : StockView) (pages : Pages) (logs : Logs) (out : OutputsView) : Type 0 where
  pub turning : AreTurning v
  pub from : AreFrom v.home.config.nodes 0 plans
  pub can : CanCarryEach v.home.config v.me pages logs plans
  pub keeps : KeepsRecords v.home.config v.me keep logs
  pub within : IfSome keep (λ k. ReachesTo (told_at logs v.me) k)
  pub other : IfSome differs (λ x. x.expected ≢ x.found)
  pub listed : Lists list v.home
  pub memory : HasMemoryFor (needs_of_all plans) stock out
  pub size : v.home.config.size ≤ stock.size
