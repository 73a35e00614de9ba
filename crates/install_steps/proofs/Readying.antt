-- Plans that were made can be carried out.
use Rattle.std.proofs.Common.{◌≡◌, ℕ, ◌+◌, ◌<◌, ◌≤◌, Bool, true, replicate, List, [], ◌∷◌, map, Option, Some, None, refl, ap, sym, subst, ◌∙◌, arith}
use Rattle.std.specs.Prelude.{IfOk, IfSome, OnOk, Result, Ok, Err}
use Rattle.std.specs.List.{AllByRecursion}
use Rattle.pcl_base.specs.Limits.{Sizes}
use Rattle.pcl_base.specs.declared.message.Report.{Report}
use Rattle.run_rules.specs.Disk.{Disk}
use Rattle.run_rules.specs.Views.{View, count_from}
use Rattle.node_rules.specs.NodeState.{NodeState, table_at}
use Rattle.node_rules.specs.InstallRule.{in_view}
use Rattle.node_rules.specs.Work.{Outcome, Goes, Differs}
use Rattle.disk_model.specs.Disk.{Pages, Logs, ReachesTo, told_at}
use Rattle.home.specs.Moves.{Lists}
use Rattle.install_laws.specs.InstallPlans.{InstallPlan as Planning, PartitionPlan as Planned, before_others, plan_all, plan_install, plan_partition, plan_report}
use Rattle.partition_redo.specs.Chains.{PlannedView}
use Rattle.node_parts.specs.Outputs.{OutputsView}
use Rattle.node_parts.specs.State.{PartsView, node_of}
use Rattle.node_parts.specs.declared.fault.StepFault.{StepFault}
use Rattle.install_plans.specs.declared.plan.InstallPlan.{InstallPlan}
use Rattle.install_plans.specs.declared.plan.PartitionPlan.{PartitionPlan}
use Rattle.install_plans.specs.Installs.{FitsEach, install_of}
use Rattle.install_plans.specs.Plans.{CanRedo, Fits, plan_of, writes_by}
use Rattle.partition_steps.specs.Carried.{AreRising, CanCarry, CanCarryEach, CanWrite}
use Rattle.partition_steps.specs.Memory.{HasMemoryFor, needs_of_all}
use Rattle.partition_steps.proofs.Rising.{planned_rise_law, reported_rise_law}
use Rattle.install_steps.specs.declared.ready.Ready.{Ready}
use Rattle.install_steps.specs.Births.{KeepsRecords, is_born_in, kept_if}
use Rattle.install_steps.specs.Calls.{AreFrom}
use Rattle.install_steps.specs.Plans.{seen_plan}
use Rattle.install_steps.specs.Ready.{IsApt, IsReady}
use Rattle.install_steps.specs.Views.{AreAptFrom, IsUnbegun}

-- the plans of the rules are those of their partitions
each_planned : (f : ℕ → Outcome Planned) (qs : List ℕ) → AllByRecursion (λ (y : ℕ × Planned). f y.0 ≡ Goes y.1) (plan_all f qs).plans
unfolding plan_all
each_planned f [] = tt
each_planned f (q ∷ qs) = by (f q) refl (each_planned f qs)
  where
    by : (o : Outcome Planned) → f q ≡ o → AllByRecursion (λ (y : ℕ × Planned). f y.0 ≡ Goes y.1) (plan_all f qs).plans → AllByRecursion (λ (y : ℕ × Planned). f y.0 ≡ Goes y.1) (before_others q o (plan_all f qs)).plans
    by (Goes x) is rest = (is, rest)
    by (Differs p expected found) is rest = tt

-- so are plans that were made and are seen as these
each_made : (f : ℕ → Outcome Planned) (d : Disk) (n : NodeState) (xs : List (ℕ × PartitionPlan)) → AllByRecursion (λ (y : ℕ × Planned). f y.0 ≡ Goes y.1) (map (seen_plan d n) xs)
    → AllByRecursion (λ (x : ℕ × PartitionPlan). f x.0 ≡ Goes (plan_of d (table_at n x.0) x.1)) xs
each_made f d n [] all = tt
each_made f d n (x ∷ xs) all = (all.0, each_made f d n xs all.1)

-- a plan that fits can be carried out where its writes rise
pub can_of : (c : Sizes) (me q : ℕ) (pages : Pages) (logs : Logs) (p : PartitionPlan) → Fits c me q pages logs p
    → ((d : Disk) → pages ≡ Some d.pages → logs ≡ Some d.logs → AreRising 0 (writes_by d p.redo)) → CanCarry c me q pages logs p
can_of c me q pages logs p fits rising = record { fits = fits; redo = by p.redo fits.redo rising }
  where
    by : (o : Option PlannedView) → IfSome o (CanRedo c me pages logs) → ((d : Disk) → pages ≡ Some d.pages → logs ≡ Some d.logs → AreRising 0 (writes_by d o)) → IfSome o (CanWrite c me pages logs)
    by None can rises = tt
    by (Some r) can rises = record { redo = can; rising = rises }

module _ (v : PartsView) (w : View) (pages : Pages) (logs : Logs) where
  abbrev planned_at : Disk → ℕ → Outcome Planned
  planned_at d q = plan_partition d d.pages v.view w q (in_view w (node_of v))

  abbrev AreMade : List (ℕ × PartitionPlan) → Type 0
  AreMade xs = (d : Disk) → pages ≡ Some d.pages → logs ≡ Some d.logs → AllByRecursion (λ (x : ℕ × PartitionPlan). planned_at d x.0 ≡ Goes (plan_of d (table_at (node_of v) x.0) x.1)) xs

  -- the plans of an install are those of the rules
  are_made : (p : InstallPlan) → ((d : Disk) → pages ≡ Some d.pages → logs ≡ Some d.logs → plan_install d d.pages v.view w (in_view w (node_of v)) ≡ install_of d (node_of v) p) → AreMade p.plans.items
  are_made p planned d stored written =
      each_made (planned_at d) d (node_of v) p.plans.items
      (subst (λ (y : Planning). AllByRecursion (λ (z : ℕ × Planned). planned_at d z.0 ≡ Goes z.1) y.plans) (planned d stored written) (each_planned (planned_at d) (count_from 0 v.home.config.nodes)))

  all_can : (k : ℕ) (xs : List (ℕ × PartitionPlan)) → AreAptFrom v w k xs → AllByRecursion (λ (x : ℕ × PartitionPlan). Fits v.home.config v.me x.0 pages logs x.1) xs → AreMade xs → CanCarryEach v.home.config v.me pages logs xs
  all_can k [] apt fits made = tt
  all_can k (x ∷ xs) apt fits made =
      let number = apt.0.number in
      let below = apt.0.below in
      let low : x.0 < v.home.config.nodes = omega (arith, number, below) in (
        can_of v.home.config v.me x.0 pages logs x.1 fits.0
            (λ d stored written. planned_rise_law d v.view w x.0 (in_view w (node_of v)) (table_at (node_of v) x.0) x.1 low (made d stored written).0),
        all_can (k + 1) xs apt.1 fits.1 (λ d stored written. (made d stored written).1),
      )

  -- so they can be carried out
  pub install_can : (p : InstallPlan) → AreAptFrom v w 0 p.plans.items → FitsEach v.home.config v.me pages logs p
      → ((d : Disk) → pages ≡ Some d.pages → logs ≡ Some d.logs → plan_install d d.pages v.view w (in_view w (node_of v)) ≡ install_of d (node_of v) p) → CanCarryEach v.home.config v.me pages logs p.plans.items
  install_can p apt fits planned = all_can 0 p.plans.items apt fits (are_made p planned)

  -- their partitions rise
  pub apt_from : (k low : ℕ) (xs : List (ℕ × PartitionPlan)) → low ≤ k → AreAptFrom v w k xs → AreFrom v.home.config.nodes low xs
  apt_from k low [] less apt = tt
  apt_from k low (x ∷ xs) less apt =
      let number = apt.0.number in
      let below = apt.0.below in
      (omega (arith, number, less), omega (arith, number, below), apt_from (k + 1) (x.0 + 1) xs (omega (arith, number)) apt.1)

-- the plan of a report can be carried out
pub report_can : (v : PartsView) (from : ℕ) (r : Report) (pages : Pages) (logs : Logs) (p : PartitionPlan) → r.partition < v.home.config.nodes → Fits v.home.config v.me r.partition pages logs p
    → ((d : Disk) → pages ≡ Some d.pages → logs ≡ Some d.logs → plan_report d d.pages from r (node_of v) ≡ Goes (plan_of d (table_at (node_of v) r.partition) p)) → CanCarry v.home.config v.me r.partition pages logs p
report_can v from r pages logs p low fits planned =
    can_of v.home.config v.me r.partition pages logs p fits
    (λ d stored written. reported_rise_law d from r (node_of v) (table_at (node_of v) r.partition) p low (planned d stored written))

-- all that is ready
pub ready_of : (v : PartsView) (w : View) (pages : Pages) (logs : Logs) (out : OutputsView) (r : Ready) (b : Bool) (keep : Option ℕ) (p : InstallPlan) → r.view ≡ w → r.is_born ≡ b → r.keep ≡ keep → r.plan ≡ p
    → b ≡ is_born_in w (node_of v) → (b ≡ true → IsUnbegun v.home.txs) → IfSome keep (λ k. ReachesTo (told_at logs v.me) k) → KeepsRecords v.home.config v.me keep logs
    → ((d : Disk) → logs ≡ Some d.logs → keep ≡ kept_if b d (node_of v)) → IsApt v w p
    → ((d : Disk) → pages ≡ Some d.pages → logs ≡ Some d.logs → plan_install d d.pages v.view w (in_view w (node_of v)) ≡ install_of d (node_of v) p) → FitsEach v.home.config v.me pages logs p
    → Lists r.memory.list v.home → HasMemoryFor (needs_of_all p.plans.items) r.memory.stock out → r.memory.stock.size ≡ v.home.config.size → (needs_of_all p.plans.items).replies + 1 ≤ out.reply_room
    → r.none ≡ record { config = v.home.config; places = replicate v.home.config.nodes None } → IsReady v w pages logs out r
ready_of v w pages logs out r b keep p view born kept plan is unbegun within keeps found apt planned fits list memory size further none = record {
  view = view;
  born = born ∙ is;
  unbegun = λ yes. unbegun (sym born ∙ yes);
  apt = subst (IsApt v w) (sym plan) apt;
  within = subst (λ o. IfSome o (λ k. ReachesTo (told_at logs v.me) k)) (sym kept) within;
  keeps = subst (λ o. KeepsRecords v.home.config v.me o logs) (sym kept) keeps;
  kept = λ d told. kept ∙ (found d told ∙ ap (λ k. kept_if k d (node_of v)) is);
  planned = λ d stored told. planned d stored told ∙ ap (install_of d (node_of v)) (sym plan);
  can = subst (λ (x : InstallPlan). CanCarryEach v.home.config v.me pages logs x.plans.items) (sym plan) (install_can v w pages logs p apt.apt fits planned);
  list = list;
  memory = subst (λ (x : InstallPlan). HasMemoryFor (needs_of_all x.plans.items) r.memory.stock out) (sym plan) memory;
  size = size;
  further = subst (λ (x : InstallPlan). (needs_of_all x.plans.items).replies + 1 ≤ out.reply_room) (sym plan) further;
  none = none;
}

-- it is still ready where pages and logs are the same
pub ready_kept : (v : PartsView) (w : View) (pages later : Pages) (logs more : Logs) (out : OutputsView) (r : Ready) → later ≡ pages → more ≡ logs → IsReady v w pages logs out r → IsReady v r.view later more out r
ready_kept v w pages later logs more out r same written is =
    subst (λ x. IsReady v x later more out r) (sym is.view) (subst (λ x. IsReady v w x more out r) (sym same) (subst (λ x. IsReady v w pages x out r) (sym written) is))

-- the same of an answer
pub ready_answered : (v : PartsView) (w : View) (pages : Pages) (logs : Logs) (out : OutputsView) (b : Bool) (keep : Option ℕ) (p : InstallPlan) (a : Result Ready StepFault)
    → b ≡ is_born_in w (node_of v) → (b ≡ true → IsUnbegun v.home.txs) → IfSome keep (λ k. ReachesTo (told_at logs v.me) k) → KeepsRecords v.home.config v.me keep logs
    → ((d : Disk) → logs ≡ Some d.logs → keep ≡ kept_if b d (node_of v)) → IsApt v w p
    → ((d : Disk) → pages ≡ Some d.pages → logs ≡ Some d.logs → plan_install d d.pages v.view w (in_view w (node_of v)) ≡ install_of d (node_of v) p) → FitsEach v.home.config v.me pages logs p
    → IfOk a (λ r. r.view ≡ w) → IfOk a (λ r. r.is_born ≡ b) → IfOk a (λ r. r.keep ≡ keep) → IfOk a (λ r. r.plan ≡ p) → IfOk a (λ r. Lists r.memory.list v.home) → IfOk a (λ r. HasMemoryFor (needs_of_all p.plans.items) r.memory.stock out)
    → IfOk a (λ r. r.memory.stock.size ≡ v.home.config.size) → OnOk a ((needs_of_all p.plans.items).replies + 1 ≤ out.reply_room) → IfOk a (λ r. r.none ≡ record { config = v.home.config; places = replicate v.home.config.nodes None })
    → IfOk a (IsReady v w pages logs out)
ready_answered v w pages logs out b keep p (Ok r) is unbegun within keeps found apt planned fits view born kept plan list memory size further none =
    ready_of v w pages logs out r b keep p view born kept plan is unbegun within keeps found apt planned fits list memory size further none
ready_answered v w pages logs out b keep p (Err e) is unbegun within keeps found apt planned fits view born kept plan list memory size further none = tt
