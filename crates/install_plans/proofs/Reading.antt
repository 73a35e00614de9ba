-- What a node's parts have of a partition.
use Rattle.std.proofs.Common.{◌≡◌, ℕ, ◌<◌, ◌==◌, Bool, true, false, Option, Some, None, is_some, List, [], refl, ap, sym, ◌∙◌}
use Rattle.std.proofs.Math.ListN.{get_or-map}
use Rattle.std.specs.Option.{option_map}
use Rattle.pcl_base.specs.declared.message.Report.{Report}
use Rattle.run_rules.specs.Disk.{Disk}
use Rattle.run_rules.specs.Views.{View, owner_of, since_of}
use Rattle.node_rules.specs.LockTable.{LockTable}
use Rattle.node_rules.specs.NodeState.{NodeState, number_of, table_at}
use Rattle.node_rules.specs.Reports.{gather}
use Rattle.node_rules.specs.Work.{Goes}
use Rattle.install_laws.specs.InstallPlans.{Stays as stays, unsettled, plan_gathered, plan_rebuilt, plan_report_in, plan_report, plan_by, plan_partition}
use Rattle.lock_table.specs.Tables.{TableView, table_of}
use Rattle.node_parts.specs.State.{PartsView, AreParts, node_of, owns}
use Rattle.node_parts.specs.Tables.{place_at}
use Rattle.install_plans.specs.declared.plan.Turnover.TheVariants.{Stays}
use Rattle.install_plans.specs.declared.plan.TableAfter.TheVariants.{AsBefore}
use Rattle.install_plans.specs.declared.plan.PartitionPlan.{PartitionPlan as Made}
use Rattle.install_plans.specs.Plans.{plan_of}
use Rattle.install_plans.proofs.Plain.{plain_planned}
use Rattle.install_plans.proofs.Settled.{self}

-- the table of the rules that stands in a place
pub table_there : (v : PartsView) (q : ℕ) (o : Option TableView) → place_at v.tables.places q ≡ o → table_at (node_of v) q ≡ option_map table_of o
table_there v q o there = get_or-map (option_map table_of) v.tables.places q None ∙ ap (option_map table_of) there

-- a node in no view has no table
pub no_table : (v : PartsView) (q : ℕ) → AreParts v → q < v.home.config.nodes → v.view ≡ None → table_at (node_of v) q ≡ None
no_table v q parts low none = by (table_at (node_of v) q) (parts.node.owned q low ∙ ap (λ o. owns o v.home.txs.node q) none)
  where
    by : (o : Option LockTable) → is_some o ≡ false → o ≡ None
    by None is = refl
    by (Some t) is = let bad : true ≡ false = is in absurd (cc)

-- a plan by which all stays
pub stays_planned : (d : Disk) (before : Option LockTable) (p : Made)
    → p ≡ record { turnover = Stays; redo = None; table = AsBefore; begins = false; decisions = p.decisions; report = None } → p.decisions.items ≡ []
    → Goes (unsettled stays before) ≡ Goes (plan_of d before p)
stays_planned d before p is none = ap Goes (plain_planned d before Stays AsBefore None p is none)

module _ (d : Disk) (from : ℕ) (r : Report) (n : NodeState) where
  pub report_none : table_at n r.partition ≡ None → plan_report d d.pages from r n ≡ Goes (unsettled stays (table_at n r.partition))
  unfolding plan_report
  report_none none = ap (λ o. plan_report_in o d d.pages from r n) none ∙ ap (λ o. Goes (unsettled stays o)) (sym none)

  pub report_served : (t : LockTable) → table_at n r.partition ≡ Some t → t.serving ≡ true → plan_report d d.pages from r n ≡ Goes (unsettled stays (table_at n r.partition))
  unfolding plan_report
  report_served t there serving =
      ap (λ o. plan_report_in o d d.pages from r n) there
      ∙ (ap (λ b. plan_gathered b d d.pages from r n t) serving ∙ ap (λ o. Goes (unsettled stays o)) (sym there))

  pub report_taken : (t : LockTable) → table_at n r.partition ≡ Some t → t.serving ≡ false → plan_report d d.pages from r n ≡ plan_rebuilt stays d d.pages r.partition n (gather t from r)
  unfolding plan_report
  report_taken t there serving =
      ap (λ o. plan_report_in o d d.pages from r n) there ∙ ap (λ b. plan_gathered b d d.pages from r n t) serving

-- a test of equal numbers
pub are_equal : (m n : ℕ) → m ≡ n → (m == n) ≡ true
are_equal m n same = ap (λ k. m == k) (sym same) ∙ self m

-- the plan of a partition, where it is known who owns it and whether the owner is new
pub plan_with : (d : Disk) (pages : List (List ℕ)) (before : Option View) (v : View) (q me : ℕ) (n : NodeState) (own new : Bool) (owner since epoch : ℕ)
    → owner ≡ owner_of v q → me ≡ number_of n → since ≡ since_of v q → epoch ≡ v.epoch → (owner == me) ≡ own → (since == epoch) ≡ new
    → plan_partition d pages before v q n ≡ plan_by own new d pages before v q n
unfolding plan_partition
plan_with d pages before v q me n own new owner since epoch owns mine began now o s =
    let first : (owner_of v q == number_of n) ≡ own = (λ i. sym owns i == sym mine i) ∙ o in
    let second : (since_of v q == v.epoch) ≡ new = (λ i. sym began i == sym now i) ∙ s in
    λ i. plan_by (first i) (second i) d pages before v q n
