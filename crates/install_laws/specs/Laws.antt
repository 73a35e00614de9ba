-- The laws of planned installs.
use Rattle.std.specs.Prelude.{◌≡◌, ℕ, ◌+◌, ◌<◌, ◌≤◌, ◌==◌, ⊤, true, false, List, [], ◌∷◌, ◌++◌, length, Option, Some, None, Ok}
use Rattle.std.specs.List.{AllByRecursion, list_any}
use Rattle.pcl_base.specs.declared.log.Record.{Record}
use Rattle.pcl_base.specs.declared.reply.Reply.TheVariants as reply
use Rattle.pcl_base.specs.declared.message.Report.{Report}
use Rattle.run_rules.specs.Disk.{Disk, raw_page}
use Rattle.run_rules.specs.Redo.{redone, all_records}
use Rattle.text_rules.specs.StoredPage.{PageAt, stored_page}
use Rattle.node_rules.specs.Words.{pick}
use Rattle.node_rules.specs.LockRule.{LockEntry, settle}
use Rattle.run_rules.specs.Views.{View, born_of, count_from}
use Rattle.node_rules.specs.LockTable.{LockTable, entry_at}
use Rattle.node_rules.specs.NodeState.{NodeState, Install, number_of, partition, table_at}
use Rattle.node_rules.specs.Work.{Work, Outcome, Goes, and_then, and_so, for_each, with_node, reply}
use Rattle.node_rules.specs.OwnerRule.{settle_page}
use Rattle.node_rules.specs.InstallRule.{install_partition, begin_life, in_view, install_view, on_report}
use Rattle.node_rules.specs.Refusals.{refusal}
use Rattle.node_rules.specs.NodeStep.{begin_work, plan_of, nodestep}
use Rattle.install_laws.specs.InstallPlans.{PageWrite, Due, PartitionPlan, decided, plan_settling, plan_install, carry_install, carry_due, put_planned, plan_partition, plan_report, carry_plan}

-- a node has a place for a table of each partition
abbrev pub HasTables : NodeState → Type 0
HasTables n = length n.tables ≡ n.home.config.nodes

-- settling some pages of a served partition is putting its table with all of them settled, and then
-- carrying the decisions out, one after the other
abbrev pub SettlingIsPlanned : Type 0
SettlingIsPlanned =
    (q : ℕ) (ps : List ℕ) (t : LockTable) (w : Work) → q < length w.node.tables → AllByRecursion (λ p. partition w.node.home.config p ≡ q) ps
    → table_at w.node q ≡ Some t → t.serving ≡ true
    → for_each settle_page ps w
    ≡ for_each carry_due (plan_settling (number_of w.node) ps t).decisions (put_planned q (Some (plan_settling (number_of w.node) ps t).table) w)

-- a plan, if it can be made, is carried out
abbrev pub carry_planned : ℕ → Outcome PartitionPlan → Work → Outcome Work
carry_planned q plan w = and_then plan (λ x. carry_plan q x w)

-- a partition at an install is planned from the state and the pages before it, and carried out
abbrev pub PartitionIsPlanned : Type 0
PartitionIsPlanned =
    (d : Disk) (before : Option View) (v : View) (q : ℕ) (w : Work) → HasTables w.node → q < w.node.home.config.nodes
    → install_partition d before v q w ≡ carry_planned q (plan_partition d w.pages before v q w.node) w

-- the plan of a partition is the same before and after another one
abbrev pub PlansAreApart : Type 0
PlansAreApart =
    (d : Disk) (before : Option View) (v : View) (q r : ℕ) (w x : Work) → HasTables w.node → q < w.node.home.config.nodes → r < w.node.home.config.nodes
    → (r == q) ≡ false → install_partition d before v q w ≡ Goes x
    → plan_partition d x.pages before v r x.node ≡ plan_partition d w.pages before v r w.node

-- a work in a view, whose reply was given, and whose life began where the node was born in it
abbrev pub begun : Disk → View → Work → Work
begun d v w =
    begin_life (born_of v (number_of w.node) == v.epoch) d v (reply (reply.Installed v.epoch) (with_node w (in_view v w.node)))

-- an install: all partitions are planned from the state and the pages in which it began, and then
-- the plans are carried out, one after the other
abbrev pub InstallIsPlanned : Type 0
InstallIsPlanned =
    (d : Disk) (v : View) (w : Work) → HasTables w.node
    → install_view d v w
    ≡ for_each (λ q. carry_planned q (plan_partition d w.pages w.node.view v q (begun d v w).node))
    (count_from 0 w.node.home.config.nodes) (begun d v w)

-- a report: its partition is planned from the state and the pages before it, and carried out
abbrev pub ReportIsPlanned : Type 0
ReportIsPlanned =
    (d : Disk) (from : ℕ) (r : Report) (w : Work) → HasTables w.node → r.partition < w.node.home.config.nodes
    → on_report d from r w ≡ carry_planned r.partition (plan_report d w.pages from r w.node) w

-- an install: all its plans are made first, from the state in which it begins; then they are carried
-- out, one after the other, up to the first that couldn't be made
abbrev pub PlansComeFirst : Type 0
PlansComeFirst =
    (d : Disk) (v : View) (w : Work) → HasTables w.node
    → install_view d v w ≡ carry_install (plan_install d w.pages w.node.view v (begun d v w).node) (begun d v w)

-- a node's step on a view that it isn't refused: the plans are made from the pages and logs before the
-- step
abbrev pub StepIsPlanned : Type 0
StepIsPlanned =
    (d : Disk) (v : View) (n : NodeState) → HasTables n → refusal n (Install v) ≡ None
    → nodestep n (Install v) d
    ≡ and_so
    (carry_install (plan_install d d.pages n.view v (begun d v (begin_work n d)).node) (begun d v (begin_work n d)))
    plan_of

-- each page of a list is there once
abbrev pub AreApart : List ℕ → Type 0
AreApart [] = ⊤
AreApart (p ∷ ps) = (list_any (λ r. r == p) ps ≡ false) × AreApart ps

-- the decisions where each page is settled by its entry in one and the same table
abbrev pub decided_alone : ℕ → LockTable → List ℕ → List Due
decided_alone me t [] = []
decided_alone me t (p ∷ ps) = decided p (settle me (entry_at t p)) ++ decided_alone me t ps

-- the entry of a page after settling some pages, each alone
abbrev pub settled_alone : ℕ → LockTable → List ℕ → ℕ → LockEntry
settled_alone me t ps p = pick (list_any (λ r. r == p) ps) (settle me (entry_at t p)).entry (entry_at t p)

-- settling an entry reads no other one, and changes no other one
abbrev pub EntriesSettleAlone : Type 0
EntriesSettleAlone =
    (me : ℕ) (ps : List ℕ) (t : LockTable) → AreApart ps
    → ((plan_settling me ps t).decisions ≡ decided_alone me t ps)
    × ((p : ℕ) → entry_at (plan_settling me ps t).table p ≡ settled_alone me t ps p)

-- a planned write: it is what redo makes of the stored page, at a greater version
pub record IsNewer (rs : List Record) (pages : List (List ℕ)) (x : PageWrite) : Type 0 where
  pub old : PageAt
  pub stored : stored_page x.page (raw_page pages x.page) ≡ Ok old
  pub redone : x.at ≡ redone rs x.page old
  pub newer : old.version < x.at.version

-- planned writes, whose pages rise, from `low` on
abbrev pub AreNewer : List Record → List (List ℕ) → ℕ → List PageWrite → Type 0
AreNewer rs pages low [] = ⊤
AreNewer rs pages low (x ∷ xs) = (low ≤ x.page) × IsNewer rs pages x × AreNewer rs pages (x.page + 1) xs

-- the writes of a plan
abbrev pub WritesAreNewer : Type 0
WritesAreNewer =
    (d : Disk) (pages : List (List ℕ)) (before : Option View) (v : View) (q : ℕ) (n : NodeState) (plan : PartitionPlan) → q < n.home.config.nodes
    → plan_partition d pages before v q n ≡ Goes plan
    → AllByRecursion (λ x. partition n.home.config x.page ≡ q) plan.writes × AreNewer (all_records n.home.config d) pages 0 plan.writes
