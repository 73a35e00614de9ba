-- A table that takes a report in is served where it was served before.
use Rattle.std.proofs.Common.{◌≡◌, ℕ, ◌&&◌, not, Bool, false, Option, Some, List, [], ◌∷◌, Result, refl, ap, sym, ◌∙◌, subst}
use Rattle.pcl_base.specs.Limits.{Sizes}
use Rattle.pcl_base.specs.declared.message.Report.{Report}
use Rattle.pcl_base.specs.declared.message.ReportLock.{ReportLock}
use Rattle.pcl_base.specs.declared.message.ReportRight.{ReportRight}
use Rattle.pcl_base.specs.declared.message.ReportWait.{ReportWait}
use Rattle.run_rules.specs.Disk.{Disk}
use Rattle.run_rules.specs.Views.{View}
use Rattle.node_rules.specs.LockRule.{ask, reported, reported_right}
use Rattle.node_rules.specs.LockTable.{LockTable, entry_at, put_entry, open_table}
use Rattle.node_rules.specs.Reports.{gather_locks, gather_rights, gather_waits, gather, missing}
use Rattle.node_rules.specs.NodeState.{NodeState}
use Rattle.node_rules.specs.InstallRule.{is_complete}
use Rattle.install_laws.specs.InstallPlans.{Turnover, plan_rebuilt}
use Rattle.lock_table.specs.Tables.{TableView, table_of}
use Rattle.node_parts.specs.declared.fault.StepFault.{StepFault}
use Rattle.install_plans.specs.declared.plan.PartitionPlan.{PartitionPlan as Made}
use Rattle.install_plans.specs.Plans.{Plans}

locks_serving : (t : LockTable) (xs : List ReportLock) → (gather_locks t xs).serving ≡ t.serving
unfolding gather_locks
locks_serving t [] = refl
locks_serving t (x ∷ xs) = locks_serving (put_entry t x.page (reported (entry_at t x.page) x.tx x.mode)) xs

rights_serving : (t : LockTable) (n : ℕ) (xs : List ReportRight) → (gather_rights t n xs).serving ≡ t.serving
unfolding gather_rights
rights_serving t n [] = refl
rights_serving t n (x ∷ xs) = rights_serving (put_entry t x.page (reported_right (entry_at t x.page) n)) n xs

waits_serving : (t : LockTable) (xs : List ReportWait) → (gather_waits t xs).serving ≡ t.serving
unfolding gather_waits
waits_serving t [] = refl
waits_serving t (x ∷ xs) = waits_serving (put_entry t x.page (ask (entry_at t x.page) (record { tx = x.tx; mode = x.mode; have = x.have }))) xs

pub gather_serving : (t : LockTable) (n : ℕ) (r : Report) → (gather t n r).serving ≡ t.serving
unfolding gather
gather_serving t n r =
    waits_serving (gather_rights (gather_locks t r.locks) n r.rights) r.waits
    ∙ (rights_serving (gather_locks t r.locks) n r.rights ∙ locks_serving t r.locks)

-- a table that isn't served is complete where no report is missing
pub complete_of : (o : Option View) (v : View) (q : ℕ) (t : LockTable) (b : Bool) → o ≡ Some v → t.serving ≡ false → b ≡ not (missing t v q)
    → is_complete o q (Some t) ≡ b
complete_of o v q t b seen serving is =
    ap (λ x. is_complete x q (Some t)) seen ∙ (ap (λ s. not s && not (missing t v q)) serving ∙ sym is)

-- the plan of a table that is rebuilt, from the table that was made
pub rebuilt_as : (o : Turnover) (d : Disk) (n : NodeState) (before : Option LockTable) (u : TableView) (q : ℕ) (w : LockTable) (r : Result Made StepFault)
    → u.partition ≡ q → table_of u ≡ w → Plans (plan_rebuilt o d d.pages u.partition n (table_of u)) d before r → Plans (plan_rebuilt o d d.pages q n w) d before r
rebuilt_as o d n before u q w r place same plans =
    subst (λ x. Plans (plan_rebuilt o d d.pages q n x) d before r) same (subst (λ p. Plans (plan_rebuilt o d d.pages p n (table_of u)) d before r) place plans)

-- a table that is opened to be rebuilt isn't served
pub open_serves : (c : Sizes) (q : ℕ) (t : LockTable) → t ≡ open_table c q false → t.serving ≡ false
unfolding open_table
open_serves c q t is = ap (λ (x : LockTable). x.serving) is
