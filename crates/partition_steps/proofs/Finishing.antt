-- A plan, carried out part by part.
use Rattle.std.proofs.Common.{◌≡◌, ℕ, ◌++◌, Bool, List, map, Option, None, Result, Err, ap, sym, subst, ◌∙◌, slice_index_or, slice_set}
use Rattle.pcl_base.specs.declared.trace.Call.{Call}
use Rattle.pcl_base.specs.declared.tx.TxId.{TxId}
use Rattle.node_rules.specs.DiskCalls.{DiskCall}
use Rattle.node_rules.specs.LockTable.{LockTable}
use Rattle.node_rules.specs.NodeState.{HomeState, NodeState, table_at}
use Rattle.node_rules.specs.Work.{Work, Outcome, Goes, Differs, and_so, for_each}
use Rattle.install_laws.specs.InstallPlans.{PageWrite, Due, PartitionPlan, carry_due, carry_plan, put_planned, reply_if, turned}
use Rattle.install_plans.specs.declared.plan.TableAfter.{TableAfter}
use Rattle.install_plans.specs.declared.plan.PartitionPlan.{PartitionPlan as MadePlan}
use Rattle.install_plans.specs.Plans.{plan_of, table_after, turnover_of, writes_by}
use Rattle.partition_redo.specs.Chains.{PlannedView}
use Rattle.run_rules.specs.Disk.{Disk}
use Rattle.node_parts.specs.Comes.{Comes, work_of}
use Rattle.node_parts.specs.Outputs.{OutputsView}
use Rattle.node_parts.specs.State.{PartsView, node_of}
use Rattle.node_parts.specs.Tables.{TablesView, lock_tables}
use Rattle.node_parts.specs.declared.fault.StepFault.{StepFault}
use Rattle.node_parts.specs.declared.fault.StepFault.TheVariants as fault
use Rattle.page_owner.specs.Writes.{after_calls}
use Rattle.partition_steps.specs.Carried.{cleaned, finished, plan_calls, write_call}
use Rattle.partition_steps.proofs.Cleaning.{turned_over}

pub carried : (q : ℕ) (plan : PartitionPlan) (n : NodeState) (h : HomeState) (ps : List (List ℕ)) (cs : List DiskCall) (out : OutputsView)
    → h ≡ cleaned (turned plan.turnover q n.home) (map (λ (x : PageWrite). x.page) plan.writes)
    → carry_plan q plan (work_of n ps cs out)
    ≡ finished q plan.table plan.begins plan.decisions plan.told
    (work_of (record n { home = h }) (after_calls ps (map write_call plan.writes)) (cs ++ map write_call plan.writes) out)
unfolding carry_plan
carried q plan n h ps cs out is =
    ap (finished q plan.table plan.begins plan.decisions plan.told)
    (turned_over q plan (work_of n ps cs out)
    ∙ ap (λ (k : HomeState). work_of (record n { home = k }) (after_calls ps (map write_call plan.writes)) (cs ++ map write_call plan.writes) out) (sym is))

-- a call failed, of which the rule says nothing
pub halted_comes : (T : Type 0) (o : Outcome Work) (k : Call) (kept : Option TxId) (after : Work) → Comes {T = T} o (Err (fault.Halted k kept)) after
halted_comes T (Goes w) k kept after = tt
halted_comes T (Differs p e f) k kept after = tt

-- a rule that goes on where nothing more can differ
pub so_failed : (X Y : Type 0) (o : Outcome Work) (f : Work → Work) (e : StepFault) (mid after : Work) → Comes {T = X} o (Err e) mid → Comes {T = Y} (and_so o f) (Err e) after
so_failed X Y (Goes k) f (fault.Differs p m n) mid after failed = absurd failed
so_failed X Y (Goes k) f (fault.Halted c kept) mid after failed = tt
so_failed X Y (Goes k) f fault.NoMemory mid after failed = tt
so_failed X Y (Differs p m n) f (fault.Differs q a b) mid after failed = failed
so_failed X Y (Differs p m n) f (fault.Halted c kept) mid after failed = tt
so_failed X Y (Differs p m n) f fault.NoMemory mid after failed = tt

-- the decisions of a plan, after the table and the reply
pub decisions_first : (u v : PartsView) (q : ℕ) (table : TableAfter) (tables : TablesView) (begins : Bool) (ds dues : List Due) (out after : OutputsView) → u ≡ v
    → lock_tables tables.places ≡ slice_set (lock_tables u.tables.places) q (table_after table (slice_index_or (lock_tables u.tables.places) q None)) → dues ≡ ds
    → ((n : NodeState) (ps : List (List ℕ)) (cs : List DiskCall) → reply_if begins q (work_of n ps cs out) ≡ work_of n ps cs after)
    → (ps : List (List ℕ)) (cs : List DiskCall)
    → for_each carry_due ds (reply_if begins q (put_planned q (table_after table (table_at (node_of v) q)) (work_of (node_of v) ps cs out)))
    ≡ for_each carry_due dues (work_of (record (node_of u) { tables = lock_tables tables.places }) ps cs after)
decisions_first u v q table tables begins ds dues out after is put same replied ps cs =
    let n : NodeState = record (node_of u) { tables = lock_tables tables.places } in
    ap (λ (z : PartsView). for_each carry_due ds (reply_if begins q (put_planned q (table_after table (table_at (node_of z) q)) (work_of (node_of z) ps cs out)))) (sym is)
    ∙ ap (λ (l : List (Option LockTable)). for_each carry_due ds (reply_if begins q (work_of (record (node_of u) { tables = l }) ps cs out))) (sym put)
    ∙ ap (for_each carry_due ds) (replied n ps cs)
    ∙ ap (λ (l : List Due). for_each carry_due l (work_of n ps cs after)) (sym same)

-- the whole plan, where the pages are written and their copies are clean
pub carried_comes : (T : Type 0) (r : Result T StepFault) (u v : PartsView) (q : ℕ) (d : Disk) (plan : MadePlan) (redo : Option PlannedView) (first h : HomeState) (cs : List DiskCall) (out : OutputsView) (after : Work)
    → u ≡ v → redo ≡ plan.redo → first ≡ turned (turnover_of plan.turnover) q u.home → h ≡ cleaned first (map (λ (x : PageWrite). x.page) (writes_by d redo))
    → Comes {T = T} (finished q (table_after plan.table (table_at (node_of u) q)) plan.begins plan.decisions.items plan.report
    (work_of (record (node_of u) { home = h }) (after_calls d.pages (plan_calls d plan)) (cs ++ plan_calls d plan) out)) r after
    → Comes {T = T} (carry_plan q (plan_of d (table_at (node_of v) q) plan) (work_of (node_of v) d.pages cs out)) r after
carried_comes T r u v q d plan redo first h cs out after is same turn clean comes =
    let home : h ≡ cleaned (turned (turnover_of plan.turnover) q u.home) (map (λ (x : PageWrite). x.page) (writes_by d plan.redo)) =
    clean ∙ ap (λ (o : Option PlannedView). cleaned first (map (λ (x : PageWrite). x.page) (writes_by d o))) same
    ∙ ap (λ (k : HomeState). cleaned k (map (λ (x : PageWrite). x.page) (writes_by d plan.redo))) turn in
    subst (λ (z : PartsView). Comes {T = T} (carry_plan q (plan_of d (table_at (node_of z) q) plan) (work_of (node_of z) d.pages cs out)) r after) is
    (subst (λ (o : Outcome Work). Comes {T = T} o r after) (sym (carried q (plan_of d (table_at (node_of u) q) plan) (node_of u) h d.pages cs out home)) comes)
