-- A report that is taken, as its plan carried out.
use Rattle.std.proofs.Common.{◌≡◌, ℕ, ◌<◌, ◌++◌, List, Result, Err, refl, ap, sym, subst, ◌∙◌}
use Rattle.pcl_base.specs.declared.message.Report.{Report}
use Rattle.pcl_base.specs.declared.reply.Reply.TheVariants.{Taken as taken}
use Rattle.run_rules.specs.Disk.{Disk}
use Rattle.node_rules.specs.DiskCalls.{DiskCall}
use Rattle.node_rules.specs.NodeState.{NodeState, table_at}
use Rattle.node_rules.specs.Work.{Outcome, Work, Goes, Differs as differs, and_then, reply}
use Rattle.node_rules.specs.InstallRule.{on_report}
use Rattle.home.specs.Device.{Told}
use Rattle.install_laws.specs.InstallPlans.{PartitionPlan as Planned, carry_plan, plan_report}
use Rattle.install_laws.specs.Laws.{HasTables}
use Rattle.install_laws.proofs.Planned.{report_is_planned_law}
use Rattle.node_parts.specs.Comes.{Comes, work_of}
use Rattle.node_parts.specs.Outputs.{OutputsView}
use Rattle.node_parts.specs.declared.fault.StepFault.{StepFault}
use Rattle.node_parts.specs.declared.fault.StepFault.TheVariants.{NoMemory, Halted, Differs}
use Rattle.page_owner.specs.Writes.{after_calls}
use Rattle.install_plans.specs.declared.plan.PartitionPlan.{PartitionPlan}
use Rattle.install_plans.specs.Plans.{Plans, plan_of}
use Rattle.partition_steps.specs.Carried.{plan_calls}
use Rattle.install_steps.specs.Calls.{LeavesCalls, calls_in, report_calls}

module _ (d : Disk) (from : ℕ) (r : Report) (n : NodeState) (tables : HasTables n) (low : r.partition < n.home.config.nodes) where
  -- the rule is the plan, carried out
  report_is : (w : Work) → w.node ≡ n → w.pages ≡ d.pages → on_report d from r w ≡ and_then (plan_report d d.pages from r n) (λ p. carry_plan r.partition p w)
  report_is w same pages =
      report_is_planned_law d from r w (subst HasTables (sym same) tables) (subst (λ (m : NodeState). r.partition < m.home.config.nodes) (sym same) low)
      ∙ (ap (λ ps. and_then (plan_report d ps from r w.node) (λ p. carry_plan r.partition p w)) pages ∙ ap (λ (m : NodeState). and_then (plan_report d d.pages from r m) (λ p. carry_plan r.partition p w)) same)

  abbrev before : List DiskCall → OutputsView → Work
  before cs out = reply taken (work_of n d.pages cs out)

  -- where there is a plan, it is that of the rules
  pub taken_comes : (X : Type 0) (p : PartitionPlan) (a : Result X StepFault) (cs : List DiskCall) (old new : OutputsView) (last : NodeState)
      → plan_report d d.pages from r n ≡ Goes (plan_of d (table_at n r.partition) p)
      → Comes (carry_plan r.partition (plan_of d (table_at n r.partition) p) (before cs old)) a (work_of last (after_calls d.pages (plan_calls d p)) (cs ++ plan_calls d p) new)
      → Comes (on_report d from r (before cs old)) a (work_of last (after_calls d.pages (report_calls d from r n)) (cs ++ report_calls d from r n) new)
  taken_comes X p a cs old new last planned comes =
      subst (λ (o : Outcome Work). Comes o a (work_of last (after_calls d.pages (report_calls d from r n)) (cs ++ report_calls d from r n) new)) (sym (report_is (before cs old) refl refl))
      (subst (λ (o : Outcome Planned). Comes (and_then o (λ q. carry_plan r.partition q (before cs old))) a (work_of last (after_calls d.pages (calls_in o)) (cs ++ calls_in o) new)) (sym planned) comes)

  pub taken_made : (X : Type 0) (me : ℕ) (p : PartitionPlan) (a : Result X StepFault) (old new : Told) → plan_report d d.pages from r n ≡ Goes (plan_of d (table_at n r.partition) p)
      → LeavesCalls me a (plan_calls d p) old new → LeavesCalls me a (report_calls d from r n) old new
  taken_made X me p a old new planned made = subst (λ (o : Outcome Planned). LeavesCalls me a (calls_in o) old new) (sym planned) made

  -- where a page differs, the rules name the same one
  pub untaken_comes : (X : Type 0) (f : StepFault) (cs : List DiskCall) (old : OutputsView) (w : Work) → Plans (plan_report d d.pages from r n) d (table_at n r.partition) (Err f) → Comes {T = X} (on_report d from r (before cs old)) (Err f) w
  untaken_comes X f cs old w plans = subst (λ (o : Outcome Work). Comes {T = X} o (Err f) w) (sym (report_is (before cs old) refl refl)) (by (plan_report d d.pages from r n) f plans)
    where
      by : (o : Outcome Planned) (f : StepFault) → Plans o d (table_at n r.partition) (Err f) → Comes {T = X} (and_then o (λ p. carry_plan r.partition p (before cs old))) (Err f) w
      by o (Differs page expected found) is = subst (λ (x : Outcome Planned). Comes {T = X} (and_then x (λ p. carry_plan r.partition p (before cs old))) (Err (Differs page expected found)) w) (sym is) (refl, refl, refl)
      by (differs p e k) NoMemory is = tt
      by (differs p e k) (Halted call kept) is = tt
      by (Goes p) NoMemory is = any (carry_plan r.partition p (before cs old))
        where
          any : (o : Outcome Work) → Comes {T = X} o (Err NoMemory) w
          any (Goes k) = tt
          any (differs a b k) = tt
      by (Goes p) (Halted call kept) is = any (carry_plan r.partition p (before cs old))
        where
          any : (o : Outcome Work) → Comes {T = X} o (Err (Halted call kept)) w
          any (Goes k) = tt
          any (differs a b k) = tt
