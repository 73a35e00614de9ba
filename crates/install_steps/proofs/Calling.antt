-- The calls that are made where plans are carried out: redo's writes alone.
use Rattle.std.proofs.Common.{◌≡◌, ℕ, ◌<◌, ◌==◌, Bool, true, false, List, [], ◌∷◌, ◌++◌, map, Option, Some, None, ap, sym, subst, ◌∙◌, append_assoc, append-nil}
use Rattle.std.specs.Prelude.{⊤}
use Rattle.std.specs.List.{AllByRecursion}
use Rattle.pcl_base.specs.declared.tx.TxId.{TxId}
use Rattle.pcl_base.specs.declared.tx.Mode.{Mode}
use Rattle.pcl_base.specs.declared.lock.Decision.{Decision}
use Rattle.pcl_base.specs.declared.lock.Decision.TheVariants as decision
use Rattle.pcl_base.specs.declared.lock.Held.{Held}
use Rattle.pcl_base.specs.declared.lock.Kind.TheVariants as kind
use Rattle.pcl_base.specs.declared.message.Report.{Report}
use Rattle.text_rules.specs.StoredPage.{PageAt}
use Rattle.run_rules.specs.Disk.{Disk}
use Rattle.run_rules.specs.Views.{View}
use Rattle.node_rules.specs.Words.{pick}
use Rattle.node_rules.specs.DiskCalls.{DiskCall}
use Rattle.node_rules.specs.OpenTxs.{pending_of, waits_as}
use Rattle.node_rules.specs.BufferRule.{find, install}
use Rattle.node_rules.specs.CopyRule.{is_version}
use Rattle.node_rules.specs.NodeState.{NodeState, number_of}
use Rattle.node_rules.specs.Work.{HomeWork, Work, Outcome, Goes, Differs, and_then, for_each, work_of_home, read_page}
use Rattle.node_rules.specs.AccessRule.{Granted, bring, clean_copy, from_disk, granted, locked, on_pool, perform, unless_current, write_of}
use Rattle.node_rules.specs.InstallRule.{in_view, install_view, on_report}
use Rattle.node_rules.specs.OwnerRule.{carry_grant, carry_out, grant_own, told}
use Rattle.install_laws.specs.InstallPlans.{Due, InstallPlan, PageWrite, PartitionPlan, Differing, carry_due, carry_install, carry_plan, end_with, plan_install, plan_report, put_planned, reply_if, tell, turn_over, write_all, write_one}
use Rattle.install_laws.specs.Laws.{HasTables}
use Rattle.install_laws.proofs.Outcomes.{On, on_each, on_so, on_then}
use Rattle.install_laws.proofs.Planned.{report_is_planned_law}
use Rattle.partition_steps.specs.Carried.{write_call}
use Rattle.install_steps.specs.Births.{is_born_in, kept_if, trim_calls}
use Rattle.install_steps.specs.Calls.{calls_in, install_calls, report_calls, rule_calls, rules_calls}
use Rattle.install_steps.specs.Laws.{HasMade}
use Rattle.install_steps.proofs.Beginning.{install_is, started}

module _ (K : List DiskCall) where
  performed : (t : TxId) (p : ℕ) (o : Option (ℕ × List ℕ)) (w : HomeWork) → w.calls ≡ K → (perform t p o w).work.calls ≡ K
  unfolding perform
  performed t p None w same = same
  performed t p (Some write) w same = same

  brought : (p v : ℕ) (image : Option (List ℕ)) (w : HomeWork) → w.calls ≡ K → On (λ (x : HomeWork). x.calls ≡ K) (bring p v image w)
  unfolding bring
  brought p v image w same = unless (is_version (find w.home.pool p) v) image
    where
      read : (at : PageAt) → On (λ (x : HomeWork). x.calls ≡ K) (from_disk p v w at)
      read at = by (at.version == v)
        where
          by : (b : Bool) → On (λ (x : HomeWork). x.calls ≡ K) (pick b (Goes (on_pool (λ c. install c p (clean_copy at)) w)) (Differs p v at.version))
          by true = same
          by false = tt

      unless : (b : Bool) (o : Option (List ℕ)) → On (λ (x : HomeWork). x.calls ≡ K) (unless_current b p v o w)
      unless true o = same
      unless false (Some bytes) = same
      unless false None = on_then (λ (at : PageAt). ⊤) (λ (x : HomeWork). x.calls ≡ K) (read_page w.pages p) (from_disk p v w) (any (read_page w.pages p)) (λ at h. read at)
        where
          any : (o : Outcome PageAt) → On (λ (at : PageAt). ⊤) o
          any (Goes at) = tt
          any (Differs n e f) = tt

  granted_keeps : (t : TxId) (l : Held) (v : ℕ) (image : Option (List ℕ)) (w : HomeWork) → w.calls ≡ K → On (λ (g : Granted). g.work.calls ≡ K) (granted t l v image w)
  unfolding granted
  granted_keeps t l v image w same =
      on_so (λ (x : HomeWork). x.calls ≡ K) (λ (g : Granted). g.work.calls ≡ K) (bring l.page v image w) (locked t l (write_of (pending_of w.home.txs t))) (brought l.page v image w same)
      (λ x is. performed t l.page (write_of (pending_of w.home.txs t)) _ is)

  own_keeps : (b : Bool) (t : TxId) (m : Mode) (p v : ℕ) (w : Work) → w.calls ≡ K → On (λ (x : Work). x.calls ≡ K) (grant_own b t m p v w)
  own_keeps false t m p v w same = same
  own_keeps true t m p v w same =
      on_so (λ (g : Granted). g.work.calls ≡ K) (λ (x : Work). x.calls ≡ K) (granted t (record { page = p; mode = m; kind = kind.Own }) v None (work_of_home w)) (told w)
      (granted_keeps t (record { page = p; mode = m; kind = kind.Own }) v None (work_of_home w) same) (λ g is. is)

  grant_keeps : (b : Bool) (t : TxId) (m : Mode) (right : Bool) (have : Option ℕ) (p v : ℕ) (w : Work) → w.calls ≡ K → On (λ (x : Work). x.calls ≡ K) (carry_grant b t m right have p v w)
  grant_keeps true t m right have p v w same = own_keeps (waits_as (pending_of w.node.home.txs t) p m) t m p v w same
  grant_keeps false t m right have p v w same = same

  -- a decision makes no call
  due_keeps : (x : Due) (w : Work) → ⊤ → w.calls ≡ K → On (λ (y : Work). y.calls ≡ K) (carry_due x w)
  unfolding carry_out
  due_keeps x w any same = by x.decision
    where
      by : (e : Decision) → On (λ (y : Work). y.calls ≡ K) (carry_out x.page x.version e w)
      by (decision.Grant t m right have) = grant_keeps (t.node == number_of w.node) t m right have x.page x.version w same
      by (decision.Revoke n) = same

-- the writes of a plan are its calls
written_calls : (xs : List PageWrite) (w : HomeWork) → (write_all xs w).calls ≡ w.calls ++ map write_call xs
unfolding write_all
written_calls [] w = sym (append-nil w.calls)
written_calls (x ∷ xs) w = written_calls xs (write_one x w) ∙ append_assoc w.calls (write_call x ∷ []) (map write_call xs)

-- all items of a list, whatever they are
any_each : {X : Type 0} (xs : List X) → AllByRecursion (λ (x : X). ⊤) xs
any_each [] = tt
any_each (x ∷ xs) = (tt, any_each xs)

-- a plan that is carried out makes its calls
pub plan_made : (q : ℕ) (p : PartitionPlan) (w : Work) → On (λ (x : Work). x.calls ≡ w.calls ++ rule_calls p) (carry_plan q p w)
unfolding carry_plan
plan_made q p w =
    on_so Made Made (for_each carry_due p.decisions (reply_if p.begins q (put_planned q p.table (turn_over q p w)))) (tell p.told)
    (on_each Made (λ (x : Due). ⊤) carry_due (due_keeps (w.calls ++ rule_calls p)) p.decisions (any_each p.decisions) (reply_if p.begins q (put_planned q p.table (turn_over q p w))) (replied p.begins))
    (told_keeps p.told)
  where
    Made : Work → Type 0
    Made x = x.calls ≡ w.calls ++ rule_calls p

    replied : (b : Bool) → Made (reply_if b q (put_planned q p.table (turn_over q p w)))
    replied true = written_calls p.writes _
    replied false = written_calls p.writes _

    told_keeps : (o : Option (ℕ × Report)) (x : Work) → Made x → Made (tell o x)
    told_keeps None x is = is
    told_keeps (Some r) x is = is

plans_made : (xs : List (ℕ × PartitionPlan)) (w : Work) → On (λ (x : Work). x.calls ≡ w.calls ++ rules_calls xs) (for_each (λ y. carry_plan y.0 y.1) xs w)
unfolding for_each
plans_made [] w = sym (append-nil w.calls)
plans_made (y ∷ ys) w =
    on_then (λ (x : Work). x.calls ≡ w.calls ++ rule_calls y.1) (λ (x : Work). x.calls ≡ w.calls ++ rules_calls (y ∷ ys)) (carry_plan y.0 y.1 w) (for_each (λ y. carry_plan y.0 y.1) ys) (plan_made y.0 y.1 w)
    (λ x is. more x is (for_each (λ y. carry_plan y.0 y.1) ys x) (plans_made ys x))
  where
    more : (x : Work) → x.calls ≡ w.calls ++ rule_calls y.1 → (o : Outcome Work) → On (λ (z : Work). z.calls ≡ x.calls ++ rules_calls ys) o → On (λ (z : Work). z.calls ≡ w.calls ++ rules_calls (y ∷ ys)) o
    more x is (Goes z) made = made ∙ (ap (λ l. l ++ rules_calls ys) is ∙ append_assoc w.calls (rule_calls y.1) (rules_calls ys))
    more x is (Differs n e f) made = tt

-- so does the plan of an install
pub install_made : (p : InstallPlan) (w : Work) → On (λ (x : Work). x.calls ≡ w.calls ++ rules_calls p.plans) (carry_install p w)
install_made p w =
    on_then (λ (x : Work). x.calls ≡ w.calls ++ rules_calls p.plans) (λ (x : Work). x.calls ≡ w.calls ++ rules_calls p.plans) (for_each (λ y. carry_plan y.0 y.1) p.plans w) (end_with p.differs) (plans_made p.plans w)
    (λ x is. by p.differs x is)
  where
    by : (o : Option Differing) (x : Work) → x.calls ≡ w.calls ++ rules_calls p.plans → On (λ (y : Work). y.calls ≡ w.calls ++ rules_calls p.plans) (end_with o x)
    by None x is = is
    by (Some e) x is = tt

-- an install makes its calls, where a node that is born in the view has no open transaction
pub installs_make : (d : Disk) (v : View) (n : NodeState) (w : Work) → HasTables n → (is_born_in v n ≡ true → n.home.txs.txs ≡ []) → w.node ≡ n → w.pages ≡ d.pages
    → On (λ (x : Work). x.calls ≡ w.calls ++ install_calls d v n) (install_view d v w)
installs_make d v n w tables none same pages =
    subst (On (λ (x : Work). x.calls ≡ w.calls ++ install_calls d v n)) (sym (install_is d v n none w tables same pages))
    (subst (λ l. On (λ (x : Work). x.calls ≡ l) (carry_install (plan_install d d.pages n.view v (in_view v n)) (started d v w)))
    (ap (λ m. (w.calls ++ trim_calls (kept_if (is_born_in v m) d m)) ++ rules_calls (plan_install d d.pages n.view v (in_view v n)).plans) same
    ∙ append_assoc w.calls (trim_calls (kept_if (is_born_in v n) d n)) (rules_calls (plan_install d d.pages n.view v (in_view v n)).plans))
    (install_made (plan_install d d.pages n.view v (in_view v n)) (started d v w)))

-- a report that is taken makes its calls
pub reports_make : (d : Disk) (from : ℕ) (r : Report) (n : NodeState) (w : Work) → HasTables n → r.partition < n.home.config.nodes → w.node ≡ n → w.pages ≡ d.pages
    → On (λ (x : Work). x.calls ≡ w.calls ++ report_calls d from r n) (on_report d from r w)
reports_make d from r n w tables low same pages =
    subst (On (λ (x : Work). x.calls ≡ w.calls ++ report_calls d from r n)) (sym is) (by (plan_report d d.pages from r n))
  where
    is : on_report d from r w ≡ and_then (plan_report d d.pages from r n) (λ p. carry_plan r.partition p w)
    is =
        report_is_planned_law d from r w (subst HasTables (sym same) tables) (subst (λ (m : NodeState). r.partition < m.home.config.nodes) (sym same) low)
        ∙ (ap (λ ps. and_then (plan_report d ps from r w.node) (λ p. carry_plan r.partition p w)) pages ∙ ap (λ (m : NodeState). and_then (plan_report d d.pages from r m) (λ p. carry_plan r.partition p w)) same)

    by : (o : Outcome PartitionPlan) → On (λ (x : Work). x.calls ≡ w.calls ++ calls_in o) (and_then o (λ p. carry_plan r.partition p w))
    by (Goes p) = plan_made r.partition p w
    by (Differs n e f) = tt

-- in the words of the laws
pub has_made : (calls : List DiskCall) (o : Outcome Work) → On (λ (x : Work). x.calls ≡ calls) o → HasMade calls o
has_made calls (Goes w) is = is
has_made calls (Differs p e f) is = tt
