-- One partition of an install is its plan, carried out.
use Rattle.std.proofs.Common.{◌≡◌, ℕ, ◌<◌, ◌==◌, nat_lt, Bool, true, false, List, length, Option, Some, None, refl, ap, sym, subst, ◌∙◌}
use Rattle.pcl_base.specs.Limits.{Sizes}
use Rattle.pcl_base.specs.declared.log.Record.{Record}
use Rattle.pcl_base.specs.declared.reply.Reply.TheVariants as reply
use Rattle.run_rules.specs.Disk.{Disk}
use Rattle.run_rules.specs.Redo.{greatest, records_in, all_records}
use Rattle.run_rules.specs.Views.{View, owner_of, since_of}
use Rattle.node_rules.specs.LockTable.{LockTable, serve, pages_of}
use Rattle.node_rules.specs.NodeState.{HomeState, number_of, table_at}
use Rattle.node_rules.specs.Work.{Work, Outcome, Goes, Differs, and_then, and_so, for_each, work_of_home, with_home, with_home_work, with_node, reply}
use Rattle.node_rules.specs.Reports.{gather}
use Rattle.node_rules.specs.InstallRule.{settle_all, serve_table, begin_serving, complete_if, is_complete, complete, take_over, new_table, get_partition, lost_nodes, version_of_page, redo_if, redo_lost, redo_page, purge_table, purged, purge_work, keep_served, keep_in, owned_before, left_if, send_report, tell_new_owner, install_by, install_partition, take_report, on_report_in, on_report}
use Rattle.install_laws.specs.InstallPlans.{Turnover, Stays, IsTaken, IsLeft, turned, PageWrite, RedoPlan, SettlePlan, PartitionPlan, plan_pages, plan_settling, unsettled, with_settled, plan_complete, plan_rebuilt, plan_get, is_newer, plan_served, plan_kept, plan_left, plan_by, plan_partition, plan_gathered, plan_report_in, plan_report, write_all, put_planned, reply_if, carry_due, tell, carry_plan}
use Rattle.install_laws.specs.Laws.{HasTables, carry_planned, PartitionIsPlanned, ReportIsPlanned}
use Rattle.install_laws.proofs.Words.{set_here, set_twice, set_same, set_length, pages_are_of, pages_rise}
use Rattle.install_laws.proofs.Outcomes.{On}
use Rattle.install_laws.proofs.Grants.{with_tables}
use Rattle.install_laws.proofs.Settling.{settling_is_planned_law}
use Rattle.install_laws.proofs.Redoing.{write_home, redone_work, redo_is_planned, serving_kept}

-- all pages of a partition are settled, where the node's numbers are known
all_settled : (q : ℕ) (u : LockTable) (z : Work) (c : Sizes) (me : ℕ) → q < length z.node.tables → q < z.node.home.config.nodes → table_at z.node q ≡ Some u → u.serving ≡ true
    → z.node.home.config ≡ c → number_of z.node ≡ me
    → settle_all q z ≡ for_each carry_due (plan_settling me (pages_of c q) u).decisions (put_planned q (Some (plan_settling me (pages_of c q) u).table) z)
all_settled q u z c me inside low there serves config number =
    settling_is_planned_law q (pages_of z.node.home.config q) u z inside (pages_are_of z.node.home.config q low) there serves
    ∙ ap (λ x. for_each carry_due (plan_settling (number_of z.node) (pages_of x q) u).decisions (put_planned q (Some (plan_settling (number_of z.node) (pages_of x q) u).table) z)) config
    ∙ ap (λ n. for_each carry_due (plan_settling n (pages_of c q) u).decisions (put_planned q (Some (plan_settling n (pages_of c q) u).table) z)) number

so_self : (o : Outcome Work) → o ≡ and_so o (tell None)
so_self (Goes w) = refl
so_self (Differs n e f) = refl

-- a plan is made, and carried out
then_carried : {X : Type 0} (P : X → Type 0) (o : Outcome X) (f : X → Outcome Work) (y : X → PartitionPlan) (q : ℕ) (w : Work) → On P o
    → ((x : X) → P x → f x ≡ carry_plan q (y x) w) → and_then o f ≡ carry_planned q (and_so o y) w
then_carried P (Goes x) f y q w h k = k x h
then_carried P (Differs n e d) f y q w h k = refl

so_then : {X Y Z : Type 0} (o : Outcome X) (f : X → Y) (g : Y → Outcome Z) → and_then (and_so o f) g ≡ and_then o (λ x. g (f x))
so_then (Goes x) f g = refl
so_then (Differs n e d) f g = refl

module _ (q : ℕ) (w : Work) (tables : HasTables w.node) (low : q < w.node.home.config.nodes) where
  inside : q < length w.node.tables
  inside = subst (λ n. q < n) (sym tables) low

  -- the work after a turnover
  abbrev over : Turnover → Work
  over o = with_home w (turned o q w.node.home)

  -- and after redo's writes
  abbrev after : Turnover → List PageWrite → Work
  after o ws = with_home_work w (write_all ws (work_of_home (over o)))

  turned_config : (o : Turnover) → (turned o q w.node.home).config ≡ w.node.home.config
  turned_config Stays = refl
  turned_config IsTaken = refl
  turned_config IsLeft = refl

  after_config : (o : Turnover) (ws : List PageWrite) → (after o ws).node.home.config ≡ (over o).node.home.config
  after_config o ws = ap (λ (h : HomeState). h.config) (write_home ws (work_of_home (over o)))

  after_number : (o : Turnover) (ws : List PageWrite) → number_of (after o ws).node ≡ number_of (over o).node
  after_number o ws = ap (λ (h : HomeState). h.txs.node) (write_home ws (work_of_home (over o)))

  settled_carried : (o : Turnover) (begins : Bool) (ws : List PageWrite) (u : LockTable) → u.serving ≡ true
      → settle_all q (reply_if begins q (put_planned q (Some u) (after o ws)))
      ≡ carry_plan q (with_settled o begins ws (plan_settling (number_of (over o).node) (pages_of (over o).node.home.config q) u)) w
  unfolding carry_plan
  settled_carried o begins ws u serves = by begins
    where
      plan : SettlePlan
      plan = plan_settling (number_of (over o).node) (pages_of (over o).node.home.config q) u

      below : q < (after o ws).node.home.config.nodes
      below = subst (λ (c : Sizes). q < c.nodes) (sym (after_config o ws ∙ turned_config o)) low

      room : q < length (put_planned q (Some u) (after o ws)).node.tables
      room = subst (λ n. q < n) (sym (set_length w.node.tables q (Some u))) inside

      by : (b : Bool) → settle_all q (reply_if b q (put_planned q (Some u) (after o ws)))
          ≡ and_so (for_each carry_due plan.decisions (reply_if b q (put_planned q (Some plan.table) (after o ws)))) (tell None)
      by true =
          all_settled q u (reply_if true q (put_planned q (Some u) (after o ws))) (over o).node.home.config (number_of (over o).node) room below
          (set_here w.node.tables q (Some u) None inside) serves (after_config o ws) (after_number o ws)
          ∙ ap (λ ts. for_each carry_due plan.decisions (reply_if true q (with_tables ts (after o ws)))) (set_twice w.node.tables q (Some u) (Some plan.table))
          ∙ so_self (for_each carry_due plan.decisions (reply_if true q (put_planned q (Some plan.table) (after o ws))))
      by false =
          all_settled q u (reply_if false q (put_planned q (Some u) (after o ws))) (over o).node.home.config (number_of (over o).node) room below
          (set_here w.node.tables q (Some u) None inside) serves (after_config o ws) (after_number o ws)
          ∙ ap (λ ts. for_each carry_due plan.decisions (reply_if false q (with_tables ts (after o ws)))) (set_twice w.node.tables q (Some u) (Some plan.table))
          ∙ so_self (for_each carry_due plan.decisions (reply_if false q (put_planned q (Some plan.table) (after o ws))))

  -- a rebuilt table that was redone is served
  served_carried : (o : Turnover) (t : LockTable) (r : RedoPlan)
      → begin_serving q (redone_work q (put_planned q (Some t) (over o)) r)
      ≡ carry_plan q (with_settled o true r.writes (plan_settling (number_of (over o).node) (pages_of (over o).node.home.config q) (serve r.table))) w
  served_carried o t r =
      ap (λ ts. begin_serving q (with_tables ts (after o r.writes))) (set_twice w.node.tables q (Some t) (Some r.table))
      ∙ ap (λ x. settle_all q (reply (reply.Serving q) (with_node (put_planned q (Some r.table) (after o r.writes)) (serve_table q x (put_planned q (Some r.table) (after o r.writes)).node))))
      (set_here w.node.tables q (Some r.table) None inside)
      ∙ ap (λ ts. settle_all q (reply (reply.Serving q) (with_tables ts (after o r.writes)))) (set_twice w.node.tables q (Some r.table) (Some (serve r.table)))
      ∙ settled_carried o true r.writes (serve r.table) refl

  -- a table that is rebuilt
  complete_planned : (o : Turnover) (d : Disk) (t : LockTable) (b : Bool)
      → complete_if b d q (put_planned q (Some t) (over o)) ≡ carry_planned q (plan_complete b o d w.pages q (over o).node t) w
  unfolding carry_plan for_each write_all
  complete_planned o d t false = refl
  complete_planned o d t true =
      ap (λ x. and_then x (begin_serving q))
      (redo_is_planned (λ u p. true) (all_records (over o).node.home.config d) w.pages q (redo_page (all_records (over o).node.home.config d) q) (λ p u x there. refl)
      (pages_of (over o).node.home.config q) 0 (pages_rise (over o).node.home.config q below) t (put_planned q (Some t) (over o))
      (subst (λ n. q < n) (sym (set_length w.node.tables q (Some t))) inside) (set_here w.node.tables q (Some t) None inside) (λ x more. refl))
      ∙ by (plan_pages (λ u p. true) (all_records (over o).node.home.config d) w.pages (pages_of (over o).node.home.config q) t)
    where
      below : q < (over o).node.home.config.nodes
      below = subst (λ (c : Sizes). q < c.nodes) (sym (turned_config o)) low

      by : (x : Outcome RedoPlan) → and_then (and_so x (redone_work q (put_planned q (Some t) (over o)))) (begin_serving q)
          ≡ carry_planned q (and_so x (λ r. with_settled o true r.writes (plan_settling (number_of (over o).node) (pages_of (over o).node.home.config q) (serve r.table)))) w
      by (Goes r) = served_carried o t r
      by (Differs n e f) = refl

  rebuilt_over : (o : Turnover) (d : Disk) (t : LockTable) → plan_rebuilt o d w.pages q (over o).node t ≡ plan_rebuilt o d w.pages q w.node t
  unfolding plan_rebuilt
  rebuilt_over o d t = by o (is_complete w.node.view q (Some t))
    where
      by : (x : Turnover) (b : Bool) → plan_complete b x d w.pages q (over x).node t ≡ plan_complete b x d w.pages q w.node t
      by Stays true = refl
      by Stays false = refl
      by IsTaken true = refl
      by IsTaken false = refl
      by IsLeft true = refl
      by IsLeft false = refl

  over_planned : (o : Turnover) (d : Disk) (t : LockTable) → complete d q (put_planned q (Some t) (over o)) ≡ carry_planned q (plan_rebuilt o d w.pages q (over o).node t) w
  unfolding complete plan_rebuilt
  over_planned o d t =
      ap (λ x. complete_if (is_complete w.node.view q x) d q (put_planned q (Some t) (over o))) (set_here w.node.tables q (Some t) None inside)
      ∙ complete_planned o d t (is_complete w.node.view q (Some t))

  rebuilt_planned : (o : Turnover) (d : Disk) (t : LockTable) → complete d q (put_planned q (Some t) (over o)) ≡ carry_planned q (plan_rebuilt o d w.pages q w.node t) w
  rebuilt_planned o d t = over_planned o d t ∙ ap (λ x. carry_planned q x w) (rebuilt_over o d t)

  get_planned : (d : Disk) → get_partition d q w ≡ carry_planned q (plan_get d w.pages q w.node) w
  unfolding get_partition plan_get
  get_planned d = rebuilt_planned IsTaken d (new_table q (number_of w.node) (take_over q w.node.home))

  -- a table that is kept, and served
  kept_carried : (v : View) (r : RedoPlan) → r.table.serving ≡ true
      → settle_all q (purge_work q v (redone_work q w r))
      ≡ carry_plan q (with_settled Stays false r.writes (plan_settling (number_of w.node) (pages_of w.node.home.config q) (purge_table v.live r.table))) w
  kept_carried v r serves =
      ap (λ o. settle_all q (with_node (redone_work q w r) (purged q v.live o (redone_work q w r).node))) (set_here w.node.tables q (Some r.table) None inside)
      ∙ ap (λ ts. settle_all q (with_tables ts (after Stays r.writes))) (set_twice w.node.tables q (Some r.table) (Some (purge_table v.live r.table)))
      ∙ settled_carried Stays false r.writes (purge_table v.live r.table) serves

  served_planned : (d : Disk) (before : Option View) (v : View) (t : LockTable) → table_at w.node q ≡ Some t → (b : Bool) → t.serving ≡ b
      → keep_served b d before v q w ≡ carry_planned q (plan_served b d w.pages before v q w.node t) w
  served_planned d before v t there true serves =
      ap (λ x. and_then x (λ y. settle_all q (purge_work q v y)))
      (redo_is_planned (is_newer lost) all w.pages q (redo_lost lost all q)
      (λ p u x here. ap (λ o. redo_if (nat_lt (version_of_page o p) (greatest lost p)) all q p x) here)
      (pages_of w.node.home.config q) 0 (pages_rise w.node.home.config q low) t w inside there (λ x more. refl))
      ∙ so_then pages (redone_work q w) (λ y. settle_all q (purge_work q v y))
      ∙ then_carried (λ (r : RedoPlan). r.table.serving ≡ true) pages (λ r. settle_all q (purge_work q v (redone_work q w r)))
      (λ r. with_settled Stays false r.writes (plan_settling (number_of w.node) (pages_of w.node.home.config q) (purge_table v.live r.table))) q w
      (serving_kept (is_newer lost) all w.pages (pages_of w.node.home.config q) t true serves) (kept_carried v)
    where
      lost : List Record
      lost = records_in w.node.home.config d (lost_nodes before v)

      all : List Record
      all = all_records w.node.home.config d

      pages : Outcome RedoPlan
      pages = plan_pages (is_newer lost) all w.pages (pages_of w.node.home.config q) t
  served_planned d before v t there false serves =
      ap (λ o. complete d q (with_node w (purged q v.live o w.node))) there ∙ rebuilt_planned Stays d (purge_table v.live t)

  -- a partition that stays as it is
  stays : Goes w ≡ carry_plan q (unsettled Stays (table_at w.node q)) w
  unfolding carry_plan for_each write_all
  stays = ap (λ ts. Goes (with_tables ts w)) (sym (set_same w.node.tables q None))

  kept_planned : (d : Disk) (before : Option View) (v : View) → keep_in (table_at w.node q) d before v q w ≡ carry_planned q (plan_kept (table_at w.node q) d w.pages before v q w.node) w
  kept_planned d before v = by (table_at w.node q) refl
    where
      by : (o : Option LockTable) → table_at w.node q ≡ o → keep_in o d before v q w ≡ carry_planned q (plan_kept o d w.pages before v q w.node) w
      by None there = stays ∙ ap (λ o. carry_plan q (unsettled Stays o) w) there
      by (Some t) there = served_planned d before v t there t.serving refl

  left_planned : (before : Option View) (v : View) → Goes (tell_new_owner before v q w) ≡ carry_plan q (plan_left (owned_before before q (number_of w.node)) (owner_of v q) q w.node) w
  unfolding carry_plan for_each write_all
  left_planned before v = by (owned_before before q (number_of w.node))
    where
      by : (b : Bool) → Goes (send_report q (owner_of v q) (with_node w (left_if b q w.node))) ≡ carry_plan q (plan_left b (owner_of v q) q w.node) w
      by true = refl
      by false = ap (λ ts. Goes (send_report q (owner_of v q) (with_tables ts w))) (sym (set_same w.node.tables q None))

  by_planned : (d : Disk) (before : Option View) (v : View) (own new : Bool) → install_by own new d before v q w ≡ carry_planned q (plan_by own new d w.pages before v q w.node) w
  by_planned d before v true true = get_planned d
  by_planned d before v true false = kept_planned d before v
  by_planned d before v false true = left_planned before v
  by_planned d before v false false = stays

pub partition_is_planned_law : PartitionIsPlanned
unfolding install_partition plan_partition
partition_is_planned_law d before v q w tables low = by_planned q w tables low d before v (owner_of v q == number_of w.node) (since_of v q == v.epoch)

pub report_is_planned_law : ReportIsPlanned
unfolding on_report plan_report
report_is_planned_law d from r w tables low = by (table_at w.node r.partition) refl
  where
    gathered : (t : LockTable) → table_at w.node r.partition ≡ Some t → (b : Bool) → take_report b d from r t w ≡ carry_planned r.partition (plan_gathered b d w.pages from r w.node t) w
    gathered t there true = stays r.partition w tables low ∙ ap (λ o. carry_plan r.partition (unsettled Stays o) w) there
    gathered t there false = rebuilt_planned r.partition w tables low Stays d (gather t from r)

    by : (o : Option LockTable) → table_at w.node r.partition ≡ o → on_report_in d from r o w ≡ carry_planned r.partition (plan_report_in o d w.pages from r w.node) w
    by None there = stays r.partition w tables low ∙ ap (λ o. carry_plan r.partition (unsettled Stays o) w) there
    by (Some t) there = gathered t there t.serving
