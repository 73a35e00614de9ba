-- A plan reads of a node and of the pages what is its partition's alone; so all partitions of an
-- install can be planned before it.
use Rattle.std.proofs.Common.{◌≡◌, ℕ, zero, suc, ◌+◌, ◌<◌, ◌≤◌, ◌==◌, nat_lt, Bool, true, false, List, length, Option, Some, None, refl, ap, sym, subst, ◌∙◌, arith, [], ◌∷◌}
use Rattle.std.specs.List.{AllByRecursion}
use Rattle.pcl_base.specs.Limits.{Sizes}
use Rattle.pcl_base.specs.declared.reply.Reply.TheVariants as reply
use Rattle.run_rules.specs.Disk.{Disk, raw_page}
use Rattle.run_rules.specs.Redo.{records_in, all_records}
use Rattle.run_rules.specs.Views.{View, owner_of, since_of, born_of, count_from}
use Rattle.text_rules.specs.LogRecord.{whole_len}
use Rattle.node_rules.specs.LockTable.{LockTable, open_table, serve, pages_of}
use Rattle.node_rules.specs.NodeState.{NodeState, Install, number_of, partition, table_at}
use Rattle.node_rules.specs.Work.{Work, Outcome, Goes, Differs, and_then, and_so, for_each, with_node, reply}
use Rattle.node_rules.specs.Reports.{own_report, gather}
use Rattle.node_rules.specs.InstallRule.{is_complete, take_over, new_table, lost_nodes, purge_table, owned_before, install_partition, trim_if, own_log, born_at, begin_life, in_view, install_view}
use Rattle.node_rules.specs.NodeStep.{begin_work, do_event, unless_refused, plan_of, nodestep}
use Rattle.install_laws.specs.InstallPlans.{Turnover, Stays, IsTaken, IsLeft, PartitionPlan, InstallPlan, before_others, plan_all, end_with, carry_install, carry_plan, plan_pages, plan_settling, unsettled, with_settled, plan_complete, plan_rebuilt, plan_get, is_newer, plan_served, plan_kept, plan_left, plan_by, plan_partition}
use Rattle.install_laws.specs.Laws.{HasTables, carry_planned, begun, PlansAreApart, InstallIsPlanned, PlansComeFirst, StepIsPlanned}
use Rattle.install_laws.proofs.Words.{other, pages_are_of, all_weaker}
use Rattle.install_laws.proofs.Outcomes.{On, same_then}
use Rattle.install_laws.proofs.Reports.{HomeSame, own_taken, told_left}
use Rattle.install_laws.proofs.Redoing.{pages_same}
use Rattle.install_laws.proofs.Planned.{partition_is_planned_law}
use Rattle.install_laws.proofs.Worked.{IsWorked, planned_works}

module _ (d : Disk) (before : Option View) (v : View) (q : ℕ) (n m : NodeState) (pages more : List (List ℕ)) (low : q < n.home.config.nodes)
    (home : HomeSame q n.home m.home) (view : m.view ≡ n.view) (table : table_at m q ≡ table_at n q)
    (stored : (p : ℕ) → partition n.home.config p ≡ q → raw_page more p ≡ raw_page pages p) where
  all_stored : AllByRecursion (λ p. raw_page more p ≡ raw_page pages p) (pages_of n.home.config q)
  all_stored = all_weaker (λ p. partition n.home.config p ≡ q) (λ p. raw_page more p ≡ raw_page pages p) stored (pages_of n.home.config q) (pages_are_of n.home.config q low)

  -- redo and settling, from what is read
  abbrev settled_plan : (Sizes → LockTable → ℕ → Bool) → Turnover → Bool → LockTable → (LockTable → LockTable) → Sizes → ℕ → List (List ℕ) → Outcome PartitionPlan
  settled_plan needed o begins t f c me ps =
      and_so (plan_pages (needed c) (all_records c d) ps (pages_of c q) t) (λ r. with_settled o begins r.writes (plan_settling me (pages_of c q) (f r.table)))

  settled_seen : (needed : Sizes → LockTable → ℕ → Bool) (o : Turnover) (begins : Bool) (t : LockTable) (f : LockTable → LockTable)
      → settled_plan needed o begins t f m.home.config (number_of m) more ≡ settled_plan needed o begins t f n.home.config (number_of n) pages
  settled_seen needed o begins t f =
      ap (λ c. settled_plan needed o begins t f c (number_of m) more) home.config
      ∙ ap (λ me. settled_plan needed o begins t f n.home.config me more) home.number
      ∙ ap (λ x. and_so x (λ r. with_settled o begins r.writes (plan_settling (number_of n) (pages_of n.home.config q) (f r.table))))
      (pages_same (needed n.home.config) (all_records n.home.config d) pages more (pages_of n.home.config q) t all_stored)

  rebuilt_seen : (o : Turnover) (t : LockTable) → plan_rebuilt o d more q m t ≡ plan_rebuilt o d pages q n t
  unfolding plan_rebuilt
  rebuilt_seen o t = ap (λ x. plan_complete (is_complete x q (Some t)) o d more q m t) view ∙ by (is_complete n.view q (Some t))
    where
      by : (b : Bool) → plan_complete b o d more q m t ≡ plan_complete b o d pages q n t
      by true = settled_seen (λ c u p. true) o true t serve
      by false = refl

  get_seen : plan_get d more q m ≡ plan_get d pages q n
  unfolding plan_get
  get_seen = ap (plan_rebuilt IsTaken d more q m) same ∙ rebuilt_seen IsTaken (new_table q (number_of n) (take_over q n.home))
    where
      own : own_report q (take_over q m.home) ≡ own_report q (take_over q n.home)
      own = own_taken q m.home ∙ home.own ∙ sym (own_taken q n.home)

      same : new_table q (number_of m) (take_over q m.home) ≡ new_table q (number_of n) (take_over q n.home)
      same = λ i. gather (open_table (home.config i) q false) (home.number i) (own i)

  served_seen : (b : Bool) (t : LockTable) → plan_served b d more before v q m t ≡ plan_served b d pages before v q n t
  served_seen true t = settled_seen (λ c. is_newer (records_in c d (lost_nodes before v))) Stays false t (purge_table v.live)
  served_seen false t = rebuilt_seen Stays (purge_table v.live t)

  kept_seen : (o : Option LockTable) → plan_kept o d more before v q m ≡ plan_kept o d pages before v q n
  kept_seen None = refl
  kept_seen (Some t) = served_seen t.serving t

  left_seen : (b : Bool) (to : ℕ) → plan_left b to q m ≡ plan_left b to q n
  left_seen true to =
      ap (λ x. let plan : PartitionPlan = record (unsettled IsLeft None) { told = Some (to, x) } in plan)
      (told_left q m.home ∙ (λ i. record (home.own i) { rights = (home.told i).rights }) ∙ sym (told_left q n.home))
  left_seen false to = λ i. record (unsettled Stays (table i)) { told = Some (to, home.told i) }

  by_seen : (own new : Bool) → plan_by own new d more before v q m ≡ plan_by own new d pages before v q n
  by_seen true true = get_seen
  by_seen true false = ap (λ o. plan_kept o d more before v q m) table ∙ kept_seen (table_at n q)
  by_seen false true =
      ap (λ me. Goes (plan_left (owned_before before q me) (owner_of v q) q m)) home.number ∙ ap Goes (left_seen (owned_before before q (number_of n)) (owner_of v q))
  by_seen false false = ap (λ o. Goes (unsettled Stays o)) table

  pub plan_seen : plan_partition d more before v q m ≡ plan_partition d pages before v q n
  unfolding plan_partition
  plan_seen =
      ap (λ me. plan_by (owner_of v q == me) (since_of v q == v.epoch) d more before v q m) home.number ∙ by_seen (owner_of v q == number_of n) (since_of v q == v.epoch)

-- a partition that was worked off leaves the plans of the others
worked_plan : (d : Disk) (before : Option View) (v : View) (q r : ℕ) (w x : Work) → r < w.node.home.config.nodes → (q ≡ r → ⊥) → IsWorked q w x
    → plan_partition d x.pages before v r x.node ≡ plan_partition d w.pages before v r w.node
worked_plan d before v q r w x low apart is =
    plan_seen d before v r w.node x.node w.pages x.pages low (is.home r apart) is.view (is.table r apart)
    (λ p of. is.pages p (λ same. apart (sym same ∙ of)))

partition_works : (d : Disk) (before : Option View) (v : View) (q : ℕ) (w : Work) → HasTables w.node → q < w.node.home.config.nodes → On (IsWorked q w) (install_partition d before v q w)
partition_works d before v q w tables low =
    subst (λ o. On (IsWorked q w) o) (sym (partition_is_planned_law d before v q w tables low)) (planned_works d before v q w low)

pub plans_are_apart_law : PlansAreApart
plans_are_apart_law d before v q r w x tables low below apart goes =
    worked_plan d before v q r w x below (λ e. other r q apart (sym e)) (subst (λ o. On (IsWorked q w) o) goes (partition_works d before v q w tables low))

module _ (d : Disk) (before : Option View) (v : View) (b : Work) (tables : HasTables b.node) where
  -- the partitions before q were worked off: the plans of the others are as they were
  record IsReady (q : ℕ) (x : Work) : Type 0 where
    many : length x.node.tables ≡ length b.node.tables
    config : x.node.home.config ≡ b.node.home.config
    plans : (r : ℕ) → q ≤ r → r < b.node.home.config.nodes → plan_partition d x.pages before v r x.node ≡ plan_partition d b.pages before v r b.node

  ready_next : (q : ℕ) (x y : Work) → IsReady q x → IsWorked q x y → IsReady (q + 1) y
  ready_next q x y ready is =
      record {
        many = is.many ∙ ready.many;
        config = is.config ∙ ready.config;
        plans = λ r from low.
            worked_plan d before v q r x y (subst (λ (c : Sizes). r < c.nodes) (sym ready.config) low) (λ e. absurd (omega (arith, e, from))) is
            ∙ ready.plans r (omega (arith, from)) low;
      }

  all_planned : (n q : ℕ) → q + n ≡ b.node.home.config.nodes → (x : Work) → IsReady q x
      → for_each (install_partition d before v) (count_from q n) x ≡ for_each (λ r. carry_planned r (plan_partition d b.pages before v r b.node)) (count_from q n) x
  unfolding for_each count_from
  all_planned zero q ends x ready = refl
  all_planned (suc n) q ends x ready =
      let low : q < b.node.home.config.nodes = omega (arith, ends) in
      let below : q < x.node.home.config.nodes = subst (λ (c : Sizes). q < c.nodes) (sym ready.config) low in
      let there : HasTables x.node = ready.many ∙ tables ∙ sym (ap (λ (c : Sizes). c.nodes) ready.config) in
      same_then (IsWorked q x) (install_partition d before v q x) (for_each (install_partition d before v) (count_from (q + 1) n)) (for_each (λ r. carry_planned r (plan_partition d b.pages before v r b.node)) (count_from (q + 1) n))
      (partition_works d before v q x there below) (λ y is. all_planned n (q + 1) (omega (arith, ends)) y (ready_next q x y ready is))
      ∙ ap (λ o. and_then o (for_each (λ r. carry_planned r (plan_partition d b.pages before v r b.node)) (count_from (q + 1) n)))
      (partition_is_planned_law d before v q x there below ∙ ap (λ p. carry_planned q p x) (ready.plans q (omega arith) low))

-- the pages, the tables and the sizes are not changed where an install begins
record IsBegun (w x : Work) : Type 0 where
  pages : x.pages ≡ w.pages
  tables : x.node.tables ≡ w.node.tables
  config : x.node.home.config ≡ w.node.home.config

begun_is : (d : Disk) (v : View) (w : Work) → IsBegun w (begun d v w)
begun_is d v w = by (born_of v (number_of w.node) == v.epoch)
  where
    answered : Work
    answered = reply (reply.Installed v.epoch) (with_node w (in_view v w.node))

    alive : Work
    alive = with_node answered (born_at v.epoch answered.node)

    trimmed : (b : Bool) (keep : ℕ) → IsBegun w (trim_if b keep alive)
    trimmed true keep = record { pages = refl; tables = refl; config = refl }
    trimmed false keep = record { pages = refl; tables = refl; config = refl }

    by : (b : Bool) → IsBegun w (begin_life b d v answered)
    by true = trimmed (nat_lt (whole_len alive.node.home.config (own_log d alive)) (length (own_log d alive))) (whole_len alive.node.home.config (own_log d alive))
    by false = record { pages = refl; tables = refl; config = refl }

pub install_is_planned_law : InstallIsPlanned
unfolding install_view
install_is_planned_law d v w tables =
    all_planned d w.node.view v (begun d v w) there w.node.home.config.nodes 0 (omega arith ∙ sym (ap (λ (c : Sizes). c.nodes) is.config)) (begun d v w)
    (record { many = refl; config = refl; plans = λ r from low. refl })
    ∙ ap (λ ps. for_each (λ r. carry_planned r (plan_partition d ps w.node.view v r (begun d v w).node)) (count_from 0 w.node.home.config.nodes) (begun d v w)) is.pages
  where
    is : IsBegun w (begun d v w)
    is = begun_is d v w

    there : HasTables (begun d v w).node
    there = ap length is.tables ∙ tables ∙ sym (ap (λ (c : Sizes). c.nodes) is.config)

-- plans that are made and carried out one after another are all made first, and then carried out
all_first : (f : ℕ → Outcome PartitionPlan) (qs : List ℕ) (w : Work) → for_each (λ q. carry_planned q (f q)) qs w ≡ carry_install (plan_all f qs) w
unfolding for_each plan_all
all_first f [] w = refl
all_first f (q ∷ qs) w = by (f q) (all_first f qs)
  where
    carried : (o : Outcome Work) (x : InstallPlan) → ((y : Work) → for_each (λ r. carry_planned r (f r)) qs y ≡ carry_install x y)
        → and_then o (for_each (λ r. carry_planned r (f r)) qs) ≡ and_then (and_then o (for_each (λ y. carry_plan y.0 y.1) x.plans)) (end_with x.differs)
    carried (Goes y) x rest = rest y
    carried (Differs p e d) x rest = refl

    by : (o : Outcome PartitionPlan) → ((y : Work) → for_each (λ r. carry_planned r (f r)) qs y ≡ carry_install (plan_all f qs) y)
        → and_then (carry_planned q o w) (for_each (λ r. carry_planned r (f r)) qs) ≡ carry_install (before_others q o (plan_all f qs)) w
    by (Goes x) rest = carried (carry_plan q x w) (plan_all f qs) rest
    by (Differs p e d) rest = refl

pub plans_come_first_law : PlansComeFirst
plans_come_first_law d v w tables =
    install_is_planned_law d v w tables
    ∙ ap (λ (c : Sizes). for_each (λ q. carry_planned q (plan_partition d w.pages w.node.view v q (begun d v w).node)) (count_from 0 c.nodes) (begun d v w)) (sym (begun_is d v w).config)
    ∙ all_first (λ q. plan_partition d w.pages w.node.view v q (begun d v w).node) (count_from 0 (begun d v w).node.home.config.nodes) (begun d v w)

pub step_is_planned_law : StepIsPlanned
unfolding nodestep do_event
step_is_planned_law d v n tables taken =
    ap (λ o. and_so (unless_refused o d (Install v) (begin_work n d)) plan_of) taken
    ∙ ap (λ o. and_so o plan_of) (plans_come_first_law d v (begin_work n d) tables)
