-- What an install does with a partition, planned before any of it is done, and carried out later.
use Rattle.std.specs.Prelude.{ℕ, ◌==◌, nat_lt, Bool, true, false, List, [], ◌∷◌, ◌++◌, map, Option, Some, None}
use Rattle.pcl_base.specs.declared.lock.Decision.{Decision}
use Rattle.pcl_base.specs.declared.lock.Kind.TheVariants as kind
use Rattle.pcl_base.specs.declared.log.Record.{Record}
use Rattle.pcl_base.specs.declared.message.Body.TheVariants as body
use Rattle.pcl_base.specs.declared.message.Report.{Report}
use Rattle.pcl_base.specs.declared.reply.Reply.TheVariants as reply
use Rattle.run_rules.specs.Disk.{Disk}
use Rattle.run_rules.specs.Redo.{redone, greatest, records_in, all_records}
use Rattle.run_rules.specs.Views.{View, owner_of, since_of, count_from}
use Rattle.text_rules.specs.StoredPage.{PageAt}
use Rattle.node_rules.specs.Words.{pick}
use Rattle.node_rules.specs.LockRule.{Settled, settle}
use Rattle.node_rules.specs.LockTable.{LockTable, entry_at, put_entry, set_version, serve, pages_of}
use Rattle.node_rules.specs.BufferRule.{clean}
use Rattle.node_rules.specs.NodeState.{HomeState, NodeState, number_of, table_at, put_table}
use Rattle.node_rules.specs.Work.{HomeWork, Work, Outcome, Goes, Differs, and_then, and_so, for_each, work_of_home, with_home, with_home_work, with_node, reply, send, write_page, read_page}
use Rattle.node_rules.specs.AccessRule.{on_pool}
use Rattle.node_rules.specs.OwnerRule.{carry_out}
use Rattle.node_rules.specs.Reports.{report, gather}
use Rattle.node_rules.specs.InstallRule.{all_kinds, take_over, new_table, clean_slots, is_complete, lost_nodes, purge_table, owned_before}

-- what becomes of what the home has of a partition
pub data Turnover : Type 0 where
  Stays : Turnover
  IsTaken : Turnover
  IsLeft : Turnover

-- a page that redo writes
pub record PageWrite : Type 0 where
  pub page : ℕ
  pub at : PageAt

-- a decision about a page, whose version is told
pub record Due : Type 0 where
  pub page : ℕ
  pub version : ℕ
  pub decision : Decision

-- the plan of a partition: what becomes of it at home, the pages that are written, the table with
-- which it ends, whether it begins to be served, the decisions, and who is told what the node has of it
pub record PartitionPlan : Type 0 where
  pub turnover : Turnover
  pub writes : List PageWrite
  pub table : Option LockTable
  pub begins : Bool
  pub decisions : List Due
  pub told : Option (ℕ × Report)

-- the home without a partition that it had: its locks are registered ones, and its copies clean
abbrev pub left_home : ℕ → HomeState → HomeState
left_home q h =
    record (all_kinds q kind.Registered h) { pool = record (h.pool) { slots = clean_slots h.config q h.pool.slots } }

-- the home after the turnover of a partition
abbrev pub turned : Turnover → ℕ → HomeState → HomeState
turned Stays q h = h
turned IsTaken q h = take_over q h
turned IsLeft q h = left_home q h

-- a table after redo, and the pages that are written
pub record RedoPlan : Type 0 where
  pub table : LockTable
  pub writes : List PageWrite

-- a page comes from its stored version to that of redo, and is written where that is newer
abbrev pub plan_redo : ℕ → PageAt → PageAt → LockTable → RedoPlan
plan_redo p old new t =
    record {
      table = set_version t p new.version;
      writes = pick (nat_lt old.version new.version) (record { page = p; at = new } ∷ []) [];
    }

-- redo of a page where it is needed
abbrev pub plan_page : Bool → List Record → List (List ℕ) → ℕ → LockTable → Outcome RedoPlan
plan_page false rs pages p t = Goes (record { table = t; writes = [] })
plan_page true rs pages p t = and_so (read_page pages p) (λ old. plan_redo p old (redone rs p old) t)

-- what is redone after other pages
abbrev pub after_writes : List PageWrite → RedoPlan → RedoPlan
after_writes ws r = record r { writes = ws ++ r.writes }

-- redo of some pages, each from what is stored, where it is needed
unfoldable pub plan_pages : (LockTable → ℕ → Bool) → List Record → List (List ℕ) → List ℕ → LockTable → Outcome RedoPlan
plan_pages needed rs pages [] t = Goes (record { table = t; writes = [] })
plan_pages needed rs pages (p ∷ ps) t =
    and_then (plan_page (needed t p) rs pages p t)
    (λ r. and_so (plan_pages needed rs pages ps r.table) (after_writes r.writes))

-- a table whose entries are settled, and the decisions
pub record SettlePlan : Type 0 where
  pub table : LockTable
  pub decisions : List Due

-- the decisions about a page
abbrev pub decided : ℕ → Settled → List Due
decided p s = map (λ d. record { page = p; version = s.entry.version; decision = d }) s.decisions

-- decisions before those about other pages
abbrev pub after_decisions : List Due → SettlePlan → SettlePlan
after_decisions ds s = record s { decisions = ds ++ s.decisions }

-- some pages of a table are settled by their owner, one after the other
unfoldable pub plan_settling : ℕ → List ℕ → LockTable → SettlePlan
plan_settling me [] t = record { table = t; decisions = [] }
plan_settling me (p ∷ ps) t =
    after_decisions (decided p (settle me (entry_at t p)))
    (plan_settling me ps (put_entry t p (settle me (entry_at t p)).entry))

-- a partition that isn't settled
abbrev pub unsettled : Turnover → Option LockTable → PartitionPlan
unsettled turnover t =
    record { turnover = turnover; writes = []; table = t; begins = false; decisions = []; told = None }

-- a partition that is settled, after redo's writes
abbrev pub with_settled : Turnover → Bool → List PageWrite → SettlePlan → PartitionPlan
with_settled turnover begins ws s =
    record {
      turnover = turnover;
      writes = ws;
      table = Some s.table;
      begins = begins;
      decisions = s.decisions;
      told = None;
    }

-- a table that is rebuilt: it is redone, served and settled where it misses no report
abbrev pub plan_complete : Bool → Turnover → Disk → List (List ℕ) → ℕ → NodeState → LockTable → Outcome PartitionPlan
plan_complete false turnover d pages q n t = Goes (unsettled turnover (Some t))
plan_complete true turnover d pages q n t =
    and_so (plan_pages (λ u p. true) (all_records n.home.config d) pages (pages_of n.home.config q) t)
    (λ r. with_settled turnover true r.writes (plan_settling (number_of n) (pages_of n.home.config q) (serve r.table)))

-- the same by the node's view
unfoldable pub plan_rebuilt : Turnover → Disk → List (List ℕ) → ℕ → NodeState → LockTable → Outcome PartitionPlan
plan_rebuilt turnover d pages q n t =
    plan_complete (is_complete n.view q (Some t)) turnover d pages q n t

-- the node gets a partition
unfoldable pub plan_get : Disk → List (List ℕ) → ℕ → NodeState → Outcome PartitionPlan
plan_get d pages q n = plan_rebuilt IsTaken d pages q n (new_table q (number_of n) (take_over q n.home))

-- whether some logs have a page newer than its entry
abbrev pub is_newer : List Record → LockTable → ℕ → Bool
is_newer lost t p = nat_lt (entry_at t p).version (greatest lost p)

-- the node keeps a partition: served, or still being rebuilt
abbrev pub plan_served : Bool → Disk → List (List ℕ) → Option View → View → ℕ → NodeState → LockTable → Outcome PartitionPlan
plan_served true d pages before v q n t =
    and_so
    (plan_pages (is_newer (records_in n.home.config d (lost_nodes before v))) (all_records n.home.config d) pages
    (pages_of n.home.config q) t)
    (λ r. with_settled Stays false r.writes (plan_settling (number_of n) (pages_of n.home.config q) (purge_table v.live r.table)))
plan_served false d pages before v q n t = plan_rebuilt Stays d pages q n (purge_table v.live t)

-- a partition that the node keeps, where it has a table of it
abbrev pub plan_kept : Option LockTable → Disk → List (List ℕ) → Option View → View → ℕ → NodeState → Outcome PartitionPlan
plan_kept None d pages before v q n = Goes (unsettled Stays None)
plan_kept (Some t) d pages before v q n = plan_served t.serving d pages before v q n t

-- another node gets a partition, which this one may have had
abbrev pub plan_left : Bool → ℕ → ℕ → NodeState → PartitionPlan
plan_left true to q n = record (unsettled IsLeft None) { told = Some (to, report q (left_home q n.home)) }
plan_left false to q n = record (unsettled Stays (table_at n q)) { told = Some (to, report q n.home) }

-- a partition at an install: whether the node owns it now, and whether its owner is new
abbrev pub plan_by : Bool → Bool → Disk → List (List ℕ) → Option View → View → ℕ → NodeState → Outcome PartitionPlan
plan_by true true d pages before v q n = plan_get d pages q n
plan_by true false d pages before v q n = plan_kept (table_at n q) d pages before v q n
plan_by false true d pages before v q n = Goes (plan_left (owned_before before q (number_of n)) (owner_of v q) q n)
plan_by false false d pages before v q n = Goes (unsettled Stays (table_at n q))

-- the plan of a partition at an install, from the logs, the stored pages, the view before, the view,
-- and the node's state
unfoldable pub plan_partition : Disk → List (List ℕ) → Option View → View → ℕ → NodeState → Outcome PartitionPlan
plan_partition d pages before v q n =
    plan_by (owner_of v q == number_of n) (since_of v q == v.epoch) d pages before v q n

-- the plan of a partition of which a report arrives
abbrev pub plan_gathered : Bool → Disk → List (List ℕ) → ℕ → Report → NodeState → LockTable → Outcome PartitionPlan
plan_gathered true d pages from r n t = Goes (unsettled Stays (Some t))
plan_gathered false d pages from r n t = plan_rebuilt Stays d pages r.partition n (gather t from r)

-- the same where there may be no table
abbrev pub plan_report_in : Option LockTable → Disk → List (List ℕ) → ℕ → Report → NodeState → Outcome PartitionPlan
plan_report_in None d pages from r n = Goes (unsettled Stays None)
plan_report_in (Some t) d pages from r n = plan_gathered t.serving d pages from r n t

-- the plan for a report that arrives
unfoldable pub plan_report : Disk → List (List ℕ) → ℕ → Report → NodeState → Outcome PartitionPlan
plan_report d pages from r n = plan_report_in (table_at n r.partition) d pages from r n

-- a page that was read with another number or version than it must have
pub record Differing : Type 0 where
  pub page : ℕ
  pub expected : ℕ
  pub found : ℕ

-- the plans of partitions in order, each with its partition, up to the first that can't be made, and
-- the page that differs there
pub record InstallPlan : Type 0 where
  pub plans : List (ℕ × PartitionPlan)
  pub differs : Option Differing

-- a plan comes before others, which aren't made where it can't be made
abbrev pub before_others : ℕ → Outcome PartitionPlan → InstallPlan → InstallPlan
before_others q (Goes x) others = record others { plans = (q, x) ∷ others.plans }
before_others q (Differs p expected found) others =
    record { plans = []; differs = Some (record { page = p; expected = expected; found = found }) }

-- the plans of some partitions
unfoldable pub plan_all : (ℕ → Outcome PartitionPlan) → List ℕ → InstallPlan
plan_all f [] = record { plans = []; differs = None }
plan_all f (q ∷ qs) = before_others q (f q) (plan_all f qs)

-- the plan of an install: all its partitions are planned from the same state
abbrev pub plan_install : Disk → List (List ℕ) → Option View → View → NodeState → InstallPlan
plan_install d pages before v n =
    plan_all (λ q. plan_partition d pages before v q n) (count_from 0 n.home.config.nodes)

-- a page is written, which makes its copy clean
abbrev pub write_one : PageWrite → HomeWork → HomeWork
write_one x w = write_page x.page x.at (on_pool (λ b. clean b x.page) w)

-- some pages are written, one after the other
unfoldable pub write_all : List PageWrite → HomeWork → HomeWork
write_all [] w = w
write_all (x ∷ xs) w = write_all xs (write_one x w)

-- what a home has of a partition is turned over, and the pages are written
abbrev pub turn_over : ℕ → PartitionPlan → Work → Work
turn_over q plan w =
    with_home_work w (write_all plan.writes (work_of_home (with_home w (turned plan.turnover q w.node.home))))

-- the table is put
abbrev pub put_planned : ℕ → Option LockTable → Work → Work
put_planned q t w = with_node w (put_table w.node q t)

-- a partition that begins to be served is replied
abbrev pub reply_if : Bool → ℕ → Work → Work
reply_if true q w = reply (reply.Serving q) w
reply_if false q w = w

-- a planned decision is carried out
abbrev pub carry_due : Due → Work → Outcome Work
carry_due x w = carry_out x.page x.version x.decision w

-- the report is sent
abbrev pub tell : Option (ℕ × Report) → Work → Work
tell None w = w
tell (Some x) w = send x.0 (body.Report x.1) w

-- a plan is carried out: the turnover and the writes, the table, the reply, the decisions in order,
-- and the report
unfoldable pub carry_plan : ℕ → PartitionPlan → Work → Outcome Work
carry_plan q plan w =
    and_so
    (for_each carry_due plan.decisions (reply_if plan.begins q (put_planned q plan.table (turn_over q plan w))))
    (tell plan.told)

-- the end of an install
abbrev pub end_with : Option Differing → Work → Outcome Work
end_with None w = Goes w
end_with (Some x) w = Differs x.page x.expected x.found

-- the plan of an install is carried out, partition by partition
abbrev pub carry_install : InstallPlan → Work → Outcome Work
carry_install x w = and_then (for_each (λ y. carry_plan y.0 y.1) x.plans w) (end_with x.differs)
