-- The install rule: new, kept and given up partitions, and the redo before serving.
use Rattle.std.specs.Prelude.{ℕ, ◌==◌, ◌&&◌, not, nat_lt, Bool, true, false, List, [], ◌∷◌, ◌++◌, map, length, Option, Some, None}
use Rattle.std.specs.List.{filter}
use Rattle.pcl_base.specs.Limits.{Sizes}
use Rattle.pcl_base.specs.declared.log.Record.{Record}
use Rattle.pcl_base.specs.declared.lock.Held.{Held}
use Rattle.pcl_base.specs.declared.lock.Kind.{Kind}
use Rattle.pcl_base.specs.declared.lock.Kind.TheVariants as kind
use Rattle.pcl_base.specs.declared.message.Body.TheVariants as body
use Rattle.pcl_base.specs.declared.message.Report.{Report}
use Rattle.pcl_base.specs.declared.reply.Reply.TheVariants as reply
use Rattle.run_rules.specs.Views.{View, is_live, owner_of, since_of, born_of, count_from}
use Rattle.text_rules.specs.LogRecord.{whole_len}
use Rattle.text_rules.specs.StoredPage.{PageAt}
use Rattle.node_rules.specs.Words.{pick}
use Rattle.node_rules.specs.LockRule.{purge}
use Rattle.node_rules.specs.LockTable.{LockTable, open_table, entry_at, set_version, serve, pages_of}
use Rattle.node_rules.specs.OpenTxs.{OpenTx}
use Rattle.node_rules.specs.BufferRule.{Slot, clean, cleaned}
use Rattle.node_rules.specs.NodeState.{HomeState, NodeState, number_of, partition, table_at, put_table}
use Rattle.run_rules.specs.Disk.{Disk, log_at}
use Rattle.node_rules.specs.DiskCalls.{TrimLog}
use Rattle.run_rules.specs.Redo.{redone, greatest, records_in, all_records}
use Rattle.node_rules.specs.Work.{HomeWork, Work, Outcome, Goes, and_then, and_so, for_each, work_of_home, with_home_work, with_node, reply, send, write_page, read_page}
use Rattle.node_rules.specs.AccessRule.{on_pool}
use Rattle.node_rules.specs.OwnerRule.{settle_page}
use Rattle.node_rules.specs.Reports.{report, own_report, gather, missing}

-- the redo of a page: it is written where that is newer than the disk, which makes the copy clean
abbrev pub write_newer : Bool → ℕ → PageAt → HomeWork → HomeWork
write_newer false p at w = w
write_newer true p at w = write_page p at (on_pool (λ b. clean b p) w)

-- the entry of a page gets a version
abbrev pub version_in : ℕ → ℕ → ℕ → Option LockTable → NodeState → NodeState
version_in q p v None n = n
version_in q p v (Some t) n = put_table n q (Some (set_version t p v))

-- a page comes from its stored version to that of redo
abbrev pub redo_to : ℕ → ℕ → PageAt → PageAt → Work → Work
redo_to q p old new w =
    with_home_work (with_node w (version_in q p new.version (table_at w.node q) w.node))
    (write_newer (nat_lt old.version new.version) p new (work_of_home w))

-- redo of one page
unfoldable pub redo_page : List Record → ℕ → ℕ → Work → Outcome Work
redo_page rs q p w = and_so (read_page w.pages p) (λ old. redo_to q p old (redone rs p old) w)

-- each page of the partition is settled, rising
abbrev pub settle_all : ℕ → Work → Outcome Work
settle_all q w = for_each settle_page (pages_of w.node.home.config q) w

-- a complete table is served: redo over all its pages, `serving`, and settling
abbrev pub serve_table : ℕ → Option LockTable → NodeState → NodeState
serve_table q None n = n
serve_table q (Some t) n = put_table n q (Some (serve t))

-- a table is served from now on
abbrev pub begin_serving : ℕ → Work → Outcome Work
begin_serving q w =
    settle_all q (reply (reply.Serving q) (with_node w (serve_table q (table_at w.node q) w.node)))

-- a table is redone and served where it is complete
abbrev pub complete_if : Bool → Disk → ℕ → Work → Outcome Work
complete_if false d q w = Goes w
complete_if true d q w =
    and_then (for_each (redo_page (all_records w.node.home.config d) q) (pages_of w.node.home.config q) w)
    (begin_serving q)

-- whether a table that is rebuilt misses no report
abbrev pub is_complete : Option View → ℕ → Option LockTable → Bool
is_complete None q t = false
is_complete (Some v) q None = false
is_complete (Some v) q (Some t) = not t.serving && not (missing t v q)

-- a rebuilt table is served once no report is missing
unfoldable pub complete : Disk → ℕ → Work → Outcome Work
complete d q w = complete_if (is_complete w.node.view q (table_at w.node q)) d q w

-- all locks on pages of a partition get a kind
abbrev pub kinds_of_locks : Sizes → ℕ → Kind → List Held → List Held
kinds_of_locks c q k hs = map (λ (h : Held). pick (partition c h.page == q) (record h { kind = k }) h) hs

-- the locks of all transactions on pages of a partition get a kind
abbrev pub all_kinds : ℕ → Kind → HomeState → HomeState
all_kinds q k h =
    record h {
      txs = record (h.txs) { txs = map (λ (x : OpenTx). record x { pages = kinds_of_locks h.config q k x.pages }) h.txs.txs };
    }

-- the rights on pages of a partition are spent
abbrev pub spend_rights : ℕ → HomeState → HomeState
spend_rights q h = record h { shelf = filter (λ r. not (partition h.config r.page == q)) h.shelf }

-- a partition that the node gets: its rights and locks become own locks, and a new table is rebuilt
-- from its own report
abbrev pub take_over : ℕ → HomeState → HomeState
take_over q h = spend_rights q (all_kinds q kind.Own h)

-- the table that the node's own report makes
abbrev pub new_table : ℕ → ℕ → HomeState → LockTable
new_table q me h = gather (open_table h.config q false) me (own_report q h)

-- the node gets a partition
unfoldable pub get_partition : Disk → ℕ → Work → Outcome Work
get_partition d q w =
    complete d q
    (with_node w
    (put_table (record (w.node) { home = take_over q w.node.home }) q
    (Some (new_table q (number_of w.node) (take_over q w.node.home)))))

-- the nodes that were live before and aren't now
abbrev pub live_before : Option View → ℕ → Bool
live_before None n = false
live_before (Some v) n = is_live v.live n

-- the nodes that a view dropped
abbrev pub lost_nodes : Option View → View → List ℕ
lost_nodes before v =
    filter (λ n. live_before before n && not (is_live v.live n)) (count_from 0 (length v.live))

-- what the lost nodes' logs have of a page, where it is newer than the entry, is redone
abbrev pub version_of_page : Option LockTable → ℕ → ℕ
version_of_page None p = 0
version_of_page (Some t) p = (entry_at t p).version

-- redo of a page where it is needed
abbrev pub redo_if : Bool → List Record → ℕ → ℕ → Work → Outcome Work
redo_if false rs q p w = Goes w
redo_if true rs q p w = redo_page rs q p w

-- redo of a page where lost nodes' logs are newer than the entry
abbrev pub redo_lost : List Record → List Record → ℕ → ℕ → Work → Outcome Work
redo_lost lost rs q p w =
    redo_if (nat_lt (version_of_page (table_at w.node q) p) (greatest lost p)) rs q p w

-- only what live nodes have stays in the entries
abbrev pub purge_table : List Bool → LockTable → LockTable
purge_table live t =
    record t { entries = map (λ x. record { page = x.page; entry = purge x.entry live }) t.entries }

-- the same at a node
abbrev pub purged : ℕ → List Bool → Option LockTable → NodeState → NodeState
purged q live None n = n
purged q live (Some t) n = put_table n q (Some (purge_table live t))

-- the same in a step
abbrev pub purge_work : ℕ → View → Work → Work
purge_work q v w = with_node w (purged q v.live (table_at w.node q) w.node)

-- a partition that the node keeps: served or still being rebuilt
abbrev pub keep_served : Bool → Disk → Option View → View → ℕ → Work → Outcome Work
keep_served true d before v q w =
    and_then
    (for_each
    (redo_lost (records_in w.node.home.config d (lost_nodes before v)) (all_records w.node.home.config d) q)
    (pages_of w.node.home.config q) w)
    (λ x. settle_all q (purge_work q v x))
keep_served false d before v q w = complete d q (purge_work q v w)

-- a table that the node keeps
abbrev pub keep_in : Option LockTable → Disk → Option View → View → ℕ → Work → Outcome Work
keep_in None d before v q w = Goes w
keep_in (Some t) d before v q w = keep_served t.serving d before v q w

-- a partition that another node gets: what the node has of it is reported; an old owner's locks
-- count as registered, its table is given up, and its dirty copies become clean
abbrev pub owned_before : Option View → ℕ → ℕ → Bool
owned_before None q me = false
owned_before (Some v) q me = owner_of v q == me

-- the copies of pages of a partition are clean
abbrev pub clean_slots : Sizes → ℕ → List Slot → List Slot
clean_slots c q ss = map (λ (s : Slot). pick (partition c s.page == q) (record s { copy = cleaned s.copy }) s) ss

-- a partition leaves the node
abbrev pub give_up : ℕ → NodeState → NodeState
give_up q n =
    record (put_table n q None) {
      home =
          record (all_kinds q kind.Registered n.home) {
            pool = record (n.home.pool) { slots = clean_slots n.home.config q n.home.pool.slots };
          };
    }

-- the same where the node owned it before
abbrev pub left_if : Bool → ℕ → NodeState → NodeState
left_if true q n = give_up q n
left_if false q n = n

-- what the node has of a partition is reported
abbrev pub send_report : ℕ → ℕ → Work → Work
send_report q to w = send to (body.Report (report q w.node.home)) w

-- the new owner of a partition is told
abbrev pub tell_new_owner : Option View → View → ℕ → Work → Work
tell_new_owner before v q w =
    send_report q (owner_of v q)
    (with_node w (left_if (owned_before before q (number_of w.node)) q w.node))

-- a partition at an install: whether the node owns it now, and whether its owner is new
abbrev pub install_by : Bool → Bool → Disk → Option View → View → ℕ → Work → Outcome Work
install_by true true d before v q w = get_partition d q w
install_by true false d before v q w = keep_in (table_at w.node q) d before v q w
install_by false true d before v q w = Goes (tell_new_owner before v q w)
install_by false false d before v q w = Goes w

-- one partition at an install
unfoldable pub install_partition : Disk → Option View → View → ℕ → Work → Outcome Work
install_partition d before v q w =
    install_by (owner_of v q == number_of w.node) (since_of v q == v.epoch) d before v q w

-- a node that was born in this view trims the torn rest of its log
abbrev pub trim_if : Bool → ℕ → Work → Work
trim_if true keep w = record w { calls = w.calls ++ TrimLog keep ∷ [] }
trim_if false keep w = w

-- the node's own log
abbrev pub own_log : Disk → Work → List ℕ
own_log d w = log_at d (number_of w.node)

-- an empty torn rest makes no call
abbrev pub trim_rest : Disk → Work → Work
trim_rest d w =
    trim_if (nat_lt (whole_len w.node.home.config (own_log d w)) (length (own_log d w)))
    (whole_len w.node.home.config (own_log d w)) w

-- the node's birth
abbrev pub born_at : ℕ → NodeState → NodeState
born_at e n = record n { home = record (n.home) { txs = record (n.home.txs) { born = e } } }

-- a node that was born in the view begins its life
abbrev pub begin_life : Bool → Disk → View → Work → Work
begin_life true d v w = trim_rest d (with_node w (born_at v.epoch w.node))
begin_life false d v w = w

-- the node is in a view
abbrev pub in_view : View → NodeState → NodeState
in_view v n = record n { epoch = v.epoch; view = Some v }

-- a view is installed: the reply, the torn rest, and the partitions, rising
unfoldable pub install_view : Disk → View → Work → Outcome Work
install_view d v w =
    for_each (install_partition d w.node.view v) (count_from 0 w.node.home.config.nodes)
    (begin_life (born_of v (number_of w.node) == v.epoch) d v
    (reply (reply.Installed v.epoch) (with_node w (in_view v w.node))))

-- a report is taken while the table is rebuilt
abbrev pub take_report : Bool → Disk → ℕ → Report → LockTable → Work → Outcome Work
take_report true d from r t w = Goes w
take_report false d from r t w =
    complete d r.partition (with_node w (put_table w.node r.partition (Some (gather t from r))))

-- a report for a table that may be missing
abbrev pub on_report_in : Disk → ℕ → Report → Option LockTable → Work → Outcome Work
on_report_in d from r None w = Goes w
on_report_in d from r (Some t) w = take_report t.serving d from r t w

-- a report arrives at the owner
unfoldable pub on_report : Disk → ℕ → Report → Work → Outcome Work
on_report d from r w = on_report_in d from r (table_at w.node r.partition) w
