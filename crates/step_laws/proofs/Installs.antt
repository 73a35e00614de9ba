-- What an install gives, partition by partition.
use Rattle.std.proofs.Common.{◌≡◌, ℕ, zero, suc, ◌+◌, ◌<◌, ◌≤◌, ◌==◌, nat_lt, Bool, true, false, [], ◌∷◌, length, length-append, Option, Some, None, refl, ap, subst, arith}
use Rattle.pcl_base.specs.Limits.{Sizes}
use Rattle.pcl_base.specs.declared.lock.Kind.TheVariants as kind
use Rattle.pcl_base.specs.declared.message.Body.TheVariants as body
use Rattle.pcl_base.specs.declared.reply.Reply.TheVariants as reply
use Rattle.run_rules.specs.Disk.{Disk}
use Rattle.run_rules.specs.Redo.{records_in, all_records}
use Rattle.run_rules.specs.Views.{View, owner_of, since_of, born_of, count_from}
use Rattle.text_rules.specs.LogRecord.{whole_len}
use Rattle.node_rules.specs.LockTable.{LockTable, pages_of}
use Rattle.node_rules.specs.NodeState.{HomeState, NodeState, Outgoing, number_of, table_at, put_table}
use Rattle.node_rules.specs.Work.{Work, Outcome, Goes, for_each, with_node, reply}
use Rattle.node_rules.specs.Reports.{report}
use Rattle.node_rules.specs.InstallRule.{settle_all, complete, take_over, new_table, get_partition, lost_nodes, redo_lost, purge_work, keep_served, keep_in, owned_before, give_up, left_if, send_report, tell_new_owner, install_by, install_partition, trim_if, own_log, born_at, begin_life, in_view, install_view}
use Rattle.step_laws.specs.Most.{items_in, items_sent}
use Rattle.step_laws.proofs.Sums.{sum_push}
use Rattle.step_laws.proofs.Settles.{due, load, due_few}
use Rattle.step_laws.proofs.Tables.{in_table, in_tables, table_put, table_less}
use Rattle.step_laws.proofs.Outcomes.{On, on_then, on_more}
use Rattle.step_laws.proofs.Homes.{waits_by, stock}
use Rattle.step_laws.proofs.Works.{Cap, Holds, given, holds_more}
use Rattle.step_laws.proofs.Partitions.{only, later, later_split, waits_both, stock_both, pages_none}
use Rattle.step_laws.proofs.Gathers.{report_items, own_load, kinds_waits, kinds_stock, taken_stock}
use Rattle.step_laws.proofs.Serving.{complete_holds, all_lost, purged_settled, purged_complete}

-- n partitions are left, the first of them is q: what is given, what is due, the accesses that wait
-- for pages that are left, and one for each partition are t at most; the items sent and what the home
-- has of pages that are left are i at most
pub record IsReady (c : Sizes) (t i n q : ℕ) (w : Work) : Type 0 where
  pub given : given w + in_tables due w.node + waits_by (later c q) w.node.home.txs.txs + n ≤ t
  pub items : items_sent w.sends + stock (later c q) w.node.home ≤ i
  pub config : w.node.home.config ≡ c

module _ (c : Sizes) (t i n q : ℕ) where
  -- what stays for the partitions behind q
  abbrev cap_at : Work → Cap
  cap_at w =
      record {
        config = c;
        weight = later c (q + 1);
        items = items_sent w.sends;
        stock = stock (later c (q + 1)) w.node.home;
        waits = waits_by (later c (q + 1)) w.node.home.txs.txs;
      }

  ready_next : (k : ℕ) (b : Work) (w : Work) → k + waits_by (later c (q + 1)) b.node.home.txs.txs + n ≤ t → items_sent b.sends + stock (later c (q + 1)) b.node.home ≤ i
      → Holds due (cap_at b) k w → IsReady c t i n (q + 1) w
  ready_next k b w less few h =
      let given = h.given in
      let waits = h.waits in
      let stock = h.stock in
      let items = h.items in
      record { given = omega (arith, less, given, waits); items = omega (arith, few, stock, items); config = h.config }

  less_waits : (w : Work) → waits_by (later c (q + 1)) w.node.home.txs.txs ≤ waits_by (later c q) w.node.home.txs.txs
  less_waits w = let both = waits_both (only c q) (later c (q + 1)) (later c q) (later_split c q) w.node.home.txs.txs in omega (arith, both)

  less_stock : (h : HomeState) → stock (later c (q + 1)) h ≤ stock (later c q) h
  less_stock h = let both = stock_both (only c q) (later c (q + 1)) (later c q) (later_split c q) h in omega (arith, both)

  holds_start : (w : Work) → w.node.home.config ≡ c → Holds due (cap_at w) (given w + in_tables due w.node) w
  holds_start w same = record { given = omega arith; items = omega arith; stock = omega arith; waits = omega arith; config = same }

  -- a work that gives one more at most
  one_more : (w : Work) (o : Outcome Work) → IsReady c t i (suc n) q w → On (Holds due (cap_at w) (given w + in_tables due w.node + 1)) o → On (IsReady c t i n (q + 1)) o
  one_more w o ready held =
      let now = ready.given in
      let items = ready.items in
      let waits = less_waits w in
      let stock = less_stock w.node.home in
      on_more (Holds due (cap_at w) (given w + in_tables due w.node + 1)) (IsReady c t i n (q + 1)) o
      (λ x h. ready_next (given w + in_tables due w.node + 1) w x (omega (arith, now, waits)) (omega (arith, items, stock)) h) held

  module _ (low : q < c.nodes) where
    get_ready : (d : Disk) (w : Work) → IsReady c t i (suc n) q w → On (IsReady c t i n (q + 1)) (get_partition d q w)
    unfolding get_partition
    get_ready d w ready =
        let home : HomeState = take_over q w.node.home in
        let table : LockTable = new_table q (number_of w.node) home in
        let node : NodeState = put_table (record (w.node) { home = home }) q (Some table) in
        let next : Work = with_node w node in
        let put = table_put due (record (w.node) { home = home }) q (Some table) in
        let due_now = table_less due load due_few (Some table) in
        let fits : in_table load (Some table) ≤ waits_by (only home.config q) home.txs.txs = own_load q (number_of w.node) home in
        let same : waits_by (only home.config q) home.txs.txs ≡ waits_by (only c q) home.txs.txs = ap (λ s. waits_by (only s q) home.txs.txs) ready.config in
        let both = waits_both (only c q) (later c (q + 1)) (later c q) (later_split c q) home.txs.txs in
        let waits = kinds_waits (later c q) q kind.Own w.node.home in
        let less = less_stock home in
        let stock = taken_stock (later c q) q w.node.home in
        let now = ready.given in
        let items = ready.items in
        on_more (Holds due (cap_at next) (given next + in_tables due next.node + 1)) (IsReady c t i n (q + 1)) (complete d q next)
        (λ x h.
        ready_next (given next + in_tables due next.node + 1) next x (omega (arith, put, due_now, fits, same, both, waits, now)) (omega (arith, less, stock, items)) h)
        (complete_holds (cap_at next) q (pages_none c q low) d (given next + in_tables due next.node) next (holds_start next ready.config))

    keep_ready : (o : Option LockTable) (d : Disk) (before : Option View) (v : View) (w : Work) → IsReady c t i (suc n) q w → On (IsReady c t i n (q + 1)) (keep_in o d before v q w)
    keep_ready None d before v w ready = one_more w (Goes w) ready (holds_more due (cap_at w) (given w + in_tables due w.node) (given w + in_tables due w.node + 1) w (omega arith) (holds_start w ready.config))
    keep_ready (Some table) d before v w ready = one_more w (keep_served table.serving d before v q w) ready (by table.serving)
      where
        k : ℕ
        k = given w + in_tables due w.node

        by : (b : Bool) → On (Holds due (cap_at w) (k + 1)) (keep_served b d before v q w)
        by true =
            on_then (Holds due (cap_at w) k) (Holds due (cap_at w) (k + 1))
            (for_each (redo_lost (records_in w.node.home.config d (lost_nodes before v)) (all_records w.node.home.config d) q) (pages_of w.node.home.config q) w)
            (λ x. settle_all q (purge_work q v x))
            (all_lost (cap_at w) q (pages_none c q low) (records_in w.node.home.config d (lost_nodes before v)) (all_records w.node.home.config d) k w (holds_start w ready.config))
            (λ x h.
            on_more (Holds due (cap_at w) k) (Holds due (cap_at w) (k + 1)) (settle_all q (purge_work q v x))
            (λ y held. holds_more due (cap_at w) k (k + 1) y (omega arith) held)
            (purged_settled (cap_at w) q (pages_none c q low) v k x h))
        by false = purged_complete (cap_at w) q (pages_none c q low) d v k w (holds_start w ready.config)

    tell_ready : (before : Option View) (v : View) (w : Work) → IsReady c t i (suc n) q w → IsReady c t i n (q + 1) (tell_new_owner before v q w)
    tell_ready before v w ready = by (owned_before before q (number_of w.node))
      where
        told : (x : NodeState) → x.home.config ≡ c → in_tables due x ≤ in_tables due w.node → waits_by (later c q) x.home.txs.txs ≤ waits_by (later c q) w.node.home.txs.txs
            → stock (later c q) x.home ≤ stock (later c q) w.node.home → IsReady c t i n (q + 1) (send_report q (owner_of v q) (with_node w x))
        told x same tables waits stocks =
            let sent : Outgoing = record { to = owner_of v q; message = record { epoch = x.epoch; body = body.Report (report q x.home) } } in
            let more = length-append w.sends (sent ∷ []) in
            let all = sum_push (λ (s : Outgoing). items_in s.message.body) w.sends sent in
            let listed = report_items q x.home in
            let only_same : stock (only x.home.config q) x.home ≡ stock (only c q) x.home = ap (λ s. stock (only s q) x.home) same in
            let both = stock_both (only c q) (later c (q + 1)) (later c q) (later_split c q) x.home in
            let less = waits_both (only c q) (later c (q + 1)) (later c q) (later_split c q) x.home.txs.txs in
            let now = ready.given in
            let items = ready.items in
            record { given = omega (arith, now, more, tables, waits, less); items = omega (arith, items, all, listed, only_same, both, stocks); config = same }

        by : (b : Bool) → IsReady c t i n (q + 1) (send_report q (owner_of v q) (with_node w (left_if b q w.node)))
        by true =
            let put = table_put due w.node q None in
            told (give_up q w.node) ready.config (omega (arith, put)) (kinds_waits (later c q) q kind.Registered w.node.home) (kinds_stock (later c q) q kind.Registered w.node.home)
        by false = told w.node ready.config (omega arith) (omega arith) (omega arith)

    partition_ready : (d : Disk) (before : Option View) (v : View) (w : Work) → IsReady c t i (suc n) q w → On (IsReady c t i n (q + 1)) (install_partition d before v q w)
    unfolding install_partition
    partition_ready d before v w ready = by (owner_of v q == number_of w.node) (since_of v q == v.epoch)
      where
        by : (a b : Bool) → On (IsReady c t i n (q + 1)) (install_by a b d before v q w)
        by true true = get_ready d w ready
        by true false = keep_ready (table_at w.node q) d before v w ready
        by false true = tell_ready before v w ready
        by false false = one_more w (Goes w) ready (holds_more due (cap_at w) (given w + in_tables due w.node) (given w + in_tables due w.node + 1) w (omega arith) (holds_start w ready.config))

-- all partitions that are left
all_ready : (c : Sizes) (t i : ℕ) (d : Disk) (before : Option View) (v : View) (n q : ℕ) → q + n ≤ c.nodes → (w : Work) → IsReady c t i n q w
    → On (IsReady c t i 0 (q + n)) (for_each (install_partition d before v) (count_from q n) w)
unfolding for_each count_from
all_ready c t i d before v zero q low w ready = subst (λ m. IsReady c t i 0 m w) (omega arith) ready
all_ready c t i d before v (suc n) q low w ready =
    subst (λ m. On (IsReady c t i 0 m) (for_each (install_partition d before v) (count_from q (suc n)) w)) (omega arith)
    (on_then (IsReady c t i n (q + 1)) (IsReady c t i 0 (q + 1 + n)) (install_partition d before v q w) (for_each (install_partition d before v) (count_from (q + 1) n))
    (partition_ready c t i n q (omega arith) d before v w ready)
    (λ x next. all_ready c t i d before v n (q + 1) (omega arith) x next))

-- an install: its reply, and all partitions
abbrev pub most_given : Work → ℕ
most_given w = given w + 1 + in_tables due w.node + waits_by (later w.node.home.config 0) w.node.home.txs.txs + w.node.home.config.nodes

abbrev pub most_items : Work → ℕ
most_items w = items_sent w.sends + stock (later w.node.home.config 0) w.node.home

abbrev answered : View → Work → Work
answered v w = reply (reply.Installed v.epoch) (with_node w (in_view v w.node))

abbrev IsBegun : Work → Work → Type 0
IsBegun w x = IsReady w.node.home.config (most_given w) (most_items w) w.node.home.config.nodes 0 x

trimmed_ready : (v : View) (w : Work) (b : Bool) (keep : ℕ) → IsBegun w (trim_if b keep (with_node (answered v w) (born_at v.epoch (answered v w).node)))
trimmed_ready v w true keep = let more = length-append w.replies (reply.Installed v.epoch ∷ []) in record { given = omega (arith, more); items = omega arith; config = refl }
trimmed_ready v w false keep = let more = length-append w.replies (reply.Installed v.epoch ∷ []) in record { given = omega (arith, more); items = omega arith; config = refl }

life_ready : (d : Disk) (v : View) (w : Work) (b : Bool) → IsBegun w (begin_life b d v (answered v w))
life_ready d v w true =
    let x : Work = with_node (answered v w) (born_at v.epoch (answered v w).node) in
    trimmed_ready v w (nat_lt (whole_len x.node.home.config (own_log d x)) (length (own_log d x))) (whole_len x.node.home.config (own_log d x))
life_ready d v w false = let more = length-append w.replies (reply.Installed v.epoch ∷ []) in record { given = omega (arith, more); items = omega arith; config = refl }

pub record IsInstalled (w x : Work) : Type 0 where
  pub given : given x ≤ most_given w
  pub items : items_sent x.sends ≤ most_items w

pub installed : (d : Disk) (v : View) (w : Work) → On (IsInstalled w) (install_view d v w)
unfolding install_view
installed d v w =
    on_more (IsReady w.node.home.config (most_given w) (most_items w) 0 (0 + w.node.home.config.nodes)) (IsInstalled w) (install_view d v w)
    (λ x h.
    let given = h.given in
    let items = h.items in
    record { given = omega (arith, given); items = omega (arith, items) })
    (all_ready w.node.home.config (most_given w) (most_items w) d w.node.view v w.node.home.config.nodes 0 (omega arith)
    (begin_life (born_of v (number_of w.node) == v.epoch) d v (answered v w)) (life_ready d v w (born_of v (number_of w.node) == v.epoch)))
