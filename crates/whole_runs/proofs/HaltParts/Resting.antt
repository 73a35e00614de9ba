-- What is asked of a work's calls, pages and tables, and of its node's sizes, number and view, is kept by what an install does of a
-- partition where writes, other tables and settling keep it. Settling makes no call.
use Rattle.std.proofs.Common.{◌==◌, nat_lt, ℕ, Bool, true, false, List, [], ◌∷◌, ◌++◌, Option, Some, None, slice_set}
use Rattle.std.specs.Prelude.{⊤}
use Rattle.std.specs.List.{AllByRecursion}
use Rattle.pcl_base.specs.Limits.{Sizes}
use Rattle.pcl_base.specs.declared.lock.Decision.{Decision}
use Rattle.pcl_base.specs.declared.lock.Decision.TheVariants as decision
use Rattle.pcl_base.specs.declared.lock.Held.{Held}
use Rattle.pcl_base.specs.declared.lock.Kind.TheVariants as kind
use Rattle.pcl_base.specs.declared.log.Record.{Record}
use Rattle.pcl_base.specs.declared.reply.Reply.TheVariants as reply
use Rattle.pcl_base.specs.declared.tx.Mode.{Mode}
use Rattle.pcl_base.specs.declared.tx.TxId.{TxId}
use Rattle.text_rules.specs.StoredPage.{PageAt, stored_bytes}
use Rattle.run_rules.specs.Disk.{Disk}
use Rattle.run_rules.specs.Redo.{redone, greatest, records_in, all_records}
use Rattle.run_rules.specs.Views.{View, owner_of, since_of}
use Rattle.node_rules.specs.AccessRule.{Granted, on_pool, perform, from_disk, unless_current, bring, locked, write_of, granted, clean_copy}
use Rattle.node_rules.specs.BufferRule.{find, install}
use Rattle.node_rules.specs.CopyRule.{is_version}
use Rattle.node_rules.specs.DiskCalls.{DiskCall, WritePage}
use Rattle.node_rules.specs.InstallRule.{take_over, new_table, purge_table, write_newer, version_in, redo_to, redo_page, settle_all, serve_table, begin_serving, complete_if, is_complete, complete, get_partition, lost_nodes, redo_if, redo_lost, version_of_page, purged, purge_work, keep_served, keep_in, owned_before, left_if, send_report, tell_new_owner, install_by, install_partition}
use Rattle.node_rules.specs.LockRule.{Settled, settle}
use Rattle.node_rules.specs.LockTable.{LockTable, entry_at, put_entry, set_version, serve, pages_of}
use Rattle.node_rules.specs.NodeState.{number_of, table_at, table_of, put_table}
use Rattle.node_rules.specs.OpenTxs.{pending_of, waits_as, add}
use Rattle.node_rules.specs.OwnerRule.{with_table, told, grant_own, carry_grant, carry_out, carry_all, settle_served, settle_in, settle_page}
use Rattle.node_rules.specs.Words.{pick}
use Rattle.node_rules.specs.Work.{HomeWork, Work, Goes, Differs, for_each, work_of_home, with_home_work, with_node, reply, read_page}
use Rattle.step_laws.proofs.Outcomes.{On, on_then, on_so, on_each, on_any}
use Rattle.cluster_laws.proofs.Lists.{all_any}

-- calls, pages, tables, sizes, number and view
abbrev pub Asked : Type 1
Asked = List DiskCall → List (List ℕ) → List (Option LockTable) → Sizes → ℕ → Option View → Type 0

abbrev pub In : Asked → Work → Type 0
In P w = P w.calls w.pages w.node.tables w.node.home.config w.node.home.txs.node w.node.view

-- the same of a home, beside tables and a view
abbrev Home : Asked → List (Option LockTable) → Option View → HomeWork → Type 0
Home P ts v h = P h.calls h.pages ts h.home.config h.home.txs.node v

module _ (P : Asked) (ts : List (Option LockTable)) (v : Option View) where
  performed_rests : (t : TxId) (p : ℕ) (o : Option (ℕ × List ℕ)) (w : HomeWork) → Home P ts v w → Home P ts v (perform t p o w).work
  unfolding perform
  performed_rests t p None w b = b
  performed_rests t p (Some x) w b = b

  bring_rests : (p n : ℕ) (image : Option (List ℕ)) (w : HomeWork) → Home P ts v w → On (Home P ts v) (bring p n image w)
  unfolding bring
  bring_rests p n image w b = by (is_version (find w.home.pool p) n) image
    where
      disk : (at : PageAt) (x : Bool) → On (Home P ts v) (pick x (Goes (on_pool (λ q. install q p (clean_copy at)) w)) (Differs p n at.version))
      disk at true = b
      disk at false = tt

      by : (x : Bool) (o : Option (List ℕ)) → On (Home P ts v) (unless_current x p n o w)
      by true o = b
      by false (Some bytes) = b
      by false None = on_then (λ (at : PageAt). ⊤) (Home P ts v) (read_page w.pages p) (from_disk p n w) (on_any (read_page w.pages p)) (λ at any. disk at (at.version == n))

  granted_rests : (t : TxId) (l : Held) (n : ℕ) (image : Option (List ℕ)) (w : HomeWork) → Home P ts v w → On (λ (g : Granted). Home P ts v g.work) (granted t l n image w)
  unfolding granted add
  granted_rests t l n image w b =
      on_so (Home P ts v) (λ (g : Granted). Home P ts v g.work) (bring l.page n image w) (locked t l (write_of (pending_of w.home.txs t))) (bring_rests l.page n image w b)
      (λ x c. performed_rests t l.page (write_of (pending_of w.home.txs t)) (record x { home = record (x.home) { txs = add x.home.txs t l } }) c)

module _ (P : Asked) where
  own_rests : (b : Bool) (t : TxId) (m : Mode) (p x : ℕ) (w : Work) → In P w → On (In P) (grant_own b t m p x w)
  own_rests false t m p x w i = i
  own_rests true t m p x w i =
      on_so (λ (g : Granted). Home P w.node.tables w.node.view g.work) (In P) (granted t (record { page = p; mode = m; kind = kind.Own }) x None (work_of_home w)) (told w)
      (granted_rests P w.node.tables w.node.view t (record { page = p; mode = m; kind = kind.Own }) x None (work_of_home w) i) (λ g b. b)

  grant_rests : (b : Bool) (t : TxId) (m : Mode) (right : Bool) (have : Option ℕ) (p x : ℕ) (w : Work) → In P w → On (In P) (carry_grant b t m right have p x w)
  grant_rests true t m right have p x w i = own_rests (waits_as (pending_of w.node.home.txs t) p m) t m p x w i
  grant_rests false t m right have p x w i = i

  carry_rests : (p x : ℕ) (d : Decision) (w : Work) → In P w → On (In P) (carry_out p x d w)
  unfolding carry_out
  carry_rests p x (decision.Grant t m right have) w i = grant_rests (t.node == number_of w.node) t m right have p x w i
  carry_rests p x (decision.Revoke n) w i = i

  settle_rests : (p : ℕ) (w : Work) → ((t : LockTable) → In P (with_table p t w)) → In P w → On (In P) (settle_page p w)
  unfolding settle_page
  settle_rests p w put i = by (table_of w.node p)
    where
      all : (t : LockTable) (s : Settled) → On (In P) (carry_all p t s w)
      all t s =
          on_each (In P) (λ (d : Decision). ⊤) (carry_out p s.entry.version) (λ d w any i. carry_rests p s.entry.version d w i) s.decisions (all_any s.decisions)
          (with_table p (put_entry t p s.entry) w) (put (put_entry t p s.entry))

      served : (b : Bool) (t : LockTable) → On (In P) (settle_served b p t w)
      served false t = i
      served true t = all t (settle (number_of w.node) (entry_at t p))

      by : (o : Option LockTable) → On (In P) (settle_in p o w)
      by None = i
      by (Some t) = served t.serving t

-- settling of a partition
module _ (P : Asked) (q : ℕ) (F : ℕ → Type 0) (pages : (w : Work) → In P w → AllByRecursion F (pages_of w.node.home.config q)) (settles : (x : ℕ) (t : LockTable) (w : Work) → F x → In P w → In P (with_table x t w)) where
  pub all_settle : (w : Work) → In P w → On (In P) (settle_all q w)
  all_settle w i = on_each (In P) F settle_page (λ x y f j. settle_rests P x y (λ t. settles x t y f j) j) (pages_of w.node.home.config q) (pages w i) w i

-- what is asked doesn't care for writes of a partition's pages, for its table, and for those of its pages
pub record IsFree (P : Asked) (q : ℕ) (F : ℕ → Type 0) : Type 0 where
  pub pages : (w : Work) → In P w → AllByRecursion F (pages_of w.node.home.config q)
  pub settles : (x : ℕ) (t : LockTable) (w : Work) → F x → In P w → In P (with_table x t w)
  pub tables : (o : Option LockTable) (w : Work) → In P w → In P (with_node w (put_table w.node q o))
  pub writes : (x : ℕ) (bytes : List ℕ) (w : Work) → F x → In P w → In P (record w { calls = w.calls ++ WritePage x bytes ∷ []; pages = slice_set w.pages x bytes })

module _ (P : Asked) (q : ℕ) (F : ℕ → Type 0) (free : IsFree P q F) where
  settled : (w : Work) → In P w → On (In P) (settle_all q w)
  settled w i = all_settle P q F free.pages free.settles w i

  redo_rests : (rs : List Record) (x : ℕ) (w : Work) → F x → In P w → On (In P) (redo_page rs q x w)
  unfolding redo_page
  redo_rests rs x w f i =
      on_so (λ (at : PageAt). ⊤) (In P) (read_page w.pages x) (λ old. redo_to q x old (redone rs x old) w) (on_any (read_page w.pages x))
      (λ old any. by (nat_lt old.version (redone rs x old).version) (redone rs x old) (table_at w.node q))
    where
      by : (b : Bool) (at : PageAt) (o : Option LockTable) → In P (with_home_work (with_node w (version_in q x at.version o w.node)) (write_newer b x at (work_of_home w)))
      by false at None = i
      by false at (Some t) = free.tables (Some (set_version t x at.version)) w i
      by true at None = free.writes x (stored_bytes x at) w f i
      by true at (Some t) =
          free.writes x (stored_bytes x at) (with_node w (put_table w.node q (Some (set_version t x at.version)))) f (free.tables (Some (set_version t x at.version)) w i)

  serving_rests : (w : Work) → In P w → On (In P) (begin_serving q w)
  serving_rests w i = settled (reply (reply.Serving q) (with_node w (serve_table q (table_at w.node q) w.node))) (by (table_at w.node q))
    where
      by : (o : Option LockTable) → In P (reply (reply.Serving q) (with_node w (serve_table q o w.node)))
      by None = i
      by (Some t) = free.tables (Some (serve t)) w i

  complete_rests : (d : Disk) (w : Work) → In P w → On (In P) (complete d q w)
  unfolding complete
  complete_rests d w i = by (is_complete w.node.view q (table_at w.node q))
    where
      by : (b : Bool) → On (In P) (complete_if b d q w)
      by false = i
      by true =
          on_then (In P) (In P) (for_each (redo_page (all_records w.node.home.config d) q) (pages_of w.node.home.config q) w) (begin_serving q)
          (on_each (In P) F (redo_page (all_records w.node.home.config d) q) (λ x y f j. redo_rests (all_records w.node.home.config d) x y f j) (pages_of w.node.home.config q) (free.pages w i) w i) serving_rests

  get_rests : (d : Disk) (w : Work) → In P w → On (In P) (get_partition d q w)
  unfolding get_partition
  get_rests d w i =
      let table : Option LockTable = Some (new_table q (number_of w.node) (take_over q w.node.home)) in
      complete_rests d (with_node w (put_table (record (w.node) { home = take_over q w.node.home }) q table)) (free.tables table w i)

  lost_rests : (lost rs : List Record) (x : ℕ) (w : Work) → F x → In P w → On (In P) (redo_lost lost rs q x w)
  lost_rests lost rs x w f i = by (nat_lt (version_of_page (table_at w.node q) x) (greatest lost x))
    where
      by : (b : Bool) → On (In P) (redo_if b rs q x w)
      by true = redo_rests rs x w f i
      by false = i

  purged_rests : (v : View) (w : Work) → In P w → In P (purge_work q v w)
  purged_rests v w i = by (table_at w.node q)
    where
      by : (o : Option LockTable) → In P (with_node w (purged q v.live o w.node))
      by None = i
      by (Some t) = free.tables (Some (purge_table v.live t)) w i

  keep_rests : (o : Option LockTable) (d : Disk) (before : Option View) (v : View) (w : Work) → In P w → On (In P) (keep_in o d before v q w)
  keep_rests None d before v w i = i
  keep_rests (Some t) d before v w i = by t.serving
    where
      by : (b : Bool) → On (In P) (keep_served b d before v q w)
      by true =
          on_then (In P) (In P) (for_each (redo_lost (records_in w.node.home.config d (lost_nodes before v)) (all_records w.node.home.config d) q) (pages_of w.node.home.config q) w)
          (λ x. settle_all q (purge_work q v x))
          (on_each (In P) F (redo_lost (records_in w.node.home.config d (lost_nodes before v)) (all_records w.node.home.config d) q)
          (λ x y f j. lost_rests (records_in w.node.home.config d (lost_nodes before v)) (all_records w.node.home.config d) x y f j) (pages_of w.node.home.config q) (free.pages w i) w i)
          (λ x j. settled (purge_work q v x) (purged_rests v x j))
      by false = complete_rests d (purge_work q v w) (purged_rests v w i)

  tell_rests : (before : Option View) (v : View) (w : Work) → In P w → In P (tell_new_owner before v q w)
  tell_rests before v w i = by (owned_before before q (number_of w.node))
    where
      by : (b : Bool) → In P (send_report q (owner_of v q) (with_node w (left_if b q w.node)))
      by true = free.tables None w i
      by false = i

  -- what an install does of the partition
  pub partition_rests : (d : Disk) (before : Option View) (v : View) (w : Work) → In P w → On (In P) (install_partition d before v q w)
  unfolding install_partition
  partition_rests d before v w i = by (owner_of v q == number_of w.node) (since_of v q == v.epoch)
    where
      by : (x y : Bool) → On (In P) (install_by x y d before v q w)
      by true true = get_rests d w i
      by true false = keep_rests (table_at w.node q) d before v w i
      by false true = tell_rests before v w i
      by false false = i
