-- From where a node has its locks and rights while it redoes a partition, takes one over, keeps it or gives it up.
use Rattle.std.proofs.Common.{◌≡◌, refl, ap, sym, subst, ◌∙◌, ℕ, ◌+◌, ◌<◌, ◌≤◌, ◌==◌, nat_lt, Bool, true, false, List, [], ◌∷◌, slice_set, Option, Some, None, is_some, arith}
use Rattle.std.specs.Prelude.{⊤}
use Rattle.std.specs.List.{AllByRecursion}
use Rattle.pcl_base.specs.Limits.{Sizes}
use Rattle.pcl_base.specs.declared.lock.Kind.TheVariants as kind
use Rattle.pcl_base.specs.declared.log.Record.{Record}
use Rattle.pcl_base.specs.declared.message.Report.{Report}
use Rattle.pcl_base.specs.declared.message.ReportLock.{ReportLock}
use Rattle.pcl_base.specs.declared.message.ReportRight.{ReportRight}
use Rattle.pcl_base.specs.declared.message.ReportWait.{ReportWait}
use Rattle.pcl_base.specs.declared.reply.Reply.TheVariants as reply
use Rattle.pcl_base.specs.declared.tx.TxId.{TxId}
use Rattle.text_rules.specs.MessageBytes.{IsPageOf}
use Rattle.text_rules.specs.StoredPage.{PageAt}
use Rattle.run_rules.specs.Disk.{Disk}
use Rattle.run_rules.specs.Redo.{redone, greatest, records_in, all_records}
use Rattle.run_rules.specs.Views.{View, owner_of, since_of}
use Rattle.node_rules.specs.Words.{pick}
use Rattle.node_rules.specs.InstallRule.{write_newer, version_in, redo_to, redo_page, settle_all, serve_table, begin_serving, complete_if, is_complete, complete, take_over, new_table, get_partition, redo_if, redo_lost, version_of_page, lost_nodes, purge_table, purged, purge_work, keep_served, keep_in, owned_before, give_up, left_if, send_report, tell_new_owner, install_by, install_partition}
use Rattle.node_rules.specs.LockRule.{reported, reported_right, ask}
use Rattle.node_rules.specs.LockTable.{LockTable, pages_of, entry_at, put_entry, set_version, serve}
use Rattle.node_rules.specs.NodeState.{HomeState, partition, number_of, table_at, put_table}
use Rattle.node_rules.specs.OpenTxs.{held_by}
use Rattle.node_rules.specs.OwnerRule.{settle_page}
use Rattle.node_rules.specs.Reports.{gather_locks, gather_rights, gather_waits, gather}
use Rattle.node_rules.specs.Shelf.{right_on}
use Rattle.node_rules.specs.Work.{HomeWork, Work, work_of_home, with_node, for_each, reply, read_page}
use Rattle.step_laws.proofs.Homes.{IsSame}
use Rattle.step_laws.proofs.Outcomes.{On, on_then, on_so, on_each, on_any}
use Rattle.node_laws.proofs.Tables.{pages_are}
use Rattle.page_laws.specs.Look.Ends.{HasKinds, IsTakenOver, HasGivenUp}
use Rattle.page_laws.proofs.LookParts.Turning.{taking_over_is_seen_law, giving_up_is_seen_law}
use Rattle.cluster_facts.proofs.KnownParts.Held.{kind_of_held}
use Rattle.cluster_facts.proofs.KnownParts.Keeping.{IsFine, State, Goes, home_less, home_same, table_put, table_same, one_sent, further, settle_goes}

-- a report leaves a table served or not
locks_serve : (t : LockTable) (xs : List ReportLock) → (gather_locks t xs).serving ≡ t.serving
unfolding gather_locks
locks_serve t [] = refl
locks_serve t (x ∷ xs) = locks_serve (put_entry t x.page (reported (entry_at t x.page) x.tx x.mode)) xs

rights_serve : (t : LockTable) (n : ℕ) (xs : List ReportRight) → (gather_rights t n xs).serving ≡ t.serving
unfolding gather_rights
rights_serve t n [] = refl
rights_serve t n (x ∷ xs) = rights_serve (put_entry t x.page (reported_right (entry_at t x.page) n)) n xs

waits_serve : (t : LockTable) (xs : List ReportWait) → (gather_waits t xs).serving ≡ t.serving
unfolding gather_waits
waits_serve t [] = refl
waits_serve t (x ∷ xs) = waits_serve (put_entry t x.page (ask (entry_at t x.page) (record { tx = x.tx; mode = x.mode; have = x.have }))) xs

pub gather_serves : (t : LockTable) (n : ℕ) (r : Report) → (gather t n r).serving ≡ t.serving
unfolding gather
gather_serves t n r = waits_serve (gather_rights (gather_locks t r.locks) n r.rights) r.waits ∙ rights_serve (gather_locks t r.locks) n r.rights ∙ locks_serve t r.locks

module _ (c : Sizes) (some : 1 ≤ c.nodes) (me : ℕ) (H : TxId → ℕ → Type 0) (R A S : ℕ → Type 0) (q : ℕ) (low : q < c.nodes) where
  -- what is kept while the partitions below k are done
  abbrev Keeps : ℕ → Work → Type 0
  Keeps k w = Goes c me H R A S k w

  same_pages : (k : ℕ) (w : Work) → Keeps k w → AllByRecursion (IsPageOf c q) (pages_of w.node.home.config q)
  same_pages k w i = subst (λ (s : Sizes). AllByRecursion (IsPageOf c q) (pages_of s q)) (sym i.config) (pages_are c q low)

  -- ---- redo
  newer_same : (y : Bool) (p : ℕ) (at : PageAt) (w : HomeWork) → IsSame w.home (write_newer y p at w).home
  newer_same true p at w = record { config = refl; txs = refl; shelf = refl }
  newer_same false p at w = record { config = refl; txs = refl; shelf = refl }

  version_goes : (k p x : ℕ) (w : Work) → Keeps k w → State c me H R A S k w.node.home (version_in q p x (table_at w.node q) w.node).tables w.sends
  version_goes k p x w i = by (table_at w.node q) refl
    where
      by : (o : Option LockTable) → table_at w.node q ≡ o → State c me H R A S k w.node.home (version_in q p x o w.node).tables w.sends
      by None there = i
      by (Some t) there = table_same c me H R A S k q t (set_version t p x) w.node.home w.node.tables w.sends there refl i

  redo_goes : (k : ℕ) (rs : List Record) (p : ℕ) (w : Work) → Keeps k w → On (Keeps k) (redo_page rs q p w)
  unfolding redo_page
  redo_goes k rs p w i =
      on_so (λ (x : PageAt). ⊤) (Keeps k) (read_page w.pages p) (λ old. redo_to q p old (redone rs p old) w) (on_any (read_page w.pages p))
      (λ old any.
      let new : PageAt = redone rs p old in
      let same = newer_same (nat_lt old.version new.version) p new (work_of_home w) in
      home_same c me H R A S k w.node.home (write_newer (nat_lt old.version new.version) p new (work_of_home w)).home (version_in q p new.version (table_at w.node q) w.node).tables w.sends same.config same.txs same.shelf
      (version_goes k p new.version w i))

  lost_goes : (k : ℕ) (lost rs : List Record) (p : ℕ) (w : Work) → Keeps k w → On (Keeps k) (redo_lost lost rs q p w)
  lost_goes k lost rs p w i = by (nat_lt (version_of_page (table_at w.node q) p) (greatest lost p))
    where
      by : (b : Bool) → On (Keeps k) (redo_if b rs q p w)
      by true = redo_goes k rs p w i
      by false = i

  -- ---- a partition below k
  module _ (k : ℕ) (below : q < k) where
    one_goes : (p : ℕ) (w : Work) → IsPageOf c q p → Keeps k w → On (Keeps k) (settle_page p w)
    one_goes p w page i = settle_goes c me H R A S some k p (subst (λ (j : ℕ). j < k) (sym page.1) below) w i

    all_go : (w : Work) → Keeps k w → On (Keeps k) (settle_all q w)
    all_go w i = on_each (Keeps k) (IsPageOf c q) settle_page (λ p x page j. one_goes p x page j) (pages_of w.node.home.config q) (same_pages k w i) w i

    serving_goes : (w : Work) → Keeps k w → On (Keeps k) (begin_serving q w)
    serving_goes w i = all_go (reply (reply.Serving q) (with_node w (serve_table q (table_at w.node q) w.node))) (by (table_at w.node q))
      where
        by : (o : Option LockTable) → Keeps k (reply (reply.Serving q) (with_node w (serve_table q o w.node)))
        by None = i
        by (Some t) = table_put c me H R A S k q (Some (serve t)) w.node.home w.node.tables w.sends (λ l is. refl) (λ is fine. refl) i

    pub complete_goes : (d : Disk) (w : Work) → Keeps k w → On (Keeps k) (complete d q w)
    unfolding complete
    complete_goes d w i = by (is_complete w.node.view q (table_at w.node q))
      where
        by : (b : Bool) → On (Keeps k) (complete_if b d q w)
        by false = i
        by true =
            on_then (Keeps k) (Keeps k) (for_each (redo_page (all_records w.node.home.config d) q) (pages_of w.node.home.config q) w) (begin_serving q)
            (on_each (Keeps k) (IsPageOf c q) (redo_page (all_records w.node.home.config d) q)
            (λ p x page j. redo_goes k (all_records w.node.home.config d) p x j) (pages_of w.node.home.config q) (same_pages k w i) w i)
            serving_goes

  -- ---- an install, at this partition
  abbrev Start : Work → Type 0
  Start w = Keeps q w

  abbrev End : Work → Type 0
  End w = Keeps (q + 1) w

  past : (w : Work) → Start w → End w
  past w i = further c me H R A S q (q + 1) w.node.home w.node.tables w.sends (omega arith) i

  within : q < q + 1
  within = omega arith

  -- another table of this partition, or none
  put_start : (o : Option LockTable) (w : Work) → (S q → IsFine (table_at w.node q) → IsFine o) → Start w → Start (with_node w (put_table w.node q o))
  put_start o w fine i = table_put c me H R A S q q o w.node.home w.node.tables w.sends (λ l is. absurd (omega (arith, l))) fine i

  kinds_held : (h g : HomeState) (k : _) → HasKinds q k h g → (t : TxId) (p : ℕ) → is_some (held_by g.txs t p) ≡ true → is_some (held_by h.txs t p) ≡ true
  kinds_held h g k has t p is = kind_of_held p (partition h.config p == q) k (held_by h.txs t p) (subst (λ o. is_some o ≡ true) (has.held t p) is)

  get_goes : (S q → ⊥) → (d : Disk) (w : Work) → Start w → On End (get_partition d q w)
  unfolding get_partition
  get_goes never d w i =
      complete_goes (q + 1) within d
      (with_node w (put_table (record (w.node) { home = take_over q w.node.home }) q (Some (new_table q (number_of w.node) (take_over q w.node.home)))))
      (further c me H R A S q (q + 1) (take_over q w.node.home) _ w.sends (omega arith)
      (home_less c me H R A S q w.node.home (take_over q w.node.home) (slice_set w.node.tables q (Some (new_table q (number_of w.node) (take_over q w.node.home)))) w.sends refl over.locks.life.node
      (kinds_held w.node.home (take_over q w.node.home) kind.Own over.locks)
      (λ p is. gone (partition w.node.home.config p == q) (right_on w.node.home.shelf p) (subst (λ o. is_some o ≡ true) (over.rights p) is))
      (put_start (Some (new_table q (number_of w.node) (take_over q w.node.home))) w (λ is fine. absurd (never is)) i)))
    where
      over : IsTakenOver q w.node.home (take_over q w.node.home)
      over = taking_over_is_seen_law q w.node.home

      gone : {X : Type 0} (b : Bool) (o : Option X) → is_some (pick b None o) ≡ true → is_some o ≡ true
      gone true o is = absurd (cc)
      gone false o is = is

  -- one that it keeps
  purge_goes : (v : View) (w : Work) → Start w → Start (purge_work q v w)
  purge_goes v w i = by (table_at w.node q) refl
    where
      by : (o : Option LockTable) → table_at w.node q ≡ o → Start (with_node w (purged q v.live o w.node))
      by None there = i
      by (Some t) there = table_same c me H R A S q q t (purge_table v.live t) w.node.home w.node.tables w.sends there refl i

  keep_goes : (o : Option LockTable) (d : Disk) (before : Option View) (v : View) (w : Work) → Start w → On End (keep_in o d before v q w)
  keep_goes None d before v w i = past w i
  keep_goes (Some t) d before v w i = by t.serving
    where
      by : (x : Bool) → On End (keep_served x d before v q w)
      by true =
          on_then Start End
          (for_each (redo_lost (records_in w.node.home.config d (lost_nodes before v)) (all_records w.node.home.config d) q) (pages_of w.node.home.config q) w)
          (λ x. settle_all q (purge_work q v x))
          (on_each Start (IsPageOf c q) (redo_lost (records_in w.node.home.config d (lost_nodes before v)) (all_records w.node.home.config d) q)
          (λ p x page j. lost_goes q (records_in w.node.home.config d (lost_nodes before v)) (all_records w.node.home.config d) p x j)
          (pages_of w.node.home.config q) (same_pages q w i) w i)
          (λ x j. all_go (q + 1) within (purge_work q v x) (past (purge_work q v x) (purge_goes v x j)))
      by false = complete_goes (q + 1) within d (purge_work q v w) (past (purge_work q v w) (purge_goes v w i))

  -- one that another node gets
  left_goes : (x : Bool) (w : Work) → Start w → Start (with_node w (left_if x q w.node))
  left_goes true w i =
      home_less c me H R A S q w.node.home (give_up q w.node).home (slice_set w.node.tables q None) w.sends refl given.locks.life.node
      (kinds_held w.node.home (give_up q w.node).home kind.Registered given.locks)
      (λ p is. subst (λ o. is_some o ≡ true) (given.rights p) is) (put_start None w (λ is fine. tt) i)
    where
      given : HasGivenUp q w.node.home (give_up q w.node).home
      given = giving_up_is_seen_law q w.node
  left_goes false w i = i

  tell_goes : (before : Option View) (v : View) (w : Work) → Start w → Start (tell_new_owner before v q w)
  tell_goes before v w i = told (with_node w (left_if (owned_before before q (number_of w.node)) q w.node)) (left_goes (owned_before before q (number_of w.node)) w i)
    where
      told : (x : Work) → Start x → Start (send_report q (owner_of v q) x)
      told x j = one_sent c me H R A S q _ x.node.home x.node.tables x.sends tt j

  pub partition_goes : (d : Disk) (before : Option View) (v : View) → ((owner_of v q == me) ≡ true → (since_of v q == v.epoch) ≡ true → S q → ⊥) → (w : Work) → Start w → On End (install_partition d before v q w)
  unfolding install_partition
  partition_goes d before v fresh w i = by (owner_of v q == number_of w.node) refl (since_of v q == v.epoch) refl
    where
      by : (x : Bool) → (owner_of v q == number_of w.node) ≡ x → (y : Bool) → (since_of v q == v.epoch) ≡ y → On End (install_by x y d before v q w)
      by true e true f = get_goes (fresh (ap (λ (k : ℕ). owner_of v q == k) (sym i.node) ∙ e) f) d w i
      by true e false f = keep_goes (table_at w.node q) d before v w i
      by false e true f = past (tell_new_owner before v q w) (tell_goes before v w i)
      by false e false f = past w i
