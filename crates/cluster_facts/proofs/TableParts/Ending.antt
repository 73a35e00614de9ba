-- What holds in the tables of a node after an access, an end or a message.
use Rattle.std.proofs.Common.{◌≡◌, refl, sym, ap, subst, ℕ, ◌<◌, ◌≤◌, ◌==◌, Bool, true, false, List, [], ◌∷◌, Option, Some, None, is_some}
use Rattle.std.specs.Prelude.{IfSome, ⊤}
use Rattle.std.specs.List.{AllByRecursion}
use Rattle.pcl_base.specs.Limits.{Sizes}
use Rattle.pcl_base.specs.declared.lock.Held.{Held}
use Rattle.pcl_base.specs.declared.lock.Kind.{Kind}
use Rattle.pcl_base.specs.declared.lock.Kind.TheVariants as kind
use Rattle.pcl_base.specs.declared.message.Change.{Change}
use Rattle.pcl_base.specs.declared.message.Grant.{Grant}
use Rattle.pcl_base.specs.declared.message.Release.{Release}
use Rattle.pcl_base.specs.declared.message.Report.{Report}
use Rattle.pcl_base.specs.declared.message.ReportRight.{ReportRight}
use Rattle.pcl_base.specs.declared.reply.Reply.{Reply}
use Rattle.pcl_base.specs.declared.reply.Reply.TheVariants as reply
use Rattle.pcl_base.specs.declared.tx.TxId.{TxId}
use Rattle.run_rules.specs.Disk.{Disk}
use Rattle.node_rules.specs.Words.{pick}
use Rattle.node_rules.specs.AccessRule.{Access, Arrived, Granted, Next, Now, AskOwn, AskOwner, access, access_in, take_frames, is_held, is_allowed, next_of, now_done, perform, under_right, waiting, kind_of, image_of, granted, arrive, arrived, on_grant, on_revoke, on_pool, answer_with, spend_right, kinds_on, shelf_after, readers_after}
use Rattle.node_rules.specs.BufferRule.{find, clean}
use Rattle.node_rules.specs.EndRule.{Ending, Closed}
use Rattle.node_rules.specs.InstallRule.{take_report, on_report_in, on_report}
use Rattle.node_rules.specs.LockRule.{LockEntry, ask, takes_change}
use Rattle.node_rules.specs.LockTable.{LockTable, entry_at}
use Rattle.node_rules.specs.NodeState.{HomeState, partition, number_of, table_at, table_of, page_owner, put_table}
use Rattle.node_rules.specs.NodeStep.{after_grant, take_grant, take_revoke}
use Rattle.node_rules.specs.OpenTxs.{OpenTxs, pending_of, waits_as, set_kind}
use Rattle.node_rules.specs.OwnerRule.{put_change, put_taken, change_if_served, version_of_change, end_in, enter, on_release_in, on_release, waits_first, go_on, do_access, send_release, tell_in, tell_end, is_unserved, keep_dirty, clean_unserved, end_work}
use Rattle.node_rules.specs.Reports.{gather}
use Rattle.node_rules.specs.Shelf.{Right, right_on, readers_of}
use Rattle.node_rules.specs.Work.{HomeWork, Work, work_of_home, with_home_work, with_node, some_reply, reply}
use Rattle.step_laws.proofs.Homes.{HasLock, granted_home}
use Rattle.step_laws.proofs.Outcomes.{On, on_so, on_each}
use Rattle.cluster_laws.proofs.Lists.{all_any}
use Rattle.related_runs.proofs.Arrived.{put_same}
use Rattle.cluster_facts.proofs.TableParts.Entries.{EntryHas, TableHas, Lists, ask_has, end_has, gather_has}
use Rattle.cluster_facts.proofs.TableParts.Keeping.{IsHere, Holds, here_home, lock_here, table_put, enter_holds}
use Rattle.cluster_facts.proofs.TableParts.Redoing.{complete_holds}

module _ (c : Sizes) (some : 1 ≤ c.nodes) (me born : ℕ) (Q : ℕ → TxId → Type 0) (S : ℕ → ℕ → Type 0) (gives : (q : ℕ) (t : TxId) → Q q t → S q t.node) where
  -- a table of whose transactions Q holds, and S of its nodes
  abbrev pub Has : ℕ → LockTable → Type 0
  Has q t = TableHas (Q q) (S q) t

  abbrev pub Goes : Work → Type 0
  Goes w = Holds c some me born Has w

  pub enter_goes : (p : ℕ) (g : LockEntry → LockEntry) → ((e : LockEntry) → EntryHas (Q (partition c p)) (S (partition c p)) e → EntryHas (Q (partition c p)) (S (partition c p)) (g e)) → (w : Work) → Goes w → On Goes (enter g p w)
  enter_goes p g keeps w i = enter_holds c some me born Has p (Q (partition c p)) (S (partition c p)) (gives (partition c p)) (λ t is. is) (λ t is. is) g keeps w i

  -- ---- an access of an own transaction
  module _ (t : TxId) (own : (q : ℕ) → Q q t) where
    waits_go : (p : ℕ) (w : Work) → Goes w → Goes (waits_first t p w)
    waits_go p w i = by (is_some (pending_of w.node.home.txs t))
      where
        by : (b : Bool) → Goes (pick b (record w { replies = reply.Waits t p ∷ w.replies }) w)
        by true = i
        by false = i

    -- what an access asks for is for its transaction
    abbrev IsFor : Next → Type 0
    IsFor (Now r) = ⊤
    IsFor (AskOwn x) = x.tx ≡ t
    IsFor (AskOwner r) = ⊤

    next_goes : (p : ℕ) (x : Next) (w : Work) → IsFor x → Goes w → On Goes (go_on t p x w)
    next_goes p (Now r) w is i = i
    next_goes p (AskOwn x) w is i =
        on_so Goes Goes (enter (λ e. ask e x) p w) (waits_first t p)
        (enter_goes p (λ e. ask e x) (λ e all. ask_has (Q (partition c p)) (S (partition c p)) e x (subst (Q (partition c p)) (sym is) (own (partition c p))) all) w i) (λ y j. waits_go p y j)
    next_goes p (AskOwner r) w is i = i

  -- ---- the end of a transaction
  module _ (t : TxId) where
    sent_goes : (k : Kind) (e : Ending) (w : Work) → Goes w → Goes (send_release k t e w)
    sent_goes kind.Registered e w i = i
    sent_goes kind.Own e w i = i
    sent_goes kind.Right e w i = i

    tell_goes : (e : Ending) (w : Work) → Goes w → On Goes (tell_end t e w)
    unfolding tell_end
    tell_goes e w i = by (table_of w.node e.page)
      where
        by : (o : Option LockTable) → On Goes (tell_in t e o w)
        by None = sent_goes e.kind e w i
        by (Some tb) =
            enter_goes e.page (end_in t (change_if_served tb.serving e.change)) (λ x all. end_has (Q (partition c e.page)) (S (partition c e.page)) t (version_of_change (change_if_served tb.serving e.change)) x all) w i

    kept_goes : (w : Work) (p : ℕ) → Goes w → Goes (keep_dirty w p)
    kept_goes w p i = by (is_unserved (table_of w.node p))
      where
        by : (x : Bool) → Goes (pick x (with_home_work w (on_pool (λ b. clean b p) (work_of_home w))) w)
        by true = (here_home c some me born w.node.home (on_pool (λ b. clean b p) (work_of_home w)).home refl refl refl i.0, i.1)
        by false = i

    cleaned_goes : (es : List Ending) (w : Work) → Goes w → Goes (clean_unserved es w)
    unfolding clean_unserved
    cleaned_goes [] w i = i
    cleaned_goes (e ∷ es) w i = cleaned_goes es (pick (is_some e.change) (keep_dirty w e.page) w) (by (is_some e.change))
      where
        by : (x : Bool) → Goes (pick x (keep_dirty w e.page) w)
        by true = kept_goes w e.page i
        by false = i

    pub end_goes : (r : Reply) (w : Work) (x : Closed) → Goes (with_home_work w x.work) → On Goes (end_work r t w x)
    end_goes r w x i =
        on_each Goes (λ (e : Ending). ⊤) (tell_end t) (λ e y any j. tell_goes e y j) x.endings (all_any x.endings) (reply r (clean_unserved x.endings (with_home_work w x.work)))
        (cleaned_goes x.endings (with_home_work w x.work) i)

  -- an access that isn't refused
  module _ (a : Access) (own : (q : ℕ) → Q q a.tx) where
    next_for : (owned : Bool) (have : Option ℕ) → IsFor a.tx own (next_of a owned have)
    next_for true have = refl
    next_for false have = tt

    access_for : (owned : Bool) (w : HomeWork) → IsFor a.tx own (access a owned w).next
    unfolding access access_in
    access_for owned w = by (is_held a (take_frames a w).home) (is_allowed a owned (take_frames a w).home)
      where
        by : (x y : Bool)
            → IsFor a.tx own (pick x (now_done (perform a.tx a.page a.write (take_frames a w)))
            (pick y (now_done (perform a.tx a.page None (record (take_frames a w) { home = under_right a.tx a.page (take_frames a w).home })))
            (record { next = next_of a owned (find (take_frames a w).home.pool a.page); work = record (take_frames a w) { home = waiting a (take_frames a w).home } }))).next
        by true y = tt
        by false true = tt
        by false false = next_for owned (find (take_frames a w).home.pool a.page)

    pub access_goes : (w : Work) → IsHere c some me born (access a (page_owner w.node a.page == number_of w.node) (work_of_home w)).work.home → Goes w → On Goes (do_access a w)
    unfolding do_access
    access_goes w here i =
        next_goes a.tx own a.page (access a (page_owner w.node a.page == number_of w.node) (work_of_home w)).next
        (with_home_work w (access a (page_owner w.node a.page == number_of w.node) (work_of_home w)).work)
        (access_for (page_owner w.node a.page == number_of w.node) (work_of_home w)) (here, i.1)

  -- ---- messages
  pub release_goes : (r : Release) (w : Work) → Goes w → On Goes (on_release r w)
  unfolding on_release
  release_goes r w i = by (table_of w.node r.page)
    where
      taken : (x : Bool) (o : Option Change) → Goes (put_taken x r.page o w)
      taken true (Some k) =
          let same = put_same r.page k (work_of_home w) in (
            here_home c some me born w.node.home (put_change r.page k (work_of_home w)).home same.config (ap (λ (s : OpenTxs). s.node) same.txs) (ap (λ (s : OpenTxs). s.born) same.txs) i.0,
            i.1,
          )
      taken true None = i
      taken false o = i

      by : (o : Option LockTable) → On Goes (on_release_in r o w)
      by None = i
      by (Some t) =
          let change : Option Change = change_if_served t.serving r.change in
          enter_goes r.page (end_in r.tx change) (λ e all. end_has (Q (partition c r.page)) (S (partition c r.page)) r.tx (version_of_change change) e all)
          (put_taken (takes_change (entry_at t r.page) r.tx (version_of_change change)) r.page r.change w) (taken (takes_change (entry_at t r.page) r.tx (version_of_change change)) r.change)

  pub grant_goes : (o : Option LockTable) (g : Grant) (w : Work) → Goes w → On Goes (take_grant o g w)
  unfolding on_grant
  grant_goes (Some t) g w i = i
  grant_goes None g w i =
      on_so (λ (a : Arrived). IsHere c some me born a.work.home) Goes (on_grant g false (work_of_home w)) (after_grant w) (by (waits_as (pending_of w.node.home.txs g.tx) g.page g.mode))
      (λ a here. said a.reply (with_home_work w a.work) (here, i.1))
    where
      said : (o : Option Reply) (x : Work) → Goes x → Goes (some_reply o x)
      said None x j = j
      said (Some r) x j = j

      by : (y : Bool) → On (λ (a : Arrived). IsHere c some me born a.work.home)
          (arrive y g false (record (work_of_home w) { home = record (w.node.home) { shelf = shelf_after g w.node.home.shelf } }))
      by false = here_home c some me born w.node.home (record (w.node.home) { shelf = shelf_after g w.node.home.shelf }) refl refl refl i.0
      by true =
          let l : Held = record { page = g.page; mode = g.mode; kind = kind_of false g.right } in
          let h : HomeState = record (w.node.home) { shelf = readers_after g (shelf_after g w.node.home.shelf) } in
          on_so (λ (x : Granted). HasLock g.tx l h x.work.home) (λ (a : Arrived). IsHere c some me born a.work.home)
          (granted g.tx l g.version (image_of g.copy) (record (work_of_home w) { home = record (w.node.home) { shelf = readers_after g (shelf_after g w.node.home.shelf) } })) arrived
          (granted_home g.tx l g.version (image_of g.copy) (record (work_of_home w) { home = record (w.node.home) { shelf = readers_after g (shelf_after g w.node.home.shelf) } }))
          (λ x has. lock_here c some me born g.tx l h x.work.home has (here_home c some me born w.node.home h refl refl refl i.0))

  kinds_same : (ts : List TxId) (s : OpenTxs) (p : ℕ) (k : Kind) → ((kinds_on s ts p k).node ≡ s.node) × ((kinds_on s ts p k).born ≡ s.born)
  unfolding kinds_on set_kind
  kinds_same [] s p k = (refl, refl)
  kinds_same (t ∷ ts) s p k = kinds_same ts (set_kind s t p k) p k

  pub revoke_goes : (from p : ℕ) (w : Work) → Goes w → Goes (take_revoke from w (on_revoke p w.node.home))
  unfolding on_revoke
  revoke_goes from p w i = by (right_on w.node.home.shelf p)
    where
      by : (o : Option Right) → Goes (take_revoke from w (answer_with p o w.node.home))
      by None = i
      by (Some r) =
          let h : HomeState = spend_right kind.Registered p w.node.home in
          let same = kinds_same (readers_of (right_on w.node.home.shelf p)) w.node.home.txs p kind.Registered in
          (here_home c some me born w.node.home h refl same.0 same.1 i.0, i.1)

  pub report_goes : (d : Disk) (from : ℕ) (r : Report) (w : Work) → r.partition < c.nodes → Lists (Q r.partition) (S r.partition) r → AllByRecursion (λ (x : ReportRight). S r.partition from) r.rights → Goes w
      → On Goes (on_report d from r w)
  unfolding on_report
  report_goes d from r w low lists rights i = by (table_at w.node r.partition) refl
    where
      taken : (x : Bool) (t : LockTable) → table_at w.node r.partition ≡ Some t → On Goes (take_report x d from r t w)
      taken true t there = i
      taken false t there =
          let was = subst (λ (o : Option LockTable). IfSome o (Has r.partition)) there (i.1.1 r.partition low) in
          complete_holds c some me born Has r.partition low (Q r.partition) (S r.partition) (gives r.partition) (λ x is. is) (λ x is. is) d
          (with_node w (put_table w.node r.partition (Some (gather t from r)))) (
            record { config = i.0.config; node = i.0.node; life = i.0.life },
            table_put c some me born Has r.partition (gather t from r) w.node.tables (gather_has (Q r.partition) (S r.partition) t from r lists rights was) i.1,
          )

      by : (o : Option LockTable) → table_at w.node r.partition ≡ o → On Goes (on_report_in d from r o w)
      by None there = i
      by (Some t) there = taken t.serving t there
