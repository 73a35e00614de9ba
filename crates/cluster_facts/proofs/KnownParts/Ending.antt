-- From where a node has its locks and rights after an access, an end or a message.
use Rattle.std.proofs.Common.{◌≡◌, ◌⊎◌, inl, inr, refl, sym, ap, subst, ℕ, ◌<◌, ◌≤◌, ◌==◌, ◌&&◌, not, Bool, true, false, List, [], ◌∷◌, Option, Some, None, is_some, eqb-true}
use Rattle.std.specs.Prelude.{⊤}
use Rattle.std.proofs.lemmas.Nat.{mod_below}
use Rattle.pcl_base.specs.Limits.{Sizes}
use Rattle.pcl_base.specs.declared.lock.Held.{Held}
use Rattle.pcl_base.specs.declared.lock.Kind.{Kind}
use Rattle.pcl_base.specs.declared.lock.Kind.TheVariants as kind
use Rattle.pcl_base.specs.declared.message.Change.{Change}
use Rattle.pcl_base.specs.declared.message.Grant.{Grant}
use Rattle.pcl_base.specs.declared.message.Release.{Release}
use Rattle.pcl_base.specs.declared.message.Report.{Report}
use Rattle.pcl_base.specs.declared.reply.Reply.{Reply}
use Rattle.pcl_base.specs.declared.reply.Reply.TheVariants as reply
use Rattle.pcl_base.specs.declared.tx.Mode.TheVariants.{Shared}
use Rattle.pcl_base.specs.declared.tx.TxId.{TxId}
use Rattle.run_rules.specs.Disk.{Disk}
use Rattle.node_rules.specs.Words.{pick}
use Rattle.node_rules.specs.AccessRule.{Access, Arrived, Granted, Next, Now, AskOwn, AskOwner, access, access_in, take_frames, is_held, is_allowed, has_version, next_of, now_done, perform, under_right, waiting, kind_of, image_of, granted, arrive, arrived, on_grant, on_revoke, on_pool, answer_with, spend_right, shelf_after, readers_after}
use Rattle.node_rules.specs.BufferRule.{find, clean}
use Rattle.node_rules.specs.EndRule.{Ending, Closed}
use Rattle.node_rules.specs.InstallRule.{take_report, on_report_in, on_report}
use Rattle.node_rules.specs.LockRule.{LockEntry, ask, takes_change}
use Rattle.node_rules.specs.LockTable.{LockTable, entry_at}
use Rattle.node_rules.specs.NodeState.{HomeState, Outgoing, number_of, table_at, table_of, page_owner, put_table}
use Rattle.node_rules.specs.NodeStep.{after_grant, take_grant, take_revoke}
use Rattle.node_rules.specs.OpenTxs.{pending_of, waits_as}
use Rattle.node_rules.specs.OwnerRule.{put_change, put_taken, change_if_served, version_of_change, end_in, enter, on_release_in, on_release, waits_first, go_on, do_access, send_release, tell_in, tell_end, is_unserved, keep_dirty, clean_unserved, end_work}
use Rattle.node_rules.specs.Reports.{gather}
use Rattle.node_rules.specs.Shelf.{Right, right_on, is_at, readers_of}
use Rattle.node_rules.specs.Work.{HomeWork, Work, work_of_home, with_home_work, with_node, some_reply, reply}
use Rattle.home_laws.proofs.Frames.{frames_home}
use Rattle.home_laws.proofs.Tests.{and_right}
use Rattle.step_laws.proofs.Homes.{HasLock, granted_home}
use Rattle.step_laws.proofs.Outcomes.{On, on_so, on_each}
use Rattle.cluster_laws.proofs.Lists.{all_any}
use Rattle.related_runs.proofs.Arrived.{put_same}
use Rattle.cluster_facts.proofs.KnownParts.Held.{waits_hold, kinds_hold, waits_node, kinds_node}
use Rattle.cluster_facts.proofs.KnownParts.Shelved.{reader_shelf, after_shelf, readers_shelf, spent_shelf}
use Rattle.cluster_facts.proofs.KnownParts.Keeping.{State, Goes, home_less, home_same, home_locked, table_same, one_sent, enter_goes}
use Rattle.cluster_facts.proofs.KnownParts.Redoing.{gather_serves, complete_goes}

module _ (c : Sizes) (some : 1 ≤ c.nodes) (me : ℕ) (H : TxId → ℕ → Type 0) (R A S : ℕ → Type 0) (reads : (t : TxId) (p : ℕ) → R p → H t p) where
  -- all partitions are done
  abbrev pub Says : Work → Type 0
  Says w = Goes c me H R A S c.nodes w

  pub entered : (p : ℕ) (f : LockEntry → LockEntry) (w : Work) → Says w → On Says (enter f p w)
  entered p f w i = enter_goes c me H R A S some c.nodes p (mod_below p c.nodes some) f w i

  -- ---- an access
  waits_say : (t : TxId) (p : ℕ) (w : Work) → Says w → Says (waits_first t p w)
  waits_say t p w i = by (is_some (pending_of w.node.home.txs t))
    where
      by : (b : Bool) → Says (pick b (record w { replies = reply.Waits t p ∷ w.replies }) w)
      by true = i
      by false = i

  next_says : (t : TxId) (p : ℕ) (x : Next) (w : Work) → Says w → On Says (go_on t p x w)
  next_says t p (Now r) w i = i
  next_says t p (AskOwn x) w i = on_so Says Says (enter (λ e. ask e x) p w) (waits_first t p) (entered p (λ e. ask e x) w i) (λ y j. waits_say t p y j)
  next_says t p (AskOwner r) w i = one_sent c me H R A S c.nodes _ w.node.home w.node.tables w.sends tt i

  -- an access that is done leaves locks and rights
  module _ (ts : List (Option LockTable)) (os : List Outgoing) where
    abbrev Home : HomeState → Type 0
    Home h = State c me H R A S c.nodes h ts os

    performed : (t : TxId) (p : ℕ) (write : Option (ℕ × List ℕ)) (x : HomeWork) → Home x.home → Home (perform t p write x).work.home
    unfolding perform
    performed t p None x i = home_same c me H R A S c.nodes x.home _ ts os refl refl refl i
    performed t p (Some w) x i = home_same c me H R A S c.nodes x.home _ ts os refl refl refl i

    right_there : (p : ℕ) (rs : List Right) (o : Option ℕ) → has_version rs p o ≡ true → is_some (right_on rs p) ≡ true
    right_there p rs None e = absurd (cc)
    right_there p rs (Some v) e = by (right_on rs p) e
      where
        by : (o : Option Right) → is_at o v ≡ true → is_some o ≡ true
        by None e = absurd (cc)
        by (Some r) e = refl

    allowed_right : (a : Access) (owned : Bool) (h : HomeState) → is_allowed a owned h ≡ true → is_some (right_on h.shelf a.page) ≡ true
    allowed_right a owned h e =
        right_there a.page h.shelf (find h.pool a.page)
        (and_right (not (is_some a.write)) (has_version h.shelf a.page (find h.pool a.page)) (and_right (not owned) (not (is_some a.write) && has_version h.shelf a.page (find h.pool a.page)) e))

    under : (a : Access) (h : HomeState) → is_some (right_on h.shelf a.page) ≡ true → Home h → Home (under_right a.tx a.page h)
    under a h there i =
        home_less c me H R A S c.nodes (record h { txs = (under_right a.tx a.page h).txs }) (under_right a.tx a.page h) ts os refl refl (λ t p is. is) (λ p is. reader_shelf p h.shelf a.page a.tx is)
        (home_locked c me H R A S c.nodes a.tx (record { page = a.page; mode = Shared; kind = kind.Right }) h (record h { txs = (under_right a.tx a.page h).txs }) ts os
        (record { config = refl; txs = refl; shelf = refl }) (λ u. inl (reads u a.page (i.rights a.page there))) i)

    waiting_home : (a : Access) (h : HomeState) → Home h → Home (waiting a h)
    waiting_home a h i = home_less c me H R A S c.nodes h (waiting a h) ts os refl (waits_node h.txs a.tx _) (λ t p is. waits_hold p h.txs a.tx _ t is) (λ p is. is) i

    access_home : (a : Access) (owned : Bool) (w : HomeWork) → Home w.home → Home (access a owned w).work.home
    unfolding access access_in
    access_home a owned w i = by (is_held a taken.home) (is_allowed a owned taken.home) refl
      where
        taken : HomeWork
        taken = take_frames a w

        frames : Home taken.home
        frames = subst Home (sym (frames_home a w)) (home_same c me H R A S c.nodes w.home _ ts os refl refl refl i)

        by : (x y : Bool) → is_allowed a owned taken.home ≡ y
            → Home (pick x (now_done (perform a.tx a.page a.write taken))
            (pick y (now_done (perform a.tx a.page None (record taken { home = under_right a.tx a.page taken.home })))
            (record { next = next_of a owned (find taken.home.pool a.page); work = record taken { home = waiting a taken.home } }))).work.home
        by true y e = performed a.tx a.page a.write taken frames
        by false true e = performed a.tx a.page None (record taken { home = under_right a.tx a.page taken.home }) (under a taken.home (allowed_right a owned taken.home e) frames)
        by false false e = waiting_home a taken.home frames

  pub access_says : (a : Access) (w : Work) → Says w → On Says (do_access a w)
  unfolding do_access
  access_says a w i =
      next_says a.tx a.page (access a (page_owner w.node a.page == number_of w.node) (work_of_home w)).next
      (with_home_work w (access a (page_owner w.node a.page == number_of w.node) (work_of_home w)).work)
      (access_home w.node.tables w.sends a (page_owner w.node a.page == number_of w.node) (work_of_home w) i)

  -- ---- the end of a transaction
  sent_says : (k : Kind) (t : TxId) (e : Ending) (w : Work) → Says w → Says (send_release k t e w)
  sent_says kind.Registered t e w i = one_sent c me H R A S c.nodes _ w.node.home w.node.tables w.sends tt i
  sent_says kind.Own t e w i = i
  sent_says kind.Right t e w i = i

  tell_says : (t : TxId) (e : Ending) (w : Work) → Says w → On Says (tell_end t e w)
  unfolding tell_end
  tell_says t e w i = by (table_of w.node e.page)
    where
      by : (o : Option LockTable) → On Says (tell_in t e o w)
      by None = sent_says e.kind t e w i
      by (Some tb) = entered e.page (end_in t (change_if_served tb.serving e.change)) w i

  kept_says : (w : Work) (p : ℕ) → Says w → Says (keep_dirty w p)
  kept_says w p i = by (is_unserved (table_of w.node p))
    where
      by : (x : Bool) → Says (pick x (with_home_work w (on_pool (λ b. clean b p) (work_of_home w))) w)
      by true = home_same c me H R A S c.nodes w.node.home _ w.node.tables w.sends refl refl refl i
      by false = i

  cleaned_says : (es : List Ending) (w : Work) → Says w → Says (clean_unserved es w)
  unfolding clean_unserved
  cleaned_says [] w i = i
  cleaned_says (e ∷ es) w i = cleaned_says es (pick (is_some e.change) (keep_dirty w e.page) w) (by (is_some e.change))
    where
      by : (x : Bool) → Says (pick x (keep_dirty w e.page) w)
      by true = kept_says w e.page i
      by false = i

  pub end_says : (t : TxId) (r : Reply) (w : Work) (x : Closed) → Says (with_home_work w x.work) → On Says (end_work r t w x)
  end_says t r w x i =
      on_each Says (λ (e : Ending). ⊤) (tell_end t) (λ e y any j. tell_says t e y j) x.endings (all_any x.endings) (reply r (clean_unserved x.endings (with_home_work w x.work)))
      (cleaned_says x.endings (with_home_work w x.work) i)

  -- ---- messages
  pub release_says : (r : Release) (w : Work) → Says w → On Says (on_release r w)
  unfolding on_release
  release_says r w i = by (table_of w.node r.page)
    where
      taken : (x : Bool) (o : Option Change) → Says (put_taken x r.page o w)
      taken true (Some k) =
          let same = put_same r.page k (work_of_home w) in
          home_same c me H R A S c.nodes w.node.home (put_change r.page k (work_of_home w)).home w.node.tables w.sends same.config same.txs same.shelf i
      taken true None = i
      taken false o = i

      by : (o : Option LockTable) → On Says (on_release_in r o w)
      by None = i
      by (Some t) =
          let change : Option Change = change_if_served t.serving r.change in
          entered r.page (end_in r.tx change) (put_taken (takes_change (entry_at t r.page) r.tx (version_of_change change)) r.page r.change w)
          (taken (takes_change (entry_at t r.page) r.tx (version_of_change change)) r.change)

  pub grant_says : (o : Option LockTable) (g : Grant) (w : Work) → R g.page → Says w → On Says (take_grant o g w)
  unfolding on_grant
  grant_says (Some t) g w comes i = i
  grant_says None g w comes i =
      on_so (λ (a : Arrived). State c me H R A S c.nodes a.work.home w.node.tables w.sends) Says (on_grant g false (work_of_home w)) (after_grant w) (by (waits_as (pending_of w.node.home.txs g.tx) g.page g.mode))
      (λ a here. said a.reply (with_home_work w a.work) here)
    where
      said : (o : Option Reply) (x : Work) → Says x → Says (some_reply o x)
      said None x j = j
      said (Some r) x j = j

      -- the right is accepted
      home : HomeState
      home = record (w.node.home) { shelf = shelf_after g w.node.home.shelf }

      either : (q : ℕ) → (is_some (right_on w.node.home.shelf q) ≡ true) ⊎ ((g.page == q) ≡ true) → R q
      either q (inl is) = i.rights q is
      either q (inr e) = subst R (eqb-true g.page q e) comes

      accepted : State c me H R A S c.nodes home w.node.tables w.sends
      accepted =
          record {
            config = i.config;
            node = i.node;
            places = i.places;
            locks = i.locks;
            rights = λ q is. either q (after_shelf q g w.node.home.shelf is);
            sends = i.sends;
            serving = i.serving;
          }

      by : (y : Bool) → On (λ (a : Arrived). State c me H R A S c.nodes a.work.home w.node.tables w.sends) (arrive y g false (record (work_of_home w) { home = home }))
      by false = accepted
      by true =
          let l : Held = record { page = g.page; mode = g.mode; kind = kind_of false g.right } in
          let h : HomeState = record home { shelf = readers_after g home.shelf } in
          on_so (λ (x : Granted). HasLock g.tx l h x.work.home) (λ (a : Arrived). State c me H R A S c.nodes a.work.home w.node.tables w.sends)
          (granted g.tx l g.version (image_of g.copy) (record (work_of_home w) { home = record home { shelf = readers_after g home.shelf } })) arrived
          (granted_home g.tx l g.version (image_of g.copy) (record (work_of_home w) { home = record home { shelf = readers_after g home.shelf } }))
          (λ x has.
          home_locked c me H R A S c.nodes g.tx l h x.work.home w.node.tables w.sends has (λ u. inl (reads u g.page comes))
          (home_less c me H R A S c.nodes home h w.node.tables w.sends refl refl (λ t p is. is) (λ p is. readers_shelf p g home.shelf is) accepted))

  pub revoke_says : (from p : ℕ) (w : Work) → (is_some (right_on w.node.home.shelf p) ≡ true → A p) → Says w → Says (take_revoke from w (on_revoke p w.node.home))
  unfolding on_revoke
  revoke_says from p w answers i = by (right_on w.node.home.shelf p) refl
    where
      by : (o : Option Right) → right_on w.node.home.shelf p ≡ o → Says (take_revoke from w (answer_with p o w.node.home))
      by None there = i
      by (Some r) there =
          let h : HomeState = spend_right kind.Registered p w.node.home in
          one_sent c me H R A S c.nodes _ h w.node.tables w.sends (answers (ap (λ (o : Option Right). is_some o) there))
          (home_less c me H R A S c.nodes w.node.home h w.node.tables w.sends refl (kinds_node (readers_of (right_on w.node.home.shelf p)) w.node.home.txs p kind.Registered) (λ t q is. kinds_hold q (readers_of (right_on w.node.home.shelf p)) w.node.home.txs p kind.Registered t is)
          (λ q is. spent_shelf q w.node.home.shelf p is) i)

  pub report_says : (d : Disk) (from : ℕ) (r : Report) (w : Work) → r.partition < c.nodes → Says w → On Says (on_report d from r w)
  unfolding on_report
  report_says d from r w low i = by (table_at w.node r.partition) refl
    where
      taken : (x : Bool) (t : LockTable) → table_at w.node r.partition ≡ Some t → On Says (take_report x d from r t w)
      taken true t there = i
      taken false t there =
          complete_goes c some me H R A S r.partition low c.nodes low d (with_node w (put_table w.node r.partition (Some (gather t from r))))
          (table_same c me H R A S c.nodes r.partition t (gather t from r) w.node.home w.node.tables w.sends there (gather_serves t from r) i)

      by : (o : Option LockTable) → table_at w.node r.partition ≡ o → On Says (on_report_in d from r o w)
      by None there = i
      by (Some t) there = taken t.serving t there
