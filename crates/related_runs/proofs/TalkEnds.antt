-- What a node in a view sends in an access, at an end and for a message has its parties.
use Rattle.std.proofs.Common.{◌≡◌, refl, sym, ap, subst, ◌∙◌, ℕ, ◌<◌, ◌≤◌, ◌==◌, Bool, true, false, List, [], ◌∷◌, Option, Some, None, is_some}
use Rattle.std.specs.Prelude.{IfSome, ⊤}
use Rattle.std.specs.List.{AllByRecursion, All}
use Rattle.std.proofs.lemmas.List.Elements.{All-head, All-tail}
use Rattle.pcl_base.specs.Limits.{Sizes}
use Rattle.pcl_base.specs.declared.lock.Held.{Held}
use Rattle.pcl_base.specs.declared.lock.Kind.{Kind}
use Rattle.pcl_base.specs.declared.lock.Kind.TheVariants as kind
use Rattle.pcl_base.specs.declared.message.Body.TheVariants as body
use Rattle.pcl_base.specs.declared.message.Change.{Change}
use Rattle.pcl_base.specs.declared.message.Grant.{Grant}
use Rattle.pcl_base.specs.declared.message.Release.{Release}
use Rattle.pcl_base.specs.declared.message.Report.{Report}
use Rattle.pcl_base.specs.declared.message.ReportWait.{ReportWait}
use Rattle.pcl_base.specs.declared.reply.Reply.{Reply}
use Rattle.pcl_base.specs.declared.reply.Reply.TheVariants as reply
use Rattle.pcl_base.specs.declared.tx.TxId.{TxId}
use Rattle.run_rules.specs.Disk.{Disk}
use Rattle.run_rules.specs.Views.{View, owner_of}
use Rattle.node_rules.specs.Words.{pick}
use Rattle.node_rules.specs.AccessRule.{Access, Arrived, Granted, Next, Now, AskOwn, AskOwner, access, access_in, take_frames, is_held, is_allowed, next_of, now_done, perform, under_right, waiting, kind_of, image_of, granted, arrive, arrived, on_grant, on_revoke, on_pool, answer_with, spend_right, kinds_on, shelf_after, readers_after}
use Rattle.node_rules.specs.BufferRule.{find, clean}
use Rattle.node_rules.specs.EndRule.{Ending, Closed}
use Rattle.node_rules.specs.InstallRule.{take_report, on_report_in, on_report}
use Rattle.node_rules.specs.LockRule.{LockEntry, ask, takes_change}
use Rattle.node_rules.specs.LockTable.{LockTable, entry_at}
use Rattle.node_rules.specs.NodeState.{HomeState, partition, number_of, table_at, table_of, page_owner, owner_in, put_table}
use Rattle.node_rules.specs.NodeStep.{after_grant, take_grant, take_revoke}
use Rattle.node_rules.specs.OpenTxs.{OpenTxs, is_open, held_by, pending_of, waits_as, set_kind}
use Rattle.node_rules.specs.OwnerRule.{put_change, put_taken, change_if_served, version_of_change, end_in, enter, on_release_in, on_release, waits_first, go_on, do_access, send_release, tell_in, tell_end, is_unserved, keep_dirty, clean_unserved, end_work}
use Rattle.node_rules.specs.Reports.{gather}
use Rattle.node_rules.specs.Shelf.{Right, right_on, readers_of}
use Rattle.node_rules.specs.Work.{HomeWork, Work, work_of_home, with_home, with_home_work, with_node, some_reply, reply}
use Rattle.home_laws.specs.Homes.{IsHome}
use Rattle.home_laws.proofs.Locks.{held_open}
use Rattle.home_laws.proofs.Opens.{open_is_own}
use Rattle.home_laws.proofs.Tests.{and_left, and_right, number_equal}
use Rattle.step_laws.proofs.Homes.{HasLock, granted_home}
use Rattle.step_laws.proofs.Outcomes.{On, on_so, on_each}
use Rattle.cluster_laws.proofs.Lists.{all_any}
use Rattle.page_relation.specs.Together.{IsOf}
use Rattle.related_runs.specs.Parties.{IsLiving}
use Rattle.related_runs.proofs.Arrived.{put_same}
use Rattle.related_runs.proofs.TalkRedo.{complete_talks}
use Rattle.related_runs.proofs.Talking.{IsFrame, Talks, talks_send, frame_home, lock_frame, table_put, enter_talks}
use Rattle.related_runs.proofs.Waiters.{EntryWaits, TableWaits, ask_waits, end_waits, gather_table}

module _ (c : Sizes) (some : 1 ≤ c.nodes) (v : View) (me : ℕ) where
  -- a table at a node that owns its partition, where living transactions wait
  abbrev pub Owned : ℕ → LockTable → Type 0
  Owned q t = (owner_of v q ≡ me) × TableWaits (IsLiving v) t

  abbrev pub Speaks : Work → Type 0
  Speaks w = Talks c some v me Owned w

  -- the owner of a page
  owner_is : (p : ℕ) (w : Work) → Speaks w → owner_of v (partition c p) ≡ page_owner w.node p
  owner_is p w i =
      sym (ap (λ (o : Option View). owner_in o (partition w.node.home.config p)) i.0.view_is ∙ ap (λ (k : Sizes). owner_of v (partition k p)) i.0.config)

  pub enter_speaks : (p : ℕ) (g : LockEntry → LockEntry) → ((e : LockEntry) → EntryWaits (IsLiving v) e → EntryWaits (IsLiving v) (g e)) → (w : Work) → Speaks w → On Speaks (enter g p w)
  enter_speaks p g keeps w i = enter_talks c some v me Owned p (λ t is. is) (λ owns t is. (owns, is)) g keeps w i

  -- ---- an access of an own transaction
  module _ (t : TxId) (own : IsOf v me t) (living : IsLiving v t) where
    waits_speaks : (p : ℕ) (w : Work) → Speaks w → Speaks (waits_first t p w)
    waits_speaks p w i = by (is_some (pending_of w.node.home.txs t))
      where
        by : (b : Bool) → Speaks (pick b (record w { replies = reply.Waits t p ∷ w.replies }) w)
        by true = i
        by false = i

    -- what an access asks for is for its transaction and page
    abbrev IsFor : ℕ → Next → Type 0
    IsFor p (Now r) = ⊤
    IsFor p (AskOwn x) = x.tx ≡ t
    IsFor p (AskOwner r) = (r.tx ≡ t) × (r.page ≡ p)

    go_speaks : (p : ℕ) (x : Next) (w : Work) → IsFor p x → Speaks w → On Speaks (go_on t p x w)
    go_speaks p (Now r) w is i = i
    go_speaks p (AskOwn x) w is i =
        on_so Speaks Speaks (enter (λ e. ask e x) p w) (waits_first t p)
        (enter_speaks p (λ e. ask e x) (λ e all. ask_waits (IsLiving v) e x (subst (IsLiving v) (sym is) living) all) w i) (λ y j. waits_speaks p y j)
    go_speaks p (AskOwner r) w is i =
        talks_send c some v me Owned (page_owner w.node p) (body.Request r) (reply (reply.Waits t p) w)
        (ap (λ (k : ℕ). owner_of v (partition c k)) is.1 ∙ owner_is p w i, subst (IsOf v me) (sym is.0) own) i

    -- ---- the end of an own transaction
    sent_speaks : (k : Kind) (e : Ending) (w : Work) → Speaks w → Speaks (send_release k t e w)
    sent_speaks kind.Registered e w i =
        talks_send c some v me Owned (page_owner w.node e.page) (body.Release (record { tx = t; page = e.page; change = e.change })) w (owner_is e.page w i, own) i
    sent_speaks kind.Own e w i = i
    sent_speaks kind.Right e w i = i

    tell_speaks : (e : Ending) (w : Work) → Speaks w → On Speaks (tell_end t e w)
    unfolding tell_end
    tell_speaks e w i = by (table_of w.node e.page)
      where
        by : (o : Option LockTable) → On Speaks (tell_in t e o w)
        by None = sent_speaks e.kind e w i
        by (Some tb) =
            enter_speaks e.page (end_in t (change_if_served tb.serving e.change)) (λ x all. end_waits (IsLiving v) t (version_of_change (change_if_served tb.serving e.change)) x all) w i

    kept_speaks : (w : Work) (p : ℕ) → Speaks w → Speaks (keep_dirty w p)
    kept_speaks w p i = by (is_unserved (table_of w.node p))
      where
        by : (x : Bool) → Speaks (pick x (with_home_work w (on_pool (λ b. clean b p) (work_of_home w))) w)
        by true = (frame_home c some v me w.node.home (on_pool (λ b. clean b p) (work_of_home w)).home w.node.view w.node.epoch refl refl refl i.0, i.1, i.2)
        by false = i

    cleaned_speaks : (es : List Ending) (w : Work) → Speaks w → Speaks (clean_unserved es w)
    unfolding clean_unserved
    cleaned_speaks [] w i = i
    cleaned_speaks (e ∷ es) w i = cleaned_speaks es (pick (is_some e.change) (keep_dirty w e.page) w) (by (is_some e.change))
      where
        by : (x : Bool) → Speaks (pick x (keep_dirty w e.page) w)
        by true = kept_speaks w e.page i
        by false = i

    pub end_speaks : (r : Reply) (w : Work) (x : Closed) → Speaks (with_home_work w x.work) → On Speaks (end_work r t w x)
    end_speaks r w x i =
        on_each Speaks (λ (e : Ending). ⊤) (tell_end t) (λ e y any j. tell_speaks e y j) x.endings (all_any x.endings) (reply r (clean_unserved x.endings (with_home_work w x.work)))
        (cleaned_speaks x.endings (with_home_work w x.work) i)

  -- an access that isn't refused
  module _ (a : Access) (own : IsOf v me a.tx) (living : IsLiving v a.tx) where
    next_for : (owned : Bool) (have : Option ℕ) → IsFor a.tx own living a.page (next_of a owned have)
    next_for true have = refl
    next_for false have = (refl, refl)

    access_for : (owned : Bool) (w : HomeWork) → IsFor a.tx own living a.page (access a owned w).next
    unfolding access access_in
    access_for owned w = by (is_held a (take_frames a w).home) (is_allowed a owned (take_frames a w).home)
      where
        g : HomeWork
        g = take_frames a w

        by : (x y : Bool)
            → IsFor a.tx own living a.page (pick x (now_done (perform a.tx a.page a.write (take_frames a w)))
            (pick y (now_done (perform a.tx a.page None (record (take_frames a w) { home = under_right a.tx a.page (take_frames a w).home })))
            (record { next = next_of a owned (find (take_frames a w).home.pool a.page); work = record (take_frames a w) { home = waiting a (take_frames a w).home } }))).next
        by true y = tt
        by false true = tt
        by false false = next_for owned (find (take_frames a w).home.pool a.page)

    pub access_speaks : (w : Work) → IsFrame c some v me (access a (page_owner w.node a.page == number_of w.node) (work_of_home w)).work.home w.node.view w.node.epoch → Speaks w → On Speaks (do_access a w)
    unfolding do_access
    access_speaks w frame i =
        go_speaks a.tx own living a.page (access a (page_owner w.node a.page == number_of w.node) (work_of_home w)).next
        (with_home_work w (access a (page_owner w.node a.page == number_of w.node) (work_of_home w)).work)
        (access_for (page_owner w.node a.page == number_of w.node) (work_of_home w)) (frame, i.1, i.2)

  -- ---- messages
  pub release_speaks : (r : Release) (w : Work) → Speaks w → On Speaks (on_release r w)
  unfolding on_release
  release_speaks r w i = by (table_of w.node r.page)
    where
      taken : (x : Bool) (o : Option Change) → Speaks (put_taken x r.page o w)
      taken true (Some k) =
          let same = put_same r.page k (work_of_home w) in (
            frame_home c some v me w.node.home (put_change r.page k (work_of_home w)).home w.node.view w.node.epoch same.config (ap (λ (s : OpenTxs). s.node) same.txs) (ap (λ (s : OpenTxs). s.born) same.txs) i.0,
            i.1,
            i.2,
          )
      taken true None = i
      taken false o = i

      by : (o : Option LockTable) → On Speaks (on_release_in r o w)
      by None = i
      by (Some t) =
          let change : Option Change = change_if_served t.serving r.change in
          enter_speaks r.page (end_in r.tx change) (λ e all. end_waits (IsLiving v) r.tx (version_of_change change) e all)
          (put_taken (takes_change (entry_at t r.page) r.tx (version_of_change change)) r.page r.change w) (taken (takes_change (entry_at t r.page) r.tx (version_of_change change)) r.change)

  pub grant_speaks : (o : Option LockTable) (g : Grant) (w : Work) → Speaks w → On Speaks (take_grant o g w)
  unfolding on_grant
  grant_speaks (Some t) g w i = i
  grant_speaks None g w i =
      on_so (λ (a : Arrived). IsFrame c some v me a.work.home w.node.view w.node.epoch) Speaks (on_grant g false (work_of_home w)) (after_grant w) (by (waits_as (pending_of w.node.home.txs g.tx) g.page g.mode))
      (λ a frame. said a.reply (with_home_work w a.work) (frame, i.1, i.2))
    where
      said : (o : Option Reply) (x : Work) → Speaks x → Speaks (some_reply o x)
      said None x j = j
      said (Some r) x j = j

      shelved : HomeWork
      shelved = record (work_of_home w) { home = record (w.node.home) { shelf = shelf_after g w.node.home.shelf } }

      by : (y : Bool) → On (λ (a : Arrived). IsFrame c some v me a.work.home w.node.view w.node.epoch)
          (arrive y g false (record (work_of_home w) { home = record (w.node.home) { shelf = shelf_after g w.node.home.shelf } }))
      by false = frame_home c some v me w.node.home (record (w.node.home) { shelf = shelf_after g w.node.home.shelf }) w.node.view w.node.epoch refl refl refl i.0
      by true =
          let l : Held = record { page = g.page; mode = g.mode; kind = kind_of false g.right } in
          let h : HomeState = record (w.node.home) { shelf = readers_after g (shelf_after g w.node.home.shelf) } in
          on_so (λ (x : Granted). HasLock g.tx l h x.work.home) (λ (a : Arrived). IsFrame c some v me a.work.home w.node.view w.node.epoch)
          (granted g.tx l g.version (image_of g.copy) (record (work_of_home w) { home = record (w.node.home) { shelf = readers_after g (shelf_after g w.node.home.shelf) } })) arrived
          (granted_home g.tx l g.version (image_of g.copy) (record (work_of_home w) { home = record (w.node.home) { shelf = readers_after g (shelf_after g w.node.home.shelf) } }))
          (λ x has. lock_frame c some v me g.tx l h x.work.home w.node.view w.node.epoch has (frame_home c some v me w.node.home h w.node.view w.node.epoch refl refl refl i.0))

  -- readers of a right are own transactions
  reader_own : (h : HomeState) (view : Option View) (epoch : ℕ) → IsFrame c some v me h view epoch → (t : TxId) → is_open h.txs t ≡ true → IsOf v me t
  reader_own h view epoch f t there =
      let own = open_is_own h.txs t there in
      record {
        node = number_equal t.node h.txs.node (and_left (t.node == h.txs.node) (t.born == h.txs.born) own) ∙ f.node;
        born = number_equal t.born h.txs.born (and_right (t.node == h.txs.node) (t.born == h.txs.born) own) ∙ f.born;
      }

  readers_own : (h : HomeState) (view : Option View) (epoch p : ℕ) → IsFrame c some v me h view epoch → (ts : List TxId) → All (λ t. is_some (held_by h.txs t p) ≡ true) ts → AllByRecursion (IsOf v me) ts
  readers_own h view epoch p f [] all = tt
  readers_own h view epoch p f (t ∷ ts) all = (
    reader_own h view epoch f t (held_open h.txs t p (All-head (λ t. is_some (held_by h.txs t p) ≡ true) t ts all)),
    readers_own h view epoch p f ts (All-tail (λ t. is_some (held_by h.txs t p) ≡ true) t ts all),
  )

  kinds_same : (ts : List TxId) (s : OpenTxs) (p : ℕ) (k : Kind) → ((kinds_on s ts p k).node ≡ s.node) × ((kinds_on s ts p k).born ≡ s.born)
  unfolding kinds_on set_kind
  kinds_same [] s p k = (refl, refl)
  kinds_same (t ∷ ts) s p k = let rest = kinds_same ts (set_kind s t p k) p k in (rest.0, rest.1)

  pub revoke_speaks : (from p : ℕ) (w : Work) → owner_of v (partition c p) ≡ from → IsHome w.node.home → Speaks w → Speaks (take_revoke from w (on_revoke p w.node.home))
  unfolding on_revoke
  revoke_speaks from p w owns is i = by (right_on w.node.home.shelf p) refl
    where
      by : (o : Option Right) → right_on w.node.home.shelf p ≡ o → Speaks (take_revoke from w (answer_with p o w.node.home))
      by None e = i
      by (Some r) e =
          let h : HomeState = spend_right kind.Registered p w.node.home in
          let same = kinds_same (readers_of (right_on w.node.home.shelf p)) w.node.home.txs p kind.Registered in
          talks_send c some v me Owned from (body.Return (record { page = p; readers = r.readers })) (with_home w h) (
            owns,
            readers_own w.node.home w.node.view w.node.epoch p i.0 r.readers
                (subst (λ (o : Option Right). All (λ t. is_some (held_by w.node.home.txs t p) ≡ true) (readers_of o)) e (is.readers p)),
          )
          (frame_home c some v me w.node.home h w.node.view w.node.epoch refl same.0 same.1 i.0, i.1, i.2)

  pub report_speaks : (d : Disk) (from : ℕ) (r : Report) (w : Work) → r.partition < c.nodes → AllByRecursion (λ (x : ReportWait). IsLiving v x.tx) r.waits → Speaks w → On Speaks (on_report d from r w)
  unfolding on_report
  report_speaks d from r w low waits i = by (table_at w.node r.partition) refl
    where
      taken : (x : Bool) (t : LockTable) → table_at w.node r.partition ≡ Some t → On Speaks (take_report x d from r t w)
      taken true t there = i
      taken false t there =
          let was = subst (λ (o : Option LockTable). IfSome o (Owned r.partition)) there (i.1.1 r.partition low) in
          complete_talks c some v me Owned r.partition low (λ x is. is) (λ x is. (was.0, is)) d (with_node w (put_table w.node r.partition (Some (gather t from r)))) (
            record { config = i.0.config; node = i.0.node; born = i.0.born; view_is = i.0.view_is; epoch_is = i.0.epoch_is },
            table_put c some v me Owned r.partition (gather t from r) w.node.tables (was.0, gather_table (IsLiving v) t from r waits was.1) i.1,
            i.2,
          )

      by : (o : Option LockTable) → table_at w.node r.partition ≡ o → On Speaks (on_report_in d from r o w)
      by None there = i
      by (Some t) there = taken t.serving t there
