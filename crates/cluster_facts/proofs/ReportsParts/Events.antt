-- What an event that installs no view leaves of a node's tables, its view, and what it sends.
use Rattle.std.proofs.Common.{◌≡◌, refl, sym, ap, subst, ◌∙◌, ℕ, ◌==◌, Bool, true, false, List, [], ◌∷◌, Option, Some, None, is_some, slice_index_or}
use Rattle.std.specs.Prelude.{⊤}
use Rattle.std.specs.List.{AllByRecursion}
use Rattle.pcl_base.specs.declared.tx.TxId.{TxId}
use Rattle.pcl_base.specs.declared.lock.Kind.{Kind}
use Rattle.pcl_base.specs.declared.lock.Kind.TheVariants as kind
use Rattle.pcl_base.specs.declared.message.Body.{Body}
use Rattle.pcl_base.specs.declared.message.Body.TheVariants as body
use Rattle.pcl_base.specs.declared.message.Change.{Change}
use Rattle.pcl_base.specs.declared.message.Grant.{Grant}
use Rattle.pcl_base.specs.declared.message.Release.{Release}
use Rattle.pcl_base.specs.declared.reply.Reply.{Reply}
use Rattle.pcl_base.specs.declared.reply.Reply.TheVariants as reply
use Rattle.run_rules.specs.Disk.{Disk}
use Rattle.run_rules.specs.Views.{View}
use Rattle.node_rules.specs.AccessRule.{Access, Accessed, Arrived, Next, Now, AskOwn, AskOwner, access, on_grant, on_revoke, answer_with, on_pool}
use Rattle.node_rules.specs.BufferRule.{clean}
use Rattle.node_rules.specs.EndRule.{Ending, Closed}
use Rattle.node_rules.specs.InstallRule.{complete}
use Rattle.node_rules.specs.LockRule.{LockEntry, ask, takes_change}
use Rattle.node_rules.specs.LockTable.{LockTable, entry_at}
use Rattle.node_rules.specs.NodeState.{Outgoing, number_of, table_at, table_of, put_table, page_owner}
use Rattle.node_rules.specs.NodeStep.{after_grant, take_grant, take_revoke}
use Rattle.node_rules.specs.OpenTxs.{pending_of}
use Rattle.node_rules.specs.OwnerRule.{put_taken, change_if_served, version_of_change, end_in, enter, on_release_in, on_release, waits_first, go_on, do_access, send_release, tell_in, tell_end, is_unserved, keep_dirty, clean_unserved, end_work}
use Rattle.node_rules.specs.Shelf.{Right, right_on}
use Rattle.node_rules.specs.Words.{pick}
use Rattle.node_rules.specs.Work.{Work, work_of_home, with_home_work, with_node, some_reply, reply, send}
use Rattle.step_laws.proofs.Outcomes.{On, on_so, on_each, on_any}
use Rattle.node_laws.proofs.Lists.{all_push, set_look}
use Rattle.cluster_laws.proofs.Lists.{all_any}
use Rattle.cluster_laws.specs.Link.Orders.{is_report}
use Rattle.cluster_facts.proofs.ReportsParts.Flags.{TableGoesOn, table_further}
use Rattle.cluster_facts.proofs.ReportsParts.Walking.{is_decided, GoesOnAs, entered_walk, completed_walk}

module _ (view : Option View) (start : ℕ → Option LockTable) where
  -- the view is the same, tables went on, and no report was sent
  pub record Going (w : Work) : Type 0 where
    pub view_is : w.node.view ≡ view
    pub tables : (q : ℕ) → TableGoesOn (start q) (table_at w.node q)
    pub said : AllByRecursion (λ (o : Outgoing). is_report o.message.body ≡ false) w.sends

  pub same_going : (w x : Work) → x.node.tables ≡ w.node.tables → x.node.view ≡ w.node.view → x.sends ≡ w.sends → Going w → Going x
  same_going w x tables seen sends i =
      record {
        view_is = seen ∙ i.view_is;
        tables = λ q. subst (λ (ts : List (Option LockTable)). TableGoesOn (start q) (slice_index_or ts q None)) (sym tables) (i.tables q);
        said = subst (AllByRecursion (λ (o : Outgoing). is_report o.message.body ≡ false)) (sym sends) i.said;
      }

  pub put_going : (q : ℕ) (t u : LockTable) (w : Work) → table_at w.node q ≡ Some t → GoesOnAs t u → Going w → Going (with_node w (put_table w.node q (Some u)))
  put_going q t u w there on i =
      record {
        view_is = i.view_is;
        tables = λ j.
            set_look (λ (o : Option LockTable). TableGoesOn (start j) o) None w.node.tables q j (Some u)
            (λ same. table_further (start j) t u on (subst (TableGoesOn (start j)) (ap (table_at w.node) same ∙ there) (i.tables j))) (i.tables j);
        said = i.said;
      }

  pub send_going : (to : ℕ) (b : Body) (w : Work) → is_report b ≡ false → Going w → Going (send to b w)
  send_going to b w is i =
      record {
        view_is = i.view_is;
        tables = i.tables;
        said =
            all_push (λ (o : Outgoing). is_report o.message.body ≡ false) w.sends (record { to = to; message = record { epoch = w.node.epoch; body = b } }) i.said is;
      }

  decided_plain : (b : Body) → is_decided b ≡ true → is_report b ≡ false
  decided_plain (body.Grant g) is = refl
  decided_plain (body.Revoke p) is = refl
  decided_plain (body.Request r) is = refl
  decided_plain (body.Release r) is = refl
  decided_plain (body.Return r) is = refl
  decided_plain (body.Report r) is = absurd (cc)

  pub enter_going : (f : LockEntry → LockEntry) (p : ℕ) (w : Work) → Going w → On Going (enter f p w)
  enter_going =
      entered_walk Going (λ w x replies config number tables seen sends i. same_going w x tables seen sends i) put_going (λ to b w is i. send_going to b w (decided_plain b is) i)

  pub complete_going : (d : Disk) (q : ℕ) (w : Work) → Going w → On Going (complete d q w)
  complete_going =
      completed_walk Going (λ w x replies config number tables seen sends i. same_going w x tables seen sends i) put_going (λ to b w is i. send_going to b w (decided_plain b is) i)

  -- ---- an access
  first_going : (t : TxId) (p : ℕ) (w : Work) → Going w → Going (waits_first t p w)
  first_going t p w i = by (is_some (pending_of w.node.home.txs t))
    where
      by : (b : Bool) → Going (pick b (record w { replies = reply.Waits t p ∷ w.replies }) w)
      by true = same_going w (record w { replies = reply.Waits t p ∷ w.replies }) refl refl refl i
      by false = i

  next_going : (t : TxId) (p : ℕ) (x : Next) (w : Work) → Going w → On Going (go_on t p x w)
  next_going t p (Now r) w i = same_going w (reply r w) refl refl refl i
  next_going t p (AskOwn a) w i = on_so Going Going (enter (λ e. ask e a) p w) (waits_first t p) (enter_going (λ e. ask e a) p w i) (λ y j. first_going t p y j)
  next_going t p (AskOwner r) w i = send_going (page_owner w.node p) (body.Request r) (reply (reply.Waits t p) w) refl (same_going w (reply (reply.Waits t p) w) refl refl refl i)

  pub access_going : (a : Access) (w : Work) → Going w → On Going (do_access a w)
  unfolding do_access
  access_going a w i =
      let x : Accessed = access a (page_owner w.node a.page == number_of w.node) (work_of_home w) in
      next_going a.tx a.page x.next (with_home_work w x.work) (same_going w (with_home_work w x.work) refl refl refl i)

  -- ---- an end
  tell_going : (t : TxId) (e : Ending) (w : Work) → Going w → On Going (tell_end t e w)
  unfolding tell_end
  tell_going t e w i = by (table_of w.node e.page)
    where
      released : (k : Kind) → Going (send_release k t e w)
      released kind.Registered = send_going (page_owner w.node e.page) (body.Release (record { tx = t; page = e.page; change = e.change })) w refl i
      released kind.Own = i
      released kind.Right = i

      by : (o : Option LockTable) → On Going (tell_in t e o w)
      by None = released e.kind
      by (Some tb) = enter_going (end_in t (change_if_served tb.serving e.change)) e.page w i

  dirty_going : (w : Work) (p : ℕ) → Going w → Going (keep_dirty w p)
  dirty_going w p i = by (is_unserved (table_of w.node p))
    where
      by : (x : Bool) → Going (pick x (with_home_work w (on_pool (λ b. clean b p) (work_of_home w))) w)
      by true = same_going w (with_home_work w (on_pool (λ b. clean b p) (work_of_home w))) refl refl refl i
      by false = i

  cleaned_going : (es : List Ending) (w : Work) → Going w → Going (clean_unserved es w)
  unfolding clean_unserved
  cleaned_going [] w i = i
  cleaned_going (e ∷ es) w i = cleaned_going es (pick (is_some e.change) (keep_dirty w e.page) w) (by (is_some e.change))
    where
      by : (x : Bool) → Going (pick x (keep_dirty w e.page) w)
      by true = dirty_going w e.page i
      by false = i

  pub end_going : (r : Reply) (t : TxId) (w : Work) (x : Closed) → Going w → On Going (end_work r t w x)
  end_going r t w x i =
      let y : Work = clean_unserved x.endings (with_home_work w x.work) in
      on_each Going (λ (e : Ending). ⊤) (tell_end t) (λ e z any j. tell_going t e z j) x.endings (all_any x.endings) (reply r y)
      (same_going y (reply r y) refl refl refl (cleaned_going x.endings (with_home_work w x.work) (same_going w (with_home_work w x.work) refl refl refl i)))

  -- ---- messages
  pub release_going : (r : Release) (w : Work) → Going w → On Going (on_release r w)
  unfolding on_release
  release_going r w i = by (table_of w.node r.page)
    where
      taken : (x : Bool) (o : Option Change) → Going (put_taken x r.page o w)
      taken true (Some k) = same_going w (put_taken true r.page (Some k) w) refl refl refl i
      taken true None = i
      taken false o = i

      by : (o : Option LockTable) → On Going (on_release_in r o w)
      by None = i
      by (Some t) =
          let change : Option Change = change_if_served t.serving r.change in
          let took : Bool = takes_change (entry_at t r.page) r.tx (version_of_change change) in
          enter_going (end_in r.tx change) r.page (put_taken took r.page r.change w) (taken took r.change)

  pub grant_going : (o : Option LockTable) (g : Grant) (w : Work) → Going w → On Going (take_grant o g w)
  grant_going (Some t) g w i = i
  grant_going None g w i = on_so (λ (a : Arrived). ⊤) Going (on_grant g false (work_of_home w)) (after_grant w) (on_any (on_grant g false (work_of_home w))) (λ a any. said a a.reply)
    where
      said : (a : Arrived) (o : Option Reply) → Going (some_reply o (with_home_work w a.work))
      said a None = same_going w (with_home_work w a.work) refl refl refl i
      said a (Some r) = same_going w (reply r (with_home_work w a.work)) refl refl refl i

  pub revoke_going : (from p : ℕ) (w : Work) → Going w → Going (take_revoke from w (on_revoke p w.node.home))
  unfolding on_revoke
  revoke_going from p w i = by (right_on w.node.home.shelf p)
    where
      by : (o : Option Right) → Going (take_revoke from w (answer_with p o w.node.home))
      by None = same_going w (take_revoke from w (answer_with p None w.node.home)) refl refl refl i
      by (Some r) =
          let x : Work = record w { node = record (w.node) { home = (answer_with p (Some r) w.node.home).home } } in
          send_going from (body.Return (record { page = p; readers = r.readers })) x refl (same_going w x refl refl refl i)
