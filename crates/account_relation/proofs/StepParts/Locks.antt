-- Parts of a step that send locks alone, and reports in their order.
use Rattle.std.proofs.Common.{◌≡◌, refl, sym, subst, ℕ, ◌+◌, ◌≤◌, Bool, true, false, List, [], ◌∷◌, ◌++◌, Option, Some, None, arith}
use Rattle.std.specs.Prelude.{⊤}
use Rattle.pcl_base.specs.declared.tx.TxId.{TxId}
use Rattle.pcl_base.specs.declared.lock.Kind.{Kind}
use Rattle.pcl_base.specs.declared.lock.Kind.TheVariants as kind
use Rattle.pcl_base.specs.declared.message.Body.{Body}
use Rattle.pcl_base.specs.declared.message.Body.TheVariants as body
use Rattle.pcl_base.specs.declared.message.Change.{Change}
use Rattle.pcl_base.specs.declared.message.Grant.{Grant}
use Rattle.pcl_base.specs.declared.message.Release.{Release}
use Rattle.pcl_base.specs.declared.message.Report.{Report}
use Rattle.pcl_base.specs.declared.reply.Reply.{Reply}
use Rattle.run_rules.specs.Disk.{Disk}
use Rattle.run_rules.specs.Views.{View, owner_of, since_of}
use Rattle.node_rules.specs.LockRule.{LockEntry, takes_change}
use Rattle.node_rules.specs.LockTable.{LockTable, entry_at}
use Rattle.node_rules.specs.NodeState.{Outgoing, table_at, table_of, put_table, page_owner}
use Rattle.node_rules.specs.Work.{Work, work_of_home, with_home_work, with_node, some_reply, send}
use Rattle.node_rules.specs.AccessRule.{Arrived, on_grant}
use Rattle.node_rules.specs.EndRule.{Ending}
use Rattle.node_rules.specs.OwnerRule.{end_in, change_if_served, put_taken, version_of_change, on_release_in, on_release, enter, send_release, tell_in, tell_end}
use Rattle.node_rules.specs.Reports.{gather}
use Rattle.node_rules.specs.InstallRule.{take_report, on_report_in, on_report}
use Rattle.node_rules.specs.NodeStep.{after_grant, take_grant}
use Rattle.node_laws.proofs.Lists.{all_push}
use Rattle.step_laws.proofs.Outcomes.{On, on_so, on_any}
use Rattle.account_relation.proofs.Walks.{is_decided, entered_walk, put_walk, completed_walk}
use Rattle.account_relation.specs.Step.Sends.{is_lock, AreLocks, ReportsBehind, AreReports, to_node}

-- ---- sends at the end

pub decided_lock : (b : Body) → is_decided b ≡ true → is_lock b ≡ true
decided_lock (body.Grant g) is = refl
decided_lock (body.Revoke p) is = refl
decided_lock (body.Request r) is = absurd (cc)
decided_lock (body.Release r) is = absurd (cc)
decided_lock (body.Return r) is = absurd (cc)
decided_lock (body.Report r) is = absurd (cc)

pub behind_more : (v : View) (low to : ℕ) (b : Body) (rest further : ℕ → Type 0) → ((x : ℕ) → rest x → further x) → ReportsBehind v low to b rest → ReportsBehind v low to b further
behind_more v low to (body.Grant g) rest further f is = (is.0, f low is.1)
behind_more v low to (body.Revoke p) rest further f is = (is.0, f low is.1)
behind_more v low to (body.Request r) rest further f is = (is.0, f low is.1)
behind_more v low to (body.Release r) rest further f is = (is.0, f low is.1)
behind_more v low to (body.Return r) rest further f is = (is.0, f low is.1)
behind_more v low to (body.Report r) rest further f is = (is.0, is.1, is.2, f (r.partition + 1) is.3)

pub behind_lock : (v : View) (low to : ℕ) (b : Body) (rest : ℕ → Type 0) → is_lock b ≡ true → rest low → ReportsBehind v low to b rest
behind_lock v low to (body.Grant g) rest is h = (refl, h)
behind_lock v low to (body.Revoke p) rest is h = (refl, h)
behind_lock v low to (body.Release r) rest is h = (refl, h)
behind_lock v low to (body.Request r) rest is h = absurd (cc)
behind_lock v low to (body.Return r) rest is h = absurd (cc)
behind_lock v low to (body.Report r) rest is h = absurd (cc)

pub higher : (v : View) (low high top : ℕ) (os : List Outgoing) → high ≤ top → AreReports v low high os → AreReports v low top os
higher v low high top [] le is = omega (arith, le, is)
higher v low high top (o ∷ os) le is = behind_more v low o.to o.message.body (λ x. AreReports v x high os) (λ x. AreReports v x top os) (λ x h. higher v x high top os le h) is

pub lock_last : (v : View) (low high : ℕ) (os : List Outgoing) (o : Outgoing) → is_lock o.message.body ≡ true → AreReports v low high os → AreReports v low high (os ++ o ∷ [])
lock_last v low high [] o lock is = behind_lock v low o.to o.message.body (λ x. x ≤ high) lock is
lock_last v low high (x ∷ os) o lock is =
    behind_more v low x.to x.message.body (λ y. AreReports v y high os) (λ y. AreReports v y high (os ++ o ∷ [])) (λ y h. lock_last v y high os o lock h) is

pub report_last : (v : View) (low high e : ℕ) (os : List Outgoing) (r : Report) → high ≤ r.partition → since_of v r.partition ≡ v.epoch → AreReports v low high os
    → AreReports v low (r.partition + 1) (os ++ to_node (owner_of v r.partition) e (body.Report r) ∷ [])
report_last v low high e [] r le new is = (omega (arith, le, is), refl, new, omega arith)
report_last v low high e (x ∷ os) r le new is =
    behind_more v low x.to x.message.body (λ y. AreReports v y high os) (λ y. AreReports v y (r.partition + 1) (os ++ to_node (owner_of v r.partition) e (body.Report r) ∷ [])) (λ y h. report_last v y high e os r le new h) is

-- ---- locks alone

-- a work that has sent locks alone
abbrev pub Locks : Work → Type 0
Locks w = AreLocks w.sends

pub same_locks : (w x : Work) → x.replies ≡ w.replies → x.sends ≡ w.sends → x.node.view ≡ w.node.view → Locks w → Locks x
same_locks w x replies sends view h = subst AreLocks (sym sends) h

pub sent_locks : (to : ℕ) (b : Body) (w : Work) → is_lock b ≡ true → Locks w → Locks (send to b w)
sent_locks to b w is h = all_push (λ (o : Outgoing). is_lock o.message.body ≡ true) w.sends (to_node to w.node.epoch b) h is

pub enter_locks : (f : LockEntry → LockEntry) (p : ℕ) (w : Work) → Locks w → On Locks (enter f p w)
enter_locks = entered_walk Locks same_locks (λ r w is h. h) (λ to b w is h. sent_locks to b w (decided_lock b is) h)

pub tell_locks : (t : TxId) (e : Ending) (w : Work) → Locks w → On Locks (tell_end t e w)
unfolding tell_end
tell_locks t e w h = by (table_of w.node e.page)
  where
    released : (k : Kind) → Locks (send_release k t e w)
    released kind.Registered = sent_locks (page_owner w.node e.page) (body.Release (record { tx = t; page = e.page; change = e.change })) w refl h
    released kind.Own = h
    released kind.Right = h

    by : (o : Option LockTable) → On Locks (tell_in t e o w)
    by None = released e.kind
    by (Some tb) = enter_locks (end_in t (change_if_served tb.serving e.change)) e.page w h

pub release_locks : (r : Release) (w : Work) → Locks w → On Locks (on_release r w)
unfolding on_release
release_locks r w h = by (table_of w.node r.page)
  where
    by : (o : Option LockTable) → On Locks (on_release_in r o w)
    by None = h
    by (Some t) =
        let change : Option Change = change_if_served t.serving r.change in
        let taken : Bool = takes_change (entry_at t r.page) r.tx (version_of_change change) in
        enter_locks (end_in r.tx change) r.page (put_taken taken r.page r.change w) (put_walk Locks same_locks taken r.page r.change w h)

pub report_locks : (d : Disk) (from : ℕ) (r : Report) (w : Work) → Locks w → On Locks (on_report d from r w)
unfolding on_report
report_locks d from r w h = by (table_at w.node r.partition)
  where
    taken : (t : LockTable) (b : Bool) → On Locks (take_report b d from r t w)
    taken t true = h
    taken t false =
        let x : Work = with_node w (put_table w.node r.partition (Some (gather t from r))) in
        completed_walk Locks same_locks (λ r w is h. h) (λ to b w is h. sent_locks to b w (decided_lock b is) h) d r.partition x h

    by : (o : Option LockTable) → On Locks (on_report_in d from r o w)
    by None = h
    by (Some t) = taken t t.serving

pub grant_locks : (g : Grant) (w : Work) → Locks w → On Locks (take_grant (table_of w.node g.page) g w)
grant_locks g w h = by (table_of w.node g.page)
  where
    arrived : (a : Arrived) (o : Option Reply) → Locks (some_reply o (with_home_work w a.work))
    arrived a None = h
    arrived a (Some r) = h

    by : (o : Option LockTable) → On Locks (take_grant o g w)
    by None = on_so (λ (a : Arrived). ⊤) Locks (on_grant g false (work_of_home w)) (after_grant w) (on_any (on_grant g false (work_of_home w))) (λ a any. arrived a a.reply)
    by (Some t) = h
