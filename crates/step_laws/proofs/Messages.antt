-- What a delivered message gives.
use Rattle.std.proofs.Common.{◌≡◌, ℕ, ◌+◌, ◌≤◌, ◌==◌, not, Bool, true, false, List, [], ◌∷◌, length, length-append, Option, Some, None, refl, ap, subst, inl, arith}
use Rattle.std.specs.Prelude.{⊤}
use Rattle.std.specs.List.{All}
use Rattle.std.proofs.lemmas.List.Elements.{All-head, All-tail}
use Rattle.pcl_base.specs.declared.tx.TxId.{TxId}
use Rattle.pcl_base.specs.declared.lock.Verdict.{Verdict}
use Rattle.pcl_base.specs.declared.lock.Verdict.TheVariants as verdict
use Rattle.pcl_base.specs.declared.message.Body.{Body}
use Rattle.pcl_base.specs.declared.message.Body.TheVariants as body
use Rattle.pcl_base.specs.declared.message.Change.{Change}
use Rattle.pcl_base.specs.declared.message.Grant.{Grant}
use Rattle.pcl_base.specs.declared.message.Message.{Message}
use Rattle.pcl_base.specs.declared.message.Release.{Release}
use Rattle.pcl_base.specs.declared.message.Report.{Report}
use Rattle.pcl_base.specs.declared.reply.Reply.{Reply}
use Rattle.pcl_base.specs.declared.reply.Reply.TheVariants as reply
use Rattle.run_rules.specs.Disk.{Disk}
use Rattle.node_rules.specs.Words.{pick}
use Rattle.node_rules.specs.LockRule.{LockEntry, ask, returned, has_right, rights_without, register, takes_change}
use Rattle.node_rules.specs.LockTable.{LockTable, entry_at, pages_of}
use Rattle.node_rules.specs.NodeState.{NodeState, number_of, table_at, table_of, put_table}
use Rattle.node_rules.specs.Shelf.{Right, right_on}
use Rattle.node_rules.specs.Work.{Work, work_of_home, with_home_work, with_node, some_reply, reply}
use Rattle.node_rules.specs.AccessRule.{Arrived, on_grant, on_revoke, answer_with}
use Rattle.node_rules.specs.OwnerRule.{enter, end_in, change_if_served, put_taken, version_of_change, on_release_in, on_release}
use Rattle.node_rules.specs.Reports.{gather}
use Rattle.node_rules.specs.InstallRule.{complete, take_report, on_report_in, on_report}
use Rattle.node_rules.specs.NodeStep.{begin_work, after_grant, take_grant, take_revoke, work_off, by_verdict, judge_in, partition_of, take_message}
use Rattle.step_laws.specs.Most.{items_in, items_sent, locks, HasFewReaders}
use Rattle.step_laws.proofs.Settles.{due, load, due_few}
use Rattle.step_laws.proofs.Tables.{in_table, in_tables, table_put, tables_less}
use Rattle.step_laws.proofs.Outcomes.{On, on_so, on_more, on_any}
use Rattle.step_laws.proofs.Works.{given}
use Rattle.step_laws.proofs.Gathers.{ask_load, gather_load}
use Rattle.step_laws.proofs.Serving.{fewer_rights, complete_holds}
use Rattle.step_laws.proofs.Gifts.{Gave, cap_of, holds_of, holds_gave, entered, IsQuiet, quiet_self, quiet_given, quiet_items, quiet_tables, tables_load, tables_due, rest, IsDone, gave_done, all_of}
use Rattle.step_laws.proofs.Ends.{end_due}

returned_due : (n : ℕ) (readers : List TxId) (e : LockEntry) → due (returned e n readers) ≤ due e + 0
unfolding returned
returned_due n readers e = by (has_right e.rights n)
  where
    by : (b : Bool) → due (pick b (record e { rights = rights_without e.rights n; holders = register e.holders readers }) e) ≤ due e + 0
    by true = let less = fewer_rights (λ r. not (r.node == n)) e.waiting e.rights in omega (arith, less)
    by false = omega arith

taken_quiet : (b : Bool) (p : ℕ) (c : Option Change) (w : Work) → IsQuiet w (put_taken b p c w)
taken_quiet true p (Some c) w = record { replies = refl; sends = refl; tables = refl }
taken_quiet true p None w = quiet_self w
taken_quiet false p c w = quiet_self w

-- the owner's work for a release
release_given : (r : Release) (w : Work) → On (Gave (given w + in_tables due w.node) (items_sent w.sends)) (on_release r w)
unfolding on_release
release_given r w = by (table_of w.node r.page)
  where
    by : (o : Option LockTable) → On (Gave (given w + in_tables due w.node) (items_sent w.sends)) (on_release_in r o w)
    by None = record { given = omega arith; items = omega arith }
    by (Some t) =
        let change : Option Change = change_if_served t.serving r.change in
        let taken : Bool = takes_change (entry_at t r.page) r.tx (version_of_change change) in
        let next : Work = put_taken taken r.page r.change w in
        let quiet = taken_quiet taken r.page r.change w in
        let given_same = quiet_given w next quiet in
        let items_same = quiet_items w next quiet in
        let tables_same = quiet_tables due w next quiet in
        on_more (Gave (given next + in_tables due next.node + 0) (items_sent next.sends)) (Gave (given w + in_tables due w.node) (items_sent w.sends)) (enter (end_in r.tx change) r.page next)
        (λ x h.
        let now = h.given in
        let items = h.items in
        record { given = omega (arith, now, given_same, tables_same); items = omega (arith, items, items_same) })
        (entered due (end_in r.tx change) 0 r.page (λ e. omega arith) refl (end_due r.tx change) next)

-- a grant on arrival
arrived_given : (a : Arrived) (w : Work) → Gave (given w + 1) (items_sent w.sends) (after_grant w a)
arrived_given a w = by a.reply
  where
    by : (o : Option Reply) → Gave (given w + 1) (items_sent w.sends) (some_reply o (with_home_work w a.work))
    by None = record { given = omega arith; items = omega arith }
    by (Some r) = let more = length-append w.replies (r ∷ []) in record { given = omega (arith, more); items = omega arith }

grant_given : (g : Grant) (w : Work) → On (Gave (given w + 1) (items_sent w.sends)) (take_grant (table_of w.node g.page) g w)
grant_given g w = by (table_of w.node g.page)
  where
    by : (o : Option LockTable) → On (Gave (given w + 1) (items_sent w.sends)) (take_grant o g w)
    by None =
        on_so (λ (a : Arrived). ⊤) (Gave (given w + 1) (items_sent w.sends)) (on_grant g false (work_of_home w)) (after_grant w) (on_any (on_grant g false (work_of_home w)))
        (λ a any. arrived_given a w)
    by (Some t) = record { given = omega arith; items = omega arith }

-- a report
abbrev most_reported : Report → Work → ℕ
most_reported r w = given w + in_tables load w.node + (length r.waits + length r.rights) + 1

report_given : (d : Disk) (from : ℕ) (r : Report) (w : Work) → On (Gave (most_reported r w) (items_sent w.sends)) (on_report d from r w)
unfolding on_report
report_given d from r w = by (table_at w.node r.partition) refl
  where
    taken : (t : LockTable) → table_at w.node r.partition ≡ Some t → (b : Bool) → On (Gave (most_reported r w) (items_sent w.sends)) (take_report b d from r t w)
    taken t there true = record { given = omega arith; items = omega arith }
    taken t there false =
        let node : NodeState = put_table w.node r.partition (Some (gather t from r)) in
        let next : Work = with_node w node in
        let put = table_put load w.node r.partition (Some (gather t from r)) in
        let old : in_table load (table_at w.node r.partition) ≡ in_table load (Some t) = ap (in_table load) there in
        let more = gather_load t from r in
        let less = tables_less due load due_few node in
        on_more (Gave (given next + in_tables due next.node + 1) (items_sent next.sends)) (Gave (most_reported r w) (items_sent w.sends)) (complete d r.partition next)
        (λ x h.
        let now = h.given in
        record { given = omega (arith, now, put, old, more, less); items = h.items })
        (holds_gave next (given next + in_tables due next.node + 1) (complete d r.partition next)
        (complete_holds (cap_of next) r.partition (all_of (λ p. (cap_of next).weight p ≡ 0) (λ p. refl) (pages_of next.node.home.config r.partition)) d (given next + in_tables due next.node) next (holds_of due next)))

    by : (o : Option LockTable) → table_at w.node r.partition ≡ o → On (Gave (most_reported r w) (items_sent w.sends)) (on_report_in d from r o w)
    by None there = record { given = omega arith; items = omega arith }
    by (Some t) there = taken t there t.serving

-- the readers of a right on the shelf
readers_few : (P : Right → Type 0) (rs : List Right) (p : ℕ) (r : Right) → right_on rs p ≡ Some r → All P rs → P r
unfolding right_on
readers_few P [] p r e all = absurd (cc)
readers_few P (x ∷ rs) p r e all = by (x.page == p) e (λ q. readers_few P rs p r q (All-tail P x rs all))
  where
    by : (b : Bool) → pick b (Some x) (right_on rs p) ≡ Some r → (right_on rs p ≡ Some r → P r) → P r
    by true q rest = let same : x ≡ r = cc in subst P same (All-head P x rs all)
    by false q rest = rest q

few_readers : (n : NodeState) → HasFewReaders n → All (λ r. length r.readers ≤ locks n) n.home.shelf
few_readers n readers = λ k d lt. let few = readers k d lt in omega (arith, few)

revoke_done : (n : NodeState) (d : Disk) (from p b : ℕ) → IsDone n b (take_revoke from (reply reply.Taken (begin_work n d)) (on_revoke p n.home))
unfolding on_revoke
revoke_done n d from p b = by (right_on n.home.shelf p) refl
  where
    by : (o : Option Right) → right_on n.home.shelf p ≡ o → IsDone n b (take_revoke from (reply reply.Taken (begin_work n d)) (answer_with p o n.home))
    by None e = record { given = inl (omega arith); items = λ readers. omega arith }
    by (Some r) e =
        record {
          given = inl (omega arith);
          items = λ readers. let few = readers_few (λ r. length r.readers ≤ locks n) n.home.shelf p r e (few_readers n readers) in omega (arith, few);
        }

-- a message that is taken
taken_done : (n : NodeState) (d : Disk) (from : ℕ) (b : Body) → On (IsDone n (items_in b)) (work_off d from b (reply reply.Taken (begin_work n d)))
taken_done n d from (body.Request r) =
    let all = tables_load n in
    gave_done n 0 (1 + in_tables load n + 1) 0 _ (omega (arith, all)) (omega arith)
    (entered load (λ e. ask e (record { tx = r.tx; mode = r.mode; have = r.have })) 1 r.page due_few refl (λ e. ask_load e (record { tx = r.tx; mode = r.mode; have = r.have })) (reply reply.Taken (begin_work n d)))
taken_done n d from (body.Grant g) = gave_done n 0 (1 + 1) 0 _ (omega arith) (omega arith) (grant_given g (reply reply.Taken (begin_work n d)))
taken_done n d from (body.Release r) =
    let all = tables_due n in
    gave_done n 0 (1 + in_tables due n) 0 _ (omega (arith, all)) (omega arith) (release_given r (reply reply.Taken (begin_work n d)))
taken_done n d from (body.Revoke p) = revoke_done n d from p 0
taken_done n d from (body.Return r) =
    let all = tables_due n in
    gave_done n (length r.readers) (1 + in_tables due n + 0) 0 _ (omega (arith, all)) (omega arith)
    (entered due (λ e. returned e from r.readers) 0 r.page (λ e. omega arith) refl (returned_due from r.readers) (reply reply.Taken (begin_work n d)))
taken_done n d from (body.Report r) =
    let all = tables_load n in
    gave_done n (length r.waits + length r.locks + length r.rights) (1 + in_tables load n + (length r.waits + length r.rights) + 1) 0 _ (omega (arith, all)) (omega arith)
    (report_given d from r (reply reply.Taken (begin_work n d)))

pub message_done : (n : NodeState) (d : Disk) (from : ℕ) (m : Message) → On (IsDone n (items_in m.body)) (take_message d from m (begin_work n d))
unfolding take_message
message_done n d from m = by (judge_in n.view (number_of n) from m.epoch (partition_of n.home.config m.body))
  where
    by : (v : Verdict) → On (IsDone n (items_in m.body)) (by_verdict v d from m.body (begin_work n d))
    by verdict.Taken = taken_done n d from m.body
    by verdict.Held = record { given = inl (omega arith); items = λ readers. omega arith }
    by verdict.Dropped = record { given = inl (omega arith); items = λ readers. omega arith }
