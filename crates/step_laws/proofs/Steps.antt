-- What one step gives.
use Rattle.std.proofs.Common.{◌≡◌, ℕ, ◌+◌, ◌≤◌, ◌==◌, nat_le, Bool, true, false, length, Option, Some, None, refl, ap, subst, ◌⊎◌, inl, inr, arith}
use Rattle.std.specs.Prelude.{⊤}
use Rattle.pcl_base.specs.Limits.{Sizes}
use Rattle.pcl_base.specs.declared.reply.Reason.{Reason}
use Rattle.pcl_base.specs.declared.reply.Reply.{Reply}
use Rattle.pcl_base.specs.declared.reply.Reply.TheVariants as reply
use Rattle.pcl_base.specs.declared.tx.TxId.{TxId}
use Rattle.run_rules.specs.Disk.{Disk, log_at}
use Rattle.run_rules.specs.Views.{View}
use Rattle.node_rules.specs.Words.{pick}
use Rattle.node_rules.specs.NodeState.{NodeState, NodeEvent, Begin, Read, Write, Commit, Abort, Deliver, Evict, Flush, Install, Cut, number_of, page_owner, partition}
use Rattle.node_rules.specs.Work.{Goes, work_of_home, with_home_work, reply}
use Rattle.node_rules.specs.AccessRule.{Access, Accessed, access}
use Rattle.node_rules.specs.EndRule.{Closed, endings, commit, abort}
use Rattle.node_rules.specs.OwnerRule.{do_access, end_work}
use Rattle.node_rules.specs.InstallRule.{install_view}
use Rattle.node_rules.specs.CutRule.{cuttable}
use Rattle.node_rules.specs.Refusals.{refusal}
use Rattle.node_rules.specs.NodeStep.{begin_work, cut_if, cut_front, cut_log, do_event, unless_refused, Plan, plan_of, nodestep}
use Rattle.step_laws.specs.Most.{brought, items_sent, HasFewReaders, RepliesAtMost, SendsAtMost, TogetherAtMost, ListedAtMost, ItemsAtMost}
use Rattle.step_laws.proofs.Settles.{due, load}
use Rattle.step_laws.proofs.Tables.{in_tables}
use Rattle.step_laws.proofs.Outcomes.{On, on_so, on_more, on_any}
use Rattle.step_laws.proofs.Partitions.{later}
use Rattle.step_laws.proofs.Installs.{IsInstalled, installed}
use Rattle.step_laws.proofs.Gifts.{tables_load, tables_due, waits_ones, stock_ones, rest, listed, IsDone, gave_done}
use Rattle.step_laws.proofs.Ends.{access_given, end_given, endings_few}
use Rattle.step_laws.proofs.Messages.{message_done}

access_done : (n : NodeState) (d : Disk) (a : Access) → On (IsDone n 0) (do_access a (begin_work n d))
unfolding do_access
access_done n d a =
    let x : Accessed = access a (page_owner n a.page == number_of n) (work_of_home (begin_work n d)) in
    let all = tables_load n in
    gave_done n 0 (0 + in_tables load n + 2) 0 _ (omega (arith, all)) (omega arith) (access_given a.tx a.page x.next (with_home_work (begin_work n d) x.work))

end_done : (n : NodeState) (d : Disk) (r : Reply) (t : TxId) (x : Closed) (commits : Bool) → x.endings ≡ endings n.home t commits → On (IsDone n 0) (end_work r t (begin_work n d) x)
end_done n d r t x commits same =
    let all = tables_due n in
    let long = ap (λ es. length es) same in
    let few = endings_few n.home t commits in
    gave_done n 0 (0 + in_tables due n + 1 + length x.endings) 0 (end_work r t (begin_work n d) x) (omega (arith, all, long, few)) (omega arith) (end_given r t (begin_work n d) x)

cut_done : (n : NodeState) (d : Disk) → On (IsDone n 0) (cut_log d (begin_work n d))
cut_done n d =
    on_so (λ (x : ℕ). ⊤) (IsDone n 0) (cuttable n.home.config d.pages (log_at d (number_of n))) (cut_front (begin_work n d)) (on_any (cuttable n.home.config d.pages (log_at d (number_of n))))
    (λ x any. by x (x == 0))
  where
    by : (x : ℕ) (b : Bool) → IsDone n 0 (reply (reply.Cut x) (cut_if b x (begin_work n d)))
    by x true = record { given = inl (omega arith); items = λ readers. omega arith }
    by x false = record { given = inl (omega arith); items = λ readers. omega arith }

later_one : (c : Sizes) (q p : ℕ) → later c q p ≤ 1
later_one c q p = by (nat_le q (partition c p))
  where
    by : (b : Bool) → pick b 1 0 ≤ 1
    by true = omega arith
    by false = omega arith

install_done : (n : NodeState) (d : Disk) (v : View) → On (IsDone n 0) (install_view d v (begin_work n d))
install_done n d v =
    let all = tables_due n in
    let waits = waits_ones (later n.home.config 0) (later_one n.home.config 0) n.home.txs.txs in
    let stock = stock_ones (later n.home.config 0) (later_one n.home.config 0) n in
    on_more (IsInstalled (begin_work n d)) (IsDone n 0) (install_view d v (begin_work n d))
    (λ x h.
    let given = h.given in
    let items = h.items in
    record { given = inr (omega (arith, all, waits, given)); items = λ readers. omega (arith, stock, items) })
    (installed d v (begin_work n d))

commit_endings : (n : NodeState) (d : Disk) (t : TxId) → (commit t (work_of_home (begin_work n d))).endings ≡ endings n.home t true
unfolding commit
commit_endings n d t = refl

abort_endings : (n : NodeState) (d : Disk) (t : TxId) → (abort t (work_of_home (begin_work n d))).endings ≡ endings n.home t false
unfolding abort
abort_endings n d t = refl

event_done : (n : NodeState) (d : Disk) (event : NodeEvent) → On (IsDone n (brought event)) (do_event d event (begin_work n d))
unfolding do_event
event_done n d Begin = record { given = inl (omega arith); items = λ readers. omega arith }
event_done n d (Read t p) = access_done n d (record { tx = t; page = p; write = None })
event_done n d (Write t p place bytes) = access_done n d (record { tx = t; page = p; write = Some (place, bytes) })
event_done n d (Commit t) = end_done n d (reply.Committed t) t (commit t (work_of_home (begin_work n d))) true (commit_endings n d t)
event_done n d (Abort t) = end_done n d (reply.Aborted t) t (abort t (work_of_home (begin_work n d))) false (abort_endings n d t)
event_done n d (Deliver from m) = message_done n d from m
event_done n d (Evict p) = record { given = inl (omega arith); items = λ readers. omega arith }
event_done n d (Flush p) = record { given = inl (omega arith); items = λ readers. omega arith }
event_done n d (Install v) = install_done n d v
event_done n d Cut = cut_done n d

-- what a plan gives
record IsGiven (n : NodeState) (b : ℕ) (p : Plan) : Type 0 where
  given : (length p.replies + length p.sends ≤ 2 + rest n b) ⊎ (length p.replies + length p.sends ≤ n.home.config.nodes + 1 + rest n b)
  items : HasFewReaders n → items_sent p.sends ≤ listed n

step_given : (n : NodeState) (event : NodeEvent) (d : Disk) → On (IsGiven n (brought event)) (nodestep n event d)
unfolding nodestep
step_given n event d =
    on_so (IsDone n (brought event)) (IsGiven n (brought event)) (unless_refused (refusal n event) d event (begin_work n d)) plan_of (by (refusal n event))
    (λ w h. record { given = h.given; items = h.items })
  where
    by : (o : Option Reason) → On (IsDone n (brought event)) (unless_refused o d event (begin_work n d))
    by (Some r) = record { given = inl (omega arith); items = λ readers. omega arith }
    by None = event_done n d event

plan_given : (n : NodeState) (event : NodeEvent) (d : Disk) (p : Plan) → nodestep n event d ≡ Goes p → IsGiven n (brought event) p
plan_given n event d p e = subst (On (IsGiven n (brought event))) e (step_given n event d)

pub together_at_most_law : TogetherAtMost
together_at_most_law n event d p some e =
    elim (plan_given n event d p e).given [ inl two ↦ omega (arith, some, two) | inr each ↦ omega (arith, each) ]

pub replies_at_most_law : RepliesAtMost
replies_at_most_law n event d p e =
    elim (plan_given n event d p e).given [ inl two ↦ omega (arith, two) | inr each ↦ omega (arith, each) ]

pub sends_at_most_law : SendsAtMost
sends_at_most_law n event d p e =
    elim (plan_given n event d p e).given [ inl two ↦ omega (arith, two) | inr each ↦ omega (arith, each) ]

pub listed_at_most_law : ListedAtMost
listed_at_most_law n event d p readers e = let few = (plan_given n event d p e).items readers in omega (arith, few)

pub items_at_most_law : ItemsAtMost
items_at_most_law n event d p readers e = let few = (plan_given n event d p e).items readers in omega (arith, few)
