-- What one step sends.
use Rattle.std.proofs.Common.{◌≤◌, ◌==◌, ℕ, Bool, true, false, Option, Some, None, subst, arith}
use Rattle.std.specs.Prelude.{⊤}
use Rattle.pcl_base.specs.declared.reply.Reason.{Reason}
use Rattle.pcl_base.specs.declared.reply.Reply.TheVariants as reply
use Rattle.run_rules.specs.Disk.{Disk, log_at}
use Rattle.node_rules.specs.NodeState.{NodeState, NodeEvent, Begin, Read, Write, Commit, Abort, Deliver, Evict, Flush, Install, Cut, number_of, page_owner}
use Rattle.node_rules.specs.Work.{work_of_home, with_home_work, reply}
use Rattle.node_rules.specs.AccessRule.{Access, Accessed, access}
use Rattle.node_rules.specs.EndRule.{commit, abort}
use Rattle.node_rules.specs.OwnerRule.{do_access}
use Rattle.node_rules.specs.CutRule.{cuttable}
use Rattle.node_rules.specs.Refusals.{refusal}
use Rattle.node_rules.specs.NodeStep.{Plan, begin_work, cut_if, cut_front, cut_log, do_event, unless_refused, plan_of, nodestep}
use Rattle.step_laws.proofs.Outcomes.{On, on_so, on_any}
use Rattle.listing_laws.specs.Lists.{lists_sent, lists_by, ListsAreFew}
use Rattle.listing_laws.proofs.Sends.{Few, accessed, end_few}
use Rattle.listing_laws.proofs.Messages.{message_few}
use Rattle.listing_laws.proofs.Installs.{install_few}

access_few : (n : NodeState) (d : Disk) (a : Access) → On (Few 0) (do_access a (begin_work n d))
unfolding do_access
access_few n d a =
    let x : Accessed = access a (page_owner n a.page == number_of n) (work_of_home (begin_work n d)) in
    accessed 0 a.tx a.page x.next (with_home_work (begin_work n d) x.work) (omega arith)

cut_few : (n : NodeState) (d : Disk) → On (Few 0) (cut_log d (begin_work n d))
cut_few n d =
    on_so (λ (x : ℕ). ⊤) (Few 0) (cuttable n.home.config d.pages (log_at d (number_of n))) (cut_front (begin_work n d)) (on_any (cuttable n.home.config d.pages (log_at d (number_of n))))
    (λ x any. by x (x == 0))
  where
    by : (x : ℕ) (b : Bool) → Few 0 (reply (reply.Cut x) (cut_if b x (begin_work n d)))
    by x true = omega arith
    by x false = omega arith

event_few : (n : NodeState) (d : Disk) (event : NodeEvent) → On (Few (lists_by n.home.config event)) (do_event d event (begin_work n d))
unfolding do_event
event_few n d Begin = omega arith
event_few n d (Read t p) = access_few n d (record { tx = t; page = p; write = None })
event_few n d (Write t p place bytes) = access_few n d (record { tx = t; page = p; write = Some (place, bytes) })
event_few n d (Commit t) = end_few 0 (reply.Committed t) t (begin_work n d) (commit t (work_of_home (begin_work n d))) (omega arith)
event_few n d (Abort t) = end_few 0 (reply.Aborted t) t (begin_work n d) (abort t (work_of_home (begin_work n d))) (omega arith)
event_few n d (Deliver from m) = message_few n d from m
event_few n d (Evict p) = omega arith
event_few n d (Flush p) = omega arith
event_few n d (Install v) = install_few n d v
event_few n d Cut = cut_few n d

refused_few : (k : ℕ) → 0 ≤ k
refused_few k = omega arith

step_few : (n : NodeState) (event : NodeEvent) (d : Disk) → On (λ (p : Plan). lists_sent p.sends ≤ lists_by n.home.config event) (nodestep n event d)
unfolding nodestep
step_few n event d =
    on_so (Few (lists_by n.home.config event)) (λ (p : Plan). lists_sent p.sends ≤ lists_by n.home.config event) (unless_refused (refusal n event) d event (begin_work n d)) plan_of
    (by (refusal n event)) (λ w h. h)
  where
    by : (o : Option Reason) → On (Few (lists_by n.home.config event)) (unless_refused o d event (begin_work n d))
    by (Some r) = refused_few (lists_by n.home.config event)
    by None = event_few n d event

pub lists_are_few_law : ListsAreFew
lists_are_few_law n event d p e = subst (On (λ (p : Plan). lists_sent p.sends ≤ lists_by n.home.config event)) e (step_few n event d)
