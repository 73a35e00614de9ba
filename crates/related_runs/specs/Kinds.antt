-- What a step comes to: enough is shown of all steps where it is shown of each kind.
use Rattle.std.specs.Prelude.{◌≡◌, ℕ, Bool, false, List, [], Some, None, Ok}
use Rattle.std.specs.List.{list_any}
use Rattle.pcl_base.specs.declared.event.Event.{Event}
use Rattle.pcl_base.specs.declared.event.Event.TheVariants as event
use Rattle.pcl_base.specs.declared.reply.Reason.{Reason}
use Rattle.pcl_base.specs.declared.reply.Reply.TheVariants as reply
use Rattle.run_rules.specs.Views.{View, next, reopen}
use Rattle.node_rules.specs.DiskCalls.{Left}
use Rattle.node_rules.specs.NodeState.{NodeState, NodeEvent}
use Rattle.node_rules.specs.Refusals.{refusal}
use Rattle.node_rules.specs.Work.{Work, Goes, reply}
use Rattle.node_rules.specs.NodeStep.{Plan, plan_of, begin_work, do_event, nodestep}
use Rattle.cluster_rules.specs.Clusters.{Cluster, is_up, stop_at, lose, last_view, note_entry, answer}
use Rattle.cluster_rules.specs.ClusterStep.{refuse, arm, made, halted, left_of, all_nodes, drops_up, make_view, make_reopened, step}
use Rattle.cluster_laws.specs.Handed.{IsHanded}
use Rattle.related_runs.specs.RunLaws.{IsOfRun, LeavesPages}

-- A step of each kind, from a cluster, leaves its pages related, if it is one of a run.
pub record StepsByKind (blank : List ℕ) (c : Cluster) : Type 0 where
  pub refused : (e : Event) (r : Reason) → IsOfRun blank c → LeavesPages blank (refuse e r c)
  pub crashed : (n : ℕ) → IsOfRun blank c → LeavesPages blank (answer (event.Crash n) reply.Crashed (lose n c))
  pub armed : (n call kept : ℕ) → IsOfRun blank c → LeavesPages blank (arm (event.Arm n call kept) n call kept c)
  pub viewed :
      (live : List Bool) (owners : List ℕ) (v : View) → IsOfRun blank c → next c.config (last_view c) live owners ≡ Ok v → drops_up c v ≡ false
      → LeavesPages blank (make_view false (event.View live owners) v c)
  pub reopened :
      (v : View) → IsOfRun blank c → reopen c.config (last_view c) ≡ Ok v → list_any (is_up c) (all_nodes c) ≡ false
      → LeavesPages blank (make_reopened false event.Reopen v c)
  pub differs : (e : Event) (n : ℕ) (s : NodeState) (ev : NodeEvent) → IsOfRun blank c → IsHanded c e n s ev → LeavesPages blank (note_entry e [] [] None (lose n c))
  pub stopped :
      (e : Event) (n : ℕ) (s : NodeState) (ev : NodeEvent) (p : Plan) (l : Left) → IsOfRun blank c → IsHanded c e n s ev → nodestep s ev c.disk ≡ Goes p
      → left_of n c.disk p.calls (stop_at c n) ≡ Some l → LeavesPages blank (halted e n l c)
  pub refused_there :
      (e : Event) (n : ℕ) (s : NodeState) (ev : NodeEvent) (r : Reason) → IsOfRun blank c → IsHanded c e n s ev → refusal s ev ≡ Some r
      → LeavesPages blank (made e n (plan_of (reply (reply.Refused r) (begin_work s c.disk))) c)
  pub acted :
      (e : Event) (n : ℕ) (s : NodeState) (ev : NodeEvent) (w : Work) → IsOfRun blank c → IsHanded c e n s ev → refusal s ev ≡ None
      → do_event c.disk ev (begin_work s c.disk) ≡ Goes w → left_of n c.disk w.calls (stop_at c n) ≡ None → LeavesPages blank (made e n (plan_of w) c)

-- These are all kinds.
abbrev pub KindsAreAll : Type 0
KindsAreAll = (blank : List ℕ) (c : Cluster) (e : Event) → StepsByKind blank c → IsOfRun blank c → LeavesPages blank (step c e)
