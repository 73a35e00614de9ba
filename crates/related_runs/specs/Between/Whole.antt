-- Steps of a kind that leave the pages related as they are between two events.
use Rattle.std.specs.Prelude.{◌≡◌, ℕ, Bool, false, List, [], Some, None, Ok}
use Rattle.std.specs.List.{list_any}
use Rattle.pcl_base.specs.declared.event.Event.{Event}
use Rattle.pcl_base.specs.declared.event.Event.TheVariants as event
use Rattle.pcl_base.specs.declared.reply.Reason.{Reason}
use Rattle.pcl_base.specs.declared.reply.Reply.TheVariants as reply
use Rattle.run_rules.specs.Views.{View, next, reopen}
use Rattle.node_rules.specs.DiskCalls.{Left}
use Rattle.node_rules.specs.NodeState.{NodeState, NodeEvent}
use Rattle.node_rules.specs.NodeStep.{Plan, plan_of, begin_work, nodestep}
use Rattle.node_rules.specs.Refusals.{refusal}
use Rattle.node_rules.specs.Work.{Goes, reply}
use Rattle.cluster_rules.specs.Clusters.{Cluster, is_up, stop_at, lose, last_view, note_entry, answer}
use Rattle.cluster_rules.specs.ClusterStep.{refuse, arm, made, halted, left_of, all_nodes, drops_up, make_view, make_reopened}
use Rattle.cluster_laws.specs.Handed.{IsHanded}
use Rattle.page_relation.specs.Loss.Writes.{RedoesNothing}
use Rattle.page_relation.specs.Together.{HasPages}
use Rattle.related_runs.specs.RunLaws.{IsOfRun, LeavesPages}
use Rattle.related_runs.specs.Between.Between.{HaveWrites, HaveEntered}

-- A cluster whose pages are related has them so between two events, where its nodes and its trace say so.
abbrev pub PagesAreBetween : Type 0
PagesAreBetween = (blank : List ℕ) (c : Cluster) → HasPages blank c → HaveEntered c → HaveWrites c → LeavesPages blank c

-- A refused event, an armed stop, a view and a reopening, from a cluster of a run.
pub record QuietKinds (blank : List ℕ) (c : Cluster) : Type 0 where
  pub refused : (e : Event) (r : Reason) → LeavesPages blank (refuse e r c)
  pub armed : (n call kept : ℕ) → LeavesPages blank (arm (event.Arm n call kept) n call kept c)
  pub viewed :
      (live : List Bool) (owners : List ℕ) (v : View) → next c.config (last_view c) live owners ≡ Ok v → drops_up c v ≡ false
      → LeavesPages blank (make_view false (event.View live owners) v c)
  pub reopened : (v : View) → reopen c.config (last_view c) ≡ Ok v → list_any (is_up c) (all_nodes c) ≡ false → LeavesPages blank (make_reopened false event.Reopen v c)
  pub refused_there :
      (e : Event) (n : ℕ) (s : NodeState) (ev : NodeEvent) (r : Reason) → IsHanded c e n s ev → refusal s ev ≡ Some r
      → LeavesPages blank (made e n (plan_of (reply (reply.Refused r) (begin_work s c.disk))) c)

-- every cluster of a run
abbrev pub QuietKindsAreLeft : Type 0
QuietKindsAreLeft = (blank : List ℕ) (c : Cluster) → IsOfRun blank c → QuietKinds blank c

-- A node that is lost: by a crash, by a page that differs, and by a stop in a step that redoes nothing.
pub record LostKinds (blank : List ℕ) (c : Cluster) : Type 0 where
  pub crashed : (n : ℕ) → LeavesPages blank (answer (event.Crash n) reply.Crashed (lose n c))
  pub differs : (e : Event) (n : ℕ) (s : NodeState) (ev : NodeEvent) → IsHanded c e n s ev → LeavesPages blank (note_entry e [] [] None (lose n c))
  pub stopped :
      (e : Event) (n : ℕ) (s : NodeState) (ev : NodeEvent) (p : Plan) (l : Left) → IsHanded c e n s ev → nodestep s ev c.disk ≡ Goes p
      → left_of n c.disk p.calls (stop_at c n) ≡ Some l → RedoesNothing ev → LeavesPages blank (halted e n l c)

-- every cluster of a run
abbrev pub LostKindsAreLeft : Type 0
LostKindsAreLeft = (blank : List ℕ) (c : Cluster) → IsOfRun blank c → LostKinds blank c

-- A stop in any step leaves them so, where it leaves them related.
abbrev pub HaltedPagesAreLeft : Type 0
HaltedPagesAreLeft = (blank : List ℕ) (c : Cluster) (e : Event) (n : ℕ) (l : Left) → IsOfRun blank c → HasPages blank (halted e n l c) → LeavesPages blank (halted e n l c)
