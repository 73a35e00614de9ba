-- The laws of losses.
use Rattle.std.specs.Prelude.{◌≡◌, ℕ, Bool, false, List, [], Some, None, Ok}
use Rattle.std.specs.List.{list_any}
use Rattle.pcl_base.specs.declared.event.Event.{Event}
use Rattle.pcl_base.specs.declared.event.Event.TheVariants as event
use Rattle.pcl_base.specs.declared.reply.Reason.{Reason}
use Rattle.pcl_base.specs.declared.reply.Reply.TheVariants as reply
use Rattle.run_rules.specs.Views.{View, next, reopen}
use Rattle.node_rules.specs.DiskCalls.{Left}
use Rattle.node_rules.specs.NodeState.{NodeState, NodeEvent}
use Rattle.node_rules.specs.NodeStep.{Plan}
use Rattle.cluster_rules.specs.Clusters.{Cluster, is_up, last_view, answer, lose, note_entry, stop_at}
use Rattle.cluster_rules.specs.ClusterStep.{refuse, arm, all_nodes, drops_up, left_of, halted, make_view, make_reopened}
use Rattle.cluster_laws.specs.Handed.{IsHanded}
use Rattle.cluster_laws.specs.Sound.{IsCluster}
use Rattle.cluster_laws.specs.Link.StepLaws.{IsPlanned}
use Rattle.page_protocol.specs.State.{Page}
use Rattle.page_protocol.specs.Steps.{Reached}
use Rattle.page_relation.specs.Relation.{IsPageOf}
use Rattle.page_relation.specs.Together.{IsRelated}
use Rattle.page_relation.specs.Loss.Leads.{LeadsTo}
use Rattle.page_relation.specs.Loss.Writes.{WriteVersions, ScriptsFit, RedoesNothing}

-- A refused event leaves a page's state.
abbrev pub RefusedIsRelated : Type 0
RefusedIsRelated = (c : Cluster) (e : Event) (r : Reason) (p : ℕ) (a : Page) → IsPageOf c p a → IsPageOf (refuse e r c) p a

-- So does a stop that is armed.
abbrev pub ArmedIsRelated : Type 0
ArmedIsRelated =
    (c : Cluster) (n call kept p : ℕ) (a : Page) → IsPageOf c p a → IsPageOf (arm (event.Arm n call kept) n call kept c) p a

-- A crash is the machine's.
abbrev pub CrashedIsRelated : Type 0
CrashedIsRelated =
    (blank : List ℕ) (c : Cluster) (n p : ℕ) (a : Page) → IsCluster c → Reached blank a → IsPageOf c p a
    → LeadsTo a (answer (event.Crash n) reply.Crashed (lose n c)) p

-- A view leaves a page's state: the nodes that it starts are as those that are down.
abbrev pub ViewedIsRelated : Type 0
ViewedIsRelated =
    (c : Cluster) (live : List Bool) (owners : List ℕ) (v : View) (p : ℕ) (a : Page) → IsCluster c → next c.config (last_view c) live owners ≡ Ok v → drops_up c v ≡ false
    → IsPageOf c p a → IsPageOf (make_view false (event.View live owners) v c) p a

-- So does a reopening.
abbrev pub ReopenedIsRelated : Type 0
ReopenedIsRelated =
    (c : Cluster) (v : View) (p : ℕ) (a : Page) → IsCluster c → reopen c.config (last_view c) ≡ Ok v → list_any (is_up c) (all_nodes c) ≡ false
    → IsPageOf c p a → IsPageOf (make_reopened false event.Reopen v c) p a

-- With what is asked of the cluster beside its pages, the same of each of these events.
pub record QuietEventsKeep (blank : List ℕ) (c : Cluster) : Type 0 where
  pub refused : (e : Event) (r : Reason) → IsRelated blank (refuse e r c)
  pub armed : (n call kept : ℕ) → IsRelated blank (arm (event.Arm n call kept) n call kept c)
  pub crashed : (n : ℕ) → IsRelated blank (answer (event.Crash n) reply.Crashed (lose n c))
  pub viewed : (live : List Bool) (owners : List ℕ) (v : View) → next c.config (last_view c) live owners ≡ Ok v → drops_up c v ≡ false → IsRelated blank (make_view false (event.View live owners) v c)
  pub reopened : (v : View) → reopen c.config (last_view c) ≡ Ok v → list_any (is_up c) (all_nodes c) ≡ false → IsRelated blank (make_reopened false event.Reopen v c)

-- Every cluster that is related stays so.
abbrev pub QuietEventsKeepRelated : Type 0
QuietEventsKeepRelated = (blank : List ℕ) (c : Cluster) → IsRelated blank c → QuietEventsKeep blank c

-- A step that a stop ends: a commit, where its record was kept, then a crash, and what the storage shows of its calls.
abbrev pub HaltedIsRelated : Type 0
HaltedIsRelated =
    (blank : List ℕ) (c : Cluster) (e : Event) (n : ℕ) (s : NodeState) (ev : NodeEvent) (plan : Plan) (l : Left) (r : IsRelated blank c) → IsPlanned c e n s ev plan
    → left_of n c.disk plan.calls (stop_at c n) ≡ Some l → ScriptsFit c r.pages.page → WriteVersions r.pages.page c.config.pages n plan.calls → IsRelated blank (halted e n l c)

-- A page that was read and differs would lose the node, and no more.
abbrev pub DifferingIsRelated : Type 0
DifferingIsRelated =
    (blank : List ℕ) (c : Cluster) (e : Event) (n : ℕ) (s : NodeState) (ev : NodeEvent) → IsRelated blank c → IsHanded c e n s ev → IsRelated blank (note_entry e [] [] None (lose n c))

-- A step on an event that redoes no page writes only versions of pages: dirty copies that it makes room of or that it
-- is told to write, and a change that finds no room.
abbrev pub StepsWriteVersions : Type 0
StepsWriteVersions =
    (blank : List ℕ) (c : Cluster) (e : Event) (n : ℕ) (s : NodeState) (ev : NodeEvent) (plan : Plan) (r : IsRelated blank c) → IsPlanned c e n s ev plan → RedoesNothing ev
    → WriteVersions r.pages.page c.config.pages n plan.calls

-- So a stop in such a step keeps a cluster related.
abbrev pub OrdinaryHaltsAreRelated : Type 0
OrdinaryHaltsAreRelated =
    (blank : List ℕ) (c : Cluster) (e : Event) (n : ℕ) (s : NodeState) (ev : NodeEvent) (plan : Plan) (l : Left) (r : IsRelated blank c) → IsPlanned c e n s ev plan
    → left_of n c.disk plan.calls (stop_at c n) ≡ Some l → RedoesNothing ev → ScriptsFit c r.pages.page → IsRelated blank (halted e n l c)
