-- How the events of a cluster end, by what its parts come to.
use Rattle.std.proofs.Common.{◌≡◌, refl, ap, sym, subst, ◌∙◌, ℕ, ◌<◌, ◌+◌, nat_le, false, List, [], ◌∷◌, length, Option, Some, None, option_map, Result, arith}
use Rattle.std.specs.List.{list_any}
use Rattle.std.proofs.lemmas.List.{length-map}
use Rattle.pcl_base.specs.declared.event.Event.{Event}
use Rattle.pcl_base.specs.declared.event.Event.TheVariants as event
use Rattle.pcl_base.specs.declared.reply.Reason.{Reason}
use Rattle.pcl_base.specs.declared.reply.Reply.TheVariants as reply
use Rattle.run_rules.specs.Views.{View}
use Rattle.disk_model.specs.Memory.{LogDisk}
use Rattle.link_model.specs.Spares.{LinksView}
use Rattle.node_rules.specs.NodeState.{NodeState, NodeEvent}
use Rattle.node_rules.specs.NodeState as node
use Rattle.cluster_rules.specs.Clusters.{Cluster, answer, lose, view_of_epoch}
use Rattle.cluster_rules.specs.ClusterStep.{arm, named, refuse, step}
use Rattle.cluster_laws.specs.Handed.{handed_to, IsHanded}
use Rattle.cluster_laws.specs.Sound.{IsCluster}
use Rattle.cluster_parts.specs.declared.fault.ClusterFault.{ClusterFault}
use Rattle.cluster_parts.specs.Ends.{ComesTo, Ends}
use Rattle.cluster_parts.specs.Events.{IsPlain, absent_at}
use Rattle.cluster_parts.specs.State.{AreParts, ClusterView, cluster_of}
use Rattle.cluster_parts.specs.Steps.{IsReady, MayGoBack, before_taking, with_head}
use Rattle.cluster_parts.proofs.Kept.{comes_ends, coming_keeps_parts_law}
use Rattle.cluster_parts.proofs.Named.{absent_refused, plain_handed, present, present_step}
use Rattle.cluster_parts.proofs.Room.{up_below}

-- a step ends as the rules say, and keeps what holds of the parts
pub record EndsWell (v : ClusterView) (e : Event) (r : Result (Unit {0}) ClusterFault) (w : ClusterView) : Type 0 where
  pub ends : Ends (cluster_of v) e r (cluster_of w)
  pub parts : AreParts w

-- a step in which no node reads a page
pub came : (v w : ClusterView) (next : Cluster) (e : Event) (r : Result (Unit {0}) ClusterFault) → AreParts v → next ≡ step (cluster_of v) e → ComesTo (cluster_of v) next r (cluster_of w)
    → w.trace.config ≡ v.trace.config → w.storage.failing ≡ v.storage.failing → EndsWell v e r w
came v w next e r i is comes title failing =
    record {
      ends = comes_ends (cluster_of v) next e r (cluster_of w) is comes;
      parts = coming_keeps_parts_law v w next e r i is comes title failing;
    }

-- one that is refused as its node can't act
pub absent_came : (v w : ClusterView) (e : Event) (n : ℕ) (ns : List ℕ) (o : Option Reason) (reason : Reason) (r : Result (Unit {0}) ClusterFault) → AreParts v → named e ≡ n ∷ ns → list_any (nat_le v.config.nodes) ns ≡ false
    → o ≡ absent_at (cluster_of v) n → o ≡ Some reason → ComesTo (cluster_of v) (refuse e reason (cluster_of v)) r (cluster_of w)
    → w.trace.config ≡ v.trace.config → w.storage.failing ≡ v.storage.failing → EndsWell v e r w
absent_came v w e n ns o reason r i names others absent is comes title failing =
    came v w (refuse e reason (cluster_of v)) e r i (sym (absent_refused (cluster_of v) e n ns reason names others (sym absent ∙ is))) comes title failing

-- an event that takes no message from a link
pub record TakesNone (n : ℕ) (ev : NodeEvent) (v : LinksView) : Type 0 where
  pub same : with_head n ev v.links ≡ v.links
  pub back : MayGoBack n ev v

same_event : (n : ℕ) (x ev : NodeEvent) (v : LinksView) → Some x ≡ Some ev → TakesNone n x v → TakesNone n ev v
same_event n x ev v h none = let is : x ≡ ev = cc in subst (λ (y : NodeEvent). TakesNone n y v) is none

pub installs_none : (n : ℕ) (ev : NodeEvent) (v : LinksView) (o : Option View) → option_map node.Install o ≡ Some ev → TakesNone n ev v
installs_none n ev v None h = absurd (cc)
installs_none n ev v (Some view) h = same_event n (node.Install view) ev v h (record { same = refl; back = tt })

pub takes_none : (c : Cluster) (s : NodeState) (e : Event) (n : ℕ) (ev : NodeEvent) (v : LinksView) → named e ≡ n ∷ [] → handed_to c s e ≡ Some ev → TakesNone n ev v
takes_none c s (event.Begin m) n ev v names h = same_event n node.Begin ev v h (record { same = refl; back = tt })
takes_none c s (event.Read t p) n ev v names h = same_event n (node.Read t p) ev v h (record { same = refl; back = tt })
takes_none c s (event.Write t p place bytes) n ev v names h = same_event n (node.Write t p place bytes) ev v h (record { same = refl; back = tt })
takes_none c s (event.Commit t) n ev v names h = same_event n (node.Commit t) ev v h (record { same = refl; back = tt })
takes_none c s (event.Abort t) n ev v names h = same_event n (node.Abort t) ev v h (record { same = refl; back = tt })
takes_none c s (event.Deliver from to) n ev v names h = let bad = names in absurd (cc)
takes_none c s (event.Evict m p) n ev v names h = same_event n (node.Evict p) ev v h (record { same = refl; back = tt })
takes_none c s (event.Flush m p) n ev v names h = same_event n (node.Flush p) ev v h (record { same = refl; back = tt })
takes_none c s (event.Crash m) n ev v names h = absurd (cc)
takes_none c s (event.View live owners) n ev v names h = absurd (cc)
takes_none c s (event.Install m) n ev v names h = installs_none n ev v (view_of_epoch c.views (s.epoch + 1)) h
takes_none c s event.Reopen n ev v names h = absurd (cc)
takes_none c s (event.Arm m call kept) n ev v names h = absurd (cc)
takes_none c s (event.Cut m) n ev v names h = same_event n node.Cut ev v h (record { same = refl; back = tt })

-- a node that gets an event without a message is ready for its step
pub same_links : (c : Cluster) (n : ℕ) (ev : NodeEvent) → with_head n ev c.links ≡ c.links → before_taking n ev c ≡ c
same_links c n ev same = ap (λ ls. record c { links = ls }) same

pub handed_ready : (v : ClusterView) (e : Event) (n : ℕ) (s : NodeState) (ev : NodeEvent) → AreParts v → IsHanded (cluster_of v) e n s ev → TakesNone n ev v.links → IsReady v e n ev
handed_ready v e n s ev i h none =
    record {
      state = s;
      handed = subst (λ (c : Cluster). IsHanded c e n s ev) (sym (same_links (cluster_of v) n ev none.same)) h;
      cluster = subst IsCluster (sym (same_links (cluster_of v) n ev none.same)) i.cluster;
      back = none.back;
      title = i.title;
      reads = i.reads;
    }

pub plain_none : (v : ClusterView) (e : Event) (n : ℕ) (ev : NodeEvent) → IsPlain e n ev → absent_at (cluster_of v) n ≡ None → TakesNone n ev v.links
plain_none v e n ev plain absent =
    let is = present (cluster_of v) n absent in takes_none (cluster_of v) is.state e n ev v.links plain.named (plain.handed (cluster_of v) is.state)

pub plain_ready : (v : ClusterView) (e : Event) (n : ℕ) (ev : NodeEvent) → AreParts v → IsPlain e n ev → absent_at (cluster_of v) n ≡ None → IsReady v e n ev
plain_ready v e n ev i plain absent =
    let is = present (cluster_of v) n absent in handed_ready v e n is.state ev i (plain_handed (cluster_of v) e n ev plain is) (plain_none v e n ev plain absent)

pub ends_here : (c : Cluster) (e : Event) (n : ℕ) (ev : NodeEvent) (r : Result (Unit {0}) ClusterFault) (d : Cluster) → with_head n ev c.links ≡ c.links → Ends (before_taking n ev c) e r d → Ends c e r d
ends_here c e n ev r d same ends = subst (λ (k : Cluster). Ends k e r d) (same_links c n ev same) ends

-- a node that can act is one of the cluster's, and has a log
pub present_node : (v : ClusterView) (n : ℕ) → absent_at (cluster_of v) n ≡ None → n < length v.nodes
present_node v n absent = let is = present (cluster_of v) n absent in up_below v.nodes n is.state is.up

pub present_log : (v : ClusterView) (n : ℕ) → AreParts v → absent_at (cluster_of v) n ≡ None → n < length v.storage.logs
present_log v n i absent =
    let low = present_node v n absent in
    let nodes = i.cluster.nodes in
    let logs = sym (length-map v.storage.logs (λ (l : LogDisk). l.bytes)) ∙ i.cluster.disk.logs in
    omega (arith, low, nodes, logs)

-- a crash, and a stop that is armed, of a node that can act
pub on_crash_step : (v : ClusterView) (e : Event) (n : ℕ) → e ≡ event.Crash n → absent_at (cluster_of v) n ≡ None → answer e reply.Crashed (lose n (cluster_of v)) ≡ step (cluster_of v) e
on_crash_step v e n same absent =
    let is = present (cluster_of v) n absent in
    subst (λ (x : Event). answer x reply.Crashed (lose n (cluster_of v)) ≡ step (cluster_of v) x) (sym same) (sym (present_step (cluster_of v) (event.Crash n) n [] refl is refl))

pub on_arm_step : (v : ClusterView) (e : Event) (n call kept : ℕ) → e ≡ event.Arm n call kept → absent_at (cluster_of v) n ≡ None → arm e n call kept (cluster_of v) ≡ step (cluster_of v) e
on_arm_step v e n call kept same absent =
    let is = present (cluster_of v) n absent in
    subst (λ (x : Event). arm x n call kept (cluster_of v) ≡ step (cluster_of v) x) (sym same) (sym (present_step (cluster_of v) (event.Arm n call kept) n [] refl is refl))
