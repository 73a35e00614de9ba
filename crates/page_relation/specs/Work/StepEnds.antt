-- How a step starts and ends, as the cluster of its work.
use Rattle.std.specs.Prelude.{◌≡◌, ℕ, true, Some, None}
use Rattle.pcl_base.specs.declared.event.Event.{Event}
use Rattle.pcl_base.specs.declared.message.Message.{Message}
use Rattle.pcl_base.specs.declared.reply.Reason.{Reason}
use Rattle.pcl_base.specs.declared.tx.TxId.{TxId}
use Rattle.node_rules.specs.NodeState.{NodeState, NodeEvent, Deliver, partition}
use Rattle.node_rules.specs.NodeStep.{begin_work, do_event}
use Rattle.node_rules.specs.Refusals.{refusal}
use Rattle.node_rules.specs.Work.{Work, Goes}
use Rattle.cluster_rules.specs.Clusters.{Cluster, node_at, stop_at}
use Rattle.cluster_rules.specs.ClusterStep.{left_of, step}
use Rattle.cluster_laws.specs.Handed.{IsHanded}
use Rattle.cluster_laws.specs.Sound.{IsCluster}
use Rattle.page_protocol.specs.State.{Page}
use Rattle.page_protocol.specs.Steps.{Run}
use Rattle.cluster_laws.specs.Link.Coming.{is_coming, coming}
use Rattle.cluster_laws.specs.Link.Orders.{how_many}
use Rattle.page_relation.specs.Messages.{is_release, is_right, is_answer}
use Rattle.page_relation.specs.Relation.{MessageIs, IsPageOf}
use Rattle.page_relation.specs.Work.Keeping.{IsWorkOf}
use Rattle.page_relation.specs.Work.Landing.{land}

-- the work of node n at the start of its step
abbrev pub start_of : Cluster → NodeState → Work
start_of c s = begin_work s c.disk

-- A step of a node starts from a work that has the state of the machine that the cluster has: a head that is delivered
-- is taken.
abbrev pub StartIsRelated : Type 0
StartIsRelated =
    (c : Cluster) (e : Event) (n p : ℕ) (s : NodeState) (ev : NodeEvent) (a : Page) → IsCluster c → IsHanded c e n s ev → IsPageOf c p a
    → IsWorkOf c e n p (start_of c s) a

-- what is known of a message that was taken from the link, where it speaks of the page and counts: what it says, and
-- that nothing behind it is a second one of its kind
pub record HeadSays (c : Cluster) (e : Event) (n p : ℕ) (a : Page) (w : Work) (from : ℕ) (m : Message) : Type 0 where
  pub says : MessageIs c p (partition c.config p) a from n m
  pub no_release : (t : TxId) → is_release t m.body ≡ true → how_many (is_release t) (coming (land c e n w) p from n) ≡ 0
  pub no_right : is_right m.body ≡ true → how_many is_right (coming (land c e n w) p from n) ≡ 0
  pub no_answer : is_answer m.body ≡ true → how_many is_answer (coming (land c e n w) p from n) ≡ 0

-- a head that is delivered
abbrev pub HeadIsSaid : Type 0
HeadIsSaid =
    (c : Cluster) (e : Event) (n p : ℕ) (s : NodeState) (from : ℕ) (m : Message) (a : Page) → IsCluster c → IsHanded c e n s (Deliver from m) → IsPageOf c p a
    → is_coming c.config p from (node_at c n) m ≡ true → HeadSays c e n p a (start_of c s) from m

-- a step that no stop ends is the cluster of its last work
abbrev pub EndIsLanded : Type 0
EndIsLanded =
    (c : Cluster) (e : Event) (n : ℕ) (s : NodeState) (ev : NodeEvent) (w : Work) → IsHanded c e n s ev → refusal s ev ≡ None
    → do_event c.disk ev (start_of c s) ≡ Goes w → left_of n c.disk w.calls (stop_at c n) ≡ None → step c e ≡ land c e n w

-- a run of the machine to a state that a cluster has, of which something is known
pub record Follows (p : ℕ) (Known : Page → Type 0) (a : Page) (d : Cluster) : Type 0 where
  pub page : Page
  pub run : Run a page
  pub related : IsPageOf d p page
  pub known : Known page

-- a refused event, which takes no head
abbrev pub RefusedIsKept : Type 0
RefusedIsKept =
    (c : Cluster) (e : Event) (n p : ℕ) (s : NodeState) (ev : NodeEvent) (r : Reason) (a : Page) → IsCluster c → IsHanded c e n s ev → refusal s ev ≡ Some r
    → IsPageOf c p a → IsPageOf (step c e) p a
