-- What the ledger of a trace has of the whole cluster: who is up, what stands on the links, and which views were made.
use Rattle.std.specs.Prelude.{◌≡◌, ℕ, List, map, is_some}
use Rattle.pcl_base.specs.Limits.{Sizes}
use Rattle.pcl_base.specs.declared.event.Event.{Event}
use Rattle.pcl_base.specs.declared.message.Message.{Message}
use Rattle.pcl_base.specs.declared.trace.Note.{Note}
use Rattle.run_rules.specs.Ledger.{Ledger, first_ledger}
use Rattle.node_rules.specs.NodeState.{NodeState, NodeEvent}
use Rattle.node_rules.specs.Work.{Differs}
use Rattle.node_rules.specs.NodeStep.{nodestep}
use Rattle.cluster_rules.specs.Clusters.{Cluster, opening, note_of}
use Rattle.cluster_rules.specs.ClusterStep.{step}
use Rattle.cluster_rules.specs.Links.{Links}
use Rattle.cluster_laws.specs.Handed.{IsHanded}
use Rattle.account_relation.specs.Ledgers.{Leaves}

-- a message as the trace has it
abbrev pub noted : Message → Note
noted m = note_of m.body

-- the links as the trace has them
unfoldable pub noted_links : Links → List (List (List Note))
noted_links ls = map (map (map noted)) ls

-- the ledger has the sizes, the nodes that are up, the links and the views of the cluster
pub record IsWorld (c : Cluster) (l : Ledger) : Type 0 where
  pub config : l.config ≡ c.config
  pub up : l.up ≡ map is_some c.nodes
  pub links : l.links ≡ noted_links c.links
  pub views : l.views ≡ c.views

-- the opening cluster
abbrev pub OpeningIsWorld : Type 0
OpeningIsWorld = (c : Sizes) → IsWorld (opening c) (first_ledger c)

-- no page that the event reads differs from what was granted
abbrev pub NothingDiffers : Cluster → Event → Type 0
NothingDiffers c e =
    (n : ℕ) (s : NodeState) (ev : NodeEvent) (page expected found : ℕ) → IsHanded c e n s ev → nodestep s ev c.disk ≡ Differs page expected found → ⊥

-- A step on any event: where its sends have their causes, the ledger is that of the cluster after it.
abbrev pub StepsKeepWorld : Type 0
StepsKeepWorld =
    (c : Cluster) (e : Event) (l m : Ledger) → NothingDiffers c e → Leaves c.config c.trace l → Leaves c.config (step c e).trace m → IsWorld c l → IsWorld (step c e) m
