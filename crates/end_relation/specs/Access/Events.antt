-- A read and a write of a node's transaction.
use Rattle.std.specs.Prelude.{◌≡◌, ℕ, ◌<◌, List, None}
use Rattle.pcl_base.specs.declared.event.Event.{Event}
use Rattle.pcl_base.specs.declared.tx.TxId.{TxId}
use Rattle.node_rules.specs.NodeState.{NodeState, Read, Write}
use Rattle.node_rules.specs.NodeStep.{do_event}
use Rattle.node_rules.specs.Refusals.{refusal}
use Rattle.node_rules.specs.Work.{Work, Goes, Differs}
use Rattle.cluster_rules.specs.Clusters.{Cluster, node_at}
use Rattle.cluster_rules.specs.ClusterStep.{step}
use Rattle.cluster_laws.specs.Handed.{IsHanded}
use Rattle.cluster_laws.specs.Sound.{IsCluster}
use Rattle.cluster_laws.specs.Link.EpochLaws.{IsInOrder}
use Rattle.page_protocol.specs.State.{Page}
use Rattle.page_protocol.specs.Steps.{Reached}
use Rattle.page_relation.specs.Relation.{IsPageOf}
use Rattle.page_relation.specs.Together.{WaitsAsAsked}
use Rattle.page_relation.specs.Work.Events.{IsEntered, IsUnstopped}
use Rattle.page_relation.specs.Work.StepEnds.{start_of, Follows}
use Rattle.end_relation.specs.Access.Midway.{SettleKeeps, SettleGoes}

-- each access that waits is the last one that its transaction asked for
abbrev pub HasAskedAll : Cluster → Type 0
HasAskedAll c = (t : TxId) → WaitsAsAsked c t (node_at c t.node)

-- A read that no stop ends keeps the relation of each page, where settling keeps it: it is done at once, or waits.
abbrev pub ReadIsKept : Type 0
ReadIsKept =
    (c : Cluster) (e : Event) (n p page : ℕ) (t : TxId) (s : NodeState) (w : Work) (blank : List ℕ) (a : Page) → SettleKeeps → IsCluster c → IsInOrder c → HasAskedAll c
    → IsHanded c e n s (Read t page) → IsUnstopped c n s (Read t page) → do_event c.disk (Read t page) (start_of c s) ≡ Goes w
    → p < c.config.pages → Reached blank a → IsEntered a → IsPageOf c p a → Follows p IsEntered a (step c e)

-- So does a write.
abbrev pub WriteIsKept : Type 0
WriteIsKept =
    (c : Cluster) (e : Event) (n p page place : ℕ) (piece : List ℕ) (t : TxId) (s : NodeState) (w : Work) (blank : List ℕ) (a : Page) → SettleKeeps → IsCluster c → IsInOrder c
    → HasAskedAll c → IsHanded c e n s (Write t page place piece) → IsUnstopped c n s (Write t page place piece)
    → do_event c.disk (Write t page place piece) (start_of c s) ≡ Goes w → p < c.config.pages → Reached blank a → IsEntered a → IsPageOf c p a
    → Follows p IsEntered a (step c e)

-- No page differs in a read that isn't refused, where none does in settling.
abbrev pub ReadGoes : Type 0
ReadGoes =
    (c : Cluster) (e : Event) (n page q expected found : ℕ) (t : TxId) (s : NodeState) (blank : List ℕ) (a : Page) → SettleGoes → IsCluster c → IsInOrder c → HasAskedAll c
    → IsHanded c e n s (Read t page) → refusal s (Read t page) ≡ None → Reached blank a → IsEntered a → IsPageOf c page a
    → do_event c.disk (Read t page) (start_of c s) ≡ Differs q expected found → ⊥

-- Nor in a write.
abbrev pub WriteGoes : Type 0
WriteGoes =
    (c : Cluster) (e : Event) (n page place q expected found : ℕ) (piece : List ℕ) (t : TxId) (s : NodeState) (blank : List ℕ) (a : Page) → SettleGoes → IsCluster c → IsInOrder c
    → HasAskedAll c → IsHanded c e n s (Write t page place piece) → refusal s (Write t page place piece) ≡ None → Reached blank a → IsEntered a → IsPageOf c page a
    → do_event c.disk (Write t page place piece) (start_of c s) ≡ Differs q expected found → ⊥
