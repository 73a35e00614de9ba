-- What a step keeps of a cluster beside its pages.
use Rattle.std.specs.Prelude.{◌≡◌, ℕ, ◌^◌, ◌<◌, ◌≤◌, List, [], IfSome}
use Rattle.pcl_base.specs.Limits.{Sizes}
use Rattle.pcl_base.specs.declared.event.Event.{Event}
use Rattle.pcl_base.specs.declared.tx.TxId.{TxId}
use Rattle.cluster_rules.specs.Clusters.{Cluster, opening, node_at}
use Rattle.cluster_rules.specs.ClusterStep.{step}
use Rattle.cluster_laws.specs.Sound.{IsCluster}
use Rattle.page_laws.specs.Moment.Looks.{accesses_in}
use Rattle.cluster_laws.specs.Call.CallLaws.{HaveWholeLogs}
use Rattle.page_relation.specs.Together.{WaitsAsAsked, IsRelated}

-- each home has given fewer serials than there are
abbrev pub HaveSerials : Cluster → Type 0
HaveSerials c = (n : ℕ) → IfSome (node_at c n) (λ s. s.home.txs.last < 2 ^ 32)

-- the opening cluster
abbrev pub OpeningHasSerials : Type 0
OpeningHasSerials = (c : Sizes) → HaveSerials (opening c)

-- a step on any event
abbrev pub StepsHaveSerials : Type 0
StepsHaveSerials = (c : Cluster) (e : Event) → IsCluster c → HaveSerials c → HaveSerials (step c e)

-- each access that waits is the last one that its transaction asked for
abbrev pub HaveAsked : Cluster → Type 0
HaveAsked c = (t : TxId) → WaitsAsAsked c t (node_at c t.node)

-- and stays so
abbrev pub StepsHaveAsked : Type 0
StepsHaveAsked = (c : Cluster) (e : Event) → IsCluster c → HaveAsked c → HaveAsked (step c e)

-- The logs of nodes in a view stay whole, since each commit of a related cluster logs versions of their type.
abbrev pub RelatedKeepsLogs : Type 0
RelatedKeepsLogs = (blank : List ℕ) (c : Cluster) (e : Event) → IsRelated blank c → HaveSerials c → HaveWholeLogs (step c e)

-- no transaction has accessed a page past the last
abbrev pub HaveWithin : Cluster → Type 0
HaveWithin c = (t : TxId) (p : ℕ) → c.config.pages ≤ p → accesses_in t p c.trace ≡ []

-- the opening cluster
abbrev pub OpeningHasWithin : Type 0
OpeningHasWithin = (c : Sizes) → HaveWithin (opening c)

-- a step on any event
abbrev pub StepsHaveWithin : Type 0
StepsHaveWithin = (c : Cluster) (e : Event) → IsCluster c → HaveWithin c → HaveWithin (step c e)
