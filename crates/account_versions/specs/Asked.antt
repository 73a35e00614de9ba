-- Granted writes of a trace: each is of an access that asked for one.
use Rattle.std.specs.Prelude.{◌≡◌, ℕ, true, List, [], ◌∷◌, Option, None, is_some, ⊤}
use Rattle.std.specs.List.{AllByRecursion}
use Rattle.pcl_base.specs.Limits.{Sizes, InLimits}
use Rattle.pcl_base.specs.declared.event.Event.{Event}
use Rattle.pcl_base.specs.declared.tx.TxId.{TxId}
use Rattle.run_rules.specs.Script.{Moment, Writes, last_write, moments}
use Rattle.run_rules.specs.Words.{same_tx}
use Rattle.cluster_rules.specs.Clusters.{Cluster, opening}
use Rattle.cluster_rules.specs.ClusterStep.{step}
use Rattle.cluster_rules.specs.Run.{run}
use Rattle.cluster_laws.specs.Sound.{IsCluster}
use Rattle.cluster_laws.specs.Ask.Asked.{AllWaitAsAsked}

-- a write that a moment grants to t was asked for, where w is the write of the access that t asked for last
abbrev pub IsAskedFor : TxId → Option (ℕ × List ℕ) → Moment → Type 0
IsAskedFor t w (Writes u p v) = same_tx t u ≡ true → is_some w ≡ true
IsAskedFor t w _ = ⊤

-- the same of all writes that some moments grant to t
unfoldable pub AreAskedFor : TxId → Option (ℕ × List ℕ) → List Moment → Type 0
AreAskedFor t w [] = ⊤
AreAskedFor t w (m ∷ ms) = IsAskedFor t w m × AreAskedFor t (last_write t w m) ms

-- each granted write among some moments was asked for
abbrev pub WritesAreAsked : List Moment → Type 0
WritesAreAsked ms = (t : TxId) → AreAskedFor t None ms

-- the same of a cluster's trace
abbrev pub HaveAskedWrites : Cluster → Type 0
HaveAskedWrites c = WritesAreAsked (moments c.trace)

-- the opening cluster
abbrev pub OpeningHasAskedWrites : Type 0
OpeningHasAskedWrites = (c : Sizes) → HaveAskedWrites (opening c)

-- a step on any event
abbrev pub StepsHaveAskedWrites : Type 0
StepsHaveAskedWrites = (c : Cluster) (e : Event) → IsCluster c → AllWaitAsAsked c → HaveAskedWrites c → HaveAskedWrites (step c e)

-- every cluster of a run
abbrev pub RunsHaveAskedWrites : Type 0
RunsHaveAskedWrites = (c : Sizes) (es : List Event) → InLimits c → AllByRecursion HaveAskedWrites (run c es)
