-- Clusters whose trace is accounted for, with the ledger that it leaves.
use Rattle.std.specs.Prelude.{◌≡◌, ℕ, false, List}
use Rattle.std.specs.List.{AllByRecursion}
use Rattle.pcl_base.specs.Limits.{Sizes, InLimits}
use Rattle.pcl_base.specs.declared.event.Event.{Event}
use Rattle.run_rules.specs.Account.{IsAccounted}
use Rattle.run_rules.specs.Ledger.{Ledger}
use Rattle.node_rules.specs.NodeState.{NodeState, NodeEvent}
use Rattle.node_rules.specs.NodeStep.{Plan, nodestep}
use Rattle.node_rules.specs.Work.{Goes}
use Rattle.cluster_rules.specs.Clusters.{Cluster, opening}
use Rattle.cluster_rules.specs.ClusterStep.{step}
use Rattle.cluster_rules.specs.Run.{run}
use Rattle.cluster_laws.specs.Handed.{IsHanded}
use Rattle.cluster_laws.specs.Sound.{IsCluster}
use Rattle.account_relation.specs.Ledgers.{Leaves}
use Rattle.account_relation.specs.Seen.{AreSeen}
use Rattle.account_relation.specs.World.{IsWorld, NothingDiffers}
use Rattle.account_relation.specs.Step.Sends.{is_lock}

-- Each send of its trace has its cause, and the ledger has its nodes, links and views.
pub record HasAccount (c : Cluster) : Type 0 where
  pub ledger : Ledger
  pub leaves : Leaves c.config c.trace ledger
  pub world : IsWorld c ledger
  pub seen : AreSeen c ledger

-- the opening cluster
abbrev pub OpeningHasAccount : Type 0
OpeningHasAccount = (c : Sizes) → HasAccount (opening c)

-- so it is accounted for
abbrev pub AccountsAreAccounted : Type 0
AccountsAreAccounted = (c : Cluster) → HasAccount c → IsAccounted c.config c.trace

-- the step on an event sends no grant, no release and no revocation
abbrev pub SendsNoLocks : Cluster → Event → Type 0
SendsNoLocks c e =
    (n : ℕ) (s : NodeState) (ev : NodeEvent) (p : Plan) → IsHanded c e n s ev → nodestep s ev c.disk ≡ Goes p → AllByRecursion (λ o. is_lock o.message.body ≡ false) p.sends

-- Such a step keeps the account, whatever its event.
abbrev pub StepsWithoutLocks : Type 0
StepsWithoutLocks = (c : Cluster) (e : Event) → IsCluster c → NothingDiffers c e → SendsNoLocks c e → HasAccount c → HasAccount (step c e)

-- Where all steps keep it, every cluster of a run has it.
abbrev pub RunsAreAccounted : Type 0
RunsAreAccounted =
    (c : Sizes) (es : List Event) → InLimits c → ((k : Cluster) (e : Event) → IsCluster k → HasAccount k → HasAccount (step k e)) → AllByRecursion (λ k. IsAccounted k.config k.trace) (run c es)
