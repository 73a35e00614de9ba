-- Events that send no locks, each by its kind.
use Rattle.std.specs.Prelude.{◌≡◌, ◌==◌, ℕ, not, Bool, true, false}
use Rattle.std.specs.List.{AllByRecursion}
use Rattle.pcl_base.specs.declared.event.Event.{Event}
use Rattle.pcl_base.specs.declared.message.Body.{Body}
use Rattle.pcl_base.specs.declared.message.Body.TheVariants as body
use Rattle.run_rules.specs.Disk.{Disk}
use Rattle.node_rules.specs.NodeState.{NodeState, NodeEvent, Begin, Read, Write, Commit, Abort, Deliver, Evict, Flush, Install, Cut, number_of, page_owner}
use Rattle.node_rules.specs.NodeStep.{Plan, nodestep}
use Rattle.node_rules.specs.Work.{Goes}
use Rattle.cluster_rules.specs.Clusters.{Cluster}
use Rattle.cluster_rules.specs.ClusterStep.{step}
use Rattle.cluster_laws.specs.Handed.{IsHanded}
use Rattle.cluster_laws.specs.Sound.{IsCluster}
use Rattle.account_relation.specs.World.{NothingDiffers}
use Rattle.account_relation.specs.Step.Accounts.{HasAccount}
use Rattle.account_relation.specs.Step.Sends.{is_lock}

-- a grant or a revocation, which comes to a home of transactions
abbrev pub comes_home : Body → Bool
comes_home (body.Grant g) = true
comes_home (body.Revoke p) = true
comes_home _ = false

-- whether a node sends no locks on an event: begin, evict, flush and cut, accesses of pages of other nodes, and grants and
-- revocations that arrive
abbrev pub is_lockless : NodeState → NodeEvent → Bool
is_lockless n Begin = true
is_lockless n (Read t p) = not (page_owner n p == number_of n)
is_lockless n (Write t p place bytes) = not (page_owner n p == number_of n)
is_lockless n (Commit t) = false
is_lockless n (Abort t) = false
is_lockless n (Deliver from m) = comes_home m.body
is_lockless n (Evict p) = true
is_lockless n (Flush p) = true
is_lockless n (Install v) = false
is_lockless n Cut = true

-- It sends none.
abbrev pub LocklessSendNone : Type 0
LocklessSendNone =
    (n : NodeState) (ev : NodeEvent) (d : Disk) (p : Plan) → is_lockless n ev ≡ true → nodestep n ev d ≡ Goes p → AllByRecursion (λ o. is_lock o.message.body ≡ false) p.sends

-- So such an event keeps the account, and so does one that comes to no node: a crash, an armed stop, a view, a reopening.
abbrev pub LocklessKeepAccounts : Type 0
LocklessKeepAccounts =
    (c : Cluster) (e : Event) → IsCluster c → NothingDiffers c e → ((n : ℕ) (s : NodeState) (ev : NodeEvent) → IsHanded c e n s ev → is_lockless s ev ≡ true) → HasAccount c
    → HasAccount (step c e)
