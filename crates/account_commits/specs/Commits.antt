-- The versions that a commit makes, against those of the ledger before the sends of its entry.
use Rattle.std.specs.Prelude.{◌≡◌, ℕ, true, List, map, None, slice_index}
use Rattle.std.specs.List.{list_any}
use Rattle.pcl_base.specs.declared.event.Event.{Event}
use Rattle.pcl_base.specs.declared.trace.Entry.{Entry}
use Rattle.pcl_base.specs.declared.tx.TxId.{TxId}
use Rattle.run_rules.specs.Account.{heard}
use Rattle.run_rules.specs.Ledger.{Ledger, is_of}
use Rattle.node_rules.specs.EndRule.{is_written, new_version}
use Rattle.node_rules.specs.NodeState.{NodeState, Commit}
use Rattle.node_rules.specs.NodeStep.{Plan, nodestep}
use Rattle.node_rules.specs.Refusals.{refusal}
use Rattle.node_rules.specs.Work.{Goes}
use Rattle.cluster_rules.specs.Clusters.{Cluster, sent_by}
use Rattle.cluster_laws.specs.Handed.{IsHanded}
use Rattle.account_relation.specs.Ledgers.{Leaves}
use Rattle.account_versions.specs.Asked.{HaveAskedWrites}
use Rattle.related_runs.specs.RunLaws.{IsOfRun}

-- the entry of a whole step
abbrev pub entry_of : Event → ℕ → Plan → Entry
entry_of e n p = record { event = e; replies = p.replies; sent = map (sent_by n) p.sends; halted = None }

-- a commit of t at node n, from a cluster of a run whose trace leaves a ledger
pub record IsCommit (blank : List ℕ) (c : Cluster) (e : Event) (n : ℕ) (s : NodeState) (t : TxId) (p : Plan) (l : Ledger) : Type 0 where
  pub run : IsOfRun blank c
  pub asked : HaveAskedWrites c
  pub leaves : Leaves c.config c.trace l
  pub handed : IsHanded c e n s (Commit t)
  pub free : refusal s (Commit t) ≡ None
  pub goes : nodestep s (Commit t) c.disk ≡ Goes p

-- A page that t wrote is one whose write was granted.
abbrev pub WrittenIsDone : Type 0
WrittenIsDone =
    (blank : List ℕ) (c : Cluster) (e : Event) (n : ℕ) (s : NodeState) (t : TxId) (p : Plan) (l : Ledger) (q : ℕ) → IsCommit blank c e n s t p l → is_written s.home t q ≡ true
    → list_any (is_of t q) l.done ≡ true

-- The version that the commit makes of such a page is that of the ledger after the commit point.
abbrev pub CommitsHaveVersions : Type 0
CommitsHaveVersions =
    (blank : List ℕ) (c : Cluster) (e : Event) (n : ℕ) (s : NodeState) (t : TxId) (p : Plan) (l : Ledger) (q : ℕ) → IsCommit blank c e n s t p l → is_written s.home t q ≡ true
    → new_version s.home q ≡ slice_index (heard (entry_of e n p) l).versions q
