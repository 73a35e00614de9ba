-- What a transaction asked for last, and the access for which it waits.
use Rattle.std.specs.Prelude.{◌≡◌, ℕ, List, [], ◌∷◌, Option, Some, None, IfSome, ⊤}
use Rattle.pcl_base.specs.declared.lock.Pending.{Pending}
use Rattle.pcl_base.specs.declared.tx.TxId.{TxId}
use Rattle.run_rules.specs.Script.{Moment, moments, last_write}
use Rattle.node_rules.specs.NodeState.{NodeState}
use Rattle.node_rules.specs.OpenTxs.{pending_of}
use Rattle.cluster_rules.specs.Clusters.{Cluster, node_at}

-- the write of the access that a transaction asked for last, where it was w before some moments
unfoldable pub asked_last : TxId → Option (ℕ × List ℕ) → List Moment → Option (ℕ × List ℕ)
asked_last t w [] = w
asked_last t w (m ∷ ms) = asked_last t (last_write t w m) ms

-- An access that waits at a node is the last one that its transaction asked for, so a script gets its bytes.
abbrev pub WaitsAsAsked : Cluster → TxId → Option NodeState → Type 0
WaitsAsAsked c t None = ⊤
WaitsAsAsked c t (Some s) = IfSome (pending_of s.home.txs t) (λ (w : Pending). w.write ≡ asked_last t None (moments c.trace))

-- the same of all transactions, at their homes
abbrev pub AllWaitAsAsked : Cluster → Type 0
AllWaitAsAsked c = (t : TxId) → WaitsAsAsked c t (node_at c t.node)
