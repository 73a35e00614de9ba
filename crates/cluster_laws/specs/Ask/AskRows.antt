-- What transactions of node 0 asked for, for computed rows.
use Rattle.std.specs.Prelude.{ℕ, List, [], ◌∷◌, Option, None}
use Rattle.pcl_base.specs.declared.event.Event.{Event}
use Rattle.pcl_base.specs.declared.event.Event.TheVariants as event
use Rattle.pcl_base.specs.declared.tx.TxId.{TxId}
use Rattle.run_rules.specs.Script.{moments}
use Rattle.cluster_rules.specs.Clusters.{node_at}
use Rattle.cluster_rules.specs.ClusterRows.{two, t1}
use Rattle.cluster_rules.specs.Run.{last}
use Rattle.cluster_laws.specs.Ask.Asked.{asked_last, WaitsAsAsked}

-- what a transaction asked for last, after some events
abbrev pub asked_by : TxId → List Event → Option (ℕ × List ℕ)
asked_by t es = asked_last t None (moments (last two es).trace)

-- two transactions are begun, and the first one writes a page of node 1, and so waits
abbrev pub writes : List Event → List Event
writes es = event.Begin 0 ∷ event.Begin 0 ∷ event.Write t1 1 0 (7 ∷ []) ∷ es

-- what waits after some events was asked for
abbrev pub WaitsAfter : TxId → List Event → Type 0
WaitsAfter t es = WaitsAsAsked (last two es) t (node_at (last two es) t.node)
