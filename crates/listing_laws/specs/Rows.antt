-- Steps of a node of two that send lists, for computed rows.
use Rattle.std.specs.Prelude.{ℕ, true, [], ◌∷◌, None}
use Rattle.pcl_base.specs.declared.message.Body.{Body}
use Rattle.pcl_base.specs.declared.tx.TxId.{TxId}
use Rattle.run_rules.specs.Disk.{fresh_disk}
use Rattle.run_rules.specs.Views.{View}
use Rattle.node_rules.specs.NodeState.{NodeState, NodeEvent, Deliver, first_node, start_node}
use Rattle.node_rules.specs.NodeStep.{Plan, nodestep}
use Rattle.node_rules.specs.StepRows.{two}
use Rattle.node_rules.specs.Work.{Outcome, Goes, Differs}
use Rattle.listing_laws.specs.Lists.{lists_sent}

-- the lists that a step sends; a step whose page differs counts none
abbrev pub lists_of : Outcome Plan → ℕ
lists_of (Goes p) = lists_sent p.sends
lists_of (Differs p expected found) = 0

-- the lists that a node's step over fresh storage sends
abbrev pub lists_at : NodeState → NodeEvent → ℕ
lists_at n event = lists_of (nodestep n event (fresh_disk two))

-- a view in which node 1 is back, and node 0 owns both partitions
abbrev pub of_zero : View
of_zero = record { epoch = 2; live = true ∷ true ∷ []; owners = 0 ∷ 0 ∷ []; since = 2 ∷ 2 ∷ []; born = 1 ∷ 2 ∷ [] }

-- node 1, in no view
abbrev pub newcomer : NodeState
newcomer = start_node two 1 1

-- node 1 with a right to read page 0, in view 1
abbrev pub reader : NodeState
reader =
    record (first_node two 1) {
      home =
          record ((first_node two 1).home) {
            shelf = record { page = 0; version = 0; readers = [] } ∷ [];
          };
    }

-- a message of node 0
abbrev pub from_zero : Body → NodeEvent
from_zero b = Deliver 0 (record { epoch = 1; body = b })

-- a transaction of node 1, and that node once it has begun it
abbrev pub own_tx : TxId
own_tx = record { node = 1; born = 1; serial = 1 }

abbrev pub busy : NodeState
busy =
    record (first_node two 1) {
      home =
          record ((first_node two 1).home) {
            txs = record { node = 1; born = 1; last = 1; txs = record { serial = 1; pages = []; waiting = None } ∷ [] };
          };
    }
