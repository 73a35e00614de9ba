-- Nodes that are sound but for one thing, for computed rows.
use Rattle.std.specs.Prelude.{ℕ, true, false, List, [], ◌∷◌, replicate, Some, None}
use Rattle.pcl_base.specs.Limits.{Sizes}
use Rattle.pcl_base.specs.declared.tx.TxId.{TxId}
use Rattle.pcl_base.specs.declared.tx.Mode.TheVariants.{Shared}
use Rattle.pcl_base.specs.declared.message.Body.{Body}
use Rattle.run_rules.specs.Views.{View, first}
use Rattle.node_rules.specs.LockRule.{LockEntry, idle}
use Rattle.node_rules.specs.LockTable.{open_table}
use Rattle.node_rules.specs.Shelf.{Right}
use Rattle.node_rules.specs.NodeState.{NodeState, Outgoing, first_node, put_table}

-- two nodes, and four pages of eight bytes
abbrev pub two : Sizes
two = record { nodes = 2; pages = 4; size = 8; frames = 2 }

-- node 0 of them at its start
abbrev pub zero_node : NodeState
zero_node = first_node two 0

-- a transaction of a node
abbrev pub tx_of : ℕ → TxId
tx_of node = record { node = node; born = 1; serial = 1 }

-- a right of a page with its readers, and the node with rights on its shelf
abbrev pub right : ℕ → List TxId → Right
right page readers = record { page = page; version = 0; readers = readers }

abbrev pub with_rights : List Right → NodeState
with_rights rs = record zero_node { home = record (zero_node.home) { shelf = rs } }

-- the node with these entries in its table, the first one of a page and the other of page 2
abbrev pub with_entry : ℕ → LockEntry → NodeState
with_entry page e =
    put_table zero_node 0
    (Some (record {
      serving = true;
      entries = record { page = page; entry = e } ∷ record { page = 2; entry = idle 0 } ∷ [];
      reported = false ∷ false ∷ [];
    }))

-- the node whose table has an entry of page 0 alone, and where one node has no flag
abbrev pub with_less : NodeState
with_less =
    put_table zero_node 0
    (Some (record { serving = true; entries = record { page = 0; entry = idle 0 } ∷ []; reported = false ∷ false ∷ [] }))

abbrev pub with_one_flag : NodeState
with_one_flag = put_table zero_node 0 (Some (record (open_table two 0 true) { reported = false ∷ [] }))

-- entries that a transaction holds, for which it waits, and of which a node has a right
abbrev pub held_by_one : TxId → LockEntry
held_by_one t = record (idle 0) { holders = record { tx = t; mode = Shared } ∷ [] }

abbrev pub waited_by_one : TxId → LockEntry
waited_by_one t = record (idle 0) { waiting = record { tx = t; mode = Shared; have = None } ∷ [] }

abbrev pub read_by_one : ℕ → LockEntry
read_by_one n = record (idle 0) { rights = record { node = n; revoked = false } ∷ [] }

-- the node in another view
abbrev pub in_another : View → NodeState
in_another v = record zero_node { view = Some v }

-- the first view without node 0, at another epoch, and with another birth
abbrev pub without_zero : View
without_zero = record (first two) { live = false ∷ true ∷ [] }

abbrev pub second_view : View
second_view = record (first two) { epoch = 2 }

-- the node born at an epoch
abbrev pub born_in : ℕ → NodeState
born_in e = record zero_node { home = record (zero_node.home) { txs = record (zero_node.home.txs) { born = e } } }

-- the node in no view, with a transaction
abbrev pub busy_in_none : NodeState
busy_in_none =
    record {
      home =
          record (zero_node.home) {
            txs = record (zero_node.home.txs) { last = 1; txs = record { serial = 1; pages = []; waiting = None } ∷ [] };
          };
      epoch = 1;
      view = None;
      tables = replicate 2 None;
    }

-- a message of an epoch to a node
abbrev pub sent : ℕ → ℕ → Body → Outgoing
sent to epoch body = record { to = to; message = record { epoch = epoch; body = body } }

-- so many bytes
abbrev pub zeros : ℕ → List ℕ
zeros n = replicate n 0
