-- The state of a node.
use Rattle.std.specs.Prelude.{ℕ, ◌%◌, ◌==◌, ◌&&◌, nat_lt, min, max, Bool, true, false, List, [], ◌∷◌, replicate, slice_index_or, slice_set, Option, Some, None}
use Rattle.pcl_base.specs.Limits.{Sizes}
use Rattle.pcl_base.specs.declared.tx.TxId.{TxId}
use Rattle.pcl_base.specs.declared.message.Message.{Message}
use Rattle.run_rules.specs.Views.{View, first, owner_of}
use Rattle.node_rules.specs.Words.{pick, same_tx}
use Rattle.node_rules.specs.LockTable.{LockTable, open_table}
use Rattle.node_rules.specs.OpenTxs.{OpenTxs}
use Rattle.node_rules.specs.Shelf.{Right}
use Rattle.node_rules.specs.BufferRule.{Pool, open_pool}

-- a run of places of a page: from the first one up to the one behind the last
pub record Run : Type 0 where
  pub from : ℕ
  pub to : ℕ

-- the places of a page that a transaction wrote, as runs that rise and don't touch
pub record Written : Type 0 where
  pub tx : TxId
  pub page : ℕ
  pub runs : List Run

-- what a node has as the home of its transactions: its numbers, the open transactions, the rights,
-- the buffer, and beside each private copy the places that were written
pub record HomeState : Type 0 where
  pub config : Sizes
  pub txs : OpenTxs
  pub shelf : List Right
  pub pool : Pool
  pub written : List Written

-- a node: its home, its epoch and view, and a table for each partition that it owns
pub record NodeState : Type 0 where
  pub home : HomeState
  pub epoch : ℕ
  pub view : Option View
  pub tables : List (Option LockTable)

-- the number of a node
abbrev pub number_of : NodeState → ℕ
number_of n = n.home.txs.node

-- the partition of a page
abbrev pub partition : Sizes → ℕ → ℕ
partition c p = p % c.nodes

-- a home where nothing was begun
abbrev pub open_home : Sizes → ℕ → ℕ → HomeState
open_home c me born =
    record {
      config = c;
      txs = record { node = me; born = born; last = 0; txs = [] };
      shelf = [];
      pool = open_pool c.frames c.size;
      written = [];
    }

-- a node in no view, at an epoch
unfoldable pub start_node : Sizes → ℕ → ℕ → NodeState
start_node c me epoch =
    record { home = open_home c me epoch; epoch = epoch; view = None; tables = replicate c.nodes None }

-- a node at view 1, which serves the partition of its own number
unfoldable pub first_node : Sizes → ℕ → NodeState
first_node c me =
    record {
      home = open_home c me 1;
      epoch = 1;
      view = Some (first c);
      tables = slice_set (replicate c.nodes None) me (Some (open_table c me true));
    }

-- the own table of a partition, and of a page's partition
abbrev pub table_at : NodeState → ℕ → Option LockTable
table_at n q = slice_index_or n.tables q None

-- the own table of a page's partition
abbrev pub table_of : NodeState → ℕ → Option LockTable
table_of n p = table_at n (partition n.home.config p)

-- another table of a partition
abbrev pub put_table : NodeState → ℕ → Option LockTable → NodeState
put_table n q t = record n { tables = slice_set n.tables q t }

-- whether a table is there and is served
abbrev pub is_serving : Option LockTable → Bool
is_serving None = false
is_serving (Some t) = t.serving

-- the owner of a page in a view
abbrev pub owner_in : Option View → ℕ → ℕ
owner_in None q = 0
owner_in (Some v) q = owner_of v q

-- the owner of a page in the node's view
abbrev pub page_owner : NodeState → ℕ → ℕ
page_owner n p = owner_in n.view (partition n.home.config p)

-- the runs with a further one put in; runs that touch are one
unfoldable pub cover : List Run → ℕ → ℕ → List Run
cover [] from to = record { from = from; to = to } ∷ []
cover (r ∷ rs) from to =
    pick (nat_lt r.to from) (r ∷ cover rs from to)
    (pick (nat_lt to r.from) (record { from = from; to = to } ∷ r ∷ rs)
    (cover rs (min r.from from) (max r.to to)))

-- the places that a transaction wrote in a page
unfoldable pub runs_at : List Written → TxId → ℕ → List Run
runs_at [] t p = []
runs_at (w ∷ ws) t p = pick (same_tx w.tx t && w.page == p) w.runs (runs_at ws t p)

-- other runs of a transaction and a page
unfoldable pub put_runs : List Written → TxId → ℕ → List Run → List Written
put_runs [] t p rs = record { tx = t; page = p; runs = rs } ∷ []
put_runs (w ∷ ws) t p rs =
    pick (same_tx w.tx t && w.page == p) (record { tx = t; page = p; runs = rs } ∷ ws) (w ∷ put_runs ws t p rs)

-- what a node is asked to do in one step
pub data NodeEvent : Type 0 where
  Begin : NodeEvent
  Read : TxId → ℕ → NodeEvent
  Write : TxId → ℕ → ℕ → List ℕ → NodeEvent
  Commit : TxId → NodeEvent
  Abort : TxId → NodeEvent
  Deliver : ℕ → Message → NodeEvent
  Evict : ℕ → NodeEvent
  Flush : ℕ → NodeEvent
  Install : View → NodeEvent
  Cut : NodeEvent

-- a message that a step sends
pub record Outgoing : Type 0 where
  pub to : ℕ
  pub message : Message
