-- What holds of every node.
use Rattle.std.specs.Prelude.{◌≡◌, ℕ, ◌<◌, ◌≤◌, ◌==◌, Bool, true, false, [], length, Option, Some, None, is_some, IfSome}
use Rattle.run_rules.specs.Views.{View, owner_of}
use Rattle.node_rules.specs.NodeState.{HomeState, NodeState, number_of, table_at}
use Rattle.node_parts.specs.Tables.{TablesView, lock_tables, AreTidyBut}

-- the parts of a node: its number, its home, its epoch and view, and its tables with the entries that
-- were made
pub record PartsView : Type 0 where
  pub me : ℕ
  pub home : HomeState
  pub epoch : ℕ
  pub view : Option View
  pub tables : TablesView

-- the node of the rules
abbrev pub node_of : PartsView → NodeState
node_of v =
    record { home = v.home; epoch = v.epoch; view = v.view; tables = lock_tables v.tables.places }

-- whether a node owns a partition in the view that it has, if it has one
abbrev pub owns : Option View → ℕ → ℕ → Bool
owns None me q = false
owns (Some v) me q = owner_of v q == me

-- a view of so many nodes, of an epoch
pub record IsViewAt (nodes epoch : ℕ) (v : View) : Type 0 where
  pub each : length v.live ≡ nodes
  pub now : v.epoch ≡ epoch

-- what holds of every node: its number is one of its configuration's, its view has all nodes and the
-- epoch of the node, which was born then, there is a place for each partition, and a table stands where
-- the node owns it
pub record IsNode (n : NodeState) : Type 0 where
  pub number : number_of n < n.home.config.nodes
  pub view : IfSome n.view (IsViewAt n.home.config.nodes n.epoch)
  pub born : is_some n.view ≡ true → 1 ≤ n.home.txs.born
  pub places : length n.tables ≡ n.home.config.nodes
  pub owned : (q : ℕ) → q < n.home.config.nodes → is_some (table_at n q) ≡ owns n.view (number_of n) q

-- the parts make a node of that number, its tables are of its configuration, and each entry in them
-- is in use
pub record AreParts (v : PartsView) : Type 0 where
  pub node : IsNode (node_of v)
  pub number : v.me ≡ number_of (node_of v)
  pub config : v.tables.config ≡ v.home.config
  pub tidy : AreTidyBut [] v.tables
