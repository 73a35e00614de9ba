-- The places that transactions wrote, by transaction and page.
use Rattle.std.specs.Prelude.{ℕ, ◌≤◌, Bool, List, length, map}
use Rattle.smallvec.specs.SmallVec.{SmallVec}
use Rattle.pcl_base.specs.declared.tx.TxId.{TxId}
use Rattle.node_rules.specs.NodeState.{Run, Written}
use Rattle.home.specs.declared.written.Key.{Key}
use Rattle.home.specs.contracts.written.KeyPartialEq.TheImpl.{eq-value}

-- the written places, and for how many more pages there is room
pub record PlacesView : Type 0 where
  pub places : List Written
  pub spare : ℕ

-- the key of a transaction and a page, and the transaction of a key
abbrev pub key_of : TxId → ℕ → Key
key_of t p = record { node = t.node; born = t.born; serial = t.serial; page = p }

abbrev pub tx_of : Key → TxId
tx_of k = record { node = k.node; born = k.born; serial = k.serial }

-- whether two keys are the same, as the map compares them
abbrev pub same_key : Key → Key → Bool
same_key k l = (eq-value).it k l

-- what an entry says
abbrev pub row_of : Key × SmallVec Run → Written
row_of e = record { tx = tx_of e.0; page = e.0.page; runs = e.1.items }

abbrev pub rows_of : List (Key × SmallVec Run) → List Written
rows_of es = map row_of es

-- no page is listed without a run
abbrev pub HasRun : Key × SmallVec Run → Type 0
HasRun e = 1 ≤ length e.1.items
