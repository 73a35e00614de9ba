-- What holds of every node in a run: how its home, its view and its tables belong together; and what it
-- sends and writes.
use Rattle.std.specs.Prelude.{◌≡◌, ◌≢◌, ℕ, ◌+◌, ◌^◌, ◌<◌, ◌≤◌, true, List, [], ◌∷◌, length, map, None, is_some, IfSome, ⊤}
use Rattle.std.specs.List.{AllByRecursion}
use Rattle.pcl_base.specs.Limits.{Sizes, InLimits}
use Rattle.text_rules.specs.MessageBytes.{IsTx, IsPage, IsPageOf, IsMessage}
use Rattle.run_rules.specs.Disk.{Disk}
use Rattle.run_rules.specs.Views.{View, is_live, born_of}
use Rattle.rule_laws.specs.LaterViews.{IsWhole}
use Rattle.node_rules.specs.LockRule.{LockEntry}
use Rattle.node_rules.specs.LockTable.{LockTable, pages_of}
use Rattle.node_rules.specs.Shelf.{Right, right_on}
use Rattle.node_rules.specs.NodeState.{NodeState, NodeEvent, Deliver, Install, Outgoing, number_of, table_at}
use Rattle.node_rules.specs.DiskCalls.{DiskCall, WritePage}
use Rattle.node_rules.specs.InstallRule.{owned_before}
use Rattle.home_laws.specs.Homes.{IsHome}
use Rattle.step_laws.specs.Most.{AreApart}

-- another node
abbrev pub IsOther : Sizes → ℕ → ℕ → Type 0
IsOther c me n = (n < c.nodes) × (n ≢ me)

-- the rights on the shelf: each is of a page of the database, of which there is no other right, and its
-- readers are different transactions
abbrev pub AreRights : Sizes → List Right → Type 0
AreRights c [] = ⊤
AreRights c (r ∷ rs) = IsPage c r.page × AreApart r.readers × (right_on rs r.page ≡ None) × AreRights c rs

-- an entry of a node's table: who holds the page and who waits for it are transactions that may be, and
-- a right is one of another node
pub record IsEntry (c : Sizes) (me : ℕ) (e : LockEntry) : Type 0 where
  pub holders : AllByRecursion (λ h. IsTx c h.tx) e.holders
  pub rights : AllByRecursion (λ r. IsOther c me r.node) e.rights
  pub waiting : AllByRecursion (λ w. IsTx c w.tx) e.waiting

-- a table of a partition at a node: an entry for each page of the partition, and a flag for each node
pub record IsTable (c : Sizes) (me q : ℕ) (t : LockTable) : Type 0 where
  pub pages : map (λ x. x.page) t.entries ≡ pages_of c q
  pub entries : AllByRecursion (λ x. IsPageOf c q x.page × IsEntry c me x.entry) t.entries
  pub reported : length t.reported ≡ c.nodes

-- the view of a node, in which the node is live and was born when its transactions say
pub record IsViewOf (n : NodeState) (v : View) : Type 0 where
  pub whole : IsWhole n.home.config v
  pub epoch : v.epoch ≡ n.epoch
  pub live : is_live v.live (number_of n) ≡ true
  pub born : born_of v (number_of n) ≡ n.home.txs.born

-- what holds of every node
pub record IsSound (n : NodeState) : Type 0 where
  pub limits : InLimits n.home.config
  pub home : IsHome n.home
  pub rights : AreRights n.home.config n.home.shelf
  pub born : 1 ≤ n.home.txs.born
  pub epoch : (1 ≤ n.epoch) × (n.epoch < 2 ^ 32)
  pub view : IfSome n.view (IsViewOf n)
  -- a node that is in no view has no open transaction
  pub idle : n.view ≡ None → length n.home.txs.txs ≡ 0
  -- there is a place for each partition, and a table where the node owns it in its view
  pub places : length n.tables ≡ n.home.config.nodes
  pub owned : (q : ℕ) → q < n.home.config.nodes → is_some (table_at n q) ≡ owned_before n.view q (number_of n)
  pub tables : (q : ℕ) → q < n.home.config.nodes → IfSome (table_at n q) (IsTable n.home.config (number_of n) q)

-- what an event needs: a message of the grammar from another node, and a view of this cluster in which
-- the node is live
abbrev pub CanCome : NodeState → NodeEvent → Type 0
CanCome n (Deliver from m) = IsOther n.home.config (number_of n) from × IsMessage n.home.config m
CanCome n (Install v) = IsWhole n.home.config v × (is_live v.live (number_of n) ≡ true) × (v.epoch < 2 ^ 32)
CanCome n _ = ⊤

-- a disk with its pages, and a log for each node
pub record DiskFits (c : Sizes) (d : Disk) : Type 0 where
  pub pages : (length d.pages ≡ c.pages) × AllByRecursion (λ bytes. length bytes ≡ c.size + 16) d.pages
  pub logs : length d.logs ≡ c.nodes

-- a message of the grammar to another node
abbrev pub IsSend : Sizes → ℕ → Outgoing → Type 0
IsSend c me o = IsOther c me o.to × IsMessage c o.message

-- a page that is written is one of the database, and has its size
abbrev pub IsCall : Sizes → DiskCall → Type 0
IsCall c (WritePage p bytes) = IsPage c p × (length bytes ≡ c.size + 16)
IsCall c _ = ⊤
