-- How much one step of a node gives at most: replies, sends, and items in the lists of its sends.
use Rattle.std.specs.Prelude.{◌≡◌, ℕ, ◌+◌, ◌*◌, ◌<◌, ◌≤◌, ⊤, false, List, [], ◌∷◌, length, Option, Some, None}
use Rattle.std.specs.List.{All}
use Rattle.pcl_base.specs.declared.lock.Pending.{Pending}
use Rattle.pcl_base.specs.declared.tx.TxId.{TxId}
use Rattle.pcl_base.specs.declared.message.Body.{Body}
use Rattle.pcl_base.specs.declared.message.Body.TheVariants as body
use Rattle.run_rules.specs.Disk.{Disk}
use Rattle.node_rules.specs.Words.{among}
use Rattle.node_rules.specs.LockTable.{LockTable}
use Rattle.node_rules.specs.OpenTxs.{locks_of}
use Rattle.node_rules.specs.Shelf.{Right}
use Rattle.node_rules.specs.NodeState.{NodeState, NodeEvent, Deliver, Outgoing}
use Rattle.node_rules.specs.Work.{Goes}
use Rattle.node_rules.specs.NodeStep.{Plan, nodestep}

-- the sum of a number of each item
abbrev pub sum_of : {X : Type 0} → (X → ℕ) → List X → ℕ
sum_of f [] = 0
sum_of f (x ∷ xs) = f x + sum_of f xs

-- those that wait in a table
abbrev pub waiting_in : Option LockTable → ℕ
waiting_in None = 0
waiting_in (Some t) = sum_of (λ x. length x.entry.waiting) t.entries

-- the rights in a table
abbrev pub rights_in : Option LockTable → ℕ
rights_in None = 0
rights_in (Some t) = sum_of (λ x. length x.entry.rights) t.entries

-- 1 for an access that waits
abbrev pub one_access : Option Pending → ℕ
one_access None = 0
one_access (Some w) = 1

-- the accesses of a node's transactions that wait
abbrev pub accesses : NodeState → ℕ
accesses n = sum_of (λ x. one_access x.waiting) n.home.txs.txs

-- all that wait at a node: in its tables, and as accesses of its transactions
abbrev pub waiting : NodeState → ℕ
waiting n = sum_of waiting_in n.tables + accesses n

-- the rights in the tables of a node, and those on its shelf
abbrev pub rights : NodeState → ℕ
rights n = sum_of rights_in n.tables + length n.home.shelf

-- the locks that the transactions of a node hold
abbrev pub locks : NodeState → ℕ
locks n = sum_of (λ x. length x.pages) n.home.txs.txs

-- the items in the lists of a message
abbrev pub items_in : Body → ℕ
items_in (body.Report r) = length r.waits + length r.locks + length r.rights
items_in (body.Return r) = length r.readers
items_in _ = 0

-- the items that an event brings
abbrev pub brought : NodeEvent → ℕ
brought (Deliver from m) = items_in m.body
brought _ = 0

-- how much a step gives at most
abbrev pub most : NodeState → NodeEvent → ℕ
most n event = 2 * n.home.config.nodes + 2 + waiting n + rights n + locks n + brought event

-- the items in all lists of what is sent
abbrev pub items_sent : List Outgoing → ℕ
items_sent sends = sum_of (λ s. items_in s.message.body) sends

-- a step answers at most so much
abbrev pub RepliesAtMost : Type 0
RepliesAtMost =
    (n : NodeState) (event : NodeEvent) (d : Disk) (p : Plan) → nodestep n event d ≡ Goes p → length p.replies ≤ most n event

-- it sends at most so much
abbrev pub SendsAtMost : Type 0
SendsAtMost =
    (n : NodeState) (event : NodeEvent) (d : Disk) (p : Plan) → nodestep n event d ≡ Goes p → length p.sends ≤ most n event

-- no right on the shelf has more readers than there are locks
abbrev pub HasFewReaders : NodeState → Type 0
HasFewReaders n = All (λ r. length r.readers ≤ locks n) n.home.shelf

-- and so much in all lists of what it sends, where no right has more readers than there are locks
abbrev pub ItemsAtMost : Type 0
ItemsAtMost =
    (n : NodeState) (event : NodeEvent) (d : Disk) (p : Plan) → HasFewReaders n → nodestep n event d ≡ Goes p
    → items_sent p.sends ≤ most n event

-- the same with one for each node, and not two, and with one more, and not two
abbrev pub most_together : NodeState → NodeEvent → ℕ
most_together n event = n.home.config.nodes + 1 + waiting n + rights n + locks n + brought event

-- what it answers and what it sends are together at most that
abbrev pub TogetherAtMost : Type 0
TogetherAtMost =
    (n : NodeState) (event : NodeEvent) (d : Disk) (p : Plan) → 1 ≤ n.home.config.nodes → nodestep n event d ≡ Goes p
    → length p.replies + length p.sends ≤ most_together n event

-- one of two nodes can give as much
abbrev pub TogetherIsReached : Type 0
TogetherIsReached =
    (n : NodeState) × (event : NodeEvent) × (d : Disk) × (p : Plan) × (n.home.config.nodes ≡ 2) × (nodestep n event d ≡ Goes p)
    × (length p.replies + length p.sends ≡ most_together n event)

-- what it sends lists at most what its home has: the accesses that wait, the locks, and the rights
abbrev pub ListedAtMost : Type 0
ListedAtMost =
    (n : NodeState) (event : NodeEvent) (d : Disk) (p : Plan) → HasFewReaders n → nodestep n event d ≡ Goes p
    → items_sent p.sends ≤ accesses n + locks n + length n.home.shelf

-- a node where a right has more readers can send longer lists
abbrev pub ReadersAreNeeded : Type 0
ReadersAreNeeded =
    (n : NodeState) × (event : NodeEvent) × (d : Disk) × (p : Plan) × (nodestep n event d ≡ Goes p) × (most n event < items_sent p.sends)

-- no transaction stands twice in a list
abbrev pub AreApart : List TxId → Type 0
AreApart [] = ⊤
AreApart (t ∷ ts) = (among ts t ≡ false) × AreApart ts

-- the readers of a right are different transactions, and each holds a lock
pub record AreReaders (n : NodeState) (r : Right) : Type 0 where
  pub apart : AreApart r.readers
  pub hold : All (λ t. 1 ≤ length (locks_of n.home.txs t)) r.readers

-- there are few readers where each right's are different transactions that hold a lock
abbrev pub ReadersAreFew : Type 0
ReadersAreFew = (n : NodeState) → All (AreReaders n) n.home.shelf → HasFewReaders n
