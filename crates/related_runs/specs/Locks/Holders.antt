-- Changes by which nobody comes to hold a page.
use Rattle.std.specs.Prelude.{◌≡◌, ◌≢◌, ℕ, [], None}
use Rattle.pcl_base.specs.declared.lock.Kind.{Kind}
use Rattle.pcl_base.specs.declared.tx.TxId.{TxId}
use Rattle.home_laws.specs.Homes.{IsHome}
use Rattle.node_rules.specs.AccessRule.{spend_right}
use Rattle.node_rules.specs.InstallRule.{take_over, give_up}
use Rattle.node_rules.specs.NodeState.{HomeState, NodeState}
use Rattle.node_rules.specs.OpenTxs.{OpenTxs, held_by}
use Rattle.page_relation.specs.Work.Unseen.{SameUse}

-- no transaction holds page p that didn't hold it before
abbrev pub HoldsNoMore : ℕ → OpenTxs → OpenTxs → Type 0
HoldsNoMore p before after = (t : TxId) → held_by after t p ≢ None → held_by before t p ≢ None

-- Nothing was changed, or twice; nobody is open; each has the same of the page; and what an install does with the locks
-- of a partition, and a revocation with those under a right.
pub record HoldersStay (p : ℕ) : Type 0 where
  pub self : (s : OpenTxs) → HoldsNoMore p s s
  pub then : (r s x : OpenTxs) → HoldsNoMore p r s → HoldsNoMore p s x → HoldsNoMore p r x
  pub idle : (s x : OpenTxs) → x.txs ≡ [] → HoldsNoMore p s x
  pub same : (h g : HomeState) → SameUse p h g → HoldsNoMore p h.txs g.txs
  pub taken : (q : ℕ) (h : HomeState) → HoldsNoMore p h.txs (take_over q h).txs
  pub given : (q : ℕ) (n : NodeState) → HoldsNoMore p n.home.txs (give_up q n).home.txs
  pub spent : (k : Kind) (q : ℕ) (h : HomeState) → IsHome h → HoldsNoMore p h.txs (spend_right k q h).txs

abbrev pub NobodyComesToHold : Type 0
NobodyComesToHold = (p : ℕ) → HoldersStay p
