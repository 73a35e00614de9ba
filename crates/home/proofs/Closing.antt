-- What a home is once a transaction is closed, and how many accesses wait then.
use Rattle.std.proofs.Common.{◌≡◌, ℕ, ◌+◌, ◌≤◌, ◌==◌, not, cond, Bool, true, false, List, [], ◌∷◌, ap, sym, subst, ◌∙◌, arith}
use Rattle.std.specs.List.{filter}
use Rattle.pcl_base.specs.declared.tx.TxId.{TxId}
use Rattle.node_rules.specs.OpenTxs.{OpenTx, OpenTxs, close_tx, locks_of}
use Rattle.node_rules.specs.BufferRule.{Pool}
use Rattle.node_rules.specs.NodeState.{HomeState}
use Rattle.node_rules.specs.EndRule.{closed, discard_all, pages_at_end}
use Rattle.tx_table.specs.Counts.{waits_in, wait_count}
use Rattle.home_laws.specs.Homes.{IsHome, AreOnce}
use Rattle.home_laws.specs.EndNeeds.{MayUnpin}
use Rattle.home_laws.proofs.Opens.{locks_once}
use Rattle.home.specs.Ends.{left}

waits_fewer : (test : OpenTx → Bool) (xs : List OpenTx) → wait_count (filter test xs) ≤ wait_count xs
waits_fewer test [] = omega arith
waits_fewer test (x ∷ xs) = by_test (test x) (waits_fewer test xs)
  where
    by_test : (b : Bool) → wait_count (filter test xs) ≤ wait_count xs → wait_count (cond b (x ∷ filter test xs) (filter test xs)) ≤ waits_in x + wait_count xs
    by_test true rest = omega (arith, rest)
    by_test false rest = omega (arith, rest)

-- no more accesses wait once a transaction is closed, and the node is the same
pub closed_waits : (s new : OpenTxs) (t : TxId) → new ≡ close_tx s t → wait_count new.txs ≤ wait_count s.txs
unfolding close_tx
closed_waits s new t closed =
    let same = ap (λ (r : OpenTxs). wait_count r.txs) closed in
    let fewer = waits_fewer (λ x. not (x.serial == t.serial)) s.txs in
    omega (arith, same, fewer)

pub closed_node : (s new : OpenTxs) (t : TxId) → new ≡ close_tx s t → new.node ≡ s.node
unfolding close_tx
closed_node s new t closed = ap (λ (r : OpenTxs). r.node) closed

-- a transaction has a lock on a page once
pub once_in : (h g : HomeState) (t : TxId) → g ≡ h → IsHome h → AreOnce (locks_of g.txs t)
once_in h g t same is = subst (λ (k : HomeState). AreOnce (locks_of k.txs t)) (sym same) (locks_once h.txs t is.txs.once)

-- pages may be unpinned whatever private copies there are
pub unpin_beside : (ps qs : List ℕ) (t : TxId) (a b : Pool) → qs ≡ ps → b ≡ discard_all a t → MayUnpin ps a → MayUnpin qs b
unpin_beside ps qs t a b pages pool may =
    subst (λ l. MayUnpin l b) (sym pages)
    (subst (MayUnpin ps) (sym pool) (record { one_slot = may.one_slot; pins = may.pins }))

-- a home without the private copies of a transaction, and then without the transaction
pub left_closed : (h g : HomeState) (t : TxId) (b : Pool) (ps : List ℕ) → g ≡ record h { pool = b } → b ≡ discard_all h.pool t → ps ≡ pages_at_end h t
    → left g t ps ≡ closed h t h.pool
unfolding closed
left_closed h g t b ps home pool pages =
    ap (λ (k : HomeState). left k t ps) home
    ∙ ((λ i. left (record h { pool = pool i }) t (pages i)))
