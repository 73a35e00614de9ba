-- What a node takes over with a partition changes nothing in its own report.
use Rattle.std.proofs.Common.{◌≡◌, ℕ, ◌==◌, ◌&&◌, Bool, true, false, List, [], ◌∷◌, ◌++◌, map, refl}
use Rattle.pcl_base.specs.Limits.{Sizes}
use Rattle.pcl_base.specs.declared.tx.TxId.{TxId}
use Rattle.pcl_base.specs.declared.lock.Held.{Held}
use Rattle.pcl_base.specs.declared.lock.Kind.{Kind}
use Rattle.pcl_base.specs.declared.lock.Kind.TheVariants as kind
use Rattle.pcl_base.specs.declared.message.ReportLock.{ReportLock}
use Rattle.node_rules.specs.Words.{pick}
use Rattle.node_rules.specs.NodeState.{HomeState, partition}
use Rattle.node_rules.specs.OpenTxs.{OpenTx, OpenTxs, name_of}
use Rattle.node_rules.specs.BufferRule.{Pool}
use Rattle.node_rules.specs.InstallRule.{kinds_of_locks, take_over}
use Rattle.node_rules.specs.Reports.{is_listed, locks_in, wait_in, all_locks, all_waits, own_report}

-- a lock with another kind, if it is on a page of the partition
abbrev with_kind : Bool → Kind → Held → Held
with_kind b k h = pick b (record h { kind = k }) h

abbrev listed_as : TxId → Held → ReportLock
listed_as t h = record { tx = t; page = h.page; mode = h.mode }

-- a lock is listed alike under any kind
kind_case : (c : Sizes) (q : ℕ) (k : Kind) (t : TxId) (h : Held) (later rest : List ReportLock) (b : Bool) → later ≡ rest
    → pick (partition c (with_kind b k h).page == q && is_listed true (with_kind b k h).kind) (listed_as t (with_kind b k h) ∷ later) later
    ≡ pick (partition c h.page == q && is_listed true h.kind) (listed_as t h ∷ rest) rest
kind_case c q k t h later rest true same = λ i. pick (partition c h.page == q && true) (listed_as t h ∷ same i) (same i)
kind_case c q k t h later rest false same = λ i. pick (partition c h.page == q && true) (listed_as t h ∷ same i) (same i)

kinds_listed : (c : Sizes) (q : ℕ) (k : Kind) (t : TxId) (hs : List Held) → locks_in c q true t (kinds_of_locks c q k hs) ≡ locks_in c q true t hs
unfolding locks_in
kinds_listed c q k t [] = refl
kinds_listed c q k t (h ∷ hs) = kind_case c q k t h _ _ (partition c h.page == q) (kinds_listed c q k t hs)

-- the transactions with locks of another kind
abbrev with_kinds : Sizes → ℕ → Kind → List OpenTx → List OpenTx
with_kinds c q k xs = map (λ (x : OpenTx). record x { pages = kinds_of_locks c q k x.pages }) xs

locks_taken : (c : Sizes) (q : ℕ) (k : Kind) (s : OpenTxs) (ys xs : List OpenTx)
    → all_locks c q true (record s { txs = ys }) (with_kinds c q k xs) ≡ all_locks c q true s xs
unfolding all_locks
locks_taken c q k s ys [] = refl
locks_taken c q k s ys (x ∷ xs) = λ i. kinds_listed c q k (name_of s x.serial) x.pages i ++ locks_taken c q k s ys xs i

waits_taken : (c : Sizes) (q : ℕ) (k : Kind) (b : Pool) (s : OpenTxs) (ys xs : List OpenTx)
    → all_waits c q b (record s { txs = ys }) (with_kinds c q k xs) ≡ all_waits c q b s xs
unfolding all_waits
waits_taken c q k b s ys [] = refl
waits_taken c q k b s ys (x ∷ xs) = λ i. wait_in c q b (name_of s x.serial) x.waiting ++ waits_taken c q k b s ys xs i

-- the own report is the same before and after the node takes the partition over
pub own_taken : (q : ℕ) (h : HomeState) → own_report q (take_over q h) ≡ own_report q h
unfolding own_report
own_taken q h = λ i. record {
  partition = q;
  waits = waits_taken h.config q kind.Own h.pool h.txs (with_kinds h.config q kind.Own h.txs.txs) h.txs.txs i;
  locks = locks_taken h.config q kind.Own h.txs (with_kinds h.config q kind.Own h.txs.txs) h.txs.txs i;
  rights = [];
}
