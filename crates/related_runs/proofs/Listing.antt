-- What a node lists of its transactions is of its own life.
use Rattle.std.proofs.Common.{ℕ, ◌==◌, ◌&&◌, Bool, true, false, List, [], ◌∷◌, Option, Some, None}
use Rattle.std.specs.List.{AllByRecursion}
use Rattle.pcl_base.specs.Limits.{Sizes}
use Rattle.pcl_base.specs.declared.lock.Held.{Held}
use Rattle.pcl_base.specs.declared.lock.Pending.{Pending}
use Rattle.pcl_base.specs.declared.message.ReportLock.{ReportLock}
use Rattle.pcl_base.specs.declared.message.ReportWait.{ReportWait}
use Rattle.pcl_base.specs.declared.tx.TxId.{TxId}
use Rattle.node_rules.specs.Words.{pick}
use Rattle.node_rules.specs.BufferRule.{Pool, find}
use Rattle.node_rules.specs.NodeState.{partition}
use Rattle.node_rules.specs.OpenTxs.{OpenTx, OpenTxs, name_of}
use Rattle.node_rules.specs.Reports.{is_listed, locks_in, all_locks, wait_in, all_waits}
use Rattle.node_laws.proofs.Lists.{all_append}

module _ (P : TxId → Type 0) (c : Sizes) (q : ℕ) where
  locks_one : (all : Bool) (t : TxId) (hs : List Held) → P t → AllByRecursion (λ (x : ReportLock). P x.tx) (locks_in c q all t hs)
  unfolding locks_in
  locks_one all t [] is = tt
  locks_one all t (l ∷ hs) is = by (partition c l.page == q && is_listed all l.kind) (locks_one all t hs is)
    where
      by : (b : Bool) → AllByRecursion (λ (x : ReportLock). P x.tx) (locks_in c q all t hs)
          → AllByRecursion (λ (x : ReportLock). P x.tx) (pick b (record { tx = t; page = l.page; mode = l.mode } ∷ locks_in c q all t hs) (locks_in c q all t hs))
      by true rest = (is, rest)
      by false rest = rest

  pub locks_listed : (all : Bool) (s : OpenTxs) (xs : List OpenTx) → ((k : ℕ) → P (name_of s k)) → AllByRecursion (λ (x : ReportLock). P x.tx) (all_locks c q all s xs)
  unfolding all_locks
  locks_listed all s [] is = tt
  locks_listed all s (x ∷ xs) is =
      all_append (λ (y : ReportLock). P y.tx) (locks_in c q all (name_of s x.serial) x.pages) (all_locks c q all s xs) (locks_one all (name_of s x.serial) x.pages (is x.serial))
      (locks_listed all s xs is)

  waits_one : (b : Pool) (t : TxId) (o : Option Pending) → P t → AllByRecursion (λ (x : ReportWait). P x.tx) (wait_in c q b t o)
  waits_one b t None is = tt
  waits_one b t (Some w) is = by (partition c w.page == q)
    where
      by : (x : Bool) → AllByRecursion (λ (y : ReportWait). P y.tx) (pick x (record { tx = t; page = w.page; mode = w.mode; have = find b w.page } ∷ []) [])
      by true = (is, tt)
      by false = tt

  pub waits_listed : (b : Pool) (s : OpenTxs) (xs : List OpenTx) → ((k : ℕ) → P (name_of s k)) → AllByRecursion (λ (x : ReportWait). P x.tx) (all_waits c q b s xs)
  unfolding all_waits
  waits_listed b s [] is = tt
  waits_listed b s (x ∷ xs) is =
      all_append (λ (y : ReportWait). P y.tx) (wait_in c q b (name_of s x.serial) x.waiting) (all_waits c q b s xs) (waits_one b (name_of s x.serial) x.waiting (is x.serial))
      (waits_listed b s xs is)
