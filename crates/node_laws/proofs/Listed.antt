-- What a report lists.
use Rattle.std.proofs.Common.{◌≡◌, refl, ℕ, suc, ◌%◌, ◌<◌, ◌≤◌, ◌==◌, ◌&&◌, cond, Bool, true, false, List, [], ◌∷◌, length, length-append, map, Option, Some, None, arith}
use Rattle.std.specs.Prelude.{IfSome}
use Rattle.std.specs.List.{AllByRecursion}
use Rattle.std.proofs.lemmas.Bool.Decides.{nat_tests}
use Rattle.pcl_base.specs.Limits.{Sizes, InLimits}
use Rattle.pcl_base.specs.declared.tx.TxId.{TxId}
use Rattle.pcl_base.specs.declared.lock.Held.{Held}
use Rattle.pcl_base.specs.declared.lock.Pending.{Pending}
use Rattle.pcl_base.specs.declared.message.Body.TheVariants as body
use Rattle.pcl_base.specs.declared.message.ReportRight.{ReportRight}
use Rattle.pcl_base.specs.declared.message.ReportWait.{ReportWait}
use Rattle.text_rules.specs.MessageBytes.{IsTx, IsPage, IsBody}
use Rattle.node_rules.specs.Words.{pick}
use Rattle.node_rules.specs.BufferRule.{Pool, find}
use Rattle.node_rules.specs.OpenTxs.{OpenTx, OpenTxs, name_of}
use Rattle.node_rules.specs.Shelf.{Right}
use Rattle.node_rules.specs.NodeState.{HomeState, partition}
use Rattle.node_rules.specs.Reports.{is_listed, locks_in, all_locks, wait_in, all_waits, rights_in, all_rights, report, own_report}
use Rattle.home_laws.specs.Homes.{IsHome}
use Rattle.step_laws.specs.Most.{sum_of}
use Rattle.node_laws.specs.Nodes.{AreRights}
use Rattle.node_laws.proofs.Lists.{all_append}
use Rattle.node_laws.proofs.Tables.{IsWait, IsLock, IsListed}
use Rattle.node_laws.proofs.Transactions.{IsOpenTx, open_are}
use Rattle.node_laws.proofs.Short.{rights_few, all_locks_few as home_locks_few}

module _ (c : Sizes) (me q : ℕ) where
  locks_in_are : (all : Bool) (t : TxId) (hs : List Held) → IsTx c t → AllByRecursion (λ l. IsPage c l.page) hs → AllByRecursion (IsLock c me q) (locks_in c q all t hs)
  unfolding locks_in
  locks_in_are all t [] tx below = tt
  locks_in_are all t (l ∷ hs) tx below = by (partition c l.page == q) refl (is_listed all l.kind) (locks_in_are all t hs tx below.1)
    where
      by : (x : Bool) → (partition c l.page == q) ≡ x → (y : Bool) → AllByRecursion (IsLock c me q) (locks_in c q all t hs)
          → AllByRecursion (IsLock c me q) (pick (x && y) (record { tx = t; page = l.page; mode = l.mode } ∷ locks_in c q all t hs) (locks_in c q all t hs))
      by true e true rest = let same : l.page % c.nodes ≡ q = grind (arith, nat_tests, e) in ((tx, (below.0, same)), rest)
      by true e false rest = rest
      by false e y rest = rest

  locks_in_few : (all : Bool) (t : TxId) (hs : List Held) → length (locks_in c q all t hs) ≤ length hs
  unfolding locks_in
  locks_in_few all t [] = omega arith
  locks_in_few all t (l ∷ hs) = by (partition c l.page == q && is_listed all l.kind) (locks_in_few all t hs)
    where
      by : (x : Bool) → length (locks_in c q all t hs) ≤ length hs
          → length (pick x (record { tx = t; page = l.page; mode = l.mode } ∷ locks_in c q all t hs) (locks_in c q all t hs)) ≤ suc (length hs)
      by true rest = omega (arith, rest)
      by false rest = omega (arith, rest)

  all_locks_few : (all : Bool) (s : OpenTxs) (xs : List OpenTx) → length (all_locks c q all s xs) ≤ sum_of (λ x. length x.pages) xs
  unfolding all_locks
  all_locks_few all s [] = omega arith
  all_locks_few all s (x ∷ xs) =
      let here = locks_in_few all (name_of s x.serial) x.pages in
      let rest = all_locks_few all s xs in
      let both = length-append (locks_in c q all (name_of s x.serial) x.pages) (all_locks c q all s xs) in
      omega (arith, here, rest, both)

  wait_in_is : (b : Pool) (t : TxId) (o : Option Pending) → IsTx c t → IfSome o (λ w. IsPage c w.page) → AllByRecursion (IsWait c me q) (wait_in c q b t o)
  wait_in_is b t None tx below = tt
  wait_in_is b t (Some w) tx below = by (partition c w.page == q) refl
    where
      by : (x : Bool) → (partition c w.page == q) ≡ x → AllByRecursion (IsWait c me q) (pick x (record { tx = t; page = w.page; mode = w.mode; have = find b w.page } ∷ []) [])
      by true e = let same : w.page % c.nodes ≡ q = grind (arith, nat_tests, e) in ((tx, (below, same)), tt)
      by false e = tt

  wait_in_few : (b : Pool) (t : TxId) (o : Option Pending) → length (wait_in c q b t o) ≤ 1
  wait_in_few b t None = omega arith
  wait_in_few b t (Some w) = by (partition c w.page == q)
    where
      by : (x : Bool) → length {A = ReportWait} (pick x (record { tx = t; page = w.page; mode = w.mode; have = find b w.page } ∷ []) []) ≤ 1
      by true = omega arith
      by false = omega arith

  all_waits_few : (b : Pool) (s : OpenTxs) (xs : List OpenTx) → length (all_waits c q b s xs) ≤ length xs
  unfolding all_waits
  all_waits_few b s [] = omega arith
  all_waits_few b s (x ∷ xs) =
      let here = wait_in_few b (name_of s x.serial) x.waiting in
      let rest = all_waits_few b s xs in
      let both = length-append (wait_in c q b (name_of s x.serial) x.waiting) (all_waits c q b s xs) in
      omega (arith, here, rest, both)

  rights_are : (rs : List Right) → AreRights c rs → AllByRecursion (IsListed c me q) (all_rights c q rs)
  rights_are [] are = tt
  rights_are (r ∷ rs) are = by (partition c r.page == q) refl (rights_are rs are.3)
    where
      by : (x : Bool) → (partition c r.page == q) ≡ x → AllByRecursion (IsListed c me q) (all_rights c q rs)
          → AllByRecursion (IsListed c me q) (map (λ r. record { page = r.page; version = r.version }) (cond x (r ∷ rights_in c q rs) (rights_in c q rs)))
      by true e rest = let same : r.page % c.nodes ≡ q = grind (arith, nat_tests, e) in ((are.0, same), rest)
      by false e rest = rest

  all_rights_few : (rs : List Right) → length (all_rights c q rs) ≤ length rs
  all_rights_few [] = omega arith
  all_rights_few (r ∷ rs) = by (partition c r.page == q) (all_rights_few rs)
    where
      by : (x : Bool) → length (all_rights c q rs) ≤ length rs → length {A = ReportRight} (map (λ r. record { page = r.page; version = r.version }) (cond x (r ∷ rights_in c q rs) (rights_in c q rs))) ≤ suc (length rs)
      by true rest = omega (arith, rest)
      by false rest = omega (arith, rest)

module _ (h : HomeState) (me q : ℕ) (is : IsHome h) where
  locks_are : (all : Bool) (xs : List OpenTx) → AllByRecursion (IsOpenTx h) xs → AllByRecursion (IsLock h.config me q) (all_locks h.config q all h.txs xs)
  unfolding all_locks
  locks_are all [] each = tt
  locks_are all (x ∷ xs) each =
      all_append (IsLock h.config me q) (locks_in h.config q all (name_of h.txs x.serial) x.pages) (all_locks h.config q all h.txs xs)
      (locks_in_are h.config me q all (name_of h.txs x.serial) x.pages each.0.name each.0.pages) (locks_are all xs each.1)

  waits_are : (xs : List OpenTx) → AllByRecursion (IsOpenTx h) xs → AllByRecursion (IsWait h.config me q) (all_waits h.config q h.pool h.txs xs)
  unfolding all_waits
  waits_are [] each = tt
  waits_are (x ∷ xs) each =
      all_append (IsWait h.config me q) (wait_in h.config q h.pool (name_of h.txs x.serial) x.waiting) (all_waits h.config q h.pool h.txs xs)
      (wait_in_is h.config me q h.pool (name_of h.txs x.serial) x.waiting each.0.name each.0.waits) (waits_are xs each.1)

  -- the node's own report
  pub own_locks : AllByRecursion (IsLock h.config me q) (own_report q h).locks
  unfolding own_report
  own_locks = locks_are true h.txs.txs (open_are h is)

  pub own_waits : AllByRecursion (IsWait h.config me q) (own_report q h).waits
  unfolding own_report
  own_waits = waits_are h.txs.txs (open_are h is)

  pub own_rights : (own_report q h).rights ≡ []
  unfolding own_report
  own_rights = refl

  -- a report to another node
  pub report_is : InLimits h.config → AreRights h.config h.shelf → q < h.config.nodes → IsBody h.config (body.Report (report q h))
  unfolding report
  report_is limits rights low =
      let few_waits = all_waits_few h.config me q h.pool h.txs h.txs.txs in
      let few_txs = is.txs.few in
      let few_locks = all_locks_few h.config me q false h.txs h.txs.txs in
      let few_held = home_locks_few h limits is in
      let few_rights = all_rights_few h.config me q h.shelf in
      let few_shelf = rights_few h.config h.shelf rights in
      let most = limits.most_pages in (
        low,
        omega (arith, few_waits, few_txs),
        waits_are h.txs.txs (open_are h is),
        omega (arith, few_locks, few_held),
        locks_are false h.txs.txs (open_are h is),
        omega (arith, few_rights, few_shelf, most),
        rights_are h.config me q h.shelf rights,
      )
