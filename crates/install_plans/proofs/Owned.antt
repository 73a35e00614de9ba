-- What a node reports of its own partition is of that partition.
use Rattle.std.proofs.Common.{◌≡◌, ℕ, ◌<◌, ◌≤◌, ◌%◌, ◌==◌, ◌&&◌, Bool, true, false, Option, Some, None, is_some, List, [], ◌∷◌, refl, ap, sym, ◌∙◌, subst, arith}
use Rattle.std.proofs.lemmas.Bool.Decides.{nat_tests}
use Rattle.std.proofs.lemmas.List.Elements.{All-from_recursion}
use Rattle.std.specs.List.{AllByRecursion}
use Rattle.std.specs.Option.{IfSome}
use Rattle.pcl_base.specs.Limits.{Sizes}
use Rattle.pcl_base.specs.declared.tx.TxId.{TxId}
use Rattle.pcl_base.specs.declared.lock.Held.{Held}
use Rattle.pcl_base.specs.declared.lock.Pending.{Pending}
use Rattle.pcl_base.specs.declared.message.ReportLock.{ReportLock}
use Rattle.pcl_base.specs.declared.message.ReportWait.{ReportWait}
use Rattle.node_rules.specs.Words.{pick}
use Rattle.node_rules.specs.NodeState.{HomeState, partition}
use Rattle.node_rules.specs.OpenTxs.{OpenTx, OpenTxs, name_of, open_at, pages_of_open, waiting_of_open, lock_on, held_by, pending_of}
use Rattle.node_rules.specs.BufferRule.{Pool, find}
use Rattle.node_rules.specs.Reports.{is_listed, locks_in, wait_in, all_locks, all_waits, own_report}
use Rattle.home_laws.specs.Homes.{IsHome, IsAccess, AreSerials}
use Rattle.tx_table.specs.Links.{AllAt, IsRising}
use Rattle.tx_table.proofs.Numbers.{names_find}
use Rattle.lock_table.specs.Tables.{TableView, IsPageOf}
use Rattle.rebuild.specs.Parts.{IsReportOf}
use Rattle.install_laws.proofs.Redoing.{all_append}

both_true : (a b : Bool) → (a && b) ≡ true → a ≡ true
both_true true b is = refl
both_true false b is = absurd (cc)

serials_low : (low last : ℕ) (xs : List OpenTx) → AreSerials low last xs → low ≤ last
serials_low low last [] serials = serials
serials_low low last (x ∷ xs) serials =
    let first = serials.0 in
    let rest = serials_low x.serial last xs serials.1 in
    omega (arith, first, rest)

rising_serials : (low last : ℕ) (xs : List OpenTx) → AreSerials low last xs → IsRising low last xs
rising_serials low last [] serials = tt
rising_serials low last (x ∷ xs) serials = (serials.0, serials_low x.serial last xs serials.1, rising_serials x.serial last xs serials.1)

-- a lock is found at its page
lock_more : (h : Held) (hs ks : List Held) → AllByRecursion (λ (k : Held). is_some (lock_on hs k.page) ≡ true) ks → AllByRecursion (λ (k : Held). is_some (lock_on (h ∷ hs) k.page) ≡ true) ks
unfolding lock_on
lock_more h hs [] all = tt
lock_more h hs (k ∷ ks) all = (by (h.page == k.page), lock_more h hs ks all.1)
  where
    by : (b : Bool) → is_some (pick b (Some h) (lock_on hs k.page)) ≡ true
    by true = refl
    by false = all.0

lock_self : (hs : List Held) → AllByRecursion (λ (h : Held). is_some (lock_on hs h.page) ≡ true) hs
unfolding lock_on
lock_self [] = tt
lock_self (h ∷ hs) = (ap (λ b. is_some (pick b (Some h) (lock_on hs h.page))) (same h.page), lock_more h hs hs (lock_self hs))
  where
    same : (n : ℕ) → (n == n) ≡ true
    same n = grind (arith, nat_tests)

module _ (c : Sizes) (q : ℕ) (t : TableView) (config : t.config ≡ c) (place : t.partition ≡ q) where
  page_of : (p : ℕ) → p < c.pages → (partition c p == q) ≡ true → IsPageOf t p
  page_of p low is = record {
    below = subst (λ s. p < s.pages) (sym config) low;
    own = ap (λ s. p % s.nodes) config ∙ (equal (p % c.nodes) q is ∙ sym place);
  }
    where
      equal : (m n : ℕ) → (m == n) ≡ true → m ≡ n
      equal m n is = grind (arith, nat_tests)

  locks_own : (tx : TxId) (hs : List Held) → AllByRecursion (λ (h : Held). h.page < c.pages) hs → AllByRecursion (λ (x : ReportLock). IsPageOf t x.page) (locks_in c q true tx hs)
  unfolding locks_in
  locks_own tx [] low = tt
  locks_own tx (h ∷ hs) low = by (partition c h.page == q && is_listed true h.kind) refl (locks_own tx hs low.1)
    where
      by : (b : Bool) → (partition c h.page == q && is_listed true h.kind) ≡ b → AllByRecursion (λ (x : ReportLock). IsPageOf t x.page) (locks_in c q true tx hs)
          → AllByRecursion (λ (x : ReportLock). IsPageOf t x.page) (pick b (record { tx = tx; page = h.page; mode = h.mode } ∷ locks_in c q true tx hs) (locks_in c q true tx hs))
      by true is rest = (page_of h.page low.0 (both_true (partition c h.page == q) (is_listed true h.kind) is), rest)
      by false is rest = rest

  wait_own : (b : Pool) (tx : TxId) (o : Option Pending) → IfSome o (IsAccess c) → AllByRecursion (λ (x : ReportWait). IsPageOf t x.page) (wait_in c q b tx o)
  wait_own b tx None access = tt
  wait_own b tx (Some w) access = by (partition c w.page == q) refl
    where
      by : (x : Bool) → (partition c w.page == q) ≡ x
          → AllByRecursion (λ (x : ReportWait). IsPageOf t x.page) (pick x (record { tx = tx; page = w.page; mode = w.mode; have = find b w.page } ∷ []) [])
      by true is = (page_of w.page access.page is, tt)
      by false is = tt

  module _ (s : OpenTxs) (held : (tx : TxId) (p : ℕ) → is_some (held_by s tx p) ≡ true → p < c.pages) (waits : (tx : TxId) → IfSome (pending_of s tx) (IsAccess c)) where
    pages_low : (tx : TxId) (x : OpenTx) → open_at s tx ≡ Some x → AllByRecursion (λ (h : Held). h.page < c.pages) x.pages
    pages_low tx x there = go x.pages (lock_self x.pages)
      where
        go : (ks : List Held) → AllByRecursion (λ (k : Held). is_some (lock_on x.pages k.page) ≡ true) ks → AllByRecursion (λ (h : Held). h.page < c.pages) ks
        go [] all = tt
        go (k ∷ ks) all = (held tx k.page (ap (λ o. is_some (lock_on (pages_of_open o) k.page)) there ∙ all.0), go ks all.1)

    all_locks_own : (xs : List OpenTx) → AllAt (λ serial. open_at s (name_of s serial)) xs → AllByRecursion (λ (x : ReportLock). IsPageOf t x.page) (all_locks c q true s xs)
    unfolding all_locks
    all_locks_own [] found = tt
    all_locks_own (x ∷ xs) found =
        all_append (λ (y : ReportLock). IsPageOf t y.page) (locks_in c q true (name_of s x.serial) x.pages) (all_locks c q true s xs)
        (locks_own (name_of s x.serial) x.pages (pages_low (name_of s x.serial) x found.0)) (all_locks_own xs found.1)

    all_waits_own : (b : Pool) (xs : List OpenTx) → AllAt (λ serial. open_at s (name_of s serial)) xs → AllByRecursion (λ (x : ReportWait). IsPageOf t x.page) (all_waits c q b s xs)
    unfolding all_waits
    all_waits_own b [] found = tt
    all_waits_own b (x ∷ xs) found =
        all_append (λ (y : ReportWait). IsPageOf t y.page) (wait_in c q b (name_of s x.serial) x.waiting) (all_waits c q b s xs)
        (wait_own b (name_of s x.serial) x.waiting (subst (λ o. IfSome (waiting_of_open o) (IsAccess c)) found.0 (waits (name_of s x.serial)))) (all_waits_own b xs found.1)

-- the own report of a home is of the partition
pub report_own : (q : ℕ) (h : HomeState) (t : TableView) → IsHome h → t.config ≡ h.config → t.partition ≡ q → IsReportOf t (own_report q h)
unfolding own_report
report_own q h t home config place =
    let found = names_find h.txs (rising_serials 0 h.txs.last h.txs.txs home.txs.serials) in
    let held : (tx : TxId) (p : ℕ) → is_some (held_by h.txs tx p) ≡ true → p < h.config.pages = λ tx p is. (home.held tx p is).0 in
    record {
      locks = All-from_recursion (λ (x : ReportLock). IsPageOf t x.page) (all_locks h.config q true h.txs h.txs.txs) (all_locks_own h.config q t config place h.txs held home.waits h.txs.txs found);
      rights = All-from_recursion (λ x. IsPageOf t x.page) [] tt;
      waits = All-from_recursion (λ (x : ReportWait). IsPageOf t x.page) (all_waits h.config q h.pool h.txs h.txs.txs) (all_waits_own h.config q t config place h.txs held home.waits h.pool h.txs.txs found);
    }
