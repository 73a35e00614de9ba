-- How many accesses wait, under the changes of open transactions.
use Rattle.std.proofs.Common.{◌≡◌, ℕ, ◌+◌, ◌≤◌, ◌==◌, not, Bool, true, false, List, [], ◌∷◌, ◌++◌, map, cond, Option, Some, None, is_some, refl, ap, sym, ◌∙◌, arith}
use Rattle.std.proofs.lemmas.Bool.Decides.{nat_tests}
use Rattle.std.specs.List.{filter}
use Rattle.pcl_base.specs.declared.tx.TxId.{TxId}
use Rattle.pcl_base.specs.declared.lock.Held.{Held}
use Rattle.pcl_base.specs.declared.lock.Kind.{Kind}
use Rattle.pcl_base.specs.declared.lock.Pending.{Pending}
use Rattle.node_rules.specs.Words.{pick}
use Rattle.node_rules.specs.OpenTxs.{OpenTx, OpenTxs, is_open, open_at, waiting_of_open, pending_of, with_serial, waits_on, change_open, with_lock, add, wait, set_kind, kind_on, begin, close_tx}
use Rattle.node_rules.specs.NodeState.{HomeState}
use Rattle.node_rules.specs.AccessRule.{kinds_on}
use Rattle.node_rules.specs.InstallRule.{all_kinds, kinds_of_locks}
use Rattle.tx_table.specs.Counts.{total, one_if, waits_in, wait_count}
use Rattle.home_laws.specs.Homes.{IsHome, AreSerials}
use Rattle.home_laws.proofs.Tests.{some_there}
use Rattle.home_laws.proofs.OneTx.{unchanged, open_serial}

-- a sum over the open transactions, of which one changes
pub total_changed : (f : OpenTx → ℕ) (g : OpenTx → OpenTx) (low last : ℕ) (xs : List OpenTx) (n : ℕ) (x : OpenTx) → AreSerials low last xs → with_serial xs n ≡ Some x
    → total f (change_open g xs n) + f x ≡ total f xs + f (g x)
unfolding change_open with_serial
total_changed f g low last [] n x rise found = absurd (cc)
total_changed f g low last (y ∷ xs) n x rise found = by (y.serial == n) refl found (total_changed f g y.serial last xs n x rise.1)
  where
    by : (b : Bool) → (y.serial == n) ≡ b → pick b (Some y) (with_serial xs n) ≡ Some x → (with_serial xs n ≡ Some x → total f (change_open g xs n) + f x ≡ total f xs + f (g x))
        → f (pick b (g y) y) + total f (change_open g xs n) + f x ≡ f y + total f xs + f (g x)
    by true t e ih =
        let same : y ≡ x = cc in
        let le : n ≤ y.serial = grind (arith, nat_tests) in
        let rest : total f (change_open g xs n) ≡ total f xs = ap (total f) (unchanged g y.serial last xs n rise.1 le) in
        let here : f y ≡ f x = ap f same in
        let there : f (g y) ≡ f (g x) = ap (λ z. f (g z)) same in
        omega (arith, rest, here, there)
    by false t e ih =
        let rest = ih e in
        omega (arith, rest)

-- a change that leaves what each counts for
pub total_kept : (f : OpenTx → ℕ) (g : OpenTx → OpenTx) → ((x : OpenTx) → f (g x) ≡ f x) → (xs : List OpenTx) (n : ℕ) → total f (change_open g xs n) ≡ total f xs
unfolding change_open
total_kept f g keeps [] n = refl
total_kept f g keeps (x ∷ xs) n = by (x.serial == n) (total_kept f g keeps xs n)
  where
    by : (b : Bool) → total f (change_open g xs n) ≡ total f xs → f (pick b (g x) x) + total f (change_open g xs n) ≡ f x + total f xs
    by true ih = let here = keeps x in omega (arith, ih, here)
    by false ih = omega (arith, ih)

pub total_filtered : (f : OpenTx → ℕ) (keep : OpenTx → Bool) (xs : List OpenTx) → total f (filter keep xs) ≤ total f xs
total_filtered f keep [] = omega arith
total_filtered f keep (x ∷ xs) = by (keep x) (total_filtered f keep xs)
  where
    by : (b : Bool) → total f (filter keep xs) ≤ total f xs → total f (cond b (x ∷ filter keep xs) (filter keep xs)) ≤ f x + total f xs
    by true ih = omega (arith, ih)
    by false ih = omega (arith, ih)

one_of : (w : Option Pending) (p : ℕ) → waits_on w p ≡ true → one_if w ≡ 1
one_of None p e = absurd (cc)
one_of (Some w) p e = refl

-- a transaction gets a lock of the page for which it waits
pub granted_waits_less : (h : HomeState) (t : TxId) (l : Held) → IsHome h → waits_on (pending_of h.txs t) l.page ≡ true → wait_count (add h.txs t l).txs + 1 ≡ wait_count h.txs.txs
unfolding add
granted_waits_less h t l home waits =
    let found = some_there (open_at h.txs t) (is_there (open_at h.txs t) waits) in
    let waits_here : waits_on (found.0).waiting l.page ≡ true = ap (λ o. waits_on (waiting_of_open o) l.page) (sym found.1) ∙ waits in
    let count = total_changed waits_in (with_lock l) 0 h.txs.last h.txs.txs t.serial found.0 home.txs.serials (open_serial h.txs t found.0 found.1) in
    let before : waits_in found.0 ≡ 1 = one_of (found.0).waiting l.page waits_here in
    let now : waits_in (with_lock l found.0) ≡ 0 = ap (λ d. one_if (pick d None (found.0).waiting)) waits_here in
    omega (arith, count, before, now)
  where
    is_there : (o : Option OpenTx) → waits_on (waiting_of_open o) l.page ≡ true → is_some o ≡ true
    is_there None e = absurd (cc)
    is_there (Some x) e = refl

-- a transaction that doesn't wait gets a lock
pub locked_waits_same : (h : HomeState) (t : TxId) (l : Held) → IsHome h → is_open h.txs t ≡ true → pending_of h.txs t ≡ None → wait_count (add h.txs t l).txs ≡ wait_count h.txs.txs
unfolding add
locked_waits_same h t l home there none =
    let found = some_there (open_at h.txs t) there in
    let idle : (found.0).waiting ≡ None = ap waiting_of_open (sym found.1) ∙ none in
    let count = total_changed waits_in (with_lock l) 0 h.txs.last h.txs.txs t.serial found.0 home.txs.serials (open_serial h.txs t found.0 found.1) in
    let before : waits_in found.0 ≡ 0 = ap one_if idle in
    let now : waits_in (with_lock l found.0) ≡ 0 = ap (λ w. one_if (pick (waits_on w l.page) None w)) idle in
    omega (arith, count, before, now)

-- a transaction waits from now on
pub waiting_waits_more : (h : HomeState) (t : TxId) (w : Pending) → IsHome h → is_open h.txs t ≡ true → pending_of h.txs t ≡ None → wait_count (wait h.txs t w).txs ≡ wait_count h.txs.txs + 1
unfolding wait
waiting_waits_more h t w home there none =
    let found = some_there (open_at h.txs t) there in
    let idle : (found.0).waiting ≡ None = ap waiting_of_open (sym found.1) ∙ none in
    let count = total_changed waits_in (λ x. record x { waiting = Some w }) 0 h.txs.last h.txs.txs t.serial found.0 home.txs.serials (open_serial h.txs t found.0 found.1) in
    let before : waits_in found.0 ≡ 0 = ap one_if idle in
    omega (arith, count, before)

-- locks of another kind
pub set_kind_waits_same : (s : OpenTxs) (t : TxId) (p : ℕ) (k : Kind) → wait_count (set_kind s t p k).txs ≡ wait_count s.txs
unfolding set_kind
set_kind_waits_same s t p k = total_kept waits_in (λ x. record x { pages = kind_on x.pages p k }) (λ x. refl) s.txs t.serial

pub kinds_on_waits_same : (s : OpenTxs) (ts : List TxId) (p : ℕ) (k : Kind) → wait_count (kinds_on s ts p k).txs ≡ wait_count s.txs
unfolding kinds_on
kinds_on_waits_same s [] p k = refl
kinds_on_waits_same s (t ∷ ts) p k = kinds_on_waits_same (set_kind s t p k) ts p k ∙ set_kind_waits_same s t p k

-- a transaction that is closed
pub close_waits_less : (s : OpenTxs) (t : TxId) → wait_count (close_tx s t).txs ≤ wait_count s.txs
unfolding close_tx
close_waits_less s t = total_filtered waits_in (λ x. not (x.serial == t.serial)) s.txs

-- locks of another kind, on the pages of a partition
pub all_kinds_waits_same : (q : ℕ) (k : Kind) (h : HomeState) → wait_count (all_kinds q k h).txs.txs ≡ wait_count h.txs.txs
all_kinds_waits_same q k h = by h.txs.txs
  where
    by : (xs : List OpenTx) → total waits_in (map (λ (x : OpenTx). record x { pages = kinds_of_locks h.config q k x.pages }) xs) ≡ total waits_in xs
    by [] = refl
    by (x ∷ xs) = ap (λ n. waits_in x + n) (by xs)

-- a transaction that is begun
pub begin_waits_same : (s : OpenTxs) → wait_count (begin s).txs ≡ wait_count s.txs
unfolding begin
begin_waits_same s = by s.txs
  where
    by : (xs : List OpenTx) → total waits_in (xs ++ record { serial = s.last + 1; pages = []; waiting = None } ∷ []) ≡ total waits_in xs
    by [] = omega arith
    by (x ∷ xs) = ap (λ n. waits_in x + n) (by xs)
