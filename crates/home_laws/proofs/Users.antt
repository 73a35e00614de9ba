-- How many open transactions use a page, under the changes of one of them.
use Rattle.std.proofs.Common.{◌≡◌, ℕ, ◌+◌, ◌≤◌, ◌==◌, ◌||◌, not, Bool, true, false, List, [], ◌∷◌, length, cond, Option, Some, None, is_some, refl, ap, sym, ◌∙◌, arith}
use Rattle.std.proofs.lemmas.List.Filters.{length-filter_both}
use Rattle.std.specs.Prelude.{option_map}
use Rattle.std.specs.List.{filter}
use Rattle.pcl_base.specs.Limits.{Sizes}
use Rattle.pcl_base.specs.declared.tx.TxId.{TxId}
use Rattle.pcl_base.specs.declared.lock.Held.{Held}
use Rattle.pcl_base.specs.declared.lock.Pending.{Pending}
use Rattle.node_rules.specs.Words.{pick}
use Rattle.node_rules.specs.OpenTxs.{OpenTx, OpenTxs, is_open, open_at, with_serial, held_by, pending_of, waits_on, change_tx, with_lock, add, wait, pages_of_open, waiting_of_open, lock_on}
use Rattle.home_laws.specs.Homes.{AreOpen, uses, users}
use Rattle.home_laws.proofs.Tests.{one, some_there}
use Rattle.home_laws.proofs.OneTx.{KeepsSerial, open_here, open_serial, passing_changed}

-- whether a transaction uses a page
abbrev pub used_by : OpenTxs → TxId → ℕ → Bool
used_by s t q = is_some (held_by s t q) || waits_on (pending_of s t) q

used_open : (s : OpenTxs) (t : TxId) (q : ℕ) (x : OpenTx) → open_at s t ≡ Some x → used_by s t q ≡ uses q x
used_open s t q x e = ap (λ o. is_some (lock_on (pages_of_open o) q) || waits_on (waiting_of_open o) q) e

pub users_changed : (f : OpenTx → OpenTx) → KeepsSerial f → (c : Sizes) (s : OpenTxs) (t : TxId) (q : ℕ) → AreOpen c s → is_open s t ≡ true
    → users (change_tx f s t) q + one (used_by s t q) ≡ users s q + one (used_by (change_tx f s t) t q)
users_changed f keeps c s t q sound there =
    let found = some_there (open_at s t) there in
    let now : open_at (change_tx f s t) t ≡ Some (f found.0) = open_here f keeps s t ∙ ap (option_map f) found.1 in
    let count = passing_changed f (uses q) 0 s.last s.txs t.serial found.0 sound.serials (open_serial s t found.0 found.1) in
    let old : one (used_by s t q) ≡ one (uses q found.0) = ap one (used_open s t q found.0 found.1) in
    let new : one (used_by (change_tx f s t) t q) ≡ one (uses q (f found.0)) = ap one (used_open (change_tx f s t) t q (f found.0) now) in
    omega (arith, count, old, new)

counted_least : (test : OpenTx → Bool) (x : OpenTx) (xs : List OpenTx) (n : ℕ) → with_serial xs n ≡ Some x → test x ≡ true → 1 ≤ length (filter test xs)
unfolding with_serial
counted_least test x [] n found passes = absurd (cc)
counted_least test x (y ∷ xs) n found passes = by (y.serial == n) (test y) refl found (counted_least test x xs n)
  where
    by : (b d : Bool) → test y ≡ d → pick b (Some y) (with_serial xs n) ≡ Some x → (with_serial xs n ≡ Some x → test x ≡ true → 1 ≤ length (filter test xs))
        → 1 ≤ length (cond d (y ∷ filter test xs) (filter test xs))
    by b true e found later = omega arith
    by true false e found later =
        let same : y ≡ x = cc in
        let bad : false ≡ true = sym e ∙ ap test same ∙ passes in
        absurd (cc)
    by false false e found later = later found passes

-- a page that some transaction uses has a user
pub users_least : (s : OpenTxs) (t : TxId) (q : ℕ) → used_by s t q ≡ true → 1 ≤ users s q
unfolding lock_on
users_least s t q used = by (open_at s t) refl used
  where
    by : (o : Option OpenTx) → open_at s t ≡ o → is_some (lock_on (pages_of_open o) q) || waits_on (waiting_of_open o) q ≡ true → 1 ≤ users s q
    by None e u = absurd (cc)
    by (Some x) e u = counted_least (uses q) x s.txs t.serial (open_serial s t x e) u

pub or_left : (a b : Bool) → a ≡ true → a || b ≡ true
or_left a b e = ap (λ c. c || b) e

pub or_right : (a b : Bool) → b ≡ true → a || b ≡ true
or_right true b e = refl
or_right false b e = e

pub held_used : (s : OpenTxs) (t : TxId) (q : ℕ) → is_some (held_by s t q) ≡ true → 1 ≤ users s q
held_used s t q held = users_least s t q (or_left (is_some (held_by s t q)) (waits_on (pending_of s t) q) held)

pub waits_used : (s : OpenTxs) (t : TxId) (q : ℕ) → waits_on (pending_of s t) q ≡ true → 1 ≤ users s q
waits_used s t q waits = users_least s t q (or_right (is_some (held_by s t q)) (waits_on (pending_of s t) q) waits)

-- no page has more users than there are open transactions
pub users_most : (c : Sizes) (s : OpenTxs) (q : ℕ) → AreOpen c s → users s q ≤ 1024
users_most c s q sound =
    let few = sound.few in
    let both = length-filter_both (uses q) (λ x. not (uses q x)) (λ x. refl) s.txs in
    omega (arith, few, both)

-- the same of a lock that is given, and of an access that waits from now on
pub add_users : (c : Sizes) (s : OpenTxs) (t : TxId) (l : Held) (q : ℕ) → AreOpen c s → is_open s t ≡ true → users (add s t l) q + one (used_by s t q) ≡ users s q + one (used_by (add s t l) t q)
unfolding add
add_users c s t l q sound there = users_changed (with_lock l) (λ x. refl) c s t q sound there

pub wait_users : (c : Sizes) (s : OpenTxs) (t : TxId) (w : Pending) (q : ℕ) → AreOpen c s → is_open s t ≡ true → users (wait s t w) q + one (used_by s t q) ≡ users s q + one (used_by (wait s t w) t q)
unfolding wait
wait_users c s t w q sound there = users_changed (λ x. record x { waiting = Some w }) (λ x. refl) c s t q sound there
