-- What an end needs of the home: the pages that were written, each of them to be published, and the pins.
use Rattle.std.proofs.Common.{◌≡◌, ℕ, zero, suc, ◌-◌, ◌^◌, ◌<◌, ◌≤◌, ◌==◌, ◌||◌, not, cond, Bool, true, false, List, [], ◌∷◌, length, Option, Some, None, is_some, IfSome, refl, ap, sym, ◌∙◌, arith}
use Rattle.std.proofs.lemmas.Bool.Decides.{nat_tests}
use Rattle.std.specs.Ordering.{nat_cmp}
use Rattle.std.specs.List.{filter, list_any, AllByRecursion}
use Rattle.std.specs.List.Sorted.{IsPermutation, IsSorted}
use Rattle.pcl_base.specs.declared.tx.TxId.{TxId}
use Rattle.pcl_base.specs.declared.lock.Held.{Held}
use Rattle.pcl_base.specs.declared.lock.Pending.{Pending}
use Rattle.pcl_base.specs.declared.reply.Reason.TheVariants as reason
use Rattle.node_rules.specs.Words.{pick}
use Rattle.node_rules.specs.OpenTxs.{held_by, pending_of, is_open, locks_of}
use Rattle.node_rules.specs.BufferRule.{PrivateCopy, find, is_private, private_in, has_private}
use Rattle.node_rules.specs.AccessRule.{version_or}
use Rattle.node_rules.specs.NodeState.{HomeState}
use Rattle.node_rules.specs.EndRule.{pages_written, is_written, at_version_end}
use Rattle.node_rules.specs.Refusals.{refuse_if}
use Rattle.home_laws.specs.Homes.{IsHome, is_exclusive_lock, is_write_of}
use Rattle.home_laws.specs.RefusedEnds.{commit_refusal, abort_refusal}
use Rattle.home_laws.specs.EndNeeds.{IsBelowLast, IsPublishable, MayPublish}
use Rattle.home_laws.proofs.Words.{not_both}
use Rattle.home_laws.proofs.Opens.{locks_once}
use Rattle.home_laws.proofs.Serials.{one_if}
use Rattle.home_laws.proofs.Unpins.{times}
use Rattle.home_laws.proofs.Written.{times_written, written_private}
use Rattle.home_laws.proofs.Records.{IsWrittenPage, written_are, pages_rise}
use Rattle.home_laws.proofs.Rising.{rising_apart, rising_same, sorted_rise, times_permuted, any_times, exclusive_pages, times_exclusive}

-- what holds where an end isn't refused
pub commit_allowed : (t : TxId) (h : HomeState) → commit_refusal t h ≡ None → (is_open h.txs t ≡ true) × (pending_of h.txs t ≡ None) × (at_version_end h t ≡ false)
unfolding commit_refusal
commit_allowed t h none = by_open (is_open h.txs t) refl none
  where
    by_end : (b : Bool) → at_version_end h t ≡ b → refuse_if b reason.VersionEnd None ≡ None → at_version_end h t ≡ false
    by_end true e n = absurd (cc)
    by_end false e n = e

    by_wait : (o : Option Pending) → pending_of h.txs t ≡ o → refuse_if (is_some o) reason.TxWaits (refuse_if (at_version_end h t) reason.VersionEnd None) ≡ None → (pending_of h.txs t ≡ None) × (at_version_end h t ≡ false)
    by_wait None e n = (e, by_end (at_version_end h t) refl n)
    by_wait (Some w) e n = absurd (cc)

    by_open : (b : Bool) → is_open h.txs t ≡ b → refuse_if (not b) reason.NoTx (refuse_if (is_some (pending_of h.txs t)) reason.TxWaits (refuse_if (at_version_end h t) reason.VersionEnd None)) ≡ None
        → (is_open h.txs t ≡ true) × (pending_of h.txs t ≡ None) × (at_version_end h t ≡ false)
    by_open true e n = let rest = by_wait (pending_of h.txs t) refl n in (e, rest.0, rest.1)
    by_open false e n = absurd (cc)

pub abort_allowed : (t : TxId) (h : HomeState) → abort_refusal t h ≡ None → is_open h.txs t ≡ true
unfolding abort_refusal
abort_allowed t h none = by_open (is_open h.txs t) refl none
  where
    by_open : (b : Bool) → is_open h.txs t ≡ b → refuse_if (not b) reason.NoTx None ≡ None → is_open h.txs t ≡ true
    by_open true e n = e
    by_open false e n = absurd (cc)

-- a private copy that is there is counted
counted_case : (b : Bool) (x : PrivateCopy) (o : Option PrivateCopy) (ys : List PrivateCopy) → is_some (pick b (Some x) o) ≡ true → (is_some o ≡ true → 1 ≤ length ys) → 1 ≤ length (cond b (x ∷ ys) ys)
counted_case true x o ys e rest = omega arith
counted_case false x o ys e rest = rest e

private_counts : (t : TxId) (p : ℕ) (xs : List PrivateCopy) → is_some (private_in xs t p) ≡ true → 1 ≤ length (filter (is_private t p) xs)
unfolding private_in
private_counts t p [] e = absurd (cc)
private_counts t p (x ∷ xs) e = counted_case (is_private t p x) x (private_in xs t p) (filter (is_private t p) xs) e (private_counts t p xs)

-- a transaction that doesn't wait wrote the pages that it holds exclusively, each once
pub times_held : (h : HomeState) (t : TxId) (p : ℕ) → IsHome h → pending_of h.txs t ≡ None → times p (pages_written h t) ≡ one_if (is_exclusive_lock (held_by h.txs t p))
times_held h t p is waits = by_lock (is_exclusive_lock (held_by h.txs t p)) refl
  where
    count : times p (pages_written h t) ≡ length (filter (is_private t p) h.pool.privates)
    count = times_written t p h.pool.privates

    test : has_private h.pool t p ≡ (is_exclusive_lock (held_by h.txs t p) || false)
    test = is.privates t p ∙ ap (λ (o : Option Pending). is_exclusive_lock (held_by h.txs t p) || is_write_of o p) waits

    none_of : (n : ℕ) → (1 ≤ n → ⊥) → n ≡ 0
    none_of zero f = refl
    none_of (suc n) f = absurd (f (omega arith))

    by_lock : (b : Bool) → is_exclusive_lock (held_by h.txs t p) ≡ b → times p (pages_written h t) ≡ one_if b
    by_lock true e =
        let some = private_counts t p h.pool.privates (test ∙ ap (λ c. c || false) e) in
        let once = is.buffer.one_private t p in
        omega (arith, count, some, once)
    by_lock false e =
        count ∙ none_of (length (filter (is_private t p) h.pool.privates)) (λ some. not_both (has_private h.pool t p) (written_private t p h.pool.privates some) (test ∙ ap (λ c. c || false) e))

-- so it wrote a page where it holds it exclusively
pub is_written_is : (h : HomeState) (t : TxId) (p : ℕ) → IsHome h → pending_of h.txs t ≡ None → is_written h t p ≡ is_exclusive_lock (held_by h.txs t p)
is_written_is h t p is waits = any_times p (pages_written h t) (is_exclusive_lock (held_by h.txs t p)) (times_held h t p is waits)

at_most_one : (b : Bool) → one_if b ≤ 1
at_most_one true = omega arith
at_most_one false = omega arith

-- the pages of its exclusive locks, sorted, are those that it wrote
pub written_is : (h : HomeState) (t : TxId) (ps : List ℕ) → IsHome h → pending_of h.txs t ≡ None → IsSorted nat_cmp ps → IsPermutation (exclusive_pages (locks_of h.txs t)) ps → ps ≡ pages_written h t
written_is h t ps is waits sorted same =
    rising_same 0 ps (pages_written h t) (sorted_rise ps sorted (λ q. let count = held q in let one = at_most_one (is_exclusive_lock (held_by h.txs t q)) in omega (arith, count, one))) (pages_rise h t is)
    (λ q. held q ∙ sym (times_held h t q is waits))
  where
    held : (q : ℕ) → times q ps ≡ one_if (is_exclusive_lock (held_by h.txs t q))
    held q = times_permuted q (exclusive_pages (locks_of h.txs t)) ps same ∙ times_exclusive (locks_of h.txs t) q (locks_once h.txs t is.txs.once)

-- publishing begins with all pages that were written
pub may_publish_start : (h : HomeState) (t : TxId) → IsHome h → pending_of h.txs t ≡ None → AllByRecursion (IsBelowLast h.pool) (pages_written h t) → MayPublish t (pages_written h t) h.pool
may_publish_start h t is waits below = record { each = both (pages_written h t) (written_are h t is waits) below; apart = rising_apart 0 (pages_written h t) (pages_rise h t is) }
  where
    exclusive_some : (o : Option Held) → is_exclusive_lock o ≡ true → is_some o ≡ true
    exclusive_some None e = absurd (cc)
    exclusive_some (Some x) e = refl

    both : (ps : List ℕ) → AllByRecursion (IsWrittenPage h t) ps → AllByRecursion (IsBelowLast h.pool) ps → AllByRecursion (IsPublishable t h.pool) ps
    both [] a b = tt
    both (p ∷ ps) a b =
        (record { private = a.0.copy; bytes = a.0.bytes; copy = (is.held t p (exclusive_some (held_by h.txs t p) a.0.held)).1; below_last = b.0 }, both ps a.1 b.1)

-- where no page that was written is at the last version, and all versions are numbers of 64 bits
pub below_last : (h : HomeState) (t : TxId) → at_version_end h t ≡ false → ((p : ℕ) → IfSome (find h.pool p) (λ v. v < 2 ^ 64)) → AllByRecursion (IsBelowLast h.pool) (pages_written h t)
unfolding at_version_end
below_last h t none fits = each (pages_written h t) none
  where
    one : (o : Option ℕ) → (version_or o == 2 ^ 64 - 1) ≡ false → IfSome o (λ v. v < 2 ^ 64) → IfSome o (λ v. v < 18446744073709551615)
    one None e f = tt
    one (Some v) e f = grind (arith, nat_tests)

    split : (a b : Bool) → (a || b) ≡ false → (a ≡ false) × (b ≡ false)
    split true b e = absurd (cc)
    split false b e = (refl, e)

    each : (ps : List ℕ) → list_any (λ p. version_or (find h.pool p) == 2 ^ 64 - 1) ps ≡ false → AllByRecursion (IsBelowLast h.pool) ps
    each [] e = tt
    each (p ∷ ps) e =
        let parts = split (version_or (find h.pool p) == 2 ^ 64 - 1) (list_any (λ q. version_or (find h.pool q) == 2 ^ 64 - 1) ps) e in
        (one (find h.pool p) parts.0 (fits p), each ps parts.1)
