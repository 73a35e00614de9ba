-- The record of a commit is one that has bytes.
use Rattle.std.proofs.Common.{◌≡◌, ℕ, ◌+◌, ◌-◌, ◌<◌, ◌≤◌, ◌==◌, ◌||◌, Bool, true, false, List, [], ◌∷◌, length, map, drop, slice_range, Option, Some, None, is_some, IfSome, refl, ap, sym, subst, ◌∙◌, arith}
use Rattle.std.proofs.lemmas.Bool.Decides.{nat_tests}
use Rattle.std.proofs.lemmas.List.{length-drop, length-take-le}
use Rattle.std.specs.List.{filter, AllByRecursion}
use Rattle.pcl_base.specs.declared.tx.TxId.{TxId}
use Rattle.pcl_base.specs.declared.lock.Held.{Held}
use Rattle.pcl_base.specs.declared.lock.Pending.{Pending}
use Rattle.text_rules.specs.LogRecord.{AreSomeChanges, AreChanges, AreRanges}
use Rattle.node_rules.specs.Words.{pick}
use Rattle.node_rules.specs.OpenTxs.{OpenTx, open_at, with_serial, held_by, pending_of}
use Rattle.node_rules.specs.BufferRule.{is_private, private_at, private_bytes}
use Rattle.node_rules.specs.AccessRule.{bytes_or}
use Rattle.node_rules.specs.NodeState.{HomeState, Run, runs_at}
use Rattle.node_rules.specs.EndRule.{pages_written, new_bytes, ranges_of, logged, commit_record}
use Rattle.home_laws.specs.Homes.{IsHome, AreSerials, AreRuns, AreWrittenRuns, is_exclusive_lock, is_write_of}
use Rattle.home_laws.specs.EndLaws.{AreRising, RecordIsSound}
use Rattle.home_laws.proofs.Words.{and_true, not_both, equal}
use Rattle.home_laws.proofs.Opens.{open_is_own, there_is, open_serial}
use Rattle.home_laws.proofs.Unpins.{times}
use Rattle.home_laws.proofs.Written.{times_written, written_rise, written_private, of_each}
use Rattle.home_laws.proofs.Pools.{pool_of_home}
use Rattle.home_laws.proofs.Publishes.{private_sized}

-- the serial of an open transaction is above the bound, and it isn't the only thing that is open
pub serial_above : (low last s : ℕ) (x : OpenTx) (xs : List OpenTx) → AreSerials low last xs → with_serial xs s ≡ Some x → (low < s) × (1 ≤ length xs)
unfolding with_serial
serial_above low last s x [] rise found = absurd (cc)
serial_above low last s x (y ∷ xs) rise found = by_serial (y.serial == s) refl (serial_above y.serial last s x xs rise.1)
  where
    by_serial : (b : Bool) → (y.serial == s) ≡ b → (with_serial xs s ≡ Some x → (y.serial < s) × (1 ≤ length xs)) → (low < s) × (1 ≤ length (y ∷ xs))
    by_serial true e rest = let first = rise.0 in (grind (arith, nat_tests), omega arith)
    by_serial false e rest =
        let here : with_serial xs s ≡ Some x = sym (ap (λ b. pick b (Some y) (with_serial xs s)) e) ∙ found in
        let more = rest here in
        let first = rise.0 in
        (omega (arith, more.0, first), omega arith)

-- the ranges of runs
pub ranges_are : (size low : ℕ) (page : List ℕ) (runs : List Run) → length page ≡ size → AreRuns size low runs → AreRanges size low (ranges_of page runs)
ranges_are size low page [] long is = tt
ranges_are size low page (r ∷ rs) long is =
    let some : r.from < r.to = is.1 in
    let within : r.to ≤ size = is.2 in
    let rest = length-drop r.from page in
    let count : length (slice_range page r.from r.to) ≡ r.to - r.from = length-take-le (r.to - r.from) (drop r.from page) (omega arith) in
    let behind : r.from + length (slice_range page r.from r.to) ≡ r.to = omega arith in
    (is.0, omega arith, omega arith, subst (λ n. AreRanges size (n + 1) (ranges_of page rs)) (sym behind) (ranges_are size (r.to + 1) page rs long is.3))

-- what a page that was written has
pub record IsWrittenPage (h : HomeState) (t : TxId) (p : ℕ) : Type 0 where
  pub held : is_exclusive_lock (held_by h.txs t p) ≡ true
  pub copy : is_some (private_at h.pool t p) ≡ true
  pub bytes : is_some (private_bytes h.pool t p) ≡ true
  pub below : p < h.config.pages

exclusive_some : (o : Option Held) → is_exclusive_lock o ≡ true → is_some o ≡ true
exclusive_some None e = absurd (cc)
exclusive_some (Some x) e = refl

or_false : (a b : Bool) → b ≡ false → (a || b) ≡ true → a ≡ true
or_false true b n e = refl
or_false false b n e = absurd (not_both b e n)

-- a transaction that doesn't wait holds each page that it wrote exclusively
pub written_page : (h : HomeState) (t : TxId) (p : ℕ) → IsHome h → pending_of h.txs t ≡ None → 1 ≤ times p (pages_written h t) → IsWrittenPage h t p
written_page h t p is waits there =
    let count : times p (pages_written h t) ≡ length (filter (is_private t p) h.pool.privates) = times_written t p h.pool.privates in
    let copy = written_private t p h.pool.privates (omega (arith, count, there)) in
    let test = sym (is.privates t p) ∙ copy in
    let none : is_write_of (pending_of h.txs t) p ≡ false = ap (λ (o : Option Pending). is_write_of o p) waits in
    let held = or_false (is_exclusive_lock (held_by h.txs t p)) (is_write_of (pending_of h.txs t) p) none test in
    record { held = held; copy = copy; bytes = is.filled t p ∙ held; below = (is.held t p (exclusive_some (held_by h.txs t p) held)).0 }

-- all pages that it wrote
pub written_are : (h : HomeState) (t : TxId) → IsHome h → pending_of h.txs t ≡ None → AllByRecursion (IsWrittenPage h t) (pages_written h t)
written_are h t is waits = of_each (IsWrittenPage h t) (pages_written h t) (λ q there. written_page h t q is waits there)

pub pages_rise : (h : HomeState) (t : TxId) → IsHome h → AreRising 0 (pages_written h t)
pages_rise h t is = written_rise t h.pool.privates (is.buffer.one_private t)

-- the new bytes are those of a page
pub new_sized : (h : HomeState) (t : TxId) (p : ℕ) → IsHome h → is_some (private_bytes h.pool t p) ≡ true → length (new_bytes h t p) ≡ h.config.size
new_sized h t p is there = of_bytes (private_bytes h.pool t p) there (private_sized h.config h.pool t p (pool_of_home h is)) ∙ is.sizes.1
  where
    of_bytes : (o : Option (List ℕ)) → is_some o ≡ true → IfSome o (λ bytes. length bytes ≡ h.pool.size) → length (bytes_or o []) ≡ h.pool.size
    of_bytes None e s = absurd (cc)
    of_bytes (Some b) e s = s

some_ranges : (size : ℕ) (b : Bool) (page : List ℕ) (runs : List Run) → b ≡ true → length page ≡ size → AreWrittenRuns size b runs → (1 ≤ length (ranges_of page runs)) × AreRanges size 0 (ranges_of page runs)
some_ranges size true page [] e long is = absurd is
some_ranges size true page (r ∷ rs) e long is = (omega arith, ranges_are size 0 page (r ∷ rs) long is)
some_ranges size false page runs e long is = absurd (cc)

-- the changes of the record
changes_are : (h : HomeState) (t : TxId) (low : ℕ) (ps : List ℕ) → IsHome h → AreRising low ps → AllByRecursion (IsWrittenPage h t) ps → AreChanges h.config false low (map (logged h t) ps)
changes_are h t low [] is rise all = tt
changes_are h t low (p ∷ ps) is rise all =
    let w = all.0 in
    let ranges = some_ranges h.config.size (is_exclusive_lock (held_by h.txs t p)) (new_bytes h t p) (runs_at h.written t p) w.held (new_sized h t p is w.bytes) (is.runs t p) in
    (rise.0, w.below, omega arith, (refl, ranges.0, ranges.1), changes_are h t (p + 1) ps is rise.1 all.1)

some_changes : (h : HomeState) (t : TxId) (ps : List ℕ) → 1 ≤ length ps → AreChanges h.config false 0 (map (logged h t) ps) → AreSomeChanges h.config (map (logged h t) ps)
some_changes h t [] some are = absurd (omega (arith, some))
some_changes h t (p ∷ ps) some are = are

pub record_is_sound_law : RecordIsSound
unfolding commit_record
record_is_sound_law h t is there waits some =
    let x = there_is (open_at h.txs t) there in
    let above = serial_above 0 h.txs.last t.serial x.0 h.txs.txs is.txs.serials (open_serial h.txs t x.0 x.1) in
    let own = and_true (t.node == h.txs.node) (t.born == h.txs.born) (open_is_own h.txs t there) in
    let node = equal t.node h.txs.node own.0 in
    let born = equal t.born h.txs.born own.1 in
    record {
      node = omega (arith, node, is.txs.node);
      born = omega (arith, born, is.txs.born above.1);
      serial = omega (arith, above.0);
      changes = some_changes h t (pages_written h t) some (changes_are h t 0 (pages_written h t) is (pages_rise h t is) (written_are h t is waits));
    }
