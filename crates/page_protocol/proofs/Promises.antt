-- What the invariant promises.
use Rattle.std.specs.Prelude.{ℕ, ◌+◌, ◌-◌, ◌≤◌, ◌≡◌, ◌⊎◌, List, [], ◌∷◌, ◌++◌, Option, Some, None}
use Rattle.std.proofs.Common.{zero, suc, refl, ap, ◌∙◌, arith, append_assoc}
use Rattle.pcl_base.specs.declared.tx.TxId.{TxId}
use Rattle.pcl_base.specs.declared.tx.Mode.TheVariants.{Shared, Exclusive}
use mathlib.Core.Logic.{inl, inr}
use Rattle.page_protocol.specs.Authority.{granting, giving, spending, returning, dropping, releasing, releasing_change, releasing_to_disk, losing}
use Rattle.page_protocol.specs.Eras.{crashing, falling, purging, burying, lowering, redoing, reporting, joining, completing}
use Rattle.page_protocol.specs.Invariant.{Locked, RightOk, IsCopy, Logged, SlotOk, ScriptOk, Inv}
use Rattle.page_protocol.specs.Homes.{asking, upgrading, accepting, taking_right, keeping_right, reading_under, seen_by, reading, writing, ending, committing_reads, committing}
use Rattle.page_protocol.specs.State.{Sent, Home, Fresh, Asking, Holding, HoldingAsks, Reading, ReadingAsks, Ended, Gone, Lock, Free, Registered, UnderRight, lock_of, InEra, Page, current, IsGranted, IsShelf, version_of, bytes_of}
use Rattle.page_protocol.specs.Laws.{Redo, stored, replayed, IsSerial, IsFreshAt, IsDurable, IsLoggedOnce, IsAlone, BringsCurrent, RightsAreCurrent, HistoryStays}
use Rattle.page_protocol.specs.Steps.{Step, asks, retells, upgrades, upgrades_reader, accepts, takes_right, keeps_right, reads_under, reads, writes_piece, ends_open, commits_reads, commits, grants_lock, gives_right, revokes, turns, returns_right, drops_right, drops_grant, drops_answer, releases, releases_change, releases_to_disk, releases_early, loses, crashes, falls, purges, redoes, purges_early, buries, lowers, reports, joins, completes, restores, flushes, evicts, cuts, Run, here, then}
use Rattle.page_protocol.specs.Bytes.{Copy, Ranges, put_all, Leaves}
use Rattle.page_protocol.specs.Storage.{restoring, flushing, evicting, cutting}
use Rattle.page_protocol.proofs.Basics.{updn_other, not_above, along, back}
use Rattle.page_protocol.proofs.LocksEras.{covered_none}
use Rattle.page_protocol.proofs.KeepsHomes.{waits_lives, copy_is}
use Rattle.page_protocol.proofs.KeepsCommits.{exclusive_lock}

module _ (blank : List ℕ) (a : Page) (i : Inv blank a) where
  pub serial_law : IsSerial blank a
  serial_law = i.accesses_hold.serial

  pub fresh_law : (t : TxId) → IsFreshAt a t
  fresh_law t g = sees (a.home t) g (i.accesses_hold.slots t) (i.accesses_hold.scripts t)
    where
      sees : (h : Home) → IsGranted h → SlotOk (current a) (a.slot t.node) h → ScriptOk (a.hist a.now) (a.script t) (a.image t) h
          → (version_of (a.slot t.node) ≡ Some a.now) × Leaves (a.script t) (a.hist a.now) (seen_by h (a.image t) (bytes_of (a.slot t.node)))
      sees Fresh g p q = absurd g
      sees (Asking m k) g p q = absurd g
      sees (Holding Shared) g p q = (ap version_of p, back (Leaves (a.script t) (a.hist a.now)) (ap bytes_of p) q)
      sees (Holding Exclusive) g p q = (ap version_of p, q)
      sees HoldingAsks g p q = absurd g
      sees Reading g p q = (ap version_of p, back (Leaves (a.script t) (a.hist a.now)) (ap bytes_of p) q)
      sees ReadingAsks g p q = absurd g
      sees (Ended c e) g p q = absurd g
      sees Gone g p q = absurd g

  -- each copy that redo reaches is one of the page
  redo_is : (c : Copy) → Redo a.disk a.log c → IsCopy a.now a.hist c × (a.disk.version ≤ c.version)
  redo_is c stored = (i.stores_hold.disk_is, omega arith)
  redo_is c (replayed d n ranges r e) =
      let k = redo_is d r in let x = k.0 in let y = k.1 in
      let w = i.stores_hold.records n d.version ranges e in
      (record { old = w.old; same = ap (put_all ranges) x.same ∙ w.changes }, omega arith)

  -- redo reaches each version from the disk's to the current one
  redo_from : (k : ℕ) → a.disk.version + k ≤ a.now → Redo a.disk a.log (record { version = a.disk.version + k; bytes = a.hist (a.disk.version + k) })
  redo_from zero p =
      along (Redo a.disk a.log) (λ j. record { version = z j; bytes = (i.stores_hold.disk_is.same ∙ ap a.hist z) j }) stored
    where
      z : a.disk.version ≡ a.disk.version + zero
      z = omega arith
  redo_from (suc k) p = next (redo_from k (omega arith)) (i.stores_hold.reach (a.disk.version + k) (omega arith) (omega arith))
    where
      z : suc (a.disk.version + k) ≡ a.disk.version + suc k
      z = omega arith

      next : Redo a.disk a.log (record { version = a.disk.version + k; bytes = a.hist (a.disk.version + k) }) → Logged a.log (suc (a.disk.version + k))
          → Redo a.disk a.log (record { version = a.disk.version + suc k; bytes = a.hist (a.disk.version + suc k) })
      next r l =
          let w = i.stores_hold.records l.node (a.disk.version + k) l.ranges l.there in
          along (Redo a.disk a.log) (λ j. record { version = z j; bytes = (w.changes ∙ ap a.hist z) j })
          (replayed (record { version = a.disk.version + k; bytes = a.hist (a.disk.version + k) }) l.node l.ranges r l.there)

  redo_reaches : Redo a.disk a.log (current a)
  redo_reaches =
      let o = i.stores_hold.disk_is.old in
      let e : a.disk.version + (a.now - a.disk.version) ≡ a.now = omega arith in
      along (λ v. Redo a.disk a.log (record { version = v; bytes = a.hist v })) e (redo_from (a.now - a.disk.version) (omega arith))

  nothing_beyond : (n : ℕ) (o : Option Ranges) → a.log n (suc a.now) ≡ o → a.log n (suc a.now) ≡ None
  nothing_beyond n None e = e
  nothing_beyond n (Some r) e = let k = i.stores_hold.records n a.now r e in let o = k.old in absurd (omega arith)

  redo_ends : (c : Copy) → Redo a.disk a.log c → ((n : ℕ) → a.log n (suc c.version) ≡ None) → c ≡ current a
  redo_ends c r none = let k = redo_is c r in copy_is a.now a.hist c k.0 (not_above c.version a.now (λ p. further (i.stores_hold.reach c.version k.1 p)))
    where
      further : Logged a.log (suc c.version) → ⊥
      further l = let x = none l.node in let y = l.there in absurd (cc)

  pub durable_law : IsDurable a
  durable_law = (redo_reaches, redo_ends, λ n. nothing_beyond n (a.log n (suc a.now)) refl)

  pub logged_law : IsLoggedOnce a
  logged_law v p q =
      let l = i.stores_hold.reach v p q in
      (l, λ m r e. i.stores_hold.once m l.node (suc v) r l.ranges e l.there)

  pub alone_law : (t : TxId) → IsAlone a t
  alone_law t h = (λ u. other u (i.locks_hold.exclusive t u listed), λ n s. along IsShelf (i.locks_hold.no_rights t n listed) s)
    where
      listed : a.listed t a.era ≡ Some Exclusive
      listed = exclusive_lock (a.listed t) (a.right t.node) t a.era (a.home t) h (i.locks_hold.locks t a.era (omega arith) (along (λ x. InEra (lock_of x) a.era (a.reached t.node)) h (i.locks_hold.in_era t)))

      free : (u : TxId) (k : Lock) → a.listed u a.era ≡ None → InEra k a.era (a.reached u.node) → (a.era ≤ a.reached u.node → Locked (a.listed u a.era) (a.right u.node) a.era u k) → k ≡ Free
      free u Free n e l = refl
      free u (Registered m) n e l = absurd (covered_none (a.listed u a.era) (a.right u.node) a.era u m n (i.locks_hold.no_rights t u.node listed) (l e))
      free u UnderRight n e l = absurd (along IsShelf (i.locks_hold.no_rights t u.node listed) (l e))

      other : (u : TxId) → (a.listed u a.era ≡ None) ⊎ (u ≡ t) → (lock_of (a.home u) ≡ Free) ⊎ (u ≡ t)
      other u (inl n) = inl (free u (lock_of (a.home u)) n (i.locks_hold.in_era u) (λ p. i.locks_hold.locks u a.era (omega arith) p))
      other u (inr e) = inr e

  pub brings_law : (g : Sent) → BringsCurrent a g
  brings_law g p same w =
      let k = i.grants_hold.grants g p (omega arith) (waits_lives (a.home g.tx) g.mode w) in (k.version_now, k.copy)

  pub rights_law : RightsAreCurrent a
  rights_law n v e = along (RightOk a.era (a.slot n) a.disk (current a) (a.reached n) a.home n) e (i.grants_hold.rights n)

append_nothing : {A : Type 0} (xs : List A) → xs ≡ xs ++ []
append_nothing [] = refl
append_nothing (x ∷ xs) = ap (λ ys. x ∷ ys) (append_nothing xs)

stays_same : (a : Page) → HistoryStays a a
stays_same a = (omega arith, λ v p. refl, ([], append_nothing a.committed))

pub history_step : {a b : Page} → Step a b → HistoryStays a b
unfolding asking upgrading accepting taking_right keeping_right reading_under reading writing ending committing_reads committing granting giving spending returning dropping releasing releasing_change releasing_to_disk losing crashing falling purging burying lowering redoing reporting joining completing restoring flushing evicting cutting
history_step {a} (asks t m e) = stays_same a
history_step {a} (retells t m h e) = stays_same a
history_step {a} (upgrades t e) = stays_same a
history_step {a} (upgrades_reader t e) = stays_same a
history_step {a} (accepts g p r w) = stays_same a
history_step {a} (takes_right g h f r w) = stays_same a
history_step {a} (keeps_right g f r) = stays_same a
history_step {a} (reads_under t v c h r s e) = stays_same a
history_step {a} (reads t g) = stays_same a
history_step {a} (writes_piece t place piece h) = stays_same a
history_step {a} (ends_open t) = stays_same a
history_step {a} (grants_lock t m w s n l f k) = stays_same a
history_step {a} (gives_right t w s n r f k) = stays_same a
history_step {a} (revokes n v readers r e f u) = stays_same a
history_step {a} (turns n v e readers r p q f u h) = stays_same a
history_step {a} (returns_right n readers r) = stays_same a
history_step {a} (drops_right n r) = stays_same a
history_step {a} (drops_grant n g r) = stays_same a
history_step {a} (drops_answer n upto readers r f) = stays_same a
history_step {a} (releases t c h n) = stays_same a
history_step {a} (releases_change t s h) = stays_same a
history_step {a} (releases_to_disk t s h e) = stays_same a
history_step {a} (releases_early t c e p h) = stays_same a
history_step {a} (loses t c e h f) = stays_same a
history_step {a} (crashes n f) = stays_same a
history_step {a} (purges n dead s l d) = stays_same a
history_step {a} (redoes s) = stays_same a
history_step {a} (purges_early n e dead p d) = stays_same a
history_step {a} (buries e dead p closed) = stays_same a
history_step {a} (lowers n upto low readers r p q f) = stays_same a
history_step {a} (reports n e p q u) = stays_same a
history_step {a} (joins n e p q f) = stays_same a
history_step {a} (completes e o s p f) = stays_same a
history_step {a} (restores w p q r) = stays_same a
history_step {a} (flushes c d e p) = stays_same a
history_step {a} (evicts n f g) = stays_same a
history_step {a} (cuts n w p) = stays_same a
history_step {a} falls = stays_same a
history_step {a} (commits_reads t g w) = (omega arith, λ v p. refl, (a.script t ∷ [], refl))
history_step {a} (commits t ranges h w f) = (omega arith, λ v p. updn_other a.hist (suc a.now) v (a.image t) (λ e. absurd (omega arith)), (a.script t ∷ [], refl))

stays_on : (a b c : Page) → HistoryStays a b → HistoryStays b c → HistoryStays a c
stays_on a b c p q =
    let p0 = p.0 in let q0 = q.0 in
    (omega arith, λ v r. q.1 v (omega arith) ∙ p.1 v r, (p.2.0 ++ q.2.0, q.2.1 ∙ ap (λ x. x ++ q.2.0) p.2.1 ∙ append_assoc a.committed p.2.0 q.2.0))

pub history_law : (a b : Page) → Run a b → HistoryStays a b
history_law a b here = stays_same a
history_law a b (then {b = c} r s) = stays_on a c b (history_law a c r) (history_step s)
