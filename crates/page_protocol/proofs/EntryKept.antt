-- The entry, the stores and the owner's copy after the changes of a step.
use Rattle.std.specs.Prelude.{ℕ, ◌≤◌, Bool, true, false, ◌&&◌, eqb, leb, ◌≡◌, ◌⊎◌, List, Option, Some, None}
use Rattle.std.proofs.Common.{suc, refl, arith}
use Rattle.pcl_base.specs.declared.tx.TxId.{TxId}
use Rattle.pcl_base.specs.declared.tx.Mode.{Mode}
use Rattle.pcl_base.specs.declared.tx.Mode.TheVariants.{Exclusive}
use mathlib.Core.Logic.{inl, inr}
use Rattle.page_protocol.specs.Authority.{registered}
use Rattle.page_protocol.specs.Eras.{crashed, forgotten}
use Rattle.page_protocol.specs.Invariant.{ChangeIs, Lags, Entry, IsCopy, Stores, SlotHas, Kept}
use Rattle.page_protocol.specs.Homes.{ended}
use Rattle.page_protocol.specs.State.{pick, upd, updn, Home, Fresh, Asking, Holding, HoldingAsks, Reading, ReadingAsks, Ended, Gone, IsPast}
use Rattle.page_protocol.specs.Bytes.{Copy, Ranges}
use Rattle.page_protocol.proofs.Basics.{and_true, leb_true, by_test, by_tx, by_node}

module _ {era : ℕ} {served : Bool} {now entry : ℕ} {log : ℕ → ℕ → Option Ranges} {listed : TxId → ℕ → Option Mode} {home : TxId → Home} (i : Entry era served now entry log listed home) where
  -- homes and tables change, and the writer whose change is to come stays
  pub entry_kept : (table : TxId → ℕ → Option Mode) (next : TxId → Home)
      → ((t : TxId) → IsPast (home t) → listed t era ≡ Some Exclusive → (IsPast (next t)) × (table t era ≡ Some Exclusive))
      → ((t : TxId) → ChangeIs era now (next t))
      → Entry era served now entry log table next
  entry_kept table next past is = record { version = λ s. lag (i.version s); changes = is }
    where
      lag : (entry ≡ now) ⊎ Lags era now entry log listed home → (entry ≡ now) ⊎ Lags era now entry log table next
      lag (inl e) = inl e
      lag (inr l) = let p = past l.writer l.is_past l.holds in
          inr (record { writer = l.writer; holds = p.1; is_past = p.0; by_one = l.by_one; change = l.change; logged = l.logged })

  pub entry_home : (t : TxId) (h : Home) → (IsPast (home t) → IsPast h) → ChangeIs era now h → Entry era served now entry log listed (upd home t h)
  entry_home t h past is =
      entry_kept listed (upd home t h)
      (λ u p x. (by_tx (λ v k. IsPast (home v) → IsPast k) t u h (home u) past (λ q. q) p, x))
      (λ u. by_tx (λ v k. ChangeIs era now k) t u h (home u) is (i.changes u))

  pub entry_homes : (next : TxId → Home) → ((t : TxId) → IsPast (home t) → IsPast (next t)) → ((t : TxId) → ChangeIs era now (home t) → ChangeIs era now (next t)) → Entry era served now entry log listed next
  entry_homes next past is = entry_kept listed next (λ t p x. (past t p, x)) (λ t. is t (i.changes t))

  -- where nobody holds exclusively but one that lives, the entry is current
  pub entry_now : served ≡ true → ((t : TxId) → listed t era ≡ Some Exclusive → IsPast (home t) → ⊥) → entry ≡ now
  entry_now s none = first (i.version s)
    where
      first : (entry ≡ now) ⊎ Lags era now entry log listed home → entry ≡ now
      first (inl e) = e
      first (inr l) = absurd (none l.writer l.holds l.is_past)

  pub entry_not_ahead : served ≡ true → entry ≤ now
  entry_not_ahead s = first (i.version s)
    where
      first : (entry ≡ now) ⊎ Lags era now entry log listed home → entry ≤ now
      first (inl e) = omega arith
      first (inr l) = omega (arith, l.by_one)

  pub entry_near : served ≡ true → (entry ≡ now) ⊎ (suc entry ≡ now)
  entry_near s = first (i.version s)
    where
      first : (entry ≡ now) ⊎ Lags era now entry log listed home → (entry ≡ now) ⊎ (suc entry ≡ now)
      first (inl e) = inl e
      first (inr l) = inr l.by_one

  -- the entry gets the current version
  pub entry_current : (e : ℕ) (on : Bool) (v : ℕ) (table : TxId → ℕ → Option Mode) (l : ℕ → ℕ → Option Ranges) (next : TxId → Home) → v ≡ now → ((t : TxId) → ChangeIs e now (next t)) → Entry e on now v l table next
  entry_current e on v table l next same is = record { version = λ s. inl same; changes = is }

pub past_ended : (h : Home) (e : ℕ) → IsPast h → IsPast (ended h e)
past_ended Fresh e p = absurd p
past_ended (Asking m k) e p = absurd p
past_ended (Holding m) e p = absurd p
past_ended HoldingAsks e p = absurd p
past_ended Reading e p = absurd p
past_ended ReadingAsks e p = absurd p
past_ended (Ended c f) e p = p
past_ended Gone e p = p

pub change_ended : (era now : ℕ) (h : Home) (e : ℕ) → ChangeIs era now h → ChangeIs era now (ended h e)
change_ended era now Fresh e p = tt
change_ended era now (Asking m k) e p = tt
change_ended era now (Holding m) e p = tt
change_ended era now HoldingAsks e p = tt
change_ended era now Reading e p = tt
change_ended era now ReadingAsks e p = tt
change_ended era now (Ended c f) e p = p
change_ended era now Gone e p = tt

pub past_registered : (h : Home) → IsPast h → IsPast (registered h)
past_registered Fresh p = p
past_registered (Asking m k) p = p
past_registered (Holding m) p = p
past_registered HoldingAsks p = p
past_registered Reading p = p
past_registered ReadingAsks p = p
past_registered (Ended c f) p = p
past_registered Gone p = p

pub change_registered : (era now : ℕ) (h : Home) → ChangeIs era now h → ChangeIs era now (registered h)
change_registered era now Fresh p = tt
change_registered era now (Asking m k) p = tt
change_registered era now (Holding m) p = tt
change_registered era now HoldingAsks p = tt
change_registered era now Reading p = tt
change_registered era now ReadingAsks p = tt
change_registered era now (Ended c f) p = p
change_registered era now Gone p = tt

pub past_crashed : (h : Home) → IsPast h → IsPast (crashed h)
past_crashed Fresh p = p
past_crashed (Asking m k) p = absurd p
past_crashed (Holding m) p = absurd p
past_crashed HoldingAsks p = absurd p
past_crashed Reading p = absurd p
past_crashed ReadingAsks p = absurd p
past_crashed (Ended c f) p = p
past_crashed Gone p = p

pub change_crashed : (era now : ℕ) (h : Home) → ChangeIs era now h → ChangeIs era now (crashed h)
change_crashed era now Fresh p = tt
change_crashed era now (Asking m k) p = tt
change_crashed era now (Holding m) p = tt
change_crashed era now HoldingAsks p = tt
change_crashed era now Reading p = tt
change_crashed era now ReadingAsks p = tt
change_crashed era now (Ended c f) p = p
change_crashed era now Gone p = tt

pub past_forgotten : (e : ℕ) (h : Home) → IsPast h → IsPast (forgotten e h)
past_forgotten e Fresh p = p
past_forgotten e (Asking m k) p = p
past_forgotten e (Holding m) p = p
past_forgotten e HoldingAsks p = p
past_forgotten e Reading p = p
past_forgotten e ReadingAsks p = p
past_forgotten e (Ended c f) p = by_test (eqb f e) IsPast Gone (Ended c f) (λ s. tt) (λ s. p)
past_forgotten e Gone p = p

pub change_forgotten : (era now e : ℕ) (h : Home) → ChangeIs era now h → ChangeIs era now (forgotten e h)
change_forgotten era now e Fresh p = tt
change_forgotten era now e (Asking m k) p = tt
change_forgotten era now e (Holding m) p = tt
change_forgotten era now e HoldingAsks p = tt
change_forgotten era now e Reading p = tt
change_forgotten era now e ReadingAsks p = tt
change_forgotten era now e (Ended c f) p = by_test (eqb f e) (ChangeIs era now) Gone (Ended c f) (λ s. tt) (λ s. p)
change_forgotten era now e Gone p = tt

pub change_era : (era next now : ℕ) (h : Home) → era ≤ next → ChangeIs era now h → ChangeIs next now h
change_era era next now Fresh q p = tt
change_era era next now (Asking m k) q p = tt
change_era era next now (Holding m) q p = tt
change_era era next now HoldingAsks q p = tt
change_era era next now Reading q p = tt
change_era era next now ReadingAsks q p = tt
change_era era next now (Ended None f) q p = tt
change_era era next now (Ended (Some v) f) q p = λ r. p (omega arith)
change_era era next now Gone q p = tt

module _ {now : ℕ} {hist : ℕ → List ℕ} {disk : Copy} {slot : ℕ → Option Copy} {log : ℕ → ℕ → Option Ranges} (i : Stores now hist disk slot log) where
  pub current_is : IsCopy now hist (record { version = now; bytes = hist now })
  current_is = record { old = omega arith; same = refl }

  pub stores_slot : (n : ℕ) (s : Option Copy) → ((c : Copy) → s ≡ Some c → IsCopy now hist c) → Stores now hist disk (updn slot n s) log
  stores_slot n s is =
      record {
        disk_is = i.disk_is;
        records = i.records;
        once = i.once;
        reach = i.reach;
        slots_are = λ m c e. by_node (λ k y. y ≡ Some c → IsCopy now hist c) n m s (slot m) (is c) (i.slots_are m c) e;
      }

  pub stores_disk : (d : Copy) → IsCopy now hist d → disk.version ≤ d.version → Stores now hist d slot log
  stores_disk d is more =
      record {
        disk_is = is;
        records = i.records;
        once = i.once;
        slots_are = i.slots_are;
        reach = λ v p q. i.reach v (omega arith) q;
      }

  -- an old copy in a slot is no newer than the current one
  pub slot_has_now : (n : ℕ) (s : Option Copy) (v : ℕ) → s ≡ Some (record { version = now; bytes = hist now }) → SlotHas (slot n) v → SlotHas s v
  slot_has_now n s v e h = let o = i.slots_are n h.copy h.there in
      record { copy = record { version = now; bytes = hist now }; there = e; enough = omega (arith, h.enough, o.old) }

  pub stores_cut : (n w : ℕ) → w ≤ disk.version → Stores now hist disk slot (λ m v. pick (eqb m n && leb v w) None (log m v))
  stores_cut n w p =
      record {
        disk_is = i.disk_is;
        slots_are = i.slots_are;
        records = λ m v r e. i.records m v r (was m (suc v) r e);
        once = λ m k v r s e f. i.once m k v r s (was m v r e) (was k v s f);
        reach = λ v a b. let l = i.reach v a b in
            record {
              node = l.node;
              ranges = l.ranges;
              there = by_test (eqb l.node n && leb (suc v) w) (λ y. y ≡ Some l.ranges) None (log l.node (suc v))
                  (λ s. let x = and_true (eqb l.node n) (leb (suc v) w) s in let y = leb_true (suc v) w x.1 in absurd (omega arith)) (λ s. l.there);
            };
      }
    where
      was : (m v : ℕ) (r : Ranges) → pick (eqb m n && leb v w) None (log m v) ≡ Some r → log m v ≡ Some r
      was m v r = by_test (eqb m n && leb v w) (λ y. y ≡ Some r → log m v ≡ Some r) None (log m v) (λ s e. absurd (cc)) (λ s e. e)

module _ {served dirty : Bool} {entry : ℕ} {disk : Copy} {slot : Option Copy} (i : Kept served dirty entry disk slot) where
  pub kept_slot : (s : Option Copy) → ((v : ℕ) → SlotHas slot v → SlotHas s v) → Kept served dirty entry disk s
  kept_slot s more =
      record {
        disk_behind = i.disk_behind;
        dirty_served = i.dirty_served;
        in_reach = λ p. reach (i.in_reach p);
        dirty_new = λ p. more disk.version (i.dirty_new p);
      }
    where
      reach : (entry ≤ disk.version) ⊎ ((dirty ≡ true) × SlotHas slot entry) → (entry ≤ disk.version) ⊎ ((dirty ≡ true) × SlotHas s entry)
      reach (inl p) = inl p
      reach (inr p) = inr (p.0, more entry p.1)

-- nothing is dirty, and nobody serves
pub kept_fallen : (entry : ℕ) (disk : Copy) (slot : Option Copy) → Kept false false entry disk slot
kept_fallen entry disk slot = record { disk_behind = λ p. absurd (cc); in_reach = λ p. absurd (cc); dirty_served = λ p. absurd (cc); dirty_new = λ p. absurd (cc) }

-- the disk has the entry's version
pub kept_on_disk : (served : Bool) (entry : ℕ) (disk : Copy) (slot : Option Copy) → disk.version ≡ entry → Kept served false entry disk slot
kept_on_disk served entry disk slot e = record { disk_behind = λ p. omega arith; in_reach = λ p. inl (omega arith); dirty_served = λ p. absurd (cc); dirty_new = λ p. absurd (cc) }
