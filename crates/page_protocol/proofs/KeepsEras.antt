-- Losses of nodes and the eras of authority keep the invariant.
use Rattle.std.specs.Prelude.{ℕ, ◌<◌, ◌≤◌, Bool, true, ◌&&◌, eqb, ltb, ◌≡◌, ◌≢◌, ◌⊎◌, List, Option, Some, None}
use Rattle.std.proofs.Common.{suc, refl, sym, ap, ◌∙◌, arith}
use Rattle.pcl_base.specs.declared.tx.TxId.{TxId}
use Rattle.pcl_base.specs.declared.tx.Mode.TheVariants.{Exclusive}
use mathlib.Core.Logic.{inl, inr}
use Rattle.page_protocol.specs.Eras.{crashed, lost, crashing, falling, forgotten, IsDead, purging, redoing, with_report, reporting, joining, settled, completing}
use Rattle.page_protocol.specs.Invariant.{Covers, RightOk, ChangeIs, Lags, Entry, SlotHas, SlotOk, ScriptOk, Inv}
use Rattle.page_protocol.specs.State.{pick, updn, Right, NoRight, Flying, Shelf, Returning, Dead, Home, Fresh, Asking, Holding, HoldingAsks, Reading, ReadingAsks, Ended, Gone, lock_of, InEra, Page, current, Lives, IsPast, IsClosed, IsShelf, told_copy}
use Rattle.page_protocol.specs.Bytes.{Copy}
use Rattle.page_protocol.proofs.Basics.{and_true, eqb_true, eqb_same, by_test, by_node, pick_same, pick_other, updn_other, along, back}
use Rattle.page_protocol.proofs.AccessesKept.{accesses_homes, slot_ok_closed, closed_crashed, script_ok_crashed, slot_ok_forgotten, script_ok_forgotten}
use Rattle.page_protocol.proofs.LocksOne.{locks_unlist}
use Rattle.page_protocol.proofs.GrantsKept.{told_kept, closed_dead, Fades, fades_same, grants_homes, grants_copies, grants_listed, grants_right, fades_crashed, fades_forgotten}
use Rattle.page_protocol.proofs.LocksEras.{crashed_lock, forgotten_lock, forgotten_not, closed_lock, locks_crashed, locks_lost, locks_forgotten, report_old, locks_reported, locks_joined, locks_completed}
use Rattle.page_protocol.proofs.EntryKept.{entry_kept, entry_homes, entry_current, past_crashed, change_crashed, past_forgotten, change_forgotten, change_era, current_is, stores_slot, stores_disk, kept_fallen, kept_on_disk}

pub lost_ok : (era : ℕ) (slot : Option Copy) (disk cur : Copy) (reached : ℕ) (home : TxId → Home) (n : ℕ) (r : Right) → RightOk era slot disk cur reached home n (lost r)
lost_ok era slot disk cur reached home n NoRight = tt
lost_ok era slot disk cur reached home n (Flying g) = tt
lost_ok era slot disk cur reached home n (Shelf v) = tt
lost_ok era slot disk cur reached home n (Returning u rs) = tt
lost_ok era slot disk cur reached home n Dead = tt

pub settled_ok : (era next : ℕ) (slot z : Option Copy) (disk e cur : Copy) (reached : ℕ) (home : TxId → Home) (n : ℕ) (r : Right) → RightOk era slot disk cur reached home n r → RightOk next z e cur reached home n (settled next r)
settled_ok era next slot z disk e cur reached home n NoRight p = tt
settled_ok era next slot z disk e cur reached home n (Flying g) p = tt
settled_ok era next slot z disk e cur reached home n (Shelf v) p = p
settled_ok era next slot z disk e cur reached home n (Returning u rs) p = by_test (ltb next u) (λ r. RightOk next z e cur reached home n r) (Returning u rs) NoRight (λ s. tt) (λ s. tt)
settled_ok era next slot z disk e cur reached home n Dead p = tt

pub closed_forgotten : (e : ℕ) (h : Home) → IsClosed h → IsClosed (forgotten e h)
closed_forgotten e Fresh c = tt
closed_forgotten e (Asking m k) c = absurd c
closed_forgotten e (Holding m) c = absurd c
closed_forgotten e HoldingAsks c = absurd c
closed_forgotten e Reading c = absurd c
closed_forgotten e ReadingAsks c = absurd c
closed_forgotten e (Ended d f) c = by_test (eqb f e) IsClosed Gone (Ended d f) (λ s. tt) (λ s. tt)
closed_forgotten e Gone c = tt

module _ (blank : List ℕ) (a : Page) (i : Inv blank a) where
  pub keeps_crashes : (n : ℕ) → (a.served ≡ true → n ≢ a.owner) → Inv blank (crashing a n)
  unfolding crashing
  keeps_crashes n elsewhere =
      record {
        locks_hold = locks_lost (locks_crashed i.locks_hold n) n (λ t k. ap lock_of (pick_same (eqb t.node n) (crashed (a.home t)) (a.home t) (eqb_same t.node n k)) ∙ crashed_lock (a.home t));
        grants_hold = grants_right
            (grants_copies (grants_homes i.grants_hold (λ t. pick (eqb t.node n) (crashed (a.home t)) (a.home t))
            (λ t. by_test (eqb t.node n) (λ k. Fades (a.home t) k) (crashed (a.home t)) (a.home t) (λ s. fades_crashed (a.home t)) (λ s. fades_same (a.home t))))
            (updn a.slot n None) a.disk a.reached (λ m. omega arith)
            (λ t w v l e. by_test (eqb t.node n) (λ k. Lives k → told_copy w v (updn a.slot n None t.node) a.disk ≡ Some (current a)) (crashed (a.home t)) (a.home t)
            (λ s x. absurd (closed_dead (crashed (a.home t)) (closed_crashed (a.home t)) x))
            (λ s x. back (λ y. told_copy w v y a.disk ≡ Some (current a)) (pick_other (eqb t.node n) None (a.slot t.node) s) e) l))
            n (lost (a.right n)) (lost_ok a.era (updn a.slot n None n) a.disk (current a) (a.reached n) (λ t. pick (eqb t.node n) (crashed (a.home t)) (a.home t)) n (a.right n));
        entry_holds = entry_homes i.entry_holds (λ t. pick (eqb t.node n) (crashed (a.home t)) (a.home t))
            (λ t. by_test (eqb t.node n) (λ k. IsPast (a.home t) → IsPast k) (crashed (a.home t)) (a.home t) (λ s. past_crashed (a.home t)) (λ s q. q))
            (λ t. by_test (eqb t.node n) (λ k. ChangeIs a.era a.now (a.home t) → ChangeIs a.era a.now k) (crashed (a.home t)) (a.home t) (λ s. change_crashed a.era a.now (a.home t)) (λ s q. q));
        stores_hold = stores_slot i.stores_hold n None (λ c e. absurd (cc));
        kept_holds = record {
          disk_behind = i.kept_holds.disk_behind;
          in_reach = λ s. back (λ y. (a.entry ≤ a.disk.version) ⊎ ((a.dirty ≡ true) × SlotHas y a.entry)) (there s) (i.kept_holds.in_reach s);
          dirty_served = i.kept_holds.dirty_served;
          dirty_new = λ d. back (λ y. SlotHas y a.disk.version) (there (i.kept_holds.dirty_served d)) (i.kept_holds.dirty_new d);
        };
        accesses_hold = record {
          serial = i.accesses_hold.serial;
          slots = λ t. by_test (eqb t.node n) (λ k. SlotOk (current a) (updn a.slot n None t.node) k) (crashed (a.home t)) (a.home t)
              (λ s. slot_ok_closed (current a) (updn a.slot n None t.node) (crashed (a.home t)) (closed_crashed (a.home t)))
              (λ s. back (λ y. SlotOk (current a) y (a.home t)) (pick_other (eqb t.node n) None (a.slot t.node) s) (i.accesses_hold.slots t));
          scripts = λ t. by_test (eqb t.node n) (λ k. ScriptOk (a.hist a.now) (a.script t) (a.image t) k) (crashed (a.home t)) (a.home t)
              (λ s. script_ok_crashed (a.hist a.now) (a.script t) (a.image t) (a.home t) (i.accesses_hold.scripts t)) (λ s. i.accesses_hold.scripts t);
        };
      }
    where
      there : a.served ≡ true → updn a.slot n None a.owner ≡ a.slot a.owner
      there s = updn_other a.slot n a.owner None (λ e. elsewhere s (sym e))

  pub keeps_falls : Inv blank (falling a)
  unfolding falling
  keeps_falls =
      record {
        locks_hold = i.locks_hold;
        grants_hold = i.grants_hold;
        entry_holds = record { version = λ s. absurd (cc); changes = i.entry_holds.changes };
        stores_hold = i.stores_hold;
        kept_holds = kept_fallen a.entry a.disk (a.slot a.owner);
        accesses_hold = i.accesses_hold;
      }

  -- a purge, as far as the entry isn't concerned
  keeps_purge : (n e : ℕ) (dead : TxId → Bool) → a.era ≤ e → IsDead a n e dead
      → Entry a.era a.served a.now a.entry a.log (λ t f. pick (dead t && eqb f e) None (a.listed t f)) (λ t. pick (dead t) (forgotten e (a.home t)) (a.home t))
      → Inv blank (purging a e dead)
  unfolding purging
  keeps_purge n e dead p is entry =
      record {
        locks_hold = locks_unlist (locks_forgotten i.locks_hold e dead) (λ t f. dead t && eqb f e)
            (λ t f d. let w = and_true (dead t) (eqb f e) d in ap lock_of (pick_same (dead t) (forgotten e (a.home t)) (a.home t) w.0) ∙ forgotten_lock e (a.home t) ∙ closed_lock (a.home t) (is t w.0).1)
            (λ t f g d q. let w = and_true (dead t) (eqb f e) d in let s = eqb_true f e w.1 in inl ((is t w.0).2 g (omega arith)))
            (λ t f c d. let w = and_true (dead t) (eqb f e) d in let s = eqb_true f e w.1 in
            back (λ x. x ≢ Ended c f) (pick_same (dead t) (forgotten e (a.home t)) (a.home t) w.0) (back (λ x. forgotten e (a.home t) ≢ Ended c x) s (forgotten_not e (a.home t) c)));
        grants_hold = grants_listed (grants_homes i.grants_hold (λ t. pick (dead t) (forgotten e (a.home t)) (a.home t))
            (λ t. by_test (dead t) (λ k. Fades (a.home t) k) (forgotten e (a.home t)) (a.home t) (λ s. fades_forgotten e (a.home t)) (λ s. fades_same (a.home t))))
            (λ t f. pick (dead t && eqb f e) None (a.listed t f))
            (λ t m l c. by_test (dead t && eqb a.era e) (λ y. Covers y m) None (a.listed t a.era)
            (λ d. let w = and_true (dead t) (eqb a.era e) d in
            absurd (closed_dead (forgotten e (a.home t)) (closed_forgotten e (a.home t) (is t w.0).1) (along Lives (pick_same (dead t) (forgotten e (a.home t)) (a.home t) w.0) l)))
            (λ d. c));
        entry_holds = entry;
        stores_hold = i.stores_hold;
        kept_holds = i.kept_holds;
        accesses_hold = accesses_homes i.accesses_hold (λ t. pick (dead t) (forgotten e (a.home t)) (a.home t))
            (λ t. by_test (dead t) (λ k. SlotOk (current a) (a.slot t.node) (a.home t) → SlotOk (current a) (a.slot t.node) k) (forgotten e (a.home t)) (a.home t) (λ s. slot_ok_forgotten e (current a) (a.slot t.node) (a.home t)) (λ s q. q))
            (λ t. by_test (dead t) (λ k. ScriptOk (a.hist a.now) (a.script t) (a.image t) (a.home t) → ScriptOk (a.hist a.now) (a.script t) (a.image t) k) (forgotten e (a.home t)) (a.home t) (λ s. script_ok_forgotten e (a.hist a.now) (a.script t) (a.image t) (a.home t)) (λ s q. q));
      }

  purged_past : (e : ℕ) (dead : TxId → Bool) (t : TxId) → IsPast (a.home t) → IsPast (pick (dead t) (forgotten e (a.home t)) (a.home t))
  purged_past e dead t p = by_test (dead t) IsPast (forgotten e (a.home t)) (a.home t) (λ s. past_forgotten e (a.home t) p) (λ s. p)

  purged_change : (e : ℕ) (dead : TxId → Bool) (t : TxId) → ChangeIs a.era a.now (pick (dead t) (forgotten e (a.home t)) (a.home t))
  purged_change e dead t = by_test (dead t) (ChangeIs a.era a.now) (forgotten e (a.home t)) (a.home t) (λ s. change_forgotten a.era a.now e (a.home t) (i.entry_holds.changes t)) (λ s. i.entry_holds.changes t)

  pub keeps_purges : (n : ℕ) (dead : TxId → Bool) → a.log n (suc a.entry) ≡ None → IsDead a n a.era dead → Inv blank (purging a a.era dead)
  keeps_purges n dead none is =
      keeps_purge n a.era dead (omega arith) is (record { version = λ s. lag (i.entry_holds.version s); changes = purged_change a.era dead })
    where
      alive : (l : Lags a.era a.now a.entry a.log a.listed a.home) → dead l.writer ≡ true → ⊥
      alive l d =
          let k = (is l.writer d).0 in
          let x : a.log n (suc a.entry) ≡ Some l.change = back (λ v. a.log n v ≡ Some l.change) l.by_one (along (λ m. a.log m a.now ≡ Some l.change) k l.logged) in
          absurd (cc)

      lag : (a.entry ≡ a.now) ⊎ Lags a.era a.now a.entry a.log a.listed a.home
          → (a.entry ≡ a.now) ⊎ Lags a.era a.now a.entry a.log (λ t f. pick (dead t && eqb f a.era) None (a.listed t f)) (λ t. pick (dead t) (forgotten a.era (a.home t)) (a.home t))
      lag (inl e) = inl e
      lag (inr l) = inr (record {
        writer = l.writer;
        by_one = l.by_one;
        change = l.change;
        logged = l.logged;
        is_past = purged_past a.era dead l.writer l.is_past;
        holds = by_test (dead l.writer && eqb a.era a.era) (λ y. y ≡ Some Exclusive) None (a.listed l.writer a.era)
            (λ d. absurd (alive l (and_true (dead l.writer) (eqb a.era a.era) d).0)) (λ d. l.holds);
      })

  pub keeps_purges_early : (n e : ℕ) (dead : TxId → Bool) → a.era < e → IsDead a n e dead → Inv blank (purging a e dead)
  keeps_purges_early n e dead p is =
      keeps_purge n e dead (omega arith) is
      (entry_kept i.entry_holds (λ t f. pick (dead t && eqb f e) None (a.listed t f)) (λ t. pick (dead t) (forgotten e (a.home t)) (a.home t))
      (λ t q x. (
        purged_past e dead t q,
        by_test (dead t && eqb a.era e) (λ y. y ≡ Some Exclusive) None (a.listed t a.era)
            (λ d. let s = eqb_true a.era e (and_true (dead t) (eqb a.era e) d).1 in absurd (omega arith)) (λ d. x),
      ))
      (purged_change e dead))

  pub keeps_redoes : Inv blank (redoing a)
  unfolding redoing
  keeps_redoes =
      record {
        locks_hold = i.locks_hold;
        grants_hold = grants_copies i.grants_hold a.slot (current a) a.reached (λ n. omega arith)
            (λ t w v l e. told_kept w v (a.slot t.node) (a.slot t.node) a.disk (current a) (current a) (λ y. y) (λ y. refl) e);
        entry_holds = entry_current i.entry_holds a.era a.served a.now a.listed a.log a.home refl i.entry_holds.changes;
        stores_hold = stores_disk i.stores_hold (current a) (current_is i.stores_hold) (let o = i.stores_hold.disk_is.old in o);
        kept_holds = kept_on_disk a.served a.now (current a) (a.slot a.owner) refl;
        accesses_hold = i.accesses_hold;
      }

  pub keeps_reports : (n e : ℕ) → a.era ≤ a.reached n → a.reached n < e → Inv blank (reporting a n e)
  unfolding reporting
  keeps_reports n e p q =
      record {
        locks_hold = locks_reported i.locks_hold n e p q;
        grants_hold = grants_listed (grants_copies i.grants_hold a.slot a.disk (updn a.reached n e)
            (λ m. by_node (λ k y. a.reached k ≤ y) n m e (a.reached m) (omega arith) (omega arith)) (λ t w v l x. x))
            (with_report a.reached a.home a.listed n e)
            (λ t m l c. back (λ y. Covers y m) (report_old i.locks_hold n e p t) c);
        entry_holds = entry_kept i.entry_holds (with_report a.reached a.home a.listed n e) a.home
            (λ t x y. (x, report_old i.locks_hold n e p t ∙ y)) i.entry_holds.changes;
        stores_hold = i.stores_hold;
        kept_holds = i.kept_holds;
        accesses_hold = i.accesses_hold;
      }

  pub keeps_joins : (n e : ℕ) → a.era ≤ e → a.reached n ≤ e → ((t : TxId) → t.node ≡ n → IsClosed (a.home t)) → Inv blank (joining a n e)
  unfolding joining
  keeps_joins n e p q closed =
      record {
        locks_hold = locks_joined i.locks_hold n e p q closed;
        grants_hold = grants_copies i.grants_hold a.slot a.disk (updn a.reached n e)
            (λ m. by_node (λ k y. a.reached k ≤ y) n m e (a.reached m) q (omega arith)) (λ t w v l x. x);
        entry_holds = i.entry_holds;
        stores_hold = i.stores_hold;
        kept_holds = i.kept_holds;
        accesses_hold = i.accesses_hold;
      }

  pub keeps_completes : (e o : ℕ) → a.era < e → ((t : TxId) → InEra (lock_of (a.home t)) e (a.reached t.node)) → ((n : ℕ) → IsShelf (a.right n) → e ≤ a.reached n) → Inv blank (completing a e o)
  unfolding completing
  keeps_completes e o p all shelves =
      record {
        locks_hold = locks_completed i.locks_hold e p all shelves;
        grants_hold = record {
          grants = λ g x. absurd x;
          asked = λ g x. absurd x;
          rights = λ n. settled_ok a.era e (a.slot n) (a.slot n) a.disk (current a) (current a) (a.reached n) a.home n (a.right n) (i.grants_hold.rights n);
        };
        entry_holds = entry_current i.entry_holds e true a.now a.listed a.log a.home refl (λ t. change_era a.era e a.now (a.home t) (omega arith) (i.entry_holds.changes t));
        stores_hold = stores_disk i.stores_hold (current a) (current_is i.stores_hold) (let k = i.stores_hold.disk_is.old in k);
        kept_holds = kept_on_disk true a.now (current a) (a.slot o) refl;
        accesses_hold = i.accesses_hold;
      }
