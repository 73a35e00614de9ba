-- The steps of the authority keep the invariant.
use Rattle.std.specs.Prelude.{ℕ, ◌<◌, ◌≤◌, Bool, true, false, ◌&&◌, eqb, ◌≡◌, ◌≢◌, ◌⊎◌, List, Option, Some, None}
use Rattle.std.proofs.Common.{suc, refl, sym, ap, ◌∙◌, arith}
use Rattle.pcl_base.specs.declared.tx.TxId.{TxId}
use Rattle.pcl_base.specs.declared.tx.Mode.{Mode}
use Rattle.pcl_base.specs.declared.tx.Mode.TheVariants.{Shared, Exclusive}
use mathlib.Core.Logic.{inl, inr}
use Rattle.page_protocol.specs.Authority.{granting, Alone, Told, WordFits, giving, registered, spending, IsReading, with_shared, returning, dropping, releasing, releasing_change, releasing_to_disk, losing}
use Rattle.page_protocol.specs.Invariant.{Covers, Names, EndsOk, Locks, Grants, ChangeIs, Lags, SlotHas, SlotOk, ScriptOk, Accesses, Inv}
use Rattle.page_protocol.specs.State.{pick, same_tx, upd, updn, set_at, has, Word, Current, Image, OnDisk, Sent, NoRight, Flying, Shelf, Returning, Dead, Home, Fresh, Asking, Holding, HoldingAsks, Reading, ReadingAsks, Ended, Gone, Free, lock_of, Page, current, IsFresh, Lives, IsPast, IsClosed, IsShelf, version_of, told_copy}
use Rattle.page_protocol.specs.Bytes.{Copy}
use Rattle.page_protocol.proofs.Basics.{and_true, eqb_true, same_tx_true, same_tx_refl, eqb_refl, by_test, by_tx, by_node, pick_same, upd_same, updn_same, along, back, by_set}
use Rattle.page_protocol.proofs.AccessesKept.{accesses_homes, accesses_home, accesses_slots, slot_ok_now, slot_ok_registered, script_ok_registered}
use Rattle.page_protocol.proofs.LocksOne.{locks_free, locks_right, locks_unlist, locks_answer_dropped}
use Rattle.page_protocol.proofs.GrantsKept.{told_kept, asking_lives, Fades, fades_same, grants_homes, grants_home, grants_copies, grants_listed, grants_right, grants_more, fades_closed, fades_registered}
use Rattle.page_protocol.proofs.LocksTables.{locks_granted, locks_spent, locks_returned}
use Rattle.page_protocol.proofs.LocksEras.{closed_lock}
use Rattle.page_protocol.proofs.KeepsHomes.{copy_is, slot_set, keeps_home, stores_now}
use Rattle.page_protocol.proofs.EntryKept.{entry_kept, entry_homes, entry_now, entry_current, past_registered, change_registered, stores_disk, slot_has_now}

pub told_now : (cur : Copy) (slot : Option Copy) (v : ℕ) (h : Home) → ((k : SlotHas slot v) → slot ≡ Some cur) → Told v h → Lives h → SlotOk cur slot h → slot ≡ Some cur
told_now cur slot v Fresh f p l k = absurd l
told_now cur slot v (Asking m w) f p l k = f (along (λ x. SlotOk cur slot (Asking m x)) p k)
told_now cur slot v (Holding m) f p l k = k
told_now cur slot v HoldingAsks f p l k = k
told_now cur slot v Reading f p l k = k
told_now cur slot v ReadingAsks f p l k = k
told_now cur slot v (Ended c e) f p l k = absurd l
told_now cur slot v Gone f p l k = absurd l

pub covers_more : (l : Option Mode) (m k : Mode) → l ≢ Some Exclusive → Covers l k → Covers (Some m) k
covers_more None m k n c = absurd c
covers_more (Some Shared) Shared Shared n c = tt
covers_more (Some Shared) Exclusive Shared n c = tt
covers_more (Some Shared) m Exclusive n c = absurd c
covers_more (Some Exclusive) m k n c = absurd (n refl)

pub covers_itself : (m : Mode) → Covers (Some m) m
covers_itself Shared = tt
covers_itself Exclusive = tt

pub covers_shared : (b : Bool) (l : Option Mode) (k : Mode) → Covers l k → Covers (pick b (with_shared l) l) k
covers_shared b None k c = absurd c
covers_shared true (Some m) k c = c
covers_shared false (Some m) k c = c

pub ended_later : (era reached : ℕ) (l : ℕ → Option Mode) (h : Home) (c : Option ℕ) (e : ℕ) → h ≡ Ended c e → EndsOk era reached l h → (f : ℕ) → era < f → e < f → l f ≡ None
ended_later era reached l h None e p k f q r = (along (EndsOk era reached l) p k).1 f q r
ended_later era reached l h (Some v) e p k f q r = (along (EndsOk era reached l) p k).1 f q r

pub ended_now : (era now : ℕ) (h : Home) (v e : ℕ) → h ≡ Ended (Some v) e → era ≤ e → ChangeIs era now h → v ≡ now
ended_now era now h v e p q k = along (ChangeIs era now) p k q

pub none_ended : (h : Home) (c : Option ℕ) (e v : ℕ) → h ≡ Ended c e → IsPast h → c ≡ None → ⊥
none_ended h c e v p k q = along IsPast (p ∙ ap (λ x. Ended x e) q) k

module _ (blank : List ℕ) (a : Page) (i : Inv blank a) where
  pub entry_settled : a.served ≡ true → ((u : TxId) → a.listed u a.era ≢ Some Exclusive) → a.entry ≡ a.now
  entry_settled s nox = entry_now i.entry_holds s (λ u x p. nox u x)

  -- what a grant says of the copy is the current copy
  pub word_tells : (t : TxId) (w : Word) → a.served ≡ true → a.entry ≡ a.now → WordFits a t w → a.reached t.node ≤ a.era → Lives (a.home t)
      → told_copy w a.entry (a.slot t.node) a.disk ≡ Some (current a)
  word_tells t Current s same fits r l =
      told_now (current a) (a.slot t.node) a.entry (a.home t)
      (λ k. k.there ∙ ap Some (copy_is a.now a.hist k.copy (i.stores_hold.slots_are t.node k.copy k.there) (omega (arith, k.enough))))
      (fits r) l (i.accesses_hold.slots t)
  word_tells t (Image b) s same fits r l =
      let k = i.stores_hold.slots_are a.owner (record { version = a.entry; bytes = b }) fits in
      ap Some (copy_is a.now a.hist (record { version = a.entry; bytes = b }) k (omega arith))
  word_tells t OnDisk s same fits r l = ap Some (copy_is a.now a.hist a.disk i.stores_hold.disk_is (first (i.kept_holds.in_reach s)))
    where
      first : (a.entry ≤ a.disk.version) ⊎ ((a.dirty ≡ true) × SlotHas (a.slot a.owner) a.entry) → a.now ≤ a.disk.version
      first (inl p) = omega arith
      first (inr p) =
          let k = p.1 in let o = i.stores_hold.slots_are a.owner k.copy k.there in
          let e : k.copy.version ≡ a.entry = omega (arith, o.old, k.enough) in
          absurd (fits (ap version_of k.there ∙ ap Some e))

  pub keeps_grants : (t : TxId) (m : Mode) (w : Word) → a.served ≡ true → ((u : TxId) → a.listed u a.era ≢ Some Exclusive) → Alone a t m → (IsFresh (a.home t) → ⊥) → WordFits a t w → Inv blank (granting a t m w)
  unfolding granting
  keeps_grants t m w s nox alone unfresh fits =
      record {
        locks_hold = locks_granted i.locks_hold t m nox (λ e u. (along (Alone a t) e alone).0 u) (λ e n. (along (Alone a t) e alone).1 n);
        grants_hold = grants_more (grants_listed i.grants_hold (set_at a.listed t a.era (Some m)) (λ u k l c. covers u k c))
            (record { tx = t; mode = m; version = a.entry; word = w }) unfresh
            (λ r l. record {
              covered = back (λ x. Covers x m) there (covers_itself m);
              version_now = same;
              copy = word_tells t w s same fits r l;
            });
        entry_holds = entry_current i.entry_holds a.era a.served a.entry (set_at a.listed t a.era (Some m)) a.log a.home same i.entry_holds.changes;
        stores_hold = i.stores_hold;
        kept_holds = i.kept_holds;
        accesses_hold = i.accesses_hold;
      }
    where
      same : a.entry ≡ a.now
      same = entry_settled s nox

      covers : (u : TxId) (k : Mode) → Covers (a.listed u a.era) k → Covers (set_at a.listed t a.era (Some m) u a.era) k
      covers u k c = by_set (λ z f y. Covers (a.listed z a.era) k → Covers y k) a.listed t a.era (Some m) u a.era (λ x. covers_more (a.listed t a.era) m k (nox t) x) (λ x. x) c

      there : set_at a.listed t a.era (Some m) t a.era ≡ Some m
      there = pick_same (same_tx t t && eqb a.era a.era) (Some m) (a.listed t a.era) (rw (same_tx_refl t, eqb_refl a.era) refl)

  pub keeps_gives : (t : TxId) (w : Word) → a.served ≡ true → ((u : TxId) → a.listed u a.era ≢ Some Exclusive) → a.right t.node ≡ NoRight → (IsFresh (a.home t) → ⊥) → WordFits a t w → Inv blank (giving a t w)
  unfolding giving
  keeps_gives t w s nox r unfresh fits =
      record {
        locks_hold = locks_right i.locks_hold t.node (Flying (record { tx = t; mode = Shared; version = a.entry; word = w }))
            (λ u x. absurd (nox u x))
            (λ u e x. absurd (along (λ y. Names y e u) r x))
            (λ u k l x. absurd (along IsShelf r x))
            (λ x. absurd x);
        grants_hold = grants_right i.grants_hold t.node (Flying (record { tx = t; mode = Shared; version = a.entry; word = w }))
            (refl, unfresh, entry_settled s nox, λ q k. word_tells t w s (entry_settled s nox) fits q (asking_lives (a.home t) k));
        entry_holds = i.entry_holds;
        stores_hold = i.stores_hold;
        kept_holds = i.kept_holds;
        accesses_hold = i.accesses_hold;
      }

  pub keeps_spends : (n v upto : ℕ) (readers : List TxId) → a.right n ≡ Shelf v → a.reached n < upto
      → ((t : TxId) → t.node ≡ n → IsReading (a.home t) → has t readers ≡ true) → Inv blank (spending a n upto readers)
  unfolding spending
  keeps_spends n v upto readers r p named =
      record {
        locks_hold = locks_spent i.locks_hold n v upto readers r p named;
        grants_hold = grants_right (grants_homes i.grants_hold (λ t. pick (eqb t.node n) (registered (a.home t)) (a.home t))
            (λ t. by_test (eqb t.node n) (λ k. Fades (a.home t) k) (registered (a.home t)) (a.home t) (λ s. fades_registered (a.home t)) (λ s. fades_same (a.home t)))) n (Returning upto readers) tt;
        entry_holds = entry_homes i.entry_holds (λ t. pick (eqb t.node n) (registered (a.home t)) (a.home t))
            (λ t. by_test (eqb t.node n) (λ k. IsPast (a.home t) → IsPast k) (registered (a.home t)) (a.home t) (λ s. past_registered (a.home t)) (λ s q. q))
            (λ t. by_test (eqb t.node n) (λ k. ChangeIs a.era a.now (a.home t) → ChangeIs a.era a.now k) (registered (a.home t)) (a.home t) (λ s. change_registered a.era a.now (a.home t)) (λ s q. q));
        stores_hold = i.stores_hold;
        kept_holds = i.kept_holds;
        accesses_hold = accesses_homes i.accesses_hold (λ t. pick (eqb t.node n) (registered (a.home t)) (a.home t))
            (λ t. by_test (eqb t.node n) (λ k. SlotOk (current a) (a.slot t.node) (a.home t) → SlotOk (current a) (a.slot t.node) k) (registered (a.home t)) (a.home t) (λ s. slot_ok_registered (current a) (a.slot t.node) (a.home t)) (λ s q. q))
            (λ t. by_test (eqb t.node n) (λ k. ScriptOk (a.hist a.now) (a.script t) (a.image t) (a.home t) → ScriptOk (a.hist a.now) (a.script t) (a.image t) k) (registered (a.home t)) (a.home t) (λ s. script_ok_registered (a.hist a.now) (a.script t) (a.image t) (a.home t)) (λ s q. q));
      }

  pub keeps_returns : (n : ℕ) (readers : List TxId) → a.right n ≡ Returning (suc a.era) readers → Inv blank (returning a n readers)
  unfolding returning
  keeps_returns n readers r =
      record {
        locks_hold = locks_returned i.locks_hold n readers r;
        grants_hold = grants_right (grants_listed i.grants_hold (λ t e. pick (has t readers && eqb e a.era) (with_shared (a.listed t e)) (a.listed t e))
            (λ t m l c. covers_shared (has t readers && eqb a.era a.era) (a.listed t a.era) m c)) n NoRight tt;
        entry_holds = entry_kept i.entry_holds (λ t e. pick (has t readers && eqb e a.era) (with_shared (a.listed t e)) (a.listed t e)) a.home
            (λ t p x. (p, by_test (has t readers && eqb a.era a.era) (λ y. y ≡ Some Exclusive) (with_shared (a.listed t a.era)) (a.listed t a.era) (λ s. ap with_shared x) (λ s. x)))
            i.entry_holds.changes;
        stores_hold = i.stores_hold;
        kept_holds = i.kept_holds;
        accesses_hold = i.accesses_hold;
      }

  pub keeps_drops : (n : ℕ) → a.right n ≡ Dead → Inv blank (dropping a n)
  unfolding dropping
  keeps_drops n r =
      record {
        locks_hold = locks_right i.locks_hold n NoRight (λ t x. refl) (λ t e x. along (λ y. Names y e t) r x) (λ t k l x. along IsShelf r x) (λ x. absurd x);
        grants_hold = grants_right i.grants_hold n NoRight tt;
        entry_holds = i.entry_holds;
        stores_hold = i.stores_hold;
        kept_holds = i.kept_holds;
        accesses_hold = i.accesses_hold;
      }

  pub keeps_drops_grant : (n : ℕ) (g : Sent) → a.right n ≡ Flying g → Inv blank (dropping a n)
  unfolding dropping
  keeps_drops_grant n g r =
      record {
        locks_hold = locks_right i.locks_hold n NoRight (λ t x. refl) (λ t e x. along (λ y. Names y e t) r x) (λ t k l x. along IsShelf r x) (λ x. absurd x);
        grants_hold = grants_right i.grants_hold n NoRight tt;
        entry_holds = i.entry_holds;
        stores_hold = i.stores_hold;
        kept_holds = i.kept_holds;
        accesses_hold = i.accesses_hold;
      }

  pub keeps_drops_answer : (n upto : ℕ) (readers : List TxId) → a.right n ≡ Returning upto readers
      → ((t : TxId) → t.node ≡ n → has t readers ≡ true → IsClosed (a.home t) × ((f : ℕ) → a.era < f → a.listed t f ≡ None)) → Inv blank (dropping a n)
  unfolding dropping
  keeps_drops_answer n upto readers r closed =
      record {
        locks_hold = locks_answer_dropped i.locks_hold n upto readers r
            (λ t k h. (closed_lock (a.home t) (closed t k h).0, (closed t k h).1));
        grants_hold = grants_right i.grants_hold n NoRight tt;
        entry_holds = i.entry_holds;
        stores_hold = i.stores_hold;
        kept_holds = i.kept_holds;
        accesses_hold = i.accesses_hold;
      }

  -- a release, as far as locks and grants go
  released_locks : (t : TxId) (c : Option ℕ) (e : ℕ) → a.era ≤ e → a.home t ≡ Ended c e → Locks a.era a.reached (set_at a.listed t e None) a.right (upd a.home t Gone)
  released_locks t c e p h =
      locks_unlist (locks_free i.locks_hold t Gone refl tt) (λ u f. same_tx u t && eqb f e)
      (λ u f d. gone u f d (λ k. lock_of k ≡ Free) refl)
      (λ u f g d q. let w = and_true (same_tx u t) (eqb f e) d in let s = eqb_true f e w.1 in
      inl (back (λ x. a.listed x g ≡ None) (same_tx_true u t w.0) (ended_later a.era (a.reached t.node) (a.listed t) (a.home t) c e h (i.locks_hold.ends t) g (omega arith) (omega arith))))
      (λ u f k d. gone u f d (λ x. x ≡ Ended k f → ⊥) (λ x. absurd (cc)))
    where
      gone : (u : TxId) (f : ℕ) → (same_tx u t && eqb f e) ≡ true → (P : Home → Type 0) → P Gone → P (upd a.home t Gone u)
      gone u f d P p = back P (pick_same (same_tx u t) Gone (a.home u) (and_true (same_tx u t) (eqb f e) d).0) p

  released_grants : (t : TxId) (c : Option ℕ) (e : ℕ) → a.home t ≡ Ended c e → Grants a.era a.reached a.slot a.disk (current a) (set_at a.listed t e None) a.right (upd a.home t Gone) a.sent
  released_grants t c e h =
      grants_listed (grants_home i.grants_hold t Gone (back (λ x. Fades x Gone) h (fades_closed (Ended c e) Gone (λ l. l) (λ f. f)))) (set_at a.listed t e None)
      (λ u m l k. by_set (λ z f y. Lives (upd a.home t Gone z) → Covers (a.listed z f) m → Covers y m) a.listed t e None u a.era
      (λ x y. absurd (along Lives (upd_same a.home t Gone) x)) (λ x y. y) l k)

  released_changes : (t : TxId) (u : TxId) → ChangeIs a.era a.now (upd a.home t Gone u)
  released_changes t u = by_tx (λ v k. ChangeIs a.era a.now k) t u Gone (a.home u) tt (i.entry_holds.changes u)

  released_accesses : (t : TxId) → Accesses blank (current a) a.slot (upd a.home t Gone) a.script a.image a.committed
  released_accesses t = accesses_home i.accesses_hold t Gone tt tt

  pub keeps_releases : (t : TxId) (c : Option ℕ) → a.home t ≡ Ended c a.era → c ≢ Some (suc a.entry) → Inv blank (releasing a t a.era)
  unfolding releasing
  keeps_releases t c h none =
      record {
        locks_hold = released_locks t c a.era (omega arith) h;
        grants_hold = released_grants t c a.era h;
        entry_holds = record { version = λ s. lag (i.entry_holds.version s); changes = released_changes t };
        stores_hold = i.stores_hold;
        kept_holds = i.kept_holds;
        accesses_hold = released_accesses t;
      }
    where
      other : (l : Lags a.era a.now a.entry a.log a.listed a.home) → l.writer ≡ t → ⊥
      other l e = which c refl
        where
          which : (d : Option ℕ) → c ≡ d → ⊥
          which None q = none_ended (a.home t) c a.era 0 h (along (λ x. IsPast (a.home x)) e l.is_past) q
          which (Some v) q =
              let n = ended_now a.era a.now (a.home t) v a.era (h ∙ ap (λ x. Ended x a.era) q) (omega arith) (i.entry_holds.changes t) in
              none (q ∙ ap Some (n ∙ sym l.by_one))

      lag : (a.entry ≡ a.now) ⊎ Lags a.era a.now a.entry a.log a.listed a.home → (a.entry ≡ a.now) ⊎ Lags a.era a.now a.entry a.log (set_at a.listed t a.era None) (upd a.home t Gone)
      lag (inl e) = inl e
      lag (inr l) = inr (record {
        writer = l.writer;
        by_one = l.by_one;
        change = l.change;
        logged = l.logged;
        is_past = by_tx (λ v k. IsPast (a.home v) → IsPast k) t l.writer Gone (a.home l.writer) (λ x. tt) (λ x. x) l.is_past;
        holds = by_test (same_tx l.writer t && eqb a.era a.era) (λ y. y ≡ Some Exclusive) None (a.listed l.writer a.era)
            (λ d. absurd (other l (same_tx_true l.writer t (and_true (same_tx l.writer t) (eqb a.era a.era) d).0))) (λ d. l.holds);
      })

  pub keeps_releases_early : (t : TxId) (c : Option ℕ) (e : ℕ) → a.era < e → a.home t ≡ Ended c e → Inv blank (releasing a t e)
  unfolding releasing
  keeps_releases_early t c e p h =
      record {
        locks_hold = released_locks t c e (omega arith) h;
        grants_hold = released_grants t c e h;
        entry_holds = entry_kept i.entry_holds (set_at a.listed t e None) (upd a.home t Gone)
            (λ u q x. (
              by_tx (λ v k. IsPast (a.home v) → IsPast k) t u Gone (a.home u) (λ y. tt) (λ y. y) q,
              by_test (same_tx u t && eqb a.era e) (λ y. y ≡ Some Exclusive) None (a.listed u a.era)
                  (λ d. let s = eqb_true a.era e (and_true (same_tx u t) (eqb a.era e) d).1 in absurd (omega arith)) (λ d. x),
            ))
            (released_changes t);
        stores_hold = i.stores_hold;
        kept_holds = i.kept_holds;
        accesses_hold = released_accesses t;
      }

  pub keeps_loses : (t : TxId) (c : Option ℕ) (e : ℕ) → a.home t ≡ Ended c e → Inv blank (losing a t)
  unfolding losing
  keeps_loses t c e h =
      keeps_home blank a i t Gone (locks_free i.locks_hold t Gone refl tt)
      (back (λ x. Fades x Gone) h (fades_closed (Ended c e) Gone (λ l. l) (λ f. f))) (λ p. tt) tt tt tt

  -- the change that comes is the current copy
  change_copy : (t : TxId) → a.home t ≡ Ended (Some (suc a.entry)) a.era → suc a.entry ≡ a.now
  change_copy t h = ended_now a.era a.now (a.home t) (suc a.entry) a.era h (omega arith) (i.entry_holds.changes t)

  change_is : (t : TxId) → a.home t ≡ Ended (Some (suc a.entry)) a.era → Some (record { version = suc a.entry; bytes = a.hist (suc a.entry) }) ≡ Some (current a)
  change_is t h = let e = change_copy t h in λ j. Some (record { version = e j; bytes = a.hist (e j) })

  pub keeps_releases_change : (t : TxId) → a.served ≡ true → a.home t ≡ Ended (Some (suc a.entry)) a.era → Inv blank (releasing_change a t (suc a.entry))
  unfolding releasing_change
  keeps_releases_change t s h =
      record {
        locks_hold = released_locks t (Some (suc a.entry)) a.era (omega arith) h;
        grants_hold = grants_copies (released_grants t (Some (suc a.entry)) a.era h) (updn a.slot a.owner z) a.disk a.reached (λ n. omega arith)
            (λ u w v l e. told_kept w v (a.slot u.node) (updn a.slot a.owner z u.node) a.disk a.disk (current a) (λ y. slot_set a.slot a.owner u.node z (current a) (change_is t h) y) (λ y. y) e);
        entry_holds = entry_current i.entry_holds a.era a.served (suc a.entry) (set_at a.listed t a.era None) a.log (upd a.home t Gone) (change_copy t h) (released_changes t);
        stores_hold = stores_now blank a i a.owner z (change_is t h);
        kept_holds = record {
          disk_behind = λ q. let d = i.kept_holds.disk_behind q in omega arith;
          in_reach = λ q. inr (refl, record { copy = record { version = suc a.entry; bytes = a.hist (suc a.entry) }; there = updn_same a.slot a.owner z; enough = omega arith });
          dirty_served = λ q. s;
          dirty_new = λ q. let d = i.kept_holds.disk_behind s in record { copy = record { version = suc a.entry; bytes = a.hist (suc a.entry) }; there = updn_same a.slot a.owner z; enough = omega arith };
        };
        accesses_hold = accesses_slots (released_accesses t) (updn a.slot a.owner z)
            (λ u p. by_node (λ k y. k ≡ u.node → SlotOk (current a) y (upd a.home t Gone u)) a.owner u.node z (a.slot u.node)
            (λ k. slot_ok_now (current a) (a.slot u.node) z (upd a.home t Gone u) (change_is t h) (λ v x. slot_has_now i.stores_hold u.node z v (change_is t h) x) p) (λ k. p) refl);
      }
    where
      z : Option Copy
      z = Some (record { version = suc a.entry; bytes = a.hist (suc a.entry) })

  pub keeps_releases_to_disk : (t : TxId) → a.served ≡ true → a.home t ≡ Ended (Some (suc a.entry)) a.era → a.slot a.owner ≡ None → Inv blank (releasing_to_disk a t (suc a.entry))
  unfolding releasing_to_disk
  keeps_releases_to_disk t s h empty =
      record {
        locks_hold = released_locks t (Some (suc a.entry)) a.era (omega arith) h;
        grants_hold = grants_copies (released_grants t (Some (suc a.entry)) a.era h) a.slot d a.reached (λ n. omega arith)
            (λ u w v l e. told_kept w v (a.slot u.node) (a.slot u.node) a.disk d (current a) (λ y. y) (λ y. same) e);
        entry_holds = entry_current i.entry_holds a.era a.served (suc a.entry) (set_at a.listed t a.era None) a.log (upd a.home t Gone) (change_copy t h) (released_changes t);
        stores_hold = stores_disk i.stores_hold d (record { old = let e = change_copy t h in omega arith; same = refl }) (let q = i.kept_holds.disk_behind s in omega arith);
        kept_holds = record {
          disk_behind = λ q. omega arith;
          in_reach = λ q. inl (omega arith);
          dirty_served = i.kept_holds.dirty_served;
          dirty_new = λ q. let k = i.kept_holds.dirty_new q in absurd (let x = k.there in cc);
        };
        accesses_hold = released_accesses t;
      }
    where
      d : Copy
      d = record { version = suc a.entry; bytes = a.hist (suc a.entry) }

      same : d ≡ current a
      same = let e = change_copy t h in λ j. record { version = e j; bytes = a.hist (e j) }
