-- What happens to the page on disk, to slots and to logs keeps the invariant.
use Rattle.std.specs.Prelude.{ℕ, ◌≤◌, true, false, ◌&&◌, eqb, leb, ◌≡◌, ◌⊎◌, List, Some, None}
use Rattle.std.proofs.Common.{refl, sym, ap, ◌∙◌, arith}
use Rattle.pcl_base.specs.declared.tx.TxId.{TxId}
use mathlib.Core.Logic.{inl, inr}
use Rattle.page_protocol.specs.Invariant.{Grants, Lags, IsCopy, SlotHas, SlotOk, Inv}
use Rattle.page_protocol.specs.State.{pick, updn, Home, Page, current, Lives, IsClosed, told_copy}
use Rattle.page_protocol.specs.Bytes.{Copy}
use Rattle.page_protocol.specs.Storage.{restoring, flushing, evicting, cutting}
use Rattle.page_protocol.proofs.Basics.{and_true, leb_true, by_test, by_node, updn_other, back}
use Rattle.page_protocol.proofs.AccessesKept.{accesses_slots, slot_ok_closed}
use Rattle.page_protocol.proofs.GrantsKept.{told_kept, closed_dead, grants_copies}
use Rattle.page_protocol.proofs.KeepsHomes.{copy_is}
use Rattle.page_protocol.proofs.EntryKept.{stores_slot, stores_disk, stores_cut}

pub closed_told : (h : Home) → IsClosed h → Lives h → ⊥
closed_told h c l = closed_dead h c l

module _ (blank : List ℕ) (a : Page) (i : Inv blank a) where
  -- a newer disk is the current copy where the disk was
  disk_now : (d : Copy) → IsCopy a.now a.hist d → a.disk.version ≤ d.version → a.disk ≡ current a → d ≡ current a
  disk_now d is more e = let v = ap (λ (c : Copy). c.version) e in copy_is a.now a.hist d is (omega arith)

  disk_grants : (d : Copy) → IsCopy a.now a.hist d → a.disk.version ≤ d.version → Grants a.era a.reached a.slot d (current a) a.listed a.right a.home a.sent
  disk_grants d is more =
      grants_copies i.grants_hold a.slot d a.reached (λ n. omega arith)
      (λ t w v l e. told_kept w v (a.slot t.node) (a.slot t.node) a.disk d (current a) (λ y. y) (disk_now d is more) e)

  pub keeps_restores : (w : ℕ) → a.disk.version ≤ w → w ≤ a.now → (a.served ≡ true → w ≤ a.entry) → Inv blank (restoring a w)
  unfolding restoring
  keeps_restores w p q r =
      record {
        locks_hold = i.locks_hold;
        grants_hold = disk_grants (record { version = w; bytes = a.hist w }) (record { old = q; same = refl }) p;
        entry_holds = i.entry_holds;
        stores_hold = stores_disk i.stores_hold (record { version = w; bytes = a.hist w }) (record { old = q; same = refl }) p;
        kept_holds = record {
          disk_behind = r;
          in_reach = λ s. reach (i.kept_holds.in_reach s);
          dirty_served = i.kept_holds.dirty_served;
          dirty_new = λ d. new d (i.kept_holds.dirty_served d) (i.kept_holds.in_reach (i.kept_holds.dirty_served d));
        };
        accesses_hold = i.accesses_hold;
      }
    where
      reach : (a.entry ≤ a.disk.version) ⊎ ((a.dirty ≡ true) × SlotHas (a.slot a.owner) a.entry) → (a.entry ≤ w) ⊎ ((a.dirty ≡ true) × SlotHas (a.slot a.owner) a.entry)
      reach (inl x) = inl (omega arith)
      reach (inr x) = inr x

      less : (x y : ℕ) → y ≤ x → SlotHas (a.slot a.owner) x → SlotHas (a.slot a.owner) y
      less x y l k = record { copy = k.copy; there = k.there; enough = omega (arith, k.enough) }

      new : a.dirty ≡ true → a.served ≡ true → (a.entry ≤ a.disk.version) ⊎ ((a.dirty ≡ true) × SlotHas (a.slot a.owner) a.entry) → SlotHas (a.slot a.owner) w
      new d s (inl x) = less a.disk.version w (let y = r s in omega arith) (i.kept_holds.dirty_new d)
      new d s (inr x) = less a.entry w (r s) x.1

  pub keeps_flushes : (c : Copy) → a.dirty ≡ true → a.slot a.owner ≡ Some c → c.version ≤ a.entry → Inv blank (flushing a c)
  unfolding flushing
  keeps_flushes c d e p =
      record {
        locks_hold = i.locks_hold;
        grants_hold = disk_grants c (i.stores_hold.slots_are a.owner c e) (has_version a.disk.version (i.kept_holds.dirty_new d));
        entry_holds = i.entry_holds;
        stores_hold = stores_disk i.stores_hold c (i.stores_hold.slots_are a.owner c e) (has_version a.disk.version (i.kept_holds.dirty_new d));
        kept_holds = record {
          disk_behind = λ s. p;
          in_reach = λ s. inl (reach (i.kept_holds.in_reach s));
          dirty_served = λ x. absurd (cc);
          dirty_new = λ x. absurd (cc);
        };
        accesses_hold = i.accesses_hold;
      }
    where
      has_version : (v : ℕ) → SlotHas (a.slot a.owner) v → v ≤ c.version
      has_version v k = let same : k.copy ≡ c = let z = sym k.there ∙ e in cc in let w = ap (λ (x : Copy). x.version) same in omega (arith, k.enough)

      reach : (a.entry ≤ a.disk.version) ⊎ ((a.dirty ≡ true) × SlotHas (a.slot a.owner) a.entry) → a.entry ≤ c.version
      reach (inl x) = let y = has_version a.disk.version (i.kept_holds.dirty_new d) in omega arith
      reach (inr x) = has_version a.entry x.1

  pub keeps_evicts : (n : ℕ) → (n ≡ a.owner → a.dirty ≡ false) → ((t : TxId) → t.node ≡ n → IsClosed (a.home t)) → Inv blank (evicting a n)
  unfolding evicting
  keeps_evicts n clean closed =
      record {
        locks_hold = i.locks_hold;
        grants_hold = grants_copies i.grants_hold (updn a.slot n None) a.disk a.reached (λ m. omega arith)
            (λ t w v l e. by_node (λ k y. k ≡ t.node → told_copy w v (a.slot t.node) a.disk ≡ Some (current a) → told_copy w v y a.disk ≡ Some (current a)) n t.node None (a.slot t.node)
            (λ k x. absurd (closed_dead (a.home t) (closed t (sym k)) l)) (λ k x. x) refl e);
        entry_holds = i.entry_holds;
        stores_hold = stores_slot i.stores_hold n None (λ c e. absurd (cc));
        kept_holds = record {
          disk_behind = i.kept_holds.disk_behind;
          in_reach = λ s. reach (i.kept_holds.in_reach s);
          dirty_served = i.kept_holds.dirty_served;
          dirty_new = λ d. back (λ y. SlotHas y a.disk.version) (there d) (i.kept_holds.dirty_new d);
        };
        accesses_hold = accesses_slots i.accesses_hold (updn a.slot n None)
            (λ t p. by_node (λ k y. k ≡ t.node → SlotOk (current a) y (a.home t)) n t.node None (a.slot t.node)
            (λ k. slot_ok_closed (current a) None (a.home t) (closed t (sym k))) (λ k. p) refl);
      }
    where
      there : a.dirty ≡ true → updn a.slot n None a.owner ≡ a.slot a.owner
      there d = updn_other a.slot n a.owner None (λ e. absurd (let z = clean (sym e) in cc))

      reach : (a.entry ≤ a.disk.version) ⊎ ((a.dirty ≡ true) × SlotHas (a.slot a.owner) a.entry) → (a.entry ≤ a.disk.version) ⊎ ((a.dirty ≡ true) × SlotHas (updn a.slot n None a.owner) a.entry)
      reach (inl x) = inl x
      reach (inr x) = inr (x.0, back (λ y. SlotHas y a.entry) (there x.0) x.1)

  pub keeps_cuts : (n w : ℕ) → w ≤ a.disk.version → Inv blank (cutting a n w)
  unfolding cutting
  keeps_cuts n w p =
      record {
        locks_hold = i.locks_hold;
        grants_hold = i.grants_hold;
        entry_holds = record { version = λ s. lag s (i.entry_holds.version s); changes = i.entry_holds.changes };
        stores_hold = stores_cut i.stores_hold n w p;
        kept_holds = i.kept_holds;
        accesses_hold = i.accesses_hold;
      }
    where
      lag : a.served ≡ true → (a.entry ≡ a.now) ⊎ Lags a.era a.now a.entry a.log a.listed a.home → (a.entry ≡ a.now) ⊎ Lags a.era a.now a.entry (λ m v. pick (eqb m n && leb v w) None (a.log m v)) a.listed a.home
      lag s (inl e) = inl e
      lag s (inr l) = inr (record {
        writer = l.writer;
        holds = l.holds;
        is_past = l.is_past;
        by_one = l.by_one;
        change = l.change;
        logged = by_test (eqb l.writer.node n && leb a.now w) (λ y. y ≡ Some l.change) None (a.log l.writer.node a.now)
            (λ d. let x = leb_true a.now w (and_true (eqb l.writer.node n) (leb a.now w) d).1 in
            let y = i.kept_holds.disk_behind s in absurd (omega (arith, l.by_one)))
            (λ d. l.logged);
      })
