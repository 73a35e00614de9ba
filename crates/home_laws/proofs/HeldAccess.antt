-- An access of a page that its transaction holds as it has to be.
use Rattle.std.proofs.Common.{◌≡◌, ℕ, ◌≤◌, ◌==◌, ◌||◌, Bool, true, false, List, Option, Some, None, is_some, IfSome, refl, ap, sym, subst, ◌∙◌, arith}
use Rattle.pcl_base.specs.declared.tx.TxId.{TxId}
use Rattle.node_rules.specs.Words.{covers}
use Rattle.node_rules.specs.OpenTxs.{held_by, mode_held}
use Rattle.node_rules.specs.NodeState.{HomeState}
use Rattle.node_rules.specs.BufferRule.{Pool, slot_at, copy_at, has_private, private_bytes, bytes_of_private}
use Rattle.node_rules.specs.Work.{HomeWork, with_pool}
use Rattle.node_rules.specs.AccessRule.{Access, mode_of_write, perform, is_held}
use Rattle.home_laws.specs.Homes.{IsHome, IsWithin, users, pins_of, is_exclusive_lock, is_write_of}
use Rattle.home_laws.proofs.Tests.{number_equal}
use Rattle.home_laws.proofs.Users.{held_used}
use Rattle.home_laws.proofs.PrivateLooks.{same_place}
use Rattle.home_laws.proofs.Steps.{IsBase}
use Rattle.home_laws.proofs.Performed.{performed, MayPerform}
use Rattle.home_laws.proofs.Allowed.{MayAccess}
use Rattle.home_laws.proofs.Taken.{IsTaken, pin_more}
use Rattle.home_laws.proofs.Covering.{covers_some, covers_write, or_false}

module _ (a : Access) (h : HomeState) (home : IsHome h) (may : MayAccess a h) (b : Pool) (is : IsTaken h a.tx a.page (is_some a.write) (is_some (held_by h.txs a.tx a.page)) b) where
  -- the private copies of the transaction, which doesn't wait
  pub lock_private : has_private h.pool a.tx a.page ≡ is_exclusive_lock (held_by h.txs a.tx a.page)
  lock_private = home.privates a.tx a.page ∙ ap (λ w. is_exclusive_lock (held_by h.txs a.tx a.page) || is_write_of w a.page) may.idle ∙ or_false (is_exclusive_lock (held_by h.txs a.tx a.page))

  pub same_filled : is_some (private_bytes b a.tx a.page) ≡ is_exclusive_lock (held_by h.txs a.tx a.page)
  same_filled = ap is_some is.privates.bytes ∙ home.filled a.tx a.page

  pub other_has : (u : TxId) (q : ℕ) → same_place u q a.tx a.page ≡ false → has_private b u q ≡ has_private h.pool u q
  other_has u q e = ap is_some (is.privates.others u q e)

  pub other_bytes : (u : TxId) (q : ℕ) → same_place u q a.tx a.page ≡ false → is_some (private_bytes b u q) ≡ is_some (private_bytes h.pool u q)
  other_bytes u q e = ap (λ o. is_some (bytes_of_private o)) (is.privates.others u q e)

  pub copies_stay : (q : ℕ) → 1 ≤ pins_of (slot_at h.pool q) → is_some (copy_at h.pool q) ≡ true → is_some (copy_at b q) ≡ true
  copies_stay q some there = ap is_some (is.copies q some) ∙ there

  -- a page that is held
  pub held_copy : is_some (held_by h.txs a.tx a.page) ≡ true → is_some (copy_at b a.page) ≡ true
  held_copy held =
      let used : 1 ≤ users h.txs a.page = held_used h.txs a.tx a.page held in
      copies_stay a.page (subst (λ n. 1 ≤ n) (sym (home.pins a.page)) used) (home.held a.tx a.page held).1

  held_pins : is_some (held_by h.txs a.tx a.page) ≡ true → (q : ℕ) → pins_of (slot_at b q) ≡ users h.txs q
  held_pins held q = by (a.page == q) refl
    where
      by : (d : Bool) → (a.page == q) ≡ d → pins_of (slot_at b q) ≡ users h.txs q
      by true e =
          let here = is.here in
          let none : pin_more (is_some (held_by h.txs a.tx a.page)) ≡ 0 = ap pin_more held in
          subst (λ n. pins_of (slot_at b n) ≡ users h.txs n) (number_equal a.page q e) (omega (arith, here, none))
      by false e = is.pins q e

  held_private : is_held a h ≡ true → (write : Option (ℕ × List ℕ)) → a.write ≡ write → has_private b a.tx a.page ≡ is_exclusive_lock (held_by h.txs a.tx a.page)
  held_private covered None e = is.privates.there ∙ ap (λ w. has_private h.pool a.tx a.page || is_some w) e ∙ or_false (has_private h.pool a.tx a.page) ∙ lock_private
  held_private covered (Some write) e =
      let exclusive = covers_write (held_by h.txs a.tx a.page) (ap (λ w. covers (mode_held (held_by h.txs a.tx a.page)) (mode_of_write w)) (sym e) ∙ covered) in
      is.privates.there ∙ ap (λ d. d || is_some a.write) (lock_private ∙ exclusive) ∙ sym exclusive

  held_base : is_held a h ≡ true → IsBase h a.tx a.page h.txs b h.shelf
  held_base covered =
      let held = covers_some (held_by h.txs a.tx a.page) (mode_of_write a.write) covered in
      record {
        page = may.page;
        buffer = is.buffer;
        sizes = (is.frames, is.size);
        txs = home.txs;
        pins = held_pins held;
        kept = is.kept;
        below = is.below;
        others = λ u e. refl;
        locks = λ q e. refl;
        writes = λ q e. refl;
        copies = copies_stay;
        copy = held_copy;
        waits = home.waits a.tx;
        needed = home.needed a.tx;
        other_private = other_has;
        other_filled = other_bytes;
        private =
            held_private covered a.write refl
            ∙ sym (ap (λ w. is_exclusive_lock (held_by h.txs a.tx a.page) || is_write_of w a.page) may.idle ∙ or_false (is_exclusive_lock (held_by h.txs a.tx a.page)));
        readers = home.readers;
        reading = home.reading;
      }

  may_perform : is_held a h ≡ true → (write : Option (ℕ × List ℕ)) → a.write ≡ write → MayPerform h a.tx a.page write h.txs b
  may_perform covered None e = (same_filled, home.runs a.tx a.page)
  may_perform covered (Some write) e =
      (covers_write (held_by h.txs a.tx a.page) (ap (λ w. covers (mode_held (held_by h.txs a.tx a.page)) (mode_of_write w)) (sym e) ∙ covered), subst (λ w. IfSome w (IsWithin h.config.size)) e may.inside)

  pub held_sound : (w : HomeWork) → is_held a h ≡ true → IsHome (perform a.tx a.page a.write (record w { home = with_pool h b })).work.home
  held_sound w covered =
      performed h a.tx a.page a.write h.txs b h.shelf w home (held_base covered)
      (held_copy (covers_some (held_by h.txs a.tx a.page) (mode_of_write a.write) covered)) (may_perform covered a.write refl)
