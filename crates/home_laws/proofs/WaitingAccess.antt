-- An access that waits.
use Rattle.std.proofs.Common.{◌≡◌, ℕ, ◌+◌, ◌==◌, ◌&&◌, ◌||◌, Bool, true, false, Option, Some, is_some, IfSome, refl, ap, sym, subst, ◌∙◌, arith}
use Rattle.std.proofs.lemmas.List.Elements.{All-weaker}
use Rattle.pcl_base.specs.declared.tx.TxId.{TxId}
use Rattle.pcl_base.specs.declared.lock.Held.{Held}
use Rattle.pcl_base.specs.declared.lock.Pending.{Pending}
use Rattle.node_rules.specs.Words.{covers}
use Rattle.node_rules.specs.OpenTxs.{OpenTxs, held_by, pending_of, lock_on, pages_of_open, mode_held, waits_on, wait}
use Rattle.node_rules.specs.Shelf.{right_on, readers_of}
use Rattle.node_rules.specs.NodeState.{HomeState, runs_at}
use Rattle.node_rules.specs.BufferRule.{Pool, slot_at}
use Rattle.node_rules.specs.Work.{with_pool}
use Rattle.node_rules.specs.AccessRule.{Access, mode_of_write, waiting, is_held}
use Rattle.home_laws.specs.Homes.{IsHome, AreWrittenRuns, IsAccess, users, pins_of, is_exclusive_lock, is_right_lock, is_write_of}
use Rattle.home_laws.proofs.Tests.{one, number_same, number_equal}
use Rattle.home_laws.proofs.Locks.{wait_held_here, wait_here, wait_other, wait_sound}
use Rattle.home_laws.proofs.Users.{used_by, wait_users}
use Rattle.home_laws.proofs.Steps.{IsBase, step_sound, each_place}
use Rattle.home_laws.proofs.Allowed.{MayAccess}
use Rattle.home_laws.proofs.Taken.{IsTaken, pin_more}
use Rattle.home_laws.proofs.HeldAccess.{lock_private, same_filled, other_has, other_bytes, copies_stay, held_copy}

module _ (a : Access) (h : HomeState) (home : IsHome h) (may : MayAccess a h) (b : Pool) (is : IsTaken h a.tx a.page (is_some a.write) (is_some (held_by h.txs a.tx a.page)) b) where
  -- the access waits
  abbrev pending : Pending
  pending = record { page = a.page; mode = mode_of_write a.write; write = a.write }

  abbrev waiting_txs : OpenTxs
  waiting_txs = wait h.txs a.tx pending

  wait_pins : (q : ℕ) → pins_of (slot_at b q) ≡ users waiting_txs q
  wait_pins q = by (a.page == q) refl
    where
      held : (n : ℕ) → held_by waiting_txs a.tx n ≡ held_by h.txs a.tx n
      held n = wait_held_here h.txs a.tx pending may.there n

      before : (n : ℕ) → one (used_by h.txs a.tx n) ≡ one (is_some (held_by h.txs a.tx n) || false)
      before n = ap (λ w. one (is_some (held_by h.txs a.tx n) || waits_on w n)) may.idle

      now : (n : ℕ) → one (used_by waiting_txs a.tx n) ≡ one (is_some (held_by h.txs a.tx n) || a.page == n)
      now n = ap (λ o. one (is_some o || waits_on (pending_of waiting_txs a.tx) n)) (held n) ∙ ap (λ w. one (is_some (held_by h.txs a.tx n) || waits_on w n)) (wait_here h.txs a.tx pending may.there)

      counted : (d : Bool) → one (d || true) ≡ 1 × (one (d || false) + pin_more d ≡ 1)
      counted true = (refl, refl)
      counted false = (refl, refl)

      by : (d : Bool) → (a.page == q) ≡ d → pins_of (slot_at b q) ≡ users waiting_txs q
      by true e =
          let here = is.here in
          let count = wait_users h.config h.txs a.tx pending a.page home.txs may.there in
          let old = before a.page in
          let new : one (used_by waiting_txs a.tx a.page) ≡ one (is_some (held_by h.txs a.tx a.page) || true) = now a.page ∙ ap (λ c. one (is_some (held_by h.txs a.tx a.page) || c)) (number_same a.page) in
          let both = counted (is_some (held_by h.txs a.tx a.page)) in
          let first = both.0 in
          let second = both.1 in
          subst (λ n. pins_of (slot_at b n) ≡ users waiting_txs n) (number_equal a.page q e) (omega (arith, here, count, old, new, first, second))
      by false e =
          let same = is.pins q e in
          let count = wait_users h.config h.txs a.tx pending q home.txs may.there in
          let used : one (used_by waiting_txs a.tx q) ≡ one (used_by h.txs a.tx q) = now q ∙ ap (λ c. one (is_some (held_by h.txs a.tx q) || c)) e ∙ sym (before q) in
          omega (arith, same, count, used)

  -- the home where the access waits
  wait_held : (q : ℕ) → held_by waiting_txs a.tx q ≡ held_by h.txs a.tx q
  wait_held q = wait_held_here h.txs a.tx pending may.there q

  wait_there : pending_of waiting_txs a.tx ≡ Some pending
  wait_there = wait_here h.txs a.tx pending may.there

  each_held : (P : Option Held → Option Held → Type 0) → ((o : Option Held) → P o o) → (u : TxId) (q : ℕ) → P (held_by h.txs u q) (held_by waiting_txs u q)
  each_held P same =
      each_place a.tx a.page (λ u q. P (held_by h.txs u q) (held_by waiting_txs u q))
      (subst (P (held_by h.txs a.tx a.page)) (sym (wait_held a.page)) (same (held_by h.txs a.tx a.page)))
      (λ q e. subst (P (held_by h.txs a.tx q)) (sym (wait_held q)) (same (held_by h.txs a.tx q)))
      (λ u q e. subst (λ o. P (held_by h.txs u q) (lock_on (pages_of_open o) q)) (sym (wait_other h.txs a.tx pending may.there u e)) (same (held_by h.txs u q)))

  wait_base : is_held a h ≡ false → IsBase h a.tx a.page waiting_txs b h.shelf
  wait_base uncovered = record {
    page = may.page;
    buffer = is.buffer;
    sizes = (is.frames, is.size);
    txs = wait_sound h.txs a.tx pending may.there h.config home.txs;
    pins = wait_pins;
    kept = is.kept;
    below = is.below;
    others = λ u e. wait_other h.txs a.tx pending may.there u e;
    locks = λ q e. wait_held q;
    writes = λ q e. ap (λ w. is_write_of w q) wait_there ∙ ap (λ d. d && is_some a.write) e ∙ sym (ap (λ w. is_write_of w q) may.idle);
    copies = (copies_stay a h home may b is);
    copy = λ e. (held_copy a h home may b is) (ap is_some (sym (wait_held a.page)) ∙ e);
    waits = subst (λ o. IfSome o (IsAccess h.config)) (sym wait_there) (record { page = may.page; mode = refl; inside = may.inside });
    needed =
        subst (λ o. IfSome o (λ w. covers (mode_held (held_by waiting_txs a.tx w.page)) w.mode ≡ false)) (sym wait_there)
        (ap (λ o. covers (mode_held o) (mode_of_write a.write)) (wait_held a.page) ∙ uncovered);
    other_private = (other_has a h home may b is);
    other_filled = (other_bytes a h home may b is);
    private =
        is.privates.there ∙ ap (λ d. d || is_some a.write) (lock_private a h home may b is) ∙ ap (λ o. is_exclusive_lock o || is_some a.write) (sym (wait_held a.page))
        ∙ sym (ap (λ w. is_exclusive_lock (held_by waiting_txs a.tx a.page) || is_write_of w a.page) wait_there ∙ ap (λ d. is_exclusive_lock (held_by waiting_txs a.tx a.page) || (d && is_some a.write)) (number_same a.page));
    readers = λ q.
        All-weaker (λ u. is_some (held_by h.txs u q) ≡ true) (λ u. is_some (held_by waiting_txs u q) ≡ true)
        (λ u e. each_held (λ x y. is_some x ≡ true → is_some y ≡ true) (λ o k. k) u q e) (readers_of (right_on h.shelf q)) (home.readers q);
    reading = λ u q e. home.reading u q (each_held (λ x y. is_right_lock y ≡ true → is_right_lock x ≡ true) (λ o k. k) u q e);
  }

  pub wait_is_sound : is_held a h ≡ false → IsHome (waiting a (with_pool h b))
  wait_is_sound uncovered =
      step_sound h a.tx a.page waiting_txs b h.shelf h.written home
      (record {
        base = wait_base uncovered;
        filled = (same_filled a h home may b is) ∙ ap is_exclusive_lock (sym (wait_held a.page));
        other_runs = λ u q e. refl;
        runs = subst (λ o. AreWrittenRuns h.config.size (is_exclusive_lock o) (runs_at h.written a.tx a.page)) (sym (wait_held a.page)) (home.runs a.tx a.page);
      })
