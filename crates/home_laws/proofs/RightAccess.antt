-- A read under the right of the node.
use Rattle.std.proofs.Common.{◌≡◌, ℕ, ◌==◌, ◌&&◌, ◌||◌, not, Bool, true, false, List, Option, Some, None, is_some, IfSome, refl, ap, sym, subst, ◌∙◌, arith}
use Rattle.std.proofs.lemmas.List.Elements.{All-weaker}
use Rattle.std.specs.List.{All}
use Rattle.pcl_base.specs.declared.tx.TxId.{TxId}
use Rattle.pcl_base.specs.declared.tx.Mode.TheVariants.{Shared}
use Rattle.pcl_base.specs.declared.lock.Held.{Held}
use Rattle.pcl_base.specs.declared.lock.Kind.TheVariants as kind
use Rattle.node_rules.specs.Words.{pick, among, covers}
use Rattle.node_rules.specs.OpenTxs.{OpenTxs, held_by, pending_of, lock_on, pages_of_open, mode_held, waits_on, add}
use Rattle.node_rules.specs.Shelf.{Right, right_on, is_at, add_reader, readers_of}
use Rattle.node_rules.specs.NodeState.{HomeState, runs_at}
use Rattle.node_rules.specs.BufferRule.{Pool, Copy, slot_at, copy_at, find, version_of_copy, has_private}
use Rattle.node_rules.specs.Work.{HomeWork, with_pool}
use Rattle.node_rules.specs.AccessRule.{Access, mode_of_write, perform, under_right, is_held, is_allowed, has_version}
use Rattle.home_laws.specs.Homes.{IsHome, AreWrittenRuns, IsAccess, users, pins_of, is_exclusive_lock, is_right_lock, is_write_of}
use Rattle.home_laws.proofs.Tests.{one, number_equal, and_left, and_right}
use Rattle.home_laws.proofs.Locks.{add_here, add_elsewhere, add_pending, add_other, add_sound}
use Rattle.home_laws.proofs.Users.{used_by, add_users}
use Rattle.home_laws.proofs.Rights.{added_here, added_there, with_reader_all, with_reader_there, with_reader_more}
use Rattle.home_laws.proofs.Steps.{IsBase, each_place}
use Rattle.home_laws.proofs.Performed.{performed}
use Rattle.home_laws.proofs.Allowed.{MayAccess, allowed}
use Rattle.home_laws.proofs.Taken.{IsTaken, pin_more}
use Rattle.home_laws.proofs.Covering.{uncovered_read, or_false}
use Rattle.home_laws.proofs.HeldAccess.{lock_private, same_filled, other_has, other_bytes, copies_stay}

module _ (a : Access) (h : HomeState) (home : IsHome h) (may : MayAccess a h) (b : Pool) (is : IsTaken h a.tx a.page (is_some a.write) (is_some (held_by h.txs a.tx a.page)) b) where
  -- a read under the right of the node
  abbrev lock : Held
  lock = record { page = a.page; mode = Shared; kind = kind.Right }

  abbrev locked_txs : OpenTxs
  locked_txs = add h.txs a.tx lock

  pending_after : pending_of locked_txs a.tx ≡ None
  pending_after = add_pending h.txs a.tx lock may.there ∙ ap (λ w. pick (waits_on w a.page) None w) may.idle

  right_pins : held_by h.txs a.tx a.page ≡ None → (q : ℕ) → pins_of (slot_at b q) ≡ users locked_txs q
  right_pins none q = by (a.page == q) refl
    where
      by : (d : Bool) → (a.page == q) ≡ d → pins_of (slot_at b q) ≡ users locked_txs q
      by true e =
          let here = is.here in
          let more : pin_more (is_some (held_by h.txs a.tx a.page)) ≡ 1 = ap (λ o. pin_more (is_some o)) none in
          let count = add_users h.config h.txs a.tx lock a.page home.txs may.there in
          let old : one (used_by h.txs a.tx a.page) ≡ 0 = ap (λ o. one (is_some o || waits_on (pending_of h.txs a.tx) a.page)) none ∙ ap (λ w. one (waits_on w a.page)) may.idle in
          let new : one (used_by locked_txs a.tx a.page) ≡ 1 = ap (λ o. one (is_some o || waits_on (pending_of locked_txs a.tx) a.page)) (add_here h.txs a.tx lock may.there) in
          subst (λ n. pins_of (slot_at b n) ≡ users locked_txs n) (number_equal a.page q e) (omega (arith, here, more, count, old, new))
      by false e =
          let same = is.pins q e in
          let count = add_users h.config h.txs a.tx lock q home.txs may.there in
          let used : one (used_by locked_txs a.tx q) ≡ one (used_by h.txs a.tx q) =
          ap (λ o. one (is_some o || waits_on (pending_of locked_txs a.tx) q)) (add_elsewhere h.txs a.tx lock may.there q e)
          ∙ ap (λ w. one (is_some (held_by h.txs a.tx q) || waits_on w q)) (pending_after ∙ sym may.idle) in
          omega (arith, same, count, used)

  -- what was held is held
  still_held : (u : TxId) (q : ℕ) → is_some (held_by h.txs u q) ≡ true → is_some (held_by locked_txs u q) ≡ true
  still_held =
      each_place a.tx a.page (λ u q. is_some (held_by h.txs u q) ≡ true → is_some (held_by locked_txs u q) ≡ true)
      (λ e. ap is_some (add_here h.txs a.tx lock may.there))
      (λ q other e. ap is_some (add_elsewhere h.txs a.tx lock may.there q other) ∙ e)
      (λ u q other e. ap (λ o. is_some (lock_on (pages_of_open o) q)) (add_other h.txs a.tx lock may.there u other) ∙ e)

  right_readers : is_some (right_on h.shelf a.page) ≡ true → (q : ℕ) → All (λ u. is_some (held_by locked_txs u q) ≡ true) (readers_of (right_on (add_reader h.shelf a.page a.tx) q))
  right_readers there q = by (a.page == q) refl
    where
      more : (n : ℕ) → All (λ u. is_some (held_by locked_txs u n) ≡ true) (readers_of (right_on h.shelf n))
      more n = All-weaker (λ u. is_some (held_by h.txs u n) ≡ true) (λ u. is_some (held_by locked_txs u n) ≡ true) (λ u e. still_held u n e) (readers_of (right_on h.shelf n)) (home.readers n)

      by : (d : Bool) → (a.page == q) ≡ d → All (λ u. is_some (held_by locked_txs u q) ≡ true) (readers_of (right_on (add_reader h.shelf a.page a.tx) q))
      by true e =
          subst (λ n. All (λ u. is_some (held_by locked_txs u n) ≡ true) (readers_of (right_on (add_reader h.shelf a.page a.tx) n))) (number_equal a.page q e)
          (subst (All (λ u. is_some (held_by locked_txs u a.page) ≡ true)) (sym (added_here h.shelf a.page a.tx there))
          (with_reader_all (λ u. is_some (held_by locked_txs u a.page) ≡ true) a.tx (readers_of (right_on h.shelf a.page)) (ap is_some (add_here h.txs a.tx lock may.there)) (more a.page)))
      by false e = subst (λ o. All (λ u. is_some (held_by locked_txs u q) ≡ true) (readers_of o)) (sym (added_there h.shelf a.page q a.tx e)) (more q)

  right_reading : is_some (right_on h.shelf a.page) ≡ true → (u : TxId) (q : ℕ) → is_right_lock (held_by locked_txs u q) ≡ true → among (readers_of (right_on (add_reader h.shelf a.page a.tx) q)) u ≡ true
  right_reading there =
      each_place a.tx a.page (λ u q. is_right_lock (held_by locked_txs u q) ≡ true → among (readers_of (right_on (add_reader h.shelf a.page a.tx) q)) u ≡ true)
      (λ e. ap (λ us. among us a.tx) (added_here h.shelf a.page a.tx there) ∙ with_reader_there a.tx (readers_of (right_on h.shelf a.page)))
      (λ q other e.
      ap (λ o. among (readers_of o) a.tx) (added_there h.shelf a.page q a.tx other)
      ∙ home.reading a.tx q (ap is_right_lock (sym (add_elsewhere h.txs a.tx lock may.there q other)) ∙ e))
      (λ u q other e.
      more u q (home.reading u q (ap (λ o. is_right_lock (lock_on (pages_of_open o) q)) (sym (add_other h.txs a.tx lock may.there u other)) ∙ e)))
    where
      more : (u : TxId) (q : ℕ) → among (readers_of (right_on h.shelf q)) u ≡ true → among (readers_of (right_on (add_reader h.shelf a.page a.tx) q)) u ≡ true
      more u q e = by (a.page == q) refl
        where
          by : (d : Bool) → (a.page == q) ≡ d → among (readers_of (right_on (add_reader h.shelf a.page a.tx) q)) u ≡ true
          by true t =
              let same = number_equal a.page q t in
              let was : among (readers_of (right_on h.shelf a.page)) u ≡ true = subst (λ n. among (readers_of (right_on h.shelf n)) u ≡ true) (sym same) e in
              subst (λ n. among (readers_of (right_on (add_reader h.shelf a.page a.tx) n)) u ≡ true) same
              (ap (λ us. among us u) (added_here h.shelf a.page a.tx there) ∙ with_reader_more a.tx u (readers_of (right_on h.shelf a.page)) was)
          by false t = ap (λ o. among (readers_of o) u) (added_there h.shelf a.page q a.tx t) ∙ e

  -- what the right says of the page
  pub right_there : has_version h.shelf a.page (find b a.page) ≡ true → (is_some (right_on h.shelf a.page) ≡ true) × (is_some (copy_at b a.page) ≡ true)
  right_there e = by (copy_at b a.page) e
    where
      at : (o : Option Right) (v : ℕ) → is_at o v ≡ true → is_some o ≡ true
      at None v e = absurd (cc)
      at (Some r) v e = refl

      by : (o : Option Copy) → has_version h.shelf a.page (version_of_copy o) ≡ true → (is_some (right_on h.shelf a.page) ≡ true) × (is_some o ≡ true)
      by None e = absurd (cc)
      by (Some c) e = (at (right_on h.shelf a.page) c.version e, refl)

  read_write : (write : Option (ℕ × List ℕ)) → not (is_some write) ≡ true → write ≡ None
  read_write None e = refl
  read_write (Some w) e = absurd (cc)

  right_base : held_by h.txs a.tx a.page ≡ None → a.write ≡ None → is_some (right_on h.shelf a.page) ≡ true → is_some (copy_at b a.page) ≡ true → IsBase h a.tx a.page locked_txs b (add_reader h.shelf a.page a.tx)
  right_base none read right copy = record {
    page = may.page;
    buffer = is.buffer;
    sizes = (is.frames, is.size);
    txs = add_sound h.txs a.tx lock may.there h.config home.txs;
    pins = right_pins none;
    kept = is.kept;
    below = is.below;
    others = λ u e. add_other h.txs a.tx lock may.there u e;
    locks = λ q e. add_elsewhere h.txs a.tx lock may.there q e;
    writes = λ q e. ap (λ w. is_write_of w q) (pending_after ∙ sym may.idle);
    copies = (copies_stay a h home may b is);
    copy = λ e. copy;
    waits = subst (λ o. IfSome o (IsAccess h.config)) (sym pending_after) tt;
    needed = subst (λ o. IfSome o (λ w. covers (mode_held (held_by locked_txs a.tx w.page)) w.mode ≡ false)) (sym pending_after) tt;
    other_private = (other_has a h home may b is);
    other_filled = (other_bytes a h home may b is);
    private =
        is.privates.there ∙ ap (λ w. has_private h.pool a.tx a.page || is_some w) read ∙ or_false (has_private h.pool a.tx a.page) ∙ (lock_private a h home may b is) ∙ ap is_exclusive_lock none
        ∙ sym (ap (λ o. is_exclusive_lock o || is_write_of (pending_of locked_txs a.tx) a.page) (add_here h.txs a.tx lock may.there) ∙ ap (λ w. is_write_of w a.page) pending_after);
    readers = right_readers right;
    reading = right_reading right;
  }

  pub right_sound : (w : HomeWork) (owned : Bool) → is_held a h ≡ false → is_allowed a owned (with_pool h b) ≡ true
      → IsHome (perform a.tx a.page None (record w { home = under_right a.tx a.page (with_pool h b) })).work.home
  right_sound w owned uncovered allowed =
      let both = and_right (not owned) (not (is_some a.write) && has_version h.shelf a.page (find b a.page)) allowed in
      let read = read_write a.write (and_left (not (is_some a.write)) (has_version h.shelf a.page (find b a.page)) both) in
      let there = right_there (and_right (not (is_some a.write)) (has_version h.shelf a.page (find b a.page)) both) in
      let none : held_by h.txs a.tx a.page ≡ None = uncovered_read (held_by h.txs a.tx a.page) (ap (λ w. covers (mode_held (held_by h.txs a.tx a.page)) (mode_of_write w)) (sym read) ∙ uncovered) in
      let locked : is_exclusive_lock (held_by locked_txs a.tx a.page) ≡ false = ap is_exclusive_lock (add_here h.txs a.tx lock may.there) in
      let was : is_exclusive_lock (held_by h.txs a.tx a.page) ≡ false = ap is_exclusive_lock none in
      performed h a.tx a.page None locked_txs b (add_reader h.shelf a.page a.tx) w home (right_base none read there.0 there.1) there.1
      ((same_filled a h home may b is) ∙ was ∙ sym locked, subst (λ d. AreWrittenRuns h.config.size d (runs_at h.written a.tx a.page)) (was ∙ sym locked) (home.runs a.tx a.page))
