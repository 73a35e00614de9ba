-- A home that closes a transaction keeps what holds of every home.
use Rattle.std.proofs.Common.{◌≡◌, ℕ, ◌+◌, ◌<◌, ◌≤◌, ◌||◌, not, Bool, true, false, List, [], Option, None, is_some, IfSome, slice_index_or, refl, ap, sym, subst, ◌∙◌, arith}
use Rattle.std.proofs.lemmas.List.Elements.{All-filter}
use Rattle.std.specs.List.{filter, All}
use Rattle.pcl_base.specs.Limits.{Sizes}
use Rattle.pcl_base.specs.declared.tx.TxId.{TxId}
use Rattle.pcl_base.specs.declared.lock.Held.{Held}
use Rattle.pcl_base.specs.declared.lock.Pending.{Pending}
use Rattle.node_rules.specs.Words.{pick, same_tx, among, covers}
use Rattle.node_rules.specs.OpenTxs.{OpenTxs, lock_on, waits_on, held_by, mode_held, pending_of, pages_of_open, waiting_of_open, open_at, is_open, locks_of, close_tx}
use Rattle.node_rules.specs.Shelf.{right_on, readers_of}
use Rattle.node_rules.specs.BufferRule.{Pool, slot_at, copy_at, private_in, private_at, has_private, private_bytes, bytes_of_private}
use Rattle.node_rules.specs.NodeState.{HomeState, Run, runs_at}
use Rattle.node_rules.specs.EndRule.{closed, discard_all, unpin_all, pages_at_end}
use Rattle.home_laws.specs.Homes.{IsHome, IsAccess, AreOpen, AreWrittenRuns, AreOnce, pins_of, users, is_exclusive_lock, is_right_lock, is_write_of}
use Rattle.home_laws.proofs.Words.{not_both, same_equal}
use Rattle.home_laws.proofs.Opens.{stays, open_closed, there_is, open_serial, locks_once}
use Rattle.home_laws.proofs.Serials.{one_if, serials_kept, users_left}
use Rattle.home_laws.proofs.Slots.{fewer_all}
use Rattle.home_laws.proofs.Privates.{all_discarded, not_discarded}
use Rattle.home_laws.proofs.Pools.{PoolIs, all_discarded_is}
use Rattle.home_laws.proofs.Unpins.{times, unpins_are, pins_unpins, copy_unpins, privates_unpins, times_ends}
use Rattle.home_laws.proofs.Readers.{ended_at, readers_stay, reader_gone, others_read, runs_ended}

-- a buffer of a home at the end of a transaction: the private copies of the transaction may have gone
pub record Follows (c : Sizes) (t : TxId) (a b : Pool) : Type 0 where
  pub is : PoolIs c b
  pub pins : (p : ℕ) → pins_of (slot_at b p) ≡ pins_of (slot_at a p)
  pub copies : (p : ℕ) → is_some (copy_at a p) ≡ true → is_some (copy_at b p) ≡ true
  pub privates : (u : TxId) (p : ℕ) → same_tx u t ≡ false → private_at b u p ≡ private_at a u p

-- what is held and waited for once a transaction is closed
pub held_closed : (s : OpenTxs) (t u : TxId) (p : ℕ) → is_open s t ≡ true → held_by (close_tx s t) u p ≡ pick (same_tx u t) None (held_by s u p)
unfolding lock_on
held_closed s t u p there = ap (λ o. lock_on (pages_of_open o) p) (open_closed s t u there) ∙ by_name (same_tx u t)
  where
    by_name : (b : Bool) → lock_on (pages_of_open (pick b None (open_at s u))) p ≡ pick b None (held_by s u p)
    by_name true = refl
    by_name false = refl

pub pending_closed : (s : OpenTxs) (t u : TxId) → is_open s t ≡ true → pending_of (close_tx s t) u ≡ pick (same_tx u t) None (pending_of s u)
pending_closed s t u there = ap waiting_of_open (open_closed s t u there) ∙ by_name (same_tx u t)
  where
    by_name : (b : Bool) → waiting_of_open (pick b None (open_at s u)) ≡ pick b None (pending_of s u)
    by_name true = refl
    by_name false = refl

-- each page that it holds or waits for is one of its last pages, once
pub times_at_end : (h : HomeState) (t : TxId) (p : ℕ) → IsHome h → times p (pages_at_end h t) ≡ one_if (is_some (held_by h.txs t p) || waits_on (pending_of h.txs t) p)
times_at_end h t p is = times_ends (locks_of h.txs t) (pending_of h.txs t) p (locks_once h.txs t is.txs.once)

-- one user less
pub users_closed : (h : HomeState) (t : TxId) (p : ℕ) → IsHome h → is_open h.txs t ≡ true → users (close_tx h.txs t) p + one_if (is_some (held_by h.txs t p) || waits_on (pending_of h.txs t) p) ≡ users h.txs p
unfolding close_tx
users_closed h t p is there =
    let x = there_is (open_at h.txs t) there in
    ap (λ o. users (close_tx h.txs t) p + one_if (is_some (lock_on (pages_of_open o) p) || waits_on (waiting_of_open o) p)) x.1
    ∙ users_left 0 h.txs.last t.serial p x.0 h.txs.txs is.txs.serials (open_serial h.txs t x.0 x.1)

-- the open transactions
pub open_left : (c : Sizes) (s : OpenTxs) (t : TxId) → AreOpen c s → AreOpen c (close_tx s t)
unfolding close_tx
open_left c s t is =
    let fewer = fewer_all (stays t.serial) s.txs in
    record {
      node = is.node;
      few = omega (arith, fewer, is.few);
      serials = serials_kept 0 s.last (stays t.serial) s.txs is.serials;
      once = All-filter (stays t.serial) (λ x. AreOnce x.pages) s.txs is.once;
      born = λ some. is.born (omega (arith, fewer, some));
    }

module _ (h : HomeState) (t : TxId) (b : Pool) (is : IsHome h) (there : is_open h.txs t ≡ true) (f : Follows h.config t h.pool b) where
  pool_now : PoolIs h.config (unpin_all (discard_all b t) (pages_at_end h t))
  pool_now = unpins_are h.config (pages_at_end h t) (discard_all b t) (all_discarded_is h.config b t f.is)

  pins_now : (p : ℕ) → pins_of (slot_at (unpin_all (discard_all b t) (pages_at_end h t)) p) ≡ users (close_tx h.txs t) p
  pins_now p =
      let left = pins_unpins h.config (pages_at_end h t) (discard_all b t) p (all_discarded_is h.config b t f.is) in
      let before : pins_of (slot_at (discard_all b t) p) ≡ users h.txs p = f.pins p ∙ is.pins p in
      let count = times_at_end h t p is in
      let fewer = users_closed h t p is there in
      omega (arith, left, before, count, fewer)

  -- of a transaction that is closed nothing is left
  gone_held : (u : TxId) (p : ℕ) → same_tx u t ≡ true → held_by (close_tx h.txs t) u p ≡ None
  gone_held u p same = held_closed h.txs t u p there ∙ ap (λ c. pick c None (held_by h.txs u p)) same

  gone_pending : (u : TxId) → same_tx u t ≡ true → pending_of (close_tx h.txs t) u ≡ None
  gone_pending u same = pending_closed h.txs t u there ∙ ap (λ c. pick c None (pending_of h.txs u)) same

  -- the others are as before
  other_held : (u : TxId) (p : ℕ) → same_tx u t ≡ false → held_by (close_tx h.txs t) u p ≡ held_by h.txs u p
  other_held u p other = held_closed h.txs t u p there ∙ ap (λ c. pick c None (held_by h.txs u p)) other

  other_pending : (u : TxId) → same_tx u t ≡ false → pending_of (close_tx h.txs t) u ≡ pending_of h.txs u
  other_pending u other = pending_closed h.txs t u there ∙ ap (λ c. pick c None (pending_of h.txs u)) other

  private_now : (u : TxId) (p : ℕ) → private_at (unpin_all (discard_all b t) (pages_at_end h t)) u p ≡ private_at (discard_all b t) u p
  private_now u p = ap (λ xs. private_in xs u p) (privates_unpins (pages_at_end h t) (discard_all b t))

  held_now : (u : TxId) (p : ℕ) → is_some (held_by (close_tx h.txs t) u p) ≡ true → (p < h.config.pages) × (is_some (copy_at (unpin_all (discard_all b t) (pages_at_end h t)) p) ≡ true)
  held_now u p some = by_name (same_tx u t) refl
    where
      by_name : (c : Bool) → same_tx u t ≡ c → (p < h.config.pages) × (is_some (copy_at (unpin_all (discard_all b t) (pages_at_end h t)) p) ≡ true)
      by_name true e = absurd (not_both (is_some (held_by (close_tx h.txs t) u p)) some (ap is_some (gone_held u p e)))
      by_name false e =
          let old = is.held u p (ap is_some (sym (other_held u p e)) ∙ some) in
          (old.0, ap is_some (copy_unpins h.config (pages_at_end h t) (discard_all b t) p (all_discarded_is h.config b t f.is)) ∙ f.copies p old.1)

  waits_now : (u : TxId) → IfSome (pending_of (close_tx h.txs t) u) (IsAccess h.config)
  waits_now u = by_name (same_tx u t) refl
    where
      by_name : (c : Bool) → same_tx u t ≡ c → IfSome (pending_of (close_tx h.txs t) u) (IsAccess h.config)
      by_name true e = subst (λ (o : Option Pending). IfSome o (IsAccess h.config)) (sym (gone_pending u e)) tt
      by_name false e = subst (λ (o : Option Pending). IfSome o (IsAccess h.config)) (sym (other_pending u e)) (is.waits u)

  needed_now : (u : TxId) → IfSome (pending_of (close_tx h.txs t) u) (λ w. covers (mode_held (held_by (close_tx h.txs t) u w.page)) w.mode ≡ false)
  needed_now u = by_name (same_tx u t) refl
    where
      by_name : (c : Bool) → same_tx u t ≡ c → IfSome (pending_of (close_tx h.txs t) u) (λ w. covers (mode_held (held_by (close_tx h.txs t) u w.page)) w.mode ≡ false)
      by_name true e =
          subst (λ (o : Option Pending). IfSome o (λ w. covers (mode_held (held_by (close_tx h.txs t) u w.page)) w.mode ≡ false)) (sym (gone_pending u e)) tt
      by_name false e =
          let same : (λ (p : ℕ). held_by h.txs u p) ≡ (λ (p : ℕ). held_by (close_tx h.txs t) u p) = λ i p. sym (other_held u p e) i in
          let old = subst (λ (g : ℕ → Option Held). IfSome (pending_of h.txs u) (λ w. covers (mode_held (g w.page)) w.mode ≡ false)) same (is.needed u) in
          subst (λ (o : Option Pending). IfSome o (λ w. covers (mode_held (held_by (close_tx h.txs t) u w.page)) w.mode ≡ false)) (sym (other_pending u e)) old

  privates_now : (u : TxId) (p : ℕ) → has_private (unpin_all (discard_all b t) (pages_at_end h t)) u p ≡ (is_exclusive_lock (held_by (close_tx h.txs t) u p) || is_write_of (pending_of (close_tx h.txs t) u) p)
  privates_now u p = ap is_some (private_now u p) ∙ by_name (same_tx u t) refl
    where
      by_name : (c : Bool) → same_tx u t ≡ c → is_some (private_at (discard_all b t) u p) ≡ (is_exclusive_lock (held_by (close_tx h.txs t) u p) || is_write_of (pending_of (close_tx h.txs t) u) p)
      by_name true e = ap is_some (all_discarded b t u p e) ∙ sym (λ i. is_exclusive_lock (gone_held u p e i) || is_write_of (gone_pending u e i) p)
      by_name false e =
          ap is_some (not_discarded b t u p e ∙ f.privates u p e) ∙ is.privates u p ∙ sym (λ i. is_exclusive_lock (other_held u p e i) || is_write_of (other_pending u e i) p)

  filled_now : (u : TxId) (p : ℕ) → is_some (private_bytes (unpin_all (discard_all b t) (pages_at_end h t)) u p) ≡ is_exclusive_lock (held_by (close_tx h.txs t) u p)
  filled_now u p = ap (λ o. is_some (bytes_of_private o)) (private_now u p) ∙ by_name (same_tx u t) refl
    where
      by_name : (c : Bool) → same_tx u t ≡ c → is_some (bytes_of_private (private_at (discard_all b t) u p)) ≡ is_exclusive_lock (held_by (close_tx h.txs t) u p)
      by_name true e = ap (λ o. is_some (bytes_of_private o)) (all_discarded b t u p e) ∙ sym (ap is_exclusive_lock (gone_held u p e))
      by_name false e = ap (λ o. is_some (bytes_of_private o)) (not_discarded b t u p e ∙ f.privates u p e) ∙ is.filled u p ∙ sym (ap is_exclusive_lock (other_held u p e))

  runs_now : (u : TxId) (p : ℕ) → AreWrittenRuns h.config.size (is_exclusive_lock (held_by (close_tx h.txs t) u p)) (runs_at (filter (λ w. not (same_tx w.tx t)) h.written) u p)
  runs_now u p = by_name (same_tx u t) refl
    where
      by_name : (c : Bool) → same_tx u t ≡ c → AreWrittenRuns h.config.size (is_exclusive_lock (held_by (close_tx h.txs t) u p)) (runs_at (filter (λ w. not (same_tx w.tx t)) h.written) u p)
      by_name true e =
          let none : runs_at (filter (λ w. not (same_tx w.tx t)) h.written) u p ≡ [] = runs_ended h.written t u p ∙ ap (λ c. pick c [] (runs_at h.written u p)) e in
          subst (λ (o : Option Held). AreWrittenRuns h.config.size (is_exclusive_lock o) (runs_at (filter (λ w. not (same_tx w.tx t)) h.written) u p)) (sym (gone_held u p e)) none
      by_name false e =
          let same : runs_at (filter (λ w. not (same_tx w.tx t)) h.written) u p ≡ runs_at h.written u p = runs_ended h.written t u p ∙ ap (λ c. pick c [] (runs_at h.written u p)) e in
          let old = subst (λ (rs : List Run). AreWrittenRuns h.config.size (is_exclusive_lock (held_by h.txs u p)) rs) (sym same) (is.runs u p) in
          subst (λ (o : Option Held). AreWrittenRuns h.config.size (is_exclusive_lock o) (runs_at (filter (λ w. not (same_tx w.tx t)) h.written) u p)) (sym (other_held u p e)) old

  -- a reader that is left isn't the transaction, for that ended at each page that it held
  reader_now : (u : TxId) (p : ℕ) → is_some (held_by h.txs u p) ≡ true → (1 ≤ times p (pages_at_end h t) → same_tx u t ≡ false) → is_some (held_by (close_tx h.txs t) u p) ≡ true
  reader_now u p some gone = by_name (same_tx u t) refl
    where
      by_name : (c : Bool) → same_tx u t ≡ c → is_some (held_by (close_tx h.txs t) u p) ≡ true
      by_name true e =
          let here : is_some (held_by h.txs t p) ≡ true = subst (λ v. is_some (held_by h.txs v p) ≡ true) (same_equal u t e) some in
          let count : times p (pages_at_end h t) ≡ 1 = times_at_end h t p is ∙ ap (λ c. one_if (c || waits_on (pending_of h.txs t) p)) here in
          absurd (not_both (same_tx u t) e (gone (omega (arith, count))))
      by_name false e = ap is_some (other_held u p e) ∙ some

  readers_now : (p : ℕ) → All (λ u. is_some (held_by (close_tx h.txs t) u p) ≡ true) (readers_of (right_on (ended_at (pages_at_end h t) t h.shelf) p))
  readers_now p k d l =
      reader_now (slice_index_or (readers_of (right_on (ended_at (pages_at_end h t) t h.shelf) p)) k d) p
      (readers_stay (λ u. is_some (held_by h.txs u p) ≡ true) (pages_at_end h t) t h.shelf p (is.readers p) k d l)
      (λ some. reader_gone (pages_at_end h t) t h.shelf p some k d l)

  reading_now : (u : TxId) (p : ℕ) → is_right_lock (held_by (close_tx h.txs t) u p) ≡ true → among (readers_of (right_on (ended_at (pages_at_end h t) t h.shelf) p)) u ≡ true
  reading_now u p right = by_name (same_tx u t) refl
    where
      by_name : (c : Bool) → same_tx u t ≡ c → among (readers_of (right_on (ended_at (pages_at_end h t) t h.shelf) p)) u ≡ true
      by_name true e = absurd (not_both (is_right_lock (held_by (close_tx h.txs t) u p)) right (ap is_right_lock (gone_held u p e)))
      by_name false e = others_read (pages_at_end h t) t u h.shelf p e (is.reading u p (ap is_right_lock (sym (other_held u p e)) ∙ right))

  pub closed_is_home : IsHome (closed h t b)
  unfolding closed
  closed_is_home =
      record {
        buffer = pool_now.buffer;
        sizes = (pool_now.frames, pool_now.size);
        txs = open_left h.config h.txs t is.txs;
        pins = pins_now;
        kept = pool_now.kept;
        below = pool_now.below;
        held = held_now;
        waits = waits_now;
        needed = needed_now;
        privates = privates_now;
        filled = filled_now;
        runs = runs_now;
        readers = readers_now;
        reading = reading_now;
      }
