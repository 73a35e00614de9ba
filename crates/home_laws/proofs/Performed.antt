-- A granted access is carried out: a read moves the slot to the front, and a write puts its bytes into
-- the private copy and notes their places.
use Rattle.std.proofs.Common.{◌≡◌, ℕ, ◌+◌, ◌<◌, ◌≤◌, ◌==◌, Bool, true, false, List, length, Option, Some, None, is_some, refl, ap, sym, subst, ◌∙◌, arith}
use Rattle.std.specs.Prelude.{option_map}
use Rattle.std.specs.List.{All}
use Rattle.pcl_base.specs.declared.tx.TxId.{TxId}
use Rattle.node_rules.specs.Words.{pick, same_tx}
use Rattle.node_rules.specs.OpenTxs.{OpenTxs, held_by, pending_of}
use Rattle.node_rules.specs.Shelf.{Right}
use Rattle.node_rules.specs.NodeState.{HomeState, Written, cover, runs_at, put_runs}
use Rattle.node_rules.specs.BufferRule.{Pool, PrivateCopy, slot_at, copy_at, copy_of_slot, bytes_of_copy, has_private, private_at, private_in, private_bytes, bytes_of_private, is_kept, touch, fill, change, change_private, over_filled}
use Rattle.node_rules.specs.Work.{HomeWork}
use Rattle.node_rules.specs.AccessRule.{filled, perform}
use Rattle.buffer_pool.specs.Buffer.{IsBuffer}
use Rattle.home_laws.specs.Homes.{IsHome, AreWrittenRuns, IsWithin, pins_of, is_exclusive_lock, is_write_of}
use Rattle.home_laws.proofs.Tests.{some_there, tx_equal, number_equal, and_left, and_right}
use Rattle.home_laws.proofs.Users.{or_left}
use Rattle.home_laws.proofs.SlotLooks.{front_same, all_front}
use Rattle.home_laws.proofs.PrivateLooks.{same_place, with_bytes, changed_here, changed_there}
use Rattle.home_laws.proofs.Buffers.{touch_sound, fill_sound, change_sound}
use Rattle.home_laws.proofs.Runs.{cover_runs, cover_written, written_runs, put_here, put_there}
use Rattle.home_laws.proofs.Steps.{IsBase, after, step_sound}

-- a buffer with the same slots in another order, and the same private copies, of which one may be
-- filled
pub record IsDone (t : TxId) (p : ℕ) (b new : Pool) : Type 0 where
  pub buffer : IsBuffer new
  pub frames : new.frames ≡ b.frames
  pub size : new.size ≡ b.size
  pub slots : (q : ℕ) → slot_at new q ≡ slot_at b q
  pub kept : All (λ s. is_kept s ≡ true) b.slots → All (λ s. is_kept s ≡ true) new.slots
  pub below : (n : ℕ) → All (λ s. s.page < n) b.slots → All (λ s. s.page < n) new.slots
  pub has : (u : TxId) (q : ℕ) → has_private new u q ≡ has_private b u q
  pub others : (u : TxId) (q : ℕ) → same_place u q t p ≡ false → private_bytes new u q ≡ private_bytes b u q

pub base_done : (h : HomeState) (t : TxId) (p : ℕ) (s : OpenTxs) (b new : Pool) (shelf : List Right) → IsBase h t p s b shelf → IsDone t p b new → IsBase h t p s new shelf
base_done h t p s b new shelf base done = record {
  page = base.page;
  buffer = done.buffer;
  sizes = (done.frames ∙ base.sizes.0, done.size ∙ base.sizes.1);
  txs = base.txs;
  pins = λ q. ap pins_of (done.slots q) ∙ base.pins q;
  kept = done.kept base.kept;
  below = done.below h.config.pages base.below;
  others = base.others;
  locks = base.locks;
  writes = base.writes;
  copies = λ q some there. ap (λ o. is_some (copy_of_slot o)) (done.slots q) ∙ base.copies q some there;
  copy = λ held. ap (λ o. is_some (copy_of_slot o)) (done.slots p) ∙ base.copy held;
  waits = base.waits;
  needed = base.needed;
  other_private = λ u q e. done.has u q ∙ base.other_private u q e;
  other_filled = λ u q e. ap is_some (done.others u q e) ∙ base.other_filled u q e;
  private = done.has t p ∙ base.private;
  readers = base.readers;
  reading = base.reading;
}

pub touch_done : (t : TxId) (p : ℕ) (b : Pool) → IsBuffer b → IsDone t p b (touch b p)
unfolding touch
touch_done t p b sound = record {
  buffer = touch_sound b p sound;
  frames = refl;
  size = refl;
  slots = λ q. front_same b.slots p q;
  kept = λ a. all_front (λ s. is_kept s ≡ true) b.slots p a;
  below = λ n a. all_front (λ s. s.page < n) b.slots p a;
  has = λ u q. refl;
  others = λ u q e. refl;
}

done_then : (t : TxId) (p : ℕ) (b mid new : Pool) → IsDone t p b mid → IsDone t p mid new → IsDone t p b new
done_then t p b mid new x y = record {
  buffer = y.buffer;
  frames = y.frames ∙ x.frames;
  size = y.size ∙ x.size;
  slots = λ q. y.slots q ∙ x.slots q;
  kept = λ a. y.kept (x.kept a);
  below = λ n a. y.below n (x.below n a);
  has = λ u q. y.has u q ∙ x.has u q;
  others = λ u q e. y.others u q e ∙ x.others u q e;
}

-- other bytes in the private copy
mapped_there : (f : Option (List ℕ) → Option (List ℕ)) (o : Option PrivateCopy) → is_some (option_map (with_bytes f) o) ≡ is_some o
mapped_there f None = refl
mapped_there f (Some x) = refl

has_changed : (f : Option (List ℕ) → Option (List ℕ)) (xs : List PrivateCopy) (t u : TxId) (p q : ℕ) → is_some (private_in (change_private f xs t p) u q) ≡ is_some (private_in xs u q)
has_changed f xs t u p q = by (same_place u q t p) refl
  where
    by : (d : Bool) → same_place u q t p ≡ d → is_some (private_in (change_private f xs t p) u q) ≡ is_some (private_in xs u q)
    by false e = ap is_some (changed_there f xs t u p q e)
    by true e =
        let a = tx_equal u t (and_left (same_tx u t) (q == p) e) in
        let b = number_equal q p (and_right (same_tx u t) (q == p) e) in
        subst (λ v. is_some (private_in (change_private f xs t p) v q) ≡ is_some (private_in xs v q)) (sym a)
        (subst (λ n. is_some (private_in (change_private f xs t p) t n) ≡ is_some (private_in xs t n)) (sym b) (ap is_some (changed_here f xs t p) ∙ mapped_there f (private_in xs t p)))

private_changed_done : (t : TxId) (p : ℕ) (b : Pool) (f : Option (List ℕ) → Option (List ℕ)) → IsBuffer (record b { privates = change_private f b.privates t p }) → IsDone t p b (record b { privates = change_private f b.privates t p })
private_changed_done t p b f sound = record {
  buffer = sound;
  frames = refl;
  size = refl;
  slots = λ q. refl;
  kept = λ a. a;
  below = λ n a. a;
  has = λ u q. has_changed f b.privates t u p q;
  others = λ u q e. ap bytes_of_private (changed_there f b.privates t u p q e);
}

-- the private copy is filled
pub filled_done : (t : TxId) (p : ℕ) (b : Pool) → IsBuffer b → is_some (copy_at b p) ≡ true → IsDone t p b (filled b t p)
unfolding fill
filled_done t p b sound there = by (is_some (private_bytes b t p))
  where
    by : (d : Bool) → IsDone t p b (pick d b (fill b t p))
    by true = record { buffer = sound; frames = refl; size = refl; slots = λ q. refl; kept = λ a. a; below = λ n a. a; has = λ u q. refl; others = λ u q e. refl }
    by false = private_changed_done t p b (λ old. Some (bytes_of_copy (copy_at b p))) (fill_sound b t p there sound)

pub filled_bytes : (t : TxId) (p : ℕ) (b : Pool) → has_private b t p ≡ true → is_some (private_bytes (filled b t p) t p) ≡ true
unfolding fill
filled_bytes t p b there = by (is_some (private_bytes b t p)) refl
  where
    by : (d : Bool) → is_some (private_bytes b t p) ≡ d → is_some (private_bytes (pick d b (fill b t p)) t p) ≡ true
    by true e = e
    by false e =
        let found = some_there (private_at b t p) there in
        ap (λ o. is_some (bytes_of_private o)) (changed_here (λ old. Some (bytes_of_copy (copy_at b p))) b.privates t p ∙ ap (option_map (with_bytes (λ old. Some (bytes_of_copy (copy_at b p))))) found.1)

-- bytes are put into it
pub change_done : (t : TxId) (p from : ℕ) (piece : List ℕ) (b : Pool) → IsBuffer b → from + length piece ≤ b.size → IsDone t p b (change b t p from piece)
unfolding change
change_done t p from piece b sound within = private_changed_done t p b (over_filled from piece) (change_sound b t p from piece within sound)

pub change_bytes : (t : TxId) (p from : ℕ) (piece : List ℕ) (b : Pool) → is_some (private_bytes b t p) ≡ true → is_some (private_bytes (change b t p from piece) t p) ≡ true
unfolding change
change_bytes t p from piece b there = ap (λ o. is_some (bytes_of_private o)) (changed_here (over_filled from piece) b.privates t p) ∙ by (private_at b t p) there
  where
    of : (o : Option (List ℕ)) → is_some o ≡ true → is_some (over_filled from piece o) ≡ true
    of None e = absurd (cc)
    of (Some bytes) e = refl

    by : (o : Option PrivateCopy) → is_some (bytes_of_private o) ≡ true → is_some (bytes_of_private (option_map (with_bytes (over_filled from piece)) o)) ≡ true
    by None e = absurd (cc)
    by (Some x) e = of x.bytes e

-- the buffer after a granted write
abbrev pub pool_written : Pool → TxId → ℕ → ℕ → List ℕ → Pool
pool_written b t p from piece = change (filled (touch b p) t p) t p from piece

pub written_done : (t : TxId) (p from : ℕ) (piece : List ℕ) (b : Pool) → IsBuffer b → is_some (copy_at b p) ≡ true → from + length piece ≤ b.size → IsDone t p b (pool_written b t p from piece)
written_done t p from piece b sound there within =
    let first = touch_done t p b sound in
    let copy : is_some (copy_at (touch b p) p) ≡ true = ap (λ o. is_some (copy_of_slot o)) (first.slots p) ∙ there in
    let second = filled_done t p (touch b p) first.buffer copy in
    let size : (filled (touch b p) t p).size ≡ b.size = second.size ∙ first.size in
    let third = change_done t p from piece (filled (touch b p) t p) second.buffer (omega (arith, within, size)) in
    done_then t p b (touch b p) (pool_written b t p from piece) first (done_then t p (touch b p) (filled (touch b p) t p) (pool_written b t p from piece) second third)

-- what has to hold of the private copy before: a write has a lock for it, and a read finds it filled
-- where it is held exclusively
abbrev pub MayPerform : HomeState → TxId → ℕ → Option (ℕ × List ℕ) → OpenTxs → Pool → Type 0
MayPerform h t p None s b =
    (is_some (private_bytes b t p) ≡ is_exclusive_lock (held_by s t p)) × AreWrittenRuns h.config.size (is_exclusive_lock (held_by s t p)) (runs_at h.written t p)
MayPerform h t p (Some write) s b = (is_exclusive_lock (held_by s t p) ≡ true) × IsWithin h.config.size write

pub performed : (h : HomeState) (t : TxId) (p : ℕ) (write : Option (ℕ × List ℕ)) (s : OpenTxs) (b : Pool) (shelf : List Right) (w : HomeWork)
    → IsHome h → IsBase h t p s b shelf → is_some (copy_at b p) ≡ true → MayPerform h t p write s b
    → IsHome (perform t p write (record w { home = after h s b shelf h.written })).work.home
unfolding perform touch
performed h t p None s b shelf w home base there may =
    let done = touch_done t p b base.buffer in
    step_sound h t p s (touch b p) shelf h.written home
    (record {
      base = base_done h t p s b (touch b p) shelf base done;
      filled = filled_read;
      other_runs = λ u q e. refl;
      runs = may.1;
    })
  where
    filled_read : is_some (private_bytes (touch b p) t p) ≡ is_exclusive_lock (held_by s t p)
    filled_read = kept_read may.0
      where
        kept_read : is_some (private_bytes b t p) ≡ is_exclusive_lock (held_by s t p) → is_some (private_bytes (touch b p) t p) ≡ is_exclusive_lock (held_by s t p)
        kept_read e = e
performed h t p (Some write) s b shelf w home base there may =
    let size : b.size ≡ h.config.size = base.sizes.1 in
    let inside = may.1.1 in
    let some = may.1.0 in
    let done = written_done t p write.0 write.1 b base.buffer there (omega (arith, size, inside)) in
    let has : has_private b t p ≡ true = base.private ∙ or_left (is_exclusive_lock (held_by s t p)) (is_write_of (pending_of s t) p) may.0 in
    let has_touched : has_private (touch b p) t p ≡ true = (touch_done t p b base.buffer).has t p ∙ has in
    let bytes : is_some (private_bytes (pool_written b t p write.0 write.1) t p) ≡ true = change_bytes t p write.0 write.1 (filled (touch b p) t p) (filled_bytes t p (touch b p) has_touched) in
    let before = written_runs h.config.size (is_exclusive_lock (held_by h.txs t p)) (runs_at h.written t p) (home.runs t p) in
    let runs = cover_runs h.config.size 0 (runs_at h.written t p) write.0 (write.0 + length write.1) before (omega arith) (omega (arith, some)) inside in
    let new : List Written = put_runs h.written t p (cover (runs_at h.written t p) write.0 (write.0 + length write.1)) in
    step_sound h t p s (pool_written b t p write.0 write.1) shelf new home
    (record {
      base = base_done h t p s b (pool_written b t p write.0 write.1) shelf base done;
      filled = bytes ∙ sym may.0;
      other_runs = λ u q e. put_there h.written t u p q (cover (runs_at h.written t p) write.0 (write.0 + length write.1)) e;
      runs =
          subst (λ d. AreWrittenRuns h.config.size d (runs_at new t p)) (sym may.0)
          (subst (λ rs. AreWrittenRuns h.config.size true rs) (sym (put_here h.written t p (cover (runs_at h.written t p) write.0 (write.0 + length write.1))))
          (cover_written h.config.size (runs_at h.written t p) write.0 (write.0 + length write.1) runs));
    })
