-- A home whose open transactions hold and wait for the same keeps what holds of every home.
use Rattle.std.proofs.Common.{◌≡◌, ℕ, ◌||◌, Bool, true, false, List, Option, Some, None, is_some, IfSome, slice_index_or, refl, ap, sym, subst, ◌∙◌}
use Rattle.std.specs.List.{All}
use Rattle.pcl_base.specs.Limits.{Sizes}
use Rattle.pcl_base.specs.declared.tx.TxId.{TxId}
use Rattle.pcl_base.specs.declared.tx.Mode.{Mode}
use Rattle.pcl_base.specs.declared.lock.Held.{Held}
use Rattle.pcl_base.specs.declared.lock.Pending.{Pending}
use Rattle.node_rules.specs.Words.{covers, among, is_exclusive}
use Rattle.node_rules.specs.OpenTxs.{OpenTxs, held_by, mode_held, pending_of}
use Rattle.node_rules.specs.Shelf.{Right, right_on, readers_of}
use Rattle.node_rules.specs.NodeState.{HomeState, runs_at}
use Rattle.home_laws.specs.Homes.{IsHome, IsAccess, AreOpen, AreWrittenRuns, users, is_exclusive_lock, is_right_lock, is_write_of}

-- the mode that is held tells whether a lock is there, and whether it is an exclusive one
pub there_by_mode : (a b : Option Held) → mode_held a ≡ mode_held b → is_some a ≡ is_some b
there_by_mode None None e = refl
there_by_mode None (Some y) e = absurd (cc)
there_by_mode (Some x) None e = absurd (cc)
there_by_mode (Some x) (Some y) e = refl

abbrev exclusive_mode : Option Mode → Bool
exclusive_mode None = false
exclusive_mode (Some m) = is_exclusive m

exclusive_is : (a : Option Held) → exclusive_mode (mode_held a) ≡ is_exclusive_lock a
exclusive_is None = refl
exclusive_is (Some x) = refl

pub exclusive_by_mode : (a b : Option Held) → mode_held a ≡ mode_held b → is_exclusive_lock a ≡ is_exclusive_lock b
exclusive_by_mode a b e = sym (exclusive_is a) ∙ ap exclusive_mode e ∙ exclusive_is b

-- open transactions that hold the same pages in the same modes and wait for the same
pub record HoldSame (c : Sizes) (a b : OpenTxs) : Type 0 where
  pub are : AreOpen c b
  pub users : (p : ℕ) → users b p ≡ users a p
  pub modes : (t : TxId) (p : ℕ) → mode_held (held_by b t p) ≡ mode_held (held_by a t p)
  pub waits : (t : TxId) → pending_of b t ≡ pending_of a t

-- the readers under each right hold its page still, and who holds a page under a right reads under it
module _ (h : HomeState) (s : OpenTxs) (shelf : List Right) (is : IsHome h) (same : HoldSame h.config h.txs s)
    (readers : (p : ℕ) → All (λ t. is_some (held_by h.txs t p) ≡ true) (readers_of (right_on shelf p)))
    (reading : (t : TxId) (p : ℕ) → is_right_lock (held_by s t p) ≡ true → among (readers_of (right_on shelf p)) t ≡ true) where
  there : (t : TxId) (p : ℕ) → is_some (held_by s t p) ≡ is_some (held_by h.txs t p)
  there t p = there_by_mode (held_by s t p) (held_by h.txs t p) (same.modes t p)

  exclusive : (t : TxId) (p : ℕ) → is_exclusive_lock (held_by s t p) ≡ is_exclusive_lock (held_by h.txs t p)
  exclusive t p = exclusive_by_mode (held_by s t p) (held_by h.txs t p) (same.modes t p)

  needed_now : (t : TxId) → IfSome (pending_of s t) (λ w. covers (mode_held (held_by s t w.page)) w.mode ≡ false)
  needed_now t =
      let modes : (λ (p : ℕ). mode_held (held_by h.txs t p)) ≡ (λ (p : ℕ). mode_held (held_by s t p)) = λ i p. sym (same.modes t p) i in
      let old = subst (λ (g : ℕ → Option Mode). IfSome (pending_of h.txs t) (λ w. covers (g w.page) w.mode ≡ false)) modes (is.needed t) in
      subst (λ (o : Option Pending). IfSome o (λ w. covers (mode_held (held_by s t w.page)) w.mode ≡ false)) (sym (same.waits t)) old

  pub held_same : IsHome (record h { txs = s; shelf = shelf })
  held_same =
      record {
        buffer = is.buffer;
        sizes = is.sizes;
        txs = same.are;
        pins = λ p. is.pins p ∙ sym (same.users p);
        kept = is.kept;
        below = is.below;
        held = λ t p some. is.held t p (sym (there t p) ∙ some);
        waits = λ t. subst (λ (o : Option Pending). IfSome o (IsAccess h.config)) (sym (same.waits t)) (is.waits t);
        needed = needed_now;
        privates = λ t p. is.privates t p ∙ sym (λ i. exclusive t p i || is_write_of (same.waits t i) p);
        filled = λ t p. is.filled t p ∙ sym (exclusive t p);
        runs = λ t p. subst (λ (b : Bool). AreWrittenRuns h.config.size b (runs_at h.written t p)) (sym (exclusive t p)) (is.runs t p);
        readers = λ p k d l. there (slice_index_or (readers_of (right_on shelf p)) k d) p ∙ readers p k d l;
        reading = reading;
      }
