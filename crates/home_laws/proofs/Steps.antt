-- A step of one transaction at one page: what has to be shown of it, so that the home stays sound.
use Rattle.std.proofs.Common.{◌≡◌, ℕ, ◌<◌, ◌≤◌, ◌==◌, ◌&&◌, ◌||◌, Bool, true, false, List, Option, is_some, IfSome, refl, ap, sym, subst, ◌∙◌, arith}
use Rattle.std.proofs.lemmas.Bool.Decides.{nat_tests}
use Rattle.std.specs.List.{All}
use Rattle.pcl_base.specs.declared.tx.TxId.{TxId}
use Rattle.node_rules.specs.Words.{same_tx, among, covers}
use Rattle.node_rules.specs.OpenTxs.{OpenTx, OpenTxs, open_at, pages_of_open, waiting_of_open, held_by, pending_of, lock_on, mode_held}
use Rattle.node_rules.specs.Shelf.{Right, right_on, readers_of}
use Rattle.node_rules.specs.NodeState.{HomeState, Written, runs_at}
use Rattle.node_rules.specs.BufferRule.{Pool, slot_at, copy_at, has_private, private_bytes, is_kept}
use Rattle.buffer_pool.specs.Buffer.{IsBuffer}
use Rattle.home_laws.specs.Homes.{IsHome, AreOpen, AreWrittenRuns, IsAccess, users, pins_of, is_exclusive_lock, is_right_lock, is_write_of}
use Rattle.home_laws.proofs.Tests.{number_equal, tx_equal}
use Rattle.home_laws.proofs.Users.{held_used}
use Rattle.home_laws.proofs.PrivateLooks.{same_place}

-- the open transactions, the buffer and the rights after a step of transaction t at page p of home h;
-- the content of its private copy of the page is left open
pub record IsBase (h : HomeState) (t : TxId) (p : ℕ) (s : OpenTxs) (b : Pool) (shelf : List Right) : Type 0 where
  pub page : p < h.config.pages
  pub buffer : IsBuffer b
  pub sizes : (b.frames ≡ h.config.frames) × (b.size ≡ h.config.size)
  pub txs : AreOpen h.config s
  pub pins : (q : ℕ) → pins_of (slot_at b q) ≡ users s q
  pub kept : All (λ x. is_kept x ≡ true) b.slots
  pub below : All (λ x. x.page < h.config.pages) b.slots
  -- other transactions, and other pages of this one
  pub others : (u : TxId) → same_tx u t ≡ false → open_at s u ≡ open_at h.txs u
  pub locks : (q : ℕ) → (p == q) ≡ false → held_by s t q ≡ held_by h.txs t q
  pub writes : (q : ℕ) → (p == q) ≡ false → is_write_of (pending_of s t) q ≡ is_write_of (pending_of h.txs t) q
  -- pinned copies stay, and a page that is held has one
  pub copies : (q : ℕ) → 1 ≤ pins_of (slot_at h.pool q) → is_some (copy_at h.pool q) ≡ true → is_some (copy_at b q) ≡ true
  pub copy : is_some (held_by s t p) ≡ true → is_some (copy_at b p) ≡ true
  -- the access that waits
  pub waits : IfSome (pending_of s t) (IsAccess h.config)
  pub needed : IfSome (pending_of s t) (λ w. covers (mode_held (held_by s t w.page)) w.mode ≡ false)
  -- other private copies, and this one
  pub other_private : (u : TxId) (q : ℕ) → same_place u q t p ≡ false → has_private b u q ≡ has_private h.pool u q
  pub other_filled : (u : TxId) (q : ℕ) → same_place u q t p ≡ false → is_some (private_bytes b u q) ≡ is_some (private_bytes h.pool u q)
  pub private : has_private b t p ≡ (is_exclusive_lock (held_by s t p) || is_write_of (pending_of s t) p)
  -- who reads under a right
  pub readers : (q : ℕ) → All (λ u. is_some (held_by s u q) ≡ true) (readers_of (right_on shelf q))
  pub reading : (u : TxId) (q : ℕ) → is_right_lock (held_by s u q) ≡ true → among (readers_of (right_on shelf q)) u ≡ true

-- and the written places
pub record IsStep (h : HomeState) (t : TxId) (p : ℕ) (s : OpenTxs) (b : Pool) (shelf : List Right) (written : List Written) : Type 0 where
  pub base : IsBase h t p s b shelf
  pub filled : is_some (private_bytes b t p) ≡ is_exclusive_lock (held_by s t p)
  pub other_runs : (u : TxId) (q : ℕ) → same_place u q t p ≡ false → runs_at written u q ≡ runs_at h.written u q
  pub runs : AreWrittenRuns h.config.size (is_exclusive_lock (held_by s t p)) (runs_at written t p)

-- a transaction and a page are this one, another page of it, or of another transaction
pub each_place : (t : TxId) (p : ℕ) (P : TxId → ℕ → Type 0) → P t p → ((q : ℕ) → (p == q) ≡ false → P t q) → ((u : TxId) (q : ℕ) → same_tx u t ≡ false → P u q) → (u : TxId) (q : ℕ) → P u q
each_place t p P here page tx u q = by (same_tx u t) refl
  where
    of : (b : Bool) → (p == q) ≡ b → P t q
    of true e = subst (λ n. P t n) (number_equal p q e) here
    of false e = page q e

    by : (b : Bool) → same_tx u t ≡ b → P u q
    by true e = subst (λ v. P v q) (sym (tx_equal u t e)) (of (p == q) refl)
    by false e = tx u q e

pub other_page : (t : TxId) (p q : ℕ) → (p == q) ≡ false → same_place t q t p ≡ false
other_page t p q e = grind (arith, nat_tests)

pub other_tx : (t u : TxId) (p q : ℕ) → same_tx u t ≡ false → same_place u q t p ≡ false
other_tx t u p q e = ap (λ b. b && q == p) e

-- the home after such a step
abbrev pub after : HomeState → OpenTxs → Pool → List Right → List Written → HomeState
after h s b shelf written = record { config = h.config; txs = s; shelf = shelf; pool = b; written = written }

module _ (h : HomeState) (t : TxId) (p : ℕ) (s : OpenTxs) (b : Pool) (shelf : List Right) (written : List Written) (home : IsHome h) (step : IsStep h t p s b shelf written) where
  held_other : (u : TxId) (q : ℕ) → same_tx u t ≡ false → held_by s u q ≡ held_by h.txs u q
  held_other u q e = ap (λ o. lock_on (pages_of_open o) q) (step.base.others u e)

  pending_other : (u : TxId) → same_tx u t ≡ false → pending_of s u ≡ pending_of h.txs u
  pending_other u e = ap waiting_of_open (step.base.others u e)

  held_before : (u : TxId) (q : ℕ) → held_by s u q ≡ held_by h.txs u q → is_some (held_by s u q) ≡ true → (q < h.config.pages) × (is_some (copy_at b q) ≡ true)
  held_before u q same e =
      let held : is_some (held_by h.txs u q) ≡ true = ap is_some (sym same) ∙ e in
      let was = home.held u q held in
      let used : 1 ≤ users h.txs q = held_used h.txs u q held in
      let pinned : 1 ≤ pins_of (slot_at h.pool q) = subst (λ n. 1 ≤ n) (sym (home.pins q)) used in
      (was.0, step.base.copies q pinned was.1)

  by_tx : (P : TxId → Type 0) → P t → ((u : TxId) → same_tx u t ≡ false → P u) → (u : TxId) → P u
  by_tx P here other u = by (same_tx u t) refl
    where
      by : (d : Bool) → same_tx u t ≡ d → P u
      by true e = subst P (sym (tx_equal u t e)) here
      by false e = other u e

  -- the home stays sound
  pub step_sound : IsHome (after h s b shelf written)
  step_sound = record {
    buffer = step.base.buffer;
    sizes = step.base.sizes;
    txs = step.base.txs;
    pins = step.base.pins;
    kept = step.base.kept;
    below = step.base.below;
    held =
        each_place t p (λ u q. is_some (held_by s u q) ≡ true → (q < h.config.pages) × (is_some (copy_at b q) ≡ true))
        (λ e. (step.base.page, step.base.copy e)) (λ q other. held_before t q (step.base.locks q other)) (λ u q other. held_before u q (held_other u q other));
    waits = by_tx (λ u. IfSome (pending_of s u) (IsAccess h.config)) step.base.waits (λ u e. subst (λ o. IfSome o (IsAccess h.config)) (sym (pending_other u e)) (home.waits u));
    needed =
        by_tx (λ u. IfSome (pending_of s u) (λ w. covers (mode_held (held_by s u w.page)) w.mode ≡ false)) step.base.needed
        (λ u e. subst (λ (o : Option OpenTx). IfSome (waiting_of_open o) (λ w. covers (mode_held (lock_on (pages_of_open o) w.page)) w.mode ≡ false)) (sym (step.base.others u e)) (home.needed u));
    privates =
        each_place t p (λ u q. has_private b u q ≡ (is_exclusive_lock (held_by s u q) || is_write_of (pending_of s u) q)) step.base.private
        (λ q e.
        step.base.other_private t q (other_page t p q e) ∙ home.privates t q
        ∙ ap (λ d. d || is_write_of (pending_of h.txs t) q) (ap is_exclusive_lock (sym (step.base.locks q e)))
        ∙ ap (λ d. is_exclusive_lock (held_by s t q) || d) (sym (step.base.writes q e)))
        (λ u q e.
        step.base.other_private u q (other_tx t u p q e) ∙ home.privates u q
        ∙ ap (λ (o : Option OpenTx). is_exclusive_lock (lock_on (pages_of_open o) q) || is_write_of (waiting_of_open o) q) (sym (step.base.others u e)));
    filled =
        each_place t p (λ u q. is_some (private_bytes b u q) ≡ is_exclusive_lock (held_by s u q)) step.filled
        (λ q e. step.base.other_filled t q (other_page t p q e) ∙ home.filled t q ∙ ap is_exclusive_lock (sym (step.base.locks q e)))
        (λ u q e. step.base.other_filled u q (other_tx t u p q e) ∙ home.filled u q ∙ ap is_exclusive_lock (sym (held_other u q e)));
    runs =
        each_place t p (λ u q. AreWrittenRuns h.config.size (is_exclusive_lock (held_by s u q)) (runs_at written u q)) step.runs
        (λ q e. kept_runs t q (step.base.locks q e) (step.other_runs t q (other_page t p q e)))
        (λ u q e. kept_runs u q (held_other u q e) (step.other_runs u q (other_tx t u p q e)));
    readers = step.base.readers;
    reading = step.base.reading;
  }
    where
      kept_runs : (u : TxId) (q : ℕ) → held_by s u q ≡ held_by h.txs u q → runs_at written u q ≡ runs_at h.written u q → AreWrittenRuns h.config.size (is_exclusive_lock (held_by s u q)) (runs_at written u q)
      kept_runs u q lock same =
          subst (λ rs. AreWrittenRuns h.config.size (is_exclusive_lock (held_by s u q)) rs) (sym same)
          (subst (λ l. AreWrittenRuns h.config.size (is_exclusive_lock l) (runs_at h.written u q)) (sym lock) (home.runs u q))
