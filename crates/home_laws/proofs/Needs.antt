-- What a home has for what is held and waited for, and which slot can go.
use Rattle.std.proofs.Common.{◌≡◌, ℕ, ◌+◌, ◌<◌, ◌≤◌, ◌==◌, ◌||◌, not, Bool, true, false, Option, Some, None, is_some, refl, ap, sym, subst, ◌∙◌, arith}
use Rattle.std.proofs.lemmas.Bool.Decides.{nat_tests}
use Rattle.std.specs.Prelude.{option_map}
use Rattle.pcl_base.specs.declared.tx.TxId.{TxId}
use Rattle.node_rules.specs.OpenTxs.{held_by, pending_of, waits_on}
use Rattle.node_rules.specs.BufferRule.{Pool, Slot, Copy, free_frames, can_go, may_go, victim, slot_at, copy_at, copy_of_slot, has_slot, pinned, pinned_slot, is_pinned, is_kept, dirty, is_dirty_copy, has_private, private_bytes, clean, cleaned}
use Rattle.node_rules.specs.NodeState.{HomeState, runs_at}
use Rattle.node_rules.specs.Work.{HomeWork}
use Rattle.node_rules.specs.AccessRule.{make_room}
use Rattle.buffer_pool.specs.Buffer.{IsBuffer}
use Rattle.home_laws.specs.Homes.{IsHome, AreWrittenRuns, pins_of, is_exclusive_lock, is_write_of}
use Rattle.home_laws.specs.AccessNeeds.{MayMakeRoom, MayGo}
use Rattle.home_laws.proofs.Tests.{and_left, and_right, not_true}
use Rattle.home_laws.proofs.Users.{held_used, waits_used, users_most}
use Rattle.home_laws.proofs.SlotLooks.{all_found, changed_here, goes_may, goes_some, goes_there}
use Rattle.home_laws.proofs.Room.{roomy_is, room_home}

-- a slot with pins is there, and pinned
pinned_there : (o : Option Slot) → 1 ≤ pins_of o → (is_some o ≡ true) × (pinned_slot o ≡ true)
pinned_there None some = absurd (omega (arith, some))
pinned_there (Some s) some = (refl, let no : not (s.pins == 0) ≡ true = grind (arith, nat_tests) in no)

-- who holds a page
pub held_page : (h : HomeState) (t : TxId) (p : ℕ) → IsHome h → is_some (held_by h.txs t p) ≡ true → p < h.config.pages
held_page h t p home held = (home.held t p held).0

pub held_copy : (h : HomeState) (t : TxId) (p : ℕ) → IsHome h → is_some (held_by h.txs t p) ≡ true → is_some (copy_at h.pool p) ≡ true
held_copy h t p home held = (home.held t p held).1

pub held_pinned : (h : HomeState) (t : TxId) (p : ℕ) → IsHome h → is_some (held_by h.txs t p) ≡ true → (has_slot h.pool p ≡ true) × (pinned h.pool p ≡ true)
held_pinned h t p home held = pinned_there (slot_at h.pool p) (subst (λ n. 1 ≤ n) (sym (home.pins p)) (held_used h.txs t p held))

-- who waits for a page
pub waiting_pinned : (h : HomeState) (t : TxId) (p : ℕ) → IsHome h → waits_on (pending_of h.txs t) p ≡ true → (has_slot h.pool p ≡ true) × (pinned h.pool p ≡ true)
waiting_pinned h t p home waits = pinned_there (slot_at h.pool p) (subst (λ n. 1 ≤ n) (sym (home.pins p)) (waits_used h.txs t p waits))

-- no slot has more pins than there may be open transactions
pub pins_few : (h : HomeState) (p : ℕ) → IsHome h → pins_of (slot_at h.pool p) ≤ 1024
pins_few h p home =
    let most = users_most h.config h.txs p home.txs in
    let pins = home.pins p in
    omega (arith, most, pins)

pub or_of : (a b : Bool) → b ≡ true → (a || b) ≡ true
or_of true b e = refl
or_of false b e = e

-- a write that waits has a private copy
pub waiting_private : (h : HomeState) (t : TxId) (p : ℕ) → IsHome h → is_write_of (pending_of h.txs t) p ≡ true → has_private h.pool t p ≡ true
waiting_private h t p home waits = home.privates t p ∙ or_of (is_exclusive_lock (held_by h.txs t p)) (is_write_of (pending_of h.txs t) p) waits

-- a page that is held exclusively has one with content, and written places
pub exclusive_private : (h : HomeState) (t : TxId) (p : ℕ) → IsHome h → is_exclusive_lock (held_by h.txs t p) ≡ true → has_private h.pool t p ≡ true
exclusive_private h t p home exclusive = home.privates t p ∙ ap (λ d. d || is_write_of (pending_of h.txs t) p) exclusive

pub exclusive_filled : (h : HomeState) (t : TxId) (p : ℕ) → IsHome h → is_exclusive_lock (held_by h.txs t p) ≡ true → is_some (private_bytes h.pool t p) ≡ true
exclusive_filled h t p home exclusive = home.filled t p ∙ exclusive

pub exclusive_runs : (h : HomeState) (t : TxId) (p : ℕ) → IsHome h → is_exclusive_lock (held_by h.txs t p) ≡ true → AreWrittenRuns h.config.size true (runs_at h.written t p)
exclusive_runs h t p home exclusive = subst (λ d. AreWrittenRuns h.config.size d (runs_at h.written t p)) exclusive (home.runs t p)

-- a slot can go where no frame is free
pub victim_there : (keep : ℕ) (h : HomeState) → MayMakeRoom keep h → free_frames h.pool ≡ 0 → is_some (victim h.pool keep) ≡ true
victim_there keep h may none =
    let enough = may.enough in
    goes_some h.pool.slots keep (omega (arith, enough, none))

pub victim_goes : (keep : ℕ) (h : HomeState) (s : Slot) → MayMakeRoom keep h → victim h.pool keep ≡ Some s → MayGo keep h s
victim_goes keep h s may found = record {
  page = all_found (λ x. x.page < h.config.pages) h.pool.slots s.page s there may.below;
  apart = apart;
  slot = there;
  copy = ap (λ o. is_some (copy_of_slot o)) there ∙ kept_copy (all_found (λ x. (x.page == keep) ≡ false → is_kept x ≡ true) h.pool.slots s.page s there may.kept apart);
  unpinned = ap pinned_slot there ∙ free;
}
  where
    there : slot_at h.pool s.page ≡ Some s
    there = goes_there h.pool.slots keep s may.one_slot found

    goes : may_go keep s ≡ true
    goes = goes_may h.pool.slots keep s found

    apart : (s.page == keep) ≡ false
    apart = not_true (s.page == keep) (and_left (not (s.page == keep)) (not (is_pinned s)) goes)

    free : is_pinned s ≡ false
    free = not_true (is_pinned s) (and_right (not (s.page == keep)) (not (is_pinned s)) goes)

    kept_copy : is_kept s ≡ true → is_some s.copy ≡ true
    kept_copy kept = of (is_some s.copy) (is_pinned s) free kept
      where
        of : (c d : Bool) → d ≡ false → c || d ≡ true → c ≡ true
        of true d e k = refl
        of false true e k = absurd (cc)
        of false false e k = absurd (cc)

-- a copy that is clean can leave as well
pub clean_copy_there : (b : Pool) (p : ℕ) → is_some (copy_at b p) ≡ true → (is_some (copy_at (clean b p) p) ≡ true) × (dirty (clean b p) p ≡ false)
unfolding clean
clean_copy_there b p copy =
    subst (λ o. (is_some (copy_of_slot o) ≡ true) × (is_dirty_copy (copy_of_slot o) ≡ false)) (sym (changed_here (λ (s : Slot). record s { copy = cleaned s.copy }) (λ s. refl) b.slots p)) (by (slot_at b p) copy)
  where
    of : (o : Option Copy) → is_some o ≡ true → (is_some (cleaned o) ≡ true) × (is_dirty_copy (cleaned o) ≡ false)
    of None e = absurd (cc)
    of (Some c) e = (refl, refl)

    by : (o : Option Slot) → is_some (copy_of_slot o) ≡ true
        → (is_some (copy_of_slot (option_map (λ (s : Slot). record s { copy = cleaned s.copy }) o)) ≡ true) × (is_dirty_copy (copy_of_slot (option_map (λ (s : Slot). record s { copy = cleaned s.copy }) o)) ≡ false)
    by None e = absurd (cc)
    by (Some s) e = of s.copy e

pub clean_pins_same : (b : Pool) (p : ℕ) → pinned (clean b p) p ≡ pinned b p
unfolding clean
clean_pins_same b p = ap pinned_slot (changed_here (λ (s : Slot). record s { copy = cleaned s.copy }) (λ s. refl) b.slots p) ∙ by (slot_at b p)
  where
    by : (o : Option Slot) → pinned_slot (option_map (λ (s : Slot). record s { copy = cleaned s.copy }) o) ≡ pinned_slot o
    by None = refl
    by (Some s) = refl

-- the home with a free frame
pub record HasRoom (keep : ℕ) (h new : HomeState) : Type 0 where
  pub free : 0 < free_frames new.pool
  pub slot : slot_at new.pool keep ≡ slot_at h.pool keep
  pub privates : new.pool.privates ≡ h.pool.privates
  pub txs : new.txs ≡ h.txs

pub room_of : (keep : ℕ) (w : HomeWork) → IsBuffer w.home.pool → 1 ≤ free_frames w.home.pool + can_go w.home.pool keep → HasRoom keep w.home (make_room keep w).home
room_of keep w sound enough =
    let room = roomy_is keep w.home.pool sound enough in
    let free = room.room in
    subst (λ (h : HomeState). HasRoom keep w.home h) (sym (room_home keep w)) (record { free = omega (arith, free); slot = room.page; privates = room.privates; txs = refl })
