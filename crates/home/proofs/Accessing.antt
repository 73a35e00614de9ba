-- What an access that isn't refused comes to: it is held, allowed under the right, or waits.
use Rattle.std.proofs.Common.{◌≡◌, ℕ, ◌&&◌, not, Bool, true, false, List, Option, Some, None, is_some, refl, ap, sym, ◌∙◌}
use Rattle.pcl_base.specs.declared.tx.TxId.{TxId}
use Rattle.node_rules.specs.Words.{pick, covers}
use Rattle.node_rules.specs.OpenTxs.{held_by, mode_held}
use Rattle.node_rules.specs.BufferRule.{Pool, Slot, slot_at, slot_in, has_slot, copy_of_slot, version_of_copy, find, has_private, place, private, pin}
use Rattle.node_rules.specs.NodeState.{HomeState}
use Rattle.node_rules.specs.Work.{HomeWork, with_pool}
use Rattle.node_rules.specs.AccessRule.{Access, Accessed, make_room, take_private, pin_once, take_frames, on_pool, mode_of_write, is_held, is_allowed, has_version, now_done, perform, under_right, waiting, next_of, access_in, access}
use Rattle.home_laws.specs.Homes.{IsHome}
use Rattle.home_laws.proofs.Allowed.{MayAccess}
use Rattle.home_laws.proofs.Covering.{covers_some, covers_write, uncovered_read}
use Rattle.home_laws.proofs.Needs.{held_pinned, exclusive_private}
use Rattle.home_laws.proofs.Taken.{pinned_copy, with_slot}
use Rattle.home_laws.proofs.Locks.{wait_held_here}
use Rattle.home_laws.proofs.Tests.{number_same, none_there}
use Rattle.home_laws.proofs.Room.{roomy}
use Rattle.home_laws.proofs.Frames.{slot_taken, private_taken, pin_taken, frames_taken, frames_home}
use Rattle.home.specs.Device.{work_on}
use Rattle.home.proofs.Framing.{slot_had, private_none}
use Rattle.home.proofs.Calling.{frames_same}

-- a write with a private copy takes none
private_had : (t : TxId) (p : ℕ) (write : Option (ℕ × List ℕ)) (w : HomeWork) → (is_some write ≡ true → has_private w.home.pool t p ≡ true) → take_private t p write w ≡ w
unfolding take_private
private_had t p None w has = refl
private_had t p (Some write) w has = ap (λ d. pick d w (on_pool (λ b. private b t p) (make_room p w))) (has refl)

pinned_had : (t : TxId) (p : ℕ) (w : HomeWork) → is_some (held_by w.home.txs t p) ≡ true → pin_once t p w ≡ w
pinned_had t p w e = ap (λ d. pick d w (on_pool (λ b. pin b p) w)) e

pinned_now : (t : TxId) (p : ℕ) (w : HomeWork) → is_some (held_by w.home.txs t p) ≡ false → pin_once t p w ≡ on_pool (λ b. pin b p) w
pinned_now t p w e = ap (λ d. pick d w (on_pool (λ b. pin b p) w)) e

module _ (a : Access) (h : HomeState) (home : IsHome h) where
  -- a page that is held as it has to be
  module _ (held : is_held a h ≡ true) where
    pub held_there : is_some (held_by h.txs a.tx a.page) ≡ true
    held_there = covers_some (held_by h.txs a.tx a.page) (mode_of_write a.write) held

    pub held_private : is_some a.write ≡ true → has_private h.pool a.tx a.page ≡ true
    held_private write = of a.write write held
      where
        of : (o : Option (ℕ × List ℕ)) → is_some o ≡ true → covers (mode_held (held_by h.txs a.tx a.page)) (mode_of_write o) ≡ true → has_private h.pool a.tx a.page ≡ true
        of None e c = absurd (cc)
        of (Some w) e c = exclusive_private h a.tx a.page home (covers_write (held_by h.txs a.tx a.page) c)

    held_frames : take_frames a (work_on h) ≡ work_on h
    unfolding take_frames
    held_frames =
        ap (λ w. pin_once a.tx a.page (take_private a.tx a.page a.write w)) (slot_had a.page (work_on h) (held_pinned h a.tx a.page home held_there).0)
        ∙ ap (pin_once a.tx a.page) (private_had a.tx a.page a.write (work_on h) held_private)
        ∙ pinned_had a.tx a.page (work_on h) held_there

    pub held_access : (owned : Bool) → access a owned (work_on h) ≡ now_done (perform a.tx a.page a.write (work_on h))
    unfolding access access_in
    held_access owned =
        ap (access_in a owned) held_frames
        ∙ ap (λ d. pick d (now_done (perform a.tx a.page a.write (work_on h)))
        (pick (is_allowed a owned h) (now_done (perform a.tx a.page None (work_on (under_right a.tx a.page h)))) (record { next = next_of a owned (find h.pool a.page); work = work_on (waiting a h) }))) held

  -- it is a read, for which the node has the right and a copy of its version
  allowed_read : (owned : Bool) (write : Option (ℕ × List ℕ)) (found : Option ℕ) → not owned && (not (is_some write) && has_version h.shelf a.page found) ≡ true → (write ≡ None) × (has_version h.shelf a.page found ≡ true)
  allowed_read true write found e = absurd (cc)
  allowed_read false (Some w) found e = absurd (cc)
  allowed_read false None found e = (refl, e)

  found_slot : (o : Option Slot) → has_version h.shelf a.page (version_of_copy (copy_of_slot o)) ≡ true → is_some o ≡ true
  found_slot None e = absurd (cc)
  found_slot (Some s) e = refl

  module _ (owned : Bool) (free : is_held a h ≡ false) (may : is_allowed a owned h ≡ true) where
    pub right_read : a.write ≡ None
    right_read = (allowed_read owned a.write (find h.pool a.page) may).0

    pub right_slot : has_slot h.pool a.page ≡ true
    right_slot = found_slot (slot_at h.pool a.page) (allowed_read owned a.write (find h.pool a.page) may).1

    pub right_free : held_by h.txs a.tx a.page ≡ None
    right_free = uncovered_read (held_by h.txs a.tx a.page) (ap (λ o. covers (mode_held (held_by h.txs a.tx a.page)) (mode_of_write o)) (sym right_read) ∙ free)

    right_frames : take_frames a (work_on h) ≡ on_pool (λ b. pin b a.page) (work_on h)
    unfolding take_frames
    right_frames =
        ap (λ w. pin_once a.tx a.page (take_private a.tx a.page a.write w)) (slot_had a.page (work_on h) right_slot)
        ∙ ap (λ o. pin_once a.tx a.page (take_private a.tx a.page o (work_on h))) right_read
        ∙ ap (pin_once a.tx a.page) (private_none a.tx a.page (work_on h))
        ∙ pinned_now a.tx a.page (work_on h) (ap is_some right_free)

    pub right_access : access a owned (work_on h) ≡ now_done (perform a.tx a.page None (work_on (under_right a.tx a.page (with_pool h (pin h.pool a.page)))))
    unfolding access access_in
    right_access =
        let pinned : HomeState = with_pool h (pin h.pool a.page) in
        let other : Accessed = record { next = next_of a owned (find (pin h.pool a.page) a.page); work = work_on (waiting a pinned) } in
        let done : Accessed = now_done (perform a.tx a.page None (work_on (under_right a.tx a.page pinned))) in
        ap (access_in a owned) right_frames
        ∙ ap (λ d. pick d (now_done (perform a.tx a.page a.write (work_on pinned))) (pick (is_allowed a owned pinned) done other)) free
        ∙ ap (λ d. pick d done other) (ap (λ c. not owned && (not (is_some a.write) && has_version h.shelf a.page (version_of_copy c))) (pinned_copy h.pool a.page a.page) ∙ may)

  -- it waits
  module _ (may : MayAccess a h) (owned : Bool) (free : is_held a h ≡ false) (not_allowed : is_allowed a owned h ≡ false) where
    taken_home : (take_frames a (work_on h)).home ≡ with_pool h (frames_taken h a)
    taken_home = frames_home a (work_on h)

    still_free : is_held a (take_frames a (work_on h)).home ≡ false
    still_free = ap (λ (x : HomeState). is_held a x) taken_home ∙ free

    -- the frames bring no copy
    find_slot : find (slot_taken h.pool a.page) a.page ≡ find h.pool a.page
    unfolding place slot_in
    find_slot = of (has_slot h.pool a.page) refl
      where
        of : (d : Bool) → has_slot h.pool a.page ≡ d → find (slot_taken h.pool a.page) a.page ≡ find h.pool a.page
        of true e = ap (λ o. version_of_copy (copy_of_slot o)) ((with_slot a h home may).framed.keep e)
        of false e =
            ap (λ d. find (pick d h.pool (place (roomy h.pool a.page) a.page)) a.page) e
            ∙ ap (λ d. version_of_copy (copy_of_slot (pick d (Some (record { page = a.page; copy = None; pins = 0 })) (slot_in (roomy h.pool a.page).slots a.page)))) (number_same a.page)
            ∙ sym (ap (λ o. version_of_copy (copy_of_slot o)) (none_there (slot_at h.pool a.page) e))

    still_not : is_allowed a owned (take_frames a (work_on h)).home ≡ false
    still_not = ap (λ (x : HomeState). is_allowed a owned x) taken_home ∙ of a.write refl
      where
        pinned_find : (d : Bool) (b : Pool) → find (pin_taken d b a.page) a.page ≡ find b a.page
        pinned_find true b = refl
        pinned_find false b = ap version_of_copy (pinned_copy b a.page a.page)

        nothing : (owns : Bool) (x : Bool) → not owns && (false && x) ≡ false
        nothing true x = refl
        nothing false x = refl

        of : (o : Option (ℕ × List ℕ)) → a.write ≡ o → is_allowed a owned (with_pool h (frames_taken h a)) ≡ false
        of None e =
            ap (λ o. not owned && (not (is_some a.write) && has_version h.shelf a.page (find (pin_taken (is_some (held_by h.txs a.tx a.page)) (private_taken (slot_taken h.pool a.page) a.tx a.page o) a.page) a.page))) e
            ∙ ap (λ f. not owned && (not (is_some a.write) && has_version h.shelf a.page f)) (pinned_find (is_some (held_by h.txs a.tx a.page)) (slot_taken h.pool a.page) ∙ find_slot)
            ∙ not_allowed
        of (Some w) e = ap (λ o. not owned && (not (is_some o) && has_version h.shelf a.page (find (frames_taken h a) a.page))) e ∙ nothing owned (has_version h.shelf a.page (find (frames_taken h a) a.page))

    -- so it waits, with its frames
    abbrev entered : Accessed
    entered = record { next = next_of a owned (find (take_frames a (work_on h)).home.pool a.page); work = record (take_frames a (work_on h)) { home = waiting a (take_frames a (work_on h)).home } }

    waits : access a owned (work_on h) ≡ entered
    unfolding access access_in
    waits =
        let w : HomeWork = take_frames a (work_on h) in
        ap (λ d. pick d (now_done (perform a.tx a.page a.write w)) (pick (is_allowed a owned w.home) (now_done (perform a.tx a.page None (record w { home = under_right a.tx a.page w.home }))) entered)) still_free
        ∙ ap (λ d. pick d (now_done (perform a.tx a.page None (record w { home = under_right a.tx a.page w.home }))) entered) still_not

    same_taken : frames_taken (waiting a h) a ≡ frames_taken h a
    same_taken =
        ap (λ o. pin_taken (is_some o) (private_taken (slot_taken h.pool a.page) a.tx a.page a.write) a.page)
        (wait_held_here h.txs a.tx (record { page = a.page; mode = mode_of_write a.write; write = a.write }) may.there a.page)

    entered_home : (take_frames a (work_on (waiting a h))).home ≡ waiting a (with_pool h (frames_taken h a))
    entered_home = frames_home a (work_on (waiting a h)) ∙ ap (with_pool (waiting a h)) same_taken

    pub wait_home : (access a owned (work_on h)).work.home ≡ (take_frames a (work_on (waiting a h))).home
    wait_home = ap (λ x. x.work.home) waits ∙ ap (waiting a) taken_home ∙ sym entered_home

    pub wait_calls : (access a owned (work_on h)).work.calls ≡ (take_frames a (work_on (waiting a h))).calls
    wait_calls = ap (λ x. x.work.calls) waits ∙ frames_same a h (waiting a h) refl

    pub wait_next : (access a owned (work_on h)).next ≡ next_of a owned (find (take_frames a (work_on (waiting a h))).home.pool a.page)
    wait_next =
        ap (λ x. x.next) waits ∙ ap (λ (x : HomeState). next_of a owned (find x.pool a.page)) taken_home
        ∙ sym (ap (λ (x : HomeState). next_of a owned (find x.pool a.page)) entered_home)
