-- The frames of an access, stage by stage.
use Rattle.std.proofs.Common.{◌≡◌, ℕ, ◌+◌, ◌<◌, ◌≤◌, ◌==◌, not, ◌||◌, true, false, List, Option, Some, None, is_some, IfSome, refl, ap, sym, subst, ◌∙◌, arith}
use Rattle.std.specs.List.{All}
use Rattle.pcl_base.specs.Limits.{Sizes}
use Rattle.pcl_base.specs.declared.tx.TxId.{TxId}
use Rattle.node_rules.specs.Words.{pick}
use Rattle.node_rules.specs.BufferRule.{Pool, Slot, slot_at, has_slot, has_private, private_in, is_kept, free_frames, can_go, one_unless, place, private}
use Rattle.node_rules.specs.Work.{HomeWork}
use Rattle.node_rules.specs.AccessRule.{Access, make_room, take_slot, take_private, on_pool}
use Rattle.buffer_pool.specs.Buffer.{IsBuffer}
use Rattle.home_laws.specs.Homes.{pins_of}
use Rattle.home_laws.proofs.Frames.{slot_taken, slot_home, slot_taken_is, IsPlaced, private_taken, private_home, private_taken_is, IsWritable}
use Rattle.home_laws.proofs.Room.{roomy, room_home, roomy_is, IsRoomy}
use Rattle.home.specs.Parts.{PartsView, GoWell, MayTakeFrames}
use Rattle.home.specs.Device.{work_on}

-- a page that has a slot
pub slot_had : (p : ℕ) (w : HomeWork) → has_slot w.home.pool p ≡ true → take_slot p w ≡ w
unfolding take_slot
slot_had p w e = ap (λ d. pick d w (on_pool (λ b. place b p) (make_room p w))) e

-- a page that has none
pub slot_placed : (p : ℕ) (w : HomeWork) → has_slot w.home.pool p ≡ false → take_slot p w ≡ on_pool (λ b. place b p) (make_room p w)
unfolding take_slot
slot_placed p w e = ap (λ d. pick d w (on_pool (λ b. place b p) (make_room p w))) e

-- a write without a private copy
pub private_placed : (t : TxId) (p : ℕ) (write : ℕ × List ℕ) (w : HomeWork) → has_private w.home.pool t p ≡ false → take_private t p (Some write) w ≡ on_pool (λ b. private b t p) (make_room p w)
unfolding take_private
private_placed t p write w e = ap (λ d. pick d w (on_pool (λ b. private b t p) (make_room p w))) e

pub private_none : (t : TxId) (p : ℕ) (w : HomeWork) → take_private t p None w ≡ w
unfolding take_private
private_none t p w = refl

-- the buffer with room, of the parts as they are then
module _ (keep : ℕ) (old new : PartsView) (sound : IsBuffer old.home.pool) (enough : 1 ≤ free_frames old.home.pool + can_go old.home.pool keep)
    (made : new ≡ record old { home = (make_room keep (work_on old.home)).home }) where
  now : new.home.pool ≡ roomy old.home.pool keep
  now = ap (λ v. v.home.pool) made ∙ ap (λ h. h.pool) (room_home keep (work_on old.home))

  is : IsRoomy keep old.home.pool (roomy old.home.pool keep)
  is = roomy_is keep old.home.pool sound enough

  pub room_there : 0 < free_frames new.home.pool
  room_there = subst (λ b. 0 < free_frames b) (sym now) (let room = is.room in omega (arith, room))

  pub room_page : slot_at new.home.pool keep ≡ slot_at old.home.pool keep
  room_page = ap (λ b. slot_at b keep) now ∙ is.page

  pub room_privates : new.home.pool.privates ≡ old.home.pool.privates
  room_privates = ap (λ b. b.privates) now ∙ is.privates

-- which slots may go, once others have
well_of : (p : ℕ) (c : Sizes) (b : Pool) → All (λ s. (s.page == p) ≡ false → is_kept s ≡ true) b.slots → All (λ s. s.page < c.pages) b.slots → GoWell p c b
well_of p c b kept below k d lt e = (kept k d lt e, below k d lt)

kept_of : (p : ℕ) (c : Sizes) (b : Pool) → GoWell p c b → All (λ s. (s.page == p) ≡ false → is_kept s ≡ true) b.slots
kept_of p c b go k d lt e = (go k d lt e).0

-- the parts with the slot of an access, and with its private copy
module _ (a : Access) (c : Sizes) (old new : PartsView) (may : MayTakeFrames a c old.home.pool)
    (made : new ≡ record old { home = (take_slot a.page (work_on old.home)).home }) where
  slot_now : new.home.pool ≡ slot_taken old.home.pool a.page
  slot_now = ap (λ v. v.home.pool) made ∙ ap (λ h. h.pool) (slot_home a.page (work_on old.home))

  placed : IsPlaced a.page old.home.pool (slot_taken old.home.pool a.page)
  placed = slot_taken_is a.page old.home.pool may.sound (let fits = may.fits in omega (arith, fits))

  pub slot_config : new.home.config ≡ old.home.config
  slot_config = ap (λ v. v.home.config) made ∙ ap (λ h. h.config) (slot_home a.page (work_on old.home))

  pub slot_sound : IsBuffer new.home.pool
  slot_sound = subst IsBuffer (sym slot_now) placed.framed.buffer

  pub slot_size : new.home.pool.size ≡ c.size
  slot_size = ap (λ b. b.size) slot_now ∙ placed.framed.size ∙ may.size

  pub slot_none : has_private new.home.pool a.tx a.page ≡ false
  slot_none = ap (λ b. has_private b a.tx a.page) slot_now ∙ ap (λ xs. is_some (private_in xs a.tx a.page)) placed.privates ∙ may.none

  pub slot_room : is_some a.write ≡ true → 1 ≤ free_frames new.home.pool + can_go new.home.pool a.page
  slot_room write =
      let fits = may.fits in
      let rest = placed.rest in
      let needs : one_unless (not (is_some a.write) || has_private old.home.pool a.tx a.page) ≡ 1 =
      ap (λ d. one_unless (not d || has_private old.home.pool a.tx a.page)) write ∙ ap one_unless may.none in
      subst (λ b. 1 ≤ free_frames b + can_go b a.page) (sym slot_now) (omega (arith, fits, rest, needs))

  pub slot_go : GoWell a.page c new.home.pool
  slot_go =
      subst (GoWell a.page c) (sym slot_now)
      (well_of a.page c (slot_taken old.home.pool a.page) (placed.framed.kept (kept_of a.page c old.home.pool may.go)) (placed.framed.below c.pages may.page may.below))

  module _ (last : PartsView) (write : Option (ℕ × List ℕ)) (wrote : last ≡ record new { home = (take_private a.tx a.page write (work_on new.home)).home }) (same : write ≡ a.write) where
    last_now : last.home.pool ≡ private_taken (slot_taken old.home.pool a.page) a.tx a.page a.write
    last_now =
        ap (λ v. v.home.pool) wrote ∙ ap (λ h. h.pool) (private_home a.tx a.page write (work_on new.home))
        ∙ ap (λ o. private_taken new.home.pool a.tx a.page o) same ∙ ap (λ b. private_taken b a.tx a.page a.write) slot_now

    writable : IsWritable a.tx a.page (is_some a.write) (slot_taken old.home.pool a.page) (private_taken (slot_taken old.home.pool a.page) a.tx a.page a.write)
    writable =
        private_taken_is a.tx a.page a.write (slot_taken old.home.pool a.page) placed.framed.buffer
        (let fits = may.fits in
        let rest = placed.rest in
        let same : one_unless (not (is_some a.write) || has_private (slot_taken old.home.pool a.page) a.tx a.page) ≡ one_unless (not (is_some a.write) || has_private old.home.pool a.tx a.page) =
        ap (λ xs. one_unless (not (is_some a.write) || is_some (private_in xs a.tx a.page))) placed.privates in
        omega (arith, fits, rest, same))

    pub last_slot : has_slot last.home.pool a.page ≡ true
    last_slot = ap (λ b. has_slot b a.page) last_now ∙ ap is_some (writable.framed.keep placed.there) ∙ placed.there

    pub last_few : IfSome (slot_at last.home.pool a.page) (λ s. s.pins < 4294967295)
    last_few =
        few (slot_at last.home.pool a.page)
        (let one = ap (λ b. pins_of (slot_at b a.page)) last_now in
        let two = writable.framed.pins a.page in
        let three = placed.framed.pins a.page in
        let most = may.few in
        omega (arith, one, two, three, most))
      where
        few : (o : Option Slot) → pins_of o ≤ 1024 → IfSome o (λ s. s.pins < 4294967295)
        few None le = tt
        few (Some s) le = omega (arith, le)
