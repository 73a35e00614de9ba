-- Where a change that was taken goes.
use Rattle.std.proofs.Common.{◌≡◌, ℕ, ◌+◌, ◌<◌, ◌≤◌, ◌==◌, ◌||◌, cond, nat_lt, Bool, true, false, List, [], ◌∷◌, length, Option, Some, None, is_some, refl, ap, sym, ◌∙◌, arith}
use Rattle.std.proofs.lemmas.Bool.Decides.{nat_tests}
use Rattle.std.specs.List.{filter}
use Rattle.pcl_base.specs.declared.message.Change.{Change}
use Rattle.node_rules.specs.Words.{pick, or_else}
use Rattle.node_rules.specs.BufferRule.{Pool, Slot, has_slot, free_frames, victim, last_to_go, may_go, can_go, one_unless, place}
use Rattle.node_rules.specs.Work.{HomeWork, write_page}
use Rattle.node_rules.specs.AccessRule.{make_room, take_slot, on_pool}
use Rattle.node_rules.specs.OwnerRule.{put_change, into_slot, has_room}
use Rattle.home_laws.specs.Homes.{IsHome}
use Rattle.buffer_pool.specs.Buffer.{IsBuffer}
use Rattle.home_laws.proofs.Frames.{slot_home, slot_taken, slot_taken_is, IsPlaced}
use Rattle.home_laws.proofs.Puts.{put_change_is_sound_law}
use Rattle.home.specs.Parts.{PartsView, IsPrepared}
use Rattle.home.specs.Device.{work_on}
use Rattle.home.specs.Changes.{has_frame}
use Rattle.home.proofs.Framing.{slot_had, slot_placed}
use Rattle.home.proofs.Kept.{kept_as}
use Rattle.home.proofs.Victims.{room_free}

-- a victim is one of the slots that can go
goes_counted : (ss : List Slot) (keep : ℕ) → is_some (last_to_go ss keep) ≡ true → 1 ≤ length (filter (may_go keep) ss)
unfolding last_to_go
goes_counted [] keep some = absurd (cc)
goes_counted (s ∷ ss) keep some = by_test (may_go keep s) (last_to_go ss keep) some (goes_counted ss keep)
  where
    by_test : (b : Bool) (o : Option Slot) → is_some (or_else o (pick b (Some s) None)) ≡ true → (is_some o ≡ true → 1 ≤ length (filter (may_go keep) ss))
        → 1 ≤ length (cond b (s ∷ filter (may_go keep) ss) (filter (may_go keep) ss))
    by_test true o some rest = omega arith
    by_test false None some rest = absurd (cc)
    by_test false (Some x) some rest = rest refl

-- the room for the slot
pub frame_room : (p : ℕ) (b : Pool) → has_frame p b ≡ true → one_unless (has_slot b p) ≤ free_frames b + can_go b p
frame_room p b has = by_slot (has_slot b p) (nat_lt 0 (free_frames b)) (is_some (victim b p)) refl refl has
  where
    by_slot : (d e f : Bool) → nat_lt 0 (free_frames b) ≡ e → is_some (victim b p) ≡ f → (d || e || f) ≡ true → one_unless d ≤ free_frames b + can_go b p
    by_slot true e f free goes has = omega arith
    by_slot false true f free goes has = let some : 1 ≤ free_frames b = grind (arith, nat_tests) in omega (arith, some)
    by_slot false false true free goes has = let some = goes_counted b.slots p goes in omega (arith, some)
    by_slot false false false free goes has = absurd (cc)

-- a change for which there is a frame
pub put_frame : (p : ℕ) (x : Change) (w : HomeWork) → has_frame p w.home.pool ≡ true → put_change p x w ≡ into_slot p x (take_slot p w)
put_frame p x w has = by_slot (has_slot w.home.pool p) refl has
  where
    by_slot : (d : Bool) → has_slot w.home.pool p ≡ d → (d || nat_lt 0 (free_frames w.home.pool) || is_some (victim w.home.pool p)) ≡ true
        → pick d (into_slot p x w)
        (pick (free_frames w.home.pool == 0)
        (pick (has_room p w) (into_slot p x (on_pool (λ b. place b p) (make_room p w))) (write_page p (record { version = x.version; bytes = x.image }) w))
        (into_slot p x (on_pool (λ b. place b p) w))) ≡ into_slot p x (take_slot p w)
    by_slot true is has = ap (into_slot p x) (sym (slot_had p w is))
    by_slot false is has = by_free (free_frames w.home.pool == 0) refl ∙ ap (into_slot p x) (sym (slot_placed p w is))
      where
        by_free : (e : Bool) → (free_frames w.home.pool == 0) ≡ e
            → pick e
            (pick (has_room p w) (into_slot p x (on_pool (λ b. place b p) (make_room p w))) (write_page p (record { version = x.version; bytes = x.image }) w))
            (into_slot p x (on_pool (λ b. place b p) w)) ≡ into_slot p x (on_pool (λ b. place b p) (make_room p w))
        by_free true full =
            let none : nat_lt 0 (free_frames w.home.pool) ≡ false = grind (arith, nat_tests) in
            let goes : has_room p w ≡ true = ap (λ d. d || is_some (victim w.home.pool p)) (sym none) ∙ has in
            ap (λ d. pick d (into_slot p x (on_pool (λ b. place b p) (make_room p w))) (write_page p (record { version = x.version; bytes = x.image }) w)) goes
        by_free false free =
            let some : 0 < free_frames w.home.pool = grind (arith, nat_tests) in
            ap (λ v. into_slot p x (on_pool (λ b. place b p) v)) (sym (room_free p w some))

-- a change without one
pub put_written : (p : ℕ) (x : Change) (w : HomeWork) → has_frame p w.home.pool ≡ false → put_change p x w ≡ write_page p (record { version = x.version; bytes = x.image }) w
put_written p x w none = by_slot (has_slot w.home.pool p) (nat_lt 0 (free_frames w.home.pool)) (is_some (victim w.home.pool p)) refl none
  where
    by_slot : (d e f : Bool) → nat_lt 0 (free_frames w.home.pool) ≡ e → (d || e || f) ≡ false
        → pick d (into_slot p x w)
        (pick (free_frames w.home.pool == 0)
        (pick f (into_slot p x (on_pool (λ b. place b p) (make_room p w))) (write_page p (record { version = x.version; bytes = x.image }) w))
        (into_slot p x (on_pool (λ b. place b p) w))) ≡ write_page p (record { version = x.version; bytes = x.image }) w
    by_slot true e f free none = absurd (cc)
    by_slot false true f free none = absurd (cc)
    by_slot false false true free none = absurd (cc)
    by_slot false false false free none =
        let full : (free_frames w.home.pool == 0) ≡ true = grind (arith, nat_tests) in
        ap (λ d. pick d (write_page p (record { version = x.version; bytes = x.image }) w) (into_slot p x (on_pool (λ b. place b p) w))) full

-- the open transactions stay, and so does what holds of the home
put_txs : (p : ℕ) (x : Change) (w : HomeWork) → (put_change p x w).home.txs ≡ w.home.txs
put_txs p x w = by_frame (has_frame p w.home.pool) refl
  where
    by_frame : (d : Bool) → has_frame p w.home.pool ≡ d → (put_change p x w).home.txs ≡ w.home.txs
    by_frame true is = ap (λ v. v.home.txs) (put_frame p x w is) ∙ ap (λ h. h.txs) (slot_home p w)
    by_frame false is = ap (λ v. v.home.txs) (put_written p x w is)

pub change_kept : (old new : PartsView) (p : ℕ) (x : Change) → IsHome old.home × IsPrepared old → p < old.home.config.pages → length x.image ≡ old.home.config.size
    → new ≡ record old { home = (put_change p x (work_on old.home)).home } → IsHome new.home × IsPrepared new
change_kept old new p x kept inside long same =
    kept_as old new (put_change p x (work_on old.home)).home kept.1 same (put_txs p x (work_on old.home)) (put_change_is_sound_law p x (work_on old.home) kept.0 inside long)

-- the slot is there, in a buffer of the same page size
module _ (p : ℕ) (old new : PartsView) (sound : IsBuffer old.home.pool) (has : has_frame p old.home.pool ≡ true) (made : new ≡ record old { home = (take_slot p (work_on old.home)).home }) where
  taken : new.home.pool ≡ slot_taken old.home.pool p
  taken = ap (λ v. v.home.pool) made ∙ ap (λ h. h.pool) (slot_home p (work_on old.home))

  placed : IsPlaced p old.home.pool (slot_taken old.home.pool p)
  placed = slot_taken_is p old.home.pool sound (frame_room p old.home.pool has)

  pub slot_ready : has_slot new.home.pool p ≡ true
  slot_ready = ap (λ b. has_slot b p) taken ∙ placed.there

  pub slot_long : new.home.pool.size ≡ old.home.pool.size
  slot_long = ap (λ b. b.size) taken ∙ placed.framed.size
