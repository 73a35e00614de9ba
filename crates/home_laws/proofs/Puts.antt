-- A change that a peer made goes into the buffer of a home or to disk, and the home is sound.
use Rattle.std.proofs.Common.{◌≡◌, ℕ, ◌<◌, ◌≤◌, ◌==◌, not, nat_lt, Bool, true, false, length, Option, Some, None, is_some, refl, ap, sym, subst, ◌∙◌, arith}
use Rattle.std.proofs.lemmas.Bool.Decides.{nat_tests}
use Rattle.std.specs.Option.{option_map}
use Rattle.pcl_base.specs.Limits.{Sizes}
use Rattle.pcl_base.specs.declared.message.Change.{Change}
use Rattle.node_rules.specs.Words.{pick}
use Rattle.node_rules.specs.BufferRule.{Pool, Slot, Copy, slot_in, slot_at, copy_at, has_slot, free_frames, victim, is_pinned, pinned, pinned_slot, clean, install, place, evict}
use Rattle.node_rules.specs.NodeState.{HomeState}
use Rattle.node_rules.specs.Work.{HomeWork, with_pool, write_page}
use Rattle.node_rules.specs.AccessRule.{on_pool, make_room, let_go}
use Rattle.node_rules.specs.OwnerRule.{dirty_copy, into_slot, has_room}
use Rattle.home_laws.specs.Homes.{IsHome}
use Rattle.home_laws.specs.EndLaws.{PutChangeIsSound}
use Rattle.home_laws.proofs.Opens.{there_is}
use Rattle.home_laws.proofs.Slots.{length_changed}
use Rattle.home_laws.proofs.Pools.{PoolIs, pool_of_home}
use Rattle.home_laws.proofs.Publishes.{seen_changed}
use Rattle.home_laws.proofs.Tests.{and_left, and_right, not_true, none_there}
use Rattle.home_laws.proofs.SlotLooks.{goes_may, goes_there, length_without, without_there}
use Rattle.home_laws.proofs.Kept.{Keeps, with_clean, kept_is_home, written_if, keeps_written}
use Rattle.home_laws.proofs.Leaves.{left_pool, keeps_left, home_left}
use Rattle.home_laws.proofs.Installs.{keeps_install, keeps_put}

-- a frame of a victim, where none is free
room_is : (p : ℕ) (w : HomeWork) → nat_lt 0 (free_frames w.home.pool) ≡ false → make_room p w ≡ let_go (victim w.home.pool p) w
unfolding make_room
room_is p w none = ap (λ b. pick b w (let_go (victim w.home.pool p) w)) none

-- what a write to disk leaves of the slots
record SameSlots (a b : Pool) : Type 0 where
  frames : b.frames ≡ a.frames
  privates : b.privates ≡ a.privates
  long : length b.slots ≡ length a.slots
  there : (q : ℕ) → is_some (slot_at b q) ≡ is_some (slot_at a q)

there_clean : (o : Option Slot) → is_some (option_map with_clean o) ≡ is_some o
there_clean None = refl
there_clean (Some s) = refl

same_clean : (b : Pool) (p : ℕ) → SameSlots b (clean b p)
unfolding clean
same_clean b p =
    record { frames = refl; privates = refl; long = length_changed with_clean b.slots p; there = λ q. seen_changed is_some with_clean (λ s. refl) there_clean b.slots p q }

same_written : (o : Option Copy) (b : Pool) (p : ℕ) → SameSlots b (written_if o b p)
same_written None b p = record { frames = refl; privates = refl; long = refl; there = λ q. refl }
same_written (Some c) b p = by_dirty c.dirty
  where
    by_dirty : (d : Bool) → SameSlots b (pick d (clean b p) b)
    by_dirty true = same_clean b p
    by_dirty false = record { frames = refl; privates = refl; long = refl; there = λ q. refl }

-- a victim left: its frame is free, and the page still has no slot
module _ (c : Sizes) (b : Pool) (p : ℕ) (s : Slot) (goes : victim b p ≡ Some s) (none : slot_at b p ≡ None) (is : PoolIs c b) where
  here : slot_in b.slots s.page ≡ Some s
  here = goes_there b.slots p s is.buffer.one_slot goes

  unpinned : pinned b s.page ≡ false
  unpinned = ap pinned_slot here ∙ not_true (is_pinned s) (and_right (not (s.page == p)) (not (is_pinned s)) (goes_may b.slots p s goes))

  other : (s.page == p) ≡ false
  other = not_true (s.page == p) (and_left (not (s.page == p)) (not (is_pinned s)) (goes_may b.slots p s goes))

  same : SameSlots b (written_if (copy_at b s.page) b s.page)
  same = same_written (copy_at b s.page) b s.page

  kept_left : Keeps c b (left_pool b s.page)
  kept_left = keeps_left c b s.page is unpinned

  none_left : slot_at (left_pool b s.page) p ≡ None
  unfolding evict
  none_left =
      without_there (written_if (copy_at b s.page) b s.page).slots s.page p other
      ∙ none_there (slot_at (written_if (copy_at b s.page) b s.page) p) (same.there p ∙ ap is_some none)

  room_left : 1 ≤ free_frames (left_pool b s.page)
  unfolding evict
  room_left =
      let found = there_is (slot_at (written_if (copy_at b s.page) b s.page) s.page) (same.there s.page ∙ ap is_some here) in
      let once = (keeps_written c b s.page is).is.buffer.one_slot s.page in
      let one_less = length_without (written_if (copy_at b s.page) b s.page).slots s.page found.0 found.1 once in
      let frames = same.frames in
      let long = same.long in
      let privates = ap length same.privates in
      let within = is.buffer.within in
      omega (arith, one_less, frames, long, privates, within)

-- a change goes into a new slot where a frame is free
put_new : (p : ℕ) (x : Change) (h : HomeState) → IsHome h → slot_at h.pool p ≡ None → 1 ≤ free_frames h.pool → p < h.config.pages → length x.image ≡ h.config.size → IsHome (with_pool h (install (place h.pool p) p (dirty_copy x)))
put_new p x h is none room inside long =
    kept_is_home h (install (place h.pool p) p (dirty_copy x)) is (keeps_put h.config h.pool p (dirty_copy x) none room inside long (pool_of_home h is))

put_freed : (p : ℕ) (x : Change) (w : HomeWork) → IsHome w.home → slot_at w.home.pool p ≡ None → p < w.home.config.pages → length x.image ≡ w.home.config.size → (s : Slot) → victim w.home.pool p ≡ Some s
    → IsHome (into_slot p x (on_pool (λ b. place b p) (let_go (Some s) w))).home
put_freed p x w is none inside long s goes =
    let c = w.home.config in
    let b = w.home.pool in
    let ready = pool_of_home w.home is in
    let d = left_pool b s.page in
    let left : (let_go (Some s) w).home ≡ with_pool w.home d = home_left s.page w in
    let sound = kept_is_home w.home d is (kept_left c b p s goes none ready) in
    let new = put_new p x (with_pool w.home d) sound (none_left c b p s goes none ready) (room_left c b p s goes none ready) inside long in
    subst (λ (h : HomeState). IsHome (with_pool h (install (place h.pool p) p (dirty_copy x)))) (sym left) new

pub put_change_is_sound_law : PutChangeIsSound
put_change_is_sound_law p x w is inside long = by_slot (has_slot w.home.pool p) refl
  where
    by_victim : (o : Option Slot) → victim w.home.pool p ≡ o → slot_at w.home.pool p ≡ None → (free_frames w.home.pool == 0) ≡ true
        → IsHome (pick (is_some o) (into_slot p x (on_pool (λ b. place b p) (make_room p w))) (write_page p (record { version = x.version; bytes = x.image }) w)).home
    by_victim None goes none full = is
    by_victim (Some s) goes none full =
        let no_room : nat_lt 0 (free_frames w.home.pool) ≡ false = grind (arith, nat_tests) in
        let made : make_room p w ≡ let_go (Some s) w = room_is p w no_room ∙ ap (λ o. let_go o w) goes in
        subst (λ (v : HomeWork). IsHome (into_slot p x (on_pool (λ b. place b p) v)).home) (sym made) (put_freed p x w is none inside long s goes)

    by_room : (b : Bool) → (free_frames w.home.pool == 0) ≡ b → slot_at w.home.pool p ≡ None
        → IsHome
        (pick b
        (pick (has_room p w) (into_slot p x (on_pool (λ b. place b p) (make_room p w))) (write_page p (record { version = x.version; bytes = x.image }) w))
        (into_slot p x (on_pool (λ b. place b p) w))).home
    by_room true full none = by_victim (victim w.home.pool p) refl none full
    by_room false free none =
        let some : 1 ≤ free_frames w.home.pool = grind (arith, nat_tests) in
        put_new p x w.home is none some inside long

    by_slot : (b : Bool) → has_slot w.home.pool p ≡ b → IsHome
        (pick b (into_slot p x w)
        (pick (free_frames w.home.pool == 0)
        (pick (has_room p w) (into_slot p x (on_pool (λ b. place b p) (make_room p w))) (write_page p (record { version = x.version; bytes = x.image }) w))
        (into_slot p x (on_pool (λ b. place b p) w)))).home
    by_slot true there = kept_is_home w.home (install w.home.pool p (dirty_copy x)) is (keeps_install w.home.config w.home.pool p (dirty_copy x) long (pool_of_home w.home is))
    by_slot false there = by_room (free_frames w.home.pool == 0) refl (none_there (slot_at w.home.pool p) there)
