-- The frames of an access: the buffer with a free frame, with the slot of the page, with the private
-- copy of a write, and with the pin.
use Rattle.std.proofs.Common.{◌≡◌, ℕ, ◌+◌, ◌<◌, ◌≤◌, ◌==◌, not, nat_lt, Bool, true, false, List, [], ◌∷◌, cond, Option, Some, None, is_some, refl, ap, sym, subst, ◌∙◌, arith}
use Rattle.std.proofs.lemmas.Bool.Decides.{nat_tests}
use Rattle.std.proofs.lemmas.List.Elements.{All-filter}
use Rattle.std.specs.List.{All}
use Rattle.node_rules.specs.Words.{pick}
use Rattle.node_rules.specs.BufferRule.{Pool, Slot, Copy, free_frames, slot_at, slot_in, copy_at, is_pinned, is_kept, may_go, can_go, victim, slots_without, change_slot, clean, cleaned, evict}
use Rattle.node_rules.specs.Work.{HomeWork, with_pool, write_back, write_copy, write_page}
use Rattle.node_rules.specs.AccessRule.{make_room, let_go}
use Rattle.buffer_pool.specs.Buffer.{IsBuffer}
use Rattle.home_laws.specs.Homes.{pins_of}
use Rattle.home_laws.proofs.Tests.{number_equal, and_left, and_right, not_true}
use Rattle.home_laws.proofs.SlotLooks.{without_here, without_there, test_without, length_without, goes_may, goes_there, goes_some}
use Rattle.home_laws.proofs.Buffers.{evict_sound}

-- the buffer without the victim of a page, where there is one
abbrev pub without_victim : Option Slot → Pool → Pool
without_victim None b = b
without_victim (Some s) b = evict b s.page

-- the buffer with a free frame
abbrev pub roomy : Pool → ℕ → Pool
roomy b keep = pick (nat_lt 0 (free_frames b)) b (without_victim (victim b keep) b)

-- a clean copy that leaves
evict_cleaned : (b : Pool) (p : ℕ) → evict (clean b p) p ≡ evict b p
unfolding evict clean change_slot
evict_cleaned b p = ap (λ ss. record b { slots = ss }) (without_changed b.slots)
  where
    without_changed : (ss : List Slot) → slots_without (change_slot (λ s. record s { copy = cleaned s.copy }) ss p) p ≡ slots_without ss p
    without_changed [] = refl
    without_changed (s ∷ ss) = by (s.page == p) refl (without_changed ss)
      where
        changed : List Slot
        changed = slots_without (change_slot (λ s. record s { copy = cleaned s.copy }) ss p) p

        by : (d : Bool) → (s.page == p) ≡ d → changed ≡ slots_without ss p
            → cond (not ((pick d (record s { copy = cleaned s.copy }) s).page == p)) (pick d (record s { copy = cleaned s.copy }) s ∷ changed) changed ≡ cond (not d) (s ∷ slots_without ss p) (slots_without ss p)
        by true e ih = ap (λ c. cond (not c) (record s { copy = cleaned s.copy } ∷ changed) changed) e ∙ ih
        by false e ih = ap (λ c. cond (not c) (s ∷ changed) changed) e ∙ ap (λ ys. s ∷ ys) ih

evict_written : (p : ℕ) (w : HomeWork) → with_pool (write_back p w).home (evict (write_back p w).home.pool p) ≡ with_pool w.home (evict w.home.pool p)
unfolding write_back
evict_written p w = by (copy_at w.home.pool p)
  where
    by : (o : Option Copy) → with_pool (write_copy p o w).home (evict (write_copy p o w).home.pool p) ≡ with_pool w.home (evict w.home.pool p)
    by None = refl
    by (Some c) = of c.dirty
      where
        of : (d : Bool)
            → (let x : HomeWork = pick d (record (write_page p (record { version = c.version; bytes = c.bytes }) w) { home = with_pool w.home (clean w.home.pool p) }) w in with_pool x.home (evict x.home.pool p)) ≡ with_pool w.home (evict w.home.pool p)
        of true = ap (with_pool w.home) (evict_cleaned w.home.pool p)
        of false = refl

-- the home with a free frame depends on no page and call
pub room_home : (keep : ℕ) (w : HomeWork) → (make_room keep w).home ≡ with_pool w.home (roomy w.home.pool keep)
unfolding make_room
room_home keep w = by (nat_lt 0 (free_frames w.home.pool))
  where
    of : (o : Option Slot) → (let_go o w).home ≡ with_pool w.home (without_victim o w.home.pool)
    of None = refl
    of (Some s) = evict_written s.page w

    by : (d : Bool) → (pick d w (let_go (victim w.home.pool keep) w)).home ≡ with_pool w.home (pick d w.home.pool (without_victim (victim w.home.pool keep) w.home.pool))
    by true = refl
    by false = of (victim w.home.pool keep)

-- a buffer whose pinned slots are those of another, and so is the slot of page p where that had one
pub record IsFramed (p : ℕ) (b new : Pool) : Type 0 where
  pub buffer : IsBuffer new
  pub frames : new.frames ≡ b.frames
  pub size : new.size ≡ b.size
  pub pins : (q : ℕ) → pins_of (slot_at new q) ≡ pins_of (slot_at b q)
  pub slots : (q : ℕ) → 1 ≤ pins_of (slot_at b q) → slot_at new q ≡ slot_at b q
  pub keep : is_some (slot_at b p) ≡ true → slot_at new p ≡ slot_at b p
  pub below : (n : ℕ) → p < n → All (λ s. s.page < n) b.slots → All (λ s. s.page < n) new.slots
  pub kept : All (λ s. (s.page == p) ≡ false → is_kept s ≡ true) b.slots → All (λ s. (s.page == p) ≡ false → is_kept s ≡ true) new.slots
  pub whole : is_some (slot_at b p) ≡ true → All (λ s. is_kept s ≡ true) b.slots → All (λ s. is_kept s ≡ true) new.slots

pub framed_self : (p : ℕ) (b : Pool) → IsBuffer b → IsFramed p b b
framed_self p b sound = record { buffer = sound; frames = refl; size = refl; pins = λ q. refl; slots = λ q e. refl; keep = λ e. refl; below = λ n l a. a; kept = λ a. a; whole = λ e a. a }

pub framed_then : (p : ℕ) (b mid new : Pool) → IsFramed p b mid → IsFramed p mid new → IsFramed p b new
framed_then p b mid new x y = record {
  buffer = y.buffer;
  frames = y.frames ∙ x.frames;
  size = y.size ∙ x.size;
  pins = λ q. y.pins q ∙ x.pins q;
  slots = λ q e. y.slots q (subst (λ n. 1 ≤ n) (sym (x.pins q)) e) ∙ x.slots q e;
  keep = λ e. y.keep (ap is_some (x.keep e) ∙ e) ∙ x.keep e;
  below = λ n l a. y.below n l (x.below n l a);
  kept = λ a. y.kept (x.kept a);
  whole = λ e a. y.whole (ap is_some (x.keep e) ∙ e) (x.whole e a);
}

-- a slot without pins leaves
pub evict_framed : (keep : ℕ) (b : Pool) (s : Slot) → IsBuffer b → victim b keep ≡ Some s → IsFramed keep b (evict b s.page)
unfolding evict
evict_framed keep b s sound found = record {
  buffer = evict_sound b s.page sound;
  frames = refl;
  size = refl;
  pins = λ q. pins q (s.page == q) refl;
  slots = λ q e. slots q e (s.page == q) refl;
  keep = λ e. without_there b.slots s.page keep apart;
  below = λ n l a. All-filter (λ x. not (x.page == s.page)) (λ x. x.page < n) b.slots a;
  kept = λ a. All-filter (λ x. not (x.page == s.page)) (λ x. (x.page == keep) ≡ false → is_kept x ≡ true) b.slots a;
  whole = λ e a. All-filter (λ x. not (x.page == s.page)) (λ x. is_kept x ≡ true) b.slots a;
}
  where
    there : slot_at b s.page ≡ Some s
    there = goes_there b.slots keep s sound.one_slot found

    may : may_go keep s ≡ true
    may = goes_may b.slots keep s found

    apart : (s.page == keep) ≡ false
    apart = not_true (s.page == keep) (and_left (not (s.page == keep)) (not (is_pinned s)) may)

    bare_pins : s.pins ≡ 0
    bare_pins =
        let free : not (is_pinned s) ≡ true = and_right (not (s.page == keep)) (not (is_pinned s)) may in
        grind (arith, nat_tests)

    none : pins_of (slot_at b s.page) ≡ 0
    none = ap pins_of there ∙ bare_pins

    pins : (q : ℕ) (d : Bool) → (s.page == q) ≡ d → pins_of (slot_in (slots_without b.slots s.page) q) ≡ pins_of (slot_at b q)
    pins q true e = subst (λ n. pins_of (slot_in (slots_without b.slots s.page) n) ≡ pins_of (slot_at b n)) (number_equal s.page q e) (ap pins_of (without_here b.slots s.page) ∙ sym none)
    pins q false e = ap pins_of (without_there b.slots s.page q e)

    slots : (q : ℕ) → 1 ≤ pins_of (slot_at b q) → (d : Bool) → (s.page == q) ≡ d → slot_in (slots_without b.slots s.page) q ≡ slot_at b q
    slots q some true e =
        let zero : pins_of (slot_at b q) ≡ 0 = subst (λ n. pins_of (slot_at b n) ≡ 0) (number_equal s.page q e) none in
        absurd (omega (arith, some, zero))
    slots q some false e = without_there b.slots s.page q e

-- room for one more, and as much in all
pub record IsRoomy (keep : ℕ) (b new : Pool) : Type 0 where
  pub framed : IsFramed keep b new
  pub room : 1 ≤ free_frames new
  pub rest : free_frames new + can_go new keep ≡ free_frames b + can_go b keep
  pub privates : new.privates ≡ b.privates
  pub page : slot_at new keep ≡ slot_at b keep

pub roomy_is : (keep : ℕ) (b : Pool) → IsBuffer b → 1 ≤ free_frames b + can_go b keep → IsRoomy keep b (roomy b keep)
unfolding evict
roomy_is keep b sound enough = by (nat_lt 0 (free_frames b)) refl
  where
    of : free_frames b ≡ 0 → (o : Option Slot) → victim b keep ≡ o → IsRoomy keep b (without_victim o b)
    of none None e =
        let some : is_some (victim b keep) ≡ true = goes_some b.slots keep (omega (arith, enough, none)) in
        let no : is_some (victim b keep) ≡ false = ap is_some e in
        absurd (cc)
    of none (Some s) e =
        let there : slot_at b s.page ≡ Some s = goes_there b.slots keep s sound.one_slot e in
        let fewer = length_without b.slots s.page s there (sound.one_slot s.page) in
        let less = test_without (may_go keep) b.slots s.page s there (goes_may b.slots keep s e) (sound.one_slot s.page) in
        let within = sound.within in
        record {
          framed = evict_framed keep b s sound e;
          room = omega (arith, fewer, within, none);
          rest = omega (arith, fewer, less, within, none);
          privates = refl;
          page = without_there b.slots s.page keep (not_true (s.page == keep) (and_left (not (s.page == keep)) (not (is_pinned s)) (goes_may b.slots keep s e)));
        }

    by : (d : Bool) → nat_lt 0 (free_frames b) ≡ d → IsRoomy keep b (pick d b (without_victim (victim b keep) b))
    by true e = record { framed = framed_self keep b sound; room = grind (arith, nat_tests); rest = refl; privates = refl; page = refl }
    by false e = of (grind (arith, nat_tests)) (victim b keep) refl
