-- What a home gives to the steps of an access that isn't refused.
use Rattle.std.proofs.Common.{◌≡◌, ℕ, ◌+◌, ◌≤◌, ◌==◌, ◌&&◌, ◌||◌, not, Bool, true, false, List, Option, Some, None, is_some, IfSome, refl, ap, sym, subst, ◌∙◌, arith}
use Rattle.std.proofs.lemmas.List.Elements.{All-weaker}
use Rattle.node_rules.specs.Words.{covers}
use Rattle.node_rules.specs.OpenTxs.{is_open, held_by, pending_of, mode_held}
use Rattle.node_rules.specs.BufferRule.{find, free_frames, can_go, slot_at, copy_at, has_slot, is_kept, has_private, private_in, one_unless}
use Rattle.node_rules.specs.Shelf.{right_on}
use Rattle.node_rules.specs.NodeState.{HomeState, runs_at}
use Rattle.node_rules.specs.Work.{HomeWork, with_pool}
use Rattle.node_rules.specs.AccessRule.{Access, mode_of_write, make_room, take_slot, take_private, take_frames, is_held, is_allowed, has_version}
use Rattle.buffer_pool.specs.Buffer.{IsBuffer}
use Rattle.home_laws.specs.Homes.{IsHome, IsWithin, pins_of, is_exclusive_lock}
use Rattle.home_laws.specs.AccessNeeds.{MayTakeSlot, MayTakePrivate, MayPin, MayDo}
use Rattle.home_laws.proofs.Tests.{and_right}
use Rattle.home_laws.proofs.Users.{held_used}
use Rattle.home_laws.proofs.Runs.{written_runs}
use Rattle.home_laws.proofs.Frames.{slot_taken, private_taken, frames_taken, slot_home, private_home, frames_home}
use Rattle.home_laws.proofs.Allowed.{MayAccess}
use Rattle.home_laws.proofs.Taken.{IsTaken, with_slot, with_write, taken}
use Rattle.home_laws.proofs.Covering.{covers_some}
use Rattle.home_laws.proofs.RightAccess.{right_there}
use Rattle.home_laws.proofs.Needs.{HasRoom, held_copy, pins_few, or_of, room_of}

-- an access that isn't refused
module _ (a : Access) (w : HomeWork) (home : IsHome w.home) (may : MayAccess a w.home) where
  -- its slot can be taken
  pub may_take_slot : MayTakeSlot a.page w.home
  may_take_slot none =
      let fits = may.fits in
      let needs : one_unless (has_slot w.home.pool a.page) ≡ 1 = ap one_unless none in
      record {
        enough = omega (arith, fits, needs);
        size = home.sizes.1 ∙ refl;
        one_slot = home.buffer.one_slot;
        kept = All-weaker (λ s. is_kept s ≡ true) (λ s. (s.page == a.page) ≡ false → is_kept s ≡ true) (λ s k e. k) w.home.pool.slots home.kept;
        below = home.below;
      }

  pub slot_room : has_slot w.home.pool a.page ≡ false → HasRoom a.page w.home (make_room a.page w).home
  slot_room none = room_of a.page w home.buffer (may_take_slot none).enough

  -- then its private copy

  pub slot_taken_there : has_slot (take_slot a.page w).home.pool a.page ≡ true
  slot_taken_there = ap (λ (h : HomeState). has_slot h.pool a.page) (slot_home a.page w) ∙ (with_slot a w.home home may).there

  private_enough : is_some a.write ≡ true → has_private (slot_taken w.home.pool a.page) a.tx a.page ≡ false → 1 ≤ free_frames (slot_taken w.home.pool a.page) + can_go (slot_taken w.home.pool a.page) a.page
  private_enough write none =
      let slot = with_slot a w.home home may in
      let fits = may.fits in
      let rest = slot.rest in
      let was : has_private w.home.pool a.tx a.page ≡ false = ap (λ xs. is_some (private_in xs a.tx a.page)) (sym slot.privates) ∙ none in
      let needs : one_unless (not (is_some a.write) || has_private w.home.pool a.tx a.page) ≡ 1 = ap (λ d. one_unless (not d || has_private w.home.pool a.tx a.page)) write ∙ ap one_unless was in
      omega (arith, fits, rest, needs)

  pub may_take_private : MayTakePrivate a.tx a.page (is_some a.write) (take_slot a.page w).home
  may_take_private =
      subst (λ (h : HomeState). MayTakePrivate a.tx a.page (is_some a.write) h) (sym (slot_home a.page w))
      (λ write none.
      let framed = (with_slot a w.home home may).framed in
      record {
        enough = private_enough write none;
        size = framed.size ∙ home.sizes.1;
        one_slot = framed.buffer.one_slot;
        kept = framed.kept (All-weaker (λ s. is_kept s ≡ true) (λ s. (s.page == a.page) ≡ false → is_kept s ≡ true) (λ s k e. k) w.home.pool.slots home.kept);
        below = framed.below w.home.config.pages may.page home.below;
      })

  pub private_room : is_some a.write ≡ true → has_private (take_slot a.page w).home.pool a.tx a.page ≡ false → HasRoom a.page (take_slot a.page w).home (make_room a.page (take_slot a.page w)).home
  private_room write none =
      room_of a.page (take_slot a.page w) (subst (λ (h : HomeState). IsBuffer h.pool) (sym (slot_home a.page w)) (with_slot a w.home home may).framed.buffer)
      (may_take_private write none).enough

  -- then the pin
  pub may_pin : MayPin a.page (take_private a.tx a.page a.write (take_slot a.page w)).home
  may_pin = subst (λ (h : HomeState). MayPin a.page h) (sym taken_home) (record { slot = there; few = few })
    where
      taken_home : (take_private a.tx a.page a.write (take_slot a.page w)).home ≡ with_pool w.home (private_taken (slot_taken w.home.pool a.page) a.tx a.page a.write)
      taken_home =
          private_home a.tx a.page a.write (take_slot a.page w)
          ∙ ap (λ (h : HomeState). with_pool h (private_taken h.pool a.tx a.page a.write)) (slot_home a.page w)

      there : has_slot (private_taken (slot_taken w.home.pool a.page) a.tx a.page a.write) a.page ≡ true
      there = ap is_some ((with_write a w.home home may).framed.keep (with_slot a w.home home may).there) ∙ (with_slot a w.home home may).there

      few : pins_of (slot_at (private_taken (slot_taken w.home.pool a.page) a.tx a.page a.write) a.page) ≤ 1024
      few =
          let first = (with_slot a w.home home may).framed.pins a.page in
          let second = (with_write a w.home home may).framed.pins a.page in
          let before = pins_few w.home a.page home in
          omega (arith, first, second, before)

  -- with its frames it holds and waits for the same
  pub frames_txs : (take_frames a w).home.txs ≡ w.home.txs
  frames_txs = ap (λ (h : HomeState). h.txs) (frames_home a w)

  pub frames_open : is_open (take_frames a w).home.txs a.tx ≡ true
  frames_open = ap (λ s. is_open s a.tx) frames_txs ∙ may.there

  pub frames_idle : pending_of (take_frames a w).home.txs a.tx ≡ None
  frames_idle = ap (λ s. pending_of s a.tx) frames_txs ∙ may.idle

  pub frames_slot : has_slot (take_frames a w).home.pool a.page ≡ true
  frames_slot = ap (λ (h : HomeState). has_slot h.pool a.page) (frames_home a w) ∙ (taken a w.home home may).there

  -- a page that is held as it has to be can be read, or written
  is_taken : IsTaken w.home a.tx a.page (is_some a.write) (is_some (held_by w.home.txs a.tx a.page)) (frames_taken w.home a)
  is_taken = taken a w.home home may

  copy_taken : is_some (held_by w.home.txs a.tx a.page) ≡ true → is_some (copy_at (frames_taken w.home a) a.page) ≡ true
  copy_taken held =
      ap is_some (is_taken.copies a.page (subst (λ n. 1 ≤ n) (sym (home.pins a.page)) (held_used w.home.txs a.tx a.page held))) ∙ held_copy w.home a.tx a.page home held

  private_there : is_some a.write ≡ true → has_private (frames_taken w.home a) a.tx a.page ≡ true
  private_there write = is_taken.privates.there ∙ or_of (has_private w.home.pool a.tx a.page) (is_some a.write) write

  may_do : is_some (held_by w.home.txs a.tx a.page) ≡ true → (write : Option (ℕ × List ℕ)) → a.write ≡ write → MayDo a.tx a.page write (with_pool w.home (frames_taken w.home a))
  may_do held None e = copy_taken held
  may_do held (Some write) e =
      let within : IsWithin w.home.config.size write = subst (λ o. IfSome o (IsWithin w.home.config.size)) e may.inside in
      record {
        copy = copy_taken held;
        private = private_there (ap is_some e);
        some = within.0;
        inside = within.1;
        size = is_taken.size;
        runs = written_runs w.home.config.size (is_exclusive_lock (held_by w.home.txs a.tx a.page)) (runs_at w.home.written a.tx a.page) (home.runs a.tx a.page);
      }

  pub held_may_do : is_held a (take_frames a w).home ≡ true → MayDo a.tx a.page a.write (take_frames a w).home
  held_may_do covered =
      let before : is_held a w.home ≡ true = ap (λ s. covers (mode_held (held_by s a.tx a.page)) (mode_of_write a.write)) (sym frames_txs) ∙ covered in
      subst (λ (h : HomeState). MayDo a.tx a.page a.write h) (sym (frames_home a w)) (may_do (covers_some (held_by w.home.txs a.tx a.page) (mode_of_write a.write) before) a.write refl)

  -- a read under the right of the node: the right is there, and the page can be read
  pub right_may_do : (owned : Bool) → is_allowed a owned (take_frames a w).home ≡ true → (is_some (right_on (take_frames a w).home.shelf a.page) ≡ true) × (is_some (copy_at (take_frames a w).home.pool a.page) ≡ true)
  right_may_do owned allowed =
      subst (λ (h : HomeState). (is_some (right_on h.shelf a.page) ≡ true) × (is_some (copy_at h.pool a.page) ≡ true)) (sym (frames_home a w))
      (right_there a w.home home may (frames_taken w.home a) is_taken (by (subst (λ (h : HomeState). is_allowed a owned h ≡ true) (frames_home a w) allowed)))
    where
      by : is_allowed a owned (with_pool w.home (frames_taken w.home a)) ≡ true → has_version w.home.shelf a.page (find (frames_taken w.home a) a.page) ≡ true
      by e =
          and_right (not (is_some a.write)) (has_version w.home.shelf a.page (find (frames_taken w.home a) a.page))
          (and_right (not owned) (not (is_some a.write) && has_version w.home.shelf a.page (find (frames_taken w.home a) a.page)) e)
