-- What an access at home comes to: of an own page it is done where it is held, else it asks as was planned.
use Rattle.std.proofs.Common.{◌≡◌, Bool, true, false, Some, None, is_some, refl, ap, sym, ◌∙◌}
use Rattle.node_rules.specs.Words.{pick}
use Rattle.node_rules.specs.OpenTxs.{held_by}
use Rattle.node_rules.specs.BufferRule.{Pool, copy_of_slot, find, has_slot, place, slot_at, slot_in, version_of_copy}
use Rattle.node_rules.specs.NodeState.{HomeState}
use Rattle.node_rules.specs.Work.{HomeWork, with_pool}
use Rattle.node_rules.specs.AccessRule.{Access, Accessed, Next, Now, AskOwn, access, access_in, is_allowed, is_held, mode_of_write, next_of, now_done, perform, take_frames, under_right, waiting}
use Rattle.home.specs.Device.{work_on}
use Rattle.home_laws.specs.Homes.{IsHome}
use Rattle.home_laws.proofs.Allowed.{MayAccess}
use Rattle.home_laws.proofs.Frames.{frames_home, frames_taken, pin_taken, private_taken, slot_taken}
use Rattle.home_laws.proofs.Room.{roomy}
use Rattle.home_laws.proofs.Taken.{pinned_copy, with_slot, with_write}
use Rattle.home_laws.proofs.Tests.{none_there, number_same}

abbrev asks : Access → Bool → HomeWork → Accessed
asks a owned x = record { next = next_of a owned (find x.home.pool a.page); work = record x { home = waiting a x.home } }

-- of another owner's page it doesn't go into an own entry
abbrev pub IsOwnNext : Next → Bool
IsOwnNext (AskOwn w) = true
IsOwnNext _ = false

pub never_own : (a : Access) (w : HomeWork) → IsOwnNext (access a false w).next ≡ false
unfolding access access_in
never_own a w = by (is_held a x.home) (is_allowed a false x.home)
  where
    x : HomeWork
    x = take_frames a w

    by : (held may : Bool)
        → IsOwnNext (pick held (now_done (perform a.tx a.page a.write x)) (pick may (now_done (perform a.tx a.page None (record x { home = under_right a.tx a.page x.home }))) (asks a false x))).next ≡ false
    by true may = refl
    by false true = refl
    by false false = refl

-- it is done at once
abbrev pub IsNow : Next → Bool
IsNow (Now r) = true
IsNow _ = false

module _ (a : Access) (h : HomeState) where
  taken_home : (take_frames a (work_on h)).home ≡ with_pool h (frames_taken h a)
  taken_home = frames_home a (work_on h)

  still_held : is_held a (take_frames a (work_on h)).home ≡ is_held a h
  still_held = ap (λ (x : HomeState). is_held a x) taken_home

  -- what is held is done at once
  pub held_now : is_held a h ≡ true → IsNow (access a true (work_on h)).next ≡ true
  unfolding access access_in
  held_now held =
      ap (λ b. IsNow (pick b (now_done (perform a.tx a.page a.write x)) (asks a true x)).next) (still_held ∙ held)
    where
      x : HomeWork
      x = take_frames a (work_on h)

  -- the frames bring no copy
  module _ (home : IsHome h) (may : MayAccess a h) where
    find_slot : find (slot_taken h.pool a.page) a.page ≡ find h.pool a.page
    unfolding place slot_in
    find_slot = of (has_slot h.pool a.page) refl
      where
        of : (d : Bool) → has_slot h.pool a.page ≡ d → find (slot_taken h.pool a.page) a.page ≡ find h.pool a.page
        of true e = ap (λ o. version_of_copy (copy_of_slot o)) ((with_slot a h home may).framed.keep e)
        of false e =
            ap (λ d. find (pick d h.pool (place (roomy h.pool a.page) a.page)) a.page) e
            ∙ ap (λ d. version_of_copy (copy_of_slot (pick d (Some (record { page = a.page; copy = None; pins = 0 })) (slot_in (roomy h.pool a.page).slots a.page)))) (number_same a.page)
            ∙ sym (ap (λ o. version_of_copy (copy_of_slot o)) (none_there (slot_at h.pool a.page) e))

    find_write : find (private_taken (slot_taken h.pool a.page) a.tx a.page a.write) a.page ≡ find (slot_taken h.pool a.page) a.page
    find_write = ap (λ o. version_of_copy (copy_of_slot o)) ((with_write a h home may).framed.keep (with_slot a h home may).there)

    find_pin : (d : Bool) (b : Pool) → find (pin_taken d b a.page) a.page ≡ find b a.page
    find_pin true b = refl
    find_pin false b = ap version_of_copy (pinned_copy b a.page a.page)

    find_taken : find (take_frames a (work_on h)).home.pool a.page ≡ find h.pool a.page
    find_taken =
        ap (λ (x : HomeState). find x.pool a.page) taken_home
        ∙ find_pin (is_some (held_by h.txs a.tx a.page)) (private_taken (slot_taken h.pool a.page) a.tx a.page a.write)
        ∙ find_write ∙ find_slot

    -- what isn't held asks as was planned
    pub asked_own : is_held a h ≡ false → (access a true (work_on h)).next ≡ AskOwn (record { tx = a.tx; mode = mode_of_write a.write; have = find h.pool a.page })
    unfolding access access_in
    asked_own free =
        ap (λ b. (pick b (now_done (perform a.tx a.page a.write x)) (asks a true x)).next) (still_held ∙ free)
        ∙ ap (next_of a true) find_taken
      where
        x : HomeWork
        x = take_frames a (work_on h)
