-- The victim of a page, and the buffer once it was written back.
use Rattle.std.proofs.Common.{◌≡◌, ℕ, ◌+◌, ◌<◌, ◌≤◌, ◌==◌, ◌||◌, not, nat_lt, Bool, true, false, Option, Some, None, is_some, refl, ap, sym, subst, ◌∙◌, arith}
use Rattle.std.proofs.lemmas.Bool.Decides.{nat_tests}
use Rattle.std.specs.Prelude.{option_map}
use Rattle.pcl_base.specs.Limits.{Sizes}
use Rattle.node_rules.specs.Words.{pick}
use Rattle.node_rules.specs.BufferRule.{Pool, Slot, Copy, slot_at, slot_in, copy_at, copy_of_slot, dirty, is_dirty_copy, pinned, pinned_slot, is_pinned, is_kept, may_go, can_go, free_frames, victim, clean, cleaned, evict}
use Rattle.node_rules.specs.NodeState.{HomeState}
use Rattle.node_rules.specs.Work.{HomeWork, write_back}
use Rattle.node_rules.specs.AccessRule.{make_room, let_go, on_pool}
use Rattle.buffer_pool.specs.Buffer.{IsBuffer}
use Rattle.home_laws.proofs.Tests.{and_left, and_right, not_true}
use Rattle.home_laws.proofs.SlotLooks.{changed_here, goes_may, goes_there, goes_some, all_found}
use Rattle.home.specs.Parts.{PartsView, GoWell}
use Rattle.home.proofs.WriteBack.{written_home, unwritten}

-- the slot that a name finds
named : (o : Option Slot) (p : ℕ) → Some p ≡ option_map (λ s. s.page) o → (s : Slot) × (o ≡ Some s) × (p ≡ s.page)
named None p e = absurd (cc)
named (Some s) p e = (s, refl, cc)

module _ (keep p : ℕ) (c : Sizes) (b : Pool) (sound : IsBuffer b) (go : GoWell keep c b) (found : Some p ≡ option_map (λ s. s.page) (victim b keep)) where
  goes : (s : Slot) × (victim b keep ≡ Some s) × (p ≡ s.page)
  goes = named (victim b keep) p found

  there : slot_at b p ≡ Some goes.0
  there = ap (slot_in b.slots) goes.2 ∙ goes_there b.slots keep goes.0 sound.one_slot goes.1

  may : may_go keep goes.0 ≡ true
  may = goes_may b.slots keep goes.0 goes.1

  well : (is_kept goes.0 ≡ true) × (goes.0.page < c.pages)
  well =
      all_found (λ s. (s.page == keep) ≡ false → (is_kept s ≡ true) × (s.page < c.pages)) b.slots p goes.0 there go
      (not_true (goes.0.page == keep) (and_left (not (goes.0.page == keep)) (not (is_pinned goes.0)) may))

  loose : is_pinned goes.0 ≡ false
  loose = not_true (is_pinned goes.0) (and_right (not (goes.0.page == keep)) (not (is_pinned goes.0)) may)

  pub goes_below : p < c.pages
  goes_below = subst (λ n. n < c.pages) (sym goes.2) well.1

  pub goes_loose : pinned b p ≡ false
  goes_loose = ap pinned_slot there ∙ loose

  pub goes_copy : is_some (copy_at b p) ≡ true
  goes_copy = ap (λ o. is_some (copy_of_slot o)) there ∙ by_case (is_some goes.0.copy) (is_pinned goes.0) well.0 loose
    where
      by_case : (d e : Bool) → d || e ≡ true → e ≡ false → d ≡ true
      by_case true e k l = refl
      by_case false e k l = sym l ∙ k

  pub goes_apart : (p == keep) ≡ false
  goes_apart = ap (λ n. n == keep) goes.2 ∙ not_true (goes.0.page == keep) (and_left (not (goes.0.page == keep)) (not (is_pinned goes.0)) may)

  -- the room that it makes
  pub room_taken : (w : HomeWork) → w.home.pool ≡ b → nat_lt 0 (free_frames b) ≡ false → make_room keep w ≡ on_pool (λ x. evict x p) (write_back p w)
  unfolding make_room
  room_taken w same full =
      ap (λ x. pick (nat_lt 0 (free_frames x)) w (let_go (victim x keep) w)) same
      ∙ ap (λ d. pick d w (let_go (victim b keep) w)) full
      ∙ ap (λ o. let_go o w) goes.1
      ∙ ap (λ n. on_pool (λ x. evict x n) (write_back n w)) (sym goes.2)

-- where a frame is free nothing goes
pub room_free : (keep : ℕ) (w : HomeWork) → 0 < free_frames w.home.pool → make_room keep w ≡ w
unfolding make_room
room_free keep w some =
    let test : nat_lt 0 (free_frames w.home.pool) ≡ true = grind (arith, nat_tests) in
    ap (λ d. pick d w (let_go (victim w.home.pool keep) w)) test

-- one goes where none is free and there is room
pub one_goes : (keep : ℕ) (b : Pool) → 1 ≤ free_frames b + can_go b keep → free_frames b ≤ 0 → None ≡ option_map (λ s. s.page) (victim b keep) → ⊥
one_goes keep b room full none =
    let some = goes_some b.slots keep (omega (arith, room, full)) in
    by_case (victim b keep) some none
  where
    by_case : (o : Option Slot) → is_some o ≡ true → None ≡ option_map (λ s. s.page) o → ⊥
    by_case None s n = absurd (cc)
    by_case (Some x) s n = absurd (cc)

-- what writing back leaves of the slot
cleaned_slot : (b : Pool) (p : ℕ) → slot_at (clean b p) p ≡ option_map (λ (s : Slot). record s { copy = cleaned s.copy }) (slot_at b p)
unfolding clean
cleaned_slot b p = changed_here (λ s. record s { copy = cleaned s.copy }) (λ s. refl) b.slots p

copy_kept : (o : Option Slot) → is_some (copy_of_slot (option_map (λ (s : Slot). record s { copy = cleaned s.copy }) o)) ≡ is_some (copy_of_slot o)
copy_kept None = refl
copy_kept (Some s) = by_case s.copy
  where
    by_case : (o : Option Copy) → is_some (cleaned o) ≡ is_some o
    by_case None = refl
    by_case (Some c) = refl

pins_kept : (o : Option Slot) → pinned_slot (option_map (λ (s : Slot). record s { copy = cleaned s.copy }) o) ≡ pinned_slot o
pins_kept None = refl
pins_kept (Some s) = refl

none_dirty : (o : Option Slot) → is_dirty_copy (copy_of_slot (option_map (λ (s : Slot). record s { copy = cleaned s.copy }) o)) ≡ false
none_dirty None = refl
none_dirty (Some s) = by_case s.copy
  where
    by_case : (o : Option Copy) → is_dirty_copy (cleaned o) ≡ false
    by_case None = refl
    by_case (Some c) = refl

-- the copy is there, is pinned as before, and is clean
pub record IsWrittenBack (p : ℕ) (b new : Pool) : Type 0 where
  pub copy : is_some (copy_at new p) ≡ is_some (copy_at b p)
  pub pinned : pinned new p ≡ pinned b p
  pub clean : dirty new p ≡ false

pub written_back : (p : ℕ) (w : HomeWork) → IsWrittenBack p w.home.pool (write_back p w).home.pool
written_back p w = by_case (dirty w.home.pool p) refl
  where
    by_case : (d : Bool) → dirty w.home.pool p ≡ d → IsWrittenBack p w.home.pool (write_back p w).home.pool
    by_case true e =
        subst (λ h. IsWrittenBack p w.home.pool h.pool) (sym (written_home p w e))
        (record {
          copy = ap (λ o. is_some (copy_of_slot o)) (cleaned_slot w.home.pool p) ∙ copy_kept (slot_at w.home.pool p);
          pinned = ap pinned_slot (cleaned_slot w.home.pool p) ∙ pins_kept (slot_at w.home.pool p);
          clean = ap (λ o. is_dirty_copy (copy_of_slot o)) (cleaned_slot w.home.pool p) ∙ none_dirty (slot_at w.home.pool p);
        })
    by_case false e = subst (λ x. IsWrittenBack p w.home.pool x.home.pool) (sym (unwritten p w e)) (record { copy = refl; pinned = refl; clean = e })

-- the parts with another home
pub with_home_as : (v : PartsView) (h g : HomeState) → h ≡ g → record v { home = h } ≡ record v { home = g }
with_home_as v h g same = ap (λ x. record v { home = x }) same
