-- The frames of an access are taken: each page is what it was.
use Rattle.std.proofs.Common.{◌≡◌, refl, sym, ap, subst, ◌∙◌, ℕ, ◌≤◌, ◌==◌, nat_lt, Bool, true, false, List, None, Some, is_some}
use Rattle.std.specs.Prelude.{Option, option_map}
use Rattle.pcl_base.specs.Limits.{Sizes}
use Rattle.pcl_base.specs.declared.tx.TxId.{TxId}
use Rattle.run_rules.specs.Base.{Base}
use Rattle.run_rules.specs.Disk.{Disk}
use Rattle.node_rules.specs.Words.{pick}
use Rattle.node_rules.specs.OpenTxs.{held_by}
use Rattle.node_rules.specs.BufferRule.{Pool, Slot, Copy, slot_at, slot_in, copy_at, copy_of_slot, has_slot, has_private, victim, free_frames, cleaned, change_slot, slots_without, place, private, pin, clean, evict}
use Rattle.node_rules.specs.Work.{HomeWork, with_pool, write_page, write_copy, write_back}
use Rattle.node_rules.specs.AccessRule.{Access, on_pool, let_go, make_room, take_slot, take_private, pin_once, take_frames}
use Rattle.home_laws.proofs.Tests.{number_equal, none_there}
use Rattle.home_laws.proofs.SlotFound.{changed_here, changed_there, without_here, without_there}
use Rattle.home_laws.proofs.Taken.{pinned_copy}
use Rattle.single_laws.proofs.Bases.{IsBase}
use Rattle.single_laws.proofs.Pages.{PagesAre, same_copies, pages_left}

module _ (c : Sizes) (base : Base) (d : Disk) (fine : IsBase c base) (few : c.pages ≤ 65536) (one : c.nodes ≡ 1) where
  roomy_pages : (keep : ℕ) (w : HomeWork) → PagesAre c base d w → PagesAre c base d (make_room keep w)
  unfolding make_room
  roomy_pages keep w is = by (nat_lt 0 (free_frames w.home.pool))
    where
      of : (o : Option Slot) → PagesAre c base d (let_go o w)
      of None = is
      of (Some s) = pages_left c base d fine few one s.page w is

      by : (b : Bool) → PagesAre c base d (pick b w (let_go (victim w.home.pool keep) w))
      by true = is
      by false = of (victim w.home.pool keep)

  -- a page without a slot has none once a frame is free
  abbrev NoSlot : ℕ → HomeWork → Type 0
  NoSlot p w = slot_at w.home.pool p ≡ None

  none_written : (p q : ℕ) (w : HomeWork) → NoSlot p w → NoSlot p (write_back q w)
  unfolding write_back clean
  none_written p q w none = by (copy_at w.home.pool q)
    where
      cleaned_none : (b : Bool) → (q == p) ≡ b → slot_in (change_slot (λ s. record s { copy = cleaned s.copy }) w.home.pool.slots q) p ≡ None
      cleaned_none true e =
          let same = number_equal q p e in
          let none_q : slot_in w.home.pool.slots q ≡ None = subst (λ n. slot_in w.home.pool.slots n ≡ None) (sym same) none in
          subst (λ n. slot_in (change_slot (λ s. record s { copy = cleaned s.copy }) w.home.pool.slots q) n ≡ None) same
          (changed_here (λ s. record s { copy = cleaned s.copy }) (λ s. refl) w.home.pool.slots q ∙ ap (option_map (λ (s : Slot). record s { copy = cleaned s.copy })) none_q)
      cleaned_none false e = changed_there (λ s. record s { copy = cleaned s.copy }) (λ s. refl) w.home.pool.slots q p e ∙ none

      of : (x : Copy) (b : Bool) → NoSlot p (pick b (record (write_page q (record { version = x.version; bytes = x.bytes }) w) { home = with_pool w.home (clean w.home.pool q) }) w)
      of x true = cleaned_none (q == p) refl
      of x false = none

      by : (o : Option Copy) → NoSlot p (write_copy q o w)
      by None = none
      by (Some x) = of x x.dirty

  none_left : (p q : ℕ) (w : HomeWork) → NoSlot p w → NoSlot p (on_pool (λ b. evict b q) w)
  unfolding evict
  none_left p q w none = by (q == p) refl
    where
      by : (b : Bool) → (q == p) ≡ b → slot_in (slots_without w.home.pool.slots q) p ≡ None
      by true e = subst (λ n. slot_in (slots_without w.home.pool.slots q) n ≡ None) (number_equal q p e) (without_here w.home.pool.slots q)
      by false e = without_there w.home.pool.slots q p e ∙ none

  none_roomy : (p keep : ℕ) (w : HomeWork) → NoSlot p w → NoSlot p (make_room keep w)
  unfolding make_room
  none_roomy p keep w none = by (nat_lt 0 (free_frames w.home.pool))
    where
      of : (o : Option Slot) → NoSlot p (let_go o w)
      of None = none
      of (Some s) = none_left p s.page (write_back s.page w) (none_written p s.page w none)

      by : (b : Bool) → NoSlot p (pick b w (let_go (victim w.home.pool keep) w))
      by true = none
      by false = of (victim w.home.pool keep)

  placed_copy : (b : Pool) (p q : ℕ) → slot_at b p ≡ None → copy_at (place b p) q ≡ copy_at b q
  unfolding place slot_in
  placed_copy b p q none = by (p == q) refl
    where
      by : (e : Bool) → (p == q) ≡ e → copy_of_slot (pick e (Some (record { page = p; copy = None; pins = 0 })) (slot_in b.slots q)) ≡ copy_at b q
      by true e = sym (ap copy_of_slot (subst (λ n. slot_in b.slots n ≡ None) (number_equal p q e) none))
      by false e = refl

  slot_pages : (p : ℕ) (w : HomeWork) → PagesAre c base d w → PagesAre c base d (take_slot p w)
  unfolding take_slot
  slot_pages p w is = by (has_slot w.home.pool p) refl
    where
      by : (b : Bool) → has_slot w.home.pool p ≡ b → PagesAre c base d (pick b w (on_pool (λ x. place x p) (make_room p w)))
      by true e = is
      by false e =
          let room : HomeWork = make_room p w in
          same_copies c base d room (with_pool room.home (place room.home.pool p))
          (λ q. placed_copy room.home.pool p q (none_roomy p p w (none_there (slot_at w.home.pool p) e))) (roomy_pages p w is)

  private_pages : (t : TxId) (p : ℕ) (write : Option (ℕ × List ℕ)) (w : HomeWork) → PagesAre c base d w → PagesAre c base d (take_private t p write w)
  unfolding take_private private
  private_pages t p None w is = is
  private_pages t p (Some write) w is = by (has_private w.home.pool t p)
    where
      by : (b : Bool) → PagesAre c base d (pick b w (on_pool (λ x. private x t p) (make_room p w)))
      by true = is
      by false =
          let room : HomeWork = make_room p w in
          same_copies c base d room (with_pool room.home (private room.home.pool t p)) (λ q. refl) (roomy_pages p w is)

  pin_pages : (t : TxId) (p : ℕ) (w : HomeWork) → PagesAre c base d w → PagesAre c base d (pin_once t p w)
  pin_pages t p w is = by (is_some (held_by w.home.txs t p))
    where
      by : (b : Bool) → PagesAre c base d (pick b w (on_pool (λ x. pin x p) w))
      by true = is
      by false = same_copies c base d w (with_pool w.home (pin w.home.pool p)) (λ q. pinned_copy w.home.pool p q) is

  pub frame_pages : (a : Access) (w : HomeWork) → PagesAre c base d w → PagesAre c base d (take_frames a w)
  unfolding take_frames
  frame_pages a w is =
      pin_pages a.tx a.page (take_private a.tx a.page a.write (take_slot a.page w)) (private_pages a.tx a.page a.write (take_slot a.page w) (slot_pages a.page w is))
