-- What holds of the stored pages, and of the calls so far, through what a home does.
use Rattle.std.proofs.Common.{◌≡◌, refl, ap, subst, ◌∙◌, ℕ, ◌+◌, ◌<◌, ◌==◌, nat_lt, not, Bool, true, false, List, [], ◌∷◌, ◌++◌, length, Option, Some, None, is_some, arith, slice_set}
use Rattle.std.specs.Prelude.{IfSome}
use Rattle.std.specs.List.{AllByRecursion}
use Rattle.std.proofs.lemmas.Bool.Decides.{nat_tests}
use Rattle.std.proofs.lemmas.List.Elements.{recursion_from_All}
use Rattle.pcl_base.specs.Limits.{Sizes}
use Rattle.pcl_base.specs.declared.tx.TxId.{TxId}
use Rattle.pcl_base.specs.declared.message.Change.{Change}
use Rattle.text_rules.specs.StoredPage.{PageAt, stored_bytes}
use Rattle.text_rules.specs.MessageBytes.{IsPage}
use Rattle.run_rules.specs.Disk.{raw_page}
use Rattle.node_rules.specs.Words.{pick}
use Rattle.node_rules.specs.BufferRule.{Slot, Copy, slot_in, copy_of_slot, copy_at, has_slot, has_private, free_frames, victim, change_slot, place, private, pin, clean, cleaned, evict}
use Rattle.node_rules.specs.NodeState.{HomeState}
use Rattle.node_rules.specs.DiskCalls.{DiskCall, WritePage}
use Rattle.node_rules.specs.Work.{HomeWork, with_pool, write_page, write_copy, write_back}
use Rattle.node_rules.specs.OpenTxs.{held_by}
use Rattle.node_rules.specs.AccessRule.{Access, on_pool, let_go, make_room, take_slot, take_private, pin_once, take_frames}
use Rattle.node_rules.specs.OwnerRule.{has_room, into_slot, put_change}
use Rattle.home_laws.specs.Homes.{IsHome}
use Rattle.node_laws.specs.Nodes.{IsCall}
use Rattle.node_laws.proofs.Lists.{all_push, all_filter, set_look}

-- stored pages of their size, and calls that write such
pub record AreStored (c : Sizes) (ps : List (List ℕ)) (ds : List DiskCall) : Type 0 where
  pub pages : (p : ℕ) → p < c.pages → length (raw_page ps p) ≡ c.size + 16
  pub calls : AllByRecursion (IsCall c) ds

stored_long : (p : ℕ) (at : PageAt) → length (stored_bytes p at) ≡ length at.bytes + 16
stored_long p at = omega arith

-- where a taken change goes
abbrev pub put_by : Bool → Bool → Bool → ℕ → Change → HomeWork → HomeWork
put_by a b d p x w =
    pick a (into_slot p x w)
    (pick b
    (pick d (into_slot p x (on_pool (λ b. place b p) (make_room p w))) (write_page p (record { version = x.version; bytes = x.image }) w))
    (into_slot p x (on_pool (λ b. place b p) w)))

module _ (c : Sizes) where
  pub wrote : (p : ℕ) (at : PageAt) (pages : List (List ℕ)) (calls : List DiskCall) → p < c.pages → length at.bytes ≡ c.size → AreStored c pages calls
      → AreStored c (slice_set pages p (stored_bytes p at)) (calls ++ WritePage p (stored_bytes p at) ∷ [])
  wrote p at pages calls low sized are =
      let long : length (stored_bytes p at) ≡ c.size + 16 = stored_long p at ∙ ap (λ n. n + 16) sized in
      record {
        pages = λ q below. set_look (λ bytes. length bytes ≡ c.size + 16) [] pages p q (stored_bytes p at) (λ e. long) (are.pages q below);
        calls = all_push (IsCall c) calls (WritePage p (stored_bytes p at)) are.calls (low, long);
      }

  pub called : (call : DiskCall) (pages : List (List ℕ)) (calls : List DiskCall) → IsCall c call → AreStored c pages calls → AreStored c pages (calls ++ call ∷ [])
  called call pages calls is are = record { pages = are.pages; calls = all_push (IsCall c) calls call are.calls is }

  -- a slot of a page of the database, whose copy has the size of a page
  abbrev IsSlot : Slot → Type 0
  IsSlot s = IsPage c s.page × IfSome s.copy (λ x. length x.bytes ≡ c.size)

  pub record Fits (w : HomeWork) : Type 0 where
    pub slots : AllByRecursion IsSlot w.home.pool.slots
    pub stored : AreStored c w.pages w.calls

  slot_is : (ss : List Slot) (p : ℕ) → AllByRecursion IsSlot ss → IfSome (copy_of_slot (slot_in ss p)) (λ x. IsPage c p × (length x.bytes ≡ c.size))
  unfolding slot_in
  slot_is [] p all = tt
  slot_is (s ∷ ss) p all = by (s.page == p) refl (slot_is ss p all.1)
    where
      of : (e : (s.page == p) ≡ true) (o : Option Copy) → IfSome o (λ x. length x.bytes ≡ c.size) → IfSome o (λ x. IsPage c p × (length x.bytes ≡ c.size))
      of e None h = tt
      of e (Some x) h = let same : s.page ≡ p = grind (arith, nat_tests) in (subst (λ n. n < c.pages) same all.0.0, h)

      by : (b : Bool) → (s.page == p) ≡ b → IfSome (copy_of_slot (slot_in ss p)) (λ x. IsPage c p × (length x.bytes ≡ c.size))
          → IfSome (copy_of_slot (pick b (Some s) (slot_in ss p))) (λ x. IsPage c p × (length x.bytes ≡ c.size))
      by true e rest = of e s.copy all.0.1
      by false e rest = rest

  changed_are : (f : Slot → Slot) → ((s : Slot) → IsSlot s → IsSlot (f s)) → (ss : List Slot) (p : ℕ) → AllByRecursion IsSlot ss → AllByRecursion IsSlot (change_slot f ss p)
  unfolding change_slot
  changed_are f each [] p all = tt
  changed_are f each (s ∷ ss) p all = by (s.page == p) (changed_are f each ss p all.1)
    where
      by : (b : Bool) → AllByRecursion IsSlot (change_slot f ss p) → AllByRecursion IsSlot (pick b (f s) s ∷ change_slot f ss p)
      by true rest = (each s all.0, rest)
      by false rest = (all.0, rest)

  cleaned_is : (s : Slot) → IsSlot s → IsSlot (record s { copy = cleaned s.copy })
  cleaned_is s is = (is.0, by s.copy is.1)
    where
      by : (o : Option Copy) → IfSome o (λ x. length x.bytes ≡ c.size) → IfSome (cleaned o) (λ x. length x.bytes ≡ c.size)
      by None h = tt
      by (Some x) h = h

  copy_fits : (p : ℕ) (o : Option Copy) (w : HomeWork) → IfSome o (λ x. IsPage c p × (length x.bytes ≡ c.size)) → Fits w → Fits (write_copy p o w)
  unfolding clean
  copy_fits p None w is fits = fits
  copy_fits p (Some x) w is fits = by x.dirty
    where
      by : (b : Bool)
          → Fits (pick b (record (write_page p (record { version = x.version; bytes = x.bytes }) w) { home = with_pool w.home (clean w.home.pool p) }) w)
      by true =
          record {
            slots = changed_are (λ s. record s { copy = cleaned s.copy }) cleaned_is w.home.pool.slots p fits.slots;
            stored = wrote p (record { version = x.version; bytes = x.bytes }) w.pages w.calls is.0 is.1 fits.stored;
          }
      by false = fits

  pub back_fits : (p : ℕ) (w : HomeWork) → Fits w → Fits (write_back p w)
  unfolding write_back
  back_fits p w fits = copy_fits p (copy_at w.home.pool p) w (slot_is w.home.pool.slots p fits.slots) fits

  pub evict_fits : (p : ℕ) (w : HomeWork) → Fits w → Fits (on_pool (λ b. evict b p) w)
  unfolding evict
  evict_fits p w fits = record { slots = all_filter IsSlot (λ s. not (s.page == p)) w.home.pool.slots fits.slots; stored = fits.stored }

  room_fits : (keep : ℕ) (w : HomeWork) → Fits w → Fits (make_room keep w)
  unfolding make_room
  room_fits keep w fits = by (nat_lt 0 (free_frames w.home.pool))
    where
      gone : (o : Option Slot) → Fits (let_go o w)
      gone None = fits
      gone (Some s) = evict_fits s.page (write_back s.page w) (back_fits s.page w fits)

      by : (b : Bool) → Fits (pick b w (let_go (victim w.home.pool keep) w))
      by true = fits
      by false = gone (victim w.home.pool keep)

  place_fits : (p : ℕ) (w : HomeWork) → IsPage c p → Fits w → Fits (on_pool (λ b. place b p) w)
  unfolding place
  place_fits p w page fits = record { slots = ((page, tt), fits.slots); stored = fits.stored }

  slot_fits : (p : ℕ) (w : HomeWork) → IsPage c p → Fits w → Fits (take_slot p w)
  unfolding take_slot
  slot_fits p w page fits = by (has_slot w.home.pool p)
    where
      by : (b : Bool) → Fits (pick b w (on_pool (λ b. place b p) (make_room p w)))
      by true = fits
      by false = place_fits p (make_room p w) page (room_fits p w fits)

  private_fits : (t : TxId) (p : ℕ) (write : Option (ℕ × List ℕ)) (w : HomeWork) → Fits w → Fits (take_private t p write w)
  unfolding take_private private
  private_fits t p None w fits = fits
  private_fits t p (Some write) w fits = by (has_private w.home.pool t p)
    where
      by : (b : Bool) → Fits (pick b w (on_pool (λ b. private b t p) (make_room p w)))
      by true = fits
      by false = let room = room_fits p w fits in record { slots = room.slots; stored = room.stored }

  pin_fits : (t : TxId) (p : ℕ) (w : HomeWork) → Fits w → Fits (pin_once t p w)
  unfolding pin
  pin_fits t p w fits = by (is_some (held_by w.home.txs t p))
    where
      by : (b : Bool) → Fits (pick b w (on_pool (λ b. pin b p) w))
      by true = fits
      by false = record { slots = changed_are (λ s. record s { pins = s.pins + 1 }) (λ s h. h) w.home.pool.slots p fits.slots; stored = fits.stored }

  pub frames_fit : (a : Access) (w : HomeWork) → IsPage c a.page → Fits w → Fits (take_frames a w)
  unfolding take_frames
  frames_fit a w page fits =
      pin_fits a.tx a.page (take_private a.tx a.page a.write (take_slot a.page w))
      (private_fits a.tx a.page a.write (take_slot a.page w) (slot_fits a.page w page fits))

  -- a change that was taken
  pub change_stored : (p : ℕ) (x : Change) (w : HomeWork) → IsPage c p → length x.image ≡ c.size → Fits w → AreStored c (put_change p x w).pages (put_change p x w).calls
  change_stored p x w page sized fits = by (has_slot w.home.pool p) (free_frames w.home.pool == 0) (has_room p w)
    where
      by : (a b d : Bool) → AreStored c (put_by a b d p x w).pages (put_by a b d p x w).calls
      by true b d = fits.stored
      by false true true = (room_fits p w fits).stored
      by false true false = wrote p (record { version = x.version; bytes = x.image }) w.pages w.calls page sized fits.stored
      by false false d = fits.stored

slots_are : (c : Sizes) (size : ℕ) → size ≡ c.size → (ss : List Slot) → AllByRecursion (λ s. s.page < c.pages) ss → AllByRecursion (λ s. IfSome s.copy (λ x. length x.bytes ≡ size)) ss
    → AllByRecursion (IsSlot c) ss
slots_are c size same [] below sized = tt
slots_are c size same (s ∷ ss) below sized = ((below.0, subst (λ n. IfSome s.copy (λ x. length x.bytes ≡ n)) same sized.0), slots_are c size same ss below.1 sized.1)

home_slots : (h : HomeState) → IsHome h → AllByRecursion (IsSlot h.config) h.pool.slots
home_slots h is =
    slots_are h.config h.pool.size is.sizes.1 h.pool.slots (recursion_from_All (λ (s : Slot). s.page < h.config.pages) h.pool.slots is.below)
    (recursion_from_All (λ (s : Slot). IfSome s.copy (λ x. length x.bytes ≡ h.pool.size)) h.pool.slots is.buffer.copies)

-- a home's buffer has such slots
pub home_fits : (w : HomeWork) → IsHome w.home → AreStored w.home.config w.pages w.calls → Fits w.home.config w
home_fits w is stored = record { slots = home_slots w.home is; stored = stored }

-- a copy in a home's buffer is of a page of the database, and has its size
pub home_copy : (h : HomeState) (p : ℕ) → IsHome h → IfSome (copy_at h.pool p) (λ x. IsPage h.config p × (length x.bytes ≡ h.config.size))
home_copy h p is = slot_is h.config h.pool.slots p (home_slots h is)
