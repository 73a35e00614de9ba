-- A copy that goes into a slot of a home's buffer, or into a new one.
use Rattle.std.proofs.Common.{◌≡◌, ℕ, ◌<◌, ◌≤◌, ◌==◌, Bool, true, false, List, ◌∷◌, length, Option, Some, None, is_some, refl, ap, sym, subst, ◌∙◌, arith}
use Rattle.std.proofs.lemmas.Bool.Decides.{nat_tests}
use Rattle.std.proofs.lemmas.List.Elements.{All-cons, All-weaker}
use Rattle.std.specs.List.{All}
use Rattle.std.specs.Option.{option_map}
use Rattle.pcl_base.specs.Limits.{Sizes}
use Rattle.pcl_base.specs.declared.tx.TxId.{TxId}
use Rattle.node_rules.specs.Words.{pick}
use Rattle.node_rules.specs.BufferRule.{Pool, Slot, Copy, slot_in, slot_at, copy_of_slot, copy_at, free_frames, is_kept, private_at, change_slot, install, place}
use Rattle.home_laws.specs.Homes.{pins_of}
use Rattle.home_laws.proofs.Words.{not_both, equal}
use Rattle.home_laws.proofs.Slots.{slot_changed, slot_unchanged}
use Rattle.home_laws.proofs.Pools.{PoolIs, changed_are}
use Rattle.home_laws.proofs.Publishes.{seen_changed}
use Rattle.home_laws.proofs.SlotLooks.{all_changed}
use Rattle.home_laws.proofs.Buffers.{place_sound, install_sound}
use Rattle.home_laws.proofs.Kept.{Keeps}

-- a slot with another copy
abbrev with_copy : Copy → Slot → Slot
with_copy c s = record s { copy = Some c }

copy_pins : (c : Copy) (o : Option Slot) → pins_of (option_map (with_copy c) o) ≡ pins_of o
copy_pins c None = refl
copy_pins c (Some s) = refl

copy_there : (c : Copy) (o : Option Slot) → is_some (copy_of_slot o) ≡ true → is_some (copy_of_slot (option_map (with_copy c) o)) ≡ true
copy_there c None e = e
copy_there c (Some s) e = refl

-- what is seen of slots where one gets a copy
copies_changed : (c : Copy) (ss : List Slot) (p q : ℕ) → is_some (copy_of_slot (slot_in ss q)) ≡ true → is_some (copy_of_slot (slot_in (change_slot (with_copy c) ss p) q)) ≡ true
copies_changed c ss p q some = by_page (q == p) refl
  where
    by_page : (d : Bool) → (q == p) ≡ d → is_some (copy_of_slot (slot_in (change_slot (with_copy c) ss p) q)) ≡ true
    by_page true e =
        let here : is_some (copy_of_slot (slot_in ss p)) ≡ true = subst (λ n. is_some (copy_of_slot (slot_in ss n)) ≡ true) (equal q p e) some in
        let now : is_some (copy_of_slot (slot_in (change_slot (with_copy c) ss p) p)) ≡ true = ap (λ o. is_some (copy_of_slot o)) (slot_changed (with_copy c) (λ s. refl) ss p) ∙ copy_there c (slot_in ss p) here in
        subst (λ n. is_some (copy_of_slot (slot_in (change_slot (with_copy c) ss p) n)) ≡ true) (sym (equal q p e)) now
    by_page false e = ap (λ o. is_some (copy_of_slot o)) (slot_unchanged (with_copy c) (λ s. refl) ss p q e) ∙ some

-- a copy in a slot that is there
pub keeps_install : (c : Sizes) (b : Pool) (p : ℕ) (x : Copy) → length x.bytes ≡ c.size → PoolIs c b → Keeps c b (install b p x)
unfolding install
keeps_install c b p x long is =
    let sized : length x.bytes ≡ b.size = long ∙ sym is.size in
    record {
      is = changed_are c b (with_copy x) p (λ s. refl) (λ s h. sized) (λ s k. refl) is;
      pins = λ q. seen_changed pins_of (with_copy x) (λ s. refl) (copy_pins x) b.slots p q;
      copies = λ q pinned some. copies_changed x b.slots p q some;
      privates = λ t q. refl;
    }

-- a slot without content
abbrev bare_slot : ℕ → Slot
bare_slot p = record { page = p; copy = None; pins = 0 }

front_there : (b : Pool) (p q : ℕ) → (p == q) ≡ false → slot_in (bare_slot p ∷ b.slots) q ≡ slot_in b.slots q
unfolding slot_in
front_there b p q other = ap (λ d. pick d (Some (bare_slot p)) (slot_in b.slots q)) other

front_pins : (b : Pool) (p q : ℕ) → slot_at b p ≡ None → pins_of (slot_in (bare_slot p ∷ b.slots) q) ≡ pins_of (slot_at b q)
unfolding slot_in
front_pins b p q none = by_page (p == q) refl
  where
    by_page : (d : Bool) → (p == q) ≡ d → pins_of (pick d (Some (bare_slot p)) (slot_in b.slots q)) ≡ pins_of (slot_in b.slots q)
    by_page true e = sym (ap pins_of (subst (λ n. slot_in b.slots n ≡ None) (equal p q e) none))
    by_page false e = refl

-- a copy in a new slot
module _ (c : Sizes) (b : Pool) (p : ℕ) (x : Copy) (none : slot_at b p ≡ None) (room : 1 ≤ free_frames b) (inside : p < c.pages) (long : length x.bytes ≡ c.size) (is : PoolIs c b) where
  sized : length x.bytes ≡ b.size
  sized = long ∙ sym is.size

  kept : All (λ s. is_kept s ≡ true) (change_slot (with_copy x) (bare_slot p ∷ b.slots) p)
  kept =
      all_changed (λ s. (s.page == p) ≡ false → is_kept s ≡ true) (λ s. is_kept s ≡ true) (with_copy x) (bare_slot p ∷ b.slots) p (λ s e k. refl) (λ s e k. k e)
      (All-cons (λ s. (s.page == p) ≡ false → is_kept s ≡ true) (bare_slot p) b.slots (λ e. absurd (not_both (p == p) (self p) e))
      (All-weaker (λ s. is_kept s ≡ true) (λ s. (s.page == p) ≡ false → is_kept s ≡ true) (λ s k e. k) b.slots is.kept))
    where
      self : (n : ℕ) → (n == n) ≡ true
      self n = grind (arith, nat_tests)

  all_below : All (λ s. s.page < c.pages) (change_slot (with_copy x) (bare_slot p ∷ b.slots) p)
  all_below =
      all_changed (λ s. s.page < c.pages) (λ s. s.page < c.pages) (with_copy x) (bare_slot p ∷ b.slots) p (λ s e l. l) (λ s e l. l)
      (All-cons (λ s. s.page < c.pages) (bare_slot p) b.slots inside is.below)

  pool_now : PoolIs c (install (place b p) p x)
  unfolding install place
  pool_now =
      record {
        buffer = install_sound (place b p) p x sized (place_sound b p none room is.buffer);
        frames = is.frames;
        size = is.size;
        kept = kept;
        below = all_below;
      }

  pins_now : (q : ℕ) → pins_of (slot_at (install (place b p) p x) q) ≡ pins_of (slot_at b q)
  unfolding install place
  pins_now q = seen_changed pins_of (with_copy x) (λ s. refl) (copy_pins x) (bare_slot p ∷ b.slots) p q ∙ front_pins b p q none

  copy_now : (q : ℕ) → is_some (copy_at b q) ≡ true → (d : Bool) → (p == q) ≡ d → is_some (copy_at (install (place b p) p x) q) ≡ true
  unfolding install place
  copy_now q some true e =
      let gone : slot_at b q ≡ None = subst (λ n. slot_at b n ≡ None) (equal p q e) none in
      absurd (not_both (is_some (copy_at b q)) some (ap (λ o. is_some (copy_of_slot o)) gone))
  copy_now q some false e =
      copies_changed x (bare_slot p ∷ b.slots) p q (ap (λ o. is_some (copy_of_slot o)) (front_there b p q e) ∙ some)

  privates_now : (t : TxId) (q : ℕ) → private_at (install (place b p) p x) t q ≡ private_at b t q
  unfolding install place
  privates_now t q = refl

  pub keeps_put : Keeps c b (install (place b p) p x)
  keeps_put = record { is = pool_now; pins = pins_now; copies = λ q pinned some. copy_now q some (p == q) refl; privates = privates_now }
