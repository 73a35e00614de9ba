-- The buffer of a home with the frames of an access that isn't refused.
use Rattle.std.proofs.Common.{◌≡◌, ℕ, ◌+◌, ◌<◌, ◌≤◌, ◌==◌, ◌||◌, not, Bool, true, false, Option, Some, None, is_some, refl, ap, sym, subst, ◌∙◌, arith}
use Rattle.std.proofs.lemmas.Bool.Decides.{nat_tests}
use Rattle.std.proofs.lemmas.List.Elements.{All-weaker}
use Rattle.std.specs.Prelude.{option_map}
use Rattle.std.specs.List.{All}
use Rattle.pcl_base.specs.declared.tx.TxId.{TxId}
use Rattle.node_rules.specs.OpenTxs.{held_by}
use Rattle.node_rules.specs.BufferRule.{Pool, Slot, slot_at, slot_in, copy_at, copy_of_slot, private_in, has_private, bytes_of_private, is_kept, one_unless, change_slot, pin}
use Rattle.node_rules.specs.NodeState.{HomeState}
use Rattle.node_rules.specs.AccessRule.{Access}
use Rattle.buffer_pool.specs.Buffer.{IsBuffer}
use Rattle.home_laws.specs.Homes.{IsHome, pins_of, users}
use Rattle.home_laws.proofs.Tests.{number_equal, some_there}
use Rattle.home_laws.proofs.Users.{held_used}
use Rattle.home_laws.proofs.SlotLooks.{changed_here, changed_there, all_changed}
use Rattle.home_laws.proofs.Buffers.{pin_sound}
use Rattle.home_laws.proofs.Room.{IsFramed, framed_then}
use Rattle.home_laws.proofs.Frames.{slot_taken, slot_taken_is, IsPlaced, private_taken, private_taken_is, IsWritable, HasWrite, pin_taken, frames_taken}
use Rattle.home_laws.proofs.Allowed.{MayAccess}

-- the pin that an access adds to the slot of its page
abbrev pub pin_more : Bool → ℕ
pin_more held = one_unless held

pub pinned_here : (b : Pool) (p : ℕ) → is_some (slot_at b p) ≡ true → pins_of (slot_at (pin b p) p) ≡ pins_of (slot_at b p) + 1
unfolding pin
pinned_here b p there =
    let found = some_there (slot_at b p) there in
    ap pins_of (changed_here (λ s. record s { pins = s.pins + 1 }) (λ s. refl) b.slots p ∙ ap (option_map (λ (s : Slot). record s { pins = s.pins + 1 })) found.1) ∙ ap (λ o. pins_of o + 1) (sym found.1)

pub pinned_there : (b : Pool) (p q : ℕ) → (p == q) ≡ false → slot_at (pin b p) q ≡ slot_at b q
unfolding pin
pinned_there b p q other = changed_there (λ s. record s { pins = s.pins + 1 }) (λ s. refl) b.slots p q other

pub pinned_copy : (b : Pool) (p q : ℕ) → copy_at (pin b p) q ≡ copy_at b q
unfolding pin
pinned_copy b p q = by (p == q) refl
  where
    mapped : (o : Option Slot) → copy_of_slot (option_map (λ (s : Slot). record s { pins = s.pins + 1 }) o) ≡ copy_of_slot o
    mapped None = refl
    mapped (Some s) = refl

    by : (d : Bool) → (p == q) ≡ d → copy_of_slot (slot_in (change_slot (λ s. record s { pins = s.pins + 1 }) b.slots p) q) ≡ copy_of_slot (slot_in b.slots q)
    by true e =
        let same = number_equal p q e in
        subst (λ n. copy_of_slot (slot_in (change_slot (λ s. record s { pins = s.pins + 1 }) b.slots p) n) ≡ copy_of_slot (slot_in b.slots n)) same
        (ap copy_of_slot (changed_here (λ s. record s { pins = s.pins + 1 }) (λ s. refl) b.slots p) ∙ mapped (slot_in b.slots p))
    by false e = ap copy_of_slot (changed_there (λ s. record s { pins = s.pins + 1 }) (λ s. refl) b.slots p q e)

-- the frames of an access are taken: the slot of its page is there and pinned once for its
-- transaction, pinned copies stay, and a write has a private copy
pub record IsTaken (h : HomeState) (t : TxId) (p : ℕ) (write held : Bool) (b : Pool) : Type 0 where
  pub buffer : IsBuffer b
  pub frames : b.frames ≡ h.config.frames
  pub size : b.size ≡ h.config.size
  pub there : is_some (slot_at b p) ≡ true
  pub here : pins_of (slot_at b p) ≡ users h.txs p + pin_more held
  pub pins : (q : ℕ) → (p == q) ≡ false → pins_of (slot_at b q) ≡ users h.txs q
  pub copies : (q : ℕ) → 1 ≤ pins_of (slot_at h.pool q) → copy_at b q ≡ copy_at h.pool q
  pub kept : All (λ s. is_kept s ≡ true) b.slots
  pub below : All (λ s. s.page < h.config.pages) b.slots
  pub privates : HasWrite t p write h.pool b

module _ (a : Access) (h : HomeState) (home : IsHome h) (may : MayAccess a h) where
  -- the slot of the page
  pub with_slot : IsPlaced a.page h.pool (slot_taken h.pool a.page)
  with_slot =
      let fits = may.fits in
      slot_taken_is a.page h.pool home.buffer (omega (arith, fits))

  -- the private copy
  pub with_write : IsWritable a.tx a.page (is_some a.write) (slot_taken h.pool a.page) (private_taken (slot_taken h.pool a.page) a.tx a.page a.write)
  with_write =
      let fits = may.fits in
      let rest = with_slot.rest in
      let same : one_unless (not (is_some a.write) || has_private (slot_taken h.pool a.page) a.tx a.page) ≡ one_unless (not (is_some a.write) || has_private h.pool a.tx a.page) =
      ap (λ xs. one_unless (not (is_some a.write) || is_some (private_in xs a.tx a.page))) with_slot.privates in
      private_taken_is a.tx a.page a.write (slot_taken h.pool a.page) with_slot.framed.buffer (omega (arith, fits, rest, same))

  abbrev both : Pool
  both = private_taken (slot_taken h.pool a.page) a.tx a.page a.write

  framed : IsFramed a.page h.pool both
  framed = framed_then a.page h.pool (slot_taken h.pool a.page) both with_slot.framed with_write.framed

  writes : HasWrite a.tx a.page (is_some a.write) h.pool both
  writes = record {
    others = λ u q e. with_write.privates.others u q e ∙ ap (λ xs. private_in xs u q) with_slot.privates;
    there = with_write.privates.there ∙ ap (λ xs. is_some (private_in xs a.tx a.page) || is_some a.write) with_slot.privates;
    bytes = with_write.privates.bytes ∙ ap (λ xs. bytes_of_private (private_in xs a.tx a.page)) with_slot.privates;
  }

  slot_there : is_some (slot_at both a.page) ≡ true
  slot_there = ap is_some (with_write.framed.keep with_slot.there) ∙ with_slot.there

  below : All (λ s. s.page < h.config.pages) both.slots
  below = framed.below h.config.pages may.page home.below

  pub taken : IsTaken h a.tx a.page (is_some a.write) (is_some (held_by h.txs a.tx a.page)) (frames_taken h a)
  unfolding pin
  taken = by (is_some (held_by h.txs a.tx a.page)) refl
    where
      by : (d : Bool) → is_some (held_by h.txs a.tx a.page) ≡ d → IsTaken h a.tx a.page (is_some a.write) d (pin_taken d both a.page)
      by true e =
          let was : is_some (slot_at h.pool a.page) ≡ true = pinned_slot (slot_at h.pool a.page) (subst (λ n. 1 ≤ n) (sym (home.pins a.page)) (held_used h.txs a.tx a.page e)) in
          record {
            buffer = framed.buffer;
            frames = framed.frames ∙ home.sizes.0;
            size = framed.size ∙ home.sizes.1;
            there = slot_there;
            here = (let same = framed.pins a.page in let pins = home.pins a.page in omega (arith, same, pins));
            pins = λ q other. framed.pins q ∙ home.pins q;
            copies = λ q some. ap copy_of_slot (framed.slots q some);
            kept = framed.whole was home.kept;
            below = below;
            privates = writes;
          }
        where
          pinned_slot : (o : Option Slot) → 1 ≤ pins_of o → is_some o ≡ true
          pinned_slot None le = absurd (omega (arith, le))
          pinned_slot (Some s) le = refl
      by false e =
          record {
            buffer = pin_sound both a.page framed.buffer;
            frames = framed.frames ∙ home.sizes.0;
            size = framed.size ∙ home.sizes.1;
            there = there_pinned;
            here = (let same = framed.pins a.page in let pins = home.pins a.page in let more = pinned_here both a.page slot_there in omega (arith, same, pins, more));
            pins = λ q other. ap pins_of (pinned_there both a.page q other) ∙ framed.pins q ∙ home.pins q;
            copies = λ q some. pinned_copy both a.page q ∙ ap copy_of_slot (framed.slots q some);
            kept =
                all_changed (λ s. (s.page == a.page) ≡ false → is_kept s ≡ true) (λ s. is_kept s ≡ true) (λ s. record s { pins = s.pins + 1 }) both.slots a.page
                (λ s t k. kept_pin s) (λ s t k. k t) (framed.kept (All-weaker (λ s. is_kept s ≡ true) (λ s. (s.page == a.page) ≡ false → is_kept s ≡ true) (λ s k t. k) h.pool.slots home.kept));
            below = all_changed (λ s. s.page < h.config.pages) (λ s. s.page < h.config.pages) (λ s. record s { pins = s.pins + 1 }) both.slots a.page (λ s t k. k) (λ s t k. k) below;
            privates = record { others = writes.others; there = writes.there; bytes = writes.bytes };
          }
        where
          there_pinned : is_some (slot_at (pin both a.page) a.page) ≡ true
          there_pinned = ap is_some (changed_here (λ s. record s { pins = s.pins + 1 }) (λ s. refl) both.slots a.page ∙ ap (option_map (λ (s : Slot). record s { pins = s.pins + 1 })) (some_there (slot_at both a.page) slot_there).1)

          kept_pin : (s : Slot) → is_kept (record s { pins = s.pins + 1 }) ≡ true
          kept_pin s = of (is_some s.copy)
            where
              of : (d : Bool) → d || not (s.pins + 1 == 0) ≡ true
              of true = refl
              of false = grind (arith, nat_tests)
