-- What holds of every buffer, under its changes.
use Rattle.std.proofs.Common.{◌≡◌, ℕ, ◌+◌, ◌≤◌, ◌==◌, not, Bool, true, false, List, [], ◌∷◌, ◌++◌, length, take, drop, cond, Option, Some, None, is_some, IfSome, refl, ap, subst, ◌∙◌, arith, length-append, length-take, length-drop}
use Rattle.std.proofs.lemmas.Bool.Decides.{nat_tests}
use Rattle.std.proofs.lemmas.List.Elements.{All-cons, All-filter, All-push}
use Rattle.std.specs.List.{All}
use Rattle.pcl_base.specs.declared.tx.TxId.{TxId}
use Rattle.text_rules.specs.ChangedRanges.{put}
use Rattle.node_rules.specs.Words.{same_tx}
use Rattle.node_rules.specs.BufferRule.{Pool, Slot, Copy, PrivateCopy, free_frames, slot_at, slot_in, copy_at, copy_of_slot, bytes_of_copy, private_at, private_in, is_private, place, private, touch, pin, install, clean, cleaned, evict, fill, change, over_filled, change_slot, change_private, slots_without, in_front}
use Rattle.buffer_pool.specs.Buffer.{IsBuffer}
use Rattle.home_laws.proofs.Tests.{one, number_equal, and_left, and_right, tx_equal}
use Rattle.home_laws.proofs.SlotLooks.{KeepsPage, slots_of, none_of, slots_changed, length_changed, filtered_less, all_changed, all_front, all_found, length_front, slots_front, counted}
use Rattle.home_laws.proofs.PrivateLooks.{privates_of, privates_changed, privates_appended, none_of as no_privates_of, length_changed as length_privates, all_changed as all_privates, unfilled}

-- a slot whose copy has the size of a page, and such a private copy
abbrev pub IsSizedSlot : ℕ → Slot → Type 0
IsSizedSlot size s = IfSome s.copy (λ c. length c.bytes ≡ size)

abbrev pub IsSizedPrivate : ℕ → PrivateCopy → Type 0
IsSizedPrivate size x = IfSome x.bytes (λ bytes. length bytes ≡ size)

-- other slots, no more of them
pub with_slots : (b : Pool) (ss : List Slot) → IsBuffer b → length ss ≤ length b.slots → All (IsSizedSlot b.size) ss → ((q : ℕ) → slots_of q ss ≤ 1) → IsBuffer (record b { slots = ss })
with_slots b ss sound few sized once = record {
  frames = sound.frames;
  within = let within = sound.within in omega (arith, within, few);
  copies = sized;
  images = sound.images;
  one_slot = once;
  one_private = sound.one_private;
}

pub with_changed : (b : Pool) (f : Slot → Slot) (p : ℕ) → KeepsPage f → ((s : Slot) → IsSizedSlot b.size s → IsSizedSlot b.size (f s)) → IsBuffer b → IsBuffer (record b { slots = change_slot f b.slots p })
with_changed b f p keeps sized sound =
    let long : length (change_slot f b.slots p) ≡ length b.slots = length_changed f b.slots p in
    with_slots b (change_slot f b.slots p) sound (omega (arith, long))
    (all_changed (IsSizedSlot b.size) (IsSizedSlot b.size) f b.slots p (λ s t h. sized s h) (λ s t h. h) sound.copies)
    (λ q. let le = sound.one_slot q in let same : slots_of q (change_slot f b.slots p) ≡ slots_of q b.slots = slots_changed f keeps b.slots p q in omega (arith, le, same))

pub pin_sound : (b : Pool) (p : ℕ) → IsBuffer b → IsBuffer (pin b p)
unfolding pin
pin_sound b p sound = with_changed b (λ s. record s { pins = s.pins + 1 }) p (λ s. refl) (λ s h. h) sound

pub install_sound : (b : Pool) (p : ℕ) (c : Copy) → length c.bytes ≡ b.size → IsBuffer b → IsBuffer (install b p c)
unfolding install
install_sound b p c size sound = with_changed b (λ s. record s { copy = Some c }) p (λ s. refl) (λ s h. size) sound

cleaned_sized : (size : ℕ) (s : Slot) → IsSizedSlot size s → IsSizedSlot size (record s { copy = cleaned s.copy })
cleaned_sized size s h = by s.copy h
  where
    by : (o : Option Copy) → IfSome o (λ c. length c.bytes ≡ size) → IfSome (cleaned o) (λ c. length c.bytes ≡ size)
    by None h = tt
    by (Some c) h = h

pub clean_sound : (b : Pool) (p : ℕ) → IsBuffer b → IsBuffer (clean b p)
unfolding clean
clean_sound b p sound = with_changed b (λ s. record s { copy = cleaned s.copy }) p (λ s. refl) (λ s h. cleaned_sized b.size s h) sound

pub evict_sound : (b : Pool) (p : ℕ) → IsBuffer b → IsBuffer (evict b p)
unfolding evict
evict_sound b p sound =
    with_slots b (slots_without b.slots p) sound (fewer b.slots)
    (All-filter (λ s. not (s.page == p)) (IsSizedSlot b.size) b.slots sound.copies)
    (λ q. let le = sound.one_slot q in let less = filtered_less (λ s. s.page == q) (λ s. not (s.page == p)) b.slots in omega (arith, le, less))
  where
    fewer : (ss : List Slot) → length (slots_without ss p) ≤ length ss
    fewer [] = omega arith
    fewer (s ∷ ss) = by (s.page == p) (fewer ss)
      where
        by : (d : Bool) → length (slots_without ss p) ≤ length ss → length (cond (not d) (s ∷ slots_without ss p) (slots_without ss p)) ≤ length (s ∷ ss)
        by true ih = omega (arith, ih)
        by false ih = omega (arith, ih)

pub touch_sound : (b : Pool) (p : ℕ) → IsBuffer b → IsBuffer (touch b p)
unfolding touch
touch_sound b p sound =
    let long : length (in_front (slot_in b.slots p) b.slots) ≡ length b.slots = length_front b.slots p (sound.one_slot p) in
    with_slots b (in_front (slot_in b.slots p) b.slots) sound (omega (arith, long)) (all_front (IsSizedSlot b.size) b.slots p sound.copies)
    (λ q. slots_front b.slots p q (sound.one_slot p) (sound.one_slot q))

-- a new place, where a frame is free and the page has none
abbrev pub bare : ℕ → Slot
bare p = record { page = p; copy = None; pins = 0 }

pub place_sound : (b : Pool) (p : ℕ) → slot_at b p ≡ None → 1 ≤ free_frames b → IsBuffer b → IsBuffer (place b p)
unfolding place
place_sound b p none room sound = record {
  frames = sound.frames;
  within = omega (arith, room);
  copies = All-cons (IsSizedSlot b.size) (bare p) b.slots tt sound.copies;
  images = sound.images;
  one_slot = λ q. once q (p == q) refl;
  one_private = sound.one_private;
}
  where
    once : (q : ℕ) (d : Bool) → (p == q) ≡ d → slots_of q (bare p ∷ b.slots) ≤ 1
    once q true t =
        let same = number_equal p q t in
        let zero : slots_of q b.slots ≡ 0 = subst (λ n. slots_of n b.slots ≡ 0) same (none_of b.slots p none) in
        let here : one (p == q) ≡ 1 = ap one t in
        omega (arith, counted (λ s. s.page == q) (bare p) b.slots, zero, here)
    once q false t =
        let le = sound.one_slot q in
        let here : one (p == q) ≡ 0 = ap one t in
        omega (arith, counted (λ s. s.page == q) (bare p) b.slots, le, here)

-- a further private copy, where a frame is free and there is none
pub private_sound : (b : Pool) (t : TxId) (p : ℕ) → private_at b t p ≡ None → 1 ≤ free_frames b → IsBuffer b → IsBuffer (private b t p)
unfolding private
private_sound b t p none room sound = record {
  frames = sound.frames;
  within = omega (arith, room, length-append b.privates (unfilled t p ∷ []));
  copies = sound.copies;
  images = All-push (IsSizedPrivate b.size) b.privates (unfilled t p) sound.images tt;
  one_slot = sound.one_slot;
  one_private = λ u q. once u q (is_private u q (unfilled t p)) refl;
}
  where
    once : (u : TxId) (q : ℕ) (d : Bool) → is_private u q (unfilled t p) ≡ d → privates_of u q (b.privates ++ unfilled t p ∷ []) ≤ 1
    once u q true e =
        let zero : privates_of u q b.privates ≡ 0 = no_privates_of b.privates u q (absent u q e) in
        let here : one (is_private u q (unfilled t p)) ≡ 1 = ap one e in
        omega (arith, privates_appended b.privates (unfilled t p) u q, zero, here)
      where
        absent : (u : TxId) (q : ℕ) → is_private u q (unfilled t p) ≡ true → private_in b.privates u q ≡ None
        absent u q e =
            let a = tx_equal t u (and_left (same_tx t u) (p == q) e) in
            let d = number_equal p q (and_right (same_tx t u) (p == q) e) in
            subst (λ v. private_in b.privates v q ≡ None) a (subst (λ n. private_in b.privates t n ≡ None) d none)
    once u q false e =
        let le = sound.one_private u q in
        let here : one (is_private u q (unfilled t p)) ≡ 0 = ap one e in
        omega (arith, privates_appended b.privates (unfilled t p) u q, le, here)

-- other bytes of a private copy
pub with_privates : (b : Pool) (f : Option (List ℕ) → Option (List ℕ)) (t : TxId) (p : ℕ) → ((o : Option (List ℕ)) → IfSome o (λ bytes. length bytes ≡ b.size) → IfSome (f o) (λ bytes. length bytes ≡ b.size)) → IsBuffer b
    → IsBuffer (record b { privates = change_private f b.privates t p })
with_privates b f t p sized sound = record {
  frames = sound.frames;
  within = let within = sound.within in let long : length (change_private f b.privates t p) ≡ length b.privates = length_privates f b.privates t p in omega (arith, within, long);
  copies = sound.copies;
  images = all_privates (IsSizedPrivate b.size) (IsSizedPrivate b.size) f b.privates t p (λ x h. sized x.bytes h) (λ x h. h) sound.images;
  one_slot = sound.one_slot;
  one_private = λ u q. let le = sound.one_private u q in let same : privates_of u q (change_private f b.privates t p) ≡ privates_of u q b.privates = privates_changed f b.privates t u p q in omega (arith, le, same);
}

-- the bytes of a copy have the size of a page
pub copy_sized : (b : Pool) (p : ℕ) → IsBuffer b → is_some (copy_at b p) ≡ true → length (bytes_of_copy (copy_at b p)) ≡ b.size
copy_sized b p sound there = by (slot_in b.slots p) refl there
  where
    of : (o : Option Copy) → is_some o ≡ true → IfSome o (λ c. length c.bytes ≡ b.size) → length (bytes_of_copy o) ≡ b.size
    of None e h = absurd (cc)
    of (Some c) e h = h

    by : (o : Option Slot) → slot_in b.slots p ≡ o → is_some (copy_of_slot o) ≡ true → length (bytes_of_copy (copy_of_slot o)) ≡ b.size
    by None e t = absurd (cc)
    by (Some s) e t = of s.copy t (all_found (IsSizedSlot b.size) b.slots p s e sound.copies)

pub fill_sound : (b : Pool) (t : TxId) (p : ℕ) → is_some (copy_at b p) ≡ true → IsBuffer b → IsBuffer (fill b t p)
unfolding fill
fill_sound b t p there sound = with_privates b (λ old. Some (bytes_of_copy (copy_at b p))) t p (λ o h. copy_sized b p sound there) sound

put_length : (place : ℕ) (piece bytes : List ℕ) → place + length piece ≤ length bytes → length (put place piece bytes) ≡ length bytes
put_length from piece bytes within =
    let a = length-append (take from bytes ++ piece) (drop (from + length piece) bytes) in
    let b = length-append (take from bytes) piece in
    let c = length-take from bytes in
    let d = length-drop (from + length piece) bytes in
    grind (arith, nat_tests, a, b, c, d)

pub change_sound : (b : Pool) (t : TxId) (p place : ℕ) (piece : List ℕ) → place + length piece ≤ b.size → IsBuffer b → IsBuffer (change b t p place piece)
unfolding change
change_sound b t p place piece within sound = with_privates b (over_filled place piece) t p sized sound
  where
    sized : (o : Option (List ℕ)) → IfSome o (λ bytes. length bytes ≡ b.size) → IfSome (over_filled place piece o) (λ bytes. length bytes ≡ b.size)
    sized None h = tt
    sized (Some bytes) h =
        let le : place + length piece ≤ length bytes = omega (arith, within, h) in
        put_length place piece bytes le ∙ h
