-- What the calls of the buffer say of a found slot or private copy.
use Rattle.std.proofs.Common.{◌≡◌, ℕ, ◌+◌, ◌<◌, ◌≤◌, ◌==◌, nat_eq, not, Bool, true, false, List, [], ◌++◌, zero, suc, length, set, Option, Some, None, is_some, IfSome, refl, ap, sym, subst, ◌∙◌, arith, length-set}
use Rattle.std.proofs.lemmas.Bool.Decides.{nat_tests}
use Rattle.pcl_base.specs.declared.tx.TxId.{TxId}
use Rattle.text_rules.specs.ChangedRanges.{put}
use Rattle.node_rules.specs.BufferRule.{Pool, PrivateCopy, Slot as SlotRow, slot_at, copy_at, copy_of_slot, bytes_of_copy, pinned, private_bytes, cleaned, published, over_filled, version_of_copy, is_dirty_copy, open_pool}
use Rattle.buffer_pool.specs.declared.uses.Use.TheVariants.{Slot, Private}
use Rattle.buffer_pool.specs.declared.uses.Content.{Content}
use Rattle.buffer_pool.specs.declared.uses.SlotUse.{SlotUse}
use Rattle.buffer_pool.specs.declared.uses.PrivateUse.{PrivateUse}
use Rattle.buffer_pool.specs.Uses.{is_dirty_content, cleaned_content, published_content}
use Rattle.buffer_pool.specs.Entries.{Entries, IsTable, fresh, rows, rows_back, use_at, first_row, slot_here, private_here}
use Rattle.buffer_pool.specs.Images.{ImagesView, IsSized}
use Rattle.buffer_pool.specs.Seen.{IsSound, pool_of, image_at, copy_seen, if_filled}
use Rattle.buffer_pool.proofs.Entries.{equal}
use Rattle.buffer_pool.proofs.Freed.{fresh_length}
use Rattle.buffer_pool.proofs.Rows.{slots_of, slot_row, found_slot}
use Rattle.buffer_pool.proofs.Privates.{privates_of, private_row, found_private}
use Rattle.buffer_pool.proofs.Pools.{slot_now, private_now, pool_made}

-- a copy is needed, and the page has no slot
pub no_copy : (v : ImagesView) (es : Entries) (now : Pool) (p : ℕ) → pool_of v es ≡ now → None ≡ first_row (slot_here p) es → is_some (copy_at now p) ≡ true → ⊥
no_copy v es now p q r h = let bad : true ≡ false = sym h ∙ ap (λ o. is_some (copy_of_slot o)) (slot_now v es now p None q r) in cc

copy_bytes : (i : List ℕ) (o : Option Content) → is_some (copy_seen i o) ≡ true → bytes_of_copy (copy_seen i o) ≡ i
copy_bytes i None h = cc
copy_bytes i (Some c) h = refl

pub slot_bytes : (v : ImagesView) (es : Entries) (now : Pool) (p k : ℕ) (s : SlotUse) → pool_of v es ≡ now → Some (k, s) ≡ first_row (slot_here p) es → is_some (copy_at now p) ≡ true → image_at v.images k ≡ bytes_of_copy (copy_at now p)
slot_bytes v es now p k s q r h =
    let row : slot_at now p ≡ Some (slot_row v.images k s) = slot_now v es now p (Some (k, s)) q r in
    let there : is_some (copy_seen (image_at v.images k) s.content) ≡ true = subst (λ o. is_some (copy_of_slot o) ≡ true) row h in
    sym (ap (λ o. bytes_of_copy (copy_of_slot o)) row ∙ copy_bytes (image_at v.images k) s.content there)

pub slot_pins : (v : ImagesView) (es : Entries) (now : Pool) (p k : ℕ) (s : SlotUse) → pool_of v es ≡ now → Some (k, s) ≡ first_row (slot_here p) es → pinned now p ≡ true → 1 ≤ s.pins
slot_pins v es now p k s q r h =
    let row : slot_at now p ≡ Some (slot_row v.images k s) = slot_now v es now p (Some (k, s)) q r in
    let test : not (s.pins == 0) ≡ true = sym (ap (λ o. pinned_of o) row) ∙ h in
    by_test (s.pins == 0) refl test
  where
    pinned_of : Option SlotRow → Bool
    pinned_of None = false
    pinned_of (Some y) = not (y.pins == 0)

    by_test : (b : Bool) → (s.pins == 0) ≡ b → not b ≡ true → 1 ≤ s.pins
    by_test true t n = let bad : false ≡ true = n in cc
    by_test false t n = grind (arith, nat_tests)

pub cleaned_row : (images : List (List ℕ)) (k : ℕ) (s : SlotUse) → slot_row images k (record s { content = cleaned_content s.content }) ≡ (let y : SlotRow = slot_row images k s in record y { copy = cleaned y.copy })
cleaned_row images k s = by_content s.content
  where
    by_content : (o : Option Content) → (let a : SlotRow = record { page = s.page; copy = copy_seen (image_at images k) (cleaned_content o); pins = s.pins } in a) ≡ (let b : SlotRow = record { page = s.page; copy = cleaned (copy_seen (image_at images k) o); pins = s.pins } in b)
    by_content None = refl
    by_content (Some c) = refl

pub published_row : (images now : List (List ℕ)) (k : ℕ) (s : SlotUse) (dirty : Bool) (bytes : List ℕ) → image_at now k ≡ bytes
    → slot_row now k (record s { content = published_content dirty s.content }) ≡ (let y : SlotRow = slot_row images k s in record y { copy = published dirty (Some bytes) y.copy })
published_row images now k s dirty bytes h = by_content s.content
  where
    by_content : (o : Option Content) → (let a : SlotRow = record { page = s.page; copy = copy_seen (image_at now k) (published_content dirty o); pins = s.pins } in a) ≡ (let b : SlotRow = record { page = s.page; copy = published dirty (Some bytes) (copy_seen (image_at images k) o); pins = s.pins } in b)
    by_content None = refl
    by_content (Some c) = ap (λ i. let a : SlotRow = record { page = s.page; copy = Some (record { version = c.version + 1; bytes = i; dirty = dirty }); pins = s.pins } in a) h

pub over_row : (images now : List (List ℕ)) (k : ℕ) (x : PrivateUse) (place : ℕ) (bytes : List ℕ) → image_at now k ≡ put place bytes (image_at images k)
    → private_row now k x ≡ (let y : PrivateCopy = private_row images k x in record y { bytes = over_filled place bytes y.bytes })
over_row images now k x place bytes h = by_filled x.filled
  where
    by_filled : (b : Bool) → (let a : PrivateCopy = record { tx = x.tx; page = x.page; bytes = if_filled b (image_at now k) } in a) ≡ (let y : PrivateCopy = record { tx = x.tx; page = x.page; bytes = over_filled place bytes (if_filled b (image_at images k)) } in y)
    by_filled true = ap (λ i. let a : PrivateCopy = record { tx = x.tx; page = x.page; bytes = Some i } in a) h
    by_filled false = refl

pub private_seen_bytes : (v : ImagesView) (es : Entries) (now : Pool) (t : TxId) (p k : ℕ) (x : PrivateUse) → pool_of v es ≡ now → IsTable es → Some (k, x) ≡ first_row (private_here t p) es → private_bytes now t p ≡ if_filled x.filled (image_at v.images k)
private_seen_bytes v es now t p k x q s r = ap bytes_of (private_now v es now t p (Some (k, x)) q s r)
  where
    bytes_of : Option PrivateCopy → Option (List ℕ)
    bytes_of None = None
    bytes_of (Some y) = y.bytes

-- the images after a write to one of them
pub sound_written : (v new : ImagesView) (es : Entries) (k : ℕ) (bytes : List ℕ) → IsSound v es → new ≡ record v { images = set v.images k bytes } → IsSized new → IsSound new es
sound_written v new es k bytes s q z = record {
  table = s.table;
  many = ap (λ (w : ImagesView). length w.images) q ∙ length-set v.images k bytes ∙ s.many;
  sized = z;
}

pub dirty_row : (images : List (List ℕ)) (k : ℕ) (s : SlotUse) → is_dirty_content s.content ≡ is_dirty_copy (copy_seen (image_at images k) s.content)
dirty_row images k s = by_content s.content
  where
    by_content : (o : Option Content) → is_dirty_content o ≡ is_dirty_copy (copy_seen (image_at images k) o)
    by_content None = refl
    by_content (Some c) = refl

pub slot_there : (images : List (List ℕ)) (o : Option (ℕ × SlotUse)) → is_some o ≡ is_some (found_slot images o)
slot_there images None = refl
slot_there images (Some r) = refl

pub private_there : (images : List (List ℕ)) (o : Option (ℕ × PrivateUse)) → is_some o ≡ is_some (found_private images o)
private_there images None = refl
private_there images (Some r) = refl

pub content_below : (i : List ℕ) (o : Option Content) → IfSome (version_of_copy (copy_seen i o)) (λ v. v < 18446744073709551615) → IfSome o (λ c. c.version < 18446744073709551615)
content_below i None h = tt
content_below i (Some c) h = h

fresh_slots : (images : List (List ℕ)) (n : ℕ) → slots_of images (fresh n) ≡ []
unfolding fresh rows
fresh_slots images zero = refl
fresh_slots images (suc n) = fresh_slots images n

fresh_privates : (images : List (List ℕ)) (n : ℕ) → privates_of images (fresh n) ≡ []
unfolding fresh rows_back
fresh_privates images zero = refl
fresh_privates images (suc n) = ap (λ l. l ++ []) (fresh_privates images n)

pub opened_pool : (v : ImagesView) (es : Entries) (frames size : ℕ) → es ≡ fresh frames → v.size ≡ size → pool_of v es ≡ open_pool frames size
opened_pool v es frames size q z =
    ap (pool_of v) q
    ∙ pool_made (length (fresh frames)) frames v.size (slots_of v.images (fresh frames)) [] (privates_of v.images (fresh frames)) [] (fresh_length frames) (fresh_slots v.images frames) (fresh_privates v.images frames)
    ∙ ap (λ n. open_pool frames n) z

pub frames_apart : (es : Entries) (j k : ℕ) (x : PrivateUse) (s : SlotUse) → use_at es j ≡ Some (Private x) → use_at es k ≡ Some (Slot s) → nat_eq j k ≡ false
frames_apart es j k x s h g = by_case (nat_eq j k) refl
  where
    by_case : (b : Bool) → nat_eq j k ≡ b → nat_eq j k ≡ false
    by_case true t =
        let q : use_at es j ≡ Some (Slot s) = subst (λ n. use_at es n ≡ Some (Slot s)) (sym (equal j k t)) g in
        let bad : Some (Private x) ≡ Some (Slot s) = sym h ∙ q in
        cc
    by_case false t = t
