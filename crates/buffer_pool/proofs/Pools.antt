-- What each change of the table and the images makes of the pool that is seen.
use Rattle.std.proofs.Common.{◌≡◌, ℕ, ◌+◌, ◌-◌, ◌<◌, ◌≤◌, ◌≢◌, ◌==◌, nat_eq, Bool, true, false, List, [], ◌∷◌, ◌++◌, length, map, set, Option, Some, None, is_some, refl, ap, sym, ◌∙◌, arith, append-nil}
use Rattle.std.proofs.lemmas.Bool.Decides.{nat_tests}
use Rattle.std.proofs.lemmas.List.{get_or-set_same, get_or-set_other, drop_all}
use Rattle.std.proofs.lemmas.Map.{length-set_value}
use Rattle.std.specs.Map.{set_value, remove_entry}
use Rattle.lru.specs.LruCache.{promoted}
use Rattle.text_rules.specs.ChangedRanges.{put}
use Rattle.pcl_base.specs.declared.tx.TxId.{TxId}
use Rattle.node_rules.specs.Words.{pick}
use Rattle.node_rules.specs.BufferRule.{Pool, Slot as SlotRow, PrivateCopy, slot_at, private_at, has_slot, has_private, change_slot, change_private, slots_without, free_places, place, private, touch, evict, discard, in_front}
use Rattle.buffer_pool.specs.declared.uses.Use.{Use}
use Rattle.buffer_pool.specs.declared.uses.Use.TheVariants.{Free, Slot, Private}
use Rattle.buffer_pool.specs.declared.uses.SlotUse.{SlotUse}
use Rattle.buffer_pool.specs.declared.uses.PrivateUse.{PrivateUse}
use Rattle.buffer_pool.specs.Entries.{Entries, IsTable, TakesFree, rows, rows_back, first_row, count, is_free, is_bare, is_private_of, slot_here, private_here, freed, use_at}
use Rattle.buffer_pool.specs.Images.{ImagesView, IsSized}
use Rattle.buffer_pool.specs.Seen.{IsSound, pool_of, image_at, slot_of_use, slot_seen, private_of_use, private_seen}
use Rattle.buffer_pool.proofs.Entries.{each_at, length_removed, promoted_found}
use Rattle.buffer_pool.proofs.Rows.{slots_of, slot_row, found_slot, slot_in_rows, slot_use, rows_set, back_set, rows_removed, back_removed, rows_emptied, back_emptied, slots_changed, slots_taken}
use Rattle.buffer_pool.proofs.Privates.{privates_of, private_row, found_private, private_in_rows, private_use, privates_changed, privates_taken, without_private}
use Rattle.buffer_pool.proofs.Totals.{total, places_freed, privates_freed, places_kept, length_freed}

-- what is found
pub slot_now : (v : ImagesView) (es : Entries) (now : Pool) (p : ℕ) (o : Option (ℕ × SlotUse)) → pool_of v es ≡ now → o ≡ first_row (slot_here p) es → slot_at now p ≡ found_slot v.images o
slot_now v es now p o q r = ap (λ b. slot_at b p) (sym q) ∙ slot_in_rows v.images p es ∙ ap (found_slot v.images) (sym r)

pub private_now : (v : ImagesView) (es : Entries) (now : Pool) (t : TxId) (p : ℕ) (o : Option (ℕ × PrivateUse)) → pool_of v es ≡ now → IsTable es → o ≡ first_row (private_here t p) es → private_at now t p ≡ found_private v.images o
private_now v es now t p o q s r = ap (λ b. private_at b t p) (sym q) ∙ private_in_rows v.images t p es (s.one_private t p) ∙ ap (found_private v.images) (sym r)

pub no_slot : (v : ImagesView) (es : Entries) (now : Pool) (p : ℕ) → pool_of v es ≡ now → None ≡ first_row (slot_here p) es → has_slot now p ≡ true → ⊥
no_slot v es now p q r h = let bad : true ≡ false = sym h ∙ ap is_some (slot_now v es now p None q r) in cc

pub no_private : (v : ImagesView) (es : Entries) (now : Pool) (t : TxId) (p : ℕ) → pool_of v es ≡ now → IsTable es → None ≡ first_row (private_here t p) es → has_private now t p ≡ true → ⊥
no_private v es now t p q s r h = let bad : true ≡ false = sym h ∙ ap is_some (private_now v es now t p None q s r) in cc

pub new_slot : (v : ImagesView) (es : Entries) (now : Pool) (p : ℕ) → pool_of v es ≡ now → has_slot now p ≡ false → first_row (slot_here p) es ≡ None
new_slot v es now p q h = by_row (first_row (slot_here p) es) refl
  where
    by_row : (o : Option (ℕ × SlotUse)) → first_row (slot_here p) es ≡ o → first_row (slot_here p) es ≡ None
    by_row None r = r
    by_row (Some x) r = let bad : true ≡ false = sym (ap is_some (slot_now v es now p (Some x) q (sym r))) ∙ h in cc

pub new_private : (v : ImagesView) (es : Entries) (now : Pool) (t : TxId) (p : ℕ) → pool_of v es ≡ now → IsTable es → has_private now t p ≡ false → first_row (private_here t p) es ≡ None
new_private v es now t p q s h = by_row (first_row (private_here t p) es) refl
  where
    by_row : (o : Option (ℕ × PrivateUse)) → first_row (private_here t p) es ≡ o → first_row (private_here t p) es ≡ None
    by_row None r = r
    by_row (Some x) r = let bad : true ≡ false = sym (ap is_some (private_now v es now t p (Some x) q s (sym r))) ∙ h in cc

-- there is room where frames are free
pub some_free : (v : ImagesView) (es : Entries) (now : Pool) → pool_of v es ≡ now → now.frames - (length now.slots + length now.privates) ≡ count is_free es
some_free v es now q = ap (λ (b : Pool). b.frames - (length b.slots + length b.privates)) (sym q) ∙ omega (arith, total v.images es)

-- the table changes, the images stay as many
pub sound_table : (v : ImagesView) (es new : Entries) → IsSound v es → IsTable new → length new ≡ length es → IsSound v new
sound_table v es new s t l = record { table = t; many = s.many ∙ sym l; sized = s.sized }

pub sound_images : (v : ImagesView) (es : Entries) (images : List (List ℕ)) → IsSound v es → IsSized (record v { images = images }) → length images ≡ length v.images → IsSound (record v { images = images }) es
sound_images v es images s z l = record { table = s.table; many = l ∙ s.many; sized = z }

pub below_images : (v : ImagesView) (es : Entries) (k : ℕ) (u : Use) → IsSound v es → use_at es k ≡ Some u → k < length v.images
below_images v es k u s h = omega (arith, s.many, each_at (λ e. e.0 < length es) k u es s.table.below h)

-- an image is written
pub image_other : (images : List (List ℕ)) (k j : ℕ) (bytes : List ℕ) → nat_eq k j ≡ false → image_at (set images k bytes) j ≡ image_at images j
image_other images k j bytes h =
    let other : j ≢ k = λ q. (let s : nat_eq k j ≡ true = grind (arith, nat_tests) in let bad : true ≡ false = sym s ∙ h in cc) in
    rw get_or-set_other refl

pub image_same : (images : List (List ℕ)) (k : ℕ) (bytes : List ℕ) → k < length images → image_at (set images k bytes) k ≡ bytes
image_same images k bytes h = rw get_or-set_same refl

pub put_all : (bytes old : List ℕ) → length old ≡ length bytes → put 0 bytes old ≡ bytes
put_all bytes old h =
    let long : length old ≤ 0 + length bytes = omega arith in
    ap (λ r. bytes ++ r) (drop_all (0 + length bytes) old long) ∙ append-nil bytes

pub pool_made : (f g size : ℕ) (xs ys : List SlotRow) (us ws : List PrivateCopy) → f ≡ g → xs ≡ ys → us ≡ ws
    → (let a : Pool = record { frames = f; size = size; slots = xs; privates = us } in a) ≡ (let b : Pool = record { frames = g; size = size; slots = ys; privates = ws } in b)
pool_made f g size xs ys us ws q r s =
    ap (λ n. let a : Pool = record { frames = n; size = size; slots = xs; privates = us } in a) q
    ∙ ap (λ l. let a : Pool = record { frames = g; size = size; slots = l; privates = us } in a) r
    ∙ ap (λ l. let a : Pool = record { frames = g; size = size; slots = ys; privates = l } in a) s

-- a slot changes, perhaps with its image
pub slot_changed : (v : ImagesView) (now : List (List ℕ)) (es : Entries) (k p : ℕ) (s w : SlotUse) (f : SlotRow → SlotRow) → IsTable es
    → ((j : ℕ) → nat_eq k j ≡ false → image_at now j ≡ image_at v.images j) → first_row (slot_here p) es ≡ Some (k, s) → slot_row now k w ≡ f (slot_row v.images k s)
    → pool_of (record v { images = now }) (set_value (nat_eq k) es (Slot w)) ≡ (let b : Pool = pool_of v es in record b { slots = change_slot f b.slots p })
slot_changed v now es k p s w f t a r h =
    let found = slot_use p k s es t.distinct r in
    pool_made (length (set_value (nat_eq k) es (Slot w))) (length es) v.size (slots_of now (set_value (nat_eq k) es (Slot w))) (change_slot f (slots_of v.images es) p) (privates_of now (set_value (nat_eq k) es (Slot w))) (privates_of v.images es)
    (length-set_value (nat_eq k) es (Slot w))
    (slots_changed f v.images now k p s w es a t.distinct (t.one_slot p) found.0 found.1 h)
    (back_set (private_seen v.images) (private_seen now) k (Slot s) (Slot w) es (λ e n. ap (λ i. private_of_use i e.1) (a e.0 n)) t.distinct found.0 refl)

-- a private copy changes, perhaps with its image
pub private_changed : (v : ImagesView) (now : List (List ℕ)) (es : Entries) (k : ℕ) (t : TxId) (p : ℕ) (x w : PrivateUse) (f : Option (List ℕ) → Option (List ℕ)) → IsTable es
    → ((j : ℕ) → nat_eq k j ≡ false → image_at now j ≡ image_at v.images j) → first_row (private_here t p) es ≡ Some (k, x) → private_row now k w ≡ (let y : PrivateCopy = private_row v.images k x in record y { bytes = f y.bytes })
    → pool_of (record v { images = now }) (set_value (nat_eq k) es (Private w)) ≡ (let b : Pool = pool_of v es in record b { privates = change_private f b.privates t p })
private_changed v now es k t p x w f s a r h =
    let found = private_use t p k x es s.distinct r in
    pool_made (length (set_value (nat_eq k) es (Private w))) (length es) v.size (slots_of now (set_value (nat_eq k) es (Private w))) (slots_of v.images es) (privates_of now (set_value (nat_eq k) es (Private w))) (change_private f (privates_of v.images es) t p)
    (length-set_value (nat_eq k) es (Private w))
    (rows_set (slot_seen v.images) (slot_seen now) k (Private x) (Private w) es (λ e n. ap (λ i. slot_of_use i e.1) (a e.0 n)) s.distinct found.0 refl)
    (privates_changed f v.images now k t p x w es a s.distinct (s.one_private t p) found.0 found.1 h)

-- a slot leaves, or moves to the front
pub slot_released : (v : ImagesView) (es : Entries) (k p : ℕ) (s : SlotUse) → IsTable es → first_row (slot_here p) es ≡ Some (k, s) → pool_of v (set_value (nat_eq k) es Free) ≡ evict (pool_of v es) p
unfolding evict
slot_released v es k p s t r =
    let found = slot_use p k s es t.distinct r in
    pool_made (length (set_value (nat_eq k) es Free)) (length es) v.size (slots_of v.images (set_value (nat_eq k) es Free)) (slots_without (slots_of v.images es) p) (privates_of v.images (set_value (nat_eq k) es Free)) (privates_of v.images es)
    (length-set_value (nat_eq k) es Free)
    (rows_emptied (slot_seen v.images) k Free es (λ j. refl) ∙ slots_taken v.images k p s es t.distinct (t.one_slot p) found.0 found.1)
    (back_set (private_seen v.images) (private_seen v.images) k (Slot s) Free es (λ e n. refl) t.distinct found.0 refl)

pub private_released : (v : ImagesView) (es : Entries) (k : ℕ) (t : TxId) (p : ℕ) (x : PrivateUse) → IsTable es → use_at es k ≡ Some (Private x) → is_private_of t p (Private x) ≡ true → pool_of v (set_value (nat_eq k) es Free) ≡ discard (pool_of v es) t p
unfolding discard
private_released v es k t p x s u o =
    pool_made (length (set_value (nat_eq k) es Free)) (length es) v.size (slots_of v.images (set_value (nat_eq k) es Free)) (slots_of v.images es) (privates_of v.images (set_value (nat_eq k) es Free)) (without_private t p (privates_of v.images es))
    (length-set_value (nat_eq k) es Free)
    (rows_set (slot_seen v.images) (slot_seen v.images) k (Private x) Free es (λ e n. refl) s.distinct u refl)
    (back_emptied (private_seen v.images) k Free es (λ j. refl) ∙ privates_taken v.images k t p x es s.distinct (s.one_private t p) u o)

pub length_promoted : (k : ℕ) (u : Use) (es : Entries) → use_at es k ≡ Some u → length (promoted (nat_eq k) es) ≡ length es
length_promoted k u es h = ap length (promoted_found k u es h) ∙ omega (arith, length_removed k u es h)

pub slot_touched : (v : ImagesView) (es : Entries) (k p : ℕ) (s : SlotUse) → IsTable es → first_row (slot_here p) es ≡ Some (k, s) → pool_of v (promoted (nat_eq k) es) ≡ touch (pool_of v es) p
unfolding touch rows rows_back
slot_touched v es k p s t r =
    let found = slot_use p k s es t.distinct r in
    let front : slot_at (pool_of v es) p ≡ Some (slot_row v.images k s) = slot_now v es (pool_of v es) p (Some (k, s)) refl (sym r) in
    let new : Entries = (k, Slot s) ∷ remove_entry (nat_eq k) es in
    ap (pool_of v) (promoted_found k (Slot s) es found.0)
    ∙ pool_made (length new) (length es) v.size (slots_of v.images new) (in_front (slot_at (pool_of v es) p) (slots_of v.images es)) (privates_of v.images new) (privates_of v.images es)
    (omega (arith, length_removed k (Slot s) es found.0))
    (ap (λ l. slot_row v.images k s ∷ l) (slots_taken v.images k s.page s es t.distinct (t.one_slot s.page) found.0 refl) ∙ ap (λ o. in_front o (slots_of v.images es)) (sym front))
    (append-nil (privates_of v.images (remove_entry (nat_eq k) es)) ∙ back_removed (private_seen v.images) k (Slot s) es found.0 refl)

-- a free frame comes into use
pub length_taken : (es new : Entries) (u : Use) → TakesFree es u new → length new ≡ length es
length_taken es new u h = ap length h.2 ∙ omega (arith, length_removed h.0 Free es h.1)

pub slot_placed : (v : ImagesView) (es new : Entries) (p : ℕ) → TakesFree es (Slot (record { page = p; content = None; pins = 0 })) new → pool_of v new ≡ place (pool_of v es) p
unfolding place rows rows_back
slot_placed v es new p h =
    let first : Use = Slot (record { page = p; content = None; pins = 0 }) in
    let front : Entries = (h.0, first) ∷ remove_entry (nat_eq h.0) es in
    let row : SlotRow = record { page = p; copy = None; pins = 0 } in
    ap (pool_of v) h.2
    ∙ pool_made (length front) (length es) v.size (slots_of v.images front) (row ∷ slots_of v.images es) (privates_of v.images front) (privates_of v.images es)
    (omega (arith, length_removed h.0 Free es h.1))
    (ap (λ l. row ∷ l) (rows_removed (slot_seen v.images) h.0 Free es h.1 refl))
    (append-nil (privates_of v.images (remove_entry (nat_eq h.0) es)) ∙ back_removed (private_seen v.images) h.0 Free es h.1 refl)

pub private_made : (v : ImagesView) (es new : Entries) (t : TxId) (p : ℕ) → TakesFree es (Private (record { tx = t; page = p; filled = false })) new → pool_of v new ≡ private (pool_of v es) t p
unfolding private rows rows_back
private_made v es new t p h =
    let first : Use = Private (record { tx = t; page = p; filled = false }) in
    let front : Entries = (h.0, first) ∷ remove_entry (nat_eq h.0) es in
    let row : PrivateCopy = record { tx = t; page = p; bytes = None } in
    ap (pool_of v) h.2
    ∙ pool_made (length front) (length es) v.size (slots_of v.images front) (slots_of v.images es) (privates_of v.images front) (privates_of v.images es ++ row ∷ [])
    (omega (arith, length_removed h.0 Free es h.1))
    (rows_removed (slot_seen v.images) h.0 Free es h.1 refl)
    (ap (λ l. l ++ row ∷ []) (back_removed (private_seen v.images) h.0 Free es h.1 refl))

-- places without a pin are freed
pub places_gone : (v : ImagesView) (es : Entries) → pool_of v (map freed es) ≡ (let b : Pool = pool_of v es in record b { slots = free_places b.slots })
places_gone v es =
    pool_made (length (map freed es)) (length es) v.size (slots_of v.images (map freed es)) (free_places (slots_of v.images es)) (privates_of v.images (map freed es)) (privates_of v.images es) (length_freed es) (places_freed v.images es) (privates_freed v.images es)

pub places_stay : (v : ImagesView) (es : Entries) → count is_bare es ≡ 0 → pool_of v es ≡ (let b : Pool = pool_of v es in record b { slots = free_places b.slots })
places_stay v es z = pool_made (length es) (length es) v.size (slots_of v.images es) (free_places (slots_of v.images es)) (privates_of v.images es) (privates_of v.images es) refl (places_kept v.images es z) refl

-- a change that changes nothing
pub change_same : (f : SlotRow → SlotRow) → ((s : SlotRow) → f s ≡ s) → (ss : List SlotRow) (p : ℕ) → change_slot f ss p ≡ ss
unfolding change_slot
change_same f h [] p = refl
change_same f h (s ∷ ss) p = one (s.page == p) ∙ ap (λ l. s ∷ l) (change_same f h ss p)
  where
    one : (b : Bool) → pick b (f s) s ∷ change_slot f ss p ≡ s ∷ change_slot f ss p
    one true = ap (λ x. x ∷ change_slot f ss p) (h s)
    one false = refl
