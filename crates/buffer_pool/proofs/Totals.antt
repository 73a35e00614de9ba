-- How many slots and private copies there are, which slots can go, and what holds of every buffer.
use Rattle.std.proofs.Common.{◌≡◌, ℕ, suc, ◌+◌, ◌<◌, ◌≤◌, ◌==◌, ◌&&◌, ◌||◌, cond, not, Bool, true, false, List, [], ◌∷◌, ◌++◌, length, map, Option, Some, None, is_some, IfSome, refl, ap, sym, subst, ◌∙◌, arith, length-append, append-nil}
use Rattle.std.specs.Prelude.{option_map}
use Rattle.std.specs.List.{AllByRecursion, filter}
use Rattle.std.proofs.lemmas.List.Elements.{All-from_recursion}
use Rattle.pcl_base.specs.declared.tx.TxId.{TxId}
use Rattle.node_rules.specs.Words.{or_else, pick}
use Rattle.node_rules.specs.BufferRule.{Slot as SlotRow, PrivateCopy, is_private, may_go, last_to_go, is_kept, free_places}
use Rattle.buffer_pool.specs.declared.uses.Use.{Use}
use Rattle.buffer_pool.specs.declared.uses.Use.TheVariants.{Free, Slot, Private}
use Rattle.buffer_pool.specs.declared.uses.Content.{Content}
use Rattle.buffer_pool.specs.declared.uses.SlotUse.{SlotUse}
use Rattle.buffer_pool.specs.Buffer.{IsBuffer}
use Rattle.buffer_pool.specs.Entries.{Entries, with_item, item_list, rows, rows_back, last_row, count, is_free, is_bare, is_slot_of, is_private_of, goes_for, page_in_use, page_if, page_to_go, freed, freed_if}
use Rattle.buffer_pool.specs.Images.{ImagesView, IsSized}
use Rattle.buffer_pool.specs.Seen.{IsSound, pool_of, image_at, copy_seen, slot_of_use, if_filled, private_of_use}
use Rattle.buffer_pool.proofs.Changes.{all_push}
use Rattle.buffer_pool.proofs.Rows.{slots_of}
use Rattle.buffer_pool.proofs.Privates.{privates_of}

-- each frame is free, a slot or a private copy
pub total : (images : List (List ℕ)) (es : Entries) → length (slots_of images es) + length (privates_of images es) + count is_free es ≡ length es
unfolding rows rows_back count
total images [] = refl
total images (e ∷ es) = step (image_at images e.0) e.1 (total images es)
  where
    step : (i : List ℕ) (u : Use) → length (slots_of images es) + length (privates_of images es) + count is_free es ≡ length es
        → length (with_item (slot_of_use i u) (slots_of images es)) + length (privates_of images es ++ item_list (private_of_use i u)) + (cond (is_free u) 1 0 + count is_free es) ≡ length (e ∷ es)
    step i Free ih = omega (arith, length-append (privates_of images es) [])
    step i (Slot s) ih = omega (arith, length-append (privates_of images es) [])
    step i (Private x) ih = let y : PrivateCopy = record { tx = x.tx; page = x.page; bytes = if_filled x.filled i } in omega (arith, length-append (privates_of images es) (y ∷ []))

not_not : (b : Bool) → not (not b) ≡ b
not_not true = refl
not_not false = refl

-- the slots that can go
pub goes : (keep : ℕ) (images : List (List ℕ)) (es : Entries) → length (filter (may_go keep) (slots_of images es)) ≡ count (goes_for keep) es
unfolding rows count
goes keep images [] = refl
goes keep images (e ∷ es) = step (image_at images e.0) e.1 (goes keep images es)
  where
    step : (i : List ℕ) (u : Use) → length (filter (may_go keep) (slots_of images es)) ≡ count (goes_for keep) es
        → length (filter (may_go keep) (with_item (slot_of_use i u) (slots_of images es))) ≡ cond (goes_for keep u) 1 0 + count (goes_for keep) es
    step i Free ih = omega (arith, ih)
    step i (Private x) ih = omega (arith, ih)
    step i (Slot s) ih = by_test (not (s.page == keep)) (s.pins == 0) (not (s.pins == 0)) refl
      where
        by_test : (a b c : Bool) → c ≡ not b → length (cond (a && not c) (record { page = s.page; copy = copy_seen i s.content; pins = s.pins } ∷ filter (may_go keep) (slots_of images es)) (filter (may_go keep) (slots_of images es))) ≡ cond (a && b) 1 0 + count (goes_for keep) es
        by_test a true true q = cc
        by_test a false false q = cc
        by_test true true false q = omega (arith, ih)
        by_test true false true q = omega (arith, ih)
        by_test false true false q = omega (arith, ih)
        by_test false false true q = omega (arith, ih)

pub last_goes : (keep : ℕ) (images : List (List ℕ)) (es : Entries) → option_map (λ s. s.page) (last_to_go (slots_of images es) keep) ≡ last_row (page_to_go keep) es
unfolding rows last_row last_to_go
last_goes keep images [] = refl
last_goes keep images (e ∷ es) = step (image_at images e.0) e.1 (last_goes keep images es)
  where
    none : (o : Option ℕ) → o ≡ or_else o None
    none None = refl
    none (Some x) = refl

    step : (i : List ℕ) (u : Use) → option_map (λ s. s.page) (last_to_go (slots_of images es) keep) ≡ last_row (page_to_go keep) es
        → option_map (λ s. s.page) (last_to_go (with_item (slot_of_use i u) (slots_of images es)) keep) ≡ or_else (last_row (page_to_go keep) es) (page_in_use keep u)
    step i Free ih = ih ∙ none (last_row (page_to_go keep) es)
    step i (Private x) ih = ih ∙ none (last_row (page_to_go keep) es)
    step i (Slot s) ih = by_last (last_to_go (slots_of images es) keep) ih
      where
        by_test : (a b c : Bool) → c ≡ not b → option_map (λ y. y.page) (pick (a && not c) (Some (let y : SlotRow = record { page = s.page; copy = copy_seen i s.content; pins = s.pins } in y)) None) ≡ page_if (a && b) s.page
        by_test a true true q = cc
        by_test a false false q = cc
        by_test true true false q = refl
        by_test true false true q = refl
        by_test false true false q = refl
        by_test false false true q = refl

        by_last : (o : Option SlotRow) → option_map (λ y. y.page) o ≡ last_row (page_to_go keep) es
            → option_map (λ y. y.page) (or_else o (pick (not (s.page == keep) && not (not (s.pins == 0))) (Some (let y : SlotRow = record { page = s.page; copy = copy_seen i s.content; pins = s.pins } in y)) None)) ≡ or_else (last_row (page_to_go keep) es) (page_if (not (s.page == keep) && (s.pins == 0)) s.page)
        by_last None q = by_test (not (s.page == keep)) (s.pins == 0) (not (s.pins == 0)) refl ∙ ap (λ o. or_else o (page_if (not (s.page == keep) && (s.pins == 0)) s.page)) q
        by_last (Some y) q = ap (λ o. or_else o (page_if (not (s.page == keep) && (s.pins == 0)) s.page)) q

-- places without a pin are freed
kept_test : (i : List ℕ) (s : SlotUse) → is_kept (let y : SlotRow = record { page = s.page; copy = copy_seen i s.content; pins = s.pins } in y) ≡ not (is_bare (Slot s))
kept_test i s = by_content s.content (s.pins == 0)
  where
    by_content : (o : Option Content) (b : Bool) → (is_some (copy_seen i o) || not b) ≡ not (not (is_some o) && b)
    by_content None true = refl
    by_content None false = refl
    by_content (Some c) true = refl
    by_content (Some c) false = refl

pub places_freed : (images : List (List ℕ)) (es : Entries) → slots_of images (map freed es) ≡ free_places (slots_of images es)
unfolding rows
places_freed images [] = refl
places_freed images (e ∷ es) = step (image_at images e.0) e.1 (places_freed images es)
  where
    step : (i : List ℕ) (u : Use) → slots_of images (map freed es) ≡ free_places (slots_of images es)
        → with_item (slot_of_use i (freed_if (is_bare u) u)) (slots_of images (map freed es)) ≡ free_places (with_item (slot_of_use i u) (slots_of images es))
    step i Free ih = ih
    step i (Private x) ih = ih
    step i (Slot s) ih = rw (kept_test i s) (by_bare (is_bare (Slot s)))
      where
        by_bare : (b : Bool) → with_item (slot_of_use i (freed_if b (Slot s))) (slots_of images (map freed es)) ≡ cond (not b) (record { page = s.page; copy = copy_seen i s.content; pins = s.pins } ∷ free_places (slots_of images es)) (free_places (slots_of images es))
        by_bare true = ih
        by_bare false = ap (λ l. record { page = s.page; copy = copy_seen i s.content; pins = s.pins } ∷ l) ih

pub privates_freed : (images : List (List ℕ)) (es : Entries) → privates_of images (map freed es) ≡ privates_of images es
unfolding rows_back
privates_freed images [] = refl
privates_freed images (e ∷ es) = step (image_at images e.0) e.1 (privates_freed images es)
  where
    step : (i : List ℕ) (u : Use) → privates_of images (map freed es) ≡ privates_of images es
        → privates_of images (map freed es) ++ item_list (private_of_use i (freed_if (is_bare u) u)) ≡ privates_of images es ++ item_list (private_of_use i u)
    step i Free ih = ap (λ l. l ++ []) ih
    step i (Private x) ih = ap (λ l. l ++ item_list (private_of_use i (Private x))) ih
    step i (Slot s) ih = by_bare (is_bare (Slot s))
      where
        by_bare : (b : Bool) → privates_of images (map freed es) ++ item_list (private_of_use i (freed_if b (Slot s))) ≡ privates_of images es ++ []
        by_bare true = ap (λ l. l ++ []) ih
        by_bare false = ap (λ l. l ++ []) ih

pub length_freed : (es : Entries) → length (map freed es) ≡ length es
length_freed [] = refl
length_freed (e ∷ es) = ap (λ n. suc n) (length_freed es)

pub places_kept : (images : List (List ℕ)) (es : Entries) → count is_bare es ≡ 0 → slots_of images es ≡ free_places (slots_of images es)
unfolding rows count
places_kept images [] z = refl
places_kept images (e ∷ es) z = step (image_at images e.0) e.1 z (places_kept images es)
  where
    step : (i : List ℕ) (u : Use) → cond (is_bare u) 1 0 + count is_bare es ≡ 0 → (count is_bare es ≡ 0 → slots_of images es ≡ free_places (slots_of images es))
        → with_item (slot_of_use i u) (slots_of images es) ≡ free_places (with_item (slot_of_use i u) (slots_of images es))
    step i Free n ih = ih (omega (arith, n))
    step i (Private x) n ih = ih (omega (arith, n))
    step i (Slot s) n ih = rw (kept_test i s) (by_bare (is_bare (Slot s)) n)
      where
        by_bare : (b : Bool) → cond b 1 0 + count is_bare es ≡ 0 → record { page = s.page; copy = copy_seen i s.content; pins = s.pins } ∷ slots_of images es ≡ cond (not b) (record { page = s.page; copy = copy_seen i s.content; pins = s.pins } ∷ free_places (slots_of images es)) (free_places (slots_of images es))
        by_bare true m = absurd (omega arith)
        by_bare false m = ap (λ l. record { page = s.page; copy = copy_seen i s.content; pins = s.pins } ∷ l) (ih (omega arith))

-- a page has one slot, and a transaction one private copy of a page
one_slot_of : (p : ℕ) (images : List (List ℕ)) (es : Entries) → length (filter (λ s. s.page == p) (slots_of images es)) ≡ count (is_slot_of p) es
unfolding rows count
one_slot_of p images [] = refl
one_slot_of p images (e ∷ es) = step (image_at images e.0) e.1 (one_slot_of p images es)
  where
    step : (i : List ℕ) (u : Use) → length (filter (λ s. s.page == p) (slots_of images es)) ≡ count (is_slot_of p) es
        → length (filter (λ s. s.page == p) (with_item (slot_of_use i u) (slots_of images es))) ≡ cond (is_slot_of p u) 1 0 + count (is_slot_of p) es
    step i Free ih = omega (arith, ih)
    step i (Private x) ih = omega (arith, ih)
    step i (Slot s) ih = by_test (s.page == p)
      where
        by_test : (a : Bool) → length (cond a (record { page = s.page; copy = copy_seen i s.content; pins = s.pins } ∷ filter (λ y. y.page == p) (slots_of images es)) (filter (λ y. y.page == p) (slots_of images es))) ≡ cond a 1 0 + count (is_slot_of p) es
        by_test true = omega (arith, ih)
        by_test false = omega (arith, ih)

owned : TxId → ℕ → List PrivateCopy → ℕ
owned t p xs = length (filter (is_private t p) xs)

owned_push : (t : TxId) (p : ℕ) (xs : List PrivateCopy) (x : PrivateCopy) → owned t p (xs ++ x ∷ []) ≡ cond (is_private t p x) 1 0 + owned t p xs
unfolding owned
owned_push t p [] x = by_test (is_private t p x)
  where
    by_test : (a : Bool) → length (cond a (x ∷ []) []) ≡ cond a 1 0 + 0
    by_test true = refl
    by_test false = refl
owned_push t p (y ∷ xs) x = by_test (is_private t p y) (owned_push t p xs x)
  where
    by_test : (a : Bool) → length (filter (is_private t p) (xs ++ x ∷ [])) ≡ cond (is_private t p x) 1 0 + length (filter (is_private t p) xs)
        → length (cond a (y ∷ filter (is_private t p) (xs ++ x ∷ [])) (filter (is_private t p) (xs ++ x ∷ []))) ≡ cond (is_private t p x) 1 0 + length (cond a (y ∷ filter (is_private t p) xs) (filter (is_private t p) xs))
    by_test true ih = omega (arith, ih)
    by_test false ih = ih

one_private_of : (t : TxId) (p : ℕ) (images : List (List ℕ)) (es : Entries) → owned t p (privates_of images es) ≡ count (is_private_of t p) es
unfolding rows_back count owned
one_private_of t p images [] = refl
one_private_of t p images (e ∷ es) = step (image_at images e.0) e.1 (one_private_of t p images es)
  where
    nothing : (xs : List PrivateCopy) → owned t p (xs ++ []) ≡ owned t p xs
    nothing xs = ap (owned t p) (append-nil xs)

    step : (i : List ℕ) (u : Use) → owned t p (privates_of images es) ≡ count (is_private_of t p) es → owned t p (privates_of images es ++ item_list (private_of_use i u)) ≡ cond (is_private_of t p u) 1 0 + count (is_private_of t p) es
    step i Free ih = nothing (privates_of images es) ∙ ih ∙ omega arith
    step i (Slot s) ih = nothing (privates_of images es) ∙ ih ∙ omega arith
    step i (Private x) ih = owned_push t p (privates_of images es) (record { tx = x.tx; page = x.page; bytes = if_filled x.filled i }) ∙ ap (λ n. cond (is_private_of t p (Private x)) 1 0 + n) ih

-- each image has the size of a page
slots_sized : (size : ℕ) (images : List (List ℕ)) (es : Entries) → AllByRecursion (λ e. length (image_at images e.0) ≡ size) es → AllByRecursion (λ s. IfSome s.copy (λ c. length c.bytes ≡ size)) (slots_of images es)
unfolding rows
slots_sized size images [] a = tt
slots_sized size images (e ∷ es) a = step (image_at images e.0) e.1 a.0 (slots_sized size images es a.1)
  where
    step : (i : List ℕ) (u : Use) → length i ≡ size → AllByRecursion (λ s. IfSome s.copy (λ c. length c.bytes ≡ size)) (slots_of images es)
        → AllByRecursion (λ s. IfSome s.copy (λ c. length c.bytes ≡ size)) (with_item (slot_of_use i u) (slots_of images es))
    step i Free l ih = ih
    step i (Private x) l ih = ih
    step i (Slot s) l ih = (by_content s.content, ih)
      where
        by_content : (o : Option Content) → IfSome (copy_seen i o) (λ c. length c.bytes ≡ size)
        by_content None = tt
        by_content (Some c) = l

privates_sized : (size : ℕ) (images : List (List ℕ)) (es : Entries) → AllByRecursion (λ e. length (image_at images e.0) ≡ size) es → AllByRecursion (λ x. IfSome x.bytes (λ bytes. length bytes ≡ size)) (privates_of images es)
unfolding rows_back
privates_sized size images [] a = tt
privates_sized size images (e ∷ es) a = step (image_at images e.0) e.1 a.0 (privates_sized size images es a.1)
  where
    nothing : (xs : List PrivateCopy) → AllByRecursion (λ x. IfSome x.bytes (λ bytes. length bytes ≡ size)) xs → AllByRecursion (λ x. IfSome x.bytes (λ bytes. length bytes ≡ size)) (xs ++ [])
    nothing xs h = subst (AllByRecursion (λ x. IfSome x.bytes (λ bytes. length bytes ≡ size))) (sym (append-nil xs)) h

    step : (i : List ℕ) (u : Use) → length i ≡ size → AllByRecursion (λ x. IfSome x.bytes (λ bytes. length bytes ≡ size)) (privates_of images es)
        → AllByRecursion (λ x. IfSome x.bytes (λ bytes. length bytes ≡ size)) (privates_of images es ++ item_list (private_of_use i u))
    step i Free l ih = nothing (privates_of images es) ih
    step i (Slot s) l ih = nothing (privates_of images es) ih
    step i (Private x) l ih = all_push (λ y. IfSome y.bytes (λ bytes. length bytes ≡ size)) (privates_of images es) (record { tx = x.tx; page = x.page; bytes = if_filled x.filled i }) ih (by_filled x.filled)
      where
        by_filled : (b : Bool) → IfSome (if_filled b i) (λ bytes. length bytes ≡ size)
        by_filled true = l
        by_filled false = tt

images_sized : (v : ImagesView) (n : ℕ) (es : Entries) → IsSized v → n ≤ length v.images → AllByRecursion (λ e. e.0 < n) es → AllByRecursion (λ e. length (image_at v.images e.0) ≡ v.size) es
images_sized v n [] s l a = tt
images_sized v n (e ∷ es) s l a = (s e.0 [] (omega (arith, a.0)), images_sized v n es s l a.1)

pub buffer_from_sound : (v : ImagesView) (es : Entries) → IsSound v es → IsBuffer (pool_of v es)
unfolding owned
buffer_from_sound v es s =
    let sized : AllByRecursion (λ e. length (image_at v.images e.0) ≡ v.size) es = images_sized v (length es) es s.sized (omega (arith, s.many)) s.table.below in
    record {
      frames = s.table.frames;
      within = omega (arith, total v.images es);
      copies = All-from_recursion (λ y. IfSome y.copy (λ c. length c.bytes ≡ v.size)) (slots_of v.images es) (slots_sized v.size v.images es sized);
      images = All-from_recursion (λ x. IfSome x.bytes (λ bytes. length bytes ≡ v.size)) (privates_of v.images es) (privates_sized v.size v.images es sized);
      one_slot = λ p. omega (arith, one_slot_of p v.images es, s.table.one_slot p);
      one_private = λ t p. omega (arith, one_private_of t p v.images es, s.table.one_private t p);
    }

-- the image in a frame of the buffer
pub image_size : (v : ImagesView) (es : Entries) (k : ℕ) → IsSound v es → k < length es → length (image_at v.images k) ≡ v.size
image_size v es k s l = s.sized k [] (omega (arith, s.many))
