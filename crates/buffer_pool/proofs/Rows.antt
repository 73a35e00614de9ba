-- What the entries show: slots and private copies, and what a change of one frame makes of them.
use Rattle.std.proofs.Common.{◌≡◌, ℕ, ◌+◌, ◌≤◌, ◌==◌, ◌&&◌, nat_eq, cond, not, Bool, true, false, List, [], ◌∷◌, ◌++◌, Option, Some, None, refl, ap, sym, subst, ◌∙◌, arith, append-nil}
use Rattle.std.proofs.lemmas.Bool.Decides.{nat_tests}
use Rattle.std.specs.List.{filter}
use Rattle.std.specs.Map.{set_value, remove_entry}
use Rattle.pcl_base.specs.declared.tx.TxId.{TxId}
use Rattle.node_rules.specs.Words.{or_else, pick, same_tx}
use Rattle.node_rules.specs.BufferRule.{Slot as SlotRow, PrivateCopy, slot_in, private_in, change_slot, change_private, slots_without, is_private}
use Rattle.buffer_pool.specs.declared.uses.Use.{Use}
use Rattle.buffer_pool.specs.declared.uses.Use.TheVariants.{Free, Slot, Private}
use Rattle.buffer_pool.specs.declared.uses.SlotUse.{SlotUse}
use Rattle.buffer_pool.specs.declared.uses.PrivateUse.{PrivateUse}
use Rattle.buffer_pool.specs.Entries.{Entries, with_item, item_list, rows, rows_back, first_row, count, is_slot_of, is_private_of, slot_in_use, slot_here, slot_if, private_in_use, private_here, private_if, use_at}
use Rattle.buffer_pool.specs.Seen.{image_at, copy_seen, slot_of_use, slot_seen, if_filled, private_of_use, private_seen}
use Rattle.buffer_pool.proofs.Entries.{equal, same, Absent, Apart, apart_head, apart_tail, absent_as, absent_none}

-- rows of entries where two ways to see them agree
pub rows_agree : {R : Type 0} (g h : ℕ × Use → Option R) (k : ℕ) (es : Entries) → ((e : ℕ × Use) → nat_eq k e.0 ≡ false → h e ≡ g e) → Absent k es → rows h es ≡ rows g es
unfolding rows
rows_agree g h k [] a n = refl
rows_agree g h k (e ∷ es) a n = ap (λ o. with_item o (rows h es)) (a e n.0) ∙ ap (with_item (g e)) (rows_agree g h k es a n.1)

pub back_agree : {R : Type 0} (g h : ℕ × Use → Option R) (k : ℕ) (es : Entries) → ((e : ℕ × Use) → nat_eq k e.0 ≡ false → h e ≡ g e) → Absent k es → rows_back h es ≡ rows_back g es
unfolding rows_back
back_agree g h k [] a n = refl
back_agree g h k (e ∷ es) a n = ap (λ o. rows_back h es ++ item_list o) (a e n.0) ∙ ap (λ l. l ++ item_list (g e)) (back_agree g h k es a n.1)

-- one frame changes, and shows the same
pub rows_set : {R : Type 0} (g h : ℕ × Use → Option R) (k : ℕ) (u w : Use) (es : Entries) → ((e : ℕ × Use) → nat_eq k e.0 ≡ false → h e ≡ g e) → Apart es → use_at es k ≡ Some u → h (k, w) ≡ g (k, u)
    → rows h (set_value (nat_eq k) es w) ≡ rows g es
unfolding rows
rows_set g h k u w [] a d f s = cc
rows_set {R} g h k u w (e ∷ es) a d f s = by_case (nat_eq k e.0) refl (rows_set g h k u w es a (apart_tail e es d))
  where
    by_case : (b : Bool) → nat_eq k e.0 ≡ b → (use_at es k ≡ Some u → h (k, w) ≡ g (k, u) → rows h (set_value (nat_eq k) es w) ≡ rows g es) → rows h (set_value (nat_eq k) (e ∷ es) w) ≡ rows g (e ∷ es)
    by_case true t ih =
        let q : Some e.1 ≡ Some u = rw t at f in
        let v : e.1 ≡ u = cc in
        let n : k ≡ e.0 = equal k e.0 t in
        let here : h (e.0, w) ≡ g (e.0, e.1) = subst (λ j. h (j, w) ≡ g (j, e.1)) n (s ∙ ap (λ y. g (k, y)) (sym v)) in
        rw t (ap (λ o. with_item o (rows h es)) here ∙ ap (with_item (g e)) (rows_agree g h k es a (absent_as k e.0 es t (apart_head e es d))))
    by_case false t ih = rw t (ap (λ o. with_item o (rows h (set_value (nat_eq k) es w))) (a e t) ∙ ap (with_item (g e)) (ih (rw t at f) s))

pub back_set : {R : Type 0} (g h : ℕ × Use → Option R) (k : ℕ) (u w : Use) (es : Entries) → ((e : ℕ × Use) → nat_eq k e.0 ≡ false → h e ≡ g e) → Apart es → use_at es k ≡ Some u → h (k, w) ≡ g (k, u)
    → rows_back h (set_value (nat_eq k) es w) ≡ rows_back g es
unfolding rows_back
back_set g h k u w [] a d f s = cc
back_set {R} g h k u w (e ∷ es) a d f s = by_case (nat_eq k e.0) refl (back_set g h k u w es a (apart_tail e es d))
  where
    by_case : (b : Bool) → nat_eq k e.0 ≡ b → (use_at es k ≡ Some u → h (k, w) ≡ g (k, u) → rows_back h (set_value (nat_eq k) es w) ≡ rows_back g es) → rows_back h (set_value (nat_eq k) (e ∷ es) w) ≡ rows_back g (e ∷ es)
    by_case true t ih =
        let q : Some e.1 ≡ Some u = rw t at f in
        let v : e.1 ≡ u = cc in
        let n : k ≡ e.0 = equal k e.0 t in
        let here : h (e.0, w) ≡ g (e.0, e.1) = subst (λ j. h (j, w) ≡ g (j, e.1)) n (s ∙ ap (λ y. g (k, y)) (sym v)) in
        rw t (ap (λ o. rows_back h es ++ item_list o) here ∙ ap (λ l. l ++ item_list (g e)) (back_agree g h k es a (absent_as k e.0 es t (apart_head e es d))))
    by_case false t ih = rw t (ap (λ o. rows_back h (set_value (nat_eq k) es w) ++ item_list o) (a e t) ∙ ap (λ l. l ++ item_list (g e)) (ih (rw t at f) s))

-- a frame that shows nothing is taken out
pub rows_removed : {R : Type 0} (g : ℕ × Use → Option R) (k : ℕ) (u : Use) (es : Entries) → use_at es k ≡ Some u → g (k, u) ≡ None → rows g (remove_entry (nat_eq k) es) ≡ rows g es
unfolding rows
rows_removed g k u [] f s = cc
rows_removed {R} g k u (e ∷ es) f s = by_case (nat_eq k e.0) refl (rows_removed g k u es)
  where
    by_case : (b : Bool) → nat_eq k e.0 ≡ b → (use_at es k ≡ Some u → g (k, u) ≡ None → rows g (remove_entry (nat_eq k) es) ≡ rows g es) → rows g (remove_entry (nat_eq k) (e ∷ es)) ≡ rows g (e ∷ es)
    by_case true t ih =
        let q : Some e.1 ≡ Some u = rw t at f in
        let v : e.1 ≡ u = cc in
        let n : k ≡ e.0 = equal k e.0 t in
        let here : g (e.0, e.1) ≡ None = subst (λ j. g (j, e.1) ≡ None) n (ap (λ y. g (k, y)) v ∙ s) in
        rw t (sym (ap (λ o. with_item o (rows g es)) here))
    by_case false t ih = rw t (ap (with_item (g e)) (ih (rw t at f) s))

pub back_removed : {R : Type 0} (g : ℕ × Use → Option R) (k : ℕ) (u : Use) (es : Entries) → use_at es k ≡ Some u → g (k, u) ≡ None → rows_back g (remove_entry (nat_eq k) es) ≡ rows_back g es
unfolding rows_back
back_removed g k u [] f s = cc
back_removed {R} g k u (e ∷ es) f s = by_case (nat_eq k e.0) refl (back_removed g k u es)
  where
    by_case : (b : Bool) → nat_eq k e.0 ≡ b → (use_at es k ≡ Some u → g (k, u) ≡ None → rows_back g (remove_entry (nat_eq k) es) ≡ rows_back g es) → rows_back g (remove_entry (nat_eq k) (e ∷ es)) ≡ rows_back g (e ∷ es)
    by_case true t ih =
        let q : Some e.1 ≡ Some u = rw t at f in
        let v : e.1 ≡ u = cc in
        let n : k ≡ e.0 = equal k e.0 t in
        let here : g (e.0, e.1) ≡ None = subst (λ j. g (j, e.1) ≡ None) n (ap (λ y. g (k, y)) v ∙ s) in
        rw t (sym (append-nil (rows_back g es)) ∙ sym (ap (λ o. rows_back g es ++ item_list o) here))
    by_case false t ih = rw t (ap (λ l. l ++ item_list (g e)) (ih (rw t at f) s))

-- a frame that shows nothing any more
pub rows_emptied : {R : Type 0} (g : ℕ × Use → Option R) (k : ℕ) (w : Use) (es : Entries) → ((j : ℕ) → g (j, w) ≡ None) → rows g (set_value (nat_eq k) es w) ≡ rows g (remove_entry (nat_eq k) es)
unfolding rows
rows_emptied g k w [] n = refl
rows_emptied {R} g k w (e ∷ es) n = by_case (nat_eq k e.0) refl (rows_emptied g k w es n)
  where
    by_case : (b : Bool) → nat_eq k e.0 ≡ b → rows g (set_value (nat_eq k) es w) ≡ rows g (remove_entry (nat_eq k) es) → rows g (set_value (nat_eq k) (e ∷ es) w) ≡ rows g (remove_entry (nat_eq k) (e ∷ es))
    by_case true t ih = rw t (ap (λ o. with_item o (rows g es)) (n e.0))
    by_case false t ih = rw t (ap (with_item (g e)) ih)

pub back_emptied : {R : Type 0} (g : ℕ × Use → Option R) (k : ℕ) (w : Use) (es : Entries) → ((j : ℕ) → g (j, w) ≡ None) → rows_back g (set_value (nat_eq k) es w) ≡ rows_back g (remove_entry (nat_eq k) es)
unfolding rows_back
back_emptied g k w [] n = refl
back_emptied {R} g k w (e ∷ es) n = by_case (nat_eq k e.0) refl (back_emptied g k w es n)
  where
    by_case : (b : Bool) → nat_eq k e.0 ≡ b → rows_back g (set_value (nat_eq k) es w) ≡ rows_back g (remove_entry (nat_eq k) es)
        → rows_back g (set_value (nat_eq k) (e ∷ es) w) ≡ rows_back g (remove_entry (nat_eq k) (e ∷ es))
    by_case true t ih = rw t (ap (λ o. rows_back g es ++ item_list o) (n e.0) ∙ append-nil (rows_back g es))
    by_case false t ih = rw t (ap (λ l. l ++ item_list (g e)) ih)

-- a test of two pages, either way round
pub page_apart : (a b c : ℕ) → a ≡ b → (c == a) ≡ (c == b)
page_apart a b c q = ap (λ n. c == n) q

pub page_self : (a b : ℕ) → a ≡ b → (a == b) ≡ true
page_self a b q = grind (arith, nat_tests)

pub count_left : (b : Bool) (n : ℕ) → b ≡ true → cond b 1 0 + n ≤ 1 → n ≡ 0
count_left true n q l = omega arith
count_left false n q l = cc

pub count_skip : (b : Bool) (n m : ℕ) → cond b 1 0 + n ≤ m → n ≤ m
count_skip true n m l = omega arith
count_skip false n m l = omega arith

pub count_zero : (b : Bool) (n : ℕ) → cond b 1 0 + n ≡ 0 → (b ≡ false) × (n ≡ 0)
count_zero true n l = absurd (omega arith)
count_zero false n l = (refl, omega arith)

-- a frame whose use passes counts
pub counts_here : (test : Use → Bool) (k : ℕ) (u : Use) (es : Entries) → use_at es k ≡ Some u → test u ≡ true → 1 ≤ count test es
unfolding count
counts_here test k u [] f s = cc
counts_here test k u (e ∷ es) f s = by_case (nat_eq k e.0) refl (counts_here test k u es)
  where
    by_case : (b : Bool) → nat_eq k e.0 ≡ b → (use_at es k ≡ Some u → test u ≡ true → 1 ≤ count test es) → 1 ≤ cond (test e.1) 1 0 + count test es
    by_case true t ih =
        let q : Some e.1 ≡ Some u = rw t at f in
        let v : e.1 ≡ u = cc in
        let p : test e.1 ≡ true = ap test v ∙ s in
        rw p (omega arith)
    by_case false t ih = omega (arith, ih (rw t at f) s)

-- slots of which none is of a page
abbrev pub slots_of : List (List ℕ) → Entries → List SlotRow
slots_of images es = rows (slot_seen images) es

pub change_none : (f : SlotRow → SlotRow) (images : List (List ℕ)) (p : ℕ) (es : Entries) → count (is_slot_of p) es ≡ 0 → change_slot f (slots_of images es) p ≡ slots_of images es
unfolding rows count change_slot
change_none f images p [] z = refl
change_none f images p (e ∷ es) z = step e.0 e.1 (count_zero (is_slot_of p e.1) (count (is_slot_of p) es) z).0 (change_none f images p es (count_zero (is_slot_of p e.1) (count (is_slot_of p) es) z).1)
  where
    step : (k : ℕ) (u : Use) → is_slot_of p u ≡ false → change_slot f (slots_of images es) p ≡ slots_of images es
        → change_slot f (with_item (slot_of_use (image_at images k) u) (slots_of images es)) p ≡ with_item (slot_of_use (image_at images k) u) (slots_of images es)
    step k Free n ih = ih
    step k (Private x) n ih = ih
    step k (Slot s) n ih = rw n (ap (λ l. record { page = s.page; copy = copy_seen (image_at images k) s.content; pins = s.pins } ∷ l) ih)

pub without_none : (images : List (List ℕ)) (p : ℕ) (es : Entries) → count (is_slot_of p) es ≡ 0 → slots_without (slots_of images es) p ≡ slots_of images es
unfolding rows count
without_none images p [] z = refl
without_none images p (e ∷ es) z = step e.0 e.1 (count_zero (is_slot_of p e.1) (count (is_slot_of p) es) z).0 (without_none images p es (count_zero (is_slot_of p e.1) (count (is_slot_of p) es) z).1)
  where
    step : (k : ℕ) (u : Use) → is_slot_of p u ≡ false → slots_without (slots_of images es) p ≡ slots_of images es
        → slots_without (with_item (slot_of_use (image_at images k) u) (slots_of images es)) p ≡ with_item (slot_of_use (image_at images k) u) (slots_of images es)
    step k Free n ih = ih
    step k (Private x) n ih = ih
    step k (Slot s) n ih = rw n (ap (λ l. record { page = s.page; copy = copy_seen (image_at images k) s.content; pins = s.pins } ∷ l) ih)

-- a slot as it is shown
abbrev pub slot_row : List (List ℕ) → ℕ → SlotUse → SlotRow
slot_row images k s = record { page = s.page; copy = copy_seen (image_at images k) s.content; pins = s.pins }

pub count_other : (b : Bool) (n : ℕ) → cond b 1 0 + n ≤ 1 → 1 ≤ n → b ≡ false
count_other true n l m = absurd (omega arith)
count_other false n l m = refl

-- one slot changes
pub slots_changed : (f : SlotRow → SlotRow) (images now : List (List ℕ)) (k p : ℕ) (s w : SlotUse) (es : Entries)
    → ((j : ℕ) → nat_eq k j ≡ false → image_at now j ≡ image_at images j) → Apart es → count (is_slot_of p) es ≤ 1 → use_at es k ≡ Some (Slot s) → s.page ≡ p → slot_row now k w ≡ f (slot_row images k s)
    → slots_of now (set_value (nat_eq k) es (Slot w)) ≡ change_slot f (slots_of images es) p
unfolding rows count change_slot
slots_changed f images now k p s w [] a d l u q r = cc
slots_changed f images now k p s w (e ∷ es) a d l u q r = by_case (nat_eq k e.0) refl (slots_changed f images now k p s w es a (apart_tail e es d))
  where
    agree : (j : ℕ × Use) → nat_eq k j.0 ≡ false → slot_seen now j ≡ slot_seen images j
    agree j n = ap (λ i. slot_of_use i j.1) (a j.0 n)

    step : (i : List ℕ) (v : Use) (xs ys : List SlotRow) → is_slot_of p v ≡ false → xs ≡ change_slot f ys p → with_item (slot_of_use i v) xs ≡ change_slot f (with_item (slot_of_use i v) ys) p
    step i Free xs ys n h = h
    step i (Private x) xs ys n h = h
    step i (Slot z) xs ys n h = rw n (ap (λ m. record { page = z.page; copy = copy_seen i z.content; pins = z.pins } ∷ m) h)

    by_case : (b : Bool) → nat_eq k e.0 ≡ b
        → (count (is_slot_of p) es ≤ 1 → use_at es k ≡ Some (Slot s) → s.page ≡ p → slot_row now k w ≡ f (slot_row images k s) → slots_of now (set_value (nat_eq k) es (Slot w)) ≡ change_slot f (slots_of images es) p)
        → slots_of now (set_value (nat_eq k) (e ∷ es) (Slot w)) ≡ change_slot f (slots_of images (e ∷ es)) p
    by_case true t ih =
        let o : Some e.1 ≡ Some (Slot s) = rw t at u in
        let v : e.1 ≡ Slot s = cc in
        let n : k ≡ e.0 = equal k e.0 t in
        let own : (s.page == p) ≡ true = page_self s.page p q in
        let mine : is_slot_of p e.1 ≡ true = ap (is_slot_of p) v ∙ own in
        let none : count (is_slot_of p) es ≡ 0 = count_left (is_slot_of p e.1) (count (is_slot_of p) es) mine l in
        let here : slot_row now e.0 w ≡ f (slot_row images e.0 s) = subst (λ j. slot_row now j w ≡ f (slot_row images j s)) n r in
        let rest : slots_of now es ≡ slots_of images es = rows_agree (slot_seen images) (slot_seen now) k es agree (absent_as k e.0 es t (apart_head e es d)) in
        let right : change_slot f (with_item (slot_of_use (image_at images e.0) (Slot s)) (slots_of images es)) p ≡ f (slot_row images e.0 s) ∷ slots_of images es =
        rw own (ap (λ m. f (slot_row images e.0 s) ∷ m) (change_none f images p es none)) in
        rw t (ap (λ x. x ∷ slots_of now es) here ∙ ap (λ m. f (slot_row images e.0 s) ∷ m) rest ∙ sym right ∙ ap (λ z. change_slot f (with_item (slot_of_use (image_at images e.0) z) (slots_of images es)) p) (sym v))
    by_case false t ih =
        let u2 : use_at es k ≡ Some (Slot s) = rw t at u in
        let some : 1 ≤ count (is_slot_of p) es = counts_here (is_slot_of p) k (Slot s) es u2 (page_self s.page p q) in
        let other : is_slot_of p e.1 ≡ false = count_other (is_slot_of p e.1) (count (is_slot_of p) es) l some in
        rw t (ap (λ o. with_item o (slots_of now (set_value (nat_eq k) es (Slot w)))) (agree e t)
        ∙ step (image_at images e.0) e.1 (slots_of now (set_value (nat_eq k) es (Slot w))) (slots_of images es) other (ih (count_skip (is_slot_of p e.1) (count (is_slot_of p) es) 1 l) u2 q r))

-- one slot leaves
pub slots_taken : (images : List (List ℕ)) (k p : ℕ) (s : SlotUse) (es : Entries) → Apart es → count (is_slot_of p) es ≤ 1 → use_at es k ≡ Some (Slot s) → s.page ≡ p
    → slots_of images (remove_entry (nat_eq k) es) ≡ slots_without (slots_of images es) p
unfolding rows count
slots_taken images k p s [] d l u q = cc
slots_taken images k p s (e ∷ es) d l u q = by_case (nat_eq k e.0) refl (slots_taken images k p s es (apart_tail e es d))
  where
    step : (i : List ℕ) (v : Use) (xs ys : List SlotRow) → is_slot_of p v ≡ false → xs ≡ slots_without ys p → with_item (slot_of_use i v) xs ≡ slots_without (with_item (slot_of_use i v) ys) p
    step i Free xs ys n h = h
    step i (Private x) xs ys n h = h
    step i (Slot z) xs ys n h = rw n (ap (λ m. record { page = z.page; copy = copy_seen i z.content; pins = z.pins } ∷ m) h)

    by_case : (b : Bool) → nat_eq k e.0 ≡ b
        → (count (is_slot_of p) es ≤ 1 → use_at es k ≡ Some (Slot s) → s.page ≡ p → slots_of images (remove_entry (nat_eq k) es) ≡ slots_without (slots_of images es) p)
        → slots_of images (remove_entry (nat_eq k) (e ∷ es)) ≡ slots_without (slots_of images (e ∷ es)) p
    by_case true t ih =
        let o : Some e.1 ≡ Some (Slot s) = rw t at u in
        let v : e.1 ≡ Slot s = cc in
        let own : (s.page == p) ≡ true = page_self s.page p q in
        let mine : is_slot_of p e.1 ≡ true = ap (is_slot_of p) v ∙ own in
        let none : count (is_slot_of p) es ≡ 0 = count_left (is_slot_of p e.1) (count (is_slot_of p) es) mine l in
        let right : slots_without (with_item (slot_of_use (image_at images e.0) (Slot s)) (slots_of images es)) p ≡ slots_of images es = rw own (without_none images p es none) in
        rw t (sym right ∙ ap (λ z. slots_without (with_item (slot_of_use (image_at images e.0) z) (slots_of images es)) p) (sym v))
    by_case false t ih =
        let u2 : use_at es k ≡ Some (Slot s) = rw t at u in
        let some : 1 ≤ count (is_slot_of p) es = counts_here (is_slot_of p) k (Slot s) es u2 (page_self s.page p q) in
        let other : is_slot_of p e.1 ≡ false = count_other (is_slot_of p e.1) (count (is_slot_of p) es) l some in
        rw t (step (image_at images e.0) e.1 (slots_of images (remove_entry (nat_eq k) es)) (slots_of images es) other (ih (count_skip (is_slot_of p e.1) (count (is_slot_of p) es) 1 l) u2 q))

-- what a search of the slots finds
abbrev pub found_slot : List (List ℕ) → Option (ℕ × SlotUse) → Option SlotRow
found_slot images None = None
found_slot images (Some r) = Some (slot_row images r.0 r.1)

pub slot_in_rows : (images : List (List ℕ)) (p : ℕ) (es : Entries) → slot_in (slots_of images es) p ≡ found_slot images (first_row (slot_here p) es)
unfolding rows slot_in first_row
slot_in_rows images p [] = refl
slot_in_rows images p (e ∷ es) = step e.0 e.1 (slot_in_rows images p es)
  where
    step : (k : ℕ) (u : Use) → slot_in (slots_of images es) p ≡ found_slot images (first_row (slot_here p) es)
        → slot_in (with_item (slot_of_use (image_at images k) u) (slots_of images es)) p ≡ found_slot images (or_else (slot_in_use p k u) (first_row (slot_here p) es))
    step k Free ih = ih
    step k (Private x) ih = ih
    step k (Slot s) ih = by_page (s.page == p)
      where
        by_page : (b : Bool) → pick b (Some (slot_row images k s)) (slot_in (slots_of images es) p) ≡ found_slot images (or_else (slot_if b k s) (first_row (slot_here p) es))
        by_page true = refl
        by_page false = ih

pub use_tail : (k : ℕ) (u : Use) (e : ℕ × Use) (es : Entries) → Apart (e ∷ es) → use_at es k ≡ Some u → use_at (e ∷ es) k ≡ Some u
use_tail k u e es d h = by_case (nat_eq k e.0) refl
  where
    by_case : (b : Bool) → nat_eq k e.0 ≡ b → use_at (e ∷ es) k ≡ Some u
    by_case true t =
        let gone : use_at es k ≡ None = absent_none k es (absent_as k e.0 es t (apart_head e es d)) in
        let bad : None ≡ Some u = sym gone ∙ h in
        cc
    by_case false t = rw t h

pub use_head : (e : ℕ × Use) (es : Entries) (u : Use) → e.1 ≡ u → use_at (e ∷ es) e.0 ≡ Some u
use_head e es u q = rw (same e.0) (ap (λ v. Some v) q)

pub slot_use : (p k : ℕ) (s : SlotUse) (es : Entries) → Apart es → first_row (slot_here p) es ≡ Some (k, s) → (use_at es k ≡ Some (Slot s)) × (s.page ≡ p)
unfolding first_row
slot_use p k s [] d f = cc
slot_use p k s (e ∷ es) d f = step e.1 refl (slot_use p k s es (apart_tail e es d))
  where
    step : (u : Use) → e.1 ≡ u → (first_row (slot_here p) es ≡ Some (k, s) → (use_at es k ≡ Some (Slot s)) × (s.page ≡ p)) → (use_at (e ∷ es) k ≡ Some (Slot s)) × (s.page ≡ p)
    step Free q ih = let g : first_row (slot_here p) es ≡ Some (k, s) = rw q at f in (use_tail k (Slot s) e es d (ih g).0, (ih g).1)
    step (Private x) q ih = let g : first_row (slot_here p) es ≡ Some (k, s) = rw q at f in (use_tail k (Slot s) e es d (ih g).0, (ih g).1)
    step (Slot z) q ih = by_page (z.page == p) refl
      where
        by_page : (b : Bool) → (z.page == p) ≡ b → (use_at (e ∷ es) k ≡ Some (Slot s)) × (s.page ≡ p)
        by_page true t =
            let g : Some (e.0, z) ≡ Some (k, s) = rw (q, t) at f in
            let pair : (let a : ℕ × SlotUse = (e.0, z) in a) ≡ (k, s) = cc in
            let m : e.0 ≡ k = ap (λ r. r.0) pair in
            let v : z ≡ s = ap (λ r. r.1) pair in
            let own : z.page ≡ p = equal z.page p t in
            (subst (λ j. use_at (e ∷ es) j ≡ Some (Slot s)) m (use_head e es (Slot s) (q ∙ ap (λ y. Slot y) v)), subst (λ y. y.page ≡ p) v own)
        by_page false t = let g : first_row (slot_here p) es ≡ Some (k, s) = rw (q, t) at f in (use_tail k (Slot s) e es d (ih g).0, (ih g).1)
