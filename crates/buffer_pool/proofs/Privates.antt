-- The private copies that the entries show, and what a change of one frame makes of them.
use Rattle.std.proofs.Common.{◌≡◌, ℕ, ◌+◌, ◌≤◌, ◌==◌, ◌&&◌, nat_eq, cond, not, Bool, true, false, List, [], ◌∷◌, ◌++◌, Option, Some, None, refl, ap, sym, subst, ◌∙◌, arith, append-nil}
use Rattle.std.proofs.lemmas.Bool.Decides.{nat_tests}
use Rattle.std.specs.List.{filter}
use Rattle.std.specs.Map.{set_value, remove_entry}
use Rattle.pcl_base.specs.declared.tx.TxId.{TxId}
use Rattle.node_rules.specs.Words.{or_else, pick, same_tx}
use Rattle.node_rules.specs.BufferRule.{Slot as SlotRow, PrivateCopy, slot_in, private_in, change_slot, change_private, slots_without, is_private}
use Rattle.buffer_pool.specs.declared.uses.Use.{Use}
use Rattle.buffer_pool.specs.declared.uses.Use.TheVariants.{Free, Slot, Private}
use Rattle.buffer_pool.specs.declared.uses.SlotUse.{SlotUse}
use Rattle.buffer_pool.specs.declared.uses.PrivateUse.{PrivateUse}
use Rattle.buffer_pool.specs.Entries.{Entries, with_item, item_list, rows, rows_back, first_row, count, is_slot_of, is_private_of, slot_in_use, slot_here, slot_if, private_in_use, private_here, private_if, use_at}
use Rattle.buffer_pool.specs.Seen.{image_at, copy_seen, slot_of_use, slot_seen, if_filled, private_of_use, private_seen}
use Rattle.buffer_pool.proofs.Entries.{equal, same, Absent, Apart, apart_head, apart_tail, absent_as, absent_none}
use Rattle.buffer_pool.proofs.Rows.{back_agree, count_left, count_skip, count_zero, counts_here, count_other, use_tail, use_head}

-- private copies
abbrev pub privates_of : List (List ℕ) → Entries → List PrivateCopy
privates_of images es = rows_back (private_seen images) es

abbrev pub private_row : List (List ℕ) → ℕ → PrivateUse → PrivateCopy
private_row images k x = record { tx = x.tx; page = x.page; bytes = if_filled x.filled (image_at images k) }

abbrev pub without_private : TxId → ℕ → List PrivateCopy → List PrivateCopy
without_private t p xs = filter (λ x. not (is_private t p x)) xs

pub change_private_append : (f : Option (List ℕ) → Option (List ℕ)) (t : TxId) (p : ℕ) (xs ys : List PrivateCopy) → change_private f (xs ++ ys) t p ≡ change_private f xs t p ++ change_private f ys t p
unfolding change_private
change_private_append f t p [] ys = refl
change_private_append f t p (x ∷ xs) ys = ap (λ m. pick (is_private t p x) (record x { bytes = f x.bytes }) x ∷ m) (change_private_append f t p xs ys)

pub without_append : (t : TxId) (p : ℕ) (xs ys : List PrivateCopy) → without_private t p (xs ++ ys) ≡ without_private t p xs ++ without_private t p ys
without_append t p [] ys = refl
without_append t p (x ∷ xs) ys = by_case (is_private t p x) refl (without_append t p xs ys)
  where
    by_case : (b : Bool) → is_private t p x ≡ b → without_private t p (xs ++ ys) ≡ without_private t p xs ++ without_private t p ys → without_private t p ((x ∷ xs) ++ ys) ≡ without_private t p (x ∷ xs) ++ without_private t p ys
    by_case true h ih = rw h ih
    by_case false h ih = rw h (ap (λ m. x ∷ m) ih)

pub private_append : (t : TxId) (p : ℕ) (xs ys : List PrivateCopy) → private_in (xs ++ ys) t p ≡ or_else (private_in xs t p) (private_in ys t p)
unfolding private_in
private_append t p [] ys = refl
private_append t p (x ∷ xs) ys = by_case (is_private t p x) (private_append t p xs ys)
  where
    by_case : (b : Bool) → private_in (xs ++ ys) t p ≡ or_else (private_in xs t p) (private_in ys t p) → pick b (Some x) (private_in (xs ++ ys) t p) ≡ or_else (pick b (Some x) (private_in xs t p)) (private_in ys t p)
    by_case true ih = refl
    by_case false ih = ih

pub or_none : {X : Type 0} (o : Option X) → or_else o None ≡ o
or_none None = refl
or_none (Some x) = refl

-- private copies of which none is the transaction's of the page
pub private_change_none : (f : Option (List ℕ) → Option (List ℕ)) (images : List (List ℕ)) (t : TxId) (p : ℕ) (es : Entries) → count (is_private_of t p) es ≡ 0 → change_private f (privates_of images es) t p ≡ privates_of images es
unfolding rows_back count change_private
private_change_none f images t p [] z = refl
private_change_none f images t p (e ∷ es) z =
    change_private_append f t p (privates_of images es) (item_list (private_seen images e))
    ∙ step (image_at images e.0) e.1 (count_zero (is_private_of t p e.1) (count (is_private_of t p) es) z).0 (private_change_none f images t p es (count_zero (is_private_of t p e.1) (count (is_private_of t p) es) z).1)
  where
    step : (i : List ℕ) (u : Use) → is_private_of t p u ≡ false → change_private f (privates_of images es) t p ≡ privates_of images es
        → change_private f (privates_of images es) t p ++ change_private f (item_list (private_of_use i u)) t p ≡ privates_of images es ++ item_list (private_of_use i u)
    step i Free n ih = ap (λ m. m ++ []) ih
    step i (Slot s) n ih = ap (λ m. m ++ []) ih
    step i (Private x) n ih = rw n (ap (λ m. m ++ record { tx = x.tx; page = x.page; bytes = if_filled x.filled i } ∷ []) ih)

pub private_without_none : (images : List (List ℕ)) (t : TxId) (p : ℕ) (es : Entries) → count (is_private_of t p) es ≡ 0 → without_private t p (privates_of images es) ≡ privates_of images es
unfolding rows_back count
private_without_none images t p [] z = refl
private_without_none images t p (e ∷ es) z =
    without_append t p (privates_of images es) (item_list (private_seen images e))
    ∙ step (image_at images e.0) e.1 (count_zero (is_private_of t p e.1) (count (is_private_of t p) es) z).0 (private_without_none images t p es (count_zero (is_private_of t p e.1) (count (is_private_of t p) es) z).1)
  where
    step : (i : List ℕ) (u : Use) → is_private_of t p u ≡ false → without_private t p (privates_of images es) ≡ privates_of images es
        → without_private t p (privates_of images es) ++ without_private t p (item_list (private_of_use i u)) ≡ privates_of images es ++ item_list (private_of_use i u)
    step i Free n ih = ap (λ m. m ++ []) ih
    step i (Slot s) n ih = ap (λ m. m ++ []) ih
    step i (Private x) n ih = rw n (ap (λ m. m ++ record { tx = x.tx; page = x.page; bytes = if_filled x.filled i } ∷ []) ih)

pub private_none : (images : List (List ℕ)) (t : TxId) (p : ℕ) (es : Entries) → count (is_private_of t p) es ≡ 0 → private_in (privates_of images es) t p ≡ None
unfolding rows_back count private_in
private_none images t p [] z = refl
private_none images t p (e ∷ es) z =
    private_append t p (privates_of images es) (item_list (private_seen images e))
    ∙ step (image_at images e.0) e.1 (count_zero (is_private_of t p e.1) (count (is_private_of t p) es) z).0 (private_none images t p es (count_zero (is_private_of t p e.1) (count (is_private_of t p) es) z).1)
  where
    step : (i : List ℕ) (u : Use) → is_private_of t p u ≡ false → private_in (privates_of images es) t p ≡ None → or_else (private_in (privates_of images es) t p) (private_in (item_list (private_of_use i u)) t p) ≡ None
    step i Free n ih = ap (λ o. or_else o None) ih
    step i (Slot s) n ih = ap (λ o. or_else o None) ih
    step i (Private x) n ih = rw n (ap (λ o. or_else o None) ih)

-- one private copy changes
pub privates_changed : (f : Option (List ℕ) → Option (List ℕ)) (images now : List (List ℕ)) (k : ℕ) (t : TxId) (p : ℕ) (x w : PrivateUse) (es : Entries)
    → ((j : ℕ) → nat_eq k j ≡ false → image_at now j ≡ image_at images j) → Apart es → count (is_private_of t p) es ≤ 1 → use_at es k ≡ Some (Private x) → is_private_of t p (Private x) ≡ true
    → private_row now k w ≡ (let y : PrivateCopy = private_row images k x in record y { bytes = f y.bytes })
    → privates_of now (set_value (nat_eq k) es (Private w)) ≡ change_private f (privates_of images es) t p
unfolding rows_back count change_private
privates_changed f images now k t p x w [] a d l u q r = cc
privates_changed f images now k t p x w (e ∷ es) a d l u q r = by_case (nat_eq k e.0) refl (privates_changed f images now k t p x w es a (apart_tail e es d))
  where
    agree : (j : ℕ × Use) → nat_eq k j.0 ≡ false → private_seen now j ≡ private_seen images j
    agree j n = ap (λ i. private_of_use i j.1) (a j.0 n)

    step : (i : List ℕ) (v : Use) (xs ys : List PrivateCopy) → is_private_of t p v ≡ false → xs ≡ change_private f ys t p → xs ++ item_list (private_of_use i v) ≡ change_private f ys t p ++ change_private f (item_list (private_of_use i v)) t p
    step i Free xs ys n h = ap (λ m. m ++ []) h
    step i (Slot z) xs ys n h = ap (λ m. m ++ []) h
    step i (Private z) xs ys n h = rw n (ap (λ m. m ++ record { tx = z.tx; page = z.page; bytes = if_filled z.filled i } ∷ []) h)

    by_case : (b : Bool) → nat_eq k e.0 ≡ b
        → (count (is_private_of t p) es ≤ 1 → use_at es k ≡ Some (Private x) → is_private_of t p (Private x) ≡ true → private_row now k w ≡ (let y : PrivateCopy = private_row images k x in record y { bytes = f y.bytes })
        → privates_of now (set_value (nat_eq k) es (Private w)) ≡ change_private f (privates_of images es) t p)
        → privates_of now (set_value (nat_eq k) (e ∷ es) (Private w)) ≡ change_private f (privates_of images (e ∷ es)) t p
    by_case true c ih =
        let o : Some e.1 ≡ Some (Private x) = rw c at u in
        let v : e.1 ≡ Private x = cc in
        let n : k ≡ e.0 = equal k e.0 c in
        let mine : is_private_of t p e.1 ≡ true = ap (is_private_of t p) v ∙ q in
        let none : count (is_private_of t p) es ≡ 0 = count_left (is_private_of t p e.1) (count (is_private_of t p) es) mine l in
        let here : private_row now e.0 w ≡ (let y : PrivateCopy = private_row images e.0 x in record y { bytes = f y.bytes }) = subst (λ j. private_row now j w ≡ (let y : PrivateCopy = private_row images j x in record y { bytes = f y.bytes })) n r in
        let rest : privates_of now es ≡ privates_of images es = back_agree (private_seen images) (private_seen now) k es agree (absent_as k e.0 es c (apart_head e es d)) in
        let right : change_private f (privates_of images es ++ item_list (private_of_use (image_at images e.0) (Private x))) t p ≡ privates_of images es ++ (let y : PrivateCopy = private_row images e.0 x in record y { bytes = f y.bytes }) ∷ [] =
        change_private_append f t p (privates_of images es) (item_list (private_of_use (image_at images e.0) (Private x))) ∙ rw q (ap (λ m. m ++ (let y : PrivateCopy = private_row images e.0 x in record y { bytes = f y.bytes }) ∷ []) (private_change_none f images t p es none)) in
        rw c (ap (λ y. privates_of now es ++ y ∷ []) here ∙ ap (λ m. m ++ (let y : PrivateCopy = private_row images e.0 x in record y { bytes = f y.bytes }) ∷ []) rest ∙ sym right
        ∙ ap (λ z. change_private f (privates_of images es ++ item_list (private_of_use (image_at images e.0) z)) t p) (sym v))
    by_case false c ih =
        let u2 : use_at es k ≡ Some (Private x) = rw c at u in
        let some : 1 ≤ count (is_private_of t p) es = counts_here (is_private_of t p) k (Private x) es u2 q in
        let other : is_private_of t p e.1 ≡ false = count_other (is_private_of t p e.1) (count (is_private_of t p) es) l some in
        rw c (ap (λ o. privates_of now (set_value (nat_eq k) es (Private w)) ++ item_list o) (agree e c)
        ∙ step (image_at images e.0) e.1 (privates_of now (set_value (nat_eq k) es (Private w))) (privates_of images es) other (ih (count_skip (is_private_of t p e.1) (count (is_private_of t p) es) 1 l) u2 q r)
        ∙ sym (change_private_append f t p (privates_of images es) (item_list (private_seen images e))))

-- one private copy leaves
pub privates_taken : (images : List (List ℕ)) (k : ℕ) (t : TxId) (p : ℕ) (x : PrivateUse) (es : Entries) → Apart es → count (is_private_of t p) es ≤ 1 → use_at es k ≡ Some (Private x) → is_private_of t p (Private x) ≡ true
    → privates_of images (remove_entry (nat_eq k) es) ≡ without_private t p (privates_of images es)
unfolding rows_back count
privates_taken images k t p x [] d l u q = cc
privates_taken images k t p x (e ∷ es) d l u q = by_case (nat_eq k e.0) refl (privates_taken images k t p x es (apart_tail e es d))
  where
    step : (i : List ℕ) (v : Use) (xs ys : List PrivateCopy) → is_private_of t p v ≡ false → xs ≡ without_private t p ys → xs ++ item_list (private_of_use i v) ≡ without_private t p ys ++ without_private t p (item_list (private_of_use i v))
    step i Free xs ys n h = ap (λ m. m ++ []) h
    step i (Slot z) xs ys n h = ap (λ m. m ++ []) h
    step i (Private z) xs ys n h = rw n (ap (λ m. m ++ record { tx = z.tx; page = z.page; bytes = if_filled z.filled i } ∷ []) h)

    by_case : (b : Bool) → nat_eq k e.0 ≡ b
        → (count (is_private_of t p) es ≤ 1 → use_at es k ≡ Some (Private x) → is_private_of t p (Private x) ≡ true → privates_of images (remove_entry (nat_eq k) es) ≡ without_private t p (privates_of images es))
        → privates_of images (remove_entry (nat_eq k) (e ∷ es)) ≡ without_private t p (privates_of images (e ∷ es))
    by_case true c ih =
        let o : Some e.1 ≡ Some (Private x) = rw c at u in
        let v : e.1 ≡ Private x = cc in
        let mine : is_private_of t p e.1 ≡ true = ap (is_private_of t p) v ∙ q in
        let none : count (is_private_of t p) es ≡ 0 = count_left (is_private_of t p e.1) (count (is_private_of t p) es) mine l in
        let right : without_private t p (privates_of images es ++ item_list (private_of_use (image_at images e.0) (Private x))) ≡ privates_of images es =
        without_append t p (privates_of images es) (item_list (private_of_use (image_at images e.0) (Private x))) ∙ rw q (append-nil (without_private t p (privates_of images es)) ∙ private_without_none images t p es none) in
        rw c (sym right ∙ ap (λ z. without_private t p (privates_of images es ++ item_list (private_of_use (image_at images e.0) z))) (sym v))
    by_case false c ih =
        let u2 : use_at es k ≡ Some (Private x) = rw c at u in
        let some : 1 ≤ count (is_private_of t p) es = counts_here (is_private_of t p) k (Private x) es u2 q in
        let other : is_private_of t p e.1 ≡ false = count_other (is_private_of t p e.1) (count (is_private_of t p) es) l some in
        rw c (step (image_at images e.0) e.1 (privates_of images (remove_entry (nat_eq k) es)) (privates_of images es) other (ih (count_skip (is_private_of t p e.1) (count (is_private_of t p) es) 1 l) u2 q)
        ∙ sym (without_append t p (privates_of images es) (item_list (private_seen images e))))

-- what a search of the private copies finds
abbrev pub found_private : List (List ℕ) → Option (ℕ × PrivateUse) → Option PrivateCopy
found_private images None = None
found_private images (Some r) = Some (private_row images r.0 r.1)

pub private_in_rows : (images : List (List ℕ)) (t : TxId) (p : ℕ) (es : Entries) → count (is_private_of t p) es ≤ 1 → private_in (privates_of images es) t p ≡ found_private images (first_row (private_here t p) es)
unfolding rows_back count private_in first_row
private_in_rows images t p [] l = refl
private_in_rows images t p (e ∷ es) l =
    private_append t p (privates_of images es) (item_list (private_seen images e))
    ∙ step e.0 e.1 l (private_in_rows images t p es (count_skip (is_private_of t p e.1) (count (is_private_of t p) es) 1 l))
  where
    step : (k : ℕ) (u : Use) → cond (is_private_of t p u) 1 0 + count (is_private_of t p) es ≤ 1 → private_in (privates_of images es) t p ≡ found_private images (first_row (private_here t p) es)
        → or_else (private_in (privates_of images es) t p) (private_in (item_list (private_of_use (image_at images k) u)) t p) ≡ found_private images (or_else (private_in_use t p k u) (first_row (private_here t p) es))
    step k Free m ih = or_none (private_in (privates_of images es) t p) ∙ ih
    step k (Slot s) m ih = or_none (private_in (privates_of images es) t p) ∙ ih
    step k (Private x) m ih = by_name (same_tx x.tx t && x.page == p) refl
      where
        by_name : (b : Bool) → (same_tx x.tx t && x.page == p) ≡ b
            → or_else (private_in (privates_of images es) t p) (pick (same_tx x.tx t && x.page == p) (Some (private_row images k x)) None) ≡ found_private images (or_else (private_if (same_tx x.tx t && x.page == p) k x) (first_row (private_here t p) es))
        by_name true h =
            let none : count (is_private_of t p) es ≡ 0 = count_left (same_tx x.tx t && x.page == p) (count (is_private_of t p) es) h m in
            rw h (ap (λ o. or_else o (Some (private_row images k x))) (private_none images t p es none))
        by_name false h = rw h (or_none (private_in (privates_of images es) t p) ∙ ih)

pub private_use : (t : TxId) (p k : ℕ) (x : PrivateUse) (es : Entries) → Apart es → first_row (private_here t p) es ≡ Some (k, x) → (use_at es k ≡ Some (Private x)) × (is_private_of t p (Private x) ≡ true)
unfolding first_row
private_use t p k x [] d f = cc
private_use t p k x (e ∷ es) d f = step e.1 refl (private_use t p k x es (apart_tail e es d))
  where
    step : (u : Use) → e.1 ≡ u → (first_row (private_here t p) es ≡ Some (k, x) → (use_at es k ≡ Some (Private x)) × (is_private_of t p (Private x) ≡ true)) → (use_at (e ∷ es) k ≡ Some (Private x)) × (is_private_of t p (Private x) ≡ true)
    step Free q ih = let g : first_row (private_here t p) es ≡ Some (k, x) = rw q at f in (use_tail k (Private x) e es d (ih g).0, (ih g).1)
    step (Slot s) q ih = let g : first_row (private_here t p) es ≡ Some (k, x) = rw q at f in (use_tail k (Private x) e es d (ih g).0, (ih g).1)
    step (Private z) q ih = by_name (is_private_of t p (Private z)) refl
      where
        by_name : (b : Bool) → is_private_of t p (Private z) ≡ b → (use_at (e ∷ es) k ≡ Some (Private x)) × (is_private_of t p (Private x) ≡ true)
        by_name true h =
            let g : Some (e.0, z) ≡ Some (k, x) = rw (q, h) at f in
            let pair : (let a : ℕ × PrivateUse = (e.0, z) in a) ≡ (k, x) = cc in
            let m : e.0 ≡ k = ap (λ r. r.0) pair in
            let v : z ≡ x = ap (λ r. r.1) pair in
            (subst (λ j. use_at (e ∷ es) j ≡ Some (Private x)) m (use_head e es (Private x) (q ∙ ap (λ y. Private y) v)), subst (λ y. is_private_of t p (Private y) ≡ true) v h)
        by_name false h = let g : first_row (private_here t p) es ≡ Some (k, x) = rw (q, h) at f in (use_tail k (Private x) e es d (ih g).0, (ih g).1)
