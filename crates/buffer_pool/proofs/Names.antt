-- What a name finds, and lists of names.
use Rattle.std.proofs.Common.{◌≡◌, ℕ, zero, suc, ◌+◌, ◌-◌, ◌*◌, ◌<◌, ◌≤◌, ◌==◌, take, add-one, ◌&&◌, nat_eq, nat_lt, cond, not, Bool, true, false, List, [], ◌∷◌, ◌++◌, length, map, Option, Some, None, is_some, IsSome, refl, ap, sym, subst, ◌∙◌, arith, length-append}
use Rattle.std.proofs.lemmas.Bool.Decides.{nat_tests}
use Rattle.std.proofs.lemmas.Map.{length-set_value}
use Rattle.std.specs.List.{AllByRecursion, IsDistinct, range_with_len}
use Rattle.std.specs.Option.{option_map_or}
use Rattle.std.proofs.lemmas.List.{take_all}
use Rattle.std.proofs.lemmas.List.FromFn.{length-range_with_len}
use Rattle.std.specs.Map.{lookup, set_value, remove_entry, keys_of}
use Rattle.lru.specs.LruCache.{promoted, put_entries, lru_cache}
use Rattle.indexmap.specs.IndexMap.{insert_entry}
use Rattle.pcl_base.specs.declared.tx.TxId.{TxId}
use Rattle.node_rules.specs.Words.{same_tx, or_else}
use Rattle.buffer_pool.specs.declared.uses.Use.{Use}
use Rattle.buffer_pool.specs.declared.uses.Use.TheVariants.{Free, Slot, Private}
use Rattle.buffer_pool.specs.declared.uses.SlotUse.{SlotUse}
use Rattle.buffer_pool.specs.declared.uses.PrivateUse.{PrivateUse}
use Rattle.buffer_pool.specs.declared.uses.Name.{Name}
use Rattle.buffer_pool.specs.declared.uses.Name.TheVariants.{Slot as SlotName, Private as PrivateName}
use Rattle.buffer_pool.specs.Entries.{Entries, IsTable, freed, freed_if, fresh, count, use_at, first_row, slot_here, private_here, is_free, is_loose, is_bare, is_slot_of, is_private_of, goes_for, slot_in_use, slot_if, private_in_use, private_if}
use Rattle.buffer_pool.specs.Kept.{IsKept, IsListed, freed_at, name_of, private_name, same_name, named_here, named_use}
use Rattle.buffer_pool.proofs.Entries.{equal, same, apart, one, Absent, Apart, absent_none, entry_found, entry_absent, apart_head, apart_tail, absent_as, Points, PointsIf, through, first_row_at, count_set, count_removed, length_removed, count_one, each_set, each_removed, each_weaker, each_at, apart_set, apart_front, promoted_found, promoted_absent}
use Rattle.buffer_pool.proofs.Changes.{use_set_other, use_set_same, use_removed_other, all_push, all_front, all_last, all_weaker, all_both, distinct_front, distinct_last, distinct_push}
use Rattle.buffer_pool.proofs.Tables.{same_name_equal, slot_points, private_points, table_of_kept}

-- what the name of a page, or of a private copy, finds
pub slot_some : (p k : ℕ) (u : Use) → is_some (slot_in_use p k u) ≡ is_slot_of p u
slot_some p k Free = refl
slot_some p k (Slot s) = by_case (s.page == p)
  where
    by_case : (b : Bool) → is_some (slot_if b k s) ≡ b
    by_case true = refl
    by_case false = refl
slot_some p k (Private x) = refl

pub private_some : (t : TxId) (p k : ℕ) (u : Use) → is_some (private_in_use t p k u) ≡ is_private_of t p u
private_some t p k Free = refl
private_some t p k (Slot s) = refl
private_some t p k (Private x) = by_case (same_tx x.tx t && x.page == p)
  where
    by_case : (b : Bool) → is_some (private_if b k x) ≡ b
    by_case true = refl
    by_case false = refl

pub slot_found : (names : List (Name × ℕ)) (p : ℕ) (es : Entries) → IsDistinct nat_eq (keys_of es) → AllByRecursion (λ e. IsListed names e.0 (name_of e.1)) es
    → first_row (slot_here p) es ≡ through (slot_here p) (lookup (same_name (SlotName p)) names) es
slot_found names p es d a =
    first_row_at (slot_here p) (lookup (same_name (SlotName p)) names) es d
    (each_weaker (PointsIf (is_slot_of p) (lookup (same_name (SlotName p)) names)) (Points (slot_here p) (lookup (same_name (SlotName p)) names))
    (λ e f h. f (sym (slot_some p e.0 e.1) ∙ h)) es (slot_points names p es a))

pub private_found : (names : List (Name × ℕ)) (t : TxId) (p : ℕ) (es : Entries) → IsDistinct nat_eq (keys_of es) → AllByRecursion (λ e. IsListed names e.0 (name_of e.1)) es
    → first_row (private_here t p) es ≡ through (private_here t p) (lookup (same_name (private_name t p)) names) es
private_found names t p es d a =
    first_row_at (private_here t p) (lookup (same_name (private_name t p)) names) es d
    (each_weaker (PointsIf (is_private_of t p) (lookup (same_name (private_name t p)) names)) (Points (private_here t p) (lookup (same_name (private_name t p)) names))
    (λ e f h. f (sym (private_some t p e.0 e.1) ∙ h)) es (private_points names t p es a))

-- the same, for the value of a table
pub slot_now : (names : List (Name × ℕ)) (p : ℕ) (es now : Entries) (free : List ℕ) (name_room room loose bare : ℕ) (o : Option ℕ) → IsKept es names free name_room room loose bare → es ≡ now
    → lookup (same_name (SlotName p)) names ≡ o → through (slot_here p) o es ≡ first_row (slot_here p) now
slot_now names p es now free name_room room loose bare o s q n =
    sym (ap (first_row (slot_here p)) (sym q) ∙ slot_found names p es s.distinct s.listed ∙ ap (λ x. through (slot_here p) x es) n)

pub private_now : (names : List (Name × ℕ)) (t : TxId) (p : ℕ) (es now : Entries) (free : List ℕ) (name_room room loose bare : ℕ) (o : Option ℕ) → IsKept es names free name_room room loose bare → es ≡ now
    → lookup (same_name (private_name t p)) names ≡ o → through (private_here t p) o es ≡ first_row (private_here t p) now
private_now names t p es now free name_room room loose bare o s q n =
    sym (ap (first_row (private_here t p)) (sym q) ∙ private_found names t p es s.distinct s.listed ∙ ap (λ x. through (private_here t p) x es) n)

pub table_now : (es now : Entries) (names : List (Name × ℕ)) (free : List ℕ) (name_room room loose bare : ℕ) → IsKept es names free name_room room loose bare → es ≡ now → IsTable now
table_now es now names free name_room room loose bare s q = subst IsTable q (table_of_kept es names free name_room room loose bare s)

-- lists of names
pub same_name_self : (n : Name) → same_name n n ≡ true
same_name_self (SlotName p) = same p
same_name_self (PrivateName a b c p) = rw (same a, same b, same c, same p) refl

pub insert_same : (n : Name) (k : ℕ) (names : List (Name × ℕ)) → lookup (same_name n) (insert_entry same_name names n k) ≡ Some k
insert_same n k [] = rw (same_name_self n) refl
insert_same n k (e ∷ names) = by_case (same_name n e.0) refl (insert_same n k names)
  where
    by_case : (b : Bool) → same_name n e.0 ≡ b → lookup (same_name n) (insert_entry same_name names n k) ≡ Some k → lookup (same_name n) (insert_entry same_name (e ∷ names) n k) ≡ Some k
    by_case true t ih = rw t (rw t refl)
    by_case false t ih = rw t (rw t ih)

pub insert_other : (n m : Name) (k : ℕ) (names : List (Name × ℕ)) → same_name n m ≡ false → lookup (same_name n) (insert_entry same_name names m k) ≡ lookup (same_name n) names
insert_other n m k [] f = rw f refl
insert_other n m k (e ∷ names) f = by_case (same_name m e.0) refl (insert_other n m k names f)
  where
    by_case : (b : Bool) → same_name m e.0 ≡ b → lookup (same_name n) (insert_entry same_name names m k) ≡ lookup (same_name n) names
        → lookup (same_name n) (insert_entry same_name (e ∷ names) m k) ≡ lookup (same_name n) (e ∷ names)
    by_case true t ih =
        let g : same_name n e.0 ≡ false = subst (λ x. same_name n x ≡ false) (same_name_equal m e.0 t) f in
        rw t (rw g refl)
    by_case false t ih = rw t (ap (λ o. cond (same_name n e.0) (Some e.1) o) ih)

abbrev pub with_name : Option Name → ℕ → List (Name × ℕ) → List (Name × ℕ)
with_name None k names = names
with_name (Some n) k names = insert_entry same_name names n k

-- the names of the entries, listed one after another
abbrev pub relisted : List (Name × ℕ) → Entries → List (Name × ℕ)
relisted names [] = names
relisted names (e ∷ es) = relisted (with_name (name_of e.1) e.0 names) es

pub stays_with : (old names : List (Name × ℕ)) (n : Name) (k j : ℕ) (o : Option Name) → lookup (same_name n) old ≡ Some k → lookup (same_name n) names ≡ Some k → IsListed old j o
    → lookup (same_name n) (with_name o j names) ≡ Some k
stays_with old names n k j None h g l = g
stays_with old names n k j (Some m) h g l = by_case (same_name n m) refl
  where
    by_case : (b : Bool) → same_name n m ≡ b → lookup (same_name n) (insert_entry same_name names m j) ≡ Some k
    by_case true t =
        let q : n ≡ m = same_name_equal n m t in
        let r : lookup (same_name n) old ≡ Some j = subst (λ x. lookup (same_name x) old ≡ Some j) (sym q) l in
        let v : Some j ≡ Some k = sym r ∙ h in
        subst (λ x. lookup (same_name n) (insert_entry same_name names x j) ≡ Some k) q (insert_same n j names ∙ v)
    by_case false t = insert_other n m j names t ∙ g

pub stays : (old names : List (Name × ℕ)) (n : Name) (k : ℕ) (es : Entries) → lookup (same_name n) old ≡ Some k → lookup (same_name n) names ≡ Some k → AllByRecursion (λ e. IsListed old e.0 (name_of e.1)) es
    → lookup (same_name n) (relisted names es) ≡ Some k
stays old names n k [] h g a = g
stays old names n k (e ∷ es) h g a = stays old (with_name (name_of e.1) e.0 names) n k es h (stays_with old names n k e.0 (name_of e.1) h g a.0) a.1

pub relisted_listed : (old names : List (Name × ℕ)) (es : Entries) → AllByRecursion (λ e. IsListed old e.0 (name_of e.1)) es → AllByRecursion (λ e. IsListed (relisted names es) e.0 (name_of e.1)) es
relisted_listed old names [] a = tt
relisted_listed old names (e ∷ es) a = (head (name_of e.1) a.0, relisted_listed old (with_name (name_of e.1) e.0 names) es a.1)
  where
    head : (o : Option Name) → IsListed old e.0 o → IsListed (relisted (with_name o e.0 names) es) e.0 o
    head None l = tt
    head (Some n) l = stays old (insert_entry same_name names n e.0) n e.0 es l (insert_same n e.0 names) a.1

-- a name that no frame has leaves the others listed
abbrev pub Moves : List (Name × ℕ) → List (Name × ℕ) → Name → ℕ → Type 0
Moves old new n k = (q : Name) → lookup (same_name q) new ≡ cond (same_name n q) (Some k) (lookup (same_name q) old)

pub list_kept : (old new : List (Name × ℕ)) (n : Name) (k : ℕ) (es : Entries) → Moves old new n k → first_row (named_here n) es ≡ None → AllByRecursion (λ e. IsListed old e.0 (name_of e.1)) es
    → AllByRecursion (λ e. IsListed new e.0 (name_of e.1)) es
unfolding first_row
list_kept old new n k [] m f a = tt
list_kept old new n k (e ∷ es) m f a = (head (name_of e.1) a.0 (none_first (named_use n e.0 (name_of e.1)) (first_row (named_here n) es) f), list_kept old new n k es m (none_rest (named_use n e.0 (name_of e.1)) (first_row (named_here n) es) f) a.1)
  where
    none_first : (x y : Option ℕ) → or_else x y ≡ None → x ≡ None
    none_first None y h = refl
    none_first (Some z) y h = cc

    none_rest : (x y : Option ℕ) → or_else x y ≡ None → y ≡ None
    none_rest None y h = h
    none_rest (Some z) y h = cc

    head : (o : Option Name) → IsListed old e.0 o → named_use n e.0 o ≡ None → IsListed new e.0 o
    head None l g = tt
    head (Some q) l g = by_case (same_name n q) refl
      where
        by_case : (b : Bool) → same_name n q ≡ b → lookup (same_name q) new ≡ Some e.0
        by_case true t = let bad : Some e.0 ≡ None = rw t at g in cc
        by_case false t = m q ∙ rw t l

pub moved_here : (old new : List (Name × ℕ)) (n : Name) (k : ℕ) → Moves old new n k → lookup (same_name n) new ≡ Some k
moved_here old new n k m = m n ∙ ap (λ b. cond b (Some k) (lookup (same_name n) old)) (same_name_self n)

-- while the names are listed anew, each that is listed is that of a frame that was passed
pub record IsPartly (old names : List (Name × ℕ)) (rest : Entries) : Type 0 where
  pub known : (q : Name) (j : ℕ) → lookup (same_name q) names ≡ Some j → (lookup (same_name q) old ≡ Some j) × Absent j rest

pub partly_none : (old : List (Name × ℕ)) (rest : Entries) → IsPartly old [] rest
partly_none old rest = record { known = λ q j h. cc }

pub partly_absent : (old names : List (Name × ℕ)) (k : ℕ) (u : Use) (rest : Entries) (n : Name) → IsPartly old names ((k, u) ∷ rest) → lookup (same_name n) old ≡ Some k → lookup (same_name n) names ≡ None
partly_absent old names k u rest n p l = by_case (lookup (same_name n) names) refl
  where
    by_case : (o : Option ℕ) → lookup (same_name n) names ≡ o → lookup (same_name n) names ≡ None
    by_case None h = h
    by_case (Some j) h =
        let f : (lookup (same_name n) old ≡ Some j) × Absent j ((k, u) ∷ rest) = p.known n j h in
        let v : Some j ≡ Some k = sym f.0 ∙ l in
        let q : j ≡ k = cc in
        let no : nat_eq j k ≡ false = f.1.0 in
        let yes : nat_eq j k ≡ true = subst (λ m. nat_eq j m ≡ true) q (same j) in
        let bad : true ≡ false = sym yes ∙ no in
        cc

pub partly_next : (old names new : List (Name × ℕ)) (k : ℕ) (u : Use) (rest : Entries) (n : Name) → IsPartly old names ((k, u) ∷ rest) → Absent k rest → lookup (same_name n) old ≡ Some k → Moves names new n k → IsPartly old new rest
partly_next old names new k u rest n p a l m = record { known = λ q j h. by_case q j h (same_name n q) refl }
  where
    by_case : (q : Name) (j : ℕ) → lookup (same_name q) new ≡ Some j → (b : Bool) → same_name n q ≡ b → (lookup (same_name q) old ≡ Some j) × Absent j rest
    by_case q j h true t =
        let g : cond (same_name n q) (Some k) (lookup (same_name q) names) ≡ Some j = sym (m q) ∙ h in
        let v : Some k ≡ Some j = rw t at g in
        let w : k ≡ j = cc in
        (subst (λ x. lookup (same_name x) old ≡ Some j) (same_name_equal n q t) (l ∙ v), subst (λ x. Absent x rest) w a)
    by_case q j h false t =
        let g : cond (same_name n q) (Some k) (lookup (same_name q) names) ≡ Some j = sym (m q) ∙ h in
        let v : lookup (same_name q) names ≡ Some j = rw t at g in
        let f : (lookup (same_name q) old ≡ Some j) × Absent j ((k, u) ∷ rest) = p.known q j v in
        (f.0, f.1.1)

pub partly_skip : (old names : List (Name × ℕ)) (k : ℕ) (u : Use) (rest : Entries) → IsPartly old names ((k, u) ∷ rest) → IsPartly old names rest
partly_skip old names k u rest p = record { known = λ q j h. let f : (lookup (same_name q) old ≡ Some j) × Absent j ((k, u) ∷ rest) = p.known q j h in (f.0, f.1.1) }

-- a page, or a private copy, that isn't there is no frame's name
pub slot_name_new : (p : ℕ) (es : Entries) → first_row (slot_here p) es ≡ None → first_row (named_here (SlotName p)) es ≡ None
unfolding first_row
slot_name_new p [] f = refl
slot_name_new p (e ∷ es) f = by_use e.1 refl (slot_name_new p es)
  where
    by_use : (u : Use) → e.1 ≡ u → (first_row (slot_here p) es ≡ None → first_row (named_here (SlotName p)) es ≡ None)
        → or_else (named_use (SlotName p) e.0 (name_of e.1)) (first_row (named_here (SlotName p)) es) ≡ None
    by_use Free q ih = rw q (ih (rw q at f))
    by_use (Slot s) q ih = by_page (s.page == p) refl
      where
        by_page : (b : Bool) → (s.page == p) ≡ b → or_else (named_use (SlotName p) e.0 (name_of e.1)) (first_row (named_here (SlotName p)) es) ≡ None
        by_page true t =
            let g : or_else (slot_in_use p e.0 (Slot s)) (first_row (slot_here p) es) ≡ None = subst (λ v. or_else (slot_in_use p e.0 v) (first_row (slot_here p) es) ≡ None) q f in
            let bad : Some (e.0, s) ≡ None = rw t at g in
            cc
        by_page false t =
            let g : or_else (slot_in_use p e.0 (Slot s)) (first_row (slot_here p) es) ≡ None = subst (λ v. or_else (slot_in_use p e.0 v) (first_row (slot_here p) es) ≡ None) q f in
            let rest : first_row (slot_here p) es ≡ None = rw t at g in
            let other : nat_eq p s.page ≡ false = grind (arith, nat_tests) in
            rw (q, other) (ih rest)
    by_use (Private x) q ih = rw q (ih (rw q at f))

pub private_name_new : (t : TxId) (p : ℕ) (es : Entries) → first_row (private_here t p) es ≡ None → first_row (named_here (private_name t p)) es ≡ None
unfolding first_row
private_name_new t p [] f = refl
private_name_new t p (e ∷ es) f = by_use e.1 refl (private_name_new t p es)
  where
    by_use : (u : Use) → e.1 ≡ u → (first_row (private_here t p) es ≡ None → first_row (named_here (private_name t p)) es ≡ None)
        → or_else (named_use (private_name t p) e.0 (name_of e.1)) (first_row (named_here (private_name t p)) es) ≡ None
    by_use Free q ih = rw q (ih (rw q at f))
    by_use (Slot s) q ih = rw q (ih (rw q at f))
    by_use (Private x) q ih = by_name_case (same_name (private_name t p) (private_name x.tx x.page)) refl
      where
        by_name_case : (b : Bool) → same_name (private_name t p) (private_name x.tx x.page) ≡ b → or_else (named_use (private_name t p) e.0 (name_of e.1)) (first_row (named_here (private_name t p)) es) ≡ None
        by_name_case true h =
            let g : or_else (private_in_use t p e.0 (Private x)) (first_row (private_here t p) es) ≡ None = subst (λ v. or_else (private_in_use t p e.0 v) (first_row (private_here t p) es) ≡ None) q f in
            let own : (same_tx x.tx t && x.page == p) ≡ true = grind (arith, nat_tests, h) in
            let bad : Some (e.0, x) ≡ None = rw own at g in
            cc
        by_name_case false h =
            let g : or_else (private_in_use t p e.0 (Private x)) (first_row (private_here t p) es) ≡ None = subst (λ v. or_else (private_in_use t p e.0 v) (first_row (private_here t p) es) ≡ None) q f in
            let other : (same_tx x.tx t && x.page == p) ≡ false = grind (arith, nat_tests, h) in
            let rest : first_row (private_here t p) es ≡ None = rw other at g in
            rw (q, h) (ih rest)

-- how many slots can go for a page
abbrev pub loose_row : Option (ℕ × SlotUse) → ℕ
loose_row None = 0
loose_row (Some r) = one (r.1.pins == 0)

pub go_none : (keep : ℕ) (es : Entries) → count (is_slot_of keep) es ≡ 0 → count (goes_for keep) es ≡ count is_loose es
unfolding count
go_none keep [] z = refl
go_none keep (e ∷ es) z = by_use e.1 refl (go_none keep es)
  where
    by_use : (u : Use) → e.1 ≡ u → (count (is_slot_of keep) es ≡ 0 → count (goes_for keep) es ≡ count is_loose es) → cond (goes_for keep e.1) 1 0 + count (goes_for keep) es ≡ cond (is_loose e.1) 1 0 + count is_loose es
    by_use Free q ih = let y : 0 + count (is_slot_of keep) es ≡ 0 = rw q at z in rw q (omega (arith, ih (omega arith)))
    by_use (Private x) q ih = let y : 0 + count (is_slot_of keep) es ≡ 0 = rw q at z in rw q (omega (arith, ih (omega arith)))
    by_use (Slot s) q ih = by_page (s.page == keep) refl
      where
        by_page : (b : Bool) → (s.page == keep) ≡ b → cond (goes_for keep e.1) 1 0 + count (goes_for keep) es ≡ cond (is_loose e.1) 1 0 + count is_loose es
        by_page true t = let y : 1 + count (is_slot_of keep) es ≡ 0 = rw (q, t) at z in absurd (omega arith)
        by_page false t = let y : 0 + count (is_slot_of keep) es ≡ 0 = rw (q, t) at z in rw (q, t) (omega (arith, ih (omega arith)))

pub go_count : (keep : ℕ) (es : Entries) → count (is_slot_of keep) es ≤ 1 → count (goes_for keep) es + loose_row (first_row (slot_here keep) es) ≡ count is_loose es
unfolding count first_row
go_count keep [] l = refl
go_count keep (e ∷ es) l = by_use e.1 refl (go_count keep es)
  where
    by_use : (u : Use) → e.1 ≡ u → (count (is_slot_of keep) es ≤ 1 → count (goes_for keep) es + loose_row (first_row (slot_here keep) es) ≡ count is_loose es)
        → cond (goes_for keep e.1) 1 0 + count (goes_for keep) es + loose_row (or_else (slot_in_use keep e.0 e.1) (first_row (slot_here keep) es)) ≡ cond (is_loose e.1) 1 0 + count is_loose es
    by_use Free q ih = let y : 0 + count (is_slot_of keep) es ≤ 1 = rw q at l in rw q (omega (arith, ih (omega arith)))
    by_use (Private x) q ih = let y : 0 + count (is_slot_of keep) es ≤ 1 = rw q at l in rw q (omega (arith, ih (omega arith)))
    by_use (Slot s) q ih = by_page (s.page == keep) refl
      where
        by_page : (b : Bool) → (s.page == keep) ≡ b
            → cond (goes_for keep e.1) 1 0 + count (goes_for keep) es + loose_row (or_else (slot_in_use keep e.0 e.1) (first_row (slot_here keep) es)) ≡ cond (is_loose e.1) 1 0 + count is_loose es
        by_page true t = let y : 1 + count (is_slot_of keep) es ≤ 1 = rw (q, t) at l in rw (q, t) (omega (arith, go_none keep es (omega arith)))
        by_page false t = let y : 0 + count (is_slot_of keep) es ≤ 1 = rw (q, t) at l in rw (q, t) (omega (arith, ih (omega arith)))

pub count_within : (test : Use → Bool) (es : Entries) → count test es ≤ length es
unfolding count
count_within test [] = omega arith
count_within test (e ∷ es) = by_case (test e.1) refl (count_within test es)
  where
    by_case : (b : Bool) → test e.1 ≡ b → count test es ≤ length es → cond (test e.1) 1 0 + count test es ≤ length (e ∷ es)
    by_case true t ih = rw t (omega arith)
    by_case false t ih = rw t (omega arith)
