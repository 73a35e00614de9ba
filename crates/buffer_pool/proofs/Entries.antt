-- Lists of frames: what a change of one of them makes of look-ups, counts and facts of all.
use Rattle.std.proofs.Common.{◌≡◌, ℕ, ◌+◌, ◌≤◌, nat_eq, cond, Bool, true, false, List, [], ◌∷◌, ◌++◌, length, Option, Some, None, is_some, refl, ap, sym, subst, ◌∙◌, arith}
use Rattle.std.proofs.lemmas.Bool.Decides.{nat_tests}
use Rattle.std.proofs.lemmas.Map.{keys-set_value}
use Rattle.std.specs.List.{AllByRecursion, IsDistinct}
use Rattle.std.specs.Option.{option_map_or}
use Rattle.std.specs.Map.{lookup_entry, set_value, remove_entry, keys_of}
use Rattle.lru.specs.LruCache.{promoted}
use Rattle.node_rules.specs.Words.{or_else}
use Rattle.buffer_pool.specs.declared.uses.Use.{Use}
use Rattle.buffer_pool.specs.Entries.{Entries, count, use_at, first_row, last_row}

pub equal : (a b : ℕ) → nat_eq a b ≡ true → a ≡ b
equal a b h = grind (arith, nat_tests)

pub same : (a : ℕ) → nat_eq a a ≡ true
same a = grind (arith, nat_tests)

pub apart : (a b : ℕ) → (a ≡ b → ⊥) → nat_eq a b ≡ false
apart a b h = grind (arith, nat_tests)

-- no entry has this number
abbrev pub Absent : ℕ → Entries → Type 0
Absent k es = AllByRecursion (λ y. nat_eq k y ≡ false) (keys_of es)

abbrev pub Apart : Entries → Type 0
Apart es = IsDistinct nat_eq (keys_of es)

pub apart_head : (e : ℕ × Use) (es : Entries) → Apart (e ∷ es) → Absent e.0 es
unfolding IsDistinct
apart_head e es d = d.0

pub apart_tail : (e : ℕ × Use) (es : Entries) → Apart (e ∷ es) → Apart es
unfolding IsDistinct
apart_tail e es d = d.1

pub apart_cons : (e : ℕ × Use) (es : Entries) → Absent e.0 es → Apart es → Apart (e ∷ es)
unfolding IsDistinct
apart_cons e es a d = (a, d)

pub absent_none : (k : ℕ) (es : Entries) → Absent k es → use_at es k ≡ None
absent_none k [] a = refl
absent_none k (e ∷ es) a = rw a.0 (absent_none k es a.1)

pub absent_as : (k j : ℕ) (es : Entries) → nat_eq k j ≡ true → Absent j es → Absent k es
absent_as k j es h a = subst (λ n. Absent n es) (sym (equal k j h)) a

-- the number that stands in the entry
pub at_key : (P : ℕ × Use → Type 0) (k : ℕ) (e : ℕ × Use) (u : Use) → nat_eq k e.0 ≡ true → P (k, u) → P (e.0, u)
at_key P k e u h p = subst (λ n. P (n, u)) (equal k e.0 h) p

abbrev pub one : Bool → ℕ
one b = cond b 1 0

-- a frame's entry, changed
pub count_set : (test : Use → Bool) (k : ℕ) (u w : Use) (es : Entries) → use_at es k ≡ Some u → count test (set_value (nat_eq k) es w) + one (test u) ≡ count test es + one (test w)
unfolding count
count_set test k u w [] h = cc
count_set test k u w (e ∷ es) h = by_case (nat_eq k e.0) refl (count_set test k u w es)
  where
    by_case : (b : Bool) → nat_eq k e.0 ≡ b → (use_at es k ≡ Some u → count test (set_value (nat_eq k) es w) + one (test u) ≡ count test es + one (test w))
        → count test (set_value (nat_eq k) (e ∷ es) w) + one (test u) ≡ count test (e ∷ es) + one (test w)
    by_case true t ih =
        let g : Some e.1 ≡ Some u = rw t at h in
        let q : e.1 ≡ u = cc in
        rw t (rw q (omega arith))
    by_case false t ih = let g : use_at es k ≡ Some u = rw t at h in rw t (omega (arith, ih g))

-- a frame's entry, taken out
pub count_removed : (test : Use → Bool) (k : ℕ) (u : Use) (es : Entries) → use_at es k ≡ Some u → count test (remove_entry (nat_eq k) es) + one (test u) ≡ count test es
unfolding count
count_removed test k u [] h = cc
count_removed test k u (e ∷ es) h = by_case (nat_eq k e.0) refl (count_removed test k u es)
  where
    by_case : (b : Bool) → nat_eq k e.0 ≡ b → (use_at es k ≡ Some u → count test (remove_entry (nat_eq k) es) + one (test u) ≡ count test es)
        → count test (remove_entry (nat_eq k) (e ∷ es)) + one (test u) ≡ count test (e ∷ es)
    by_case true t ih =
        let g : Some e.1 ≡ Some u = rw t at h in
        let q : e.1 ≡ u = cc in
        rw t (rw q (omega arith))
    by_case false t ih = let g : use_at es k ≡ Some u = rw t at h in rw t (omega (arith, ih g))

pub length_removed : (k : ℕ) (u : Use) (es : Entries) → use_at es k ≡ Some u → length (remove_entry (nat_eq k) es) + 1 ≡ length es
length_removed k u [] h = cc
length_removed k u (e ∷ es) h = by_case (nat_eq k e.0) refl (length_removed k u es)
  where
    by_case : (b : Bool) → nat_eq k e.0 ≡ b → (use_at es k ≡ Some u → length (remove_entry (nat_eq k) es) + 1 ≡ length es)
        → length (remove_entry (nat_eq k) (e ∷ es)) + 1 ≡ length (e ∷ es)
    by_case true t ih = rw t (omega arith)
    by_case false t ih = let g : use_at es k ≡ Some u = rw t at h in rw t (omega (arith, ih g))

-- a fact of each entry
pub each_set : (P : ℕ × Use → Type 0) (k : ℕ) (w : Use) (es : Entries) → AllByRecursion P es → P (k, w) → AllByRecursion P (set_value (nat_eq k) es w)
each_set P k w [] a p = tt
each_set P k w (e ∷ es) a p = by_case (nat_eq k e.0) refl (each_set P k w es a.1 p)
  where
    by_case : (b : Bool) → nat_eq k e.0 ≡ b → AllByRecursion P (set_value (nat_eq k) es w) → AllByRecursion P (set_value (nat_eq k) (e ∷ es) w)
    by_case true t ih = rw t (at_key P k e w t p, a.1)
    by_case false t ih = rw t (a.0, ih)

pub each_removed : (P : ℕ × Use → Type 0) (k : ℕ) (es : Entries) → AllByRecursion P es → AllByRecursion P (remove_entry (nat_eq k) es)
each_removed P k [] a = tt
each_removed P k (e ∷ es) a = by_case (nat_eq k e.0) refl (each_removed P k es a.1)
  where
    by_case : (b : Bool) → nat_eq k e.0 ≡ b → AllByRecursion P (remove_entry (nat_eq k) es) → AllByRecursion P (remove_entry (nat_eq k) (e ∷ es))
    by_case true t ih = rw t a.1
    by_case false t ih = rw t (a.0, ih)

pub each_weaker : (P Q : ℕ × Use → Type 0) → ((e : ℕ × Use) → P e → Q e) → (es : Entries) → AllByRecursion P es → AllByRecursion Q es
each_weaker P Q f [] a = tt
each_weaker P Q f (e ∷ es) a = (f e a.0, each_weaker P Q f es a.1)

pub each_at : (P : ℕ × Use → Type 0) (k : ℕ) (u : Use) (es : Entries) → AllByRecursion P es → use_at es k ≡ Some u → P (k, u)
each_at P k u [] a h = cc
each_at P k u (e ∷ es) a h = by_case (nat_eq k e.0) refl (each_at P k u es a.1)
  where
    by_case : (b : Bool) → nat_eq k e.0 ≡ b → (use_at es k ≡ Some u → P (k, u)) → P (k, u)
    by_case true t ih =
        let g : Some e.1 ≡ Some u = rw t at h in
        let q : e.1 ≡ u = cc in
        subst (λ n. P (n, u)) (sym (equal k e.0 t)) (subst (λ v. P (e.0, v)) q a.0)
    by_case false t ih = ih (rw t at h)

-- numbers stay apart
pub apart_set : (k : ℕ) (w : Use) (es : Entries) → Apart es → Apart (set_value (nat_eq k) es w)
apart_set k w es d = subst (IsDistinct nat_eq) (sym (keys-set_value (nat_eq k) es w)) d

pub absent_removed : (j k : ℕ) (es : Entries) → Absent j es → Absent j (remove_entry (nat_eq k) es)
absent_removed j k [] a = tt
absent_removed j k (e ∷ es) a = by_case (nat_eq k e.0) refl (absent_removed j k es a.1)
  where
    by_case : (b : Bool) → nat_eq k e.0 ≡ b → Absent j (remove_entry (nat_eq k) es) → Absent j (remove_entry (nat_eq k) (e ∷ es))
    by_case true t ih = rw t a.1
    by_case false t ih = rw t (a.0, ih)

pub apart_removed : (k : ℕ) (es : Entries) → Apart es → Apart (remove_entry (nat_eq k) es)
apart_removed k [] d = d
apart_removed k (e ∷ es) d = by_case (nat_eq k e.0) refl (apart_removed k es (apart_tail e es d))
  where
    by_case : (b : Bool) → nat_eq k e.0 ≡ b → Apart (remove_entry (nat_eq k) es) → Apart (remove_entry (nat_eq k) (e ∷ es))
    by_case true t ih = rw t (apart_tail e es d)
    by_case false t ih = rw t (apart_cons e (remove_entry (nat_eq k) es) (absent_removed e.0 k es (apart_head e es d)) ih)

pub absent_gone : (k : ℕ) (es : Entries) → Apart es → Absent k (remove_entry (nat_eq k) es)
absent_gone k [] d = tt
absent_gone k (e ∷ es) d = by_case (nat_eq k e.0) refl (absent_gone k es (apart_tail e es d))
  where
    by_case : (b : Bool) → nat_eq k e.0 ≡ b → Absent k (remove_entry (nat_eq k) es) → Absent k (remove_entry (nat_eq k) (e ∷ es))
    by_case true t ih = rw t (absent_as k e.0 es t (apart_head e es d))
    by_case false t ih = rw t (t, ih)

-- a frame that moves to the front
pub apart_front : (k : ℕ) (w : Use) (es : Entries) → Apart es → Apart ((k, w) ∷ remove_entry (nat_eq k) es)
apart_front k w es d = apart_cons (k, w) (remove_entry (nat_eq k) es) (absent_gone k es d) (apart_removed k es d)

pub entry_found : (k : ℕ) (u : Use) (es : Entries) → use_at es k ≡ Some u → lookup_entry (nat_eq k) es ≡ Some (k, u)
entry_found k u [] h = cc
entry_found k u (e ∷ es) h = by_case (nat_eq k e.0) refl (entry_found k u es)
  where
    by_case : (b : Bool) → nat_eq k e.0 ≡ b → (use_at es k ≡ Some u → lookup_entry (nat_eq k) es ≡ Some (k, u)) → lookup_entry (nat_eq k) (e ∷ es) ≡ Some (k, u)
    by_case true t ih =
        let g : Some e.1 ≡ Some u = rw t at h in
        let q : e.1 ≡ u = cc in
        let n : k ≡ e.0 = equal k e.0 t in
        rw t (ap (λ v. Some (e.0, v)) q ∙ ap (λ j. Some (j, u)) (sym n))
    by_case false t ih = rw t (ih (rw t at h))

pub entry_absent : (k : ℕ) (es : Entries) → use_at es k ≡ None → lookup_entry (nat_eq k) es ≡ None
entry_absent k [] h = refl
entry_absent k (e ∷ es) h = by_case (nat_eq k e.0) refl (entry_absent k es)
  where
    by_case : (b : Bool) → nat_eq k e.0 ≡ b → (use_at es k ≡ None → lookup_entry (nat_eq k) es ≡ None) → lookup_entry (nat_eq k) (e ∷ es) ≡ None
    by_case true t ih = let g : Some e.1 ≡ None = rw t at h in cc
    by_case false t ih = rw t (ih (rw t at h))

pub promoted_found : (k : ℕ) (u : Use) (es : Entries) → use_at es k ≡ Some u → promoted (nat_eq k) es ≡ (k, u) ∷ remove_entry (nat_eq k) es
promoted_found k u es h = ap (λ o. option_map_or (λ e. e ∷ remove_entry (nat_eq k) es) o es) (entry_found k u es h)

pub promoted_absent : (k : ℕ) (es : Entries) → use_at es k ≡ None → promoted (nat_eq k) es ≡ es
promoted_absent k es h = ap (λ o. option_map_or (λ e. e ∷ remove_entry (nat_eq k) es) o es) (entry_absent k es h)

-- the item that an index points at
abbrev pub at_number : {R : Type 0} → (ℕ × Use → Option R) → ℕ → Option Use → Option R
at_number g k None = None
at_number g k (Some u) = g (k, u)

abbrev pub through : {R : Type 0} → (ℕ × Use → Option R) → Option ℕ → Entries → Option R
through g None es = None
through g (Some k) es = at_number g k (use_at es k)

-- an entry with an item is the one that the index names
abbrev pub Points : {R : Type 0} → (ℕ × Use → Option R) → Option ℕ → ℕ × Use → Type 0
Points g named e = is_some (g e) ≡ true → named ≡ Some e.0

pub absent_through : {R : Type 0} (g : ℕ × Use → Option R) (named : Option ℕ) (k : ℕ) (es : Entries) → named ≡ Some k → Absent k es → through g named es ≡ None
absent_through g named k es n a = ap (λ o. through g o es) n ∙ ap (at_number g k) (absent_none k es a)

pub first_row_at : {R : Type 0} (g : ℕ × Use → Option R) (named : Option ℕ) (es : Entries) → Apart es → AllByRecursion (Points g named) es → first_row g es ≡ through g named es
unfolding first_row
first_row_at g None [] d p = refl
first_row_at g (Some k) [] d p = refl
first_row_at {R} g named (e ∷ es) d p = item_case (g e) refl (first_row_at g named es (apart_tail e es d) p.1)
  where
    -- the entry has no item, so the index points behind it, or at it and finds none
    past : (o : Option ℕ) → named ≡ o → g e ≡ None → through g o es ≡ through g o (e ∷ es)
    past None n i = refl
    past (Some k) n i = key_case (nat_eq k e.0) refl
      where
        key_case : (b : Bool) → nat_eq k e.0 ≡ b → at_number g k (use_at es k) ≡ at_number g k (use_at (e ∷ es) k)
        key_case true t =
            let gone : use_at es k ≡ None = absent_none k es (absent_as k e.0 es t (apart_head e es d)) in
            let none : g (k, e.1) ≡ None = subst (λ n. g (n, e.1) ≡ None) (sym (equal k e.0 t)) i in
            rw t (ap (at_number g k) gone ∙ sym none)
        key_case false t = rw t refl

    item_case : (o : Option R) → g e ≡ o → first_row g es ≡ through g named es → or_else (g e) (first_row g es) ≡ through g named (e ∷ es)
    item_case None i tail = ap (λ o. or_else o (first_row g es)) i ∙ tail ∙ past named refl i
    item_case (Some r) i tail =
        let n : named ≡ Some e.0 = p.0 (ap is_some i) in
        let here : use_at (e ∷ es) e.0 ≡ Some e.1 = rw (same e.0) refl in
        ap (λ o. or_else o (first_row g es)) i ∙ sym i ∙ sym (ap (λ o. through g o (e ∷ es)) n ∙ ap (at_number g e.0) here)

-- at most one entry is the one that the index names
abbrev pub PointsIf : (Use → Bool) → Option ℕ → ℕ × Use → Type 0
PointsIf test named e = test e.1 ≡ true → named ≡ Some e.0

pub count_absent : (test : Use → Bool) (named : Option ℕ) (k : ℕ) (es : Entries) → named ≡ Some k → Absent k es → AllByRecursion (PointsIf test named) es → count test es ≡ 0
unfolding count
count_absent test named k [] n a p = refl
count_absent test named k (e ∷ es) n a p = by_case (test e.1) refl (count_absent test named k es n a.1 p.1)
  where
    by_case : (b : Bool) → test e.1 ≡ b → count test es ≡ 0 → cond (test e.1) 1 0 + count test es ≡ 0
    by_case true t ih =
        let m : named ≡ Some e.0 = p.0 t in
        let q : Some k ≡ Some e.0 = sym n ∙ m in
        let r : k ≡ e.0 = cc in
        let f : nat_eq k e.0 ≡ false = a.0 in
        let f2 : nat_eq k k ≡ false = subst (λ j. nat_eq k j ≡ false) (sym r) f in
        let f3 : true ≡ false = sym (same k) ∙ f2 in
        cc
    by_case false t ih = rw t (omega (arith, ih))

pub count_one : (test : Use → Bool) (named : Option ℕ) (es : Entries) → Apart es → AllByRecursion (PointsIf test named) es → count test es ≤ 1
unfolding count
count_one test named [] d p = omega arith
count_one test named (e ∷ es) d p = by_case (test e.1) refl (count_one test named es (apart_tail e es d) p.1)
  where
    by_case : (b : Bool) → test e.1 ≡ b → count test es ≤ 1 → cond (test e.1) 1 0 + count test es ≤ 1
    by_case true t ih = rw t (omega (arith, count_absent test named e.0 es (p.0 t) (apart_head e es d) p.1))
    by_case false t ih = rw t (omega (arith, ih))

-- the last item, seen from the end
pub last_row-none : {R : Type 0} (g : ℕ × Use → Option R) → last_row g [] ≡ None
unfolding last_row
last_row-none g = refl

pub last_row-push : {R : Type 0} (g : ℕ × Use → Option R) (es : Entries) (e : ℕ × Use) → last_row g (es ++ e ∷ []) ≡ or_else (g e) (last_row g es)
unfolding last_row
last_row-push {R} g [] e = one_case (g e)
  where
    one_case : (o : Option R) → or_else None o ≡ or_else o None
    one_case None = refl
    one_case (Some r) = refl
last_row-push {R} g (f ∷ es) e = ap (λ o. or_else o (g f)) (last_row-push g es e) ∙ turn (g e)
  where
    turn : (o : Option R) → or_else (or_else o (last_row g es)) (g f) ≡ or_else o (or_else (last_row g es) (g f))
    turn None = refl
    turn (Some r) = refl
