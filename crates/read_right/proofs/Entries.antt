-- What the entries of a shelf's map say of its rights and of their being ready.
use Rattle.std.proofs.Common.{◌≡◌, ℕ, ◌==◌, nat_eq, Bool, true, false, ◌||◌, cond, List, [], ◌∷◌, ◌++◌, length, map, Option, Some, None, IsSome, is_some, refl, ap, sym, subst, ◌∙◌, arith}
use Rattle.std.proofs.lemmas.Bool.Decides.{nat_tests}
use Rattle.std.proofs.lemmas.List.{map-append}
use Rattle.std.specs.List.{AllByRecursion, IsDistinct, list_any}
use Rattle.std.specs.Map.{lookup, set_value, remove_entry, keys_of}
use Rattle.pcl_base.specs.declared.tx.TxId.{TxId}
use Rattle.node_rules.specs.Words.{pick, same_tx, among}
use Rattle.node_rules.specs.Shelf.{Right, accept, right_on, change_right, spend, with_one_reader}
use Rattle.read_right.specs.declared.right.ReadRight.{ReadRight}
use Rattle.read_right.specs.ShelfView.{Mark, ready_in}
use Rattle.read_right.specs.Seen.{right_of, rights_of, marks_of}

-- the right that a look-up shows, and whether it is ready
abbrev pub seen_at : ℕ → Option ReadRight → Option Right
seen_at p None = None
seen_at p (Some r) = Some (right_of (p, r))

abbrev pub ready_at : Option ReadRight → Bool
ready_at None = false
ready_at (Some r) = r.ready

flip : (a b : ℕ) → (a == b) ≡ nat_eq b a
flip a b = by_case (nat_eq b a) refl
  where
    by_case : (t : Bool) → nat_eq b a ≡ t → (a == b) ≡ nat_eq b a
    by_case true e = let h : (a == b) ≡ true = grind (arith, nat_tests) in h ∙ sym e
    by_case false e = let h : (a == b) ≡ false = grind (arith, nat_tests) in h ∙ sym e

same_key : (p k : ℕ) → nat_eq p k ≡ true → k ≡ p
same_key p k e = grind (arith, nat_tests)

pub right_on-seen : (p : ℕ) (es : List (ℕ × ReadRight)) → right_on (rights_of es) p ≡ seen_at p (lookup (nat_eq p) es)
unfolding right_on
right_on-seen p [] = refl
right_on-seen p (e ∷ es) = by_case (nat_eq p e.0) refl (right_on-seen p es)
  where
    by_case : (t : Bool) → nat_eq p e.0 ≡ t → right_on (rights_of es) p ≡ seen_at p (lookup (nat_eq p) es)
        → right_on (rights_of (e ∷ es)) p ≡ seen_at p (lookup (nat_eq p) (e ∷ es))
    by_case true t ih = rw (flip e.0 p) (rw t (ap (λ k. Some (right_of (k, e.1))) (same_key p e.0 t)))
    by_case false t ih = rw (flip e.0 p) (rw t ih)

pub ready_in-seen : (p : ℕ) (es : List (ℕ × ReadRight)) → ready_in (marks_of es) p ≡ ready_at (lookup (nat_eq p) es)
unfolding ready_in
ready_in-seen p [] = refl
ready_in-seen p (e ∷ es) = by_case (nat_eq p e.0) refl (ready_in-seen p es)
  where
    by_case : (t : Bool) → nat_eq p e.0 ≡ t → ready_in (marks_of es) p ≡ ready_at (lookup (nat_eq p) es)
        → ready_in (marks_of (e ∷ es)) p ≡ ready_at (lookup (nat_eq p) (e ∷ es))
    by_case true t ih = rw (flip e.0 p) (rw t refl)
    by_case false t ih = rw (flip e.0 p) (rw t ih)

-- the rights without one that isn't there
spend_absent : (p : ℕ) (es : List (ℕ × ReadRight)) → lookup (nat_eq p) es ≡ None → spend (rights_of es) p ≡ rights_of es
unfolding spend
spend_absent p [] h = refl
spend_absent p (e ∷ es) h = by_case (nat_eq p e.0) refl (spend_absent p es)
  where
    by_case : (t : Bool) → nat_eq p e.0 ≡ t → (lookup (nat_eq p) es ≡ None → spend (rights_of es) p ≡ rights_of es)
        → spend (rights_of (e ∷ es)) p ≡ rights_of (e ∷ es)
    by_case true t ih = absurd (let bad : Some e.1 ≡ None = rw t at h in cc)
    by_case false t ih = rw (flip e.0 p) (rw t (ap (λ l. right_of e ∷ l) (ih (rw t at h))))

-- a spent right is gone
pub spend-removed : (p : ℕ) (es : List (ℕ × ReadRight)) → lookup (nat_eq p) (remove_entry (nat_eq p) es) ≡ None
    → rights_of (remove_entry (nat_eq p) es) ≡ spend (rights_of es) p
unfolding spend
spend-removed p [] h = refl
spend-removed p (e ∷ es) h = by_case (nat_eq p e.0) refl (spend-removed p es)
  where
    by_case : (t : Bool) → nat_eq p e.0 ≡ t
        → (lookup (nat_eq p) (remove_entry (nat_eq p) es) ≡ None → rights_of (remove_entry (nat_eq p) es) ≡ spend (rights_of es) p)
        → rights_of (remove_entry (nat_eq p) (e ∷ es)) ≡ spend (rights_of (e ∷ es)) p
    by_case true t ih = rw (flip e.0 p) (rw t (sym (spend_absent p es (rw t at h))))
    by_case false t ih = rw (flip e.0 p) (rw t (ap (λ l. right_of e ∷ l) (ih (rw t at (rw t at h)))))

-- a change of a right that isn't there changes nothing
change_absent : (f : Right → Right) (p : ℕ) (es : List (ℕ × ReadRight)) → AllByRecursion (λ y. nat_eq p y ≡ false) (keys_of es) → change_right f (rights_of es) p ≡ rights_of es
unfolding change_right
change_absent f p [] h = refl
change_absent f p (e ∷ es) h = rw (flip e.0 p) (rw h.0 (ap (λ l. right_of e ∷ l) (change_absent f p es h.1)))

abbrev right_or : ReadRight → Option ReadRight → ReadRight
right_or d None = d
right_or d (Some r) = r

-- a change of a right through the map
pub change-set : (f : Right → Right) (p : ℕ) (r w : ReadRight) (es : List (ℕ × ReadRight)) → IsDistinct nat_eq (keys_of es) → lookup (nat_eq p) es ≡ Some r
    → right_of (p, w) ≡ f (right_of (p, r)) → rights_of (set_value (nat_eq p) es w) ≡ change_right f (rights_of es) p
unfolding change_right IsDistinct
change-set f p r w [] d h g = refl
change-set f p r w (e ∷ es) d h g = by_case (nat_eq p e.0) refl (λ k. change-set f p r w es d.1 k g)
  where
    by_case : (t : Bool) → nat_eq p e.0 ≡ t
        → (lookup (nat_eq p) es ≡ Some r → rights_of (set_value (nat_eq p) es w) ≡ change_right f (rights_of es) p)
        → rights_of (set_value (nat_eq p) (e ∷ es) w) ≡ change_right f (rights_of (e ∷ es)) p
    by_case true t ih =
        let there : Some e.1 ≡ Some r = rw t at h in
        let same : e.1 ≡ r = ap (right_or r) there in
        let key : e.0 ≡ p = same_key p e.0 t in
        let head : right_of (e.0, w) ≡ f (right_of e) = ap (λ k. right_of (k, w)) key ∙ g ∙ ap (λ k. f (right_of (k, r))) (sym key) ∙ ap (λ x. f (right_of (e.0, x))) (sym same) in
        let P : ℕ → Type 0 = λ k. AllByRecursion (λ y. nat_eq k y ≡ false) (keys_of es) in
        let rest : change_right f (rights_of es) p ≡ rights_of es = change_absent f p es (subst P key d.0) in
        rw (flip e.0 p) (rw t (ap (λ x. x ∷ rights_of es) head ∙ ap (λ l. f (right_of e) ∷ l) (sym rest)))
    by_case false t ih = rw (flip e.0 p) (rw t (ap (λ l. right_of e ∷ l) (ih (rw t at h))))

-- the same, told of the shelf's value
pub found_now : (p : ℕ) (es : List (ℕ × ReadRight)) (o : Option ReadRight) (rs : List Right) → rights_of es ≡ rs → lookup (nat_eq p) es ≡ o → right_on rs p ≡ seen_at p o
found_now p es o rs e h = ap (λ l. right_on l p) (sym e) ∙ right_on-seen p es ∙ ap (seen_at p) h

pub ready_now : (p : ℕ) (es : List (ℕ × ReadRight)) (o : Option ReadRight) (ms : List Mark) → marks_of es ≡ ms → lookup (nat_eq p) es ≡ o → ready_in ms p ≡ ready_at o
ready_now p es o ms e h = ap (λ l. ready_in l p) (sym e) ∙ ready_in-seen p es ∙ ap ready_at h

pub spent_now : (p : ℕ) (es new : List (ℕ × ReadRight)) (rs : List Right) → rights_of es ≡ rs → new ≡ remove_entry (nat_eq p) es → lookup (nat_eq p) new ≡ None → rights_of new ≡ spend rs p
spent_now p es new rs e n h =
    ap rights_of n ∙ spend-removed p es (ap (lookup (nat_eq p)) (sym n) ∙ h) ∙ ap (λ l. spend l p) e

-- where look-ups of other pages find the same, the same of them are ready
pub others_now : (p : ℕ) (es new : List (ℕ × ReadRight)) (ms : List Mark) → marks_of es ≡ ms
    → ((q : ℕ) → nat_eq p q ≡ false → lookup (nat_eq q) new ≡ lookup (nat_eq q) es) → (q : ℕ) → (q ≡ p → ⊥) → ready_in (marks_of new) q ≡ ready_in ms q
others_now p es new ms e u q ne =
    let other : nat_eq p q ≡ false = grind (arith, nat_tests) in
    ready_in-seen q new ∙ ap ready_at (u q other) ∙ sym (ready_in-seen q es) ∙ ap (λ l. ready_in l q) e

pub changed_now : (f : Right → Right) (p : ℕ) (r w : ReadRight) (es new : List (ℕ × ReadRight)) (rs : List Right) → rights_of es ≡ rs → IsDistinct nat_eq (keys_of es) → lookup (nat_eq p) es ≡ Some r
    → right_of (p, w) ≡ f (right_of (p, r)) → new ≡ set_value (nat_eq p) es w → rights_of new ≡ change_right f rs p
changed_now f p r w es new rs e d h g n = ap rights_of n ∙ change-set f p r w es d h g ∙ ap (λ l. change_right f l p) e

pub among-any : (us : List TxId) (t : TxId) → list_any (λ u. same_tx u t) us ≡ among us t
unfolding among
among-any [] t = refl
among-any (u ∷ us) t = ap (λ b. same_tx u t || b) (among-any us t)

-- a change of a right that isn't there, by its look-up
pub change-none : (f : Right → Right) (p : ℕ) (es : List (ℕ × ReadRight)) → lookup (nat_eq p) es ≡ None → change_right f (rights_of es) p ≡ rights_of es
unfolding change_right
change-none f p [] h = refl
change-none f p (e ∷ es) h = by_case (nat_eq p e.0) refl (change-none f p es)
  where
    by_case : (t : Bool) → nat_eq p e.0 ≡ t → (lookup (nat_eq p) es ≡ None → change_right f (rights_of es) p ≡ rights_of es)
        → change_right f (rights_of (e ∷ es)) p ≡ rights_of (e ∷ es)
    by_case true t ih = absurd (let bad : Some e.1 ≡ None = rw t at h in cc)
    by_case false t ih = rw (flip e.0 p) (rw t (ap (λ l. right_of e ∷ l) (ih (rw t at h))))

change-id : (p : ℕ) (rs : List Right) → change_right (λ x. x) rs p ≡ rs
unfolding change_right
change-id p [] = refl
change-id p (r ∷ rs) = one (r.page == p) ∙ ap (λ l. r ∷ l) (change-id p rs)
  where
    one : (b : Bool) → pick b r r ∷ change_right (λ x. x) rs p ≡ r ∷ change_right (λ x. x) rs p
    one true = refl
    one false = refl

-- a right that is written back as it was
pub kept_now : (p : ℕ) (r w : ReadRight) (es new : List (ℕ × ReadRight)) (rs : List Right) → rights_of es ≡ rs → IsDistinct nat_eq (keys_of es) → lookup (nat_eq p) es ≡ Some r
    → right_of (p, w) ≡ right_of (p, r) → new ≡ set_value (nat_eq p) es w → rights_of new ≡ rs
kept_now p r w es new rs e d h g n = changed_now (λ x. x) p r w es new rs e d h g n ∙ change-id p rs

pub right_made : (p v u : ℕ) (xs ys : List TxId) → v ≡ u → xs ≡ ys → (let a : Right = record { page = p; version = v; readers = xs } in a) ≡ (let b : Right = record { page = p; version = u; readers = ys } in b)
right_made p v u xs ys e f = ap (λ k. let a : Right = record { page = p; version = k; readers = xs } in a) e ∙ ap (λ l. let a : Right = record { page = p; version = u; readers = l } in a) f

pub right_put : (p v u : ℕ) (xs ys : List TxId) (t : TxId) → v ≡ u → xs ≡ pick (list_any (λ w. same_tx w t) ys) ys (ys ++ t ∷ [])
    → (let a : Right = record { page = p; version = v; readers = xs } in a) ≡ (let b : Right = record { page = p; version = u; readers = ys } in with_one_reader t b)
right_put p v u xs ys t e f = right_made p v u xs (pick (among ys t) ys (ys ++ t ∷ [])) e (f ∙ ap (λ b. pick b ys (ys ++ t ∷ [])) (among-any ys t)) ∙ spread (among ys t)
  where
    spread : (b : Bool) → (let a : Right = record { page = p; version = u; readers = pick b ys (ys ++ t ∷ []) } in a)
        ≡ pick b (let c : Right = record { page = p; version = u; readers = ys } in c) (let d : Right = record { page = p; version = u; readers = ys ++ t ∷ [] } in d)
    spread true = refl
    spread false = refl

-- where the page's right stays as ready as it was, all do
pub all_now : (p : ℕ) (r w : ReadRight) (es new : List (ℕ × ReadRight)) (ms : List Mark) → marks_of es ≡ ms → lookup (nat_eq p) es ≡ Some r → lookup (nat_eq p) new ≡ Some w → w.ready ≡ r.ready
    → ((q : ℕ) → nat_eq p q ≡ false → lookup (nat_eq q) new ≡ lookup (nat_eq q) es) → (q : ℕ) → ready_in (marks_of new) q ≡ ready_in ms q
all_now p r w es new ms e h k g u q = by_case (nat_eq p q) refl
  where
    by_case : (t : Bool) → nat_eq p q ≡ t → ready_in (marks_of new) q ≡ ready_in ms q
    by_case true t =
        let P : ℕ → Type 0 = λ x. ready_in (marks_of new) x ≡ ready_in ms x in
        subst P (sym (same_key p q t)) (ready_now p new (Some w) (marks_of new) refl k ∙ g ∙ sym (ready_now p es (Some r) ms e h))
    by_case false t = ready_in-seen q new ∙ ap ready_at (u q t) ∙ sym (ready_in-seen q es) ∙ ap (λ l. ready_in l q) e

abbrev first_of : Option ReadRight → Option ReadRight → Option ReadRight
first_of None y = y
first_of (Some x) y = Some x

lookup-pushed : (q p : ℕ) (w : ReadRight) (es : List (ℕ × ReadRight)) → lookup (nat_eq q) (es ++ (p, w) ∷ []) ≡ first_of (lookup (nat_eq q) es) (cond (nat_eq q p) (Some w) None)
lookup-pushed q p w [] = refl
lookup-pushed q p w (e ∷ es) = by_case (nat_eq q e.0) (lookup-pushed q p w es)
  where
    by_case : (b : Bool) → lookup (nat_eq q) (es ++ (p, w) ∷ []) ≡ first_of (lookup (nat_eq q) es) (cond (nat_eq q p) (Some w) None)
        → cond b (Some e.1) (lookup (nat_eq q) (es ++ (p, w) ∷ [])) ≡ first_of (cond b (Some e.1) (lookup (nat_eq q) es)) (cond (nat_eq q p) (Some w) None)
    by_case true ih = refl
    by_case false ih = ih

pub pushed_here : (p : ℕ) (w : ReadRight) (es new : List (ℕ × ReadRight)) → new ≡ es ++ (p, w) ∷ [] → lookup (nat_eq p) es ≡ None → lookup (nat_eq p) new ≡ Some w
pushed_here p w es new e h =
    let own : nat_eq p p ≡ true = grind (arith, nat_tests) in
    ap (lookup (nat_eq p)) e ∙ lookup-pushed p p w es ∙ ap (λ o. first_of o (cond (nat_eq p p) (Some w) None)) h ∙ ap (λ b. cond b (Some w) None) own

pub pushed_there : (p : ℕ) (w : ReadRight) (es new : List (ℕ × ReadRight)) → new ≡ es ++ (p, w) ∷ [] → (q : ℕ) → nat_eq p q ≡ false → lookup (nat_eq q) new ≡ lookup (nat_eq q) es
pushed_there p w es new e q h =
    let other : nat_eq q p ≡ false = grind (arith, nat_tests) in
    ap (lookup (nat_eq q)) e ∙ lookup-pushed q p w es ∙ ap (λ b. first_of (lookup (nat_eq q) es) (cond b (Some w) None)) other ∙ last (lookup (nat_eq q) es)
  where
    last : (o : Option ReadRight) → first_of o None ≡ o
    last None = refl
    last (Some x) = refl

empty_list : (xs : List TxId) → length xs ≡ 0 → xs ≡ []
empty_list [] h = refl
empty_list (x ∷ xs) h = absurd (omega (arith, h))

pub accepted_now : (p v : ℕ) (w : ReadRight) (es new : List (ℕ × ReadRight)) (rs : List Right) → rights_of es ≡ rs → lookup (nat_eq p) es ≡ None → new ≡ es ++ (p, w) ∷ []
    → w.version ≡ v → length w.readers.items ≡ 0 → rights_of new ≡ accept rs p v
unfolding accept
accepted_now p v w es new rs e h n g z =
    let none : is_some (right_on rs p) ≡ false = ap is_some (found_now p es None rs e h) in
    let made : right_of (p, w) ≡ record { page = p; version = v; readers = [] } = right_made p w.version v w.readers.items [] g (empty_list w.readers.items z) in
    ap rights_of n ∙ map-append right_of es ((p, w) ∷ []) ∙ ap (λ l. l ++ right_of (p, w) ∷ []) e ∙ ap (λ x. rs ++ x ∷ []) made ∙ sym (ap (λ b. pick b rs (rs ++ record { page = p; version = v; readers = [] } ∷ [])) none)

pub accept_there : (p v : ℕ) (rs : List Right) → IsSome (right_on rs p) → accept rs p v ≡ rs
unfolding accept
accept_there p v rs h = ap (λ b. pick b rs (rs ++ record { page = p; version = v; readers = [] } ∷ [])) h

abbrev pair_in : ℕ × ReadRight → ℕ × ℕ
pair_in e = (e.0, e.1.version)

abbrev pair_of : Right → ℕ × ℕ
pair_of r = (r.page, r.version)

pub pairs_now : (es : List (ℕ × ReadRight)) (rs : List Right) → rights_of es ≡ rs → map pair_in es ≡ map pair_of rs
pairs_now es rs e = pairs es ∙ ap (map pair_of) e
  where
    pairs : (l : List (ℕ × ReadRight)) → map pair_in l ≡ map pair_of (rights_of l)
    pairs [] = refl
    pairs (x ∷ xs) = ap (λ l. pair_in x ∷ l) (pairs xs)
