-- What a change of one link does to the messages and the spares of a row.
use Rattle.std.proofs.Common.{◌≡◌, ◌∙◌, ℕ, ◌+◌, ◌<◌, ◌≤◌, List, [], ◌∷◌, length, get_or, set, zero, suc, Result, Ok, Err, OnOk, OnErr, refl, ap, sym, arith, get_or-set_same, subst}
use Rattle.std.proofs.lemmas.List.{map-set, get_or-map, length-map}
use Rattle.pcl_base.specs.declared.message.Message.{Message}
use Rattle.link_model.specs.Spares.{LinkView, messages_of, spares_of, NotLowerFrom}
use Rattle.std.proofs.Math.Seq.{map-set_same}

-- what holds on success
pub on_ok : {T E P Q : Type 0} (r : Result T E) → (P → Q) → OnOk r P → OnOk r Q
on_ok (Ok x) f h = f h
on_ok (Err e) f h = tt

pub on_err : {T E P Q : Type 0} (r : Result T E) → (P → Q) → OnErr r P → OnErr r Q
on_err (Ok x) f h = tt
on_err (Err e) f h = f h

-- the messages and the spare at a place
pub messages_at : (row : List LinkView) (i : ℕ) (d : LinkView) → i < length row → get_or (messages_of row) i [] ≡ (get_or row i d).messages
messages_at row i d less = get_or-map (λ (q : LinkView). q.messages) row i d [] less

pub spare_of : (row : List LinkView) (i : ℕ) (d : LinkView) → i < length row → get_or (spares_of row) i 0 ≡ (get_or row i d).spare
spare_of row i d less = get_or-map (λ (q : LinkView). q.spare) row i d 0 less

-- another link at a place
pub messages_put : (row : List LinkView) (i : ℕ) (q : LinkView) → messages_of (set row i q) ≡ set (messages_of row) i q.messages
messages_put row i q = map-set (λ (q : LinkView). q.messages) row i q

pub spares_put : (row : List LinkView) (i : ℕ) (q : LinkView) → spares_of (set row i q) ≡ set (spares_of row) i q.spare
spares_put row i q = map-set (λ (q : LinkView). q.spare) row i q

-- the spare that was put there
pub spare_put : (row : List LinkView) (i : ℕ) (q : LinkView) → i < length row → get_or (spares_of (set row i q)) i 0 ≡ q.spare
spare_put row i q less =
    ap (λ v. get_or v i 0) (spares_put row i q) ∙ get_or-set_same (spares_of row) i q.spare 0 (omega (arith, less, length-map row (λ (q : LinkView). q.spare)))

-- a changed link: what its messages and its spare are decides what the row's are
pub changed_messages : (row : List LinkView) (i : ℕ) (q : LinkView) (f : List Message → List Message) (d : LinkView) → i < length row → q.messages ≡ f (get_or row i d).messages → messages_of (set row i q) ≡ set (messages_of row) i (f (get_or (messages_of row) i []))
changed_messages row i q f d less is =
    messages_put row i q ∙ ap (λ v. set (messages_of row) i v) (is ∙ ap f (sym (messages_at row i d less)))

pub changed_spares : (row : List LinkView) (i : ℕ) (q : LinkView) → i < length row → spares_of (set row i q) ≡ set (spares_of row) i (get_or (spares_of (set row i q)) i 0)
changed_spares row i q less = spares_put row i q ∙ ap (λ v. set (spares_of row) i v) (sym (spare_put row i q less))

-- the same beside the value of the row, which is the row
pub link_messages : (row now : List LinkView) → row ≡ now → (i : ℕ) (q q' : LinkView) (f : List Message → List Message) → i < length now → q ≡ get_or row i q → q'.messages ≡ f q.messages → messages_of (set row i q') ≡ set (messages_of now) i (f (get_or (messages_of now) i []))
link_messages row now e i q q' f less at is =
    let P : List LinkView → Type 0 = λ n. i < length n → messages_of (set row i q') ≡ set (messages_of n) i (f (get_or (messages_of n) i [])) in
    subst P e (λ h. changed_messages row i q' f q h (is ∙ ap (λ (v : LinkView). f v.messages) at)) less

-- a link with the messages that it had
pub link_kept : (row now : List LinkView) → row ≡ now → (i : ℕ) (q q' : LinkView) → q ≡ get_or row i q → q'.messages ≡ q.messages → messages_of (set row i q') ≡ messages_of now
link_kept row now e i q q' at is =
    map-set_same (λ (v : LinkView). v.messages) row i q' q (is ∙ ap (λ (v : LinkView). v.messages) at) ∙ ap messages_of e

pub link_spares : (row now : List LinkView) → row ≡ now → (i : ℕ) (q' : LinkView) → i < length now → spares_of (set row i q') ≡ set (spares_of now) i (get_or (spares_of (set row i q')) i 0)
link_spares row now e i q' less =
    let P : List LinkView → Type 0 = λ n. i < length n → spares_of (set row i q') ≡ set (spares_of n) i (get_or (spares_of (set row i q')) i 0) in
    subst P e (changed_spares row i q') less

pub link_spare : (row now : List LinkView) → row ≡ now → (R : ℕ → ℕ → Type 0) (i : ℕ) (q q' : LinkView) → i < length now → q ≡ get_or row i q → R q.spare q'.spare → R (get_or (spares_of now) i 0) (get_or (spares_of (set row i q')) i 0)
link_spare row now e R i q q' less at is =
    let P : List LinkView → Type 0 = λ n. i < length n → R (get_or (spares_of n) i 0) (get_or (spares_of (set row i q')) i 0) in
    subst P e
    (λ h.
    let Q : ℕ → Type 0 = λ x. R x (get_or (spares_of (set row i q')) i 0) in
    let S : ℕ → Type 0 = λ y. R q.spare y in
    subst Q (ap (λ (v : LinkView). v.spare) at ∙ sym (spare_of row i q h)) (subst S (sym (spare_put row i q' h)) is))
    less

-- the same element at its place again
pub set_same_again : {X : Type 0} (xs : List X) (i : ℕ) (d : X) → i < length xs → set xs i (get_or xs i d) ≡ xs
set_same_again [] i d less = absurd (omega arith)
set_same_again (x ∷ xs) zero d less = refl
set_same_again (x ∷ xs) (suc i) d less = ap (λ v. x ∷ v) (set_same_again xs i d (omega (arith, less)))

-- a link that keeps its messages
pub kept_messages : (row : List LinkView) (i : ℕ) (d q' : LinkView) → i < length row → q'.messages ≡ (get_or row i d).messages → messages_of (set row i q') ≡ messages_of row
kept_messages row i d q' less is =
    messages_put row i q'
    ∙ ap (λ v. set (messages_of row) i v) (is ∙ sym (messages_at row i d less))
    ∙ set_same_again (messages_of row) i [] (omega (arith, less, length-map row (λ (q : LinkView). q.messages)))

-- no spare is lower where that of one link isn't
pub not_lower : (row : List LinkView) (i : ℕ) (q' d : LinkView) → i < length row → (get_or row i d).spare ≤ q'.spare → (b : ℕ) → get_or (spares_of row) b 0 ≤ get_or (spares_of (set row i q')) b 0
not_lower [] i q' d less le b = absurd (omega arith)
not_lower (x ∷ row) zero q' d less le zero = le
not_lower (x ∷ row) zero q' d less le (suc b) = omega arith
not_lower (x ∷ row) (suc i) q' d less le zero = omega arith
not_lower (x ∷ row) (suc i) q' d less le (suc b) = not_lower row i q' d (omega (arith, less)) le b

-- one more link has room
pub all_above : (row : List LinkView) (i n : ℕ) (q' : LinkView) → i < length row → ((k : ℕ) → k < i → n ≤ get_or (spares_of row) k 0) → n ≤ q'.spare → (k : ℕ) → k < i + 1 → n ≤ get_or (spares_of (set row i q')) k 0
all_above [] i n q' less h le k below = absurd (omega arith)
all_above (x ∷ row) zero n q' less h le zero below = le
all_above (x ∷ row) zero n q' less h le (suc k) below = absurd (omega arith)
all_above (x ∷ row) (suc i) n q' less h le zero below = h zero (omega arith)
all_above (x ∷ row) (suc i) n q' less h le (suc k) below = all_above row i n q' (omega (arith, less)) (λ j under. h (suc j) (omega (arith, under))) le k (omega (arith, below))

-- the same beside the value of the row
pub link_not_lower : (row now : List LinkView) → row ≡ now → (i : ℕ) (q q' : LinkView) → i < length now → q ≡ get_or row i q → q.spare ≤ q'.spare → NotLowerFrom (spares_of now) (spares_of (set row i q'))
link_not_lower row now e i q q' less at le =
    let P : List LinkView → Type 0 = λ n. i < length n → NotLowerFrom (spares_of n) (spares_of (set row i q')) in
    let Q : LinkView → Type 0 = λ v. v.spare ≤ q'.spare in
    subst P e (λ h. not_lower row i q' q h (subst Q at le)) less
