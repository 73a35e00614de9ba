-- What a change of one link does to all links.
use Rattle.std.proofs.Common.{◌≡◌, ◌≢◌, ◌∙◌, ℕ, zero, suc, ◌+◌, ◌<◌, ◌≤◌, List, map, [], ◌∷◌, length, get_or, set, Some, None, refl, ap, sym, arith, get_or-set_same, length-set, subst}
use Rattle.std.proofs.lemmas.List.{map-set, get_or-map, length-map}
use Rattle.pcl_base.specs.declared.message.Message.{Message}
use Rattle.node_rules.specs.Words.{head_of}
use Rattle.cluster_rules.specs.Links.{row_at, link_at, put_link}
use Rattle.link_model.proofs.RowLemmas.{set_same_again}
use Rattle.link_model.specs.Spares.{LinkView, LinksView, messages_of, spares_of, spare_at, put_spare, NotLowerFrom, NotLower}
use Rattle.std.proofs.Math.Seq.{map-set_same}

-- the value of rows of links
abbrev pub value_of : List (List LinkView) → LinksView
value_of rows = record { links = map messages_of rows; spares = map spares_of rows }

-- the messages and the spares of a row
pub row_is : (rows : List (List LinkView)) (a : ℕ) (r : List LinkView) → a < length rows → r ≡ get_or rows a r → get_or (map messages_of rows) a [] ≡ messages_of r
row_is rows a r less at = get_or-map messages_of rows a r [] less ∙ ap messages_of (sym at)

pub spares_is : (rows : List (List LinkView)) (a : ℕ) (r : List LinkView) → a < length rows → r ≡ get_or rows a r → get_or (map spares_of rows) a [] ≡ spares_of r
spares_is rows a r less at = get_or-map spares_of rows a r [] less ∙ ap spares_of (sym at)

pub spares_put : (rows : List (List LinkView)) (a : ℕ) (r : List LinkView) → a < length rows → get_or (map spares_of (set rows a r)) a [] ≡ spares_of r
spares_put rows a r less =
    get_or-map spares_of (set rows a r) a r [] (omega (arith, less, length-set rows a r)) ∙ ap spares_of (get_or-set_same rows a r r less)

-- the rows are as many as the lists of messages
within : (rows : List (List LinkView)) (a : ℕ) → a < length (map messages_of rows) → a < length rows
within rows a less = omega (arith, less, length-map rows messages_of)

-- the messages on a link
pub link_is : (rows : List (List LinkView)) (now : LinksView) → value_of rows ≡ now → (a b : ℕ) (r : List LinkView) → a < length now.links → r ≡ get_or rows a r → get_or (messages_of r) b [] ≡ link_at now.links a b
unfolding link_at
link_is rows now e a b r less at =
    let P : LinksView → Type 0 = λ n. a < length n.links → get_or (messages_of r) b [] ≡ get_or (get_or n.links a []) b [] in
    subst P e (λ h. ap (λ v. get_or v b []) (sym (row_is rows a r (within rows a h) at))) less

-- other messages on a link
pub changed_links : (rows : List (List LinkView)) (now : LinksView) → value_of rows ≡ now → (a b : ℕ) (r r' : List LinkView) (f : List Message → List Message) → a < length now.links → r ≡ get_or rows a r → messages_of r' ≡ set (messages_of r) b (f (get_or (messages_of r) b [])) → map messages_of (set rows a r') ≡ put_link now.links a b (f (link_at now.links a b))
unfolding put_link link_at
changed_links rows now e a b r r' f less at is =
    let P : LinksView → Type 0 = λ n. a < length n.links → map messages_of (set rows a r') ≡ set n.links a (set (get_or n.links a []) b (f (get_or (get_or n.links a []) b []))) in
    subst P e
    (λ h.
    map-set messages_of rows a r'
    ∙ ap (λ v. set (map messages_of rows) a v) (is ∙ ap (λ v. set v b (f (get_or v b []))) (sym (row_is rows a r (within rows a h) at))))
    less

-- a row with the messages that it had
pub links_kept : (rows : List (List LinkView)) (now : LinksView) → value_of rows ≡ now → (a : ℕ) (r r' : List LinkView) → r ≡ get_or rows a r → messages_of r' ≡ messages_of r → map messages_of (set rows a r') ≡ now.links
links_kept rows now e a r r' at is = map-set_same messages_of rows a r' r (is ∙ ap messages_of at) ∙ ap (λ (v : LinksView). v.links) e

-- another spare of a link
pub changed_spares : (rows : List (List LinkView)) (now : LinksView) → value_of rows ≡ now → (a b : ℕ) (r r' : List LinkView) → a < length now.links → r ≡ get_or rows a r → spares_of r' ≡ set (spares_of r) b (get_or (spares_of r') b 0) → map spares_of (set rows a r') ≡ put_spare now.spares a b (spare_at (map spares_of (set rows a r')) a b)
changed_spares rows now e a b r r' less at is =
    let P : LinksView → Type 0 = λ n. a < length n.links → map spares_of (set rows a r') ≡ set n.spares a (set (get_or n.spares a []) b (get_or (get_or (map spares_of (set rows a r')) a []) b 0)) in
    subst P e
    (λ h.
    map-set spares_of rows a r'
    ∙ ap (λ v. set (map spares_of rows) a v)
    (is ∙ ap (λ v. set v b (get_or (spares_of r') b 0)) (sym (spares_is rows a r (within rows a h) at))
    ∙ ap (λ v. set (get_or (map spares_of rows) a []) b (get_or v b 0)) (sym (spares_put rows a r' (within rows a h)))))
    less

pub changed_spare : (rows : List (List LinkView)) (now : LinksView) → value_of rows ≡ now → (R : ℕ → ℕ → Type 0) (a b : ℕ) (r r' : List LinkView) → a < length now.links → r ≡ get_or rows a r → R (get_or (spares_of r) b 0) (get_or (spares_of r') b 0) → R (spare_at now.spares a b) (spare_at (map spares_of (set rows a r')) a b)
changed_spare rows now e R a b r r' less at is =
    let P : LinksView → Type 0 = λ n. a < length n.links → R (get_or (get_or n.spares a []) b 0) (get_or (get_or (map spares_of (set rows a r')) a []) b 0) in
    subst P e
    (λ h.
    let Q : List ℕ → Type 0 = λ v. R (get_or v b 0) (get_or (get_or (map spares_of (set rows a r')) a []) b 0) in
    let S : List ℕ → Type 0 = λ v. R (get_or (spares_of r) b 0) (get_or v b 0) in
    subst Q (sym (spares_is rows a r (within rows a h) at)) (subst S (sym (spares_put rows a r' (within rows a h))) is))
    less

-- a row that keeps its messages
pub kept_links : (rows : List (List LinkView)) (now : LinksView) → value_of rows ≡ now → (a : ℕ) (r r' : List LinkView) → a < length now.links → r ≡ get_or rows a r → messages_of r' ≡ messages_of r → map messages_of (set rows a r') ≡ now.links
kept_links rows now e a r r' less at is =
    let P : LinksView → Type 0 = λ n. a < length n.links → map messages_of (set rows a r') ≡ n.links in
    subst P e
    (λ h.
    map-set messages_of rows a r'
    ∙ ap (λ v. set (map messages_of rows) a v) (is ∙ sym (row_is rows a r (within rows a h) at))
    ∙ set_same_again (map messages_of rows) a [] h)
    less

-- no spare is lower where none of one row is
pub lower_nowhere : (rows : List (List LinkView)) (a : ℕ) (r' d : List LinkView) → a < length rows → NotLowerFrom (spares_of (get_or rows a d)) (spares_of r') → NotLower (map spares_of rows) (map spares_of (set rows a r'))
lower_nowhere [] a r' d less le x y = absurd (omega arith)
lower_nowhere (row ∷ rows) zero r' d less le zero y = le y
lower_nowhere (row ∷ rows) zero r' d less le (suc x) y = omega arith
lower_nowhere (row ∷ rows) (suc a) r' d less le zero y = omega arith
lower_nowhere (row ∷ rows) (suc a) r' d less le (suc x) y = lower_nowhere rows a r' d (omega (arith, less)) le x y

pub lower_in_none : (rows : List (List LinkView)) (now : LinksView) → value_of rows ≡ now → (a : ℕ) (r r' : List LinkView) → a < length now.links → r ≡ get_or rows a r → NotLowerFrom (spares_of r) (spares_of r') → NotLower now.spares (map spares_of (set rows a r'))
lower_in_none rows now e a r r' less at le =
    let P : LinksView → Type 0 = λ n. a < length n.links → NotLower n.spares (map spares_of (set rows a r')) in
    let Q : List LinkView → Type 0 = λ v. NotLowerFrom (spares_of v) (spares_of r') in
    subst P e (λ h. lower_nowhere rows a r' r (within rows a h) (subst Q at le)) less

-- the spares of a row
pub spares_of_row : (rows : List (List LinkView)) (now : LinksView) → value_of rows ≡ now → (a b : ℕ) (r r' : List LinkView) (n : ℕ) → a < length now.links → r ≡ get_or rows a r → ((k : ℕ) → k < length r → n ≤ get_or (spares_of r') k 0) → b < length (row_at now.links a) → n ≤ spare_at (map spares_of (set rows a r')) a b
spares_of_row rows now e a b r r' n less at all below =
    let P : LinksView → Type 0 = λ v. a < length v.links → b < length (get_or v.links a []) → n ≤ get_or (get_or (map spares_of (set rows a r')) a []) b 0 in
    subst P e
    (λ h under.
    let Q : List ℕ → Type 0 = λ v. n ≤ get_or v b 0 in
    let R : List (List Message) → Type 0 = λ v. b < length v in
    let inside : b < length (messages_of r) = subst R (row_is rows a r (within rows a h) at) under in
    subst Q (sym (spares_put rows a r' (within rows a h))) (all b (omega (arith, inside, length-map r (λ (q : LinkView). q.messages)))))
    less below

-- a link with a head isn't empty, and one with none is
pub some_head : {X : Type 0} (xs : List X) (x : X) → Some x ≡ head_of xs → xs ≢ []
some_head [] x is = λ e. let bad : Some x ≡ None = is in absurd (cc)
some_head (y ∷ xs) x is = λ e. absurd (cc)

pub no_head : {X : Type 0} (xs : List X) → None ≡ head_of xs → xs ≡ []
no_head [] is = refl
no_head (y ∷ xs) is = let bad : None ≡ Some y = is in absurd (cc)

-- the same put twice
pub set_twice : {X : Type 0} (xs : List X) (i : ℕ) (x : X) → set (set xs i x) i x ≡ set xs i x
set_twice [] i x = refl
set_twice (y ∷ xs) zero x = refl
set_twice (y ∷ xs) (suc i) x = ap (λ v. y ∷ v) (set_twice xs i x)

-- what clearing makes of links in which one more row was cleared is the same
pub one_more_cleared : (rows : List (List LinkView)) (a to : ℕ) (r' d : List LinkView) → a < length rows → messages_of r' ≡ set (messages_of (get_or rows a d)) to [] → map (λ (row : List (List Message)). set row to []) (map messages_of (set rows a r')) ≡ map (λ (row : List (List Message)). set row to []) (map messages_of rows)
one_more_cleared [] a to r' d less is = refl
one_more_cleared (row ∷ rows) zero to r' d less is =
    ap (λ v. v ∷ map (λ (row : List (List Message)). set row to []) (map messages_of rows)) (ap (λ v. set v to []) is ∙ set_twice (messages_of row) to [])
one_more_cleared (row ∷ rows) (suc a) to r' d less is =
    ap (λ v. set (messages_of row) to [] ∷ v) (one_more_cleared rows a to r' d (omega (arith, less)) is)

-- the rows so far are cleared
abbrev pub AreCleared : List (List LinkView) → ℕ → ℕ → Type 0
AreCleared rows to n = (k : ℕ) → k < n → set (get_or (map messages_of rows) k []) to [] ≡ get_or (map messages_of rows) k []

pub more_cleared : (rows : List (List LinkView)) (a to : ℕ) (r' d : List LinkView) → a < length rows → messages_of r' ≡ set (messages_of (get_or rows a d)) to [] → AreCleared rows to a → AreCleared (set rows a r') to (a + 1)
more_cleared [] a to r' d less is h k below = absurd (omega (arith, less))
more_cleared (row ∷ rows) zero to r' d less is h zero below = ap (λ v. set v to []) is ∙ set_twice (messages_of row) to [] ∙ sym is
more_cleared (row ∷ rows) zero to r' d less is h (suc k) below = absurd (omega (arith, below))
more_cleared (row ∷ rows) (suc a) to r' d less is h zero below = h zero (omega arith)
more_cleared (row ∷ rows) (suc a) to r' d less is h (suc k) below = more_cleared rows a to r' d (omega (arith, less)) is (λ j under. h (suc j) (omega (arith, under))) k (omega (arith, below))

-- rows that are all cleared are what clearing makes of them
pub whole_cleared : (rows : List (List LinkView)) (to : ℕ) → AreCleared rows to (length rows) → map (λ (row : List (List Message)). set row to []) (map messages_of rows) ≡ map messages_of rows
whole_cleared [] to h = refl
whole_cleared (row ∷ rows) to h =
    ap (λ v. v ∷ map (λ (r : List (List Message)). set r to []) (map messages_of rows)) (h zero (omega arith))
    ∙ ap (λ v. messages_of row ∷ v) (whole_cleared rows to (λ k under. h (suc k) (omega (arith, under))))
