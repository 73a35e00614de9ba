-- The private copies of a buffer: what a change makes of one of them, and of facts of each.
use Rattle.std.proofs.Common.{◌≡◌, ℕ, suc, ◌+◌, ◌==◌, ◌&&◌, Bool, true, false, List, [], ◌∷◌, ◌++◌, length, cond, Option, Some, None, refl, ap, sym, subst, ◌∙◌, arith}
use Rattle.std.proofs.lemmas.Bool.Decides.{nat_tests}
use Rattle.std.proofs.lemmas.List.Elements.{All-nil, All-cons, All-head, All-tail}
use Rattle.std.specs.Prelude.{option_map}
use Rattle.std.specs.List.{All, filter}
use Rattle.pcl_base.specs.declared.tx.TxId.{TxId}
use Rattle.node_rules.specs.Words.{pick, same_tx, or_else}
use Rattle.node_rules.specs.BufferRule.{PrivateCopy, is_private, private_in, change_private}
use Rattle.home_laws.proofs.Tests.{one, number_equal, and_left, and_right, tx_equal}

-- the same transaction and page
abbrev pub same_place : TxId → ℕ → TxId → ℕ → Bool
same_place u q t p = same_tx u t && q == p

pub place_same : (t : TxId) (p : ℕ) → same_place t p t p ≡ true
place_same t p = grind (arith, nat_tests)

-- a private copy with other bytes
abbrev pub with_bytes : (Option (List ℕ) → Option (List ℕ)) → PrivateCopy → PrivateCopy
with_bytes f x = record x { bytes = f x.bytes }

pub other_place : (t u : TxId) (p q : ℕ) (x : PrivateCopy) → is_private t p x ≡ true → same_place u q t p ≡ false → is_private u q x ≡ false
other_place t u p q x mine other = by (is_private u q x) refl
  where
    by : (b : Bool) → is_private u q x ≡ b → is_private u q x ≡ false
    by false e = e
    by true e =
        let a = tx_equal x.tx t (and_left (same_tx x.tx t) (x.page == p) mine) in
        let b = number_equal x.page p (and_right (same_tx x.tx t) (x.page == p) mine) in
        let c = tx_equal x.tx u (and_left (same_tx x.tx u) (x.page == q) e) in
        let d = number_equal x.page q (and_right (same_tx x.tx u) (x.page == q) e) in
        let same : same_place u q t p ≡ true = subst (λ v. same_place v q t p ≡ true) c (subst (λ n. same_place x.tx n t p ≡ true) d mine) in
        absurd (cc)

pub changed_here : (f : Option (List ℕ) → Option (List ℕ)) (xs : List PrivateCopy) (t : TxId) (p : ℕ) → private_in (change_private f xs t p) t p ≡ option_map (with_bytes f) (private_in xs t p)
unfolding private_in change_private
changed_here f [] t p = refl
changed_here f (x ∷ xs) t p = by (is_private t p x) refl (changed_here f xs t p)
  where
    by : (b : Bool) → is_private t p x ≡ b → private_in (change_private f xs t p) t p ≡ option_map (with_bytes f) (private_in xs t p)
        → pick (is_private t p (pick b (with_bytes f x) x)) (Some (pick b (with_bytes f x) x)) (private_in (change_private f xs t p) t p) ≡ option_map (with_bytes f) (pick b (Some x) (private_in xs t p))
    by true e ih = ap (λ c. pick c (Some (with_bytes f x)) (private_in (change_private f xs t p) t p)) e
    by false e ih = ap (λ c. pick c (Some x) (private_in (change_private f xs t p) t p)) e ∙ ih

pub changed_there : (f : Option (List ℕ) → Option (List ℕ)) (xs : List PrivateCopy) (t u : TxId) (p q : ℕ) → same_place u q t p ≡ false → private_in (change_private f xs t p) u q ≡ private_in xs u q
unfolding private_in change_private
changed_there f [] t u p q other = refl
changed_there f (x ∷ xs) t u p q other = by (is_private t p x) refl (changed_there f xs t u p q other)
  where
    by : (b : Bool) → is_private t p x ≡ b → private_in (change_private f xs t p) u q ≡ private_in xs u q
        → pick (is_private u q (pick b (with_bytes f x) x)) (Some (pick b (with_bytes f x) x)) (private_in (change_private f xs t p) u q) ≡ pick (is_private u q x) (Some x) (private_in xs u q)
    by true e ih =
        let no = other_place t u p q x e other in
        ap (λ c. pick c (Some (with_bytes f x)) (private_in (change_private f xs t p) u q)) no ∙ ih ∙ ap (λ c. pick c (Some x) (private_in xs u q)) (sym no)
    by false e ih = ap (λ o. pick (is_private u q x) (Some x) o) ih

-- a new one goes last
abbrev pub unfilled : TxId → ℕ → PrivateCopy
unfilled t p = record { tx = t; page = p; bytes = None }

pub appended : (xs ys : List PrivateCopy) (u : TxId) (q : ℕ) → private_in (xs ++ ys) u q ≡ or_else (private_in xs u q) (private_in ys u q)
unfolding private_in
appended [] ys u q = refl
appended (x ∷ xs) ys u q = by (is_private u q x) (appended xs ys u q)
  where
    by : (b : Bool) → private_in (xs ++ ys) u q ≡ or_else (private_in xs u q) (private_in ys u q) → pick b (Some x) (private_in (xs ++ ys) u q) ≡ or_else (pick b (Some x) (private_in xs u q)) (private_in ys u q)
    by true ih = refl
    by false ih = ih

or_none : {X : Type 0} → (o : Option X) → or_else o None ≡ o
or_none None = refl
or_none (Some x) = refl

pub appended_here : (xs : List PrivateCopy) (t : TxId) (p : ℕ) → private_in xs t p ≡ None → private_in (xs ++ unfilled t p ∷ []) t p ≡ Some (unfilled t p)
unfolding private_in
appended_here xs t p none =
    appended xs (unfilled t p ∷ []) t p ∙ ap (λ o. or_else o (private_in (unfilled t p ∷ []) t p)) none ∙ ap (λ c. pick c (Some (unfilled t p)) None) (place_same t p)

pub appended_there : (xs : List PrivateCopy) (t u : TxId) (p q : ℕ) → same_place u q t p ≡ false → private_in (xs ++ unfilled t p ∷ []) u q ≡ private_in xs u q
unfolding private_in
appended_there xs t u p q other =
    let no : is_private u q (unfilled t p) ≡ false = other_place t u p q (unfilled t p) (place_same t p) other in
    appended xs (unfilled t p ∷ []) u q ∙ ap (λ c. or_else (private_in xs u q) (pick c (Some (unfilled t p)) None)) no ∙ or_none (private_in xs u q)

-- how many private copies a transaction has of a page
abbrev pub privates_of : TxId → ℕ → List PrivateCopy → ℕ
privates_of t p xs = length (filter (is_private t p) xs)

counted : (test : PrivateCopy → Bool) (x : PrivateCopy) (xs : List PrivateCopy) → length (filter test (x ∷ xs)) ≡ one (test x) + length (filter test xs)
counted test x xs = by (test x)
  where
    by : (b : Bool) → length (cond b (x ∷ filter test xs) (filter test xs)) ≡ one b + length (filter test xs)
    by true = omega arith
    by false = omega arith

pub privates_changed : (f : Option (List ℕ) → Option (List ℕ)) (xs : List PrivateCopy) (t u : TxId) (p q : ℕ) → privates_of u q (change_private f xs t p) ≡ privates_of u q xs
unfolding change_private
privates_changed f [] t u p q = refl
privates_changed f (x ∷ xs) t u p q = by (is_private t p x) (privates_changed f xs t u p q)
  where
    by : (b : Bool) → privates_of u q (change_private f xs t p) ≡ privates_of u q xs → privates_of u q (pick b (with_bytes f x) x ∷ change_private f xs t p) ≡ privates_of u q (x ∷ xs)
    by true ih = omega (arith, counted (is_private u q) (with_bytes f x) (change_private f xs t p), counted (is_private u q) x xs, ih)
    by false ih = omega (arith, counted (is_private u q) x (change_private f xs t p), counted (is_private u q) x xs, ih)

pub privates_appended : (xs : List PrivateCopy) (x : PrivateCopy) (u : TxId) (q : ℕ) → privates_of u q (xs ++ x ∷ []) ≡ privates_of u q xs + one (is_private u q x)
privates_appended [] x u q = omega (arith, counted (is_private u q) x [])
privates_appended (y ∷ xs) x u q =
    let rest = privates_appended xs x u q in
    omega (arith, counted (is_private u q) y (xs ++ x ∷ []), counted (is_private u q) y xs, rest)

pub none_of : (xs : List PrivateCopy) (t : TxId) (p : ℕ) → private_in xs t p ≡ None → privates_of t p xs ≡ 0
unfolding private_in
none_of [] t p none = refl
none_of (x ∷ xs) t p none = by (is_private t p x) none (none_of xs t p)
  where
    by : (b : Bool) → pick b (Some x) (private_in xs t p) ≡ None → (private_in xs t p ≡ None → privates_of t p xs ≡ 0) → length (cond b (x ∷ filter (is_private t p) xs) (filter (is_private t p) xs)) ≡ 0
    by true e ih = absurd (cc)
    by false e ih = ih e

pub length_changed : (f : Option (List ℕ) → Option (List ℕ)) (xs : List PrivateCopy) (t : TxId) (p : ℕ) → length (change_private f xs t p) ≡ length xs
unfolding change_private
length_changed f [] t p = refl
length_changed f (x ∷ xs) t p = ap (λ k. suc k) (length_changed f xs t p)

-- facts of each private copy
pub all_changed : (P Q : PrivateCopy → Type 0) (f : Option (List ℕ) → Option (List ℕ)) (xs : List PrivateCopy) (t : TxId) (p : ℕ) → ((x : PrivateCopy) → P x → Q (with_bytes f x)) → ((x : PrivateCopy) → P x → Q x) → All P xs → All Q (change_private f xs t p)
unfolding change_private
all_changed P Q f [] t p here there all = All-nil Q
all_changed P Q f (x ∷ xs) t p here there all =
    All-cons Q (pick (is_private t p x) (with_bytes f x) x) (change_private f xs t p) (by (is_private t p x) (All-head P x xs all)) (all_changed P Q f xs t p here there (All-tail P x xs all))
  where
    by : (b : Bool) → P x → Q (pick b (with_bytes f x) x)
    by true h = here x h
    by false h = there x h

pub all_found : (P : PrivateCopy → Type 0) (xs : List PrivateCopy) (t : TxId) (p : ℕ) (x : PrivateCopy) → private_in xs t p ≡ Some x → All P xs → P x
unfolding private_in
all_found P [] t p x found all = absurd (cc)
all_found P (y ∷ xs) t p x found all = by (is_private t p y) found (all_found P xs t p x)
  where
    by : (b : Bool) → pick b (Some y) (private_in xs t p) ≡ Some x → (private_in xs t p ≡ Some x → All P xs → P x) → P x
    by true e ih =
        let same : y ≡ x = cc in
        subst P same (All-head P y xs all)
    by false e ih = ih e (All-tail P y xs all)
