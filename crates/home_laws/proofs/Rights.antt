-- The rights of a node and their readers, under the changes of a shelf.
use Rattle.std.proofs.Common.{◌≡◌, ℕ, ◌==◌, ◌||◌, not, Bool, true, false, List, [], ◌∷◌, ◌++◌, cond, Option, Some, None, is_some, refl, ap, sym, subst, ◌∙◌}
use Rattle.std.proofs.lemmas.List.Elements.{All-push, All-filter}
use Rattle.std.specs.Prelude.{option_map}
use Rattle.std.specs.List.{All, filter}
use Rattle.pcl_base.specs.declared.tx.TxId.{TxId}
use Rattle.node_rules.specs.Words.{pick, same_tx, among}
use Rattle.node_rules.specs.Shelf.{Right, right_on, accept, change_right, with_one_reader, add_reader, end_reader, spend, readers_of}
use Rattle.home_laws.proofs.Tests.{number_same, number_equal, tx_same, tx_equal}
use Rattle.home_laws.proofs.Users.{or_left, or_right}

-- a change that leaves the page
abbrev pub KeepsRight : (Right → Right) → Type 0
KeepsRight f = (r : Right) → (f r).page ≡ r.page

pub right_here : (f : Right → Right) → KeepsRight f → (rs : List Right) (p : ℕ) → right_on (change_right f rs p) p ≡ option_map f (right_on rs p)
unfolding right_on change_right
right_here f keeps [] p = refl
right_here f keeps (r ∷ rs) p = by (r.page == p) refl (right_here f keeps rs p)
  where
    by : (b : Bool) → (r.page == p) ≡ b → right_on (change_right f rs p) p ≡ option_map f (right_on rs p)
        → pick ((pick b (f r) r).page == p) (Some (pick b (f r) r)) (right_on (change_right f rs p) p) ≡ option_map f (pick b (Some r) (right_on rs p))
    by true t ih =
        let same : ((f r).page == p) ≡ true = ap (λ m. m == p) (keeps r) ∙ t in
        ap (λ c. pick c (Some (f r)) (right_on (change_right f rs p) p)) same
    by false t ih = ap (λ c. pick c (Some r) (right_on (change_right f rs p) p)) t ∙ ih

pub right_there : (f : Right → Right) → KeepsRight f → (rs : List Right) (p q : ℕ) → (p == q) ≡ false → right_on (change_right f rs p) q ≡ right_on rs q
unfolding right_on change_right
right_there f keeps [] p q other = refl
right_there f keeps (r ∷ rs) p q other = by (r.page == p) refl (right_there f keeps rs p q other)
  where
    by : (b : Bool) → (r.page == p) ≡ b → right_on (change_right f rs p) q ≡ right_on rs q
        → pick ((pick b (f r) r).page == q) (Some (pick b (f r) r)) (right_on (change_right f rs p) q) ≡ pick (r.page == q) (Some r) (right_on rs q)
    by true t ih =
        let differs : (r.page == q) ≡ false = ap (λ n. n == q) (number_equal r.page p t) ∙ other in
        let same : ((f r).page == q) ≡ false = ap (λ m. m == q) (keeps r) ∙ differs in
        ap (λ c. pick c (Some (f r)) (right_on (change_right f rs p) q)) same ∙ ih ∙ ap (λ c. pick c (Some r) (right_on rs q)) (sym differs)
    by false t ih = ap (λ o. pick (r.page == q) (Some r) o) ih

-- a spent right
pub spent_here : (rs : List Right) (p : ℕ) → right_on (spend rs p) p ≡ None
unfolding right_on spend
spent_here [] p = refl
spent_here (r ∷ rs) p = by (r.page == p) refl (spent_here rs p)
  where
    by : (b : Bool) → (r.page == p) ≡ b → right_on (filter (λ r. not (r.page == p)) rs) p ≡ None
        → right_on (cond (not b) (r ∷ filter (λ r. not (r.page == p)) rs) (filter (λ r. not (r.page == p)) rs)) p ≡ None
    by true t ih = ih
    by false t ih = ap (λ c. pick c (Some r) (right_on (filter (λ r. not (r.page == p)) rs) p)) t ∙ ih

pub spent_there : (rs : List Right) (p q : ℕ) → (p == q) ≡ false → right_on (spend rs p) q ≡ right_on rs q
unfolding right_on spend
spent_there [] p q other = refl
spent_there (r ∷ rs) p q other = by (r.page == p) refl (spent_there rs p q other)
  where
    by : (b : Bool) → (r.page == p) ≡ b → right_on (filter (λ r. not (r.page == p)) rs) q ≡ right_on rs q
        → right_on (cond (not b) (r ∷ filter (λ r. not (r.page == p)) rs) (filter (λ r. not (r.page == p)) rs)) q ≡ pick (r.page == q) (Some r) (right_on rs q)
    by true t ih =
        let differs : (r.page == q) ≡ false = ap (λ n. n == q) (number_equal r.page p t) ∙ other in
        ih ∙ ap (λ c. pick c (Some r) (right_on rs q)) (sym differs)
    by false t ih = ap (λ o. pick (r.page == q) (Some r) o) ih

-- a right that is accepted has no reader
abbrev pub fresh_right : ℕ → ℕ → Right
fresh_right p v = record { page = p; version = v; readers = [] }

right_last_here : (rs : List Right) (p v : ℕ) → right_on rs p ≡ None → right_on (rs ++ fresh_right p v ∷ []) p ≡ Some (fresh_right p v)
unfolding right_on
right_last_here [] p v none = ap (λ c. pick c (Some (fresh_right p v)) None) (number_same p)
right_last_here (r ∷ rs) p v none = by (r.page == p) none (right_last_here rs p v)
  where
    by : (b : Bool) → pick b (Some r) (right_on rs p) ≡ None → (right_on rs p ≡ None → right_on (rs ++ fresh_right p v ∷ []) p ≡ Some (fresh_right p v))
        → pick b (Some r) (right_on (rs ++ fresh_right p v ∷ []) p) ≡ Some (fresh_right p v)
    by true e ih = absurd (cc)
    by false e ih = ih e

right_last_there : (rs : List Right) (p q v : ℕ) → (p == q) ≡ false → right_on (rs ++ fresh_right p v ∷ []) q ≡ right_on rs q
unfolding right_on
right_last_there [] p q v other = ap (λ c. pick c (Some (fresh_right p v)) None) other
right_last_there (r ∷ rs) p q v other = ap (λ o. pick (r.page == q) (Some r) o) (right_last_there rs p q v other)

pub accepted_there : (rs : List Right) (p v : ℕ) → is_some (right_on (accept rs p v) p) ≡ true
unfolding accept
accepted_there rs p v = by (right_on rs p) refl
  where
    by : (o : Option Right) → right_on rs p ≡ o → is_some (right_on (pick (is_some o) rs (rs ++ fresh_right p v ∷ [])) p) ≡ true
    by None e = ap is_some (right_last_here rs p v e)
    by (Some r) e = ap is_some e

pub accepted_readers : (rs : List Right) (p v q : ℕ) → readers_of (right_on (accept rs p v) q) ≡ readers_of (right_on rs q)
unfolding accept
accepted_readers rs p v q = by (right_on rs p) refl
  where
    by : (o : Option Right) → right_on rs p ≡ o → readers_of (right_on (pick (is_some o) rs (rs ++ fresh_right p v ∷ [])) q) ≡ readers_of (right_on rs q)
    by (Some r) e = refl
    by None e = of (p == q) refl
      where
        of : (b : Bool) → (p == q) ≡ b → readers_of (right_on (rs ++ fresh_right p v ∷ []) q) ≡ readers_of (right_on rs q)
        of true t =
            let same = number_equal p q t in
            subst (λ n. readers_of (right_on (rs ++ fresh_right p v ∷ []) n) ≡ readers_of (right_on rs n)) same (ap readers_of (right_last_here rs p v e) ∙ ap readers_of (sym e))
        of false t = ap readers_of (right_last_there rs p q v t)

-- a further reader
abbrev pub with_reader : TxId → List TxId → List TxId
with_reader t us = pick (among us t) us (us ++ t ∷ [])

pub added_here : (rs : List Right) (p : ℕ) (t : TxId) → is_some (right_on rs p) ≡ true → readers_of (right_on (add_reader rs p t) p) ≡ with_reader t (readers_of (right_on rs p))
unfolding add_reader
added_here rs p t there = ap readers_of (right_here (with_one_reader t) keeps rs p) ∙ by (right_on rs p) there
  where
    keeps : (r : Right) → (with_one_reader t r).page ≡ r.page
    keeps r = of (among r.readers t)
      where
        of : (b : Bool) → (pick b r (record r { readers = r.readers ++ t ∷ [] })).page ≡ r.page
        of true = refl
        of false = refl

    by : (o : Option Right) → is_some o ≡ true → readers_of (option_map (with_one_reader t) o) ≡ with_reader t (readers_of o)
    by None e = absurd (cc)
    by (Some r) e = of (among r.readers t)
      where
        of : (b : Bool) → (pick b r (record r { readers = r.readers ++ t ∷ [] })).readers ≡ pick b r.readers (r.readers ++ t ∷ [])
        of true = refl
        of false = refl

pub added_there : (rs : List Right) (p q : ℕ) (t : TxId) → (p == q) ≡ false → right_on (add_reader rs p t) q ≡ right_on rs q
unfolding add_reader
added_there rs p q t other = right_there (with_one_reader t) keeps rs p q other
  where
    keeps : (r : Right) → (with_one_reader t r).page ≡ r.page
    keeps r = of (among r.readers t)
      where
        of : (b : Bool) → (pick b r (record r { readers = r.readers ++ t ∷ [] })).page ≡ r.page
        of true = refl
        of false = refl

among_last : (us : List TxId) (t u : TxId) → among (us ++ t ∷ []) u ≡ (among us u || same_tx t u)
unfolding among
among_last [] t u = by (same_tx t u)
  where
    by : (b : Bool) → b || false ≡ b
    by true = refl
    by false = refl
among_last (v ∷ us) t u = by (same_tx v u) (among_last us t u)
  where
    by : (b : Bool) → among (us ++ t ∷ []) u ≡ (among us u || same_tx t u) → (b || among (us ++ t ∷ []) u) ≡ ((b || among us u) || same_tx t u)
    by true ih = refl
    by false ih = ih

pub with_reader_there : (t : TxId) (us : List TxId) → among (with_reader t us) t ≡ true
with_reader_there t us = by (among us t) refl
  where
    by : (b : Bool) → among us t ≡ b → among (pick b us (us ++ t ∷ [])) t ≡ true
    by true e = e
    by false e = among_last us t t ∙ or_right (among us t) (same_tx t t) (tx_same t)

pub with_reader_more : (t u : TxId) (us : List TxId) → among us u ≡ true → among (with_reader t us) u ≡ true
with_reader_more t u us there = by (among us t)
  where
    by : (b : Bool) → among (pick b us (us ++ t ∷ [])) u ≡ true
    by true = there
    by false = among_last us t u ∙ or_left (among us u) (same_tx t u) there

pub with_reader_all : (P : TxId → Type 0) (t : TxId) (us : List TxId) → P t → All P us → All P (with_reader t us)
with_reader_all P t us p all = by (among us t)
  where
    by : (b : Bool) → All P (pick b us (us ++ t ∷ []))
    by true = all
    by false = All-push P us t all p

-- a reader less
abbrev pub without_reader : TxId → List TxId → List TxId
without_reader t us = filter (λ u. not (same_tx u t)) us

pub ended_here : (rs : List Right) (p : ℕ) (t : TxId) → readers_of (right_on (end_reader rs p t) p) ≡ without_reader t (readers_of (right_on rs p))
unfolding end_reader
ended_here rs p t = ap readers_of (right_here (λ r. record r { readers = without_reader t r.readers }) (λ r. refl) rs p) ∙ by (right_on rs p)
  where
    by : (o : Option Right) → readers_of (option_map {T = Right} (λ r. record r { readers = without_reader t r.readers }) o) ≡ without_reader t (readers_of o)
    by None = refl
    by (Some r) = refl

pub ended_there : (rs : List Right) (p q : ℕ) (t : TxId) → (p == q) ≡ false → right_on (end_reader rs p t) q ≡ right_on rs q
unfolding end_reader
ended_there rs p q t other = right_there (λ r. record r { readers = without_reader t r.readers }) (λ r. refl) rs p q other

pub without_reader_all : (P : TxId → Type 0) (t : TxId) (us : List TxId) → All P us → All P (without_reader t us)
without_reader_all P t us all = All-filter (λ u. not (same_tx u t)) P us all

pub without_reader_more : (t u : TxId) (us : List TxId) → same_tx u t ≡ false → among us u ≡ true → among (without_reader t us) u ≡ true
unfolding among
without_reader_more t u [] other there = there
without_reader_more t u (v ∷ us) other there = by (same_tx v t) (same_tx v u) refl refl there (without_reader_more t u us other)
  where
    by : (b d : Bool) → same_tx v t ≡ b → same_tx v u ≡ d → d || among us u ≡ true → (among us u ≡ true → among (without_reader t us) u ≡ true)
        → among (cond (not b) (v ∷ without_reader t us) (without_reader t us)) u ≡ true
    by true true e g h ih =
        let same : u ≡ v = sym (tx_equal v u g) in
        let bad : same_tx u t ≡ true = ap (λ w. same_tx w t) same ∙ e in
        absurd (cc)
    by true false e g h ih = ih h
    by false true e g h ih = or_left (same_tx v u) (among (without_reader t us) u) g
    by false false e g h ih = or_right (same_tx v u) (among (without_reader t us) u) (ih h)
