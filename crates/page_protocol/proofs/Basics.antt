-- Tests that tell, and the two rules by which most proofs go.
use Rattle.std.specs.Prelude.{ℕ, ◌<◌, ◌≤◌, Bool, true, false, ◌&&◌, eqb, ltb, leb, ◌≡◌, ◌≢◌, ◌⊎◌, Option, Some, None}
use Rattle.std.proofs.Common.{refl, sym, subst, arith}
use Rattle.pcl_base.specs.declared.tx.TxId.{TxId}
use Rattle.pcl_base.specs.declared.tx.Mode.{Mode}
use Rattle.pcl_base.specs.declared.tx.Mode.TheVariants.{Shared, Exclusive}
use Rattle.std.proofs.lemmas.Bool.Decides.{nat_tests}
use mathlib.Core.Logic.{inl, inr}
use Rattle.page_protocol.specs.Invariant.{Covers, Names, Covered, Locked, EndsOk}
use Rattle.page_protocol.specs.State.{pick, same_tx, upd, updn, set_at, Right, Home, Fresh, Asking, Holding, HoldingAsks, Reading, ReadingAsks, Ended, Gone, Lock, Free, Registered, UnderRight, IsShelf}

pub and_true : (b c : Bool) → (b && c) ≡ true → (b ≡ true) × (c ≡ true)
and_true true c e = (refl, e)
and_true false c e = absurd (cc)

pub eqb_true : (n m : ℕ) → eqb n m ≡ true → n ≡ m
eqb_true n m e = grind (arith, nat_tests)

pub eqb_same : (n m : ℕ) → n ≡ m → eqb n m ≡ true
eqb_same n m e = grind (arith, nat_tests)

pub ltb_true : (n m : ℕ) → ltb n m ≡ true → n < m
ltb_true n m e = grind (arith, nat_tests)

pub ltb_holds : (n m : ℕ) → n < m → ltb n m ≡ true
ltb_holds n m e = grind (arith, nat_tests)

pub leb_true : (n m : ℕ) → leb n m ≡ true → n ≤ m
leb_true n m e = grind (arith, nat_tests)

pub leb_holds : (n m : ℕ) → n ≤ m → leb n m ≡ true
leb_holds n m e = grind (arith, nat_tests)

pub same_tx_true : (u t : TxId) → same_tx u t ≡ true → u ≡ t
same_tx_true u t e =
    let p = and_true (eqb u.node t.node) (eqb u.born t.born && eqb u.serial t.serial) e in
    let q = and_true (eqb u.born t.born) (eqb u.serial t.serial) p.1 in
    let n = eqb_true u.node t.node p.0 in
    let b = eqb_true u.born t.born q.0 in
    let s = eqb_true u.serial t.serial q.1 in
    λ i. record { node = n i; born = b i; serial = s i }

pub same_tx_refl : (t : TxId) → same_tx t t ≡ true
same_tx_refl t = grind (arith, nat_tests)

pub same_tx_tells : (u t : TxId) → ((same_tx u t ≡ true) × (u ≡ t)) ⊎ ((same_tx u t ≡ false) × (u ≢ t))
same_tx_tells u t = tells (same_tx u t) refl
  where
    tells : (b : Bool) → same_tx u t ≡ b → ((same_tx u t ≡ true) × (u ≡ t)) ⊎ ((same_tx u t ≡ false) × (u ≢ t))
    tells true e = inl (e, same_tx_true u t e)
    tells false e = inr (e, λ p. let f : same_tx t t ≡ false = subst (λ x. same_tx x t ≡ false) p e in absurd (let g = same_tx_refl t in cc))

pub eqb_refl : (n : ℕ) → eqb n n ≡ true
eqb_refl n = grind (arith, nat_tests)

-- a choice by a test
pub by_test : {X : Type 0} (b : Bool) (P : X → Type 0) (x y : X) → (b ≡ true → P x) → (b ≡ false → P y) → P (pick b x y)
by_test true P x y p q = p refl
by_test false P x y p q = q refl

-- a function of transactions after a change at t, seen at u
pub by_tx : {X : Type 0} (P : TxId → X → Type 0) (t u : TxId) (x y : X) → P t x → P u y → P u (pick (same_tx u t) x y)
by_tx P t u x y p q =
    by_test (same_tx u t) (P u) x y (λ e. subst (λ v. P v x) (sym (same_tx_true u t e)) p) (λ e. q)

-- the same, with the test's value where it isn't the changed one
pub by_tx_else : {X : Type 0} (P : TxId → X → Type 0) (t u : TxId) (x y : X) → P t x → (same_tx u t ≡ false → P u y) → P u (pick (same_tx u t) x y)
by_tx_else P t u x y p q =
    by_test (same_tx u t) (P u) x y (λ e. subst (λ v. P v x) (sym (same_tx_true u t e)) p) q

-- a function of nodes after a change at n, seen at m
pub by_node : {X : Type 0} (P : ℕ → X → Type 0) (n m : ℕ) (x y : X) → P n x → P m y → P m (pick (eqb m n) x y)
by_node P n m x y p q = by_test (eqb m n) (P m) x y (λ e. subst (λ v. P v x) (sym (eqb_true m n e)) p) (λ e. q)

pub by_node_else : {X : Type 0} (P : ℕ → X → Type 0) (n m : ℕ) (x y : X) → P n x → (eqb m n ≡ false → P m y) → P m (pick (eqb m n) x y)
by_node_else P n m x y p q = by_test (eqb m n) (P m) x y (λ e. subst (λ v. P v x) (sym (eqb_true m n e)) p) q

pub pick_same : {X : Type 0} (b : Bool) (x y : X) → b ≡ true → pick b x y ≡ x
pick_same true x y e = refl
pick_same false x y e = absurd (cc)

pub pick_other : {X : Type 0} (b : Bool) (x y : X) → b ≡ false → pick b x y ≡ y
pick_other true x y e = absurd (cc)
pick_other false x y e = refl

pub upd_same : {X : Type 0} (f : TxId → X) (t : TxId) (x : X) → upd f t x t ≡ x
upd_same f t x = pick_same _ _ _ (same_tx_refl t)

pub updn_same : {X : Type 0} (f : ℕ → X) (n : ℕ) (x : X) → updn f n x n ≡ x
updn_same f n x = pick_same _ _ _ (eqb_refl n)

pub updn_other : {X : Type 0} (f : ℕ → X) (n m : ℕ) (x : X) → m ≢ n → updn f n x m ≡ f m
updn_other f n m x d = by_node_else (λ k y. k ≢ n → y ≡ f k) n m x (f m) (λ e. absurd (e refl)) (λ e k. refl) d

pub not_above : (n m : ℕ) → (n < m → ⊥) → m ≤ n
not_above n m f = by_test (ltb n m) (λ b. m ≤ n) true true (λ s. absurd (f (ltb_true n m s))) (λ s. grind (arith, nat_tests))

-- along an equation
pub along : {X : Type 0} (P : X → Type 0) {x y : X} → x ≡ y → P x → P y
along P e p = subst P e p

pub back : {X : Type 0} (P : X → Type 0) {x y : X} → x ≡ y → P y → P x
back P e p = subst P (sym e) p

-- a table or a right that names no less covers no less
pub covered_more : (l : Option Mode) (r s : Right) (e : ℕ) (t : TxId) (m : Mode) → (Names r e t → Names s e t) → Covered l r e t m → Covered l s e t m
covered_more l r s e t Shared f (inl c) = inl c
covered_more l r s e t Shared f (inr w) = inr (f w)
covered_more l r s e t Exclusive f c = c

pub locked_more : (l : Option Mode) (r s : Right) (e : ℕ) (t : TxId) (k : Lock) → (Names r e t → Names s e t) → (k ≡ UnderRight → IsShelf r → IsShelf s) → Locked l r e t k → Locked l s e t k
locked_more l r s e t Free f g p = tt
locked_more l r s e t (Registered m) f g p = covered_more l r s e t m f p
locked_more l r s e t UnderRight f g p = g refl p

-- a table that covers more covers a lock
pub locked_listed : (l k : Option Mode) (r : Right) (e : ℕ) (t : TxId) (c : Lock) → ((m : Mode) → Covered l r e t m → Covered k r e t m) → Locked l r e t c → Locked k r e t c
locked_listed l k r e t Free f p = tt
locked_listed l k r e t (Registered m) f p = f m p
locked_listed l k r e t UnderRight f p = p

-- a listed mode covers itself
pub covered_self : (l : Option Mode) (r : Right) (e : ℕ) (t : TxId) (m : Mode) → l ≡ Some m → Covered l r e t m
covered_self l r e t Shared p = inl (back (λ x. Covers x Shared) p tt)
covered_self l r e t Exclusive p = p

-- a table after a change at one place, seen at another
pub by_set : (P : TxId → ℕ → Option Mode → Type 0) (l : TxId → ℕ → Option Mode) (t : TxId) (e : ℕ) (x : Option Mode) (u : TxId) (f : ℕ) → P t e x → P u f (l u f) → P u f (set_at l t e x u f)
by_set P l t e x u f p q =
    by_test (same_tx u t && eqb f e) (P u f) x (l u f)
    (λ s. let w = and_true (same_tx u t) (eqb f e) s in
    subst (λ v. P v f x) (sym (same_tx_true u t w.0)) (subst (λ g. P t g x) (sym (eqb_true f e w.1)) p))
    (λ s. q)

-- an ended transaction, when tables change
pub ends_kept : (era reached : ℕ) (l k : ℕ → Option Mode) (h : Home)
    → ((f : ℕ) → era < f → l f ≡ None → k f ≡ None)
    → ((c : Option ℕ) (e : ℕ) → h ≡ Ended c e → era ≤ e → l e ≡ Some Exclusive → k e ≡ Some Exclusive)
    → EndsOk era reached l h → EndsOk era reached k h
ends_kept era reached l k Fresh f g p = tt
ends_kept era reached l k (Asking m h) f g p = tt
ends_kept era reached l k (Holding m) f g p = tt
ends_kept era reached l k HoldingAsks f g p = tt
ends_kept era reached l k Reading f g p = tt
ends_kept era reached l k ReadingAsks f g p = tt
ends_kept era reached l k (Ended None e) f g p = (p.0, λ x a b. f x a (p.1 x a b))
ends_kept era reached l k (Ended (Some v) e) f g p = (p.0, λ x a b. f x a (p.1 x a b), λ a. g (Some v) e refl a (p.2 a))
ends_kept era reached l k Gone f g p = tt
