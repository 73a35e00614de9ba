-- Tests of numbers and of transactions, and what they tell.
use Rattle.std.proofs.Common.{◌≡◌, ℕ, ◌==◌, ◌&&◌, Bool, true, false, refl, ap, sym, ◌∙◌, arith}
use Rattle.std.proofs.lemmas.Bool.Decides.{nat_tests}
use Rattle.pcl_base.specs.declared.tx.TxId.{TxId}
use Rattle.node_rules.specs.Words.{pick, same_tx}

pub and_true : (b c : Bool) → (b && c) ≡ true → (b ≡ true) × (c ≡ true)
and_true true c e = (refl, e)
and_true false c e = absurd (cc)

pub not_both : (b : Bool) → b ≡ true → b ≡ false → ⊥
not_both b holds fails = let bad : true ≡ false = sym holds ∙ fails in cc

pub equal : (m n : ℕ) → (m == n) ≡ true → m ≡ n
equal m n e = grind (arith, nat_tests)

pub equal_test : (m n : ℕ) → m ≡ n → (m == n) ≡ true
equal_test m n e = grind (arith, nat_tests)

pub self_test : (n : ℕ) → (n == n) ≡ true
self_test n = grind (arith, nat_tests)

pub swap_test : (m n : ℕ) → (m == n) ≡ (n == m)
swap_test m n = by_case (m == n) refl
  where
    by_case : (b : Bool) → (m == n) ≡ b → (m == n) ≡ (n == m)
    by_case true e = let h : (n == m) ≡ true = grind (arith, nat_tests) in e ∙ sym h
    by_case false e = let h : (n == m) ≡ false = grind (arith, nat_tests) in e ∙ sym h

-- the names of one transaction are equal
pub same_equal : (t u : TxId) → same_tx t u ≡ true → t ≡ u
same_equal t u e =
    let p = and_true (t.node == u.node && t.born == u.born) (t.serial == u.serial) e in
    let q = and_true (t.node == u.node) (t.born == u.born) p.0 in
    let n = equal t.node u.node q.0 in
    let b = equal t.born u.born q.1 in
    let s = equal t.serial u.serial p.1 in
    λ i. record { node = n i; born = b i; serial = s i }

pub same_self : (t : TxId) → same_tx t t ≡ true
same_self t = grind (arith, nat_tests)

pub same_swap : (t u : TxId) → same_tx t u ≡ same_tx u t
same_swap t u = λ i. swap_test t.node u.node i && swap_test t.born u.born i && swap_test t.serial u.serial i

-- what a choice gives
pub pick_true : {X : Type 0} (b : Bool) (x y : X) → b ≡ true → pick b x y ≡ x
pick_true b x y e = ap (λ c. pick c x y) e

pub pick_false : {X : Type 0} (b : Bool) (x y : X) → b ≡ false → pick b x y ≡ y
pick_false b x y e = ap (λ c. pick c x y) e

pub pick_same : {X : Type 0} (b : Bool) (x : X) → pick b x x ≡ x
pick_same true x = refl
pick_same false x = refl

-- by a test
pub by_test : {X : Type 0} (b : Bool) (P : X → Type 0) (x y : X) → (b ≡ true → P x) → (b ≡ false → P y) → P (pick b x y)
by_test true P x y p q = p refl
by_test false P x y p q = q refl
