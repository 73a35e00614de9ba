-- Tests of numbers, of names and of two tests.
use Rattle.std.proofs.Common.{◌≡◌, ℕ, ◌==◌, ◌&&◌, not, Bool, true, false, Option, Some, None, is_some, refl, eqb-true, arith}
use Rattle.std.proofs.lemmas.Bool.Decides.{nat_tests}
use Rattle.pcl_base.specs.declared.tx.TxId.{TxId}
use Rattle.node_rules.specs.Words.{same_tx}
use Rattle.node_rules.specs.OpenTxs.{OpenTxs, is_own}

-- a test that counts as one where it holds
abbrev pub one : Bool → ℕ
one true = 1
one false = 0

pub number_same : (n : ℕ) → (n == n) ≡ true
number_same n = grind (arith, nat_tests)

pub number_equal : (m n : ℕ) → (m == n) ≡ true → m ≡ n
number_equal m n e = eqb-true m n e

pub number_turned : (m n : ℕ) → (m == n) ≡ false → (n == m) ≡ false
number_turned m n e = grind (arith, nat_tests)

pub and_left : (a b : Bool) → a && b ≡ true → a ≡ true
and_left true b e = refl
and_left false b e = e

pub and_right : (a b : Bool) → a && b ≡ true → b ≡ true
and_right true b e = e
and_right false b e = absurd (cc)

pub not_true : (a : Bool) → not a ≡ true → a ≡ false
not_true true e = absurd (cc)
not_true false e = refl

pub not_false : (a : Bool) → not a ≡ false → a ≡ true
not_false true e = refl
not_false false e = absurd (cc)

pub true_false : {X : Type 0} → (b : Bool) → b ≡ true → b ≡ false → X
true_false b t f = absurd (cc)

pub tx_same : (t : TxId) → same_tx t t ≡ true
tx_same t = grind (arith, nat_tests)

pub tx_equal : (t u : TxId) → same_tx t u ≡ true → t ≡ u
tx_equal t u e =
    let front = and_left (t.node == u.node && t.born == u.born) (t.serial == u.serial) e in
    let node = number_equal t.node u.node (and_left (t.node == u.node) (t.born == u.born) front) in
    let born = number_equal t.born u.born (and_right (t.node == u.node) (t.born == u.born) front) in
    let serial = number_equal t.serial u.serial (and_right (t.node == u.node && t.born == u.born) (t.serial == u.serial) e) in
    (λ i. record { node = node i; born = born i; serial = serial i })

pub tx_turned : (t u : TxId) → same_tx t u ≡ false → same_tx u t ≡ false
tx_turned t u e = grind (arith, nat_tests)

-- two own transactions that differ have different serials
pub serials_apart : (s : OpenTxs) (t u : TxId) → is_own s t ≡ true → is_own s u ≡ true → same_tx u t ≡ false → (t.serial == u.serial) ≡ false
serials_apart s t u own mine other =
    let a = number_equal t.node s.node (and_left (t.node == s.node) (t.born == s.born) own) in
    let b = number_equal t.born s.born (and_right (t.node == s.node) (t.born == s.born) own) in
    let c = number_equal u.node s.node (and_left (u.node == s.node) (u.born == s.born) mine) in
    let d = number_equal u.born s.born (and_right (u.node == s.node) (u.born == s.born) mine) in
    grind (arith, nat_tests)

-- what is there
pub some_there : {X : Type 0} → (o : Option X) → is_some o ≡ true → (x : X) × (o ≡ Some x)
some_there None e = absurd (cc)
some_there (Some x) e = (x, refl)

pub none_there : {X : Type 0} → (o : Option X) → is_some o ≡ false → o ≡ None
none_there None e = refl
none_there (Some x) e = absurd (cc)
