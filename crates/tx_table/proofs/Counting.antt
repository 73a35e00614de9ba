-- The sums over the open transactions, under changes.
use Rattle.std.proofs.Common.{◌≡◌, ℕ, ◌+◌, ◌≤◌, nat_eq, Bool, true, false, cond, Some, List, [], ◌∷◌, ◌++◌, ap, arith}
use Rattle.std.specs.Map.{lookup, set_value, remove_entry, values_of}
use Rattle.node_rules.specs.OpenTxs.{OpenTx}
use Rattle.tx_table.specs.Counts.{total}

-- one transaction more
pub total_pushed : (f : OpenTx → ℕ) (x : OpenTx) (xs : List OpenTx) → total f (xs ++ x ∷ []) ≡ total f xs + f x
total_pushed f x [] = omega arith
total_pushed f x (y ∷ xs) =
    let rest = total_pushed f x xs in
    omega (arith, rest)

some_same : (x y : OpenTx) → Some x ≡ Some y → x ≡ y
some_same x y same = cc

-- another transaction under a serial
set_case : (f : OpenTx → ℕ) (n : ℕ) (v w : OpenTx) (e : ℕ × OpenTx) (es : List (ℕ × OpenTx)) (b : Bool)
    → cond b (Some e.1) (lookup (nat_eq n) es) ≡ Some v
    → (lookup (nat_eq n) es ≡ Some v → total f (values_of (set_value (nat_eq n) es w)) + f v ≡ total f (values_of es) + f w)
    → total f (values_of (cond b ((e.0, w) ∷ es) (e ∷ set_value (nat_eq n) es w))) + f v ≡ f e.1 + total f (values_of es) + f w
set_case f n v w e es true there rest =
    let here : f e.1 ≡ f v = ap f (some_same e.1 v there) in
    omega (arith, here)
set_case f n v w e es false there rest =
    let later = rest there in
    omega (arith, later)

pub total_set : (f : OpenTx → ℕ) (n : ℕ) (v w : OpenTx) (es : List (ℕ × OpenTx)) → lookup (nat_eq n) es ≡ Some v
    → total f (values_of (set_value (nat_eq n) es w)) + f v ≡ total f (values_of es) + f w
total_set f n v w [] there = absurd (cc)
total_set f n v w (e ∷ es) there = set_case f n v w e es (nat_eq n e.0) there (λ later. total_set f n v w es later)

-- a transaction less
gone_case : (f : OpenTx → ℕ) (n : ℕ) (v : OpenTx) (e : ℕ × OpenTx) (es : List (ℕ × OpenTx)) (b : Bool)
    → cond b (Some e.1) (lookup (nat_eq n) es) ≡ Some v
    → (lookup (nat_eq n) es ≡ Some v → total f (values_of (remove_entry (nat_eq n) es)) + f v ≡ total f (values_of es))
    → total f (values_of (cond b es (e ∷ remove_entry (nat_eq n) es))) + f v ≡ f e.1 + total f (values_of es)
gone_case f n v e es true there rest =
    let here : f e.1 ≡ f v = ap f (some_same e.1 v there) in
    omega (arith, here)
gone_case f n v e es false there rest =
    let later = rest there in
    omega (arith, later)

pub total_gone : (f : OpenTx → ℕ) (n : ℕ) (v : OpenTx) (es : List (ℕ × OpenTx)) → lookup (nat_eq n) es ≡ Some v
    → total f (values_of (remove_entry (nat_eq n) es)) + f v ≡ total f (values_of es)
total_gone f n v [] there = absurd (cc)
total_gone f n v (e ∷ es) there = gone_case f n v e es (nat_eq n e.0) there (λ later. total_gone f n v es later)

-- each transaction counts for at most the sum
pub total_least : (f : OpenTx → ℕ) (n : ℕ) (v : OpenTx) (es : List (ℕ × OpenTx)) → lookup (nat_eq n) es ≡ Some v → f v ≤ total f (values_of es)
total_least f n v es there =
    let sum = total_gone f n v es there in
    omega (arith, sum)
