-- The serials of open transactions, and how many of these use a page, when one is begun or closed.
use Rattle.std.proofs.Common.{◌≡◌, ℕ, ◌+◌, ◌<◌, ◌≤◌, ◌==◌, not, cond, Bool, true, false, List, [], ◌∷◌, ◌++◌, length, Option, Some, None, refl, ap, sym, ◌∙◌, arith}
use Rattle.std.proofs.lemmas.Bool.Decides.{nat_tests}
use Rattle.std.specs.List.{filter}
use Rattle.node_rules.specs.Words.{pick}
use Rattle.node_rules.specs.OpenTxs.{OpenTx, with_serial}
use Rattle.home_laws.specs.Homes.{AreSerials, uses}
use Rattle.home_laws.proofs.Words.{equal}
use Rattle.home_laws.proofs.Opens.{stays}

pub serials_below : (low last : ℕ) (xs : List OpenTx) → AreSerials low last xs → low ≤ last
serials_below low last [] s = s
serials_below low last (x ∷ xs) s = omega (arith, s.0, serials_below x.serial last xs s.1)

-- a lower bound may be lower, and an upper one higher
pub serials_lower : (low lower last : ℕ) (xs : List OpenTx) → lower ≤ low → AreSerials low last xs → AreSerials lower last xs
serials_lower low lower last [] l s = omega arith
serials_lower low lower last (x ∷ xs) l s = (omega (arith, s.0), s.1)

closed_case : (low last : ℕ) (x : OpenTx) (ys : List OpenTx) (b : Bool) → low < x.serial → AreSerials x.serial last ys → AreSerials low last (cond b (x ∷ ys) ys)
closed_case low last x ys true l s = (l, s)
closed_case low last x ys false l s = serials_lower x.serial low last ys (omega arith) s

-- the serials of some of the transactions
pub serials_kept : (low last : ℕ) (test : OpenTx → Bool) (xs : List OpenTx) → AreSerials low last xs → AreSerials low last (filter test xs)
serials_kept low last test [] s = s
serials_kept low last test (x ∷ xs) s = closed_case low last x (filter test xs) (test x) s.0 (serials_kept x.serial last test xs s.1)

-- the next serial goes last
pub serials_pushed : (low last : ℕ) (x : OpenTx) (xs : List OpenTx) → x.serial ≡ last + 1 → AreSerials low last xs → AreSerials low (last + 1) (xs ++ x ∷ [])
serials_pushed low last x [] e s = (omega arith, omega arith)
serials_pushed low last x (y ∷ xs) e s = (s.0, serials_pushed y.serial last x xs e s.1)

-- without a serial that none has, all stay
pub none_leaves : (low last s : ℕ) (xs : List OpenTx) → s ≤ low → AreSerials low last xs → filter (stays s) xs ≡ xs
none_leaves low last s [] l h = refl
none_leaves low last s (x ∷ xs) l h =
    let first : low < x.serial = h.0 in
    let other : (x.serial == s) ≡ false = grind (arith, nat_tests) in
    ap (λ b. cond (not b) (x ∷ filter (stays s) xs) (filter (stays s) xs)) other ∙ ap (λ ys. x ∷ ys) (none_leaves x.serial last s xs (omega arith) h.1)

-- how many use a page once one left
abbrev pub one_if : Bool → ℕ
one_if true = 1
one_if false = 0

length_case : (b : Bool) (x : OpenTx) (ys : List OpenTx) → length (cond b (x ∷ ys) ys) ≡ one_if b + length ys
length_case true x ys = omega arith
length_case false x ys = omega arith

some_equal : (x y : OpenTx) → Some x ≡ Some y → x ≡ y
some_equal x y e = cc

users_case : (low last s p : ℕ) (x y : OpenTx) (xs : List OpenTx) (b : Bool) → (y.serial == s) ≡ b → AreSerials low last (y ∷ xs) → pick b (Some y) (with_serial xs s) ≡ Some x
    → (with_serial xs s ≡ Some x → length (filter (uses p) (filter (stays s) xs)) + one_if (uses p x) ≡ length (filter (uses p) xs))
    → length (filter (uses p) (cond (not b) (y ∷ filter (stays s) xs) (filter (stays s) xs))) + one_if (uses p x) ≡ length (filter (uses p) (y ∷ xs))
users_case low last s p x y xs true e h found rest =
    let left : filter (stays s) xs ≡ xs = none_leaves y.serial last s xs (omega (arith, equal y.serial s e)) h.1 in
    let same = some_equal y x found in
    let all = length_case (uses p y) y (filter (uses p) xs) in
    ap (λ l. length (filter (uses p) l) + one_if (uses p x)) left
    ∙ ap (λ z. length (filter (uses p) xs) + one_if (uses p z)) (sym same)
    ∙ omega (arith, all)
users_case low last s p x y xs false e h found rest =
    let before = length_case (uses p y) y (filter (uses p) xs) in
    let after = length_case (uses p y) y (filter (uses p) (filter (stays s) xs)) in
    omega (arith, before, after, rest found)

pub users_left : (low last s p : ℕ) (x : OpenTx) (xs : List OpenTx) → AreSerials low last xs → with_serial xs s ≡ Some x
    → length (filter (uses p) (filter (stays s) xs)) + one_if (uses p x) ≡ length (filter (uses p) xs)
unfolding with_serial
users_left low last s p x [] h found = absurd (cc)
users_left low last s p x (y ∷ xs) h found =
    users_case low last s p x y xs (y.serial == s) refl h found (λ f. users_left y.serial last s p x xs h.1 f)

-- a new transaction uses no page
push_case : (p : ℕ) (x y : OpenTx) (xs : List OpenTx) (b : Bool) → filter (uses p) (xs ++ x ∷ []) ≡ filter (uses p) xs → cond b (y ∷ filter (uses p) (xs ++ x ∷ [])) (filter (uses p) (xs ++ x ∷ [])) ≡ cond b (y ∷ filter (uses p) xs) (filter (uses p) xs)
push_case p x y xs b e = ap (λ l. cond b (y ∷ l) l) e

pub users_pushed : (p : ℕ) (x : OpenTx) (xs : List OpenTx) → uses p x ≡ false → filter (uses p) (xs ++ x ∷ []) ≡ filter (uses p) xs
users_pushed p x [] none = ap (λ b. cond b (x ∷ []) []) none
users_pushed p x (y ∷ xs) none = push_case p x y xs (uses p y) (users_pushed p x xs none)

-- what is seen of a new transaction that has what one that isn't open has
begun_case : {X : Type 0} (f : Option OpenTx → X) (b : Bool) (y : OpenTx) (l m : Option OpenTx) → f l ≡ f m → f (pick b (Some y) l) ≡ f (pick b (Some y) m)
begun_case f true y l m e = refl
begun_case f false y l m e = e

pub serial_pushed : {X : Type 0} (f : Option OpenTx → X) (x : OpenTx) (s : ℕ) (xs : List OpenTx) → f (Some x) ≡ f None → f (with_serial (xs ++ x ∷ []) s) ≡ f (with_serial xs s)
unfolding with_serial
serial_pushed f x s [] e = one (x.serial == s)
  where
    one : (b : Bool) → f (pick b (Some x) None) ≡ f None
    one true = e
    one false = refl
serial_pushed f x s (y ∷ xs) e = begun_case f (y.serial == s) y (with_serial (xs ++ x ∷ []) s) (with_serial xs s) (serial_pushed f x s xs e)
