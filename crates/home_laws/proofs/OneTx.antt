-- One open transaction changes: what it is then, that the others stay, and how many pass a test.
use Rattle.std.proofs.Common.{◌≡◌, ℕ, suc, ◌+◌, ◌<◌, ◌≤◌, ◌==◌, Bool, true, false, List, [], ◌∷◌, length, cond, Some, None, is_some, refl, ap, sym, subst, ◌∙◌, arith}
use Rattle.std.proofs.lemmas.Bool.Decides.{nat_tests}
use Rattle.std.proofs.lemmas.List.Elements.{All-cons, All-head, All-tail}
use Rattle.std.specs.Prelude.{option_map}
use Rattle.std.specs.List.{All, filter}
use Rattle.pcl_base.specs.Limits.{Sizes}
use Rattle.pcl_base.specs.declared.tx.TxId.{TxId}
use Rattle.node_rules.specs.Words.{pick, same_tx}
use Rattle.node_rules.specs.OpenTxs.{OpenTx, OpenTxs, is_own, open_at, with_serial, change_open, change_tx}
use Rattle.home_laws.specs.Homes.{AreSerials, AreOnce, AreOpen}
use Rattle.home_laws.proofs.Tests.{one, serials_apart}

-- a change that leaves the serial
abbrev pub KeepsSerial : (OpenTx → OpenTx) → Type 0
KeepsSerial f = (x : OpenTx) → (f x).serial ≡ x.serial

pub serial_here : (f : OpenTx → OpenTx) → KeepsSerial f → (xs : List OpenTx) (n : ℕ) → with_serial (change_open f xs n) n ≡ option_map f (with_serial xs n)
unfolding with_serial change_open
serial_here f keeps [] n = refl
serial_here f keeps (x ∷ xs) n = by (x.serial == n) refl (serial_here f keeps xs n)
  where
    by : (b : Bool) → (x.serial == n) ≡ b → with_serial (change_open f xs n) n ≡ option_map f (with_serial xs n)
        → pick ((pick b (f x) x).serial == n) (Some (pick b (f x) x)) (with_serial (change_open f xs n) n) ≡ option_map f (pick b (Some x) (with_serial xs n))
    by true t ih =
        let same : ((f x).serial == n) ≡ true = ap (λ m. m == n) (keeps x) ∙ t in
        ap (λ c. pick c (Some (f x)) (with_serial (change_open f xs n) n)) same
    by false t ih = ap (λ c. pick c (Some x) (with_serial (change_open f xs n) n)) t ∙ ih

pub serial_there : (f : OpenTx → OpenTx) → KeepsSerial f → (xs : List OpenTx) (m n : ℕ) → (m == n) ≡ false → with_serial (change_open f xs m) n ≡ with_serial xs n
unfolding with_serial change_open
serial_there f keeps [] m n apart = refl
serial_there f keeps (x ∷ xs) m n apart = by (x.serial == m) refl (serial_there f keeps xs m n apart)
  where
    by : (b : Bool) → (x.serial == m) ≡ b → with_serial (change_open f xs m) n ≡ with_serial xs n
        → pick ((pick b (f x) x).serial == n) (Some (pick b (f x) x)) (with_serial (change_open f xs m) n) ≡ pick (x.serial == n) (Some x) (with_serial xs n)
    by true t ih =
        let differs : (x.serial == n) ≡ false = grind (arith, nat_tests) in
        let same : ((f x).serial == n) ≡ false = ap (λ k. k == n) (keeps x) ∙ differs in
        ap (λ c. pick c (Some (f x)) (with_serial (change_open f xs m) n)) same ∙ ih ∙ ap (λ c. pick c (Some x) (with_serial xs n)) (sym differs)
    by false t ih = ap (λ o. pick (x.serial == n) (Some x) o) ih

-- the transaction that changes, and any other
pub open_here : (f : OpenTx → OpenTx) → KeepsSerial f → (s : OpenTxs) (t : TxId) → open_at (change_tx f s t) t ≡ option_map f (open_at s t)
open_here f keeps s t = by (is_own s t) (serial_here f keeps s.txs t.serial)
  where
    by : (b : Bool) → with_serial (change_open f s.txs t.serial) t.serial ≡ option_map f (with_serial s.txs t.serial)
        → pick b (with_serial (change_open f s.txs t.serial) t.serial) None ≡ option_map f (pick b (with_serial s.txs t.serial) None)
    by true h = h
    by false h = refl

pub open_there : (f : OpenTx → OpenTx) → KeepsSerial f → (s : OpenTxs) (t u : TxId) → is_own s t ≡ true → same_tx u t ≡ false → open_at (change_tx f s t) u ≡ open_at s u
open_there f keeps s t u own other = by (is_own s u) refl
  where
    by : (b : Bool) → is_own s u ≡ b → pick b (with_serial (change_open f s.txs t.serial) u.serial) None ≡ pick b (with_serial s.txs u.serial) None
    by true mine = serial_there f keeps s.txs t.serial u.serial (serials_apart s t u own mine other)
    by false mine = refl

-- an open transaction is one of this node and birth
pub open_own : (s : OpenTxs) (t : TxId) → is_some (open_at s t) ≡ true → is_own s t ≡ true
open_own s t there = by (is_own s t) there
  where
    by : (b : Bool) → is_some (pick b (with_serial s.txs t.serial) None) ≡ true → b ≡ true
    by true e = refl
    by false e = absurd (cc)

pub open_serial : (s : OpenTxs) (t : TxId) (x : OpenTx) → open_at s t ≡ Some x → with_serial s.txs t.serial ≡ Some x
open_serial s t x there = by (is_own s t) there
  where
    by : (b : Bool) → pick b (with_serial s.txs t.serial) None ≡ Some x → with_serial s.txs t.serial ≡ Some x
    by true e = e
    by false e = absurd (cc)

-- a list without the serial stays
pub unchanged : (f : OpenTx → OpenTx) (low last : ℕ) (xs : List OpenTx) (n : ℕ) → AreSerials low last xs → n ≤ low → change_open f xs n ≡ xs
unfolding change_open
unchanged f low last [] n rise le = refl
unchanged f low last (x ∷ xs) n rise le =
    let above = rise.0 in
    let differs : (x.serial == n) ≡ false = grind (arith, nat_tests) in
    let rest : change_open f xs n ≡ xs = unchanged f x.serial last xs n rise.1 (omega (arith, above, le)) in
    ap (λ c. pick c (f x) x ∷ change_open f xs n) differs ∙ ap (λ ys. x ∷ ys) rest

-- how many pass a test
pub passing : (OpenTx → Bool) → List OpenTx → ℕ
passing test xs = length (filter test xs)

counted : (test : OpenTx → Bool) (x : OpenTx) (xs : List OpenTx) → length (filter test (x ∷ xs)) ≡ one (test x) + length (filter test xs)
counted test x xs = by (test x)
  where
    by : (b : Bool) → length (cond b (x ∷ filter test xs) (filter test xs)) ≡ one b + length (filter test xs)
    by true = omega arith
    by false = omega arith

pub passing_changed : (f : OpenTx → OpenTx) (test : OpenTx → Bool) (low last : ℕ) (xs : List OpenTx) (n : ℕ) (x : OpenTx) → AreSerials low last xs → with_serial xs n ≡ Some x
    → length (filter test (change_open f xs n)) + one (test x) ≡ length (filter test xs) + one (test (f x))
unfolding change_open with_serial
passing_changed f test low last [] n x rise found = absurd (cc)
passing_changed f test low last (y ∷ xs) n x rise found = by (y.serial == n) refl found (passing_changed f test y.serial last xs n x rise.1)
  where
    by : (b : Bool) → (y.serial == n) ≡ b → pick b (Some y) (with_serial xs n) ≡ Some x
        → (with_serial xs n ≡ Some x → length (filter test (change_open f xs n)) + one (test x) ≡ length (filter test xs) + one (test (f x)))
        → length (filter test (pick b (f y) y ∷ change_open f xs n)) + one (test x) ≡ length (filter test (y ∷ xs)) + one (test (f x))
    by true t e ih =
        let same : y ≡ x = cc in
        let le : n ≤ y.serial = grind (arith, nat_tests) in
        let rest : change_open f xs n ≡ xs = unchanged f y.serial last xs n rise.1 le in
        let here : one (test (f y)) ≡ one (test (f x)) = ap (λ z. one (test (f z))) same in
        let there : one (test y) ≡ one (test x) = ap (λ z. one (test z)) same in
        ap (λ ys. length (filter test (f y ∷ ys)) + one (test x)) rest ∙ omega (arith, counted test (f y) xs, counted test y xs, here, there)
    by false t e ih =
        let rest = ih e in
        omega (arith, counted test y (change_open f xs n), counted test y xs, rest)

-- a change that alters no test of the transaction
pub length_changed : (f : OpenTx → OpenTx) (xs : List OpenTx) (n : ℕ) → length (change_open f xs n) ≡ length xs
unfolding change_open
length_changed f [] n = refl
length_changed f (x ∷ xs) n = ap (λ k. suc k) (length_changed f xs n)

serials_changed : (f : OpenTx → OpenTx) → KeepsSerial f → (low last : ℕ) (xs : List OpenTx) (n : ℕ) → AreSerials low last xs → AreSerials low last (change_open f xs n)
unfolding change_open
serials_changed f keeps low last [] n rise = rise
serials_changed f keeps low last (x ∷ xs) n rise = by (x.serial == n) (serials_changed f keeps x.serial last xs n rise.1)
  where
    by : (b : Bool) → AreSerials x.serial last (change_open f xs n) → AreSerials low last (pick b (f x) x ∷ change_open f xs n)
    by true h = subst (λ m. (low < m) × AreSerials m last (change_open f xs n)) (sym (keeps x)) (rise.0, h)
    by false h = (rise.0, h)

pub all_changed : (f : OpenTx → OpenTx) (P : OpenTx → Type 0) → ((x : OpenTx) → P x → P (f x)) → (xs : List OpenTx) (n : ℕ) → All P xs → All P (change_open f xs n)
unfolding change_open
all_changed f P keeps [] n all = all
all_changed f P keeps (x ∷ xs) n all =
    All-cons P (pick (x.serial == n) (f x) x) (change_open f xs n) (by (x.serial == n) (All-head P x xs all)) (all_changed f P keeps xs n (All-tail P x xs all))
  where
    by : (b : Bool) → P x → P (pick b (f x) x)
    by true p = keeps x p
    by false p = p

-- the open transactions stay sound
pub sound_changed : (c : Sizes) (f : OpenTx → OpenTx) → KeepsSerial f → ((x : OpenTx) → AreOnce x.pages → AreOnce (f x).pages) → (s : OpenTxs) (t : TxId) → AreOpen c s → AreOpen c (change_tx f s t)
sound_changed c f keeps once s t sound =
    let long : length (change_open f s.txs t.serial) ≡ length s.txs = length_changed f s.txs t.serial in
    let few = sound.few in
    record {
      node = sound.node;
      few = omega (arith, long, few);
      serials = serials_changed f keeps 0 s.last s.txs t.serial sound.serials;
      once = all_changed f (λ x. AreOnce x.pages) once s.txs t.serial sound.once;
      born = λ some. sound.born (omega (arith, long, some));
    }
