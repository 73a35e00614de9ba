-- Serials rise, so each open transaction is the one that its serial and its name find.
use Rattle.std.proofs.Common.{◌≡◌, ℕ, ◌<◌, ◌≤◌, ◌==◌, ◌&&◌, true, false, Option, Some, None, List, [], ◌∷◌, ◌++◌, ap, sym, subst, ◌∙◌, arith}
use Rattle.std.proofs.lemmas.Bool.Decides.{nat_tests}
use Rattle.std.specs.Map.{values_of}
use Rattle.node_rules.specs.Words.{pick}
use Rattle.node_rules.specs.OpenTxs.{OpenTx, OpenTxs, with_serial, name_of, open_at, is_own, locks_of, pending_of, pages_of_open, waiting_of_open}
use Rattle.tx_table.specs.Links.{IsLinked, IsRising, IsNumbered, AllAt}

-- linked transactions rise by serial
pub rising_of : (low last : ℕ) (es : List (ℕ × OpenTx)) → IsLinked low last es → IsRising low last (values_of es)
rising_of low last [] linked = tt
rising_of low last (e ∷ es) linked =
    let above = linked.0 in
    let within = linked.1 in
    let same = linked.2 in
    (omega (arith, above, same), omega (arith, within, same), subst (λ k. IsRising k last (values_of es)) (sym same) (rising_of e.0 last es linked.3))

lower_differs : (m n : ℕ) → m < n → (m == n) ≡ false
lower_differs m n lower = grind (arith, nat_tests)

equals_itself : (n : ℕ) → (n == n) ≡ true
equals_itself n = grind (arith, nat_tests)

-- a transaction in front of others, whose serials are greater, hides none of them
found_behind : (low last : ℕ) (x : OpenTx) (xs ys : List OpenTx) → x.serial ≤ low → IsRising low last ys
    → AllAt (with_serial xs) ys → AllAt (with_serial (x ∷ xs)) ys
unfolding with_serial
found_behind low last x xs [] below rising found = tt
found_behind low last x xs (y ∷ ys) below rising found =
    let above : low < y.serial = rising.0 in (
      ap (λ b. pick b (Some x) (with_serial xs y.serial)) (lower_differs x.serial y.serial (omega arith)) ∙ found.0,
      found_behind y.serial last x xs ys (omega arith) rising.2 found.1,
    )

-- each transaction is the one that its serial finds
pub serials_find : (low last : ℕ) (xs : List OpenTx) → IsRising low last xs → AllAt (with_serial xs) xs
unfolding with_serial
serials_find low last [] rising = tt
serials_find low last (x ∷ xs) rising = (
  ap (λ b. pick b (Some x) (with_serial xs x.serial)) (equals_itself x.serial),
  found_behind x.serial last x xs xs (omega arith) rising.2 (serials_find x.serial last xs rising.2),
)

-- a name of this node and birth is looked for by its serial
own_name : (s : OpenTxs) (serial : ℕ) → is_own s (name_of s serial) ≡ true
own_name s serial = ap (λ b. b && s.born == s.born) (equals_itself s.node) ∙ equals_itself s.born

-- what a serial finds, its name finds
all_named : (s : OpenTxs) (xs : List OpenTx) → AllAt (with_serial s.txs) xs → AllAt (λ serial. open_at s (name_of s serial)) xs
all_named s [] found = tt
all_named s (x ∷ xs) found =
    (ap (λ b. pick b (with_serial s.txs x.serial) None) (own_name s x.serial) ∙ found.0, all_named s xs found.1)

-- each open transaction is the one that its name finds
pub names_find : (s : OpenTxs) → IsNumbered s → AllAt (λ serial. open_at s (name_of s serial)) s.txs
names_find s numbered = all_named s s.txs (serials_find 0 s.last s.txs numbered)

-- the same of one of them
pub found_in : (look : ℕ → Option OpenTx) (before : List OpenTx) (x : OpenTx) (after : List OpenTx) → AllAt look (before ++ x ∷ after) → look x.serial ≡ Some x
found_in look [] x after found = found.0
found_in look (y ∷ before) x after found = found_in look before x after found.1

-- an open transaction is the one that its name finds
pub name_finds : (s : OpenTxs) (before : List OpenTx) (x : OpenTx) (after : List OpenTx) → IsNumbered s → s.txs ≡ before ++ x ∷ after
    → open_at s (name_of s x.serial) ≡ Some x
name_finds s before x after numbered parts =
    let look : ℕ → Option OpenTx = λ serial. open_at s (name_of s serial) in
    found_in look before x after (subst (AllAt look) parts (names_find s numbered))

-- so a look by its name gives what it holds, and the access for which it waits
pub locks_by_name : (s : OpenTxs) (before : List OpenTx) (x : OpenTx) (after : List OpenTx) → IsNumbered s → s.txs ≡ before ++ x ∷ after
    → locks_of s (name_of s x.serial) ≡ x.pages
locks_by_name s before x after numbered parts = ap pages_of_open (name_finds s before x after numbered parts)

pub pending_by_name : (s : OpenTxs) (before : List OpenTx) (x : OpenTx) (after : List OpenTx) → IsNumbered s → s.txs ≡ before ++ x ∷ after
    → pending_of s (name_of s x.serial) ≡ x.waiting
pending_by_name s before x after numbered parts = ap waiting_of_open (name_finds s before x after numbered parts)
