-- The open transactions when one is begun or closed.
use Rattle.std.proofs.Common.{◌≡◌, ℕ, ◌==◌, ◌&&◌, not, cond, Bool, true, false, List, [], ◌∷◌, Option, Some, None, is_some, IfSome, refl, ap, sym, ◌∙◌, arith}
use Rattle.std.proofs.lemmas.Bool.Decides.{nat_tests}
use Rattle.std.proofs.lemmas.List.Elements.{All-head, All-tail}
use Rattle.std.specs.List.{filter, All}
use Rattle.pcl_base.specs.declared.tx.TxId.{TxId}
use Rattle.node_rules.specs.Words.{pick, same_tx}
use Rattle.node_rules.specs.OpenTxs.{OpenTx, OpenTxs, with_serial, open_at, is_open, is_own, locks_of, pages_of_open, close_tx}
use Rattle.home_laws.specs.Homes.{AreOnce}
use Rattle.home_laws.proofs.Words.{and_true, not_both, pick_same}

-- the test by which a closed transaction leaves
abbrev pub stays : ℕ → OpenTx → Bool
stays s x = not (x.serial == s)

-- what stands at a serial once another one left
closed_case : (x : OpenTx) (s u : ℕ) (ys : List OpenTx) (l : Option OpenTx) (b c : Bool) → (x.serial == s) ≡ b → (x.serial == u) ≡ c
    → with_serial ys u ≡ pick (u == s) None l → with_serial (cond (not b) (x ∷ ys) ys) u ≡ pick (u == s) None (pick c (Some x) l)
unfolding with_serial
closed_case x s u ys l true true left here rest =
    let same : (u == s) ≡ true = grind (arith, nat_tests) in
    rest ∙ ap (λ d. pick d None l) same ∙ sym (ap (λ d. pick d None (Some x)) same)
closed_case x s u ys l true false left here rest = rest
closed_case x s u ys l false true left here rest =
    let other : (u == s) ≡ false = grind (arith, nat_tests) in
    ap (λ d. pick d (Some x) (with_serial ys u)) here ∙ sym (ap (λ d. pick d None (Some x)) other)
closed_case x s u ys l false false left here rest = ap (λ d. pick d (Some x) (with_serial ys u)) here ∙ rest

pub serial_closed : (xs : List OpenTx) (s u : ℕ) → with_serial (filter (stays s) xs) u ≡ pick (u == s) None (with_serial xs u)
unfolding with_serial
serial_closed [] s u = sym (pick_same (u == s) None)
serial_closed (x ∷ xs) s u =
    closed_case x s u (filter (stays s) xs) (with_serial xs u) (x.serial == s) (x.serial == u) refl refl (serial_closed xs s u)

-- an open transaction is one of this node and birth
pub open_is_own : (s : OpenTxs) (t : TxId) → is_open s t ≡ true → is_own s t ≡ true
open_is_own s t there = by_own (is_own s t) refl
  where
    by_own : (b : Bool) → is_own s t ≡ b → is_own s t ≡ true
    by_own true e = e
    by_own false e = absurd (not_both (is_open s t) there (ap (λ b. is_some (pick b (with_serial s.txs t.serial) None)) e))

own_case : (s : OpenTxs) (t u : TxId) (l : Option OpenTx) (b : Bool) → is_own s t ≡ true → is_own s u ≡ b → pick b (pick (u.serial == t.serial) None l) None ≡ pick (same_tx u t) None (pick b l None)
own_case s t u l true mine own =
    let p = and_true (t.node == s.node) (t.born == s.born) mine in
    let q = and_true (u.node == s.node) (u.born == s.born) own in
    let n : (u.node == t.node) ≡ true = grind (arith, nat_tests, p.0, q.0) in
    let b : (u.born == t.born) ≡ true = grind (arith, nat_tests, p.1, q.1) in
    sym (λ i. pick (n i && b i && u.serial == t.serial) None l)
own_case s t u l false mine own = sym (pick_same (same_tx u t) None)

-- once a transaction is closed it is open no more, and the others are as before
pub open_closed : (s : OpenTxs) (t u : TxId) → is_open s t ≡ true → open_at (close_tx s t) u ≡ pick (same_tx u t) None (open_at s u)
unfolding close_tx
open_closed s t u there =
    ap (λ l. pick (is_own s u) l None) (serial_closed s.txs t.serial u.serial)
    ∙ own_case s t u (with_serial s.txs u.serial) (is_own s u) (open_is_own s t there) refl

-- what is there
pub there_is : {X : Type 0} (o : Option X) → is_some o ≡ true → (x : X) × (o ≡ Some x)
there_is None e = absurd (cc)
there_is (Some x) e = (x, refl)

-- an open transaction stands under its serial
pub open_serial : (s : OpenTxs) (t : TxId) (x : OpenTx) → open_at s t ≡ Some x → with_serial s.txs t.serial ≡ Some x
open_serial s t x e = by_own (is_own s t) e
  where
    by_own : (b : Bool) → pick b (with_serial s.txs t.serial) None ≡ Some x → with_serial s.txs t.serial ≡ Some x
    by_own true e = e
    by_own false e = absurd (cc)

-- what holds of all open transactions holds of the one that is found
pub serial_among : (P : OpenTx → Type 0) (xs : List OpenTx) (s : ℕ) → All P xs → IfSome (with_serial xs s) P
unfolding with_serial
serial_among P [] s a = tt
serial_among P (x ∷ xs) s a = by_serial (x.serial == s) (All-head P x xs a) (serial_among P xs s (All-tail P x xs a))
  where
    by_serial : (b : Bool) → P x → IfSome (with_serial xs s) P → IfSome (pick b (Some x) (with_serial xs s)) P
    by_serial true h rest = h
    by_serial false h rest = rest

-- each transaction holds a page once
pub locks_once : (s : OpenTxs) (t : TxId) → All (λ x. AreOnce x.pages) s.txs → AreOnce (locks_of s t)
locks_once s t a = by_own (is_own s t) (with_serial s.txs t.serial) (serial_among (λ x. AreOnce x.pages) s.txs t.serial a)
  where
    by_own : (b : Bool) (o : Option OpenTx) → IfSome o (λ x. AreOnce x.pages) → AreOnce (pages_of_open (pick b o None))
    by_own true None h = tt
    by_own true (Some x) h = h
    by_own false o h = tt
