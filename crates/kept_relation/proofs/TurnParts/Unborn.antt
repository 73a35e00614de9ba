-- A home with no open transaction: what stands of each, and which are still to be begun.
use Rattle.std.proofs.Common.{◌≡◌, refl, ap, sym, subst, ◌∙◌, ℕ, ◌+◌, ◌<◌, ◌==◌, ◌&&◌, ◌||◌, nat_lt, Bool, true, false, List, [], Option, None, is_some, eqb-true, ltb-true, lt-ltb, arith}
use Rattle.pcl_base.specs.declared.tx.TxId.{TxId}
use Rattle.node_rules.specs.OpenTxs.{OpenTx, OpenTxs, with_serial, open_at, is_own, pages_of_open, waiting_of_open, lock_on}
use Rattle.node_rules.specs.Words.{pick}
use Rattle.page_protocol.specs.State.{Home, Fresh, Asking, Holding, HoldingAsks, Reading, ReadingAsks, Ended, Gone, IsFresh, IsClosed}
use Rattle.page_relation.specs.Homes.{Stands, KindFits, wait_on}
use Rattle.page_relation.specs.Messages.{IsTold}

nothing : (k : ℕ) → with_serial [] k ≡ None
unfolding with_serial
nothing k = refl

nobody : (u : Bool) (p : ℕ) (h : Home) → Stands false u None None h → Stands false u (lock_on [] p) None h
unfolding lock_on
nobody u p h is = is

somebody : (u : Bool) (p : ℕ) (h : Home) → Stands false u (lock_on [] p) None h → Stands false u None None h
unfolding lock_on
somebody u p h is = is

pub none_fits : (owned : Bool) (p : ℕ) → KindFits owned (lock_on [] p)
unfolding lock_on
none_fits owned p = tt

-- no transaction is open where there is none
pub none_open : (x : OpenTxs) (t : TxId) → x.txs ≡ [] → open_at x t ≡ None
none_open x t none = ap (λ (xs : List OpenTx). pick (is_own x t) (with_serial xs t.serial) None) none ∙ by (is_own x t)
  where
    by : (b : Bool) → pick b (with_serial [] t.serial) None ≡ (let o : Option OpenTx = None in o)
    by true = nothing t.serial
    by false = refl

-- what stands of it
pub none_stands : (o : Option OpenTx) (u : Bool) (p : ℕ) (h : Home) → o ≡ None → Stands false u None None h → Stands (is_some o) u (lock_on (pages_of_open o) p) (wait_on (waiting_of_open o) p) h
none_stands o u p h none is = subst (λ (k : Option OpenTx). Stands (is_some k) u (lock_on (pages_of_open k) p) (wait_on (waiting_of_open k) p) h) (sym none) (nobody u p h is)

pub stands_none : (o : Option OpenTx) (u : Bool) (p : ℕ) (h : Home) → o ≡ None → Stands (is_some o) u (lock_on (pages_of_open o) p) (wait_on (waiting_of_open o) p) h → Stands false u None None h
stands_none o u p h none is = somebody u p h (subst (λ (k : Option OpenTx). Stands (is_some k) u (lock_on (pages_of_open k) p) (wait_on (waiting_of_open k) p) h) none is)

closed_if_fresh : (h : Home) → IsFresh h → IsClosed h
closed_if_fresh Fresh f = tt
closed_if_fresh (Asking m have) f = f
closed_if_fresh (Holding m) f = f
closed_if_fresh HoldingAsks f = f
closed_if_fresh Reading f = f
closed_if_fresh ReadingAsks f = f
closed_if_fresh (Ended c e) f = tt
closed_if_fresh Gone f = tt

pub stands_closed : (u : Bool) (h : Home) → Stands false u None None h → IsClosed h
stands_closed true h is = closed_if_fresh h is
stands_closed false h is = is

-- who is unborn still was unborn before
pub less_unborn : (new old : Bool) (h : Home) → (new ≡ true → old ≡ true) → Stands false old None None h → Stands false new None None h
less_unborn false old h f is = stands_closed old h is
less_unborn true true h f is = is
less_unborn true false h f is = (let bad : false ≡ true = f refl in absurd (cc))

-- who has asked and is closed told anything
pub told_closed : (have : Option ℕ) (h : Home) → IsClosed h → (IsFresh h → ⊥) → IsTold have h
told_closed have Fresh c f = absurd (f tt)
told_closed have (Asking m told) c f = absurd c
told_closed have (Holding m) c f = tt
told_closed have HoldingAsks c f = tt
told_closed have Reading c f = tt
told_closed have ReadingAsks c f = tt
told_closed have (Ended x e) c f = tt
told_closed have Gone c f = tt

pub unborn_before : (epoch born last : ℕ) (t : TxId) → born ≡ epoch + 1 → (nat_lt born t.born || (t.born == born && nat_lt last t.serial)) ≡ true → nat_lt epoch t.born ≡ true
unborn_before epoch born last t is test = lt-ltb epoch t.born (by (nat_lt born t.born) refl (t.born == born) refl test)
  where
    by : (x : Bool) → nat_lt born t.born ≡ x → (y : Bool) → (t.born == born) ≡ y → (x || (y && nat_lt last t.serial)) ≡ true → epoch < t.born
    by true one y two go = let less = ltb-true born t.born one in omega (arith, less, is)
    by false one true two go = let same : t.born ≡ born = eqb-true t.born born two in omega (arith, same, is)
    by false one false two go = absurd (cc)
