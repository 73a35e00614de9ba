-- Open transactions by their serials, and what they wait for.
use Rattle.std.proofs.Common.{◌≡◌, refl, ap, sym, subst, ◌∙◌, ℕ, ◌≤◌, ◌==◌, ◌&&◌, Bool, true, false, List, [], ◌∷◌, Option, Some, None, arith, eqb-true}
use Rattle.std.specs.Prelude.{IfSome}
use Rattle.std.proofs.lemmas.Bool.Decides.{nat_tests}
use Rattle.pcl_base.specs.declared.lock.Pending.{Pending}
use Rattle.pcl_base.specs.declared.tx.TxId.{TxId}
use Rattle.node_rules.specs.Words.{pick}
use Rattle.node_rules.specs.OpenTxs.{OpenTx, OpenTxs, name_of, is_own, with_serial, waiting_of_open, pending_of}
use Rattle.home_laws.specs.Homes.{AreSerials}
use Rattle.cluster_laws.proofs.AskParts.Waiting.{AreAsked}

-- what the transaction of a serial waits for
abbrev pub Waits : (ℕ → Option (ℕ × List ℕ)) → List OpenTx → ℕ → Type 0
Waits f xs k = IfSome (waiting_of_open (with_serial xs k)) (λ (w : Pending). w.write ≡ f k)

-- each waits for what f says: so does the one of a serial
pub listed_waits : (f : ℕ → Option (ℕ × List ℕ)) (xs : List OpenTx) (k : ℕ) → AreAsked f xs → Waits f xs k
unfolding with_serial
listed_waits f [] k all = tt
listed_waits f (x ∷ xs) k all = by (x.serial == k) refl (listed_waits f xs k all.1)
  where
    by : (b : Bool) → (x.serial == k) ≡ b → Waits f xs k → IfSome (waiting_of_open (pick b (Some x) (with_serial xs k))) (λ (w : Pending). w.write ≡ f k)
    by true e rest = subst (λ (j : ℕ). IfSome x.waiting (λ (w : Pending). w.write ≡ f j)) (eqb-true x.serial k e) all.0
    by false e rest = rest

none_below : (low last : ℕ) (xs : List OpenTx) (k : ℕ) → AreSerials low last xs → k ≤ low → with_serial xs k ≡ None
unfolding with_serial
none_below low last [] k s le = refl
none_below low last (x ∷ xs) k s le = by (x.serial == k) refl (none_below x.serial last xs k s.1 (let up = s.0 in omega (arith, le, up)))
  where
    by : (b : Bool) → (x.serial == k) ≡ b → with_serial xs k ≡ None → pick b (Some x) (with_serial xs k) ≡ None
    by true e rest = let same = eqb-true x.serial k e in let up = s.0 in absurd (omega (arith, same, up, le))
    by false e rest = rest

-- and the other way round, where serials rise
pub waits_listed : (f : ℕ → Option (ℕ × List ℕ)) (low last : ℕ) (xs : List OpenTx) → AreSerials low last xs → ((k : ℕ) → Waits f xs k) → AreAsked f xs
unfolding with_serial
waits_listed f low last [] s each = tt
waits_listed f low last (x ∷ xs) s each = (
  subst (λ (b : Bool). IfSome (waiting_of_open (pick b (Some x) (with_serial xs x.serial))) (λ (w : Pending). w.write ≡ f x.serial)) (equal x.serial) (each x.serial),
  waits_listed f x.serial last xs s.1 (λ k. by k (x.serial == k) refl (each k)),
)
  where
    equal : (n : ℕ) → (n == n) ≡ true
    equal n = grind (arith, nat_tests)

    by : (k : ℕ) (b : Bool) → (x.serial == k) ≡ b → IfSome (waiting_of_open (pick b (Some x) (with_serial xs k))) (λ (w : Pending). w.write ≡ f k) → Waits f xs k
    by k true e rest =
        subst (λ (o : Option OpenTx). IfSome (waiting_of_open o) (λ (w : Pending). w.write ≡ f k)) (sym (none_below x.serial last xs k s.1 (let same = eqb-true x.serial k e in omega (arith, same)))) tt
    by k false e rest = rest

-- by names
pub own_name : (s : OpenTxs) (t : TxId) → is_own s t ≡ true → t ≡ name_of s t.serial
own_name s t own = by (t.node == s.node) (t.born == s.born) refl refl own
  where
    by : (a b : Bool) → (t.node == s.node) ≡ a → (t.born == s.born) ≡ b → a && b ≡ true → t ≡ name_of s t.serial
    by true true p q r =
        ap (λ (n : ℕ). (let u : TxId = record { node = n; born = t.born; serial = t.serial } in u)) (eqb-true t.node s.node p)
        ∙ ap (λ (n : ℕ). (let u : TxId = record { node = s.node; born = n; serial = t.serial } in u)) (eqb-true t.born s.born q)
    by true false p q r = absurd (cc)
    by false b p q r = absurd (cc)

name_own : (s : OpenTxs) (k : ℕ) → is_own s (name_of s k) ≡ true
name_own s k = both (s.node == s.node) (s.born == s.born) (grind (arith, nat_tests)) (grind (arith, nat_tests))
  where
    both : (a b : Bool) → a ≡ true → b ≡ true → a && b ≡ true
    both true true p q = refl
    both true false p q = q
    both false b p q = p

-- what a transaction of a home waits for
pub named_waits : (g : TxId → Option (ℕ × List ℕ)) (s : OpenTxs) (t : TxId) → AreAsked (λ k. g (name_of s k)) s.txs → IfSome (pending_of s t) (λ (w : Pending). w.write ≡ g t)
named_waits g s t all = by (is_own s t) refl
  where
    by : (b : Bool) → is_own s t ≡ b → IfSome (waiting_of_open (pick b (with_serial s.txs t.serial) None)) (λ (w : Pending). w.write ≡ g t)
    by true e =
        subst (λ (u : TxId). IfSome (waiting_of_open (with_serial s.txs t.serial)) (λ (w : Pending). w.write ≡ g u)) (sym (own_name s t e))
        (listed_waits (λ k. g (name_of s k)) s.txs t.serial all)
    by false e = tt

pub waits_named : (g : TxId → Option (ℕ × List ℕ)) (s : OpenTxs) (low last : ℕ) → AreSerials low last s.txs → ((t : TxId) → IfSome (pending_of s t) (λ (w : Pending). w.write ≡ g t)) → AreAsked (λ k. g (name_of s k)) s.txs
waits_named g s low last serials each =
    waits_listed (λ k. g (name_of s k)) low last s.txs serials
    (λ k.
    subst (λ (b : Bool). IfSome (waiting_of_open (pick b (with_serial s.txs k) None)) (λ (w : Pending). w.write ≡ g (name_of s k))) (name_own s k) (each (name_of s k)))
