-- What shows that nothing was sent of a page, that no transaction is open, and that nothing is there.
use Rattle.std.proofs.Common.{◌≡◌, refl, ap, sym, ◌∙◌, ℕ, ◌==◌, cond, Bool, true, false, List, [], ◌∷◌, Option, Some, None, is_some, arith}
use Rattle.std.specs.List.{AllByRecursion, filter}
use Rattle.std.proofs.lemmas.Bool.Decides.{nat_tests}
use Rattle.pcl_base.specs.Limits.{Sizes}
use Rattle.pcl_base.specs.declared.message.Message.{Message}
use Rattle.pcl_base.specs.declared.tx.TxId.{TxId}
use Rattle.node_rules.specs.LockTable.{LockTable}
use Rattle.node_rules.specs.NodeState.{Outgoing}
use Rattle.node_rules.specs.OpenTxs.{OpenTx, OpenTxs, is_open, is_own, name_of, with_serial}
use Rattle.node_rules.specs.Shelf.{Right}
use Rattle.node_rules.specs.Words as rules
use Rattle.cluster_laws.specs.Link.Coming.{speaks_of, sent_to}
use Rattle.page_laws.specs.Look.Ends.{version_of_right}
use Rattle.page_relation.specs.Work.Unseen.{speaks}

-- ---- nothing that speaks of the page was sent

-- the messages to each node that speak of a page are none
none_of : (test : Message → Bool) (o : Outgoing) (os : List Outgoing) → ((b : ℕ) → filter test (sent_to b (o ∷ os)) ≡ []) → (test o.message ≡ false) × ((b : ℕ) → filter test (sent_to b os) ≡ [])
unfolding sent_to
none_of test o os none = (first, rest)
  where
    own : (o.to == o.to) ≡ true
    own = grind (arith, nat_tests)

    first : test o.message ≡ false
    first = by (test o.message) refl (sym (ap (λ (b : Bool). filter test (rules.pick b (o.message ∷ sent_to o.to os) (sent_to o.to os))) own) ∙ none o.to)
      where
        by : (b : Bool) → test o.message ≡ b → cond (test o.message) (o.message ∷ filter test (sent_to o.to os)) (filter test (sent_to o.to os)) ≡ [] → test o.message ≡ false
        by false is e = is
        by true is e = (let bad : o.message ∷ filter test (sent_to o.to os) ≡ [] = sym (ap (λ (b : Bool). cond b (o.message ∷ filter test (sent_to o.to os)) (filter test (sent_to o.to os))) is) ∙ e in absurd (cc))

    rest : (b : ℕ) → filter test (sent_to b os) ≡ []
    rest b = by (o.to == b) (none b)
      where
        tail : (k : Bool) → cond k (o.message ∷ filter test (sent_to b os)) (filter test (sent_to b os)) ≡ [] → filter test (sent_to b os) ≡ []
        tail true e = absurd (cc)
        tail false e = e

        by : (k : Bool) → filter test (rules.pick k (o.message ∷ sent_to b os) (sent_to b os)) ≡ [] → filter test (sent_to b os) ≡ []
        by true e = tail (test o.message) e
        by false e = e

pub none_sent : (c : Sizes) (p : ℕ) (os : List Outgoing) → ((b : ℕ) → filter (speaks c p) (sent_to b os) ≡ []) → AllByRecursion (λ (o : Outgoing). speaks_of c p o.message.body ≡ false) os
none_sent c p [] none = tt
none_sent c p (o ∷ os) none = let both = none_of (speaks c p) o os none in (both.0, none_sent c p os both.1)

-- ---- no transaction is open

first_open : (s : OpenTxs) (x : OpenTx) (xs : List OpenTx) → s.txs ≡ x ∷ xs → is_open s (name_of s x.serial) ≡ true
unfolding with_serial
first_open s x xs same =
    ap (λ (b : Bool). is_some (rules.pick b (with_serial s.txs x.serial) None)) own
    ∙ ap (λ (ys : List OpenTx). is_some (with_serial ys x.serial)) same
    ∙ ap (λ (b : Bool). is_some (rules.pick b (Some x) (with_serial xs x.serial))) (let e : (x.serial == x.serial) ≡ true = grind (arith, nat_tests) in e)
  where
    own : is_own s (name_of s x.serial) ≡ true
    own = grind (arith, nat_tests)

pub none_left : (s : OpenTxs) → ((t : TxId) → is_open s t ≡ false) → s.txs ≡ []
none_left s none = by s.txs refl
  where
    by : (xs : List OpenTx) → s.txs ≡ xs → xs ≡ []
    by [] is = refl
    by (x ∷ xs) is = (let bad : false ≡ true = sym (none (name_of s x.serial)) ∙ first_open s x xs is in absurd (cc))

-- no right is on a shelf that shows none
pub no_right : (o : Option Right) → version_of_right o ≡ None → o ≡ None
no_right None e = refl
no_right (Some r) e = absurd (cc)

pub no_table : (o : Option LockTable) → is_some o ≡ false → o ≡ None
no_table None e = refl
no_table (Some t) e = absurd (cc)
