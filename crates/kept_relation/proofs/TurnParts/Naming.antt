-- The names of the open transactions of a node.
use Rattle.std.proofs.Common.{◌≡◌, refl, ap, sym, ◌∙◌, ℕ, ◌==◌, ◌&&◌, ◌||◌, Bool, true, false, List, [], ◌∷◌, Some, None, arith}
use Rattle.std.proofs.lemmas.Bool.Decides.{nat_tests}
use Rattle.pcl_base.specs.declared.tx.TxId.{TxId}
use Rattle.node_rules.specs.NodeState.{NodeState}
use Rattle.node_rules.specs.OpenTxs.{OpenTx, OpenTxs, name_of, is_own, with_serial, open_at}
use Rattle.node_rules.specs.Words as rules
use Rattle.page_protocol.proofs.Basics.{same_tx_true}
use Rattle.page_protocol.specs.State.{Home, IsClosed, same_tx, has}
use Rattle.page_relation.specs.Homes.{StandsIn, is_unborn}
use Rattle.kept_relation.proofs.TurnParts.Unborn.{stands_none, stands_closed}

abbrev pub names_of : OpenTxs → List OpenTx → List TxId
names_of s [] = []
names_of s (x ∷ xs) = name_of s x.serial ∷ names_of s xs

pub names_own : (s : OpenTxs) (xs : List OpenTx) (u : TxId) → has u (names_of s xs) ≡ true → u.node ≡ s.node
names_own s [] u is = absurd (cc)
names_own s (x ∷ xs) u is = by (names_own s xs u) (same_tx (name_of s x.serial) u) refl is
  where
    by : (has u (names_of s xs) ≡ true → u.node ≡ s.node) → (b : Bool) → same_tx (name_of s x.serial) u ≡ b → (b || has u (names_of s xs)) ≡ true → u.node ≡ s.node
    by rest true e go = ap (λ (t : TxId). t.node) (sym (same_tx_true (name_of s x.serial) u e))
    by rest false e go = rest go

-- whose name isn't there isn't open
none_named : (s : OpenTxs) (xs : List OpenTx) (u : TxId) → is_own s u ≡ true → has u (names_of s xs) ≡ false → with_serial xs u.serial ≡ None
unfolding with_serial
none_named s [] u own is = refl
none_named s (x ∷ xs) u own is = by (none_named s xs u own) (x.serial == u.serial) refl (same_tx (name_of s x.serial) u) refl is
  where
    by : (has u (names_of s xs) ≡ false → with_serial xs u.serial ≡ None) → (k : Bool) → (x.serial == u.serial) ≡ k → (b : Bool) → same_tx (name_of s x.serial) u ≡ b → (b || has u (names_of s xs)) ≡ false → rules.pick k (Some x) (with_serial xs u.serial) ≡ None
    by rest k e true f go = absurd (cc)
    by rest false e false f go = rest go
    by rest true e false f go = absurd (let one = own_is own in grind (arith, nat_tests, one, e, f))
      where
        own_is : (u.node == s.node && u.born == s.born) ≡ true → (u.node ≡ s.node) × (u.born ≡ s.born)
        own_is is = grind (arith, nat_tests, is)

pub unnamed_closed : (s : NodeState) (p last : ℕ) (u : TxId) (h : Home) → has u (names_of s.home.txs s.home.txs.txs) ≡ false → StandsIn last (Some s) u p h → IsClosed h
unnamed_closed s p last u h unnamed is = stands_closed (is_unborn s.view s u) h (stands_none (open_at s.home.txs u) (is_unborn s.view s u) p h (none (is_own s.home.txs u) refl) is)
  where
    none : (b : Bool) → is_own s.home.txs u ≡ b → open_at s.home.txs u ≡ None
    none true own = ap (λ (b : Bool). rules.pick b (with_serial s.home.txs.txs u.serial) None) own ∙ none_named s.home.txs s.home.txs.txs u own unnamed
    none false other = ap (λ (b : Bool). rules.pick b (with_serial s.home.txs.txs u.serial) None) other
