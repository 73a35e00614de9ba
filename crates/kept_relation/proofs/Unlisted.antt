-- What is known of nodes that a view doesn't list.
use Rattle.std.proofs.Common.{◌≡◌, refl, ap, sym, subst, ◌∙◌, ℕ, ◌<◌, ◌≤◌, ◌==◌, ◌&&◌, nat_le, nat_lt, Bool, true, false, List, [], ◌∷◌, length, Option, Some, None, is_some, arith, eqb-true}
use Rattle.std.specs.Prelude.{IfSome}
use Rattle.std.proofs.lemmas.Bool.Decides.{nat_tests}
use Rattle.pcl_base.specs.declared.lock.Held.{Held}
use Rattle.pcl_base.specs.declared.tx.Mode.{Mode}
use Rattle.pcl_base.specs.declared.tx.TxId.{TxId}
use Rattle.run_rules.specs.Views.{View, is_live}
use Rattle.node_rules.specs.NodeState.{NodeState}
use Rattle.node_rules.specs.OpenTxs.{OpenTx, is_open, is_own, held_by, pending_of, with_serial}
use Rattle.node_rules.specs.Words.{pick}
use Rattle.cluster_rules.specs.Clusters.{Cluster, last_view, node_at, view_of_epoch}
use Rattle.cluster_laws.specs.Sound.{IsMember}
use Rattle.cluster_laws.specs.Era.Eras.{life_in, life_of, live_at, live_in}
use Rattle.cluster_laws.proofs.EraParts.Lives.{up_nodes_live_law}
use Rattle.page_protocol.specs.State as machine
use Rattle.page_protocol.specs.State.{Home, IsClosed, IsFresh, IsShelf, Page, Right, Shelf}
use Rattle.page_relation.specs.Homes.{Stands, StandsIn, is_unborn, wait_on}
use Rattle.page_relation.specs.Looks.{shelf_in, shelf_of}
use Rattle.page_relation.specs.Relation.{on_shelf}
use Rattle.page_relation.specs.Work.Landing.{land, Acts}
use Rattle.page_relation.proofs.WorkParts.Nodes.{at_other}
use Rattle.kept_relation.specs.Gone.{DownHaveNoShelf, GoneAreClosed}

fresh_closed : (h : Home) → IsFresh h → IsClosed h
fresh_closed machine.Fresh f = tt
fresh_closed (machine.Asking m v) f = absurd f
fresh_closed (machine.Holding m) f = absurd f
fresh_closed machine.HoldingAsks f = absurd f
fresh_closed machine.Reading f = absurd f
fresh_closed machine.ReadingAsks f = absurd f
fresh_closed (machine.Ended v e) f = absurd f
fresh_closed machine.Gone f = absurd f

-- who isn't open
unopened : (h : Home) (o u : Bool) (l : Option Held) (w : Option Mode) → o ≡ false → Stands o u l w h → IsClosed h
unopened h true u l w e s = absurd (cc)
unopened h false true l w e s = fresh_closed h s
unopened h false false l w e s = s

-- who is of another life, and where nobody is open
other_life : (node born : Bool) (x : Option OpenTx) → born ≡ false → is_some (pick (node && born) x None) ≡ false
other_life true true x e = absurd (cc)
other_life true false x e = refl
other_life false born x e = refl

no_one : (own : Bool) (xs : List OpenTx) (serial : ℕ) → length xs ≡ 0 → is_some (pick own (with_serial xs serial) None) ≡ false
unfolding with_serial
no_one true [] serial e = refl
no_one false [] serial e = refl
no_one own (x ∷ xs) serial e = absurd (omega (arith, e))

module _ (c : Cluster) (n : ℕ) (acts : Acts c n) (v : View) (there : view_of_epoch c.views v.epoch ≡ Some v) (made : v.epoch ≤ (last_view c).epoch) where
  -- a node that is up and not listed is of a later life
  pub later_life : (m : ℕ) (s : NodeState) → node_at c m ≡ Some s → is_live v.live m ≡ false → v.epoch < life_of s
  unfolding live_at
  later_life m s up off = by (nat_le (life_of s) v.epoch) refl
    where
      lives : life_of s ≤ v.epoch → is_live v.live m ≡ true
      lives early = sym (ap (λ (o : Option View). live_in o m) there) ∙ (up_nodes_live_law c m s v.epoch acts.cluster up early made).live

      by : (b : Bool) → nat_le (life_of s) v.epoch ≡ b → v.epoch < life_of s
      by true e =
          let early : life_of s ≤ v.epoch = grind (arith, nat_tests, e) in
          let bad : true ≡ false = sym (lives early) ∙ off in
          absurd (cc)
      by false e = grind (arith, nat_tests, e)

  -- none of its transactions that were born by then is open
  none_open : (m : ℕ) (s : NodeState) (t : TxId) → node_at c m ≡ Some s → is_live v.live m ≡ false → t.born ≤ v.epoch → is_open s.home.txs t ≡ false
  none_open m s t up off early = by s.view refl
    where
      member : IsMember c.config c.views m s
      member = subst (λ (o : Option NodeState). IfSome o (IsMember c.config c.views m)) up (acts.cluster.members m)

      by : (o : Option View) → s.view ≡ o → is_open s.home.txs t ≡ false
      by None none = no_one (is_own s.home.txs t) s.home.txs.txs t.serial (member.sound.idle none)
      by (Some u) some =
          let later : v.epoch < life_of s = later_life m s up off in
          let born : life_of s ≡ s.home.txs.born = ap (life_in s) some in
          other_life (t.node == s.home.txs.node) (t.born == s.home.txs.born) (with_serial s.home.txs.txs t.serial) (grind (arith, nat_tests, later, born, early))

pub gone_are_closed_law : GoneAreClosed
unfolding land
gone_are_closed_law c e n p v w a t acts is there made own off early = by (node_at c t.node) refl (at_other c e n acts w t.node (λ o. StandsIn (last_view c).epoch o t p (a.home t)) other (is.homes.stands t))
  where
    apart : (b : Bool) → (t.node == n) ≡ b → b ≡ false
    apart true e =
        let same : is_live v.live t.node ≡ is_live v.live n = ap (is_live v.live) (eqb-true t.node n e) in
        let bad : false ≡ true = sym off ∙ (same ∙ own) in
        absurd (cc)
    apart false e = refl

    other : (t.node == n) ≡ false
    other = apart (t.node == n) refl

    by : (o : Option NodeState) → node_at c t.node ≡ o → StandsIn (last_view c).epoch o t p (a.home t) → IsClosed (a.home t)
    by None down s = unopened (a.home t) false (nat_lt (last_view c).epoch t.born) None None refl s
    by (Some k) up s =
        unopened (a.home t) (is_open k.home.txs t) (is_unborn k.view k t) (held_by k.home.txs t p) (wait_on (pending_of k.home.txs t) p)
        (none_open c n acts v there made t.node k t up off early) s

-- a right on a shelf
on_a_shelf : (r : Right) → IsShelf r → None ≡ on_shelf r → ⊥
on_a_shelf machine.NoRight is e = is
on_a_shelf (machine.Flying g) is e = is
on_a_shelf (Shelf v) is e = absurd (cc)
on_a_shelf (machine.Returning upto readers) is e = is
on_a_shelf machine.Dead is e = is

pub down_have_no_shelf_law : DownHaveNoShelf
unfolding shelf_of
down_have_no_shelf_law c e n p m w a acts is other down shelf =
    on_a_shelf (a.right m) shelf
    (subst (λ (o : Option NodeState). shelf_in o p ≡ on_shelf (a.right m)) down (at_other c e n acts w m (λ o. shelf_in o p ≡ on_shelf (a.right m)) other (is.nodes.shelves m)))
