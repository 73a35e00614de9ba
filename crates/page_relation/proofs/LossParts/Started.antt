-- What is seen of a node that has started.
use Rattle.std.proofs.Common.{◌≡◌, refl, ap, sym, subst, ◌∙◌, ℕ, ◌≤◌, ◌&&◌, nat_lt, Bool, true, false, List, [], ◌∷◌, replicate, slice_index_or, Option, Some, None, is_some, cond, arith, ltb-true, lt-ltb}
use Rattle.std.specs.Prelude.{IfSome}
use Rattle.std.specs.List.{AllByRecursion, filter}
use Rattle.pcl_base.specs.Limits.{Sizes}
use Rattle.pcl_base.specs.declared.lock.Pending.{Pending}
use Rattle.pcl_base.specs.declared.message.Message.{Message}
use Rattle.pcl_base.specs.declared.tx.Mode.TheVariants.{Exclusive}
use Rattle.pcl_base.specs.declared.tx.TxId.{TxId}
use Rattle.node_rules.specs.Words.{pick}
use Rattle.node_rules.specs.BufferRule as buffer
use Rattle.node_rules.specs.LockTable.{LockTable}
use Rattle.node_rules.specs.NodeState.{NodeState, start_node, partition}
use Rattle.node_rules.specs.InstallRule.{owned_before}
use Rattle.node_rules.specs.OpenTxs.{with_serial, lock_on, pages_of_open, waiting_of_open, is_own}
use Rattle.node_rules.specs.Shelf as shelf
use Rattle.cluster_rules.specs.Clusters.{Cluster}
use Rattle.cluster_laws.proofs.Lists.{look_same}
use Rattle.cluster_laws.proofs.EraParts.Counted.{nothing_counts_at_start_law}
use Rattle.cluster_laws.specs.Link.Coming.{speaks_of, is_coming}
use Rattle.page_protocol.specs.State.{Home, Fresh, Asking, Holding, HoldingAsks, Reading, ReadingAsks, Ended, Gone, Page, IsFresh, IsClosed}
use Rattle.page_relation.specs.Homes.{Stands, StandsIn, KindFits, KindIn, ImageIn, image_of, wait_on}
use Rattle.page_relation.specs.Looks.{slot_in, dirty_in, shelf_in}
use Rattle.page_relation.specs.Tables.{TableIn, TableOf}
use Rattle.page_relation.specs.Together.{WaitsAsAsked}

module _ (sizes : Sizes) (n k p : ℕ) where
  pub start_slot : slot_in (Some (start_node sizes n k)) p ≡ None
  unfolding start_node buffer.slot_in
  start_slot = refl

  pub start_clean : dirty_in (Some (start_node sizes n k)) p ≡ false
  unfolding start_node buffer.slot_in
  start_clean = refl

  pub start_shelf : shelf_in (Some (start_node sizes n k)) p ≡ None
  unfolding start_node shelf.right_on
  start_shelf = refl

  -- nothing was begun
  closed_stands : (t : TxId) (h : Home) (b own : Bool) → Stands false b None None h
      → Stands (is_some (pick own (with_serial [] t.serial) None)) b (lock_on (pages_of_open (pick own (with_serial [] t.serial) None)) p) (wait_on (waiting_of_open (pick own (with_serial [] t.serial) None)) p) h
  unfolding with_serial lock_on
  closed_stands t h b true was = was
  closed_stands t h b false was = was

  pub start_stands : (last : ℕ) (t : TxId) (h : Home) → StandsIn k None t p h → StandsIn last (Some (start_node sizes n k)) t p h
  unfolding start_node
  start_stands last t h was = closed_stands t h (nat_lt k t.born) (is_own (start_node sizes n k).home.txs t) was

  closed_kinds : (t : TxId) (owned own : Bool) → KindFits owned (lock_on (pages_of_open (pick own (with_serial [] t.serial) None)) p)
  unfolding with_serial lock_on
  closed_kinds t owned true = tt
  closed_kinds t owned false = tt

  pub start_kinds : (t : TxId) → KindIn (Some (start_node sizes n k)) t p
  unfolding start_node
  start_kinds t = closed_kinds t (owned_before None (partition sizes p) n) (is_own (start_node sizes n k).home.txs t)

  pub start_image : (t : TxId) (h : Home) (image : List ℕ) → image_of h image ≡ None → ImageIn (Some (start_node sizes n k)) t p h image
  unfolding start_node buffer.private_in
  start_image t h image none = sym none

  no_table : (m q : ℕ) → slice_index_or (replicate m (let o : Option LockTable = None in o)) q None ≡ None
  no_table m q = look_same (λ (o : Option LockTable). o ≡ None) m q None None refl refl

  pub start_table : (a : Page) (q m : ℕ) → TableOf a p q m (Some (start_node sizes n k))
  unfolding start_node
  start_table a q m = subst (TableIn a p m 0) (sym (no_table sizes.nodes q)) tt

  none_waits : (t : TxId) (own : Bool) (P : Pending → Type 0) → IfSome (waiting_of_open (pick own (with_serial [] t.serial) None)) P
  unfolding with_serial
  none_waits t true P = tt
  none_waits t false P = tt

  pub start_asked : (t : TxId) (c : Cluster) → WaitsAsAsked c t (Some (start_node sizes n k))
  unfolding start_node
  start_asked t c = none_waits t (is_own (start_node sizes n k).home.txs t) _

-- a transaction of a node that is down has no private copy
pub down_image : (last : ℕ) (t : TxId) (p : ℕ) (h : Home) (image : List ℕ) → StandsIn last None t p h → image_of h image ≡ None
down_image last t p h image stands = by h (nat_lt last t.born) stands
  where
    by : (h : Home) (b : Bool) → Stands false b None None h → image_of h image ≡ None
    by Fresh b s = refl
    by (Asking m have) b s = refl
    by (Holding Exclusive) true s = absurd s
    by (Holding Exclusive) false s = absurd s
    by (Holding _) b s = refl
    by HoldingAsks b s = refl
    by Reading b s = refl
    by ReadingAsks b s = refl
    by (Ended c e) b s = refl
    by Gone b s = refl

pub down_holds : (last : ℕ) (t : TxId) (p : ℕ) (h : Home) → StandsIn last None t p h → h ≡ Holding Exclusive → ⊥
down_holds last t p h stands holds = by (nat_lt last t.born) (subst (λ (x : Home). StandsIn last None t p x) holds stands)
  where
    by : (b : Bool) → Stands false b None None (Holding Exclusive) → ⊥
    by true s = s
    by false s = s

closed_if_fresh : (h : Home) → IsFresh h → IsClosed h
closed_if_fresh Fresh f = tt
closed_if_fresh (Asking m have) f = f
closed_if_fresh (Holding m) f = f
closed_if_fresh HoldingAsks f = f
closed_if_fresh Reading f = f
closed_if_fresh ReadingAsks f = f
closed_if_fresh (Ended c e) f = tt
closed_if_fresh Gone f = tt

-- a node that stays down through a further view
pub later_down : (last next : ℕ) (t : TxId) (p : ℕ) (h : Home) → last ≤ next → StandsIn last None t p h → StandsIn next None t p h
later_down last next t p h le was = by (nat_lt next t.born) refl (nat_lt last t.born) refl was
  where
    by : (x : Bool) → nat_lt next t.born ≡ x → (y : Bool) → nat_lt last t.born ≡ y → Stands false y None None h → Stands false x None None h
    by true e true f s = s
    by true e false f s =
        let less = ltb-true next t.born e in
        let bad : true ≡ false = sym (lt-ltb last t.born (omega (arith, less, le))) ∙ f in
        absurd (cc)
    by false e true f s = closed_if_fresh h s
    by false e false f s = s

pub later_stands : (last next : ℕ) (o : Option NodeState) (t : TxId) (p : ℕ) (h : Home) → last ≤ next → StandsIn last o t p h → StandsIn next o t p h
later_stands last next None t p h le was = later_down last next t p h le was
later_stands last next (Some s) t p h le was = was

-- ---- messages

pub none_pass : {X : Type 0} (test : X → Bool) (xs : List X) → AllByRecursion (λ x. test x ≡ false) xs → filter test xs ≡ []
none_pass test [] all = refl
none_pass test (x ∷ xs) all = ap (λ (b : Bool). cond b (x ∷ filter test xs) (filter test xs)) all.0 ∙ none_pass test xs all.1

and_false : (b : Bool) → (b && false) ≡ false
and_false true = refl
and_false false = refl

-- a node that is down, or has started, takes nothing that was sent before
pub down_takes : (c : Sizes) (p from : ℕ) (m : Message) → is_coming c p from None m ≡ false
down_takes c p from m = and_false (speaks_of c p m.body)

pub start_takes : (c : Sizes) (p from n k : ℕ) (m : Message) → m.epoch ≤ k → is_coming c p from (Some (start_node c n k)) m ≡ false
start_takes c p from n k m le = ap (λ (b : Bool). speaks_of c p m.body && b) (nothing_counts_at_start_law c n k from (partition c p) m.epoch le) ∙ and_false (speaks_of c p m.body)
