-- A node that was in no view begins its life in one, and joins the era of the partition.
use Rattle.std.proofs.Common.{◌≡◌, refl, ap, sym, subst, ◌∙◌, ℕ, ◌+◌, ◌≤◌, ◌==◌, Bool, true, false, [], Option, Some, None, eqb-true, arith}
use Rattle.pcl_base.specs.declared.event.Event.{Event}
use Rattle.pcl_base.specs.declared.message.Message.{Message}
use Rattle.pcl_base.specs.declared.tx.TxId.{TxId}
use Rattle.run_rules.specs.Views.{View, since_of}
use Rattle.node_rules.specs.InstallRule.{owned_before}
use Rattle.node_rules.specs.LockTable.{LockTable, entry_at}
use Rattle.node_rules.specs.NodeState.{NodeState, partition, table_at, number_of}
use Rattle.node_rules.specs.OpenTxs.{OpenTx, open_at, pages_of_open, lock_on}
use Rattle.node_rules.specs.Work.{Work, with_node}
use Rattle.cluster_rules.specs.Clusters.{Cluster, node_at, last_view}
use Rattle.cluster_laws.specs.Era.Eras.{era_at, era_in}
use Rattle.cluster_laws.proofs.EraParts.Ages.{era_is, eras_never_fall_law}
use Rattle.cluster_laws.proofs.EraParts.Epochs.{low_of}
use Rattle.page_protocol.specs.Eras.{joining}
use Rattle.page_protocol.specs.State.{Page, Home, IsClosed, updn, current}
use Rattle.page_protocol.specs.Steps.{Step, joins}
use Rattle.page_relation.specs.Homes.{Stands, StandsIn, KindFits, KindIn, ImageIn, is_unborn, runs_in}
use Rattle.page_relation.specs.Looks.{shelf_in, shelf_of}
use Rattle.page_relation.specs.Messages.{HasAsked}
use Rattle.page_relation.specs.Relation.{HomesAre, NodesAre, TablesAre, MessageIs, on_shelf}
use Rattle.page_relation.specs.Tables.{TableIs, TableIn, TableOf, ReachedBy, ReachedIn, serves_in}
use Rattle.page_laws.specs.Written.Written.{DiffersWithin}
use Rattle.page_relation.specs.Work.Keeping.{IsWorkOf}
use Rattle.page_relation.specs.Work.Landing.{land, Acts}
use Rattle.page_relation.proofs.WorkParts.Framing.{history_stays_law, copies_stay_law, reached_landed}
use Rattle.page_relation.proofs.WorkParts.Nodes.{of_node, at_node, at_other, kept_node}
use Rattle.kept_relation.specs.Turn.Standing.{HasNext, stood, JoinIsKept}
use Rattle.kept_relation.proofs.TurnParts.Going.{era_stood}
use Rattle.kept_relation.proofs.TurnParts.Narrowing.{links_narrow, counts_unborn}
use Rattle.kept_relation.proofs.TurnParts.Unborn.{none_open, none_fits, none_stands, stands_none, stands_closed, less_unborn, told_closed, unborn_before}
use Rattle.kept_relation.proofs.TurnParts.Reaching.{reached_here, reached_there, reached_up, served_reach, rebuilt_reach, says_reach}

module _ (c : Cluster) (e : Event) (n p : ℕ) (s : NodeState) (v : View) (w : Work) (acts : Acts c n) (has : HasNext c n s v w.node) (none : s.view ≡ None) (empty : w.node.home.txs.txs ≡ []) (born : w.node.home.txs.born ≡ s.epoch + 1) (free : table_at w.node (partition c.config p) ≡ None) where
  -- the node before it was in a view
  abbrev before : NodeState
  before = stood s.epoch s.view s.home.txs.born w.node

  abbrev new_era : ℕ
  new_era = since_of v (partition c.config p)

  rises : era_at c (partition c.config p) s.epoch ≤ new_era
  rises =
      let same = era_is c (s.epoch + 1) v has.next (partition c.config p) in
      let rise = eras_never_fall_law c (partition c.config p) s.epoch (s.epoch + 1) acts.cluster (omega arith) (low_of c (s.epoch + 1) v acts.cluster has.next).1 in
      omega (arith, same, rise)

  unborn_less : (t : TxId) → is_unborn w.node.view w.node t ≡ true → is_unborn s.view before t ≡ true
  unborn_less t test =
      ap (λ (o : Option View). is_unborn o before t) none
      ∙ unborn_before s.epoch w.node.home.txs.born w.node.home.txs.last t born (sym (ap (λ (o : Option View). is_unborn o w.node t) has.view) ∙ test)

  stood_none : (last : ℕ) (t : TxId) (h : Home) → StandsIn last (Some before) t p h → Stands false (is_unborn s.view before t) None None h
  stood_none last t h is = stands_none (open_at before.home.txs t) (is_unborn s.view before t) p h (none_open before.home.txs t empty) is

  pub stands_on : (last : ℕ) (t : TxId) (h : Home) → StandsIn last (Some before) t p h → StandsIn last (Some w.node) t p h
  stands_on last t h is =
      none_stands (open_at w.node.home.txs t) (is_unborn w.node.view w.node t) p h (none_open w.node.home.txs t empty)
      (less_unborn (is_unborn w.node.view w.node t) (is_unborn s.view before t) h (unborn_less t) (stood_none last t h is))

  pub kind_on : (t : TxId) → KindIn (Some w.node) t p
  kind_on t =
      let owned = owned_before w.node.view (partition w.node.home.config p) (number_of w.node) in
      subst (λ (o : Option OpenTx). KindFits owned (lock_on (pages_of_open o) p)) (sym (none_open w.node.home.txs t empty)) (none_fits owned p)

  module _ (a : Page) (r : IsWorkOf c e n p (with_node w before) a) where
    abbrev joined : Page
    joined = joining a n new_era

    pub bounds : (a.reached n ≤ era_at c (partition c.config p) s.epoch) × (a.era ≤ era_at c (partition c.config p) s.epoch)
    unfolding land
    bounds =
        subst (λ (o : Option View). ReachedBy c (partition c.config p) a.era before o (a.reached n)) none
        (at_node c e n acts (with_node w before) n (λ o. ReachedIn c (partition c.config p) a.era o (a.reached n)) refl
        ((reached_landed c e n (with_node w before) (partition c.config p) a.era (a.reached n) (node_at (land c e n (with_node w before)) n)).0 (r.nodes.eras n)))

    pub closed : (t : TxId) → t.node ≡ n → IsClosed (a.home t)
    unfolding land
    closed t is =
        stands_closed (is_unborn s.view before t) (a.home t)
        (stood_none (last_view c).epoch t (a.home t) (at_node c e n acts (with_node w before) t.node (λ o. StandsIn (last_view c).epoch o t p (a.home t)) is (r.homes.stands t)))

    step : Step a joined
    step = joins n new_era (let b = bounds in let low = b.1 in let up = rises in omega (arith, low, up)) (let b = bounds in let low = b.0 in let up = rises in omega (arith, low, up)) closed

    up_to : (m : ℕ) → a.reached m ≤ updn a.reached n new_era m
    up_to m = reached_up a.reached n new_era m (let b = bounds in let low = b.0 in let up = rises in omega (arith, low, up))

    told_on : (t : TxId) (k : ℕ) (have : Option ℕ) → HasAsked (a.reached t.node) k (a.home t) have → HasAsked (updn a.reached n new_era t.node) k (a.home t) have
    told_on t k have is = by (t.node == n) refl
      where
        by : (b : Bool) → (t.node == n) ≡ b → HasAsked (updn a.reached n new_era t.node) k (a.home t) have
        by true same = record { begun = is.begun; told = λ any. told_closed have (a.home t) (closed t (eqb-true t.node n same)) is.begun }
        by false other = subst (λ (x : ℕ). HasAsked x k (a.home t) have) (sym (reached_there a.reached n new_era t.node other)) is

    homes_on : HomesAre (land c e n w) p (current joined) joined
    unfolding land joining
    homes_on =
        record {
          stands = λ t. kept t (λ o. StandsIn (last_view c).epoch o t p (a.home t)) (stands_on (last_view c).epoch t (a.home t)) (r.homes.stands t);
          kinds = λ t. kept t (λ o. KindIn o t p) (λ old. kind_on t) (r.homes.kinds t);
          scripts = r.homes.scripts;
          images = λ t. kept t (λ o. ImageIn o t p (a.home t) (a.image t)) (λ old. old) (r.homes.images t);
          written = λ t holds. kept t (λ o. DiffersWithin (runs_in o t p) (current a).bytes (a.image t)) (λ old. old) (r.homes.written t holds);
        }
      where
        kept : (t : TxId) (Q : Option NodeState → Type 0) → (Q (Some before) → Q (Some w.node)) → Q (node_at (land c e n (with_node w before)) t.node) → Q (node_at (land c e n w) t.node)
        kept t Q here is = kept_node c e n acts (with_node w before) w t.node Q (λ at. here) is

    now_reached : ReachedIn c (partition c.config p) a.era (Some w.node) new_era
    now_reached =
        subst (λ (o : Option View). ReachedBy c (partition c.config p) a.era w.node o new_era) (sym has.view)
        (refl, (let b = bounds in let low = b.1 in let up = rises in omega (arith, low, up)))

    nodes_on : NodesAre (land c e n w) p (partition c.config p) joined.era joined.right joined.reached
    unfolding shelf_of joining land
    nodes_on =
        record {
          shelves = λ m. kept_node c e n acts (with_node w before) w m (λ o. shelf_in o p ≡ on_shelf (a.right m)) (λ at old. old) (r.nodes.shelves m);
          eras = λ m.
              (reached_landed c e n w (partition c.config p) a.era (updn a.reached n new_era m) (node_at (land c e n w) m)).1
              (of_node c e n acts w m (λ o. ReachedIn c (partition c.config p) a.era o (updn a.reached n new_era m))
              (λ is. subst (λ (k : ℕ). ReachedIn c (partition c.config p) a.era (Some w.node) k) (sym (reached_here a.reached n new_era m is)) now_reached)
              (λ other. subst (λ (k : ℕ). ReachedIn c (partition c.config p) a.era (node_at c m) k) (sym (reached_there a.reached n new_era m other))
              (at_other c e n acts (with_node w before) m (λ o. ReachedIn c (partition c.config p) a.era o (a.reached m)) other
              ((reached_landed c e n (with_node w before) (partition c.config p) a.era (a.reached m) (node_at (land c e n (with_node w before)) m)).0 (r.nodes.eras m)))));
        }

    table_on : (m k : ℕ) (o : Option LockTable) → TableIn a p m k o → TableIn joined p m k o
    unfolding joining
    table_on m k None is = tt
    table_on m k (Some t) is = by t.serving is
      where
        by : (b : Bool) → TableIs a p m k b t → TableIs joined p m k b t
        by true is = served_reach a.reached joined.reached a.home up_to told_on a.served a.owner a.era a.entry a.listed a.right m k (entry_at t p) is
        by false is = rebuilt_reach a.reached joined.reached a.home up_to told_on a.era a.listed a.right k t (entry_at t p) is

    table_of_on : (m : ℕ) (o : Option NodeState) → TableOf a p (partition c.config p) m o → TableOf joined p (partition c.config p) m o
    table_of_on m None is = tt
    table_of_on m (Some x) is = table_on m (era_in x.view (partition c.config p)) (table_at x (partition c.config p)) is

    tables_on : TablesAre (land c e n w) p (partition c.config p) joined
    unfolding joining land
    tables_on =
        record {
          tables = λ m.
              of_node c e n acts w m (λ o. TableOf joined p (partition c.config p) m o)
              (λ is. subst (λ (o : Option LockTable). TableIn joined p m (era_in w.node.view (partition c.config p)) o) (sym free) tt)
              (λ other. table_of_on m (node_at c m) (at_other c e n acts (with_node w before) m (λ o. TableOf a p (partition c.config p) m o) other (r.tables.tables m)));
          serving = λ on. kept_node c e n acts (with_node w before) w a.owner (λ o. serves_in o (partition c.config p) ≡ true) (λ at old. old) (r.tables.serving on);
          era = era_stood c e n (with_node w before) w (partition c.config p) a.era a.owner r.tables.era;
        }

    says_on : (from to : ℕ) (m : Message) → MessageIs (land c e n (with_node w before)) p (partition c.config p) a from to m → MessageIs (land c e n w) p (partition c.config p) joined from to m
    unfolding land era_at joining
    says_on from to m says =
        says_reach a.reached joined.reached a.home up_to told_on a.era a.hist a.listed a.right a.sent p from to (era_at c (partition c.config p) m.epoch) m.body says

    related_on : IsWorkOf c e n p w joined
    unfolding land joining
    related_on =
        record {
          history = history_stays_law c e n p (with_node w before) w a.hist (current a) (record { accesses = λ t. refl; now_same = refl }) r.history;
          stored = r.stored;
          copies = copies_stay_law c e n p (with_node w before) w a.slot a.owner a.dirty acts refl r.copies;
          homes = homes_on;
          nodes = nodes_on;
          tables = tables_on;
          links =
              links_narrow c e n p acts w before (λ from epoch. counts_unborn c n s v w.node acts has s.home.txs.born from (partition c.config p) epoch none) (partition c.config p) a joined says_on
              r.links;
        }

pub join_is_kept_law : JoinIsKept
join_is_kept_law c e n p s v w a acts has none empty born free r =
    record { step = step c e n p s v w acts has none empty born free a r; related = related_on c e n p s v w acts has none empty born free a r }
