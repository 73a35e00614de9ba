-- A node in no view is taken to have reached the era of its epoch: what it has reached it has forgotten.
use Rattle.std.proofs.Common.{◌≡◌, refl, sym, subst, ℕ, ◌≤◌, ◌==◌, Bool, true, false, Option, Some, None, eqb-true, arith}
use Rattle.pcl_base.specs.declared.event.Event.{Event}
use Rattle.pcl_base.specs.declared.lock.Waiter.{Waiter}
use Rattle.pcl_base.specs.declared.tx.TxId.{TxId}
use Rattle.run_rules.specs.Views.{View}
use Rattle.node_rules.specs.LockTable.{LockTable, entry_at}
use Rattle.node_rules.specs.NodeState.{NodeState, partition, table_at}
use Rattle.node_rules.specs.Work.{Work, with_node}
use Rattle.node_laws.proofs.Lists.{all_weaker}
use Rattle.cluster_rules.specs.Clusters.{Cluster, node_at}
use Rattle.cluster_laws.specs.Era.Eras.{era_at, era_in}
use Rattle.cluster_laws.specs.Link.Coming.{coming}
use Rattle.page_protocol.specs.Eras.{joining}
use Rattle.page_protocol.specs.State.{Page, updn}
use Rattle.page_protocol.specs.Steps.{Step, joins}
use Rattle.page_relation.specs.Messages.{HasAsked}
use Rattle.page_relation.specs.Relation.{NodesAre, TablesAre, LinksAre, MessageIs}
use Rattle.page_relation.specs.Tables.{TableIs, TableIn, TableOf, ReachedBy, ReachedIn}
use Rattle.page_relation.specs.Work.Keeping.{IsWorkOf}
use Rattle.page_relation.specs.Work.Landing.{land, Acts}
use Rattle.page_relation.proofs.WorkParts.Framing.{reached_landed}
use Rattle.page_relation.proofs.WorkParts.Nodes.{changed_node}
use Rattle.kept_relation.specs.Turn.Standing.{HasNext, stood}
use Rattle.kept_relation.specs.Turn.Telling.{IsHeard, IsBack, Begins}
use Rattle.kept_relation.proofs.TurnParts.Joining.{bounds, closed}
use Rattle.kept_relation.proofs.TurnParts.Reaching.{reached_here, reached_there, reached_up, served_reach, rebuilt_reach, says_reach}
use Rattle.kept_relation.proofs.TurnParts.Unborn.{told_closed}

module _ (c : Cluster) (e : Event) (n p : ℕ) (s : NodeState) (v : View) (w : Work) (a : Page) (acts : Acts c n) (has : HasNext c n s v w.node) (first : Begins c p s w) (r : IsWorkOf c e n p (with_node w (stood s.epoch s.view s.home.txs.born w.node)) a) where
  abbrev before : NodeState
  before = stood s.epoch s.view s.home.txs.born w.node

  abbrev to : ℕ
  to = era_at c (partition c.config p) s.epoch

  abbrev pub bounded : Page
  bounded = joining a n to

  pub limits : (a.reached n ≤ to) × (a.era ≤ to)
  limits = bounds c e n p s v w acts has first.none first.empty first.born first.free a r

  pub step_bounded : Step a bounded
  step_bounded = joins n to limits.1 limits.0 (closed c e n p s v w acts has first.none first.empty first.born first.free a r)

  up_to : (m : ℕ) → a.reached m ≤ updn a.reached n to m
  up_to m = reached_up a.reached n to m limits.0

  told_on : (t : TxId) (k : ℕ) (have : Option ℕ) → HasAsked (a.reached t.node) k (a.home t) have → HasAsked (updn a.reached n to t.node) k (a.home t) have
  told_on t k have is = by (t.node == n) refl
    where
      by : (b : Bool) → (t.node == n) ≡ b → HasAsked (updn a.reached n to t.node) k (a.home t) have
      by true same =
          record {
            begun = is.begun;
            told = λ any. told_closed have (a.home t) (closed c e n p s v w acts has first.none first.empty first.born first.free a r t (eqb-true t.node n same)) is.begun;
          }
      by false other = subst (λ (x : ℕ). HasAsked x k (a.home t) have) (sym (reached_there a.reached n to t.node other)) is

  nodes_bounded : NodesAre (land c e n (with_node w before)) p (partition c.config p) a.era a.right (updn a.reached n to)
  unfolding land
  nodes_bounded =
      record {
        shelves = r.nodes.shelves;
        eras = λ m.
            (reached_landed c e n (with_node w before) (partition c.config p) a.era (updn a.reached n to m) (node_at (land c e n (with_node w before)) m)).1
            (changed_node c e n acts (with_node w before) (with_node w before) m (λ o. ReachedIn c (partition c.config p) a.era o (a.reached m))
            (λ o. ReachedIn c (partition c.config p) a.era o (updn a.reached n to m))
            (λ is old. subst (ReachedIn c (partition c.config p) a.era (Some before)) (sym (reached_here a.reached n to m is))
            (subst (λ (o : Option View). ReachedBy c (partition c.config p) a.era before o to) (sym first.none) (omega arith, limits.1)))
            (λ o other old. subst (ReachedIn c (partition c.config p) a.era o) (sym (reached_there a.reached n to m other)) old)
            ((reached_landed c e n (with_node w before) (partition c.config p) a.era (a.reached m) (node_at (land c e n (with_node w before)) m)).0 (r.nodes.eras m)));
      }

  table_bounded : (m k : ℕ) (o : Option LockTable) → TableIn a p m k o → TableIn bounded p m k o
  unfolding joining
  table_bounded m k None is = tt
  table_bounded m k (Some t) is = by t.serving is
    where
      by : (b : Bool) → TableIs a p m k b t → TableIs bounded p m k b t
      by true is = served_reach a.reached (updn a.reached n to) a.home up_to told_on a.served a.owner a.era a.entry a.listed a.right m k (entry_at t p) is
      by false is = rebuilt_reach a.reached (updn a.reached n to) a.home up_to told_on a.era a.listed a.right k t (entry_at t p) is

  table_of_bounded : (m : ℕ) (o : Option NodeState) → TableOf a p (partition c.config p) m o → TableOf bounded p (partition c.config p) m o
  table_of_bounded m None is = tt
  table_of_bounded m (Some x) is = table_bounded m (era_in x.view (partition c.config p)) (table_at x (partition c.config p)) is

  tables_bounded : TablesAre (land c e n (with_node w before)) p (partition c.config p) bounded
  unfolding joining land
  tables_bounded =
      record {
        tables = λ m. table_of_bounded m (node_at (land c e n (with_node w before)) m) (r.tables.tables m);
        serving = r.tables.serving;
        era = r.tables.era;
      }

  links_bounded : LinksAre (land c e n (with_node w before)) p (partition c.config p) bounded
  unfolding joining land
  links_bounded =
      record {
        say = λ x y.
            all_weaker (MessageIs (land c e n (with_node w before)) p (partition c.config p) a x y) (MessageIs (land c e n (with_node w before)) p (partition c.config p) bounded x y)
            (λ m. says_reach a.reached (updn a.reached n to) a.home up_to told_on a.era a.hist a.listed a.right a.sent p x y (era_at (land c e n (with_node w before)) (partition c.config p) m.epoch) m.body)
            (coming (land c e n (with_node w before)) p x y) (r.links.say x y);
        ordered = r.links.ordered;
        once = r.links.once;
      }

  pub related_bounded : IsWorkOf c e n p (with_node w before) bounded
  unfolding joining land
  related_bounded =
      record {
        history = r.history;
        stored = r.stored;
        copies = r.copies;
        homes = record { stands = r.homes.stands; kinds = r.homes.kinds; scripts = r.homes.scripts; images = r.homes.images; written = r.homes.written };
        nodes = nodes_bounded;
        tables = tables_bounded;
        links = links_bounded;
      }

  pub heard_bounded : IsHeard c p a → IsHeard c p bounded
  unfolding joining
  heard_bounded heard m x t at there =
      all_weaker (λ (y : Waiter). era_in x.view (partition c.config p) ≤ a.reached y.tx.node) (λ (y : Waiter). era_in x.view (partition c.config p) ≤ updn a.reached n to y.tx.node)
      (λ y le. let up = up_to y.tx.node in omega (arith, le, up)) (entry_at t p).waiting (heard m x t at there)

  pub back_bounded : IsBack a n → IsBack bounded n
  unfolding joining
  back_bounded back upto readers is = let le = back upto readers is in let up = up_to n in omega (arith, le, up)

  pub low_bounded : (bounded.era ≤ bounded.reached n) × (bounded.reached n ≡ to)
  unfolding joining
  low_bounded = ((let here = reached_here a.reached n to n refl in let low = limits.1 in omega (arith, here, low)), reached_here a.reached n to n refl)
