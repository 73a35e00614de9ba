-- The whole relation where a transaction of one node ended.
use Rattle.std.proofs.Common.{◌≡◌, refl, sym, ap, subst, ◌∙◌, ℕ, ◌≤◌, ◌==◌, Bool, true, false, List, [], slice_index_or, Option, Some, None, arith}
use Rattle.std.specs.List.{AllByRecursion}
use Rattle.pcl_base.specs.declared.event.Event.{Event}
use Rattle.pcl_base.specs.declared.lock.Waiter.{Waiter}
use Rattle.pcl_base.specs.declared.message.Body.{Body}
use Rattle.pcl_base.specs.declared.message.Body.TheVariants as body
use Rattle.pcl_base.specs.declared.message.Change.{Change}
use Rattle.pcl_base.specs.declared.message.Message.{Message}
use Rattle.pcl_base.specs.declared.tx.Mode.TheVariants.{Exclusive}
use Rattle.pcl_base.specs.declared.tx.TxId.{TxId}
use Rattle.run_rules.specs.Views.{View}
use Rattle.node_rules.specs.LockRule.{LockEntry}
use Rattle.node_rules.specs.LockTable.{LockTable, entry_at}
use Rattle.node_rules.specs.NodeState.{NodeState, Run, runs_at, number_of, partition, table_at, is_serving}
use Rattle.node_rules.specs.Words.{same_tx}
use Rattle.node_rules.specs.Work.{Work}
use Rattle.node_laws.proofs.Lists.{all_weaker}
use Rattle.home_laws.proofs.Tests.{tx_equal}
use Rattle.cluster_rules.specs.Clusters.{Cluster, node_at, last_view, version_of_change}
use Rattle.cluster_laws.specs.Era.Eras.{era_at, owner_at, era_in}
use Rattle.cluster_laws.specs.Link.Coming.{coming}
use Rattle.cluster_laws.specs.Link.Orders.{AreOrdered}
use Rattle.page_laws.specs.Written.Written.{DiffersWithin}
use Rattle.page_protocol.specs.Invariant.{ChangeIs, Inv}
use Rattle.page_protocol.specs.State.{Home, Holding, Ended, Page, IsClosed}
use Rattle.page_relation.specs.Homes.{StandsIn, KindIn, ImageIn, runs_in}
use Rattle.page_relation.specs.Looks.{shelf_of, shelf_in}
use Rattle.page_relation.specs.Messages.{ChangeHas, WaitIs, SaysSo, AreOnce}
use Rattle.page_relation.specs.Relation.{HomesAre, on_shelf, NodesAre, TablesAre, LinksAre, MessageIs, IsPageOf}
use Rattle.page_relation.specs.Tables.{WaiterIs, IsServed, IsRebuilt, TableIs, TableIn, TableOf, ReachedIn, serves_in}
use Rattle.page_relation.proofs.LossParts.Counting.{both_all, coming_eras}
use Rattle.page_relation.proofs.LossParts.Lost.{HomeAfter, after_ended, asked_after}
use Rattle.page_relation.specs.Work.Landing.{land, Acts}
use Rattle.page_relation.proofs.WorkParts.Framing.{reached_same, reached_landed}
use Rattle.page_relation.proofs.WorkParts.Nodes.{of_node}
use Rattle.end_relation.proofs.Closing.{Part, with_part, IsOver, IsEndOf, not_this, stands_over, kinds_over, images_over, standing_over}

module _ (blank : List ℕ) (c : Cluster) (e : Event) (n p : ℕ) (t : TxId) (s : NodeState) (x : Work) (a : Page) (k : Part) (acts : Acts c n) (up : node_at c n ≡ Some s)
    (over : IsOver t s x) (number : number_of s ≡ n) (end : IsEndOf c e n p t x a k) where
  -- what was said of the acting node
  was : (u : TxId) (Q : Option NodeState → Type 0) → u.node ≡ n → Q (node_at c u.node) → Q (Some s)
  was u Q at old = subst Q up (subst (λ (m : ℕ). Q (node_at c m)) at old)

  -- the transaction that ended is one of the acting node
  elsewhere : (u : TxId) → (u.node == n) ≡ false → same_tx u t ≡ false
  elsewhere u other = by (same_tx u t) refl
    where
      by : (b : Bool) → same_tx u t ≡ b → b ≡ false
      by true same =
          let is : u ≡ t = tx_equal u t same in
          let bad : true ≡ false = sym over.mine ∙ ap (λ (m : ℕ). t.node == m) number ∙ ap (λ (v : TxId). v.node == n) (sym is) ∙ other in
          absurd (cc)
      by false different = refl

  home_there : (u : TxId) → (u.node == n) ≡ false → k.home u ≡ a.home u
  home_there u other = subst (λ (b : Bool). HomeAfter b (a.home u) (k.home u)) (elsewhere u other) (end.homes u)

  -- who writes afterwards wrote before, and isn't the one that ended
  writer : (u : TxId) → k.home u ≡ Holding Exclusive → (same_tx u t ≡ false) × (a.home u ≡ Holding Exclusive)
  writer u holds = by (same_tx u t) refl (end.homes u)
    where
      by : (b : Bool) → same_tx u t ≡ b → HomeAfter b (a.home u) (k.home u) → (same_tx u t ≡ false) × (a.home u ≡ Holding Exclusive)
      by true same closing = absurd (subst IsClosed holds closing.closed)
      by false other same = (other, sym same ∙ holds)

  homes_over : IsPageOf c p a → HomesAre (land c e n x) p (record { version = k.now; bytes = k.hist k.now }) (with_part a k)
  unfolding land
  homes_over r =
      record {
        stands = λ u.
            of_node c e n acts x u.node (λ o. StandsIn (last_view c).epoch o u p (k.home u))
            (λ at. stands_over t s x over (last_view c).epoch p u (a.home u) (k.home u) (end.homes u) (was u (λ o. StandsIn (last_view c).epoch o u p (a.home u)) at (r.homes.stands u)))
            (λ other. subst (StandsIn (last_view c).epoch (node_at c u.node) u p) (sym (home_there u other)) (r.homes.stands u));
        kinds = λ u.
            of_node c e n acts x u.node (λ o. KindIn o u p) (λ at. kinds_over t s x over p u (was u (λ o. KindIn o u p) at (r.homes.kinds u))) (λ other. r.homes.kinds u);
        scripts = end.scripts;
        images = λ u.
            of_node c e n acts x u.node (λ o. ImageIn o u p (k.home u) (a.image u))
            (λ at. images_over t s x over p u (a.home u) (k.home u) (a.image u) (end.homes u) (was u (λ o. ImageIn o u p (a.home u) (a.image u)) at (r.homes.images u)))
            (λ other. subst (λ (h : Home). ImageIn (node_at c u.node) u p h (a.image u)) (sym (home_there u other)) (r.homes.images u));
        written = λ u holds.
            let before = writer u holds in
            subst (λ (bytes : List ℕ). DiffersWithin (runs_in (node_at (land c e n x) u.node) u p) bytes (a.image u)) (sym (end.page_same u before.0 before.1))
            (of_node c e n acts x u.node (λ o. DiffersWithin (runs_in o u p) (a.hist a.now) (a.image u))
            (λ at. subst (λ (rs : List Run). DiffersWithin rs (a.hist a.now) (a.image u))
            (sym (not_this t s x over (same_tx u t) [] (runs_at s.home.written u p) (runs_at x.node.home.written u p) (over.home.runs u p) before.0))
            (was u (λ o. DiffersWithin (runs_in o u p) (a.hist a.now) (a.image u)) at (r.homes.written u before.1)))
            (λ other. r.homes.written u before.1));
      }

  nodes_over : IsPageOf c p a → NodesAre (land c e n x) p (partition c.config p) a.era a.right a.reached
  unfolding shelf_of
  nodes_over r =
      record {
        shelves = λ m. of_node c e n acts x m (λ o. shelf_in o p ≡ on_shelf (a.right m)) (λ at. over.home.rights p ∙ here m at (λ o. shelf_in o p ≡ on_shelf (a.right m)) (r.nodes.shelves m)) (λ other. r.nodes.shelves m);
        eras = λ m.
            (reached_landed c e n x (partition c.config p) a.era (a.reached m) (node_at (land c e n x) m)).1
            (of_node c e n acts x m (λ o. ReachedIn c (partition c.config p) a.era o (a.reached m))
            (λ at. reached_same c (partition c.config p) a.era (a.reached m) s x.node (standing_over t s x over) (here m at (λ o. ReachedIn c (partition c.config p) a.era o (a.reached m)) (r.nodes.eras m)))
            (λ other. r.nodes.eras m));
      }
    where
      here : (m : ℕ) → m ≡ n → (Q : Option NodeState → Type 0) → Q (node_at c m) → Q (Some s)
      here m at Q old = subst Q up (subst (λ (j : ℕ). Q (node_at c j)) at old)

  -- ---- the tables

  waiters_over : (era : ℕ) (ws : List Waiter) → AllByRecursion (WaiterIs a.reached a.home era) ws → AllByRecursion (WaiterIs a.reached k.home era) ws
  waiters_over era ws all =
      all_weaker (WaiterIs a.reached a.home era) (WaiterIs a.reached k.home era)
      (λ w asked. asked_after (a.reached w.tx.node) era (same_tx w.tx t) (a.home w.tx) (k.home w.tx) w.have (end.homes w.tx) asked) ws all

  served_over : (m era : ℕ) (y : LockEntry) → IsServed a.served a.owner a.era a.entry a.listed a.right a.reached a.home m era y
      → IsServed a.served a.owner a.era a.entry a.listed a.right a.reached k.home m era y
  served_over m era y is =
      record {
        serves = is.serves;
        here = is.here;
        now = is.now;
        version = is.version;
        holders = is.holders;
        rights = is.rights;
        waiting = waiters_over a.era y.waiting is.waiting;
        writers = is.writers;
      }

  rebuilt_over : (era : ℕ) (b : LockTable) (y : LockEntry) → IsRebuilt a.era a.listed a.right a.reached a.home era b y → IsRebuilt a.era a.listed a.right a.reached k.home era b y
  rebuilt_over era b y is =
      record {
        later = is.later;
        reaches = is.reaches;
        holders = is.holders;
        rights = is.rights;
        waiting = waiters_over era y.waiting is.waiting;
        writers = is.writers;
      }

  table_over : (m era : ℕ) (o : Option LockTable) → TableIn a p m era o → TableIn (with_part a k) p m era o
  table_over m era None is = tt
  table_over m era (Some b) is = by b.serving is
    where
      by : (d : Bool) → TableIs a p m era d b → TableIs (with_part a k) p m era d b
      by true old = served_over m era (entry_at b p) old
      by false old = rebuilt_over era b (entry_at b p) old

  node_over : (m q : ℕ) (o : Option NodeState) → TableOf a p q m o → TableOf (with_part a k) p q m o
  node_over m q None is = tt
  node_over m q (Some y) is = table_over m (era_in y.view q) (table_at y q) is

  same_table : (q : ℕ) → table_at x.node q ≡ table_at s q
  same_table q = ap (λ (ts : List (Option LockTable)). slice_index_or ts q None) over.tables

  tables_over : IsPageOf c p a → TablesAre (land c e n x) p (partition c.config p) (with_part a k)
  unfolding land era_at owner_at
  tables_over r =
      record {
        tables = λ m.
            of_node c e n acts x m (λ o. TableOf (with_part a k) p (partition c.config p) m o)
            (λ at.
            subst (λ (o : Option LockTable). TableIn (with_part a k) p m (era_in x.node.view (partition c.config p)) o) (sym (same_table (partition c.config p)))
            (subst (λ (v : Option View). TableIn (with_part a k) p m (era_in v (partition c.config p)) (table_at s (partition c.config p))) (sym over.view)
            (node_over m (partition c.config p) (Some s) (here m at (λ o. TableOf a p (partition c.config p) m o) (r.tables.tables m)))))
            (λ other. node_over m (partition c.config p) (node_at c m) (r.tables.tables m));
        serving = λ on.
            of_node c e n acts x a.owner (λ o. serves_in o (partition c.config p) ≡ true)
            (λ at. ap is_serving (same_table (partition c.config p)) ∙ here a.owner at (λ o. serves_in o (partition c.config p) ≡ true) (r.tables.serving on))
            (λ other. r.tables.serving on);
        era =
            record {
              epoch = r.tables.era.epoch;
              low = r.tables.era.low;
              made = r.tables.era.made;
              era_there = r.tables.era.era_there;
              owner_there = r.tables.era.owner_there;
            };
      }
    where
      here : (m : ℕ) → m ≡ n → (Q : Option NodeState → Type 0) → Q (node_at c m) → Q (Some s)
      here m at Q old = subst Q up (subst (λ (j : ℕ). Q (node_at c j)) at old)

  -- ---- the links

  change_over : Inv blank a → (u : TxId) (change : Option Change) (era : ℕ) → a.era ≤ era → a.home u ≡ Ended (version_of_change change) era → ChangeHas a.hist change → ChangeHas k.hist change
  change_over inv u None era le is has = tt
  change_over inv u (Some y) era le is has =
      let counted : a.era ≤ era → y.version ≡ a.now = subst (ChangeIs a.era a.now) is (inv.entry_holds.changes u) in
      let same = counted le in
      has ∙ sym (end.hist_same y.version (omega (arith, same)))

  says_over : Inv blank a → (y z era : ℕ) (b : Body) → a.era ≤ era → SaysSo a.era a.hist a.reached a.listed a.right a.home a.sent p y z era b
      → SaysSo a.era k.hist a.reached a.listed a.right k.home a.sent p y z era b
  says_over inv y z era (body.Request r) le says = asked_after (a.reached r.tx.node) era (same_tx r.tx t) (a.home r.tx) (k.home r.tx) r.have (end.homes r.tx) says
  says_over inv y z era (body.Grant g) le says = says
  says_over inv y z era (body.Release r) le says = (
    after_ended (same_tx r.tx t) (a.home r.tx) (k.home r.tx) (version_of_change r.change) era (end.homes r.tx) says.0,
    change_over inv r.tx r.change era le says.0 says.1,
  )
  says_over inv y z era (body.Revoke page) le says = says
  says_over inv y z era (body.Return r) le says = says
  says_over inv y z era (body.Report r) le says =
      record {
        later = says.later;
        reaches = says.reaches;
        locks = says.locks;
        rights = says.rights;
        waits = all_weaker (WaitIs a.reached a.home p era) (WaitIs a.reached k.home p era)
            (λ w asked at. asked_after (a.reached w.tx.node) era (same_tx w.tx t) (a.home w.tx) (k.home w.tx) w.have (end.homes w.tx) (asked at)) r.waits says.waits;
      }

  links_over : Inv blank a → IsPageOf c p a → LinksAre (land c e n x) p (partition c.config p) (with_part a k)
  unfolding land era_at
  links_over inv r =
      record {
        say = λ y z. subst (AllByRecursion (MessageIs (land c e n x) p (partition c.config p) (with_part a k) y z)) (sym (end.coming_same y z)) (say y z);
        ordered = λ y z. subst (AreOrdered 0) (sym (end.coming_same y z)) (r.links.ordered y z);
        once = λ y z. subst AreOnce (sym (end.coming_same y z)) (r.links.once y z);
      }
    where
      say : (y z : ℕ) → AllByRecursion (MessageIs c p (partition c.config p) (with_part a k) y z) (coming c p y z)
      say y z =
          all_weaker
          (λ (m : Message). MessageIs c p (partition c.config p) a y z m × ((m.epoch ≤ (last_view c).epoch) × (a.era ≤ era_at c (partition c.config p) m.epoch)))
          (MessageIs c p (partition c.config p) (with_part a k) y z)
          (λ m both. says_over inv y z (era_at c (partition c.config p) m.epoch) m.body both.1.1 both.0) (coming c p y z)
          (both_all (MessageIs c p (partition c.config p) a y z) (λ (m : Message). (m.epoch ≤ (last_view c).epoch) × (a.era ≤ era_at c (partition c.config p) m.epoch)) (coming c p y z)
          (r.links.say y z) (coming_eras c p a.era y z (a.reached z) acts.cluster (r.nodes.eras z)))

  -- the whole
  pub page_over : Inv blank a → IsPageOf c p a → IsPageOf (land c e n x) p (with_part a k)
  unfolding land
  page_over inv r =
      record {
        history = end.history;
        stored = end.stored;
        copies = end.copies;
        homes = homes_over r;
        nodes = nodes_over r;
        tables = tables_over r;
        links = links_over inv r;
      }
