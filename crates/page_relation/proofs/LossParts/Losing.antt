-- A cluster that loses a node, and the state of a page that the machine has then.
use Rattle.std.proofs.Common.{◌≡◌, refl, sym, ap, subst, ◌∙◌, ℕ, suc, ◌≤◌, ◌==◌, ◌&&◌, Bool, true, false, List, [], Option, Some, None, slice_set, arith}
use Rattle.std.specs.List.{AllByRecursion, filter}
use Rattle.pcl_base.specs.declared.lock.Waiter.{Waiter}
use Rattle.pcl_base.specs.declared.message.Body.{Body}
use Rattle.pcl_base.specs.declared.message.Body.TheVariants as body
use Rattle.pcl_base.specs.declared.message.Change.{Change}
use Rattle.pcl_base.specs.declared.message.Message.{Message}
use Rattle.pcl_base.specs.declared.trace.Entry.{Entry}
use Rattle.pcl_base.specs.declared.tx.Mode.TheVariants.{Exclusive}
use Rattle.pcl_base.specs.declared.tx.TxId.{TxId}
use Rattle.run_rules.specs.Disk.{Disk}
use Rattle.run_rules.specs.Views.{View}
use Rattle.node_rules.specs.Words.{pick}
use Rattle.node_rules.specs.DiskCalls.{Stop}
use Rattle.node_rules.specs.LockRule.{LockEntry}
use Rattle.node_rules.specs.LockTable.{LockTable, entry_at}
use Rattle.node_rules.specs.NodeState.{NodeState, partition, table_at}
use Rattle.node_laws.proofs.Lists.{all_weaker}
use Rattle.cluster_rules.specs.Clusters.{Cluster, node_at, last_view, version_of_change}
use Rattle.cluster_rules.specs.Links.{Links, link_at}
use Rattle.cluster_laws.specs.Sound.{IsMember, IsCluster}
use Rattle.cluster_laws.proofs.Steps.{up_is_member_law}
use Rattle.cluster_laws.specs.Era.Eras.{era_at, owner_at, era_in}
use Rattle.cluster_laws.proofs.EraParts.Ages.{eras_never_fall_law}
use Rattle.cluster_laws.proofs.EraParts.Lives.{members_know_eras_law}
use Rattle.cluster_laws.specs.Link.Coming.{is_coming, coming}
use Rattle.cluster_laws.specs.Link.Orders.{AreOrdered}
use Rattle.page_laws.specs.Storage.Looks.{IsStored}
use Rattle.page_laws.specs.Moment.Looks.{accesses_in}
use Rattle.page_laws.specs.Written.Written.{DiffersWithin}
use Rattle.page_protocol.specs.Bytes.{Copy, Ranges, Access}
use Rattle.page_protocol.specs.Invariant.{ChangeIs, Inv}
use Rattle.page_protocol.specs.Eras.{lost}
use Rattle.page_protocol.specs.State as machine
use Rattle.page_protocol.specs.State.{Right, NoRight, Home, Holding, Ended, Page, IsClosed}
use Rattle.page_relation.specs.Homes.{StandsIn, KindIn, ImageIn, runs_in}
use Rattle.page_relation.specs.Looks.{slot_of, slot_in, dirty_of, dirty_in, shelf_of, shelf_in}
use Rattle.page_relation.specs.Messages.{IsSent, sent_of, ChangeHas, WaitIs, SaysSo, AreOnce}
use Rattle.page_relation.specs.Relation.{CopiesAre, HomesAre, NodesAre, TablesAre, LinksAre, MessageIs, HistoryIs, IsPageOf, on_shelf}
use Rattle.page_relation.specs.Tables.{WaiterIs, IsServed, IsRebuilt, TableIs, TableIn, TableOf, ReachedBy, ReachedIn, serves_in}
use Rattle.page_relation.proofs.LossParts.Counting.{both_all, coming_eras}
use Rattle.page_relation.proofs.LossParts.Lost.{by_lost, HomeAfter, after_ended, asked_after, lost_shelf, rights_after, counts_after, none_after, returning_after, lost_stands}

-- the parts of a page's state that a loss may change, beside the node's right
pub record Left : Type 0 where
  pub now : ℕ
  pub hist : ℕ → List ℕ
  pub committed : List (List Access)
  pub disk : Copy
  pub log : ℕ → ℕ → Option Ranges
  pub home : TxId → Home
  pub slot : ℕ → Option Copy
  pub served : Bool
  pub dirty : Bool

-- the state once node n is lost
abbrev pub left_page : Page → ℕ → Left → Page
left_page a n k =
    record a {
      now = k.now;
      hist = k.hist;
      committed = k.committed;
      disk = k.disk;
      log = k.log;
      home = k.home;
      served = k.served;
      dirty = k.dirty;
      slot = k.slot;
      right = rights_after a.right n;
    }

-- the cluster once node n is lost
abbrev pub left_cluster : Cluster → ℕ → Links → Disk → List (Option Stop) → List Entry → Cluster
left_cluster c n ls disk ss trace =
    record c { nodes = slice_set c.nodes n None; links = ls; disk = disk; stops = ss; trace = trace }

-- what has become of these parts
pub record IsLeft (c : Cluster) (p n : ℕ) (disk : Disk) (trace : List Entry) (a : Page) (k : Left) : Type 0 where
  pub history : HistoryIs (record c { trace = trace }) p k.hist (record { version = k.now; bytes = k.hist k.now })
  pub stored : IsStored c.config disk p k.disk k.log
  pub scripts : (t : TxId) → a.script t ≡ accesses_in t p trace
  pub homes : (t : TxId) → HomeAfter (t.node == n) (a.home t) (k.home t)
  pub page_same : (t : TxId) → (t.node == n) ≡ false → a.home t ≡ Holding Exclusive → k.hist k.now ≡ a.hist a.now
  pub hist_same : (v : ℕ) → v ≤ a.now → k.hist v ≡ a.hist v
  pub slots : (m : ℕ) → k.slot m ≡ machine.pick (m == n) None (a.slot m)
  pub served : a.served ≡ true → (a.owner == n) ≡ false → k.served ≡ true
  pub serving : k.served ≡ true → (a.served ≡ true) × ((a.owner == n) ≡ false)
  pub dirty_lost : (m : ℕ) → (m == n) ≡ true → (k.dirty && m == a.owner) ≡ false
  pub dirty_kept : (m : ℕ) → (m == n) ≡ false → (k.dirty && m == a.owner) ≡ (a.dirty && m == a.owner)

module _ (blank : List ℕ) (c : Cluster) (p n : ℕ) (ls : Links) (disk : Disk) (ss : List (Option Stop)) (trace : List Entry) (a : Page) (k : Left) where
  -- ---- the nodes

  copies_left : IsLeft c p n disk trace a k → IsPageOf c p a → CopiesAre (left_cluster c n ls disk ss trace) p k.slot a.owner k.dirty
  unfolding slot_of dirty_of
  copies_left x r =
      record {
        slot_same = λ m. by_lost c.nodes n m (λ b o. slot_in o p ≡ machine.pick b None (a.slot m)) (λ e. refl) (λ e. r.copies.slot_same m) ∙ sym (x.slots m);
        dirty_same = λ m. by_lost c.nodes n m (λ b o. dirty_in o p ≡ (k.dirty && m == a.owner)) (λ e. sym (x.dirty_lost m e)) (λ e. r.copies.dirty_same m ∙ sym (x.dirty_kept m e));
      }

  member : IsCluster c → (m : ℕ) (s : NodeState) → node_at c m ≡ Some s → IsMember c.config c.views m s
  member i m s at = (up_is_member_law c m s i at).1

  homes_left : IsCluster c → IsLeft c p n disk trace a k → IsPageOf c p a
      → HomesAre (left_cluster c n ls disk ss trace) p (record { version = k.now; bytes = k.hist k.now }) (left_page a n k)
  homes_left i x r =
      record {
        stands = λ t. by_lost c.nodes n t.node (λ b o. HomeAfter b (a.home t) (k.home t) → StandsIn (last_view c).epoch o t p (k.home t))
            (λ e closing. lost_stands c t.node (node_at c t.node) t p (a.home t) (k.home t) (member i t.node) closing (r.homes.stands t))
            (λ e same. subst (StandsIn (last_view c).epoch (node_at c t.node) t p) (sym same) (r.homes.stands t)) (x.homes t);
        kinds = λ t. by_lost c.nodes n t.node (λ b o. KindIn o t p) (λ e. tt) (λ e. r.homes.kinds t);
        scripts = x.scripts;
        images = λ t. by_lost c.nodes n t.node (λ b o. HomeAfter b (a.home t) (k.home t) → ImageIn o t p (k.home t) (a.image t))
            (λ e closing. tt) (λ e same. subst (λ (h : Home). ImageIn (node_at c t.node) t p h (a.image t)) (sym same) (r.homes.images t)) (x.homes t);
        written = λ t holds. by_lost c.nodes n t.node (λ b o. HomeAfter b (a.home t) (k.home t) → DiffersWithin (runs_in o t p) (k.hist k.now) (a.image t))
            (λ e closing. absurd (subst IsClosed holds closing.closed))
            (λ e same. subst (λ (bytes : List ℕ). DiffersWithin (runs_in (node_at c t.node) t p) bytes (a.image t)) (sym (x.page_same t e (sym same ∙ holds))) (r.homes.written t (sym same ∙ holds)))
            (x.homes t);
      }

  -- a node that is lost has reached no later era than it had
  lost_reached : IsCluster c → (m era reached : ℕ) (o : Option NodeState) → node_at c m ≡ o → ReachedIn c (partition c.config p) era o reached → reached ≤ era_at c (partition c.config p) (last_view c).epoch
  lost_reached i m era reached None at bound = bound
  lost_reached i m era reached (Some s) at bound = of s.view refl bound
    where
      is : IsMember c.config c.views m s
      is = member i m s at

      rise : era_at c (partition c.config p) s.epoch ≤ era_at c (partition c.config p) (last_view c).epoch
      rise = eras_never_fall_law c (partition c.config p) s.epoch (last_view c).epoch i is.reached (omega arith)

      of : (v : Option View) → s.view ≡ v → ReachedBy c (partition c.config p) era s v reached → reached ≤ era_at c (partition c.config p) (last_view c).epoch
      of None own low = let upto = low.0 in let up = rise in omega (arith, upto, up)
      of (Some v) own low =
          let same = low.0 in
          let known = (members_know_eras_law c m s v is own).eras (partition c.config p) in
          let up = rise in
          omega (arith, same, known, up)

  nodes_left : IsCluster c → IsPageOf c p a → NodesAre (left_cluster c n ls disk ss trace) p (partition c.config p) a.era (rights_after a.right n) a.reached
  unfolding shelf_of era_at
  nodes_left i r =
      record {
        shelves = λ m. by_lost c.nodes n m (λ b o. shelf_in o p ≡ on_shelf (machine.pick b (lost (a.right n)) (a.right m))) (λ e. lost_shelf (a.right n)) (λ e. r.nodes.shelves m);
        eras = λ m. by_lost c.nodes n m (λ b o. ReachedIn c (partition c.config p) a.era o (a.reached m)) (λ e. lost_reached i m a.era (a.reached m) (node_at c m) refl (r.nodes.eras m)) (λ e. r.nodes.eras m);
      }

  -- ---- the tables

  waiters_left : IsLeft c p n disk trace a k → (e : ℕ) (ws : List Waiter) → AllByRecursion (WaiterIs a.reached a.home e) ws → AllByRecursion (WaiterIs a.reached k.home e) ws
  waiters_left x e ws all = all_weaker (WaiterIs a.reached a.home e) (WaiterIs a.reached k.home e) (λ w asked. asked_after (a.reached w.tx.node) e (w.tx.node == n) (a.home w.tx) (k.home w.tx) w.have (x.homes w.tx) asked) ws all

  served_left : IsLeft c p n disk trace a k → (m e : ℕ) (y : LockEntry) → (m == n) ≡ false → IsServed a.served a.owner a.era a.entry a.listed a.right a.reached a.home m e y
      → IsServed k.served a.owner a.era a.entry a.listed (rights_after a.right n) a.reached k.home m e y
  served_left x m e y other is =
      record {
        serves = x.served is.serves (subst (λ (j : ℕ). (j == n) ≡ false) is.here other);
        here = is.here;
        now = is.now;
        version = is.version;
        holders = is.holders;
        rights = λ j out. is.rights j (λ none. out (none_after a.right n j none));
        waiting = waiters_left x a.era y.waiting is.waiting;
        writers = is.writers;
      }

  rebuilt_left : IsLeft c p n disk trace a k → (e : ℕ) (t : LockTable) (y : LockEntry) → IsRebuilt a.era a.listed a.right a.reached a.home e t y
      → IsRebuilt a.era a.listed (rights_after a.right n) a.reached k.home e t y
  rebuilt_left x e t y is =
      record {
        later = is.later;
        reaches = is.reaches;
        holders = is.holders;
        rights = λ j mark counts. is.rights j mark (counts_after a.right n j e counts);
        waiting = waiters_left x e y.waiting is.waiting;
        writers = is.writers;
      }

  table_left : IsLeft c p n disk trace a k → (m : ℕ) → (m == n) ≡ false → (o : Option NodeState) → TableOf a p (partition c.config p) m o → TableOf (left_page a n k) p (partition c.config p) m o
  table_left x m other None is = tt
  table_left x m other (Some s) is = at (table_at s (partition c.config p)) is
    where
      of : (t : LockTable) (b : Bool) → TableIs a p m (era_in s.view (partition c.config p)) b t → TableIs (left_page a n k) p m (era_in s.view (partition c.config p)) b t
      of t true is = served_left x m (era_in s.view (partition c.config p)) (entry_at t p) other is
      of t false is = rebuilt_left x (era_in s.view (partition c.config p)) t (entry_at t p) is

      at : (o : Option LockTable) → TableIn a p m (era_in s.view (partition c.config p)) o → TableIn (left_page a n k) p m (era_in s.view (partition c.config p)) o
      at None is = tt
      at (Some t) is = of t t.serving is

  tables_left : IsLeft c p n disk trace a k → IsPageOf c p a → TablesAre (left_cluster c n ls disk ss trace) p (partition c.config p) (left_page a n k)
  unfolding era_at owner_at
  tables_left x r =
      record {
        tables = λ m. by_lost c.nodes n m (λ b o. TableOf (left_page a n k) p (partition c.config p) m o) (λ e. tt) (λ e. table_left x m e (node_at c m) (r.tables.tables m));
        serving = λ on. by_lost c.nodes n a.owner (λ b o. b ≡ false → serves_in o (partition c.config p) ≡ true) (λ e bad. absurd (cc)) (λ e out. r.tables.serving (x.serving on).0) (x.serving on).1;
        era =
            record {
              epoch = r.tables.era.epoch;
              low = r.tables.era.low;
              made = r.tables.era.made;
              era_there = r.tables.era.era_there;
              owner_there = r.tables.era.owner_there;
            };
      }

  -- ---- the links

  coming_left : ((x y : ℕ) → link_at ls x y ≡ pick (y == n) [] (link_at c.links x y)) → (x y : ℕ) → coming (left_cluster c n ls disk ss trace) p x y ≡ pick (y == n) [] (coming c p x y)
  unfolding coming
  coming_left cleared x y =
      ap (filter (is_coming c.config p x (node_at (left_cluster c n ls disk ss trace) y))) (cleared x y)
      ∙ by_lost c.nodes n y
      (λ b o. filter (is_coming c.config p x o) (pick b [] (link_at c.links x y)) ≡ pick b [] (filter (is_coming c.config p x (node_at c y)) (link_at c.links x y)))
      (λ e. refl) (λ e. refl)

  -- what a message says
  change_left : IsLeft c p n disk trace a k → Inv blank a → (t : TxId) (change : Option Change) (e : ℕ) → a.era ≤ e → a.home t ≡ Ended (version_of_change change) e → ChangeHas a.hist change → ChangeHas k.hist change
  change_left x i t None e le is has = tt
  change_left x i t (Some y) e le is has =
      let counted : a.era ≤ e → y.version ≡ a.now = subst (ChangeIs a.era a.now) is (i.entry_holds.changes t) in
      let same = counted le in
      has ∙ sym (x.hist_same y.version (omega (arith, same)))

  right_left : (y : ℕ) → (y == n) ≡ false → rights_after a.right n y ≡ a.right y
  right_left y other = ap (λ (b : Bool). machine.pick b (lost (a.right n)) (a.right y)) other

  says_left : IsLeft c p n disk trace a k → Inv blank a → (x y e : ℕ) (b : Body) → (y == n) ≡ false → a.era ≤ e → SaysSo a.era a.hist a.reached a.listed a.right a.home a.sent p x y e b
      → SaysSo a.era k.hist a.reached a.listed (rights_after a.right n) k.home a.sent p x y e b
  says_left z i x y e (body.Request r) other le says = asked_after (a.reached r.tx.node) e (r.tx.node == n) (a.home r.tx) (k.home r.tx) r.have (z.homes r.tx) says
  says_left z i x y e (body.Grant g) other le says = (says.0, λ at. subst (λ (r : Right). IsSent g.right a.sent r (sent_of g)) (sym (right_left y other)) (says.1 at))
  says_left z i x y e (body.Release r) other le says = (
    after_ended (r.tx.node == n) (a.home r.tx) (k.home r.tx) (version_of_change r.change) e (z.homes r.tx) says.0,
    change_left z i r.tx r.change e le says.0 says.1,
  )
  says_left z i x y e (body.Revoke page) other le says = says
  says_left z i x y e (body.Return r) other le says = (says.0, λ at. returning_after a.right n x (suc a.era) r.readers (says.1 at))
  says_left z i x y e (body.Report r) other le says =
      record {
        later = says.later;
        reaches = says.reaches;
        locks = says.locks;
        rights = λ counts. says.rights (counts_after a.right n x e counts);
        waits = all_weaker (WaitIs a.reached a.home p e) (WaitIs a.reached k.home p e)
            (λ w asked at. asked_after (a.reached w.tx.node) e (w.tx.node == n) (a.home w.tx) (k.home w.tx) w.have (z.homes w.tx) (asked at)) r.waits says.waits;
      }

  none_once : AreOnce []
  none_once = record { releases = λ t. omega arith; rights = omega arith; answers = omega arith }

  links_left : IsCluster c → Inv blank a → IsLeft c p n disk trace a k → IsPageOf c p a → ((x y : ℕ) → link_at ls x y ≡ pick (y == n) [] (link_at c.links x y))
      → LinksAre (left_cluster c n ls disk ss trace) p (partition c.config p) (left_page a n k)
  unfolding era_at
  links_left i inv z r cleared =
      record {
        say = λ x y. subst (AllByRecursion (MessageIs (left_cluster c n ls disk ss trace) p (partition c.config p) (left_page a n k) x y)) (sym (coming_left cleared x y)) (say x y (y == n) refl);
        ordered = λ x y. subst (AreOrdered 0) (sym (coming_left cleared x y)) (ordered x y (y == n));
        once = λ x y. subst AreOnce (sym (coming_left cleared x y)) (once x y (y == n));
      }
    where
      say : (x y : ℕ) (b : Bool) → (y == n) ≡ b → AllByRecursion (MessageIs c p (partition c.config p) (left_page a n k) x y) (pick b [] (coming c p x y))
      say x y true e = tt
      say x y false e =
          all_weaker
          (λ (m : Message). MessageIs c p (partition c.config p) a x y m × ((m.epoch ≤ (last_view c).epoch) × (a.era ≤ era_at c (partition c.config p) m.epoch)))
          (MessageIs c p (partition c.config p) (left_page a n k) x y)
          (λ m both. says_left z inv x y (era_at c (partition c.config p) m.epoch) m.body e both.1.1 both.0) (coming c p x y)
          (both_all (MessageIs c p (partition c.config p) a x y) (λ (m : Message). (m.epoch ≤ (last_view c).epoch) × (a.era ≤ era_at c (partition c.config p) m.epoch)) (coming c p x y)
          (r.links.say x y) (coming_eras c p a.era x y (a.reached y) i (r.nodes.eras y)))

      ordered : (x y : ℕ) (b : Bool) → AreOrdered 0 (pick b [] (coming c p x y))
      ordered x y true = tt
      ordered x y false = r.links.ordered x y

      once : (x y : ℕ) (b : Bool) → AreOnce (pick b [] (coming c p x y))
      once x y true = none_once
      once x y false = r.links.once x y

  -- the whole
  pub page_left : IsCluster c → Inv blank a → IsLeft c p n disk trace a k → IsPageOf c p a → ((x y : ℕ) → link_at ls x y ≡ pick (y == n) [] (link_at c.links x y))
      → IsPageOf (left_cluster c n ls disk ss trace) p (left_page a n k)
  page_left i inv x r cleared =
      record {
        history = record { now_same = x.history.now_same; below = x.history.below; sizes = x.history.sizes };
        stored = x.stored;
        copies = copies_left x r;
        homes = homes_left i x r;
        nodes = nodes_left i r;
        tables = tables_left x r;
        links = links_left i inv x r cleared;
      }
