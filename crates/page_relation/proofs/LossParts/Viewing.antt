-- A further view, before which some nodes start.
use Rattle.std.proofs.Common.{◌≡◌, refl, ap, sym, subst, ◌∙◌, ℕ, ◌+◌, ◌≤◌, ◌==◌, ◌&&◌, true, false, List, [], ◌∷◌, ◌++◌, Option, Some, None, arith}
use Rattle.std.specs.List.{AllByRecursion, filter}
use Rattle.std.proofs.lemmas.Bool.Decides.{nat_tests}
use Rattle.pcl_base.specs.declared.message.Message.{Message}
use Rattle.pcl_base.specs.declared.trace.Entry.{Entry}
use Rattle.pcl_base.specs.declared.tx.TxId.{TxId}
use Rattle.run_rules.specs.Base.{Base}
use Rattle.run_rules.specs.Views.{View, first}
use Rattle.node_rules.specs.NodeState.{NodeState, partition, start_node}
use Rattle.node_laws.proofs.Lists.{all_weaker}
use Rattle.cluster_rules.specs.Clusters.{Cluster, node_at, last_view}
use Rattle.cluster_rules.specs.Links.{link_at}
use Rattle.cluster_laws.specs.Sound.{IsOnLink, IsMember, IsCluster}
use Rattle.cluster_laws.proofs.Steps.{up_is_member_law}
use Rattle.cluster_laws.proofs.Views.{last_push}
use Rattle.cluster_laws.specs.Era.Eras.{era_at, owner_at, era_in}
use Rattle.node_rules.specs.NodeState.{owner_in}
use Rattle.cluster_laws.proofs.EraParts.Ages.{eras_never_fall_law}
use Rattle.cluster_laws.specs.Link.Coming.{is_coming, coming}
use Rattle.cluster_laws.specs.Link.Orders.{AreOrdered}
use Rattle.page_laws.specs.Moment.Looks.{HasPage}
use Rattle.page_laws.specs.Written.Written.{DiffersWithin}
use Rattle.page_protocol.specs.State.{Page, current}
use Rattle.page_relation.specs.Homes.{StandsIn, KindIn, ImageIn, runs_in}
use Rattle.page_relation.specs.Looks.{slot_of, slot_in, dirty_of, dirty_in, shelf_of, shelf_in}
use Rattle.page_relation.specs.Messages.{SaysSo, AreOnce}
use Rattle.page_relation.specs.Relation.{CopiesAre, HomesAre, NodesAre, TablesAre, LinksAre, MessageIs, IsPageOf, on_shelf}
use Rattle.page_relation.specs.Tables.{TableOf, ReachedBy, ReachedIn, serves_in}
use Rattle.page_relation.proofs.LossParts.Counting.{both_all, all_passing}
use Rattle.page_relation.proofs.LossParts.Starts.{started_nodes, by_started, push_before}
use Rattle.page_relation.proofs.LossParts.Started.{start_slot, start_clean, start_shelf, start_stands, start_kinds, start_image, start_table, down_image, down_holds, later_stands, none_pass, down_takes, start_takes}
use Rattle.page_relation.proofs.LossParts.Told.{TellsLittle}

-- the cluster with a further view, once some nodes have started
abbrev pub viewed : Cluster → List ℕ → View → List Entry → Cluster
viewed c ns v trace =
    record c { nodes = started_nodes c.config (last_view c).epoch ns c.nodes; views = c.views ++ v ∷ []; trace = trace }

-- what is known of it
pub record IsViewed (c : Cluster) (ns : List ℕ) (v : View) (trace : List Entry) : Type 0 where
  pub before : IsCluster c
  pub after : IsCluster (viewed c ns v trace)
  pub epoch : v.epoch ≡ (last_view c).epoch + 1
  pub down : AllByRecursion (λ n. node_at c n ≡ None) ns

module _ (c : Cluster) (ns : List ℕ) (v : View) (trace : List Entry) where
  -- a node stays, or was down and starts
  pub by_node : AllByRecursion (λ n. node_at c n ≡ None) ns → (P : Option NodeState → Type 0) (m : ℕ) → (node_at c m ≡ None → P (Some (start_node c.config m (last_view c).epoch))) → P (node_at c m)
      → P (node_at (viewed c ns v trace) m)
  by_node down P m starts stays = by_started P c.config (last_view c).epoch ns c.nodes c.nodes m down starts stays

  pub last_is : (last_view (viewed c ns v trace)).epoch ≡ v.epoch
  last_is = ap (λ (x : View). x.epoch) (last_push (first c.config) c.views v)

  pub eras_same : IsViewed c ns v trace → (q e : ℕ) → e ≤ (last_view c).epoch → era_at (viewed c ns v trace) q e ≡ era_at c q e
  unfolding era_at
  eras_same i q e le =
      let epoch = i.epoch in ap (λ (o : Option View). era_in o q) (push_before c.views v e (let other : (v.epoch == e) ≡ false = grind (arith, nat_tests, epoch, le) in other))

  owners_same : IsViewed c ns v trace → (q e : ℕ) → e ≤ (last_view c).epoch → owner_at (viewed c ns v trace) q e ≡ owner_at c q e
  unfolding owner_at
  owners_same i q e le =
      let epoch = i.epoch in ap (λ (o : Option View). owner_in o q) (push_before c.views v e (let other : (v.epoch == e) ≡ false = grind (arith, nat_tests, epoch, le) in other))

  later : IsViewed c ns v trace → (last_view c).epoch ≤ (last_view (viewed c ns v trace)).epoch
  later i = let epoch = i.epoch in let is = last_is in omega (arith, epoch, is)

  -- no era of the epochs before is above that of the new one
  eras_rise : IsViewed c ns v trace → (q : ℕ) → era_at c q (last_view c).epoch ≤ era_at (viewed c ns v trace) q (last_view (viewed c ns v trace)).epoch
  eras_rise i q =
      let same = eras_same i q (last_view c).epoch (omega arith) in
      let rise = eras_never_fall_law (viewed c ns v trace) q (last_view c).epoch (last_view (viewed c ns v trace)).epoch i.after (later i) (omega arith) in
      omega (arith, same, rise)

  module _ (p : ℕ) (a : Page) where
    copies_viewed : IsViewed c ns v trace → IsPageOf c p a → CopiesAre (viewed c ns v trace) p a.slot a.owner a.dirty
    unfolding slot_of dirty_of
    copies_viewed i r =
        record {
          slot_same = λ m. by_node i.down (λ o. slot_in o p ≡ a.slot m) m (λ down. start_slot c.config m (last_view c).epoch p ∙ sym (ap (λ (o : Option NodeState). slot_in o p) down) ∙ r.copies.slot_same m) (r.copies.slot_same m);
          dirty_same = λ m. by_node i.down (λ o. dirty_in o p ≡ (a.dirty && m == a.owner)) m
              (λ down. start_clean c.config m (last_view c).epoch p ∙ sym (ap (λ (o : Option NodeState). dirty_in o p) down) ∙ r.copies.dirty_same m) (r.copies.dirty_same m);
        }

    down_stands : IsPageOf c p a → (t : TxId) → node_at c t.node ≡ None → StandsIn (last_view c).epoch None t p (a.home t)
    down_stands r t down = subst (λ (o : Option NodeState). StandsIn (last_view c).epoch o t p (a.home t)) down (r.homes.stands t)

    homes_viewed : IsViewed c ns v trace → TellsLittle c.config 0 c.trace trace → IsPageOf c p a → HomesAre (viewed c ns v trace) p (current a) a
    homes_viewed i tells r =
        record {
          stands = λ t. by_node i.down (λ o. StandsIn (last_view (viewed c ns v trace)).epoch o t p (a.home t)) t.node
              (λ down. start_stands c.config t.node (last_view c).epoch p (last_view (viewed c ns v trace)).epoch t (a.home t) (down_stands r t down))
              (later_stands (last_view c).epoch (last_view (viewed c ns v trace)).epoch (node_at c t.node) t p (a.home t) (later i) (r.homes.stands t));
          kinds = λ t. by_node i.down (λ o. KindIn o t p) t.node (λ down. start_kinds c.config t.node (last_view c).epoch p t) (r.homes.kinds t);
          scripts = λ t. r.homes.scripts t ∙ sym (tells.accesses t p);
          images = λ t. by_node i.down (λ o. ImageIn o t p (a.home t) (a.image t)) t.node
              (λ down. start_image c.config t.node (last_view c).epoch p t (a.home t) (a.image t) (down_image (last_view c).epoch t p (a.home t) (a.image t) (down_stands r t down))) (r.homes.images t);
          written = λ t holds. by_node i.down (λ o. DiffersWithin (runs_in o t p) (current a).bytes (a.image t)) t.node
              (λ down. absurd (down_holds (last_view c).epoch t p (a.home t) (down_stands r t down) holds)) (r.homes.written t holds);
        }

    -- what a node has reached
    start_reached : IsViewed c ns v trace → IsPageOf c p a → (m : ℕ) → node_at c m ≡ None
        → ReachedIn (viewed c ns v trace) (partition c.config p) a.era (Some (start_node c.config m (last_view c).epoch)) (a.reached m)
    unfolding start_node
    start_reached i r m down =
        let same = eras_same i (partition c.config p) (last_view c).epoch (omega arith) in
        let bound : a.reached m ≤ era_at c (partition c.config p) (last_view c).epoch = subst (λ (o : Option NodeState). ReachedIn c (partition c.config p) a.era o (a.reached m)) down (r.nodes.eras m) in
        let there = r.tables.era.era_there in
        let rise = eras_never_fall_law c (partition c.config p) r.tables.era.epoch (last_view c).epoch i.before r.tables.era.made (omega arith) in
        (omega (arith, same, bound), omega (arith, same, there, rise))

    stays_reached : IsViewed c ns v trace → (m era reached : ℕ) (o : Option NodeState) → node_at c m ≡ o → ReachedIn c (partition c.config p) era o reached → ReachedIn (viewed c ns v trace) (partition c.config p) era o reached
    stays_reached i m era reached None at bound = let rise = eras_rise i (partition c.config p) in omega (arith, bound, rise)
    stays_reached i m era reached (Some s) at bound = of s.view bound
      where
        is : IsMember c.config c.views m s
        is = (up_is_member_law c m s i.before at).1

        of : (o : Option View) → ReachedBy c (partition c.config p) era s o reached → ReachedBy (viewed c ns v trace) (partition c.config p) era s o reached
        of None low =
            let same = eras_same i (partition c.config p) s.epoch is.reached in
            let one = low.0 in
            let two = low.1 in
            (omega (arith, same, one), omega (arith, same, two))
        of (Some w) low = low

    nodes_viewed : IsViewed c ns v trace → IsPageOf c p a → NodesAre (viewed c ns v trace) p (partition c.config p) a.era a.right a.reached
    unfolding shelf_of
    nodes_viewed i r =
        record {
          shelves = λ m. by_node i.down (λ o. shelf_in o p ≡ on_shelf (a.right m)) m
              (λ down. start_shelf c.config m (last_view c).epoch p ∙ sym (ap (λ (o : Option NodeState). shelf_in o p) down) ∙ r.nodes.shelves m) (r.nodes.shelves m);
          eras = λ m. by_node i.down (λ o. ReachedIn (viewed c ns v trace) (partition c.config p) a.era o (a.reached m)) m (start_reached i r m) (stays_reached i m a.era (a.reached m) (node_at c m) refl (r.nodes.eras m));
        }

    tables_viewed : IsViewed c ns v trace → IsPageOf c p a → TablesAre (viewed c ns v trace) p (partition c.config p) a
    tables_viewed i r =
        record {
          tables = λ m. by_node i.down (λ o. TableOf a p (partition c.config p) m o) m (λ down. start_table c.config m (last_view c).epoch p a (partition c.config p) m) (r.tables.tables m);
          serving = λ on. by_node i.down (λ o. serves_in o (partition c.config p) ≡ true) a.owner
              (λ down. (let bad : false ≡ true = sym (ap (λ (o : Option NodeState). serves_in o (partition c.config p)) down) ∙ r.tables.serving on in absurd (cc))) (r.tables.serving on);
          era =
              record {
                epoch = r.tables.era.epoch;
                low = r.tables.era.low;
                made = (let made = r.tables.era.made in let up = later i in omega (arith, made, up));
                era_there = eras_same i (partition c.config p) r.tables.era.epoch r.tables.era.made ∙ r.tables.era.era_there;
                owner_there = owners_same i (partition c.config p) r.tables.era.epoch r.tables.era.made ∙ r.tables.era.owner_there;
              };
        }

    -- the same messages come
    coming_viewed : IsViewed c ns v trace → (x y : ℕ) → coming (viewed c ns v trace) p x y ≡ coming c p x y
    unfolding coming
    coming_viewed i x y =
        by_node i.down (λ o. filter (is_coming c.config p x o) (link_at c.links x y) ≡ filter (is_coming c.config p x (node_at c y)) (link_at c.links x y)) y
        (λ down.
        none_pass (is_coming c.config p x (Some (start_node c.config y (last_view c).epoch))) (link_at c.links x y)
        (all_weaker (IsOnLink c.config (last_view c).epoch x y) (λ (m : Message). is_coming c.config p x (Some (start_node c.config y (last_view c).epoch)) m ≡ false)
        (λ m on. start_takes c.config p x y (last_view c).epoch m on.epoch) (link_at c.links x y) (i.before.links.messages x y))
        ∙ sym
        (none_pass (is_coming c.config p x (node_at c y)) (link_at c.links x y)
        (all_weaker (IsOnLink c.config (last_view c).epoch x y) (λ (m : Message). is_coming c.config p x (node_at c y) m ≡ false)
        (λ m on. ap (λ (o : Option NodeState). is_coming c.config p x o m) down ∙ down_takes c.config p x m) (link_at c.links x y) (i.before.links.messages x y))))
        refl

    coming_old : IsCluster c → (x y : ℕ) → AllByRecursion (λ (m : Message). m.epoch ≤ (last_view c).epoch) (coming c p x y)
    unfolding coming
    coming_old i x y =
        all_passing (IsOnLink c.config (last_view c).epoch x y) (λ (m : Message). m.epoch ≤ (last_view c).epoch) (is_coming c.config p x (node_at c y)) (λ m on test. on.epoch)
        (link_at c.links x y) (i.links.messages x y)

    links_viewed : IsViewed c ns v trace → IsPageOf c p a → LinksAre (viewed c ns v trace) p (partition c.config p) a
    links_viewed i r =
        record {
          say = λ x y. subst (AllByRecursion (MessageIs (viewed c ns v trace) p (partition c.config p) a x y)) (sym (coming_viewed i x y))
              (all_weaker (λ (m : Message). MessageIs c p (partition c.config p) a x y m × (m.epoch ≤ (last_view c).epoch)) (MessageIs (viewed c ns v trace) p (partition c.config p) a x y)
              (λ m both. subst (λ (e : ℕ). SaysSo a.era a.hist a.reached a.listed a.right a.home a.sent p x y e m.body) (sym (eras_same i (partition c.config p) m.epoch both.1)) both.0)
              (coming c p x y)
              (both_all (MessageIs c p (partition c.config p) a x y) (λ (m : Message). m.epoch ≤ (last_view c).epoch) (coming c p x y) (r.links.say x y) (coming_old i.before x y)));
          ordered = λ x y. subst (AreOrdered 0) (sym (coming_viewed i x y)) (r.links.ordered x y);
          once = λ x y. subst AreOnce (sym (coming_viewed i x y)) (r.links.once x y);
        }

    -- the whole
    pub page_viewed : IsViewed c ns v trace → TellsLittle c.config 0 c.trace trace → IsPageOf c p a → IsPageOf (viewed c ns v trace) p a
    page_viewed i tells r =
        record {
          history =
              record {
                now_same = subst (λ (o : Option Base). HasPage o p (current a)) (sym tells.now_same) r.history.now_same;
                below = r.history.below;
                sizes = r.history.sizes;
              };
          stored = r.stored;
          copies = copies_viewed i r;
          homes = homes_viewed i tells r;
          nodes = nodes_viewed i r;
          tables = tables_viewed i r;
          links = links_viewed i r;
        }
