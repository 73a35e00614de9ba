-- A node goes on to a later era of a partition: the relation, and the machine's run.
use Rattle.std.proofs.Common.{◌≡◌, refl, sym, subst, ◌∙◌, ℕ, ◌≤◌, ◌<◌, ◌==◌, ◌&&◌, Bool, true, false, List, Option, Some, eqb-true}
use Rattle.std.specs.List.{AllByRecursion}
use Rattle.pcl_base.specs.declared.event.Event.{Event}
use Rattle.pcl_base.specs.declared.message.Message.{Message}
use Rattle.pcl_base.specs.declared.tx.Mode.TheVariants.{Exclusive}
use Rattle.pcl_base.specs.declared.tx.TxId.{TxId}
use Rattle.node_rules.specs.BufferRule.{private_bytes}
use Rattle.node_rules.specs.LockTable.{LockTable}
use Rattle.node_rules.specs.NodeState.{NodeState, Run as Places, partition}
use Rattle.node_rules.specs.OpenTxs.{is_open, held_by, pending_of}
use Rattle.node_rules.specs.Work.{Work, with_node}
use Rattle.cluster_rules.specs.Clusters.{Cluster, node_at, last_view}
use Rattle.cluster_rules.specs.Links.{link_at}
use Rattle.cluster_laws.specs.Era.Eras.{era_at, era_in}
use Rattle.cluster_laws.specs.Link.EpochLaws.{IsInOrder}
use Rattle.page_protocol.specs.Eras.{reporting}
use Rattle.page_protocol.specs.State.{Page, Home, Holding, current, updn, version_of}
use Rattle.page_protocol.specs.Steps.{Run}
use Rattle.page_relation.specs.Homes.{StandsIn, KindIn, ImageIn, image_of, wait_on, is_unborn, runs_in}
use Rattle.page_relation.specs.Looks.{slot_in, slot_of, dirty_in, dirty_of, shelf_in, shelf_of}
use Rattle.page_relation.specs.Relation.{CopiesAre, HomesAre, NodesAre, TablesAre, MessageIs, on_shelf}
use Rattle.page_relation.specs.Tables.{TableIn, TableOf, ReachedIn, serves_in}
use Rattle.page_relation.specs.Together.{IsParty}
use Rattle.page_laws.specs.Written.Written.{DiffersWithin}
use Rattle.page_relation.specs.Work.Keeping.{IsWorkOf}
use Rattle.page_relation.specs.Work.Landing.{land, Acts}
use Rattle.page_relation.proofs.WorkParts.Framing.{history_stays_law, reached_landed}
use Rattle.page_protocol.proofs.Keeps.{and_then}
use Rattle.page_relation.proofs.WorkParts.Nodes.{of_node, at_node, at_other, changed_node, kept_node}
use Rattle.kept_relation.specs.Turn.Telling.{homes_told, reported_on}
use Rattle.kept_relation.proofs.TurnParts.Going.{era_stood}
use Rattle.kept_relation.proofs.TurnParts.Gone.{KeepsPage}
use Rattle.kept_relation.proofs.TurnParts.Knowing.{OnWay, NoneSent, known_coming}
use Rattle.kept_relation.proofs.TurnParts.Naming.{names_of, names_own, unnamed_closed}
use Rattle.kept_relation.proofs.TurnParts.Narrowing.{links_knowing}
use Rattle.kept_relation.proofs.TurnParts.Reaching.{reached_here, reached_there}
use Rattle.kept_relation.proofs.TurnParts.Retelling.{run_told, stands_retold, image_retold, holds_retold}
use Rattle.kept_relation.proofs.TurnParts.Telling.{home_here, home_there, says_told, era_below}
use Rattle.install_relation.specs.Knowing.{IsHeardAt}
use Rattle.install_relation.proofs.Heard.{table_of_heard}

module _ (c : Cluster) (e : Event) (n p next : ℕ) (s j : NodeState) (w : Work) (a : Page) (acts : Acts c n) (up : node_at c n ≡ Some s) (order : IsInOrder c) (parties : (x y : ℕ) → AllByRecursion (IsParty c x y) (link_at c.links x y)) (none : NoneSent c p w.sends) (late : s.epoch < next) (low : a.era ≤ a.reached n) (below : a.reached n < next) (heard : IsHeardAt c n p (a.reached n)) (keeps : KeepsPage c p next a.era j w.node) (r : IsWorkOf c e n p (with_node w j) a) where
  abbrev have : Option ℕ
  have = version_of (a.slot n)

  copies_gone : CopiesAre (land c e n w) p a.slot a.owner a.dirty
  unfolding slot_of dirty_of
  copies_gone =
      record {
        slot_same = λ m. kept_node c e n acts (with_node w j) w m (λ o. slot_in o p ≡ a.slot m) (λ at old. keeps.slot ∙ old) (r.copies.slot_same m);
        dirty_same = λ m. kept_node c e n acts (with_node w j) w m (λ o. dirty_in o p ≡ (a.dirty && m == a.owner)) (λ at old. keeps.dirty ∙ old) (r.copies.dirty_same m);
      }

  homes_gone : HomesAre (land c e n w) p (current a) (reported_on a n next)
  unfolding land
  homes_gone =
      record {
        stands = λ t.
            changed_node c e n acts (with_node w j) w t.node (λ o. StandsIn (last_view c).epoch o t p (a.home t)) (λ o. StandsIn (last_view c).epoch o t p (homes_told a n t))
            (λ at old. subst (StandsIn (last_view c).epoch (Some w.node) t p) (sym (home_here a n next low below t at))
            (stands_retold have (is_open w.node.home.txs t) (is_unborn w.node.view w.node t) (held_by w.node.home.txs t p) (wait_on (pending_of w.node.home.txs t) p) (a.home t)
            (keeps.stands (last_view c).epoch t (a.home t) (at_node c e n acts (with_node w j) t.node (λ o. KindIn o t p) at (r.homes.kinds t)) old)))
            (λ o other old. subst (StandsIn (last_view c).epoch o t p) (sym (home_there a n next low below t other)) old) (r.homes.stands t);
        kinds = λ t. kept_node c e n acts (with_node w j) w t.node (λ o. KindIn o t p) (λ at. keeps.kinds t) (r.homes.kinds t);
        scripts = r.homes.scripts;
        images = λ t.
            changed_node c e n acts (with_node w j) w t.node (λ o. ImageIn o t p (a.home t) (a.image t)) (λ o. ImageIn o t p (homes_told a n t) (a.image t))
            (λ at old. subst (λ (h : Home). private_bytes w.node.home.pool t p ≡ image_of h (a.image t)) (sym (home_here a n next low below t at))
            (keeps.bytes t ∙ old ∙ sym (image_retold have (a.home t) (a.image t))))
            (λ o other old. subst (λ (h : Home). ImageIn o t p h (a.image t)) (sym (home_there a n next low below t other)) old) (r.homes.images t);
        written = λ t holds.
            kept_node c e n acts (with_node w j) w t.node (λ o. DiffersWithin (runs_in o t p) (current a).bytes (a.image t))
            (λ at old. subst (λ (rs : List Places). DiffersWithin rs (current a).bytes (a.image t)) (sym (keeps.runs t)) old) (r.homes.written t (held t holds));
      }
    where
      held : (t : TxId) → homes_told a n t ≡ Holding Exclusive → a.home t ≡ Holding Exclusive
      held t holds = by (t.node == n) refl
        where
          by : (b : Bool) → (t.node == n) ≡ b → a.home t ≡ Holding Exclusive
          by true same = holds_retold have (a.home t) Exclusive (sym (home_here a n next low below t (eqb-true t.node n same)) ∙ holds)
          by false other = sym (home_there a n next low below t other) ∙ holds

  nodes_gone : NodesAre (land c e n w) p (partition c.config p) a.era a.right (updn a.reached n next)
  unfolding shelf_of land
  nodes_gone =
      record {
        shelves = λ m. kept_node c e n acts (with_node w j) w m (λ o. shelf_in o p ≡ on_shelf (a.right m)) (λ at old. keeps.shelf ∙ old) (r.nodes.shelves m);
        eras = λ m.
            (reached_landed c e n w (partition c.config p) a.era (updn a.reached n next m) (node_at (land c e n w) m)).1
            (of_node c e n acts w m (λ o. ReachedIn c (partition c.config p) a.era o (updn a.reached n next m))
            (λ is. subst (ReachedIn c (partition c.config p) a.era (Some w.node)) (sym (reached_here a.reached n next m is)) keeps.reached)
            (λ other. subst (ReachedIn c (partition c.config p) a.era (node_at c m)) (sym (reached_there a.reached n next m other))
            (at_other c e n acts (with_node w j) m (λ o. ReachedIn c (partition c.config p) a.era o (a.reached m)) other
            ((reached_landed c e n (with_node w j) (partition c.config p) a.era (a.reached m) (node_at (land c e n (with_node w j)) m)).0 (r.nodes.eras m)))));
      }

  tables_gone : TablesAre (land c e n w) p (partition c.config p) (reported_on a n next)
  unfolding land
  tables_gone =
      record {
        tables = λ m.
            of_node c e n acts w m (λ o. TableOf (reported_on a n next) p (partition c.config p) m o)
            (λ is. subst (λ (o : Option LockTable). TableIn (reported_on a n next) p m (era_in w.node.view (partition c.config p)) o) (sym keeps.free) tt)
            (λ other. table_of_heard a n next low below c p m (node_at c m) heard refl (at_other c e n acts (with_node w j) m (λ o. TableOf a p (partition c.config p) m o) other (r.tables.tables m)));
        serving = λ on.
            kept_node c e n acts (with_node w j) w a.owner (λ o. serves_in o (partition c.config p) ≡ true)
            (λ at old. (let bad : false ≡ true = sym keeps.unserved ∙ old in absurd (cc))) (r.tables.serving on);
        era = era_stood c e n (with_node w j) w (partition c.config p) a.era a.owner r.tables.era;
      }

  says_gone : (from to : ℕ) (m : Message) → OnWay c n s from to m → MessageIs (land c e n (with_node w j)) p (partition c.config p) a from to m → MessageIs (land c e n w) p (partition c.config p) (reported_on a n next) from to m
  unfolding land era_at
  says_gone from to m way says =
      says_told a n next low below c way.party.view p from to m.epoch (era_at c (partition c.config p) m.epoch) m.body
      (λ at. era_below c (partition c.config p) m.epoch s.epoch next acts.cluster (way.behind at) late) way.party.parties says

  pub related_gone : IsWorkOf c e n p w (reported_on a n next)
  unfolding land
  related_gone =
      record {
        history = history_stays_law c e n p (with_node w j) w a.hist (current a) (record { accesses = λ t. refl; now_same = refl }) r.history;
        stored = r.stored;
        copies = copies_gone;
        homes = homes_gone;
        nodes = nodes_gone;
        tables = tables_gone;
        links =
            links_knowing c e n p acts w j keeps.counts (partition c.config p) a (reported_on a n next) (OnWay c n s) (known_coming c e n p s acts up order parties (with_node w j) none) says_gone r.links;
      }

  -- the machine's run, once the node has reported
  pub run_gone : (z : Page) → j.home.txs.node ≡ n → Run z (reporting a n next) → Run z (reported_on a n next)
  unfolding reporting land
  run_gone z number first =
      and_then first
      (run_told (reporting a n next) n (names_of j.home.txs j.home.txs.txs) (λ u named. names_own j.home.txs j.home.txs.txs u named ∙ number)
      (λ u at unnamed. unnamed_closed j p (last_view c).epoch u (a.home u) unnamed
      (at_node c e n acts (with_node w j) u.node (λ o. StandsIn (last_view c).epoch o u p (a.home u)) at (r.homes.stands u))))
