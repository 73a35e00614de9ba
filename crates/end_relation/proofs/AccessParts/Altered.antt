-- A work that has the state after a step of the machine at the home of a transaction alone.
use Rattle.std.proofs.Common.{◌≡◌, sym, subst, ◌∙◌, ℕ, List}
use Rattle.pcl_base.specs.declared.event.Event.{Event}
use Rattle.pcl_base.specs.declared.tx.Mode.TheVariants.{Exclusive}
use Rattle.pcl_base.specs.declared.tx.TxId.{TxId}
use Rattle.node_rules.specs.NodeState.{partition}
use Rattle.node_rules.specs.Work.{Work}
use Rattle.cluster_rules.specs.Clusters.{Cluster, node_at, last_view}
use Rattle.page_laws.specs.Moment.Looks.{HasPage}
use Rattle.page_protocol.specs.Bytes.{Access}
use Rattle.page_protocol.specs.State.{Home, Holding, Page, current}
use Rattle.page_relation.specs.Homes.{StandsIn, KindIn, ImageIn, runs_in}
use Rattle.page_relation.specs.Relation.{HistoryIs, HomesAre}
use Rattle.page_laws.specs.Written.Written.{DiffersWithin}
use Rattle.page_relation.specs.Work.Landing.{land, Acts}
use Rattle.page_relation.proofs.WorkParts.Framing.{stored_stays_law, copies_stay_law, nodes_stay_law, tables_stay_law, links_stay_law}
use Rattle.page_relation.proofs.WorkParts.Nodes.{changed_node, kept_node}
use Rattle.end_relation.specs.Access.Altered.{altered, IsAltered, AlteredIsRelated}
use Rattle.end_relation.proofs.AccessParts.Altering.{tables_altered, links_altered}

module _ (c : Cluster) (e : Event) (n p : ℕ) (acts : Acts c n) (w x : Work) (a : Page) (homes : TxId → Home) (scripts : TxId → List Access) (images : TxId → List ℕ) (is : IsAltered c e n p w x a homes scripts images) where
  stands_altered : (t : TxId) → StandsIn (last_view c).epoch (node_at (land c e n w) t.node) t p (a.home t) → StandsIn (last_view c).epoch (node_at (land c e n x) t.node) t p (homes t)
  stands_altered t =
      changed_node c e n acts w x t.node (λ o. StandsIn (last_view c).epoch o t p (a.home t)) (λ o. StandsIn (last_view c).epoch o t p (homes t)) (λ at. is.stands t at)
      (λ o other old. subst (StandsIn (last_view c).epoch o t p) (sym (is.away t other).0) old)

  private_altered : (t : TxId) → ImageIn (node_at (land c e n w) t.node) t p (a.home t) (a.image t) → ImageIn (node_at (land c e n x) t.node) t p (homes t) (images t)
  private_altered t =
      changed_node c e n acts w x t.node (λ o. ImageIn o t p (a.home t) (a.image t)) (λ o. ImageIn o t p (homes t) (images t)) (λ at. is.private t at)
      (λ o other old.
      subst (λ (h : Home). ImageIn o t p h (images t)) (sym (is.away t other).0) (subst (λ (im : List ℕ). ImageIn o t p (a.home t) im) (sym (is.away t other).1) old))

  written_altered : (t : TxId) → (a.home t ≡ Holding Exclusive → DiffersWithin (runs_in (node_at (land c e n w) t.node) t p) (current a).bytes (a.image t))
      → homes t ≡ Holding Exclusive → DiffersWithin (runs_in (node_at (land c e n x) t.node) t p) (current a).bytes (images t)
  written_altered t =
      changed_node c e n acts w x t.node (λ o. a.home t ≡ Holding Exclusive → DiffersWithin (runs_in o t p) (current a).bytes (a.image t))
      (λ o. homes t ≡ Holding Exclusive → DiffersWithin (runs_in o t p) (current a).bytes (images t))
      (λ at old holds. is.written t at holds old)
      (λ o other old holds.
      subst (λ (im : List ℕ). DiffersWithin (runs_in o t p) (current a).bytes im) (sym (is.away t other).1) (old (sym (is.away t other).0 ∙ holds)))

  homes_altered : HomesAre (land c e n w) p (current a) a → HomesAre (land c e n x) p (current a) (altered a homes scripts images)
  unfolding land
  homes_altered old =
      record {
        stands = λ t. stands_altered t (old.stands t);
        kinds = λ t. kept_node c e n acts w x t.node (λ o. KindIn o t p) (λ at. is.kinds t at) (old.kinds t);
        scripts = is.told;
        images = λ t. private_altered t (old.images t);
        written = λ t holds. written_altered t (old.written t) holds;
      }

  history_altered : HistoryIs (land c e n w) p a.hist (current a) → HistoryIs (land c e n x) p a.hist (current a)
  unfolding land
  history_altered old = record { now_same = subst (λ o. HasPage o p (current a)) (sym is.now_same) old.now_same; below = old.below; sizes = old.sizes }

pub altered_is_related_law : AlteredIsRelated
unfolding land
altered_is_related_law c e n p w x a homes scripts images acts is old =
    record {
      history = history_altered c e n p acts w x a homes scripts images is old.history;
      stored = stored_stays_law c e n p w x a.disk a.log is.stored old.stored;
      copies = copies_stay_law c e n p w x a.slot a.owner a.dirty acts is.copy old.copies;
      homes = homes_altered c e n p acts w x a homes scripts images is old.homes;
      nodes = nodes_stay_law c e n p (partition c.config p) a.era w x a.right a.reached acts is.standing is.right old.nodes;
      tables =
          tables_altered a homes scripts images is.may (land c e n x) p (partition c.config p)
          (tables_stay_law c e n p (partition c.config p) w x a acts is.standing is.table old.tables);
      links =
          links_altered a homes scripts images is.may (land c e n x) p (partition c.config p)
          (links_stay_law c e n p (partition c.config p) w x a acts is.standing is.taken is.sends old.links);
    }
