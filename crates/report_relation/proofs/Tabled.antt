-- Another table of the page's partition, with the same state.
use Rattle.std.proofs.Common.{◌≡◌, refl, ap, sym, subst, ◌∙◌, ℕ, Bool, true, Option, Some}
use Rattle.pcl_base.specs.declared.event.Event.{Event}
use Rattle.node_rules.specs.LockTable.{LockTable}
use Rattle.node_rules.specs.NodeState.{is_serving, partition, put_table, table_at}
use Rattle.node_rules.specs.Reports.{gather}
use Rattle.node_rules.specs.Work.{Work, with_node}
use Rattle.cluster_rules.specs.Clusters.{Cluster}
use Rattle.page_laws.proofs.EntryParts.Gathered.{gathering_is_seen_law}
use Rattle.cluster_laws.specs.Era.Eras.{era_in}
use Rattle.page_protocol.specs.State.{Page, current}
use Rattle.page_relation.specs.Relation.{TablesAre}
use Rattle.page_relation.specs.Tables.{TableIs, TableIn, TableOf, serves_in}
use Rattle.page_relation.specs.Work.Keeping.{IsWorkOf}
use Rattle.page_relation.specs.Work.Landing.{land, Acts}
use Rattle.page_relation.specs.Work.Unseen.{SameStanding}
use Rattle.page_relation.proofs.WorkParts.Framing.{life_self, use_self, history_stays_law, stored_stays_law, copies_stay_law, homes_stay_law, nodes_stay_law, links_stay_law}
use Rattle.page_relation.proofs.WorkParts.Nodes.{kept_node}
use Rattle.settle_relation.proofs.Deciding.{era_landed, put_there}
use Rattle.report_relation.specs.Gathering.{GatheringIsRelated}
use Rattle.report_relation.proofs.Gathered.{gathered_is}

module _ (c : Cluster) (e : Event) (n p : ℕ) (acts : Acts c n) (t u : LockTable) (w : Work) (a : Page) where
  abbrev q : ℕ
  q = partition c.config p

  abbrev z : Work
  z = with_node w (put_table w.node q (Some u))

  standing : SameStanding w.node z.node
  standing = record { config = refl; number = refl; epoch = refl; view = refl }

  tables_put : table_at w.node q ≡ Some t → u.serving ≡ t.serving → (TableIs a p n (era_in w.node.view q) t.serving t → TableIs a p n (era_in w.node.view q) u.serving u)
      → TablesAre (land c e n w) p q a → TablesAre (land c e n z) p q a
  tables_put at serves fits is =
      record {
        tables = λ m. kept_node c e n acts w z m (λ o. TableOf a p q m o) (λ same old. ours m same old) (is.tables m);
        serving = λ on. kept_node c e n acts w z a.owner (λ o. serves_in o q ≡ true) (λ same old. ap is_serving there ∙ serves ∙ sym (ap is_serving at) ∙ old) (is.serving on);
        era = era_landed c e n w z q a.era a.owner is.era;
      }
    where
      there : table_at z.node q ≡ Some u
      there = put_there w.node.tables q t (Some u) at

      ours : (m : ℕ) → m ≡ n → TableOf a p q m (Some w.node) → TableOf a p q m (Some z.node)
      ours m same old =
          subst (λ (k : ℕ). TableOf a p q k (Some z.node)) (sym same)
          (subst (λ (o : Option LockTable). TableIn a p n (era_in w.node.view q) o) (sym there)
          (fits (subst (λ (o : Option LockTable). TableIn a p n (era_in w.node.view q) o) at (subst (λ (k : ℕ). TableOf a p q k (Some w.node)) same old))))

  -- a table that serves as before, and that still is the page's
  pub table_put : table_at w.node q ≡ Some t → u.serving ≡ t.serving → (TableIs a p n (era_in w.node.view q) t.serving t → TableIs a p n (era_in w.node.view q) u.serving u)
      → IsWorkOf c e n p w a → IsWorkOf c e n p z a
  unfolding land
  table_put at serves fits is =
      record {
        history = history_stays_law c e n p w z a.hist (current a) (record { accesses = λ v. refl; now_same = refl }) is.history;
        stored = stored_stays_law c e n p w z a.disk a.log (λ disk log old. old) is.stored;
        copies = copies_stay_law c e n p w z a.slot a.owner a.dirty acts refl is.copies;
        homes = homes_stay_law c e n p w z (current a) a acts standing (life_self w.node.home) (use_self p w.node.home) (record { accesses = λ v. refl; now_same = refl }) is.homes;
        nodes = nodes_stay_law c e n p q a.era w z a.right a.reached acts standing refl is.nodes;
        tables = tables_put at serves fits is.tables;
        links = links_stay_law c e n p q w z a acts standing refl (λ m. refl) is.links;
      }

-- a report that is put into it
pub gathering_is_related_law : GatheringIsRelated
gathering_is_related_law c e n p from t r w a acts may is =
    table_put c e n p acts t (gather t from r) w a may.there serving
    (λ old. subst (λ (b : Bool). TableIs a p n era b (gather t from r)) (sym (serving ∙ may.rebuilt))
    (gathered_is a p from era r t may.known may.locks may.behind may.says (subst (λ (b : Bool). TableIs a p n era b t) may.rebuilt old))) is
  where
    era : ℕ
    era = era_in w.node.view (partition c.config p)

    serving : (gather t from r).serving ≡ t.serving
    serving = (gathering_is_seen_law t from r).serving
