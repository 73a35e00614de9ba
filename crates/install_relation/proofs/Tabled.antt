-- A node comes to have a table that is being rebuilt, where it had none.
use Rattle.std.proofs.Common.{◌≡◌, refl, ap, sym, subst, ◌∙◌, ℕ, ◌<◌, Bool, true, false, length, Option, Some, None}
use Rattle.pcl_base.specs.declared.event.Event.{Event}
use Rattle.node_rules.specs.LockTable.{LockTable}
use Rattle.node_rules.specs.NodeState.{is_serving, partition, put_table, table_at}
use Rattle.node_rules.specs.Work.{Work, with_node}
use Rattle.node_laws.proofs.Lists.{set_same}
use Rattle.cluster_rules.specs.Clusters.{Cluster}
use Rattle.cluster_laws.specs.Era.Eras.{era_in}
use Rattle.page_protocol.specs.State.{Page, current}
use Rattle.page_relation.specs.Relation.{TablesAre}
use Rattle.page_relation.specs.Tables.{TableIs, TableIn, TableOf, serves_in}
use Rattle.page_relation.specs.Work.Keeping.{IsWorkOf}
use Rattle.page_relation.specs.Work.Landing.{land, Acts}
use Rattle.page_relation.specs.Work.Unseen.{SameStanding}
use Rattle.page_relation.proofs.WorkParts.Framing.{life_self, use_self, history_stays_law, stored_stays_law, copies_stay_law, homes_stay_law, nodes_stay_law, links_stay_law}
use Rattle.page_relation.proofs.WorkParts.Nodes.{kept_node}
use Rattle.settle_relation.proofs.Deciding.{era_landed}

module _ (c : Cluster) (e : Event) (n p : ℕ) (acts : Acts c n) (u : LockTable) (w : Work) (a : Page) (place : partition c.config p < length w.node.tables) (free : table_at w.node (partition c.config p) ≡ None) (unserved : u.serving ≡ false) where
  abbrev q : ℕ
  q = partition c.config p

  abbrev z : Work
  z = with_node w (put_table w.node q (Some u))

  pub there : table_at z.node q ≡ Some u
  there = set_same None w.node.tables q (Some u) place

  tables_new : TableIs a p n (era_in w.node.view q) false u → TablesAre (land c e n w) p q a → TablesAre (land c e n z) p q a
  tables_new fits is =
      record {
        tables = λ m. kept_node c e n acts w z m (λ o. TableOf a p q m o) (λ same old. ours m same) (is.tables m);
        serving = λ on. kept_node c e n acts w z a.owner (λ o. serves_in o q ≡ true) (λ same old. (let bad : false ≡ true = sym (ap is_serving free) ∙ old in absurd (cc))) (is.serving on);
        era = era_landed c e n w z q a.era a.owner is.era;
      }
    where
      ours : (m : ℕ) → m ≡ n → TableOf a p q m (Some z.node)
      ours m same =
          subst (λ (k : ℕ). TableOf a p q k (Some z.node)) (sym same)
          (subst (λ (o : Option LockTable). TableIn a p n (era_in w.node.view q) o) (sym there) (subst (λ (b : Bool). TableIs a p n (era_in w.node.view q) b u) (sym unserved) fits))

  pub table_new : TableIs a p n (era_in w.node.view q) false u → IsWorkOf c e n p w a → IsWorkOf c e n p z a
  unfolding land
  table_new fits is =
      record {
        history = history_stays_law c e n p w z a.hist (current a) (record { accesses = λ v. refl; now_same = refl }) is.history;
        stored = stored_stays_law c e n p w z a.disk a.log (λ disk log old. old) is.stored;
        copies = copies_stay_law c e n p w z a.slot a.owner a.dirty acts refl is.copies;
        homes = homes_stay_law c e n p w z (current a) a acts standing (life_self w.node.home) (use_self p w.node.home) (record { accesses = λ v. refl; now_same = refl }) is.homes;
        nodes = nodes_stay_law c e n p q a.era w z a.right a.reached acts standing refl is.nodes;
        tables = tables_new fits is.tables;
        links = links_stay_law c e n p q w z a acts standing refl (λ m. refl) is.links;
      }
    where
      standing : SameStanding w.node z.node
      standing = record { config = refl; number = refl; epoch = refl; view = refl }
