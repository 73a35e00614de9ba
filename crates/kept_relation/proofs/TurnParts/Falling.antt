-- An owner gives up its table of a partition: where it is the one that serves, the authority falls.
use Rattle.std.proofs.Common.{◌≡◌, refl, ap, sym, subst, ◌∙◌, ℕ, ◌==◌, ◌&&◌, Bool, true, false, Option, Some, None, arith}
use Rattle.std.proofs.lemmas.Bool.Decides.{nat_tests}
use Rattle.pcl_base.specs.declared.event.Event.{Event}
use Rattle.node_rules.specs.LockTable.{LockTable}
use Rattle.node_rules.specs.NodeState.{NodeState, partition, table_at}
use Rattle.node_rules.specs.Work.{Work, with_node}
use Rattle.cluster_rules.specs.Clusters.{Cluster, node_at}
use Rattle.cluster_laws.specs.Era.Eras.{era_in}
use Rattle.page_laws.specs.Look.Parts.{SameLife}
use Rattle.page_protocol.specs.Eras.{falling}
use Rattle.page_protocol.specs.State.{Page, current}
use Rattle.page_relation.specs.Looks.{slot_in, slot_of, dirty_in, dirty_of}
use Rattle.page_relation.specs.Relation.{CopiesAre, TablesAre}
use Rattle.page_relation.specs.Tables.{TableIs, TableIn, TableOf, serves_in}
use Rattle.page_relation.specs.Work.Keeping.{IsWorkOf}
use Rattle.page_relation.specs.Work.Landing.{land, Acts}
use Rattle.page_relation.specs.Work.Unseen.{SameStanding, SameUse, SameRight}
use Rattle.page_relation.proofs.WorkParts.Framing.{history_stays_law, homes_stay_law, nodes_stay_law, links_stay_law}
use Rattle.page_relation.proofs.WorkParts.Nodes.{of_node, at_other, changed_node, kept_node}
use Rattle.kept_relation.proofs.TurnParts.Going.{era_stood}

-- what a node that gives up its table keeps of the page
pub record GivesUp (c : Cluster) (p : ℕ) (j k : NodeState) : Type 0 where
  pub standing : SameStanding j k
  pub life : SameLife j.home k.home
  pub uses : SameUse p j.home k.home
  pub right : SameRight p j.home k.home
  pub slot : slot_in (Some k) p ≡ slot_in (Some j) p
  pub clean : dirty_in (Some k) p ≡ false
  pub free : table_at k (partition c.config p) ≡ None

module _ (c : Cluster) (e : Event) (n p : ℕ) (j k : NodeState) (w : Work) (a : Page) (acts : Acts c n) (gives : GivesUp c p j k) (r : IsWorkOf c e n p (with_node w j) a) where
  none_dirty : (b x : Bool) → b ≡ false → false ≡ (x && b)
  none_dirty true x e = absurd (cc)
  none_dirty false true e = refl
  none_dirty false false e = refl

  slots : (m : ℕ) → slot_in (node_at (land c e n (with_node w k)) m) p ≡ a.slot m
  unfolding slot_of
  slots m = kept_node c e n acts (with_node w j) (with_node w k) m (λ o. slot_in o p ≡ a.slot m) (λ at old. gives.slot ∙ old) (r.copies.slot_same m)

  -- of another node
  elsewhere : (m : ℕ) → (m == n) ≡ false → TableOf a p (partition c.config p) m (node_at c m)
  unfolding land
  elsewhere m other = at_other c e n acts (with_node w j) m (λ o. TableOf a p (partition c.config p) m o) other (r.tables.tables m)

  -- the owner that serves, or that served last
  module _ (owner : n ≡ a.owner) where
    other_is : (m : ℕ) → (m == n) ≡ false → (m == a.owner) ≡ false
    other_is m other = ap (λ (x : ℕ). m == x) (sym owner) ∙ other

    copies_fallen : CopiesAre (land c e n (with_node w k)) p a.slot a.owner false
    unfolding slot_of dirty_of
    copies_fallen =
        record {
          slot_same = slots;
          dirty_same = λ m.
              changed_node c e n acts (with_node w j) (with_node w k) m (λ o. dirty_in o p ≡ (a.dirty && m == a.owner)) (λ o. dirty_in o p ≡ (false && m == a.owner))
              (λ at old. gives.clean) (λ o other old. old ∙ sym (none_dirty (m == a.owner) a.dirty (other_is m other))) (r.copies.dirty_same m);
        }

    table_fallen : (m x : ℕ) (o : Option LockTable) → (m == n) ≡ false → TableIn a p m x o → TableIn (falling a) p m x o
    unfolding falling
    table_fallen m x None other is = tt
    table_fallen m x (Some t) other is = by t.serving is
      where
        by : (b : Bool) → TableIs a p m x b t → TableIs (falling a) p m x b t
        by true i = absurd (let at = i.here in grind (arith, nat_tests, at, owner, other))
        by false i = i

    table_of_fallen : (m : ℕ) (o : Option NodeState) → (m == n) ≡ false → TableOf a p (partition c.config p) m o → TableOf (falling a) p (partition c.config p) m o
    table_of_fallen m None other is = tt
    table_of_fallen m (Some x) other is = table_fallen m (era_in x.view (partition c.config p)) (table_at x (partition c.config p)) other is

    tables_fallen : TablesAre (land c e n (with_node w k)) p (partition c.config p) (falling a)
    unfolding falling land
    tables_fallen =
        record {
          tables = λ m.
              of_node c e n acts (with_node w k) m (λ o. TableOf (falling a) p (partition c.config p) m o)
              (λ is. subst (λ (o : Option LockTable). TableIn (falling a) p m (era_in k.view (partition c.config p)) o) (sym gives.free) tt)
              (λ other. table_of_fallen m (node_at c m) other (elsewhere m other));
          serving = λ on. absurd (cc);
          era = era_stood c e n (with_node w j) (with_node w k) (partition c.config p) a.era a.owner r.tables.era;
        }

    pub fallen : IsWorkOf c e n p (with_node w k) (falling a)
    unfolding land falling
    fallen =
        let homes =
        homes_stay_law c e n p (with_node w j) (with_node w k) (current a) a acts gives.standing gives.life gives.uses (record { accesses = λ t. refl; now_same = refl }) r.homes in
        let links = links_stay_law c e n p (partition c.config p) (with_node w j) (with_node w k) a acts gives.standing refl (λ b. refl) r.links in
        record {
          history = history_stays_law c e n p (with_node w j) (with_node w k) a.hist (current a) (record { accesses = λ t. refl; now_same = refl }) r.history;
          stored = r.stored;
          copies = copies_fallen;
          homes = record { stands = homes.stands; kinds = homes.kinds; scripts = homes.scripts; images = homes.images; written = homes.written };
          nodes = nodes_stay_law c e n p (partition c.config p) a.era (with_node w j) (with_node w k) a.right a.reached acts gives.standing gives.right r.nodes;
          tables = tables_fallen;
          links = record { say = links.say; ordered = links.ordered; once = links.once };
        }

  -- another one serves, or served last
  module _ (not_owner : (n == a.owner) ≡ false) where
    copies_given : CopiesAre (land c e n (with_node w k)) p a.slot a.owner a.dirty
    unfolding slot_of dirty_of
    copies_given =
        record {
          slot_same = slots;
          dirty_same = λ m.
              kept_node c e n acts (with_node w j) (with_node w k) m (λ o. dirty_in o p ≡ (a.dirty && m == a.owner))
              (λ at old. gives.clean ∙ none_dirty (m == a.owner) a.dirty (ap (λ (x : ℕ). x == a.owner) at ∙ not_owner)) (r.copies.dirty_same m);
        }

    tables_given : TablesAre (land c e n (with_node w k)) p (partition c.config p) a
    unfolding land
    tables_given =
        record {
          tables = λ m.
              of_node c e n acts (with_node w k) m (λ o. TableOf a p (partition c.config p) m o)
              (λ is. subst (λ (o : Option LockTable). TableIn a p m (era_in k.view (partition c.config p)) o) (sym gives.free) tt) (elsewhere m);
          serving = λ on.
              changed_node c e n acts (with_node w j) (with_node w k) a.owner (λ o. serves_in o (partition c.config p) ≡ true) (λ o. serves_in o (partition c.config p) ≡ true)
              (λ at old. absurd (grind (arith, nat_tests, at, not_owner))) (λ o other old. old) (r.tables.serving on);
          era = era_stood c e n (with_node w j) (with_node w k) (partition c.config p) a.era a.owner r.tables.era;
        }

    pub given : IsWorkOf c e n p (with_node w k) a
    unfolding land
    given =
        record {
          history = history_stays_law c e n p (with_node w j) (with_node w k) a.hist (current a) (record { accesses = λ t. refl; now_same = refl }) r.history;
          stored = r.stored;
          copies = copies_given;
          homes =
              homes_stay_law c e n p (with_node w j) (with_node w k) (current a) a acts gives.standing gives.life gives.uses (record { accesses = λ t. refl; now_same = refl }) r.homes;
          nodes = nodes_stay_law c e n p (partition c.config p) a.era (with_node w j) (with_node w k) a.right a.reached acts gives.standing gives.right r.nodes;
          tables = tables_given;
          links = links_stay_law c e n p (partition c.config p) (with_node w j) (with_node w k) a acts gives.standing refl (λ b. refl) r.links;
        }
