-- A node goes on to the next view, and the partition with its era: nothing is seen but that fewer messages count.
use Rattle.std.proofs.Common.{◌≡◌, refl, ap, sym, subst, ◌∙◌, ℕ, ◌+◌, ◌==◌, Bool, true, Option, Some}
use Rattle.pcl_base.specs.Limits.{Sizes}
use Rattle.pcl_base.specs.declared.event.Event.{Event}
use Rattle.pcl_base.specs.declared.message.Message.{Message}
use Rattle.pcl_base.specs.declared.tx.TxId.{TxId}
use Rattle.run_rules.specs.Views.{View, since_of, owner_of}
use Rattle.node_rules.specs.InstallRule.{owned_before}
use Rattle.node_rules.specs.NodeState.{NodeState, partition, table_at, number_of}
use Rattle.node_rules.specs.OpenTxs.{is_open, held_by, pending_of}
use Rattle.node_rules.specs.Work.{Work, with_node}
use Rattle.cluster_rules.specs.Clusters.{Cluster, node_at, last_view, view_of_epoch}
use Rattle.cluster_laws.proofs.Steps.{up_is_member_law}
use Rattle.cluster_laws.specs.Era.Eras.{era_at, owner_at, era_in}
use Rattle.cluster_laws.proofs.EraParts.Ages.{era_is, owner_is, eras_have_one_owner_law}
use Rattle.cluster_laws.proofs.EraParts.Lives.{stands}
use Rattle.page_protocol.specs.State.{Page, Home, current}
use Rattle.page_relation.specs.Homes.{Stands, StandsIn, KindFits, KindIn, ImageIn, wait_on, is_unborn, runs_in}
use Rattle.page_relation.specs.Looks.{shelf_in, shelf_of}
use Rattle.page_relation.specs.Relation.{HomesAre, NodesAre, TablesAre, MessageIs, on_shelf}
use Rattle.page_relation.specs.Tables.{EraIs, TableIn, TableOf, ReachedBy, ReachedIn, serves_in}
use Rattle.page_laws.specs.Written.Written.{DiffersWithin}
use Rattle.page_relation.specs.Work.Keeping.{IsWorkOf}
use Rattle.page_relation.specs.Work.Landing.{land, Acts}
use Rattle.page_relation.proofs.WorkParts.Framing.{history_stays_law, copies_stay_law, reached_landed}
use Rattle.page_relation.proofs.WorkParts.Nodes.{kept_node}
use Rattle.kept_relation.specs.Turn.Standing.{HasNext, stood, ViewIsKept}
use Rattle.kept_relation.proofs.TurnParts.Narrowing.{links_narrow, counts_before}

-- the eras of views stay, whatever the node has
pub era_stood : (c : Cluster) (e : Event) (n : ℕ) (w x : Work) (q era owner : ℕ) → EraIs (land c e n w) q era owner → EraIs (land c e n x) q era owner
unfolding land era_at owner_at
era_stood c e n w x q era owner is = record { epoch = is.epoch; low = is.low; made = is.made; era_there = is.era_there; owner_there = is.owner_there }

-- so what messages say
pub says_stood : (c : Cluster) (e : Event) (n p q : ℕ) (w x : Work) (a : Page) (from to : ℕ) (m : Message) → MessageIs (land c e n w) p q a from to m → MessageIs (land c e n x) p q a from to m
unfolding land era_at
says_stood c e n p q w x a from to m says = says

module _ (c : Cluster) (e : Event) (n p : ℕ) (s : NodeState) (old v : View) (w : Work) (acts : Acts c n) (has : HasNext c n s v w.node) (own : s.view ≡ Some old) (era : since_of v (partition c.config p) ≡ since_of old (partition c.config p)) where
  -- the node with its old view
  abbrev before : NodeState
  before = stood s.epoch s.view w.node.home.txs.born w.node

  at_old : view_of_epoch c.views s.epoch ≡ Some old
  at_old = (stands c n s old (up_is_member_law c n s acts.cluster has.up).1 own).there

  owner_same : owner_of v (partition c.config p) ≡ owner_of old (partition c.config p)
  owner_same =
      sym (owner_is c (s.epoch + 1) v has.next (partition c.config p))
      ∙ eras_have_one_owner_law c (partition c.config p) (s.epoch + 1) s.epoch acts.cluster
      (era_is c (s.epoch + 1) v has.next (partition c.config p) ∙ era ∙ sym (era_is c s.epoch old at_old (partition c.config p)))
      ∙ owner_is c s.epoch old at_old (partition c.config p)

  owned_same : owned_before w.node.view (partition w.node.home.config p) (number_of w.node) ≡ owned_before s.view (partition w.node.home.config p) (number_of w.node)
  owned_same =
      subst
      (λ (z : Sizes). owned_before w.node.view (partition z p) (number_of w.node) ≡ owned_before s.view (partition z p) (number_of w.node)) (sym has.config)
      (ap (λ (o : Option View). owned_before o (partition c.config p) (number_of w.node)) has.view
      ∙ ap (λ (k : ℕ). k == number_of w.node) owner_same
      ∙ sym (ap (λ (o : Option View). owned_before o (partition c.config p) (number_of w.node)) own))

  unborn_same : (t : TxId) → is_unborn w.node.view w.node t ≡ is_unborn s.view before t
  unborn_same t = ap (λ (o : Option View). is_unborn o w.node t) has.view ∙ sym (ap (λ (o : Option View). is_unborn o before t) own)

  era_same : era_in w.node.view (partition c.config p) ≡ era_in s.view (partition c.config p)
  era_same =
      ap (λ (o : Option View). era_in o (partition c.config p)) has.view ∙ era
      ∙ sym (ap (λ (o : Option View). era_in o (partition c.config p)) own)

  stands_on : (last : ℕ) (t : TxId) (h : Home) → StandsIn last (Some before) t p h → StandsIn last (Some w.node) t p h
  stands_on last t h is =
      subst (λ (u : Bool). Stands (is_open w.node.home.txs t) u (held_by w.node.home.txs t p) (wait_on (pending_of w.node.home.txs t) p) h) (sym (unborn_same t)) is

  kind_on : (t : TxId) → KindIn (Some before) t p → KindIn (Some w.node) t p
  kind_on t fits = subst (λ (b : Bool). KindFits b (held_by w.node.home.txs t p)) (sym owned_same) fits

  reached_on : (low r : ℕ) → ReachedIn c (partition c.config p) low (Some before) r → ReachedIn c (partition c.config p) low (Some w.node) r
  reached_on low r is =
      let was : ReachedBy c (partition c.config p) low before (Some old) r = subst (λ (o : Option View). ReachedBy c (partition c.config p) low before o r) own is in
      subst (λ (o : Option View). ReachedBy c (partition c.config p) low w.node o r) (sym has.view) (was.0 ∙ sym era, was.1)

  module _ (a : Page) where
    homes_on : HomesAre (land c e n (with_node w before)) p (current a) a → HomesAre (land c e n w) p (current a) a
    unfolding land
    homes_on is =
        record {
          stands = λ t. kept t (λ o. StandsIn (last_view c).epoch o t p (a.home t)) (stands_on (last_view c).epoch t (a.home t)) (is.stands t);
          kinds = λ t. kept t (λ o. KindIn o t p) (kind_on t) (is.kinds t);
          scripts = is.scripts;
          images = λ t. kept t (λ o. ImageIn o t p (a.home t) (a.image t)) (λ old. old) (is.images t);
          written = λ t holds. kept t (λ o. DiffersWithin (runs_in o t p) (current a).bytes (a.image t)) (λ old. old) (is.written t holds);
        }
      where
        kept : (t : TxId) (Q : Option NodeState → Type 0) → (Q (Some before) → Q (Some w.node)) → Q (node_at (land c e n (with_node w before)) t.node) → Q (node_at (land c e n w) t.node)
        kept t Q here is = kept_node c e n acts (with_node w before) w t.node Q (λ at. here) is

    nodes_on : NodesAre (land c e n (with_node w before)) p (partition c.config p) a.era a.right a.reached → NodesAre (land c e n w) p (partition c.config p) a.era a.right a.reached
    unfolding shelf_of
    nodes_on is =
        record {
          shelves = λ m. kept_node c e n acts (with_node w before) w m (λ o. shelf_in o p ≡ on_shelf (a.right m)) (λ at old. old) (is.shelves m);
          eras = λ m.
              (reached_landed c e n w (partition c.config p) a.era (a.reached m) (node_at (land c e n w) m)).1
              (kept_node c e n acts (with_node w before) w m (λ o. ReachedIn c (partition c.config p) a.era o (a.reached m)) (λ at. reached_on a.era (a.reached m))
              ((reached_landed c e n (with_node w before) (partition c.config p) a.era (a.reached m) (node_at (land c e n (with_node w before)) m)).0 (is.eras m)));
        }

    tables_on : TablesAre (land c e n (with_node w before)) p (partition c.config p) a → TablesAre (land c e n w) p (partition c.config p) a
    tables_on is =
        record {
          tables = λ m.
              kept_node c e n acts (with_node w before) w m (λ o. TableOf a p (partition c.config p) m o)
              (λ at old. subst (λ (k : ℕ). TableIn a p m k (table_at w.node (partition c.config p))) (sym era_same) old) (is.tables m);
          serving = λ on. kept_node c e n acts (with_node w before) w a.owner (λ o. serves_in o (partition c.config p) ≡ true) (λ at old. old) (is.serving on);
          era = era_stood c e n (with_node w before) w (partition c.config p) a.era a.owner is.era;
        }

    view_on : IsWorkOf c e n p (with_node w before) a → IsWorkOf c e n p w a
    unfolding land
    view_on is =
        record {
          history = history_stays_law c e n p (with_node w before) w a.hist (current a) (record { accesses = λ t. refl; now_same = refl }) is.history;
          stored = is.stored;
          copies = copies_stay_law c e n p (with_node w before) w a.slot a.owner a.dirty acts refl is.copies;
          homes = homes_on is.homes;
          nodes = nodes_on is.nodes;
          tables = tables_on is.tables;
          links =
              links_narrow c e n p acts w before (λ from epoch. counts_before c n s v w.node acts has old w.node.home.txs.born from (partition c.config p) epoch own) (partition c.config p) a a
              (says_stood c e n p (partition c.config p) (with_node w before) w a) is.links;
        }

pub view_is_kept_law : ViewIsKept
view_is_kept_law c e n p s old v w a acts has own born era is =
    view_on c e n p s old v w acts has own era a (subst (λ (b : ℕ). IsWorkOf c e n p (with_node w (stood s.epoch s.view b w.node)) a) (sym born) is)
