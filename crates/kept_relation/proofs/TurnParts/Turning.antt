-- A right that is spent for a later era, by a node that is to own it.
use Rattle.std.proofs.Common.{◌≡◌, refl, ap, sym, subst, ◌∙◌, ℕ, ◌==◌, ◌&&◌, Bool, true, false, List, Option, Some, None, arith, eqb-true}
use Rattle.std.specs.Prelude.{option_map}
use Rattle.std.proofs.lemmas.Bool.Decides.{nat_tests}
use Rattle.pcl_base.specs.declared.event.Event.{Event}
use Rattle.pcl_base.specs.declared.lock.Held.{Held}
use Rattle.pcl_base.specs.declared.lock.Kind.TheVariants as kind
use Rattle.pcl_base.specs.declared.tx.Mode.TheVariants.{Exclusive}
use Rattle.pcl_base.specs.declared.tx.TxId.{TxId}
use Rattle.node_rules.specs.InstallRule.{owned_before}
use Rattle.node_rules.specs.NodeState.{NodeState, Run, partition, number_of, table_at}
use Rattle.node_rules.specs.OpenTxs.{held_by, pending_of, is_open}
use Rattle.node_rules.specs.Shelf as rules
use Rattle.node_rules.specs.Shelf.{right_on, readers_of}
use Rattle.node_rules.specs.Words.{among, pick}
use Rattle.node_rules.specs.Work.{Work}
use Rattle.home_laws.specs.Homes.{is_right_lock}
use Rattle.cluster_rules.specs.Clusters.{Cluster, node_at, last_view}
use Rattle.page_laws.proofs.EntryParts.Stepped.{one_list}
use Rattle.page_laws.specs.Look.Ends.{version_of_right}
use Rattle.page_laws.specs.Look.Grants.{IsSpent, of_kind}
use Rattle.page_laws.proofs.LookParts.Granting.{spending_is_seen_law}
use Rattle.page_protocol.specs.Authority.{registered, spending, NamesAll}
use Rattle.page_protocol.specs.State.{Home, Holding, Shelf, Page, current}
use Rattle.page_protocol.specs.Steps.{turns}
use Rattle.page_relation.specs.Homes.{wait_on, StandsIn, KindFits, KindIn, image_of, ImageIn, runs_in, is_unborn}
use Rattle.page_relation.specs.Looks.{shelf_in, shelf_of}
use Rattle.page_relation.specs.Relation.{HomesAre, on_shelf, NodesAre}
use Rattle.page_relation.specs.Tables.{ReachedIn}
use Rattle.page_laws.specs.Written.Written.{DiffersWithin}
use Rattle.page_relation.specs.Work.Keeping.{IsWorkOf}
use Rattle.page_relation.specs.Work.Landing.{land, Acts}
use Rattle.page_relation.specs.Work.Spending.{spent}
use Rattle.page_relation.specs.Work.Unseen.{SameStanding}
use Rattle.page_relation.proofs.WorkParts.Framing.{entry_self, history_stays_law, stored_stays_law, copies_stay_law, tables_stay_law, links_stay_law, reached_landed, reached_same}
use Rattle.page_relation.proofs.WorkParts.Naming.{names_used_law}
use Rattle.page_relation.proofs.WorkParts.Nodes.{at_node, changed_node, kept_node, stands_as, unborn_same}
use Rattle.kept_relation.specs.Turn.Getting.{MayTurn, IsTurned, TurningIsStep}
use Rattle.page_relation.proofs.WorkParts.Spending.{shelf_is}
use Rattle.kept_relation.proofs.TurnParts.Registered.{image_after, writer_before, registered_lock, stands_after, kind_after, reading_is}
use Rattle.kept_relation.proofs.TurnParts.Spent.{home_here, home_there, right_here, right_there, tables_after, links_after, history_after, stored_after, copies_after}

-- ---- the node

pub own_page : (p : ℕ) → (p == p) ≡ true
own_page p = grind (arith, nat_tests)

-- what the readers' locks become
held_after : (p : ℕ) (w : Work) (t : TxId) → (is : IsSpent kind.Registered p w.node.home (spent p w).node.home)
    → held_by (spent p w).node.home.txs t p ≡ registered_lock (among (readers_of (right_on w.node.home.shelf p)) t) (held_by w.node.home.txs t p)
unfolding registered_lock
held_after p w t is =
    is.held t p
    ∙ ap (λ (b : Bool). pick (b && among (readers_of (right_on w.node.home.shelf p)) t) (option_map (of_kind kind.Registered) (held_by w.node.home.txs t p)) (held_by w.node.home.txs t p)) (own_page p)

pub spent_standing : (p : ℕ) (w : Work) → IsSpent kind.Registered p w.node.home (spent p w).node.home → SameStanding w.node (spent p w).node
spent_standing p w is = record { config = is.life.config; number = is.life.node; epoch = refl; view = refl }

module _ (c : Cluster) (e : Event) (n p : ℕ) (w : Work) (a : Page) (r : rules.Right) (acts : Acts c n) (upto : ℕ) (may : MayTurn c n p upto w a r) (shelf : a.right n ≡ Shelf r.version) where
  seen : IsSpent kind.Registered p w.node.home (spent p w).node.home
  seen = spending_is_seen_law kind.Registered p w.node.home may.home

  abbrev after : Page
  after = spending a n upto r.readers

  named : (t : TxId) → is_right_lock (held_by w.node.home.txs t p) ≡ true → among (readers_of (right_on w.node.home.shelf p)) t ≡ true
  named t right = seen.named t right

  stands_spent : (last : ℕ) (t : TxId) → t.node ≡ n → StandsIn last (Some w.node) t p (a.home t) → StandsIn last (Some (spent p w).node) t p (after.home t)
  stands_spent last t at old =
      subst (StandsIn last (Some (spent p w).node) t p) (sym (home_here upto a n r.version r.readers shelf t at))
      (stands_as (registered (a.home t)) (is_open w.node.home.txs t) (is_open (spent p w).node.home.txs t) (is_unborn w.node.view w.node t)
      (is_unborn (spent p w).node.view (spent p w).node t) (registered_lock (among (readers_of (right_on w.node.home.shelf p)) t) (held_by w.node.home.txs t p))
      (held_by (spent p w).node.home.txs t p) (wait_on (pending_of w.node.home.txs t) p) (wait_on (pending_of (spent p w).node.home.txs t) p) (seen.life.alive t)
      (unborn_same w.node (spent p w).node (spent_standing p w seen) t seen.life) (held_after p w t seen) (ap (λ o. wait_on o p) (seen.waits t))
      (stands_after (is_open w.node.home.txs t) (is_unborn w.node.view w.node t) (among (readers_of (right_on w.node.home.shelf p)) t) (held_by w.node.home.txs t p)
      (wait_on (pending_of w.node.home.txs t) p) (a.home t) (named t) old))

  kinds_spent : (t : TxId) → KindIn (Some w.node) t p → KindIn (Some (spent p w).node) t p
  kinds_spent t old =
      subst (λ (l : Option Held). KindFits (owned_before (spent p w).node.view (partition (spent p w).node.home.config p) (number_of (spent p w).node)) l) (sym (held_after p w t seen))
      (subst (λ (b : Bool). KindFits b (registered_lock (among (readers_of (right_on w.node.home.shelf p)) t) (held_by w.node.home.txs t p))) (sym own_same)
      (kind_after (among (readers_of (right_on w.node.home.shelf p)) t) (owned_before w.node.view (partition w.node.home.config p) (number_of w.node)) (held_by w.node.home.txs t p) may.not_own old))
    where
      own_same : owned_before (spent p w).node.view (partition (spent p w).node.home.config p) (number_of (spent p w).node) ≡ owned_before w.node.view (partition w.node.home.config p) (number_of w.node)
      own_same = (λ i. owned_before w.node.view (partition (seen.life.config i) p) (seen.life.node i))

  images_spent : (t : TxId) → t.node ≡ n → ImageIn (Some w.node) t p (a.home t) (a.image t) → ImageIn (Some (spent p w).node) t p (after.home t) (a.image t)
  images_spent t at old =
      seen.privates.bytes t p ∙ old
      ∙ sym (ap (λ (h : Home). image_of h (a.image t)) (home_here upto a n r.version r.readers shelf t at) ∙ image_after (a.home t) (a.image t))

  homes_spent : HomesAre (land c e n w) p (current a) a → HomesAre (land c e n (spent p w)) p (current after) after
  unfolding land spending
  homes_spent is =
      record {
        stands = λ t.
            by t (λ o. StandsIn (last_view c).epoch o t p (a.home t)) (λ o h. StandsIn (last_view c).epoch o t p h) (λ at. stands_spent (last_view c).epoch t at)
            (λ o old. old) (is.stands t);
        kinds = λ t. kept_node c e n acts w (spent p w) t.node (λ o. KindIn o t p) (λ at. kinds_spent t) (is.kinds t);
        scripts = is.scripts;
        images = λ t. by t (λ o. ImageIn o t p (a.home t) (a.image t)) (λ o h. ImageIn o t p h (a.image t)) (λ at. images_spent t at) (λ o old. old) (is.images t);
        written = λ t holds.
            kept_node c e n acts w (spent p w) t.node (λ o. DiffersWithin (runs_in o t p) (current a).bytes (a.image t))
            (λ at old. subst (λ (rs : List Run). DiffersWithin rs (current a).bytes (a.image t)) (sym (seen.privates.runs t p)) old) (is.written t (writer t holds));
      }
    where
      by : (t : TxId) (Q : Option NodeState → Type 0) (R : Option NodeState → Home → Type 0) → (t.node ≡ n → Q (Some w.node) → R (Some (spent p w).node) (after.home t))
          → ((o : Option NodeState) → Q o → R o (a.home t)) → Q (node_at (land c e n w) t.node) → R (node_at (land c e n (spent p w)) t.node) (after.home t)
      by t Q R ours theirs old =
          changed_node c e n acts w (spent p w) t.node Q (λ o. R o (after.home t)) ours
          (λ o other was. subst (R o) (sym (home_there upto a n r.version r.readers shelf t other)) (theirs o was)) old

      writer : (t : TxId) → after.home t ≡ Holding Exclusive → a.home t ≡ Holding Exclusive
      writer t holds = of (t.node == n) refl
        where
          of : (b : Bool) → (t.node == n) ≡ b → a.home t ≡ Holding Exclusive
          of true same = writer_before (a.home t) (sym (home_here upto a n r.version r.readers shelf t (eqb-true t.node n same)) ∙ holds)
          of false other = sym (home_there upto a n r.version r.readers shelf t other) ∙ holds

  reached_spent : (m : ℕ) → ReachedIn (land c e n w) (partition c.config p) a.era (node_at (land c e n w) m) (a.reached m)
      → ReachedIn (land c e n (spent p w)) (partition c.config p) after.era (node_at (land c e n (spent p w)) m) (after.reached m)
  unfolding spending
  reached_spent m old =
      (reached_landed c e n (spent p w) (partition c.config p) a.era (a.reached m) (node_at (land c e n (spent p w)) m)).1
      (kept_node c e n acts w (spent p w) m (λ o. ReachedIn c (partition c.config p) a.era o (a.reached m))
      (λ at old. reached_same c (partition c.config p) a.era (a.reached m) w.node (spent p w).node (spent_standing p w seen) old)
      ((reached_landed c e n w (partition c.config p) a.era (a.reached m) (node_at (land c e n w) m)).0 old))

  nodes_spent : NodesAre (land c e n w) p (partition c.config p) a.era a.right a.reached → NodesAre (land c e n (spent p w)) p (partition c.config p) after.era after.right after.reached
  unfolding shelf_of
  nodes_spent is =
      record {
        shelves = λ m.
            changed_node c e n acts w (spent p w) m (λ o. shelf_in o p ≡ on_shelf (a.right m)) (λ o. shelf_in o p ≡ on_shelf (after.right m))
            (λ at old. ap version_of_right (seen.right p ∙ ap (λ (b : Bool). pick b None (right_on w.node.home.shelf p)) (own_page p))
            ∙ sym (ap on_shelf (ap after.right at ∙ right_here upto a n r.version r.readers shelf)))
            (λ o other old. old ∙ sym (ap on_shelf (right_there upto a n r.version r.readers shelf m other)))
            (is.shelves m);
        eras = λ m. reached_spent m (is.eras m);
      }

  -- the names that are answered
  names_all : IsWorkOf c e n p w a → NamesAll a n r.readers
  unfolding land
  names_all is t at reads =
      one_list r.readers t
      ∙ ap (λ (o : Option rules.Right). among (readers_of o) t) (sym may.right)
      ∙ named t
      (reading_is (is_open w.node.home.txs t) (is_unborn w.node.view w.node t) (held_by w.node.home.txs t p) (wait_on (pending_of w.node.home.txs t) p) (a.home t)
      (at_node c e n acts w t.node (λ o. StandsIn (last_view c).epoch o t p (a.home t)) at (is.homes.stands t)) reads)

  pub turned : IsWorkOf c e n p w a → IsTurned c e n p upto w a r
  unfolding land
  turned is =
      record {
        step = turns n r.version upto r.readers shelf may.not_past may.before (names_all is) (names_used_law c e n p w a r acts may.home may.right may.used is) may.used;
        related =
            record {
              history =
                  history_after upto a n r.version r.readers shelf (land c e n x) p
                  (history_stays_law c e n p w x a.hist (current a) (record { accesses = λ t. refl; now_same = refl }) is.history);
              stored = stored_after upto a n r.version r.readers shelf (land c e n x) p (stored_stays_law c e n p w x a.disk a.log (λ disk log old. old) is.stored);
              copies = copies_after upto a n r.version r.readers shelf (land c e n x) p (copies_stay_law c e n p w x a.slot a.owner a.dirty acts (seen.copies p) is.copies);
              homes = homes_spent is.homes;
              nodes = nodes_spent is.nodes;
              tables =
                  tables_after upto a n r.version r.readers shelf (land c e n x) p (partition c.config p)
                  (tables_stay_law c e n p (partition c.config p) w x a acts (spent_standing p w seen) (entry_self p (table_at w.node (partition c.config p))) is.tables);
              links =
                  links_after upto a n r.version r.readers shelf (land c e n x) p (partition c.config p)
                  (links_stay_law c e n p (partition c.config p) w x a acts (spent_standing p w seen) refl (λ b. refl) is.links);
            };
      }
    where
      x : Work
      x = spent p w

pub turning_is_step_law : TurningIsStep
turning_is_step_law c e n p upto w a r acts may is = turned c e n p w a r acts upto may (shelf_is c e n p w a r acts may.right is) is
