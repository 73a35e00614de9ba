-- A table that is served: the machine's completion.
use Rattle.std.proofs.Common.{◌≡◌, ◌≢◌, refl, ap, sym, subst, ◌∙◌, ℕ, ◌<◌, ◌≤◌, ◌==◌, ◌&&◌, Bool, true, false, List, [], Option, Some, None, is_some, arith, eqb-true}
use Rattle.std.specs.Prelude.{ltb}
use Rattle.std.specs.List.{AllByRecursion}
use Rattle.std.proofs.lemmas.Bool.Decides.{nat_tests}
use Rattle.pcl_base.specs.Limits.{Sizes}
use Rattle.pcl_base.specs.declared.event.Event.{Event}
use Rattle.pcl_base.specs.declared.message.Body.{Body}
use Rattle.pcl_base.specs.declared.message.Body.TheVariants as body
use Rattle.pcl_base.specs.declared.message.Message.{Message}
use Rattle.pcl_base.specs.declared.reply.Reply.TheVariants as reply
use Rattle.pcl_base.specs.declared.tx.TxId.{TxId}
use Rattle.run_rules.specs.Views.{View, owner_of, since_of}
use Rattle.node_rules.specs.InstallRule.{owned_before, version_of_page}
use Rattle.node_rules.specs.LockRule.{has_right}
use Rattle.node_rules.specs.LockTable.{LockTable, entry_at, marked, serve}
use Rattle.node_rules.specs.NodeState.{NodeState, is_serving, number_of, partition, put_table, table_at}
use Rattle.node_rules.specs.Words.{pick}
use Rattle.node_rules.specs.Work.{Work, with_node}
use Rattle.cluster_rules.specs.Clusters.{Cluster, node_at}
use Rattle.cluster_laws.specs.Sound.{IsMember}
use Rattle.cluster_laws.proofs.Steps.{up_is_member_law}
use Rattle.cluster_laws.specs.Era.Eras.{era_at, era_in, owner_at}
use Rattle.cluster_laws.proofs.EraParts.Ages.{era_is, owner_is, eras_have_one_owner_law}
use Rattle.cluster_laws.proofs.EraParts.Lives.{members_know_eras_law}
use Rattle.cluster_laws.specs.Link.Coming.{coming}
use Rattle.cluster_laws.specs.Link.Orders.{is_report}
use Rattle.page_protocol.specs.Bytes.{Copy}
use Rattle.page_protocol.specs.Eras.{completing, settled}
use Rattle.page_protocol.specs.State.{Page, Right, NoRight, Flying, Shelf, Returning, Dead, current}
use Rattle.page_protocol.specs.State as machine
use Rattle.page_protocol.specs.Steps.{Reached, completes}
use Rattle.page_protocol.proofs.Basics.{ltb_true}
use Rattle.page_protocol.proofs.Keeps.{reached_holds}
use Rattle.page_relation.specs.Messages.{CountsFor, SaysSo}
use Rattle.page_relation.specs.Relation.{CopiesAre, HomesAre, LinksAre, MessageIs, NodesAre, TablesAre, on_shelf}
use Rattle.page_relation.specs.Tables.{EraIs, IsRebuilt, WaiterIs, ReachedBy, ReachedIn, TableIs, TableIn, TableOf, serves_in}
use Rattle.page_laws.specs.Storage.Looks.{IsStored}
use Rattle.page_relation.specs.Work.Keeping.{IsWorkOf}
use Rattle.page_relation.specs.Work.Landing.{land, Acts}
use Rattle.page_relation.specs.Work.Unseen.{SameStanding}
use Rattle.page_relation.proofs.WorkParts.Framing.{life_self, use_self, unseen_is_kept_law, history_stays_law, stored_stays_law, copies_stay_law, homes_stay_law, nodes_stay_law, links_stay_law}
use Rattle.page_relation.proofs.WorkParts.Landed.{landing_is_seen_law}
use Rattle.page_relation.proofs.WorkParts.Nodes.{of_node}
use Rattle.page_relation.proofs.WorkParts.Quiet.{quiet_replies_law}
use Rattle.settle_relation.proofs.Changing.{two_all}
use Rattle.settle_relation.proofs.Deciding.{put_there}
use Rattle.report_relation.specs.Completing.{IsReady, MayComplete, NewHaveNoRight}
use Rattle.report_relation.specs.Redoing.{IsRedone}
use Rattle.report_relation.specs.Serving.{CompletingIsStep, HasWhole, served}
use Rattle.report_relation.proofs.Reaching.{up_have_reached_law}
use Rattle.report_relation.proofs.Ready.{era_of, may_complete, nodes_are, own_era, reached_up, rebuilt, tables_are}

-- ---- rights that go on

shelf_settled : (e : ℕ) (r : Right) → on_shelf r ≡ on_shelf (settled e r)
shelf_settled e NoRight = refl
shelf_settled e (Flying g) = refl
shelf_settled e (Shelf v) = refl
shelf_settled e (Returning upto rs) = by (ltb e upto)
  where
    by : (b : Bool) → None ≡ on_shelf (machine.pick b (Returning upto rs) NoRight)
    by true = refl
    by false = refl
shelf_settled e Dead = refl

settled_counts : (e : ℕ) (r : Right) → settled e r ≢ NoRight → CountsFor e r
settled_counts e NoRight out = absurd (out refl)
settled_counts e (Flying g) out = absurd (out refl)
settled_counts e (Shelf v) out = tt
settled_counts e (Returning upto rs) out = by (ltb e upto) refl
  where
    by : (b : Bool) → ltb e upto ≡ b → e < upto
    by true is = ltb_true e upto is
    by false is = absurd (out (ap (λ (b : Bool). machine.pick b (Returning upto rs) NoRight) is))
settled_counts e Dead out = absurd (out refl)

still_counts : (e f : ℕ) (r : Right) → CountsFor f (settled e r) → CountsFor f r
still_counts e f NoRight counts = counts
still_counts e f (Flying g) counts = counts
still_counts e f (Shelf v) counts = counts
still_counts e f (Returning upto rs) counts = by (ltb e upto) counts
  where
    by : (b : Bool) → CountsFor f (machine.pick b (Returning upto rs) NoRight) → f < upto
    by true k = k
    by false k = absurd k
still_counts e f Dead counts = counts

module _ (c : Cluster) (e : Event) (n p : ℕ) (blank : List ℕ) (w : Work) (v : View) (t : LockTable) (a : Page) (acts : Acts c n) (low : partition c.config p < c.config.nodes) (reached : Reached blank a) (ready : IsReady c n (partition c.config p) w v t) (quiet : NewHaveNoRight c p) (whole : HasWhole c e n p (partition c.config p) (since_of v (partition c.config p)) w t a) (redone : IsRedone (partition c.config p) p w a) (is : IsWorkOf c e n p w a) where
  abbrev q : ℕ
  q = partition c.config p

  abbrev era : ℕ
  era = since_of v q

  abbrev b : Page
  b = completing a era n

  abbrev z : Work
  z = with_node w (put_table w.node q (Some (serve t)))

  may : MayComplete a era
  may = may_complete c e n p w v t a acts low ready quiet is

  clean_off : a.dirty ≡ false
  clean_off = by a.dirty refl
    where
      by : (x : Bool) → a.dirty ≡ x → x ≡ false
      by true on = let served = (reached_holds blank a reached).kept_holds.dirty_served on in let off = may.nobody in absurd (cc)
      by false off = refl

  standing : SameStanding w.node z.node
  standing = record { config = refl; number = refl; epoch = refl; view = refl }

  there : table_at z.node q ≡ Some (serve t)
  there = put_there w.node.tables q t (Some (serve t)) ready.there

  -- ---- the nodes

  other_up : (m : ℕ) → (m == n) ≡ false → (o : Option NodeState) → node_at c m ≡ o → node_at (land c e n w) m ≡ o
  other_up m other o up = (landing_is_seen_law c e n w acts).others m other ∙ up

  apart : (m : ℕ) → (m == n) ≡ false → m ≢ n
  apart m other at = absurd (grind (arith, nat_tests, other, at))

  other_reached : (m : ℕ) → (m == n) ≡ false → (o : Option NodeState) → node_at c m ≡ o → ReachedIn (land c e n w) q a.era o (a.reached m) → ReachedIn (land c e n z) q era o (a.reached m)
  unfolding land era_at
  other_reached m other None up old = old
  other_reached m other (Some s) up old = of s.view refl old
    where
      of : (o : Option View) → s.view ≡ o → ReachedBy (land c e n w) q a.era s o (a.reached m) → ReachedBy (land c e n z) q era s o (a.reached m)
      of (Some u) viewed old = (old.0, reached_up c e n p w v t a acts low ready quiet is m s u (other_up m other (Some s) up) viewed)
      of None viewed old = (
        old.0,
        up_have_reached_law c n q w.node.epoch v t m s acts low ready.all (apart m other) up
            (λ on.
            let high : since_of v q ≤ a.reached m =
            subst (λ (k : ℕ). k ≤ a.reached m) (own_era c e n p w v t a acts low ready quiet is) ((rebuilt c e n p w v t a acts low ready quiet is).reaches m on) in
            let bound = old.0 in
            omega (arith, high, bound)),
      )

  nodes_old : NodesAre (land c e n z) p q a.era a.right a.reached
  unfolding land
  nodes_old = nodes_stay_law c e n p q a.era w z a.right a.reached acts standing refl is.nodes

  nodes_next : NodesAre (land c e n z) p q era (λ m. settled era (a.right m)) a.reached
  nodes_next =
      record {
        shelves = λ m. nodes_old.shelves m ∙ shelf_settled era (a.right m);
        eras = λ m.
            of_node c e n acts z m (λ o. ReachedIn (land c e n z) q era o (a.reached m)) (λ same. own m same)
            (λ other. other_reached m other (node_at c m) refl
            (subst (λ (o : Option NodeState). ReachedIn (land c e n w) q a.era o (a.reached m)) (other_up m other (node_at c m) refl) ((nodes_are c e n p w v t a acts low ready quiet is).eras m)));
      }
    where
      own : (m : ℕ) → m ≡ n → ReachedIn (land c e n z) q era (Some z.node) (a.reached m)
      own m same =
          subst (λ (o : Option View). ReachedBy (land c e n z) q era z.node o (a.reached m)) (sym ready.in_view)
          (let at : a.reached n ≡ since_of v q = era_of c e n p w v t a acts low ready quiet is n w.node v (landing_is_seen_law c e n w acts).node ready.in_view in
          let own : a.reached m ≡ since_of v q = ap a.reached same ∙ at in
          (own, omega (arith, own)))

  -- ---- the tables

  own_table : TableIs b p n (era_in z.node.view q) true (serve t)
  unfolding completing
  own_table =
      record {
        serves = refl;
        here = refl;
        now = own_era c e n p w v t a acts low ready quiet is;
        version = sym (ap (λ (o : Option LockTable). version_of_page o p) ready.there) ∙ redone.entry;
        holders = λ u. old.holders u ∙ listed u (marked t u.node) refl ∙ ap (λ (k : ℕ). a.listed u k) (own_era c e n p w v t a acts low ready quiet is);
        rights = λ m out. right m (subst (λ (k : ℕ). CountsFor k (a.right m)) (sym (own_era c e n p w v t a acts low ready quiet is)) (settled_counts era (a.right m) out)) (marked t m) refl;
        waiting = subst (λ (k : ℕ). AllByRecursion (WaiterIs a.reached a.home k) (entry_at t p).waiting) (own_era c e n p w v t a acts low ready quiet is) old.waiting;
        writers = old.writers;
      }
    where
      old : IsRebuilt a.era a.listed a.right a.reached a.home (era_in w.node.view q) t (entry_at t p)
      old = rebuilt c e n p w v t a acts low ready quiet is

      listed : (u : TxId) (on : Bool) → marked t u.node ≡ on → pick (marked t u.node) (a.listed u (era_in w.node.view q)) None ≡ a.listed u (era_in w.node.view q)
      listed u true on = ap (λ (x : Bool). pick x (a.listed u (era_in w.node.view q)) None) on
      listed u false off =
          ap (λ (x : Bool). pick x (a.listed u (era_in w.node.view q)) None) off
          ∙ sym (ap (λ (k : ℕ). a.listed u k) (own_era c e n p w v t a acts low ready quiet is) ∙ whole.listed u off)

      right : (m : ℕ) → CountsFor (era_in w.node.view q) (a.right m) → (on : Bool) → marked t m ≡ on → has_right (entry_at t p).rights m ≡ true
      right m counts true on = old.rights m on counts
      right m counts false off = absurd (whole.rights m off (subst (λ (k : ℕ). CountsFor k (a.right m)) (own_era c e n p w v t a acts low ready quiet is) counts))

  -- another node's table is of a later era
  other_later : (m : ℕ) → (m == n) ≡ false → (s : NodeState) → node_at c m ≡ Some s → (k : LockTable) → table_at s q ≡ Some k → (o : Option View) → s.view ≡ o → era < era_in s.view q
  other_later m other s up k at None viewed =
      let member : IsMember c.config c.views m s = (up_is_member_law c m s acts.cluster up).1 in
      let none : is_some (table_at s q) ≡ false = member.sound.owned q (subst (λ (x : Sizes). q < x.nodes) (sym member.config) low) ∙ ap (λ (x : Option View). owned_before x q (number_of s)) viewed in
      let some : is_some (table_at s q) ≡ true = ap (λ (x : Option LockTable). is_some x) at in
      absurd (cc)
  other_later m other s up k at (Some u) viewed =
      subst (λ (x : ℕ). era < x) (sym (ap (λ (o : Option View). era_in o q) viewed)) (by (era == since_of u q) refl)
    where
      member : IsMember c.config c.views m s
      member = (up_is_member_law c m s acts.cluster up).1

      high : era ≤ since_of u q
      high = subst (λ (x : ℕ). era ≤ x) (era_of c e n p w v t a acts low ready quiet is m s u (other_up m other (Some s) up) viewed) (reached_up c e n p w v t a acts low ready quiet is m s u (other_up m other (Some s) up) viewed)

      owns : (owner_of u q == m) ≡ true
      owns =
          subst (λ (x : ℕ). (owner_of u q == x) ≡ true) member.number
          (sym (member.sound.owned q (subst (λ (x : Sizes). q < x.nodes) (sym member.config) low) ∙ ap (λ (x : Option View). owned_before x q (number_of s)) viewed) ∙ ap (λ (x : Option LockTable). is_some x) at)

      same_owner : era ≡ since_of u q → m ≡ n
      same_owner same =
          let knows = members_know_eras_law c m s u member viewed in
          sym (eqb-true (owner_of u q) m owns) ∙ sym (knows.owners q)
          ∙ eras_have_one_owner_law c q s.epoch w.node.epoch acts.cluster (knows.eras q ∙ sym same ∙ sym (era_is c w.node.epoch v ready.all.there q))
          ∙ owner_is c w.node.epoch v ready.all.there q ∙ sym ready.all.owner

      by : (x : Bool) → (era == since_of u q) ≡ x → era < since_of u q
      by true same = absurd (apart m other (same_owner (eqb-true era (since_of u q) same)))
      by false differs = grind (arith, nat_tests, differs, high)

  other_table : (m : ℕ) → (m == n) ≡ false → (o : Option NodeState) → node_at c m ≡ o → TableOf a p q m o → TableOf b p q m o
  unfolding completing
  other_table m other None up old = tt
  other_table m other (Some s) up old = of (table_at s q) refl old
    where
      by : (k : LockTable) → table_at s q ≡ Some k → (x : Bool) → TableIs a p m (era_in s.view q) x k → TableIs b p m (era_in s.view q) x k
      by k at true table = let on = table.serves in let off = may.nobody in absurd (cc)
      by k at false table =
          record {
            later = other_later m other s up k at s.view refl;
            reaches = table.reaches;
            holders = table.holders;
            rights = λ j on counts. table.rights j on (still_counts era (era_in s.view q) (a.right j) counts);
            waiting = table.waiting;
            writers = table.writers;
          }

      of : (k : Option LockTable) → table_at s q ≡ k → TableIn a p m (era_in s.view q) k → TableIn b p m (era_in s.view q) k
      of None at old = tt
      of (Some k) at old = by k at k.serving old

  era_next : EraIs (land c e n z) q era n
  unfolding land era_at owner_at
  era_next =
      record {
        epoch = w.node.epoch;
        low = ready.all.low;
        made = ready.all.made;
        era_there = era_is c w.node.epoch v ready.all.there q;
        owner_there = owner_is c w.node.epoch v ready.all.there q ∙ sym ready.all.owner;
      }

  tables_next : TablesAre (land c e n z) p q b
  unfolding completing
  tables_next =
      record {
        tables = λ m.
            of_node c e n acts z m (λ o. TableOf b p q m o)
            (λ same. subst (λ (k : ℕ). TableOf b p q k (Some z.node)) (sym same) (subst (λ (o : Option LockTable). TableIn b p n (era_in z.node.view q) o) (sym there) own_table))
            (λ other. other_table m other (node_at c m) refl
            (subst (λ (o : Option NodeState). TableOf a p q m o) (other_up m other (node_at c m) refl) ((tables_are c e n p w v t a acts low ready quiet is).tables m)));
        serving = λ on. subst (λ (o : Option NodeState). serves_in o q ≡ true) (sym (landing_is_seen_law c e n z acts).node) (ap is_serving there);
        era = era_next;
      }

  -- ---- the links

  says_next : (from to f : ℕ) (k : Body) → (is_report k ≡ true → era < f) → SaysSo a.era a.hist a.reached a.listed a.right a.home a.sent p from to f k
      → SaysSo era a.hist a.reached a.listed (λ m. settled era (a.right m)) a.home [] p from to f k
  says_next from to f (body.Request r) later old = old
  says_next from to f (body.Grant g) later old =
      let low = old.0 in let rises = may.later in ((let le : f ≤ era = omega (arith, low, rises) in le), λ same. absurd (omega (arith, low, rises, same)))
  says_next from to f (body.Release r) later old = old
  says_next from to f (body.Revoke page) later old = let rises = may.later in omega (arith, old, rises)
  says_next from to f (body.Return r) later old =
      let low = old.0 in let rises = may.later in ((let le : f ≤ era = omega (arith, low, rises) in le), λ same. absurd (omega (arith, low, rises, same)))
  says_next from to f (body.Report r) later old =
      record { later = later refl; reaches = old.reaches; locks = old.locks; rights = λ counts. old.rights (still_counts era f (a.right from) counts); waits = old.waits }

  links_next : LinksAre (land c e n w) p q b
  unfolding land completing
  links_next =
      record {
        say = λ from to.
            two_all (MessageIs (land c e n w) p q a from to) (λ (m : Message). is_report m.body ≡ true → era < era_at (land c e n w) q m.epoch) (MessageIs (land c e n w) p q b from to)
            (λ m old later. says_next from to (era_at (land c e n w) q m.epoch) m.body later old) (coming (land c e n w) p from to) (is.links.say from to) (whole.reports from to);
        ordered = is.links.ordered;
        once = is.links.once;
      }

  -- ---- and all of it

  homes_next : HomesAre (land c e n z) p (current b) b
  unfolding land completing
  homes_next = record { stands = old.stands; kinds = old.kinds; scripts = old.scripts; images = old.images; written = old.written }
    where
      old : HomesAre (land c e n z) p (current a) a
      old = homes_stay_law c e n p w z (current a) a acts standing (life_self w.node.home) (use_self p w.node.home) (record { accesses = λ u. refl; now_same = refl }) is.homes

  copies_next : CopiesAre (land c e n z) p a.slot n false
  unfolding land
  copies_next = record { slot_same = old.slot_same; dirty_same = λ m. old.dirty_same m ∙ ap (λ (x : Bool). x && m == a.owner) clean_off }
    where
      old : CopiesAre (land c e n z) p a.slot a.owner a.dirty
      old = copies_stay_law c e n p w z a.slot a.owner a.dirty acts refl is.copies

  served_related : IsWorkOf c e n p z b
  unfolding land completing
  served_related =
      record {
        history = history_stays_law c e n p w z a.hist (current a) (record { accesses = λ u. refl; now_same = refl }) is.history;
        stored =
            subst (λ (k : Copy). IsStored (land c e n z).config (land c e n z).disk p k a.log) redone.disk
            (stored_stays_law c e n p w z a.disk a.log (λ disk log old. old) is.stored);
        copies = copies_next;
        homes = homes_next;
        nodes = nodes_next;
        tables = tables_next;
        links = links_stay_law c e n p q w z b acts standing refl (λ m. refl) links_next;
      }

pub completing_is_step_law : CompletingIsStep
completing_is_step_law c e n p blank w v t a acts low reached ready quiet whole redone is =
    record {
      step = completes (since_of v (partition c.config p)) n own.nobody own.later own.complete;
      related =
          unseen_is_kept_law c e n p (with_node w (put_table w.node (partition c.config p) (Some (serve t)))) (served (partition c.config p) t w) (completing a (since_of v (partition c.config p)) n) acts
          (quiet_replies_law c e n p (reply.Serving (partition c.config p)) (with_node w (put_table w.node (partition c.config p) (Some (serve t)))) refl refl)
          (served_related c e n p blank w v t a acts low reached ready quiet whole redone is);
    }
  where
    own : MayComplete a (since_of v (partition c.config p))
    own = may_complete c e n p w v t a acts low ready quiet is
