-- An access of an own page that waits: it goes into the page's entry. And a reply that is put in front of the others.
use Rattle.std.proofs.Common.{◌≡◌, refl, ap, sym, subst, ◌∙◌, ℕ, ◌==◌, ◌&&◌, ◌||◌, Bool, true, false, List, [], ◌∷◌, ◌++◌, append-nil, map, Option, Some, None, is_some}
use Rattle.std.specs.List.{AllByRecursion, filter}
use Rattle.pcl_base.specs.declared.event.Event.{Event}
use Rattle.pcl_base.specs.declared.lock.Holder.{Holder}
use Rattle.pcl_base.specs.declared.lock.RightMark.{RightMark}
use Rattle.pcl_base.specs.declared.lock.Waiter.{Waiter}
use Rattle.pcl_base.specs.declared.message.Message.{Message}
use Rattle.pcl_base.specs.declared.reply.Reply.{Reply}
use Rattle.pcl_base.specs.declared.reply.Reply.TheVariants as reply
use Rattle.pcl_base.specs.declared.trace.Entry.{Entry}
use Rattle.pcl_base.specs.declared.trace.Sent.{Sent}
use Rattle.pcl_base.specs.declared.tx.TxId.{TxId}
use Rattle.run_rules.specs.Script.{moments_of, moments}
use Rattle.node_rules.specs.LockRule.{LockEntry, ask, mode_of, has_right, waits_in}
use Rattle.node_rules.specs.LockTable.{LockTable, entry_at, put_entry}
use Rattle.node_rules.specs.NodeState.{partition, table_at, table_of, is_serving}
use Rattle.node_rules.specs.OpenTxs.{pending_of}
use Rattle.node_rules.specs.OwnerRule.{waits_first, with_table}
use Rattle.node_rules.specs.Words.{pick, covers}
use Rattle.node_rules.specs.Work.{Work}
use Rattle.node_laws.proofs.Lists.{all_push, set_look}
use Rattle.cluster_rules.specs.Clusters.{Cluster, node_at, is_up, sent_by}
use Rattle.cluster_rules.specs.ClusterStep.{is_taken}
use Rattle.cluster_rules.specs.Links.{link_at, tail_of}
use Rattle.page_laws.specs.Entry.Looks.{IsAsked}
use Rattle.page_laws.proofs.EntryParts.Looked.{asking_is_seen_law}
use Rattle.page_laws.proofs.EntryParts.Tabled.{tables_are_seen_law}
use Rattle.page_laws.proofs.EntryParts.Writers.{writers_wait_for_nothing_law}
use Rattle.cluster_laws.specs.Era.Eras.{era_at, owner_at, era_in}
use Rattle.cluster_laws.specs.Link.Coming.{is_coming, coming, sent_to, delivers}
use Rattle.cluster_laws.specs.Link.Orders.{AreOrdered}
use Rattle.page_laws.specs.Moment.Looks.{Adds, with_entry}
use Rattle.page_laws.proofs.MomentParts.Entries.{moments_more}
use Rattle.page_protocol.specs.State.{Page, current}
use Rattle.page_relation.specs.Messages.{HasAsked, AreOnce}
use Rattle.page_relation.specs.Relation.{MessageIs, TablesAre, LinksAre}
use Rattle.page_relation.specs.Tables.{WaiterIs, IsServed, IsRebuilt, TableIs, TableIn, TableOf, EraIs, serves_in}
use Rattle.page_relation.specs.Work.Keeping.{IsWorkOf}
use Rattle.page_relation.specs.Work.Landing.{land, Acts, trace_of}
use Rattle.page_relation.specs.Work.Unseen.{SameStanding, SameTold}
use Rattle.page_relation.proofs.WorkParts.Comings.{landed_coming}
use Rattle.page_relation.proofs.WorkParts.Framing.{standing_self, life_self, use_self, entry_self, history_stays_law, stored_stays_law, copies_stay_law, homes_stay_law, nodes_stay_law, tables_stay_law, links_stay_law, message_same}
use Rattle.page_relation.proofs.WorkParts.Nodes.{kept_node}
use Rattle.page_relation.proofs.WorkParts.Started.{quiet_told}
use Rattle.end_relation.proofs.AccessParts.Looking.{own_page}

-- ---- the entry

-- who waits after a request
all_asked : (P : Waiter → Type 0) (x : LockEntry) (w : Waiter) → AllByRecursion P x.waiting → P w → AllByRecursion P (ask x w).waiting
unfolding ask
all_asked P x w all is = by (waits_in x.waiting w.tx || covers (mode_of x.holders w.tx) w.mode)
  where
    by : (b : Bool) → AllByRecursion P (pick b x (record x { waiting = x.waiting ++ w ∷ [] })).waiting
    by true = all
    by false = all_push P x.waiting w all is

module _ (a : Page) (p n e : ℕ) (t : LockTable) (w : Waiter) (asked : (reached era : ℕ) → HasAsked reached era (a.home w.tx) w.have) where
  abbrev after : LockTable
  after = put_entry t p (ask (entry_at t p) w)

  is : IsAsked (entry_at t p) w (ask (entry_at t p) w)
  is = asking_is_seen_law (entry_at t p) w

  there : entry_at after p ≡ ask (entry_at t p) w
  there = (tables_are_seen_law t).put p (ask (entry_at t p) w) p ∙ ap (λ (b : Bool). pick b (ask (entry_at t p) w) (entry_at t p)) (own_page p)

  table_asked : (b : Bool) → TableIs a p n e b t → TableIs a p n e b after
  table_asked true old =
      subst (IsServed a.served a.owner a.era a.entry a.listed a.right a.reached a.home n e) (sym there)
      (record {
        serves = old.serves;
        here = old.here;
        now = old.now;
        version = is.version ∙ old.version;
        holders = λ u. ap (λ (hs : List Holder). mode_of hs u) is.holders ∙ old.holders u;
        rights = λ m out. ap (λ (rs : List RightMark). has_right rs m) is.rights ∙ old.rights m out;
        waiting = all_asked (WaiterIs a.reached a.home a.era) (entry_at t p) w old.waiting (asked (a.reached w.tx.node) a.era);
        writers = (writers_wait_for_nothing_law (entry_at t p) old.writers).asked w;
      })
  table_asked false old =
      subst (IsRebuilt a.era a.listed a.right a.reached a.home e after) (sym there)
      (record {
        later = old.later;
        reaches = old.reaches;
        holders = λ u. ap (λ (hs : List Holder). mode_of hs u) is.holders ∙ old.holders u;
        rights = λ m on counts. ap (λ (rs : List RightMark). has_right rs m) is.rights ∙ old.rights m on counts;
        waiting = all_asked (WaiterIs a.reached a.home e) (entry_at t p) w old.waiting (asked (a.reached w.tx.node) e);
        writers = (writers_wait_for_nothing_law (entry_at t p) old.writers).asked w;
      })

era_landed : (c : Cluster) (e : Event) (n : ℕ) (w x : Work) (q era owner : ℕ) → EraIs (land c e n w) q era owner → EraIs (land c e n x) q era owner
unfolding land era_at owner_at
era_landed c e n w x q era owner is = record { epoch = is.epoch; low = is.low; made = is.made; era_there = is.era_there; owner_there = is.owner_there }

module _ (c : Cluster) (e : Event) (n p : ℕ) (acts : Acts c n) (w : Work) (a : Page) (config : w.node.home.config ≡ c.config) (t : LockTable) (there : table_of w.node p ≡ Some t) (k : Waiter)
    (asked : (reached era : ℕ) → HasAsked reached era (a.home k.tx) k.have) where
  -- the work with the request in its entry
  abbrev pub entered_work : Work
  entered_work = with_table p (put_entry t p (ask (entry_at t p) k)) w

  here : table_at w.node (partition c.config p) ≡ Some t
  here = ap (λ d. table_at w.node (partition d p)) (sym config) ∙ there

  table_entered : (m era : ℕ) → TableIn a p m era (table_at w.node (partition c.config p)) → TableIn a p m era (table_at entered_work.node (partition c.config p))
  table_entered m era old =
      set_look (λ (o : Option LockTable). TableIn a p m era o) None w.node.tables (partition w.node.home.config p) (partition c.config p) (Some (put_entry t p (ask (entry_at t p) k)))
      (λ same. table_asked a p m era t k asked t.serving (subst (TableIn a p m era) here old)) old

  serves_entered : is_serving (table_at w.node (partition c.config p)) ≡ true → is_serving (table_at entered_work.node (partition c.config p)) ≡ true
  serves_entered on =
      set_look (λ (o : Option LockTable). is_serving o ≡ true) None w.node.tables (partition w.node.home.config p) (partition c.config p) (Some (put_entry t p (ask (entry_at t p) k)))
      (λ same. subst (λ (o : Option LockTable). is_serving o ≡ true) here on) on

  tables_entered : TablesAre (land c e n w) p (partition c.config p) a → TablesAre (land c e n entered_work) p (partition c.config p) a
  tables_entered old =
      record {
        tables = λ m.
            kept_node c e n acts w entered_work m (λ o. TableOf a p (partition c.config p) m o) (λ at. table_entered m (era_in w.node.view (partition c.config p))) (old.tables m);
        serving = λ on. kept_node c e n acts w entered_work a.owner (λ o. serves_in o (partition c.config p) ≡ true) (λ at. serves_entered) (old.serving on);
        era = era_landed c e n w entered_work (partition c.config p) a.era a.owner old.era;
      }

  same_told : SameTold c.config p (trace_of c e n w) (trace_of c e n entered_work)
  same_told = record { accesses = λ u. refl; now_same = refl }

  pub entered_related : IsWorkOf c e n p w a → IsWorkOf c e n p entered_work a
  unfolding land
  entered_related old =
      record {
        history = history_stays_law c e n p w entered_work a.hist (current a) same_told old.history;
        stored = stored_stays_law c e n p w entered_work a.disk a.log (λ disk log was. was) old.stored;
        copies = copies_stay_law c e n p w entered_work a.slot a.owner a.dirty acts refl old.copies;
        homes = homes_stay_law c e n p w entered_work (current a) a acts standing (life_self w.node.home) (use_self p w.node.home) same_told old.homes;
        nodes = nodes_stay_law c e n p (partition c.config p) a.era w entered_work a.right a.reached acts standing refl old.nodes;
        tables = tables_entered old.tables;
        links = links_stay_law c e n p (partition c.config p) w entered_work a acts standing refl (λ b. refl) old.links;
      }
    where
      standing : SameStanding w.node entered_work.node
      standing = record { config = refl; number = refl; epoch = refl; view = refl }

-- ---- a reply in front

-- an entry tells the same with a reply in front that tells nothing
front_same : (e : Event) (t : TxId) (q : ℕ) (rs : List Reply) (sent : List Sent)
    → moments_of (record { event = e; replies = reply.Waits t q ∷ rs; sent = sent; halted = None }) ≡ moments_of (record { event = e; replies = rs; sent = sent; halted = None })
unfolding moments_of
front_same e t q rs sent = refl

front_adds : (trace : List Entry) (e : Event) (t : TxId) (q : ℕ) (rs : List Reply) (sent : List Sent) → Adds (with_entry trace e rs sent) [] (with_entry trace e (reply.Waits t q ∷ rs) sent)
front_adds trace e t q rs sent =
    moments_more trace _ ∙ ap (λ ms. moments trace ++ ms) (front_same e t q rs sent) ∙ sym (moments_more trace _) ∙ sym (append-nil (moments (with_entry trace e rs sent)))

module _ (c : Cluster) (e : Event) (n p : ℕ) (acts : Acts c n) (quiet : (x y : ℕ) → delivers e x y ≡ false) (t : TxId) (q : ℕ) (w : Work) (a : Page) where
  abbrev fronted : Work
  fronted = record w { replies = reply.Waits t q ∷ w.replies }

  front_told : SameTold c.config p (trace_of c e n w) (trace_of c e n fronted)
  front_told = quiet_told c.config p (trace_of c e n w) (trace_of c e n fronted) (front_adds c.trace e t q w.replies (map (sent_by n) w.sends))

  front_coming : (x y : ℕ) → coming (land c e n fronted) p x y ≡ coming (land c e n w) p x y
  unfolding land
  front_coming x y =
      landed_coming c e n p fronted x y acts
      ∙ ap (λ (b : Bool). filter test (pick (b && is_taken fronted.replies) (tail_of (link_at c.links x y)) (link_at c.links x y) ++ out)) (quiet x y)
      ∙ sym (ap (λ (b : Bool). filter test (pick (b && is_taken w.replies) (tail_of (link_at c.links x y)) (link_at c.links x y) ++ out)) (quiet x y))
      ∙ sym (landed_coming c e n p w x y acts)
    where
      test : Message → Bool
      test = is_coming c.config p x (node_at (land c e n w) y)

      out : List Message
      out = pick (x == n && is_up c y) (sent_to y w.sends) []

  front_links : LinksAre (land c e n w) p (partition c.config p) a → LinksAre (land c e n fronted) p (partition c.config p) a
  front_links is =
      record {
        say = λ x y.
            message_same c e n p (partition c.config p) w fronted a x y (coming (land c e n fronted) p x y)
            (subst (AllByRecursion (MessageIs (land c e n w) p (partition c.config p) a x y)) (sym (front_coming x y)) (is.say x y));
        ordered = λ x y. subst (AreOrdered 0) (sym (front_coming x y)) (is.ordered x y);
        once = λ x y. subst AreOnce (sym (front_coming x y)) (is.once x y);
      }

  front_related : IsWorkOf c e n p w a → IsWorkOf c e n p fronted a
  unfolding land
  front_related old =
      record {
        history = history_stays_law c e n p w fronted a.hist (current a) front_told old.history;
        stored = stored_stays_law c e n p w fronted a.disk a.log (λ disk log was. was) old.stored;
        copies = copies_stay_law c e n p w fronted a.slot a.owner a.dirty acts refl old.copies;
        homes = homes_stay_law c e n p w fronted (current a) a acts (standing_self w.node) (life_self w.node.home) (use_self p w.node.home) front_told old.homes;
        nodes = nodes_stay_law c e n p (partition c.config p) a.era w fronted a.right a.reached acts (standing_self w.node) refl old.nodes;
        tables = tables_stay_law c e n p (partition c.config p) w fronted a acts (standing_self w.node) (entry_self p (table_at w.node (partition c.config p))) old.tables;
        links = front_links old.links;
      }

  -- where the transaction still waits
  pub waits_related : IsWorkOf c e n p w a → IsWorkOf c e n p (waits_first t q w) a
  waits_related old = by (is_some (pending_of w.node.home.txs t))
    where
      by : (b : Bool) → IsWorkOf c e n p (pick b fronted w) a
      by true = front_related old
      by false = old
