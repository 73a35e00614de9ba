-- An entry that is changed and then settled.
use Rattle.std.proofs.Common.{◌≡◌, inl, inr, refl, ap, sym, subst, ◌∙◌, ℕ, ◌<◌, ◌==◌, Bool, true, false, List, Option, Some, None, eqb-true}
use Rattle.std.specs.List.{AllByRecursion}
use Rattle.pcl_base.specs.Limits.{Sizes}
use Rattle.pcl_base.specs.declared.event.Event.{Event}
use Rattle.pcl_base.specs.declared.lock.Waiter.{Waiter}
use Rattle.text_rules.specs.MessageBytes.{IsPage}
use Rattle.node_rules.specs.LockRule.{LockEntry, ask, has_right, mode_of}
use Rattle.node_rules.specs.LockTable.{LockTable, entry_at, put_entry}
use Rattle.node_rules.specs.NodeState.{is_serving, partition, table_at, table_of}
use Rattle.node_rules.specs.OwnerRule.{enter, enter_in, with_table}
use Rattle.node_rules.specs.Work.{Goes, Work}
use Rattle.node_laws.specs.Nodes.{IsEntry}
use Rattle.node_laws.proofs.Pages.{entry_there}
use Rattle.node_laws.proofs.Works.{Base}
use Rattle.cluster_rules.specs.Clusters.{Cluster}
use Rattle.page_laws.specs.Entry.Looks.{IsAsked}
use Rattle.page_laws.proofs.EntryParts.Looked.{asking_is_seen_law}
use Rattle.page_laws.proofs.EntryParts.Words.{all_from, all_in}
use Rattle.page_laws.proofs.EntryParts.Writers.{asked_keeps}
use Rattle.cluster_laws.specs.Era.Eras.{era_in}
use Rattle.cluster_laws.specs.Link.EpochLaws.{IsInOrder}
use Rattle.page_protocol.specs.State.{Page, current}
use Rattle.page_protocol.specs.Steps.{Reached, here}
use Rattle.page_relation.specs.Messages.{HasAsked}
use Rattle.page_relation.specs.Relation.{TablesAre}
use Rattle.page_relation.specs.Tables.{IsServed, IsRebuilt, TableIs, TableIn, TableOf, WaiterIs, serves_in}
use Rattle.page_relation.specs.Work.Events.{IsEntered}
use Rattle.page_relation.specs.Work.Keeping.{IsWorkOf, Leads}
use Rattle.page_relation.specs.Work.Landing.{land, Acts}
use Rattle.page_relation.specs.Work.Unseen.{SameStanding}
use Rattle.page_relation.proofs.WorkParts.Framing.{unseen_is_kept_law, life_self, use_self, history_stays_law, stored_stays_law, copies_stay_law, homes_stay_law, nodes_stay_law, links_stay_law}
use Rattle.page_relation.proofs.WorkParts.Kept.{leads_on, reached_on}
use Rattle.page_relation.proofs.WorkParts.Nodes.{kept_node}
use Rattle.settle_relation.specs.Deciding.{rewound}
use Rattle.settle_relation.proofs.Carrying.{entry_midway}
use Rattle.settle_relation.proofs.Deciding.{era_landed, put_there, put_here}
use Rattle.settle_relation.proofs.Elsewhere.{enter_on}
use Rattle.settle_relation.proofs.Midway.{IsMidway}
use Rattle.settle_relation.proofs.Turns.{IsBetween, settle_keeps}

-- ---- another entry of the page, with the same state

module _ (c : Cluster) (e : Event) (n p : ℕ) (acts : Acts c n) (t : LockTable) (x : LockEntry) (w : Work) (a : Page) where
  abbrev q : ℕ
  q = partition c.config p

  abbrev z : Work
  z = rewound q t p x w

  standing : SameStanding w.node z.node
  standing = record { config = refl; number = refl; epoch = refl; view = refl }

  tables_with : table_at w.node q ≡ Some t → (TableIs a p n (era_in w.node.view q) t.serving t → TableIs a p n (era_in w.node.view q) t.serving (put_entry t p x))
      → TablesAre (land c e n w) p q a → TablesAre (land c e n z) p q a
  tables_with at fits is =
      record {
        tables = λ m. kept_node c e n acts w z m (λ o. TableOf a p q m o) (λ same old. ours m same old) (is.tables m);
        serving = λ on. kept_node c e n acts w z a.owner (λ o. serves_in o q ≡ true) (λ same old. ap is_serving there ∙ sym (ap is_serving at) ∙ old) (is.serving on);
        era = era_landed c e n w z q a.era a.owner is.era;
      }
    where
      there : table_at z.node q ≡ Some (put_entry t p x)
      there = put_there w.node.tables q t (Some (put_entry t p x)) at

      ours : (m : ℕ) → m ≡ n → TableOf a p q m (Some w.node) → TableOf a p q m (Some z.node)
      ours m same old =
          subst (λ (k : ℕ). TableOf a p q k (Some z.node)) (sym same)
          (subst (λ (o : Option LockTable). TableIn a p n (era_in w.node.view q) o) (sym there)
          (fits (subst (λ (o : Option LockTable). TableIn a p n (era_in w.node.view q) o) at (subst (λ (k : ℕ). TableOf a p q k (Some w.node)) same old))))

  entry_with : table_at w.node q ≡ Some t → (TableIs a p n (era_in w.node.view q) t.serving t → TableIs a p n (era_in w.node.view q) t.serving (put_entry t p x))
      → IsWorkOf c e n p w a → IsWorkOf c e n p z a
  unfolding land
  entry_with at fits is =
      record {
        history = history_stays_law c e n p w z a.hist (current a) (record { accesses = λ v. refl; now_same = refl }) is.history;
        stored = stored_stays_law c e n p w z a.disk a.log (λ disk log old. old) is.stored;
        copies = copies_stay_law c e n p w z a.slot a.owner a.dirty acts refl is.copies;
        homes = homes_stay_law c e n p w z (current a) a acts standing (life_self w.node.home) (use_self p w.node.home) (record { accesses = λ v. refl; now_same = refl }) is.homes;
        nodes = nodes_stay_law c e n p q a.era w z a.right a.reached acts standing refl is.nodes;
        tables = tables_with at fits is.tables;
        links = links_stay_law c e n p q w z a acts standing refl (λ m. refl) is.links;
      }

  -- the same by the node's own sizes
  pub table_with : w.node.home.config ≡ c.config → table_of w.node p ≡ Some t
      → (TableIs a p n (era_in w.node.view q) t.serving t → TableIs a p n (era_in w.node.view q) t.serving (put_entry t p x)) → IsWorkOf c e n p w a
      → IsWorkOf c e n p (with_table p (put_entry t p x) w) a
  table_with config there fits is =
      subst (λ (k : ℕ). IsWorkOf c e n p (rewound k t p x w) a) (ap (λ (k : Sizes). partition k p) (sym config))
      (entry_with (ap (λ (k : Sizes). table_at w.node (partition k p)) (sym config) ∙ there) fits is)

-- ---- a transaction that asked waits

waiters_more : (P : Waiter → Type 0) (e later : LockEntry) (w : Waiter) → IsAsked e w later → P w → AllByRecursion P e.waiting → AllByRecursion P later.waiting
waiters_more P e later w is new all =
    all_from P later.waiting
    (λ x inside. elim (is.waiting x inside) [ inl old ↦ all_in P e.waiting x all old | inr same ↦ subst P (sym same) new ])

asked_table : (a : Page) (p n e : ℕ) (t : LockTable) (w : Waiter) → HasAsked (a.reached w.tx.node) e (a.home w.tx) w.have → (d : Bool)
    → TableIs a p n e d t → TableIs a p n e d (put_entry t p (ask (entry_at t p) w))
asked_table a p n e t w asked true is =
    subst (IsServed a.served a.owner a.era a.entry a.listed a.right a.reached a.home n e) (sym (put_here t p (ask (entry_at t p) w)))
    (record {
      serves = is.serves;
      here = is.here;
      now = is.now;
      version = seen.version ∙ is.version;
      holders = λ u. ap (λ hs. mode_of hs u) seen.holders ∙ is.holders u;
      rights = λ m out. ap (λ rs. has_right rs m) seen.rights ∙ is.rights m out;
      waiting =
          waiters_more (WaiterIs a.reached a.home a.era) (entry_at t p) (ask (entry_at t p) w) w seen
          (subst (λ (k : ℕ). HasAsked (a.reached w.tx.node) k (a.home w.tx) w.have) is.now asked) is.waiting;
      writers = asked_keeps (entry_at t p) w (ask (entry_at t p) w) seen is.writers;
    })
  where
    seen : IsAsked (entry_at t p) w (ask (entry_at t p) w)
    seen = asking_is_seen_law (entry_at t p) w
asked_table a p n e t w asked false is =
    subst (IsRebuilt a.era a.listed a.right a.reached a.home e (put_entry t p (ask (entry_at t p) w))) (sym (put_here t p (ask (entry_at t p) w)))
    (record {
      later = is.later;
      reaches = is.reaches;
      holders = λ u. ap (λ hs. mode_of hs u) seen.holders ∙ is.holders u;
      rights = λ m on counts. ap (λ rs. has_right rs m) seen.rights ∙ is.rights m on counts;
      waiting = waiters_more (WaiterIs a.reached a.home e) (entry_at t p) (ask (entry_at t p) w) w seen asked is.waiting;
      writers = asked_keeps (entry_at t p) w (ask (entry_at t p) w) seen is.writers;
    })
  where
    seen : IsAsked (entry_at t p) w (ask (entry_at t p) w)
    seen = asking_is_seen_law (entry_at t p) w

-- its page's entry with it
pub asked_related : (c : Cluster) (e : Event) (n p : ℕ) (t : LockTable) (v : Waiter) (w : Work) (a : Page) → Acts c n → w.node.home.config ≡ c.config → table_of w.node p ≡ Some t
    → HasAsked (a.reached v.tx.node) (era_in w.node.view (partition c.config p)) (a.home v.tx) v.have → IsWorkOf c e n p w a
    → IsWorkOf c e n p (with_table p (put_entry t p (ask (entry_at t p) v)) w) a
asked_related c e n p t v w a acts config there asked is =
    table_with c e n p acts t (ask (entry_at t p) v) w a config there (asked_table a p n (era_in w.node.view (partition c.config p)) t v asked t.serving) is

-- ---- an entry that is changed, and then the page is settled

module _ (b : Base) (c : Cluster) (e : Event) (n p : ℕ) (acts : Acts c n) (order : IsInOrder c) (low : p < c.config.pages) (r : ℕ) (inside : r < c.config.pages) (f : LockEntry → LockEntry) (each : (x : LockEntry) → IsEntry b.config b.number x → IsEntry b.config b.number (f x)) where
  -- where there is a table, and the work with the entry has a state in which no dirty copy is newer than it
  pub entered_leads : (blank : List ℕ) (w z : Work) (a : Page) (t : LockTable) → Reached blank a → IsMidway b c e n w → table_of w.node r ≡ Some t
      → Leads c e n p (λ k d. IsEntered d) a (with_table r (put_entry t r (f (entry_at t r))) w) → enter f r w ≡ Goes z → Leads c e n p (IsBetween b c e n) a z
  unfolding enter
  entered_leads blank w z a t reached i there first goes =
      leads_on c e n p (IsBetween b c e n) a first.page z first.run
      (settle_keeps b c e n p acts order low r inside blank (with_table r (put_entry t r (f (entry_at t r))) w) z first.page (reached_on blank a first.page reached first.run)
      first.related (entry_midway b c e n r within t (f (entry_at t r)) w there (each (entry_at t r) (entry_there b i.base r within t w there i.good)) i, first.known)
      (sym (ap (λ (o : Option LockTable). enter_in f r o w) there) ∙ goes))
    where
      within : IsPage b.config r
      within = subst (λ (k : Sizes). r < k.pages) (sym i.config) inside

  -- where the page's own entry leads to a state that the work with it has
  pub enter_leads : (blank : List ℕ) (w z : Work) (a : Page) → Reached blank a → IsWorkOf c e n p w a → IsBetween b c e n w a
      → ((t : LockTable) → r ≡ p → table_of w.node r ≡ Some t → Leads c e n p (λ k d. IsEntered d) a (with_table r (put_entry t r (f (entry_at t r))) w))
      → enter f r w ≡ Goes z → Leads c e n p (IsBetween b c e n) a z
  unfolding enter
  enter_leads blank w z a reached related known step goes = by (r == p) refl
    where
      within : IsPage b.config r
      within = subst (λ (k : Sizes). r < k.pages) (sym known.0.config) inside

      of : r ≡ p → (o : Option LockTable) → table_of w.node r ≡ o → enter_in f r o w ≡ Goes z → Leads c e n p (IsBetween b c e n) a z
      of at None there done =
          let same : w ≡ z = cc in
          subst (Leads c e n p (IsBetween b c e n) a) same (record { page = a; run = here; related = related; known = known })
      of at (Some t) there done = entered_leads blank w z a t reached known.0 there (step t at there) goes

      by : (d : Bool) → (r == p) ≡ d → Leads c e n p (IsBetween b c e n) a z
      by true at = of (eqb-true r p at) (table_of w.node r) refl goes
      by false other =
          let is = enter_on b c e n p r within f each w z known.0 goes in
          record { page = a; run = here; related = unseen_is_kept_law c e n p w z a acts (is.unseen other) related; known = (is.midway, known.1) }
