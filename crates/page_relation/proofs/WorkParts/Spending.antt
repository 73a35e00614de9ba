-- A right that is spent.
use Rattle.std.proofs.Common.{◌≡◌, ◌≢◌, refl, ap, sym, subst, ◌∙◌, ℕ, suc, ◌<◌, ◌==◌, ◌&&◌, Bool, true, false, List, Option, Some, None, arith, eqb-true}
use Rattle.std.specs.Prelude.{option_map}
use Rattle.std.proofs.lemmas.Bool.Decides.{nat_tests}
use Rattle.pcl_base.specs.declared.event.Event.{Event}
use Rattle.pcl_base.specs.declared.lock.Held.{Held}
use Rattle.pcl_base.specs.declared.lock.Kind.{Kind}
use Rattle.pcl_base.specs.declared.lock.Kind.TheVariants as kind
use Rattle.pcl_base.specs.declared.lock.Waiter.{Waiter}
use Rattle.pcl_base.specs.declared.message.Body.{Body}
use Rattle.pcl_base.specs.declared.message.Body.TheVariants as body
use Rattle.pcl_base.specs.declared.message.Report.{Report}
use Rattle.pcl_base.specs.declared.message.ReportWait.{ReportWait}
use Rattle.pcl_base.specs.declared.tx.Mode.{Mode}
use Rattle.pcl_base.specs.declared.tx.Mode.TheVariants.{Shared, Exclusive}
use Rattle.pcl_base.specs.declared.tx.TxId.{TxId}
use Rattle.node_rules.specs.InstallRule.{owned_before}
use Rattle.node_rules.specs.LockTable.{LockTable, entry_at}
use Rattle.node_rules.specs.NodeState.{NodeState, Run, partition, number_of, table_at}
use Rattle.node_rules.specs.OpenTxs.{held_by, pending_of, is_open}
use Rattle.node_rules.specs.Shelf as rules
use Rattle.node_rules.specs.Shelf.{right_on, readers_of}
use Rattle.node_rules.specs.Words.{among, pick}
use Rattle.node_rules.specs.Work.{Work, work_of_home}
use Rattle.node_laws.proofs.Lists.{all_weaker}
use Rattle.home_laws.specs.Homes.{is_right_lock}
use Rattle.cluster_rules.specs.Clusters.{Cluster, node_at, last_view, version_of_change}
use Rattle.cluster_laws.specs.Era.Eras.{era_at, era_in}
use Rattle.page_laws.proofs.EntryParts.Stepped.{one_list}
use Rattle.cluster_laws.specs.Link.Coming.{coming}
use Rattle.page_laws.specs.Look.Ends.{version_of_right}
use Rattle.page_laws.specs.Look.Grants.{IsSpent, of_kind}
use Rattle.page_laws.proofs.LookParts.Granting.{spending_is_seen_law}
use Rattle.page_protocol.specs.Authority.{registered, spending, IsReading, NamesAll}
use Rattle.page_protocol.specs.State.{Home, Fresh, Asking, Holding, HoldingAsks, Reading, ReadingAsks, Ended, Gone, Sent, Right, NoRight, Flying, Shelf, Returning, Dead, Page, current, IsFresh, IsClosed}
use Rattle.page_protocol.specs.State as machine
use Rattle.page_protocol.specs.Steps.{revokes}
use Rattle.page_relation.specs.Homes.{wait_on, stand_of, held_stand, shared_stand, Stands, StandsIn, KindFits, KindIn, image_of, ImageIn, runs_in, is_unborn}
use Rattle.page_relation.specs.Looks.{shelf_in, shelf_of}
use Rattle.page_relation.specs.Messages.{sent_of, IsTold, HasAsked, IsSent, CountsFor, WaitIs, ReportIs, SaysSo}
use Rattle.page_relation.specs.Relation.{HistoryIs, CopiesAre, HomesAre, on_shelf, NodesAre, TablesAre, LinksAre, MessageIs}
use Rattle.page_relation.specs.Tables.{WaiterIs, TableIs, TableIn, TableOf, ReachedIn}
use Rattle.page_laws.specs.Storage.Looks.{IsStored}
use Rattle.page_laws.specs.Written.Written.{DiffersWithin}
use Rattle.page_relation.specs.Work.Keeping.{IsWorkOf}
use Rattle.page_relation.specs.Work.Landing.{land, Acts}
use Rattle.page_relation.specs.Work.Spending.{spent, SpendsElsewhere, MaySpend, IsSpending, SpendingIsStep}
use Rattle.page_relation.specs.Work.Unseen.{SameStanding}
use Rattle.page_relation.proofs.WorkParts.Framing.{entry_self, history_stays_law, stored_stays_law, copies_stay_law, tables_stay_law, links_stay_law, reached_landed, reached_same}
use Rattle.page_relation.proofs.WorkParts.Naming.{names_used_law}
use Rattle.page_relation.proofs.WorkParts.Nodes.{at_node, changed_node, kept_node, stands_as, unborn_same}
use Rattle.page_relation.proofs.WorkParts.Quiet.{homes_elsewhere_law}

-- ---- where transactions stand

fresh_before : (h : Home) → IsFresh (registered h) → IsFresh h
fresh_before Fresh f = f
fresh_before (Asking m v) f = f
fresh_before (Holding m) f = f
fresh_before HoldingAsks f = f
fresh_before Reading f = f
fresh_before ReadingAsks f = f
fresh_before (Ended v e) f = f
fresh_before Gone f = f

fresh_after : (h : Home) → IsFresh h → IsFresh (registered h)
fresh_after Fresh f = f
fresh_after (Asking m v) f = f
fresh_after (Holding m) f = f
fresh_after HoldingAsks f = f
fresh_after Reading f = f
fresh_after ReadingAsks f = f
fresh_after (Ended v e) f = f
fresh_after Gone f = f

closed_after : (h : Home) → IsClosed h → IsClosed (registered h)
closed_after Fresh f = f
closed_after (Asking m v) f = f
closed_after (Holding m) f = f
closed_after HoldingAsks f = f
closed_after Reading f = absurd f
closed_after ReadingAsks f = absurd f
closed_after (Ended v e) f = f
closed_after Gone f = f

told_after : (have : Option ℕ) (h : Home) → IsTold have h → IsTold have (registered h)
told_after have Fresh f = f
told_after have (Asking m v) f = f
told_after have (Holding m) f = f
told_after have HoldingAsks f = f
told_after have Reading f = f
told_after have ReadingAsks f = f
told_after have (Ended v e) f = f
told_after have Gone f = f

image_after : (h : Home) (bytes : List ℕ) → image_of (registered h) bytes ≡ image_of h bytes
image_after Fresh bytes = refl
image_after (Asking m v) bytes = refl
image_after (Holding Shared) bytes = refl
image_after (Holding Exclusive) bytes = refl
image_after HoldingAsks bytes = refl
image_after Reading bytes = refl
image_after ReadingAsks bytes = refl
image_after (Ended v e) bytes = refl
image_after Gone bytes = refl

writer_before : (h : Home) → registered h ≡ Holding Exclusive → h ≡ Holding Exclusive
writer_before Fresh e = absurd (cc)
writer_before (Asking m v) e = absurd (cc)
writer_before (Holding m) e = e
writer_before HoldingAsks e = absurd (cc)
writer_before Reading e = absurd (cc)
writer_before ReadingAsks e = absurd (cc)
writer_before (Ended v f) e = absurd (cc)
writer_before Gone e = absurd (cc)

-- the lock of a reader has another kind
registered_lock : Bool → Option Held → Option Held
registered_lock b o = pick b (option_map (of_kind kind.Registered) o) o

shared_after : (k : Kind) (b : Bool) (w : Option Mode) → (is_right_lock (Some (record { page = 0; mode = Shared; kind = k })) ≡ true → b ≡ true)
    → registered (shared_stand k w) ≡ shared_stand (pick b kind.Registered k) w
shared_after kind.Own true None named = refl
shared_after kind.Own true (Some m) named = refl
shared_after kind.Own false None named = refl
shared_after kind.Own false (Some m) named = refl
shared_after kind.Registered true None named = refl
shared_after kind.Registered true (Some m) named = refl
shared_after kind.Registered false None named = refl
shared_after kind.Registered false (Some m) named = refl
shared_after kind.Right true None named = refl
shared_after kind.Right true (Some m) named = refl
shared_after kind.Right false None named = (let bad : false ≡ true = named refl in absurd (cc))
shared_after kind.Right false (Some m) named = (let bad : false ≡ true = named refl in absurd (cc))

stand_after : (b : Bool) (o : Option Held) (w : Option Mode) (have : Option ℕ) → (is_right_lock o ≡ true → b ≡ true) → registered (stand_of o w have) ≡ stand_of (registered_lock b o) w have
unfolding registered_lock
stand_after true None None have named = refl
stand_after true None (Some m) have named = refl
stand_after false None None have named = refl
stand_after false None (Some m) have named = refl
stand_after true (Some l) w have named = by l.mode
  where
    by : (m : Mode) → registered (held_stand m l.kind w) ≡ held_stand m kind.Registered w
    by Shared = shared_after l.kind true w (λ e. refl)
    by Exclusive = refl
stand_after false (Some l) w have named = by l.mode
  where
    by : (m : Mode) → registered (held_stand m l.kind w) ≡ held_stand m l.kind w
    by Shared = shared_after l.kind false w named
    by Exclusive = refl

stands_after : (o u b : Bool) (l : Option Held) (w : Option Mode) (h : Home) → (is_right_lock l ≡ true → b ≡ true) → Stands o u l w h → Stands o u (registered_lock b l) w (registered h)
stands_after true u b l w h named s = (s.0, ap registered s.1 ∙ stand_after b l w s.0 named)
stands_after false true b l w h named s = fresh_after h s
stands_after false false b l w h named s = closed_after h s

kind_after : (b own : Bool) (l : Option Held) → own ≡ false → KindFits own l → KindFits own (registered_lock b l)
unfolding registered_lock
kind_after true own None none fits = tt
kind_after true own (Some l) none fits = sym none
kind_after false own l none fits = fits

-- who reads under the right is named
reading_lock : (l : Option Held) (w : Option Mode) (have : Option ℕ) → IsReading (stand_of l w have) → is_right_lock l ≡ true
reading_lock None None have r = absurd r
reading_lock None (Some m) have r = absurd r
reading_lock (Some l) w have r = by l.mode l.kind w r
  where
    by : (m : Mode) (k : Kind) (w : Option Mode) → IsReading (held_stand m k w) → is_right_lock (Some (record { page = 0; mode = Shared; kind = k })) ≡ true
    by Exclusive k w r = absurd r
    by Shared kind.Own None r = absurd r
    by Shared kind.Own (Some m) r = absurd r
    by Shared kind.Registered None r = absurd r
    by Shared kind.Registered (Some m) r = absurd r
    by Shared kind.Right None r = refl
    by Shared kind.Right (Some m) r = refl

reading_fresh : (h : Home) → IsFresh h → IsReading h → ⊥
reading_fresh Fresh f r = r
reading_fresh (Asking m v) f r = f
reading_fresh (Holding m) f r = f
reading_fresh HoldingAsks f r = f
reading_fresh Reading f r = f
reading_fresh ReadingAsks f r = f
reading_fresh (Ended v e) f r = f
reading_fresh Gone f r = f

reading_closed : (h : Home) → IsClosed h → IsReading h → ⊥
reading_closed Fresh f r = r
reading_closed (Asking m v) f r = f
reading_closed (Holding m) f r = f
reading_closed HoldingAsks f r = f
reading_closed Reading f r = f
reading_closed ReadingAsks f r = f
reading_closed (Ended v e) f r = r
reading_closed Gone f r = r

reading_is : (o u : Bool) (l : Option Held) (w : Option Mode) (h : Home) → Stands o u l w h → IsReading h → is_right_lock l ≡ true
reading_is true u l w h s r = reading_lock l w s.0 (subst IsReading s.1 r)
reading_is false true l w h s r = absurd (reading_fresh h s r)
reading_is false false l w h s r = absurd (reading_closed h s r)

-- ---- the machine's state

module _ (a : Page) (n v : ℕ) (readers : List TxId) (shelf : a.right n ≡ Shelf v) where
  abbrev next : Page
  next = spending a n (suc a.era) readers

  home_here : (t : TxId) → t.node ≡ n → next.home t ≡ registered (a.home t)
  unfolding spending
  home_here t at = ap (λ (b : Bool). machine.pick b (registered (a.home t)) (a.home t)) (let is : (t.node == n) ≡ true = grind (arith, nat_tests, at) in is)

  home_there : (t : TxId) → (t.node == n) ≡ false → next.home t ≡ a.home t
  unfolding spending
  home_there t other = ap (λ (b : Bool). machine.pick b (registered (a.home t)) (a.home t)) other

  -- what holds of a home and of its registered one
  home_kept : (P : Home → Type 0) (t : TxId) → ((h : Home) → P h → P (registered h)) → P (a.home t) → P (next.home t)
  unfolding spending
  home_kept P t keeps old = by (t.node == n)
    where
      by : (b : Bool) → P (machine.pick b (registered (a.home t)) (a.home t))
      by true = keeps (a.home t) old
      by false = old

  pub right_here : next.right n ≡ Returning (suc a.era) readers
  unfolding spending
  right_here = ap (λ (b : Bool). machine.pick b (Returning (suc a.era) readers) (a.right n)) (let is : (n == n) ≡ true = grind (arith, nat_tests) in is)

  right_there : (m : ℕ) → (m == n) ≡ false → next.right m ≡ a.right m
  unfolding spending
  right_there m other = ap (λ (b : Bool). machine.pick b (Returning (suc a.era) readers) (a.right m)) other

  -- a right that is another one than the spent one is as before
  right_by : (m : ℕ) (P : Right → Type 0) → (m ≡ n → P (Returning (suc a.era) readers)) → P (a.right m) → P (next.right m)
  right_by m P own old = by (m == n) refl
    where
      by : (b : Bool) → (m == n) ≡ b → P (next.right m)
      by true same = let is : m ≡ n = eqb-true m n same in subst P (sym (ap next.right is ∙ right_here)) (own is)
      by false other = subst P (sym (right_there m other)) old

  asked_after : (r e : ℕ) (t : TxId) (have : Option ℕ) → HasAsked r e (a.home t) have → HasAsked r e (next.home t) have
  asked_after r e t have is =
      home_kept (λ h. HasAsked r e h have) t
      (λ h old. record { begun = λ f. old.begun (fresh_before h f); told = λ same. told_after have h (old.told same) }) is

  waiter_after : (e : ℕ) (w : Waiter) → WaiterIs a.reached a.home e w → WaiterIs next.reached next.home e w
  unfolding spending
  waiter_after e w is = asked_after (a.reached w.tx.node) e w.tx w.have is

  -- the tables
  served_after : (m e : ℕ) (t : LockTable) (p : ℕ) → TableIs a p m e true t → TableIs next p m e true t
  unfolding spending
  served_after m e t p is =
      record {
        serves = is.serves;
        here = is.here;
        now = is.now;
        version = is.version;
        holders = is.holders;
        rights = λ k out. is.rights k (not_none k out);
        waiting = all_weaker (WaiterIs a.reached a.home a.era) (WaiterIs a.reached next.home a.era) (λ w old. waiter_after a.era w old) (entry_at t p).waiting is.waiting;
        writers = is.writers;
      }
    where
      not_none : (k : ℕ) → next.right k ≢ NoRight → a.right k ≢ NoRight
      not_none k out none = by (k == n) refl
        where
          by : (b : Bool) → (k == n) ≡ b → ⊥
          by true same =
              let at : k ≡ n = eqb-true k n same in
              let bad : Shelf v ≡ NoRight = sym shelf ∙ ap a.right (sym at) ∙ none in
              absurd (cc)
          by false other = out (right_there k other ∙ none)

  rebuilt_after : (m e : ℕ) (t : LockTable) (p : ℕ) → TableIs a p m e false t → TableIs next p m e false t
  unfolding spending
  rebuilt_after m e t p is =
      record {
        later = is.later;
        reaches = is.reaches;
        holders = is.holders;
        rights = λ k on counts. is.rights k on (counted k counts);
        waiting = all_weaker (WaiterIs a.reached a.home e) (WaiterIs a.reached next.home e) (λ w old. waiter_after e w old) (entry_at t p).waiting is.waiting;
        writers = is.writers;
      }
    where
      counted : (k : ℕ) → CountsFor e (next.right k) → CountsFor e (a.right k)
      counted k counts = by (k == n) refl
        where
          by : (b : Bool) → (k == n) ≡ b → CountsFor e (a.right k)
          by true same =
              let at : k ≡ n = eqb-true k n same in
              let low : e < suc a.era = subst (CountsFor e) (ap next.right at ∙ right_here) counts in
              let later = is.later in
              absurd (omega (arith, low, later))
          by false other = subst (CountsFor e) (right_there k other) counts

  table_after : (m e p : ℕ) (o : Option LockTable) → TableIn a p m e o → TableIn next p m e o
  table_after m e p None is = tt
  table_after m e p (Some t) is = by t.serving is
    where
      by : (b : Bool) → TableIs a p m e b t → TableIs next p m e b t
      by true old = served_after m e t p old
      by false old = rebuilt_after m e t p old

  node_after : (p q m : ℕ) (o : Option NodeState) → TableOf a p q m o → TableOf next p q m o
  node_after p q m None is = tt
  node_after p q m (Some s) is = table_after m (era_in s.view q) p (table_at s q) is

  tables_after : (d : Cluster) (p q : ℕ) → TablesAre d p q a → TablesAre d p q next
  unfolding spending
  tables_after d p q is =
      record {
        tables = λ m. node_after p q m (node_at d m) (is.tables m);
        serving = is.serving;
        era = is.era;
      }

  -- the messages
  wait_after : (p e : ℕ) (w : ReportWait) → WaitIs a.reached a.home p e w → WaitIs next.reached next.home p e w
  unfolding spending
  wait_after p e w is at = asked_after (a.reached w.tx.node) e w.tx w.have (is at)

  sent_after : (g : Sent) (b : Bool) (to : ℕ) → IsSent b a.sent (a.right to) g → IsSent b a.sent (next.right to) g
  sent_after g true to is = right_by to (λ r. r ≡ Flying g) (λ at. let bad : Shelf v ≡ Flying g = sym shelf ∙ ap a.right (sym at) ∙ is in absurd (cc)) is
  sent_after g false to is = is

  report_after : (p from e : ℕ) (r : Report) → ReportIs a.era a.reached a.listed a.right a.home p from e r → ReportIs next.era next.reached next.listed next.right next.home p from e r
  unfolding spending
  report_after p from e r is =
      record {
        later = is.later;
        reaches = is.reaches;
        locks = is.locks;
        rights = λ counts. is.rights (counted counts);
        waits = all_weaker (WaitIs a.reached a.home p e) (WaitIs a.reached next.home p e) (λ w old. wait_after p e w old) r.waits is.waits;
      }
    where
      counted : CountsFor e (next.right from) → CountsFor e (a.right from)
      counted counts = by (from == n) refl
        where
          by : (b : Bool) → (from == n) ≡ b → CountsFor e (a.right from)
          by true same =
              let at : from ≡ n = eqb-true from n same in
              let low : e < suc a.era = subst (CountsFor e) (ap next.right at ∙ right_here) counts in
              let later = is.later in
              absurd (omega (arith, low, later))
          by false other = subst (CountsFor e) (right_there from other) counts

  says_after : (p from to e : ℕ) (b : Body) → SaysSo a.era a.hist a.reached a.listed a.right a.home a.sent p from to e b
      → SaysSo next.era next.hist next.reached next.listed next.right next.home next.sent p from to e b
  unfolding spending
  says_after p from to e (body.Request r) is = asked_after (a.reached r.tx.node) e r.tx r.have is
  says_after p from to e (body.Grant g) is = (is.0, λ now. sent_after (sent_of g) g.right to (is.1 now))
  says_after p from to e (body.Release r) is = (home_kept (λ h. h ≡ Ended (version_of_change r.change) e) r.tx (λ h old. ap registered old) is.0, is.1)
  says_after p from to e (body.Revoke page) is = is
  says_after p from to e (body.Return r) is = (
    is.0,
    λ now. right_by from (λ x. x ≡ Returning (suc a.era) r.readers) (λ at. let bad : Shelf v ≡ Returning (suc a.era) r.readers = sym shelf ∙ ap a.right (sym at) ∙ is.1 now in absurd (cc)) (is.1 now),
  )
  says_after p from to e (body.Report r) is = report_after p from e r is

  links_after : (d : Cluster) (p q : ℕ) → LinksAre d p q a → LinksAre d p q next
  links_after d p q is =
      record {
        say = λ from to.
            all_weaker (MessageIs d p q a from to) (MessageIs d p q next from to) (λ m old. says_after p from to (era_at d q m.epoch) m.body old) (coming d p from to) (is.say from to);
        ordered = is.ordered;
        once = is.once;
      }

  history_after : (d : Cluster) (p : ℕ) → HistoryIs d p a.hist (current a) → HistoryIs d p next.hist (current next)
  unfolding spending
  history_after d p is = is

  stored_after : (d : Cluster) (p : ℕ) → IsStored d.config d.disk p a.disk a.log → IsStored d.config d.disk p next.disk next.log
  unfolding spending
  stored_after d p is = is

  copies_after : (d : Cluster) (p : ℕ) → CopiesAre d p a.slot a.owner a.dirty → CopiesAre d p next.slot next.owner next.dirty
  unfolding spending
  copies_after d p is = is

-- ---- the node

pub own_page : (p : ℕ) → (p == p) ≡ true
own_page p = grind (arith, nat_tests)

-- what the readers' locks become
held_after : (p : ℕ) (w : Work) (t : TxId) → (is : IsSpent kind.Registered p w.node.home (spent p w).node.home)
    → held_by (spent p w).node.home.txs t p ≡ registered_lock (among (readers_of (right_on w.node.home.shelf p)) t) (held_by w.node.home.txs t p)
unfolding registered_lock
held_after p w t is =
    is.held t p
    ∙ ap (λ (b : Bool). pick (b && among (readers_of (right_on w.node.home.shelf p)) t) (option_map (of_kind kind.Registered) (held_by w.node.home.txs t p)) (held_by w.node.home.txs t p)) (own_page p)

pub spent_standing : (p : ℕ) (w : Work) → IsSpent kind.Registered p w.node.home (spent p w).node.home → SameStanding w.node (spent p w).node
spent_standing p w is = record { config = is.life.config; number = is.life.node; epoch = refl; view = refl }

module _ (c : Cluster) (e : Event) (n p : ℕ) (w : Work) (a : Page) (r : rules.Right) (acts : Acts c n) (may : MaySpend c n p w a r) (shelf : a.right n ≡ Shelf r.version) where
  seen : IsSpent kind.Registered p w.node.home (spent p w).node.home
  seen = spending_is_seen_law kind.Registered p w.node.home may.home

  abbrev after : Page
  after = spending a n (suc a.era) r.readers

  named : (t : TxId) → is_right_lock (held_by w.node.home.txs t p) ≡ true → among (readers_of (right_on w.node.home.shelf p)) t ≡ true
  named t right = seen.named t right

  stands_spent : (last : ℕ) (t : TxId) → t.node ≡ n → StandsIn last (Some w.node) t p (a.home t) → StandsIn last (Some (spent p w).node) t p (after.home t)
  stands_spent last t at old =
      subst (StandsIn last (Some (spent p w).node) t p) (sym (home_here a n r.version r.readers shelf t at))
      (stands_as (registered (a.home t)) (is_open w.node.home.txs t) (is_open (spent p w).node.home.txs t) (is_unborn w.node.view w.node t)
      (is_unborn (spent p w).node.view (spent p w).node t) (registered_lock (among (readers_of (right_on w.node.home.shelf p)) t) (held_by w.node.home.txs t p))
      (held_by (spent p w).node.home.txs t p) (wait_on (pending_of w.node.home.txs t) p) (wait_on (pending_of (spent p w).node.home.txs t) p) (seen.life.alive t)
      (unborn_same w.node (spent p w).node (spent_standing p w seen) t seen.life) (held_after p w t seen) (ap (λ o. wait_on o p) (seen.waits t))
      (stands_after (is_open w.node.home.txs t) (is_unborn w.node.view w.node t) (among (readers_of (right_on w.node.home.shelf p)) t) (held_by w.node.home.txs t p)
      (wait_on (pending_of w.node.home.txs t) p) (a.home t) (named t) old))

  kinds_spent : (t : TxId) → KindIn (Some w.node) t p → KindIn (Some (spent p w).node) t p
  kinds_spent t old =
      subst (λ (l : Option Held). KindFits (owned_before (spent p w).node.view (partition (spent p w).node.home.config p) (number_of (spent p w).node)) l) (sym (held_after p w t seen))
      (subst (λ (b : Bool). KindFits b (registered_lock (among (readers_of (right_on w.node.home.shelf p)) t) (held_by w.node.home.txs t p))) (sym own_same)
      (kind_after (among (readers_of (right_on w.node.home.shelf p)) t) (owned_before w.node.view (partition w.node.home.config p) (number_of w.node)) (held_by w.node.home.txs t p) may.not_own old))
    where
      own_same : owned_before (spent p w).node.view (partition (spent p w).node.home.config p) (number_of (spent p w).node) ≡ owned_before w.node.view (partition w.node.home.config p) (number_of w.node)
      own_same = (λ i. owned_before w.node.view (partition (seen.life.config i) p) (seen.life.node i))

  images_spent : (t : TxId) → t.node ≡ n → ImageIn (Some w.node) t p (a.home t) (a.image t) → ImageIn (Some (spent p w).node) t p (after.home t) (a.image t)
  images_spent t at old =
      seen.privates.bytes t p ∙ old
      ∙ sym (ap (λ (h : Home). image_of h (a.image t)) (home_here a n r.version r.readers shelf t at) ∙ image_after (a.home t) (a.image t))

  homes_spent : HomesAre (land c e n w) p (current a) a → HomesAre (land c e n (spent p w)) p (current after) after
  unfolding land spending
  homes_spent is =
      record {
        stands = λ t.
            by t (λ o. StandsIn (last_view c).epoch o t p (a.home t)) (λ o h. StandsIn (last_view c).epoch o t p h) (λ at. stands_spent (last_view c).epoch t at)
            (λ o old. old) (is.stands t);
        kinds = λ t. kept_node c e n acts w (spent p w) t.node (λ o. KindIn o t p) (λ at. kinds_spent t) (is.kinds t);
        scripts = is.scripts;
        images = λ t. by t (λ o. ImageIn o t p (a.home t) (a.image t)) (λ o h. ImageIn o t p h (a.image t)) (λ at. images_spent t at) (λ o old. old) (is.images t);
        written = λ t holds.
            kept_node c e n acts w (spent p w) t.node (λ o. DiffersWithin (runs_in o t p) (current a).bytes (a.image t))
            (λ at old. subst (λ (rs : List Run). DiffersWithin rs (current a).bytes (a.image t)) (sym (seen.privates.runs t p)) old) (is.written t (writer t holds));
      }
    where
      by : (t : TxId) (Q : Option NodeState → Type 0) (R : Option NodeState → Home → Type 0) → (t.node ≡ n → Q (Some w.node) → R (Some (spent p w).node) (after.home t))
          → ((o : Option NodeState) → Q o → R o (a.home t)) → Q (node_at (land c e n w) t.node) → R (node_at (land c e n (spent p w)) t.node) (after.home t)
      by t Q R ours theirs old =
          changed_node c e n acts w (spent p w) t.node Q (λ o. R o (after.home t)) ours
          (λ o other was. subst (R o) (sym (home_there a n r.version r.readers shelf t other)) (theirs o was)) old

      writer : (t : TxId) → after.home t ≡ Holding Exclusive → a.home t ≡ Holding Exclusive
      writer t holds = of (t.node == n) refl
        where
          of : (b : Bool) → (t.node == n) ≡ b → a.home t ≡ Holding Exclusive
          of true same = writer_before (a.home t) (sym (home_here a n r.version r.readers shelf t (eqb-true t.node n same)) ∙ holds)
          of false other = sym (home_there a n r.version r.readers shelf t other) ∙ holds

  reached_spent : (m : ℕ) → ReachedIn (land c e n w) (partition c.config p) a.era (node_at (land c e n w) m) (a.reached m)
      → ReachedIn (land c e n (spent p w)) (partition c.config p) after.era (node_at (land c e n (spent p w)) m) (after.reached m)
  unfolding spending
  reached_spent m old =
      (reached_landed c e n (spent p w) (partition c.config p) a.era (a.reached m) (node_at (land c e n (spent p w)) m)).1
      (kept_node c e n acts w (spent p w) m (λ o. ReachedIn c (partition c.config p) a.era o (a.reached m))
      (λ at old. reached_same c (partition c.config p) a.era (a.reached m) w.node (spent p w).node (spent_standing p w seen) old)
      ((reached_landed c e n w (partition c.config p) a.era (a.reached m) (node_at (land c e n w) m)).0 old))

  nodes_spent : NodesAre (land c e n w) p (partition c.config p) a.era a.right a.reached → NodesAre (land c e n (spent p w)) p (partition c.config p) after.era after.right after.reached
  unfolding shelf_of
  nodes_spent is =
      record {
        shelves = λ m.
            changed_node c e n acts w (spent p w) m (λ o. shelf_in o p ≡ on_shelf (a.right m)) (λ o. shelf_in o p ≡ on_shelf (after.right m))
            (λ at old. ap version_of_right (seen.right p ∙ ap (λ (b : Bool). pick b None (right_on w.node.home.shelf p)) (own_page p))
            ∙ sym (ap on_shelf (ap after.right at ∙ right_here a n r.version r.readers shelf)))
            (λ o other old. old ∙ sym (ap on_shelf (right_there a n r.version r.readers shelf m other)))
            (is.shelves m);
        eras = λ m. reached_spent m (is.eras m);
      }

  -- the names that are answered
  names_all : IsWorkOf c e n p w a → NamesAll a n r.readers
  unfolding land
  names_all is t at reads =
      one_list r.readers t
      ∙ ap (λ (o : Option rules.Right). among (readers_of o) t) (sym may.right)
      ∙ named t
      (reading_is (is_open w.node.home.txs t) (is_unborn w.node.view w.node t) (held_by w.node.home.txs t p) (wait_on (pending_of w.node.home.txs t) p) (a.home t)
      (at_node c e n acts w t.node (λ o. StandsIn (last_view c).epoch o t p (a.home t)) at (is.homes.stands t)) reads)

  spends : IsWorkOf c e n p w a → IsSpending c e n p w a r
  unfolding land
  spends is =
      record {
        step = revokes n r.version r.readers shelf may.reached (names_all is) (names_used_law c e n p w a r acts may.home may.right may.used is);
        related =
            record {
              history =
                  history_after a n r.version r.readers shelf (land c e n x) p
                  (history_stays_law c e n p w x a.hist (current a) (record { accesses = λ t. refl; now_same = refl }) is.history);
              stored = stored_after a n r.version r.readers shelf (land c e n x) p (stored_stays_law c e n p w x a.disk a.log (λ disk log old. old) is.stored);
              copies = copies_after a n r.version r.readers shelf (land c e n x) p (copies_stay_law c e n p w x a.slot a.owner a.dirty acts (seen.copies p) is.copies);
              homes = homes_spent is.homes;
              nodes = nodes_spent is.nodes;
              tables =
                  tables_after a n r.version r.readers shelf (land c e n x) p (partition c.config p)
                  (tables_stay_law c e n p (partition c.config p) w x a acts (spent_standing p w seen) (entry_self p (table_at w.node (partition c.config p))) is.tables);
              links =
                  links_after a n r.version r.readers shelf (land c e n x) p (partition c.config p)
                  (links_stay_law c e n p (partition c.config p) w x a acts (spent_standing p w seen) refl (λ b. refl) is.links);
            };
      }
    where
      x : Work
      x = spent p w

-- a right on the shelf is the machine's
shelf_right : (x : Right) (v : ℕ) → Some v ≡ on_shelf x → x ≡ Shelf v
shelf_right NoRight v e = absurd (cc)
shelf_right (Flying g) v e = absurd (cc)
shelf_right (Shelf k) v e = let same : v ≡ k = cc in ap Shelf (sym same)
shelf_right (Returning upto readers) v e = absurd (cc)
shelf_right Dead v e = absurd (cc)

pub shelf_is : (c : Cluster) (e : Event) (n p : ℕ) (w : Work) (a : Page) (r : rules.Right) → Acts c n → right_on w.node.home.shelf p ≡ Some r → IsWorkOf c e n p w a → a.right n ≡ Shelf r.version
unfolding shelf_of
shelf_is c e n p w a r acts there is =
    shelf_right (a.right n) r.version
    (sym (ap version_of_right there) ∙ at_node c e n acts w n (λ o. shelf_in o p ≡ on_shelf (a.right n)) refl (is.nodes.shelves n))

pub spending_is_step_law : SpendingIsStep
spending_is_step_law c e n p w a r acts may is = spends c e n p w a r acts may (shelf_is c e n p w a r acts may.right is) is

pub spends_elsewhere_law : SpendsElsewhere
spends_elsewhere_law c e n p q w home other =
    homes_elsewhere_law c e n p w (work_of_home (spent q w)) seen.life
    (record {
      uses =
          record {
            held = λ t. seen.held t p ∙ ap (λ (b : Bool). pick (b && among (readers_of (right_on w.node.home.shelf q)) t) (option_map (of_kind kind.Registered) (held_by w.node.home.txs t p)) (held_by w.node.home.txs t p)) turned;
            waits = λ t. ap (λ o. wait_on o p) (seen.waits t);
            bytes = λ t. seen.privates.bytes t p;
            runs = λ t. seen.privates.runs t p;
          };
      copy = seen.copies p;
      right = ap version_of_right (seen.right p ∙ ap (λ (b : Bool). pick b None (right_on w.node.home.shelf p)) other);
    })
    (λ disk log is. is)
  where
    seen : IsSpent kind.Registered q w.node.home (spent q w).node.home
    seen = spending_is_seen_law kind.Registered q w.node.home home

    turned : (p == q) ≡ false
    turned = by (p == q) refl
      where
        by : (b : Bool) → (p == q) ≡ b → b ≡ false
        by true same = absurd (let is : p ≡ q = eqb-true p q same in grind (arith, nat_tests, other, is))
        by false is = refl
