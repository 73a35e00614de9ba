-- What the facts of a cluster say of a table that is being rebuilt, and of a report that comes to it.
use Rattle.std.proofs.Common.{◌≡◌, refl, ap, sym, subst, ℕ, ◌<◌, true, false, List, [], Option, Some, None, is_some}
use Rattle.std.specs.Prelude.{IfSome}
use Rattle.std.specs.List.{AllByRecursion}
use Rattle.std.proofs.lemmas.Nat.{mod_below}
use Rattle.pcl_base.specs.Limits.{Sizes}
use Rattle.pcl_base.specs.declared.event.Event.{Event}
use Rattle.pcl_base.specs.declared.message.Body.TheVariants as body
use Rattle.pcl_base.specs.declared.message.Message.{Message}
use Rattle.pcl_base.specs.declared.message.Report.{Report}
use Rattle.pcl_base.specs.declared.tx.TxId.{TxId}
use Rattle.run_rules.specs.Views.{View, since_of}
use Rattle.node_rules.specs.LockTable.{LockTable, entry_at, marked}
use Rattle.node_rules.specs.NodeState.{NodeState, partition, table_at}
use Rattle.cluster_rules.specs.Clusters.{Cluster, node_at}
use Rattle.cluster_rules.specs.Links.{link_at}
use Rattle.cluster_laws.specs.Sound.{IsMember}
use Rattle.cluster_laws.proofs.Steps.{up_is_member_law}
use Rattle.cluster_laws.specs.Era.Counts.{counts_in}
use Rattle.cluster_laws.specs.Era.Eras.{era_at, era_in, life_in, life_of}
use Rattle.cluster_laws.specs.Link.Coming.{Stands}
use Rattle.page_laws.specs.Look.Ends.{version_of_right}
use Rattle.page_laws.specs.Moment.Looks.{accesses_in}
use Rattle.page_protocol.specs.State.{Page}
use Rattle.page_relation.specs.Looks.{shelf_in}
use Rattle.page_relation.specs.Work.Events.{IsEntered}
use Rattle.page_relation.specs.Work.Keeping.{Leads}
use Rattle.page_relation.specs.Work.Taken.{taken_of}
use Rattle.settle_relation.specs.Arriving.{IsTakenIn}
use Rattle.settle_relation.proofs.Requesting.{said}
use Rattle.report_relation.specs.Completing.{IsReady, NewHaveNoRight}
use Rattle.report_relation.specs.Gathering.{NoneIsAhead, gathered}
use Rattle.report_relation.specs.Serving.{HasWhole}
use Rattle.report_relation.specs.Completion.Completed.{CanBeWhole}
use Rattle.report_relation.specs.Completion.Reported.{IsAwaiting, MayTake}
use Rattle.related_runs.specs.Parties.{TablesLiving, WaitLiving}
use Rattle.related_runs.specs.RunLaws.{IsOfRun}
use Rattle.report_relation.specs.Bury.Gathered.{IsKnownAt, IsReportOf}
use Rattle.report_relation.specs.Bury.Past.{HoldersLive, OthersLive}
use Rattle.report_relation.specs.Bury.Whole.{WaitsFor}
use Rattle.report_relation.proofs.BuryParts.Awaiting.{gathered_is_whole_law, nobody_is_ahead_of_it_law}
use Rattle.report_relation.proofs.BuryParts.Joined.{waiters_are_known_law}
use Rattle.cluster_facts.specs.Known.Births.{KnownBirth}
use Rattle.cluster_facts.proofs.TableParts.Standing.{holders_are_living_law}
use Rattle.cluster_facts.specs.Reports.ReportLaws.{IsAwaited}
use Rattle.cluster_facts.proofs.ReportsParts.Awaited.{reports_are_awaited_law}
use Rattle.cluster_facts.proofs.ReportsParts.NoRights.{unviewed_have_no_right_law}
use Rattle.cluster_facts.specs.Facts.{HaveFacts}
use Rattle.whole_runs.specs.Report.Known.{ReportsMayBeTaken, TablesAreKnown}

module _ (blank : List ℕ) (c : Cluster) (is : IsOfRun blank c) (facts : HaveFacts c) where
  -- a node in no view has no right of a page
  quiet : (p : ℕ) → NewHaveNoRight c p
  quiet p m s up unseen = ap version_of_right (unviewed_have_no_right_law c m p s facts.unviewed up unseen)

  module _ (p : ℕ) (low : p < c.config.pages) where
    abbrev q : ℕ
    q = partition c.config p

    inside : partition c.config p < c.config.nodes
    inside = mod_below p c.config.nodes is.related.cluster.limits.some_nodes

    -- whoever holds it in a table is of a life there
    holders : (n : ℕ) (s : NodeState) (v : View) (t : LockTable) → node_at c n ≡ Some s → s.view ≡ Some v → table_at s q ≡ Some t → HoldersLive v t p
    holders n s v t up view there = holders_are_living_law c p n s v t is.related.cluster facts.tables (record { up = up; view = view; table = there })

    others : (n : ℕ) → OthersLive c n p
    others n m s v t other up view there = holders m s v t up view there

    -- a table of it that is being rebuilt
    module _ (n : ℕ) (s : NodeState) (v : View) (t : LockTable) (up : node_at c n ≡ Some s) (view : s.view ≡ Some v) (there : table_at s (partition c.config p) ≡ Some t) (off : t.serving ≡ false) where
      abbrev era : ℕ
      era = since_of v q

      own_era : era_in s.view q ≡ era
      own_era = ap (λ (o : Option View). era_in o q) view

      users : (u : TxId) → (accesses_in u p c.trace ≡ [] → ⊥) → u.born < era
      users u used = subst (λ (k : ℕ). u.born < k) own_era ((facts.births.accessed u p low used).rebuilt n s t up there off)

      life_is : (x : NodeState) (o : Option View) → x.view ≡ o → is_some o ≡ true → life_of x ≡ x.home.txs.born
      life_is x None seen some = absurd (cc)
      life_is x (Some u) seen some = ap (life_in x) seen

      readers : (m : ℕ) (x : NodeState) → node_at c m ≡ Some x → (shelf_in (Some x) p ≡ None → ⊥) → life_of x < era
      readers m x at right = subst (λ (k : ℕ). k < era) (sym (life_is x x.view refl known.0)) (subst (λ (k : ℕ). x.home.txs.born < k) own_era (known.1.rebuilt n s t up there off))
        where
          known : (is_some x.view ≡ true) × KnownBirth c (partition c.config p) x.home.txs.born
          known = facts.births.shelves m x p at low (λ none. right (ap version_of_right none))

      awaited : (from : ℕ) (m : Message) (r : Report) → Stands (link_at c.links from n) m → m.body ≡ body.Report r → r.partition ≡ q → counts_in (Some s) from q m.epoch ≡ true → era_at c q m.epoch ≡ era
          → (from ≡ n → ⊥) × (marked t from ≡ false)
      awaited from m r stands at same counts now =
          let known : IsAwaited v t q n from m.epoch =
          reports_are_awaited_law c n s v q t from m r is.related.cluster is.related.parties facts.reports up view inside there off stands at same counts now in
          (known.other, known.unmarked)

      member : IsMember c.config c.views n s
      member = (up_is_member_law c n s is.related.cluster up).1

      living : WaitLiving v t
      living =
          subst (λ (o : Option LockTable). IfSome o (WaitLiving v)) there
          ((subst (λ (o : Option View). IfSome o (λ u. (k : ℕ) → k < s.home.config.nodes → IfSome (table_at s k) (WaitLiving u))) view
          (subst (λ (o : Option NodeState). IfSome o TablesLiving) up (is.living n))) q (subst (λ (k : Sizes). partition c.config p < k.nodes) (sym member.config) inside))

      waiting : AllByRecursion (WaitsFor v t era) (entry_at t p).waiting
      waiting = waiters_are_known_law v t p era living (facts.marked n s v q t up view inside there off)

      pub known_at : IsKnownAt c n p s v t
      known_at =
          record {
            own = (facts.reports.reached n s v q t up view inside there off).own;
            holders = holders n s v t up view there;
            others = others n;
            users = users;
            readers = readers;
            awaited = awaited;
            waiting = waiting;
          }

pub tables_are_known_law : TablesAreKnown
tables_are_known_law blank c is facts n p s v t low up view there off = known_at blank c is facts p low n s v t up view there off

-- a report that is taken
module _ (blank : List ℕ) (c : Cluster) (is : IsOfRun blank c) (facts : HaveFacts c) (e : Event) (n p from : ℕ) (s : NodeState) (m : Message) (r : Report) (a : Page)
    (i : IsTakenIn c e n p from s m blank a) (report : m.body ≡ body.Report r) where
  -- the view of the node
  viewed : (v : View) × (s.view ≡ Some v)
  viewed = let in_view = (said c e n p from s m blank a i) in (in_view.view, in_view.in_view)

  module _ (t : LockTable) (awaits : IsAwaiting s r t) (at : r.partition ≡ partition c.config p) where
    there : table_at s (partition c.config p) ≡ Some t
    there = subst (λ (k : ℕ). table_at s k ≡ Some t) at awaits.there

    known : IsKnownAt c n p s viewed.0 t
    known = known_at blank c is facts p i.below n s viewed.0 t i.handed.up viewed.1 there awaits.rebuilt

    comes : IsReportOf c e n p from s m r viewed.0 t blank a
    comes =
        record {
          taken = i;
          parties = is.related.parties;
          report = report;
          own = at;
          inside = inside blank c is facts p i.below;
          view = viewed.1;
          there = there;
          rebuilt = awaits.rebuilt;
        }

    behind : NoneIsAhead a.listed (era_in s.view r.partition) p t
    behind =
        subst (λ (k : ℕ). NoneIsAhead a.listed (era_in s.view k) p t) (sym at) (nobody_is_ahead_of_it_law c e n p from s m r viewed.0 t blank a comes known)

    whole_of : (u : View) (k : LockTable)
        → Leads c e n p (λ x b. IsEntered b × HasWhole c e n p (partition c.config p) (since_of u (partition c.config p)) x k b) a (gathered (partition c.config p) t from r (taken_of c s))
        → CanBeWhole c e n p (partition c.config p) (gathered (partition c.config p) t from r (taken_of c s)) u k a
    whole_of u k led = record { page = led.page; run = led.run; related = led.related; entered = led.known.0; whole = led.known.1 }

    whole : (u : View) (k : LockTable) → IsReady c n r.partition (gathered r.partition t from r (taken_of c s)) u k
        → CanBeWhole c e n p r.partition (gathered r.partition t from r (taken_of c s)) u k a
    whole u k =
        subst (λ (j : ℕ). IsReady c n j (gathered j t from r (taken_of c s)) u k → CanBeWhole c e n p j (gathered j t from r (taken_of c s)) u k a) (sym at)
        (λ ready. whole_of u k (gathered_is_whole_law c e n p from s m r viewed.0 t blank a u k comes known ready))

  pub may_take : MayTake c e n p from s r a
  may_take = record { quiet = quiet blank c is facts p; behind = λ t awaits at. behind t awaits at; whole = λ t awaits u k at. whole t awaits at u k }

pub reports_may_be_taken_law : ReportsMayBeTaken
reports_may_be_taken_law blank c is facts e n p from s m r a i report = may_take blank c is facts e n p from s m r a i report
