-- A report that is put into a table that is being rebuilt: what is known of the work then.
use Rattle.std.proofs.Common.{◌≡◌, ◌⊎◌, inl, inr, refl, ap, sym, subst, ◌∙◌, ℕ, ◌<◌, ◌==◌, ◌&&◌, ◌||◌, nat_lt, length, Bool, true, false, List, [], ◌∷◌, Option, Some, None, arith, eqb-true}
use Rattle.std.specs.List.{AllByRecursion, filter}
use Rattle.std.specs.Prelude.{IfSome}
use Rattle.std.proofs.lemmas.Bool.Decides.{nat_tests}
use Rattle.pcl_base.specs.Limits.{Sizes}
use Rattle.pcl_base.specs.declared.event.Event.{Event}
use Rattle.pcl_base.specs.declared.message.Body.{Body}
use Rattle.pcl_base.specs.declared.message.Body.TheVariants as body
use Rattle.pcl_base.specs.declared.message.Message.{Message}
use Rattle.pcl_base.specs.declared.message.Report.{Report}
use Rattle.pcl_base.specs.declared.message.ReportLock.{ReportLock}
use Rattle.pcl_base.specs.declared.tx.Mode.{Mode}
use Rattle.pcl_base.specs.declared.tx.TxId.{TxId}
use Rattle.run_rules.specs.Views.{View, since_of}
use Rattle.rule_laws.proofs.Turns.{same_equal}
use Rattle.node_rules.specs.LockRule.{mode_of}
use Rattle.node_rules.specs.LockTable.{LockTable, entry_at, marked}
use Rattle.node_rules.specs.NodeState.{NodeState, Deliver, number_of, partition}
use Rattle.node_rules.specs.Reports.{gather}
use Rattle.node_rules.specs.Words.{or_else, pick, same_tx}
use Rattle.node_rules.specs.Work.{Work}
use Rattle.node_laws.specs.Nodes.{IsOther, IsTable}
use Rattle.cluster_rules.specs.Clusters.{Cluster, node_at, view_of_epoch}
use Rattle.cluster_rules.specs.ClusterStep.{is_taken}
use Rattle.cluster_rules.specs.Links.{link_at, tail_of}
use Rattle.cluster_laws.proofs.Steps.{events_can_come_law}
use Rattle.page_laws.specs.Entry.Tables.{ReportIsSeen, mode_listed}
use Rattle.page_laws.proofs.EntryParts.Gathered.{gathering_is_seen_law}
use Rattle.cluster_laws.specs.Era.Counts.{counts_in}
use Rattle.cluster_laws.specs.Era.Eras.{era_at, era_in}
use Rattle.cluster_laws.proofs.EraParts.Ages.{era_is}
use Rattle.kept_relation.proofs.Purged.{put_there}
use Rattle.cluster_laws.specs.Link.Coming.{Stands, coming, delivers, is_coming, speaks_of}
use Rattle.cluster_laws.specs.Link.Orders.{AreOrdered, is_report}
use Rattle.page_protocol.specs.State.{Page}
use Rattle.page_protocol.proofs.Used.{later_used}
use Rattle.page_relation.specs.Messages.{ReportIs, SaysSo}
use Rattle.page_relation.specs.Relation.{IsPageOf}
use Rattle.page_relation.specs.Together.{IsParty, PartiesAre}
use Rattle.related_runs.specs.Parties.{IsLiving}
use Rattle.report_relation.specs.Gathering.{gathered}
use Rattle.report_relation.proofs.Tabled.{gathering_is_related_law}
use Rattle.settle_relation.proofs.Requesting.{own_era_is}
use Rattle.page_relation.specs.Work.Keeping.{IsWorkOf}
use Rattle.page_relation.specs.Work.Landing.{land, Acts}
use Rattle.page_relation.specs.Work.Taken.{taken_of}
use Rattle.page_relation.specs.Work.Unseen.{SameStanding}
use Rattle.page_relation.proofs.WorkParts.Landed.{landing_is_seen_law}
use Rattle.report_relation.specs.Bury.Gathered.{GatheredIsKnown, GatheredIsWhole, IsKnownAt, IsReportOf, NobodyIsAheadOfIt}
use Rattle.report_relation.specs.Bury.Past.{HoldersLive}
use Rattle.report_relation.specs.Bury.Whole.{IsAwaited, IsKnown}
use Rattle.report_relation.proofs.BuryParts.Ahead.{nobody_is_ahead_law}
use Rattle.report_relation.proofs.BuryParts.Carried.{awaited_kept, owner_kept, readers_kept, users_kept}
use Rattle.report_relation.proofs.BuryParts.KnownWhole.{known_is_whole_law}
use Rattle.report_relation.proofs.BuryParts.Links.{all_coming, all_standing, behind_head, later_behind}
use Rattle.report_relation.proofs.BuryParts.Living.{both_parts}
use Rattle.report_relation.proofs.BuryParts.Naming.{all_come, two_all}
use Rattle.report_relation.proofs.BuryParts.Taken.{acting, all_parties, comes, first, first_epoch, found, locks_live, locks_of, member, owner, readers_then, says, speaks, users_then}

-- whom a report lists is one of those of which something holds
pub listed_of : (P : TxId → Type 0) (p : ℕ) (u : TxId) (xs : List ReportLock) → AllByRecursion (λ (x : ReportLock). P x.tx) xs → (mode_listed xs u p ≡ None → ⊥) → P u
unfolding mode_listed
listed_of P p u [] all lists = absurd (lists refl)
listed_of P p u (x ∷ xs) all lists = by (same_tx x.tx u) refl lists (λ rest. listed_of P p u xs all.1 rest)
  where
    by : (b : Bool) → same_tx x.tx u ≡ b → (pick (b && x.page == p) (Some x.mode) (mode_listed xs u p) ≡ None → ⊥) → ((mode_listed xs u p ≡ None → ⊥) → P u) → P u
    by true same lists rest = subst P (same_equal x.tx u same) all.0
    by false other lists rest = rest lists

pub either_some : (x y : Option Mode) → (or_else x y ≡ None → ⊥) → (x ≡ None → ⊥) ⊎ (y ≡ None → ⊥)
either_some None y some = inr some
either_some (Some m) y some = inl (λ none. absurd (cc))

-- the era of a report of a partition is the epoch of its view
report_epoch : (c : Cluster) (p from to epoch : ℕ) (x : Body) (u : View) → view_of_epoch c.views epoch ≡ Some u → PartiesAre c u from to epoch x → speaks_of c.config p x ≡ true → is_report x ≡ true
    → era_at c (partition c.config p) epoch ≡ epoch
report_epoch c p from to epoch (body.Request r) u at parties speaks is = absurd (cc)
report_epoch c p from to epoch (body.Grant r) u at parties speaks is = absurd (cc)
report_epoch c p from to epoch (body.Release r) u at parties speaks is = absurd (cc)
report_epoch c p from to epoch (body.Revoke r) u at parties speaks is = absurd (cc)
report_epoch c p from to epoch (body.Return r) u at parties speaks is = absurd (cc)
report_epoch c p from to epoch (body.Report r) u at parties speaks is =
    era_is c epoch u at (partition c.config p) ∙ (ap (since_of u) (sym (eqb-true r.partition (partition c.config p) speaks)) ∙ parties.1)

-- a report, as what it is
pub a_report : (c : Cluster) (p : ℕ) (x : Body) → speaks_of c.config p x ≡ true → is_report x ≡ true → (r : Report) × (x ≡ body.Report r) × (r.partition ≡ partition c.config p)
a_report c p (body.Request r) speaks is = absurd (cc)
a_report c p (body.Grant r) speaks is = absurd (cc)
a_report c p (body.Release r) speaks is = absurd (cc)
a_report c p (body.Revoke r) speaks is = absurd (cc)
a_report c p (body.Return r) speaks is = absurd (cc)
a_report c p (body.Report r) speaks is = (r, refl, eqb-true r.partition (partition c.config p) speaks)

ordered_of : (c : Cluster) (p : ℕ) (a : Page) (from to : ℕ) → IsPageOf c p a → AreOrdered 0 (filter (is_coming c.config p from (node_at c to)) (link_at c.links from to))
unfolding coming
ordered_of c p a from to is = is.links.ordered from to

module _ (c : Cluster) (e : Event) (n p from : ℕ) (s : NodeState) (m : Message) (r : Report) (v : View) (t : LockTable) (blank : List ℕ) (a : Page) (i : IsReportOf c e n p from s m r v t blank a) (known : IsKnownAt c n p s v t) where
  abbrev q : ℕ
  q = partition c.config p

  abbrev era : ℕ
  era = since_of v q

  abbrev w : Work
  w = taken_of c s

  abbrev act : Acts c n
  act = acting c e n p from s m r v t blank a i

  abbrev then : LockTable
  then = gather t from r

  seen : ReportIsSeen t from r
  seen = gathering_is_seen_law t from r

  -- ---- the table

  marked_then : (k : ℕ) → (from == k) ≡ false → marked then k ≡ marked t k
  marked_then k other = seen.marks k ∙ by (marked t k) (from == k) (nat_lt from (length t.reported)) other
    where
      by : (x y z : Bool) → y ≡ false → (x || (y && z)) ≡ x
      by true y z e = refl
      by false true z e = absurd (cc)
      by false false z e = refl

  own_then : marked then n ≡ true
  own_then = seen.marks n ∙ ap (λ (x : Bool). x || (from == n && nat_lt from (length t.reported))) known.own

  holders_then : HoldersLive v then p
  holders_then u holds =
      elim (either_some (mode_of (entry_at t p).holders u) (mode_listed r.locks u p) (λ none. holds ((seen.entries p).holders u ∙ none))) [
        | inl old ↦ known.holders u old
        | inr new ↦ listed_of (IsLiving v) p u r.locks (locks_live c e n p from s m r v t blank a i) new
      ]

  -- ---- reports that still come

  Awaited : ℕ → Message → Type 0
  Awaited k = IsAwaited c n q then era k

  -- on another link
  awaited_other : (k : ℕ) → (from ≡ k → ⊥) → (x : Message) → Stands (link_at c.links k n) x → is_coming c.config p k (Some s) x ≡ true → IsAwaited c n q then era k x
  awaited_other k other x stands comes =
      λ report same.
      let parts = both_parts (speaks_of c.config p x.body) (counts_in (Some s) k q x.epoch) comes in
      let one = a_report c p x.body parts.0 report in
      let missing = known.awaited k x one.0 stands one.1 one.2 parts.1 same in
      (missing.0, marked_then k (differs (from == k) refl) ∙ missing.1)
    where
      differs : (b : Bool) → (from == k) ≡ b → b ≡ false
      differs true test = absurd (other (eqb-true from k test))
      differs false test = refl

  -- behind the one that was taken
  none_behind : (x : Message) → IsParty c from n x → (is_coming c.config p from (node_at c n) x ≡ true → is_report x.body ≡ true → m.epoch < x.epoch) → is_coming c.config p from (Some s) x ≡ true → IsAwaited c n q then era from x
  none_behind x party late comes =
      λ report same.
      let parts = both_parts (speaks_of c.config p x.body) (counts_in (Some s) from q x.epoch) comes in
      let own = report_epoch c p from n x.epoch x.body party.view party.made party.parties parts.0 report in
      let after = late (subst (λ (o : Option NodeState). is_coming c.config p from o x ≡ true) (sym i.taken.handed.up) comes) report in
      let now = first_epoch c e n p from s m r v t blank a i in
      absurd (omega (arith, own, same, after, now))

  behind_all : AllByRecursion (λ (x : Message). is_coming c.config p from (Some s) x ≡ true → IsAwaited c n q then era from x) (tail_of (link_at c.links from n))
  behind_all =
      two_all (IsParty c from n) (λ (x : Message). is_coming c.config p from (node_at c n) x ≡ true → is_report x.body ≡ true → m.epoch < x.epoch)
      (λ (x : Message). is_coming c.config p from (Some s) x ≡ true → IsAwaited c n q then era from x) none_behind (tail_of (link_at c.links from n))
      (all_parties c e n p from s m r v t blank a i).1
      (later_behind (is_coming c.config p from (node_at c n)) m.epoch (tail_of (link_at c.links from n))
      (behind_head (is_coming c.config p from (node_at c n)) m (tail_of (link_at c.links from n))
      (subst (λ (o : Option NodeState). is_coming c.config p from o m ≡ true) (sym i.taken.handed.up) (comes c e n p from s m r v t blank a i))
      (subst (λ (ms : List Message). AreOrdered 0 (filter (is_coming c.config p from (node_at c n)) ms)) (first c e n p from s m r v t blank a i) (ordered_of c p a from n i.taken.related))))

  -- all of them
  link_awaited : (k : ℕ) (b : Bool) → (delivers e k n && is_taken w.replies) ≡ b
      → AllByRecursion (λ (x : Message). is_coming c.config p k (Some s) x ≡ true → IsAwaited c n q then era k x) (pick b (tail_of (link_at c.links k n)) (link_at c.links k n))
  link_awaited k b is = by b (subst (λ (x : Event). (delivers x k n && true) ≡ b) (found c e n p from s m r v t blank a i).0 is)
    where
      parts : (x y : Bool) → ((x && y) && true) ≡ true → x ≡ true
      parts true y e = refl
      parts false y e = absurd (cc)

      self : (n == n) ≡ true
      self = grind (arith, nat_tests)

      by : (b : Bool) → ((k == from && n == n) && true) ≡ b
          → AllByRecursion (λ (x : Message). is_coming c.config p k (Some s) x ≡ true → IsAwaited c n q then era k x) (pick b (tail_of (link_at c.links k n)) (link_at c.links k n))
      by true test =
          let same : k ≡ from = eqb-true k from (parts (k == from) (n == n) test) in
          subst (λ (j : ℕ). AllByRecursion (λ (x : Message). is_coming c.config p j (Some s) x ≡ true → IsAwaited c n q then era j x) (tail_of (link_at c.links j n))) (sym same) behind_all
      by false test =
          all_standing (λ (x : Message). is_coming c.config p k (Some s) x ≡ true → IsAwaited c n q then era k x) (link_at c.links k n) (awaited_other k other)
        where
          other : from ≡ k → ⊥
          other same =
              let one : (k == from) ≡ true = grind (arith, nat_tests, same) in
              let bad : true ≡ false = (λ j. (sym one j && sym self j) && true) ∙ test in
              absurd (cc)

  awaited_then : (k : ℕ) → AllByRecursion (IsAwaited c n q then era k) (coming (land c e n w) p k n)
  awaited_then k =
      two_all (λ (x : Message). is_coming c.config p k (node_at (land c e n w) n) x ≡ true) (λ (x : Message). is_coming c.config p k (Some s) x ≡ true → IsAwaited c n q then era k x)
      (IsAwaited c n q then era k)
      (λ x comes awaited. awaited (subst (λ (o : Option NodeState). is_coming c.config p k o x ≡ true) (landing_is_seen_law c e n w act).node comes)) (coming (land c e n w) p k n)
      (all_come c e n p k n w)
      (all_coming c e n p w act refl (λ (x : Message). is_coming c.config p k (Some s) x ≡ true → IsAwaited c n q then era k x) k n (link_awaited k))

  -- ---- the work with the table

  abbrev z : Work
  z = gathered q t from r w

  standing : SameStanding w.node z.node
  standing = record { config = refl; number = refl; epoch = refl; view = refl }

  pub known_then : IsKnown c e n p v z then
  known_then =
      record {
        owner = owner_kept c e n p act w z standing refl refl refl v (owner c e n p from s m r v t blank a i);
        own = own_then;
        holders = holders_then;
        others = known.others;
        users = users_kept c e n p act w z standing refl refl refl era (users_then c e n p from s m r v t blank a i known);
        readers = readers_kept c e n p act w z standing refl refl refl era (readers_then c e n p from s m r v t blank a i known);
        awaited = awaited_kept c e n p act w z standing refl refl refl q era then then (λ k. refl) awaited_then;
      }

pub gathered_is_known_law : GatheredIsKnown
gathered_is_known_law c e n p from s m r v t blank a i known = known_then c e n p from s m r v t blank a i known

pub nobody_is_ahead_of_it_law : NobodyIsAheadOfIt
nobody_is_ahead_of_it_law c e n p from s m r v t blank a i known =
    nobody_is_ahead_law c e n p v t (taken_of c s) a (acting c e n p from s m r v t blank a i) i.view i.there i.rebuilt known.waiting
    (users_then c e n p from s m r v t blank a i known) (later_used blank a i.taken.reached) (says c e n p from s m r v t blank a i).related

-- the report of the page says what the era lists
report_says : (c : Cluster) (e : Event) (n p from : ℕ) (s : NodeState) (m : Message) (r : Report) (v : View) (t : LockTable) (blank : List ℕ) (a : Page) → IsReportOf c e n p from s m r v t blank a
    → ReportIs a.era a.reached a.listed a.right a.home p from (era_in s.view (partition c.config p)) r
report_says c e n p from s m r v t blank a i =
    let heard = speaks c e n p from s m r v t blank a i in
    subst (λ (k : ℕ). ReportIs a.era a.reached a.listed a.right a.home p from k r) (sym (own_era_is c e n p from s m blank a i.taken heard))
    (subst (SaysSo a.era a.hist a.reached a.listed a.right a.home a.sent p from n (era_at c (partition c.config p) m.epoch)) i.report ((says c e n p from s m r v t blank a i).head heard).says)

-- the relation with it
gathered_is_related : (c : Cluster) (e : Event) (n p from : ℕ) (s : NodeState) (m : Message) (r : Report) (v : View) (t : LockTable) (blank : List ℕ) (a : Page) → IsReportOf c e n p from s m r v t blank a → IsKnownAt c n p s v t
    → IsWorkOf c e n p (gathered (partition c.config p) t from r (taken_of c s)) a
gathered_is_related c e n p from s m r v t blank a i known =
    gathering_is_related_law c e n p from t r (taken_of c s) a (acting c e n p from s m r v t blank a i)
    (record {
      there = i.there;
      rebuilt = i.rebuilt;
      known = subst (λ (k : ℕ). from < k) (sym table.reported) sender.0;
      locks = locks_of c e n p from s m r v t blank a i;
      behind = nobody_is_ahead_of_it_law c e n p from s m r v t blank a i known;
      says = report_says c e n p from s m r v t blank a i;
    })
    (says c e n p from s m r v t blank a i).related
  where
    table : IsTable s.home.config (number_of s) (partition c.config p) t
    table =
        let one = member c e n p from s m r v t blank a i in
        subst (λ (o : Option LockTable). IfSome o (IsTable s.home.config (number_of s) (partition c.config p))) i.there
        (one.sound.tables (partition c.config p) (subst (λ (k : Sizes). partition c.config p < k.nodes) (sym one.config) i.inside))

    sender : IsOther s.home.config (number_of s) from
    sender = (events_can_come_law c e n s (Deliver from m) i.taken.cluster i.taken.handed).0

pub gathered_is_whole_law : GatheredIsWhole
gathered_is_whole_law c e n p from s m r v t blank a u k i known ready =
    known_is_whole_law c e n p u k blank (gathered (partition c.config p) t from r (taken_of c s)) a (acting c e n p from s m r v t blank a i) i.inside ready now i.taken.reached
    (gathered_is_related c e n p from s m r v t blank a i known) i.taken.entered
  where
    views : Some v ≡ Some u
    views = sym i.view ∙ ready.in_view

    tables : Some (gather t from r) ≡ Some k
    tables = sym (put_there s.tables (partition c.config p) t (Some (gather t from r)) i.there) ∙ ready.there

    now : IsKnown c e n p u (gathered (partition c.config p) t from r (taken_of c s)) k
    now =
        let view : v ≡ u = cc views in
        let table : gather t from r ≡ k = cc tables in
        subst (λ (y : View). IsKnown c e n p y (gathered (partition c.config p) t from r (taken_of c s)) k) view
        (subst (λ (y : LockTable). IsKnown c e n p v (gathered (partition c.config p) t from r (taken_of c s)) y) table (known_then c e n p from s m r v t blank a i known))
