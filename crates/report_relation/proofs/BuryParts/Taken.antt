-- A report is taken: what is known of the work of the owner then.
use Rattle.std.proofs.Common.{◌≡◌, refl, ap, sym, subst, ◌∙◌, ℕ, ◌<◌, ◌≤◌, ◌==◌, ◌&&◌, not, Bool, true, false, List, [], ◌∷◌, Option, Some, arith, eqb-true}
use Rattle.std.specs.List.{AllByRecursion}
use Rattle.std.specs.Prelude.{IfSome}
use Rattle.std.proofs.lemmas.Bool.Decides.{nat_tests}
use Rattle.pcl_base.specs.declared.event.Event.{Event}
use Rattle.pcl_base.specs.declared.event.Event.TheVariants as event
use Rattle.pcl_base.specs.declared.lock.Verdict.{Verdict}
use Rattle.pcl_base.specs.declared.lock.Verdict.TheVariants as verdict
use Rattle.pcl_base.specs.declared.message.Body.{Body}
use Rattle.pcl_base.specs.declared.message.Body.TheVariants as body
use Rattle.pcl_base.specs.declared.message.Message.{Message}
use Rattle.pcl_base.specs.declared.message.Report.{Report}
use Rattle.pcl_base.specs.declared.message.ReportLock.{ReportLock}
use Rattle.pcl_base.specs.declared.tx.TxId.{TxId}
use Rattle.run_rules.specs.Views.{View, born_of, is_live, since_of}
use Rattle.rule_laws.specs.LaterViews.{IsBetween}
use Rattle.rule_laws.proofs.Successors.{taken_is_between_law}
use Rattle.node_rules.specs.Judging.{judge}
use Rattle.node_rules.specs.LockTable.{LockTable}
use Rattle.node_rules.specs.NodeState.{NodeState, number_of, partition}
use Rattle.node_rules.specs.NodeStep.{judge_in, partition_of}
use Rattle.node_rules.specs.Work.{Work}
use Rattle.node_laws.specs.Nodes.{IsViewOf}
use Rattle.cluster_rules.specs.Clusters.{Cluster, node_at, view_of_epoch}
use Rattle.cluster_rules.specs.Links.{head_at, link_at, tail_of}
use Rattle.cluster_laws.specs.Sound.{IsMember}
use Rattle.cluster_laws.proofs.Steps.{up_is_member_law}
use Rattle.cluster_laws.specs.Era.Counts.{counts_at, counts_in, is_dropped}
use Rattle.cluster_laws.specs.Era.Eras.{era_in, life_of}
use Rattle.cluster_laws.proofs.EraParts.Ages.{era_is}
use Rattle.cluster_laws.specs.Link.Coming.{is_coming, speaks_of}
use Rattle.page_laws.specs.Moment.Looks.{accesses_in}
use Rattle.page_protocol.specs.State.{Page}
use Rattle.page_relation.specs.Relation.{IsPageOf}
use Rattle.page_relation.specs.Together.{IsOf, IsParty, PartiesAre}
use Rattle.related_runs.specs.Parties.{IsLiving}
use Rattle.settle_relation.proofs.Requesting.{acts, own_era_is, said}
use Rattle.page_relation.specs.Work.Keeping.{IsWorkOf}
use Rattle.page_relation.specs.Work.Landing.{land, Acts}
use Rattle.page_relation.specs.Work.Taken.{taken_of, TakenSays}
use Rattle.page_relation.proofs.WorkParts.Landed.{landing_is_seen_law}
use Rattle.page_relation.proofs.WorkParts.Started.{at_head, deliver_is}
use Rattle.report_relation.specs.Bury.Gathered.{IsKnownAt, IsReportOf}
use Rattle.report_relation.specs.Bury.Past.{IsOwner}
use Rattle.report_relation.specs.Bury.Whole.{ReadersAreBorn, UsersAreBorn}
use Rattle.report_relation.proofs.BuryParts.KeptEarly.{era_owned}
use Rattle.report_relation.proofs.BuryParts.Links.{all_linked}
use Rattle.report_relation.proofs.BuryParts.Living.{earlier_living}

-- the script of a page is the same as if the step had ended
script_same : (c : Cluster) (e : Event) (n p : ℕ) (w : Work) (a : Page) → IsPageOf c p a → IsWorkOf c e n p w a → (u : TxId) → accesses_in u p (land c e n w).trace ≡ accesses_in u p c.trace
unfolding land
script_same c e n p w a before now u = sym (now.homes.scripts u) ∙ before.homes.scripts u

module _ (c : Cluster) (e : Event) (n p from : ℕ) (s : NodeState) (m : Message) (r : Report) (v : View) (t : LockTable) (blank : List ℕ) (a : Page) (i : IsReportOf c e n p from s m r v t blank a) where
  abbrev pub q : ℕ
  q = partition c.config p

  abbrev pub w : Work
  w = taken_of c s

  pub acting : Acts c n
  acting = acts c e n p from s m blank a i.taken

  pub says : TakenSays c e n p a s from m
  says = said c e n p from s m blank a i.taken

  pub member : IsMember c.config c.views n s
  member = (up_is_member_law c n s i.taken.cluster i.taken.handed.up).1

  in_view : IsViewOf s v
  in_view = subst (λ (o : Option View). IfSome o (IsViewOf s)) i.view member.sound.view

  there_at : view_of_epoch c.views v.epoch ≡ Some v
  there_at =
      subst (λ (k : ℕ). view_of_epoch c.views k ≡ Some v) (sym in_view.epoch)
      (subst (λ (o : Option View). IfSome o (λ u. view_of_epoch c.views s.epoch ≡ Some u)) i.view member.view)

  pub owner : IsOwner c e n p v w
  owner =
      record {
        there = there_at;
        made = let reached = member.reached in let same = in_view.epoch in omega (arith, reached, same);
        number = member.number;
        view = i.view;
        listed = subst (λ (k : ℕ). is_live v.live k ≡ true) member.number in_view.live;
        born = sym in_view.born ∙ ap (born_of v) member.number;
        owner = era_owned c n q acting i.inside n s i.taken.handed.up t i.there v there_at (ap (λ (o : Option View). era_in o q) i.view);
        parties = λ from to. all_linked c e n p w acting refl (IsParty c from to) from to (i.parties from to);
      }

  -- ---- the message

  pub found : (e ≡ event.Deliver from n) × (head_at c.links from n ≡ Some m)
  found = deliver_is c e n s from m i.taken.handed.acts i.taken.handed.event

  pub first : link_at c.links from n ≡ m ∷ tail_of (link_at c.links from n)
  first = at_head m (link_at c.links from n) found.1

  pub all_parties : AllByRecursion (IsParty c from n) (m ∷ tail_of (link_at c.links from n))
  all_parties = subst (AllByRecursion (IsParty c from n)) first (i.parties from n)

  abbrev party : IsParty c from n m
  party = all_parties.0

  parties : PartiesAre c party.view from n m.epoch (body.Report r)
  parties = subst (PartiesAre c party.view from n m.epoch) i.report party.parties

  pub speaks : speaks_of c.config p m.body ≡ true
  speaks = ap (speaks_of c.config p) i.report ∙ (let own = i.own in let same : (r.partition == partition c.config p) ≡ true = grind (arith, nat_tests, own) in same)

  judged : judge v (number_of s) from m.epoch q ≡ verdict.Taken
  judged =
      subst (λ (k : ℕ). judge v (number_of s) from m.epoch k ≡ verdict.Taken) i.own
      (subst (λ (x : Body). judge v (number_of s) from m.epoch (partition_of s.home.config x) ≡ verdict.Taken) i.report
      (subst (λ (o : Option View). judge_in o (number_of s) from m.epoch (partition_of s.home.config m.body) ≡ verdict.Taken) i.view i.taken.judged))

  between : IsBetween v (number_of s) from m.epoch q
  between = (taken_is_between_law v (number_of s) from m.epoch q).0 judged

  pub comes : is_coming c.config p from (Some s) m ≡ true
  comes = (λ j. speaks j && counted j)
    where
      counted : counts_in (Some s) from q m.epoch ≡ true
      counted = ap (λ (o : Option View). counts_at s o from q m.epoch) i.view ∙ ap (λ (x : Verdict). not (is_dropped x)) judged

  pub first_epoch : m.epoch ≡ since_of v q
  first_epoch =
      sym (era_is c m.epoch party.view party.made q ∙ (ap (since_of party.view) (sym i.own) ∙ parties.1))
      ∙ (sym (own_era_is c e n p from s m blank a i.taken speaks) ∙ ap (λ (o : Option View). era_in o q) i.view)

  -- its locks are those of transactions of lives in the view
  pub locks_live : AllByRecursion (λ (x : ReportLock). IsLiving v x.tx) r.locks
  locks_live = all r.locks parties.2
    where
      lives : (x : ReportLock) → IsOf party.view from x.tx → IsLiving v x.tx
      lives x of =
          earlier_living c i.taken.cluster v there_at m.epoch party.view x.tx party.made between.reached
          (record { live = ap (is_live party.view.live) of.node ∙ party.live; born = of.born ∙ ap (born_of party.view) (sym of.node) }) (ap (is_live v.live) of.node ∙ between.sender)
          (subst (λ (k : ℕ). born_of v k ≤ m.epoch) (sym of.node) between.sent)

      all : (xs : List ReportLock) → AllByRecursion (λ (x : ReportLock). IsOf party.view from x.tx) xs → AllByRecursion (λ (x : ReportLock). IsLiving v x.tx) xs
      all [] of = tt
      all (x ∷ xs) of = (lives x of.0, all xs of.1)

  pub locks_of : AllByRecursion (λ (x : ReportLock). x.tx.node ≡ from) r.locks
  locks_of = all r.locks parties.2
    where
      all : (xs : List ReportLock) → AllByRecursion (λ (x : ReportLock). IsOf party.view from x.tx) xs → AllByRecursion (λ (x : ReportLock). x.tx.node ≡ from) xs
      all [] of = tt
      all (x ∷ xs) of = (of.0.node, all xs of.1)

  -- ---- births

  module _ (known : IsKnownAt c n p s v t) where
    pub users_then : UsersAreBorn c e n p w (since_of v q)
    users_then u used = known.users u (λ none. used (script_same c e n p w a i.taken.related says.related u ∙ none))

    pub readers_then : ReadersAreBorn c e n p w (since_of v q)
    readers_then k x up shelf = by (k == n) refl
      where
        by : (b : Bool) → (k == n) ≡ b → life_of x < since_of v q
        by true test =
            let same : k ≡ n = eqb-true k n test in
            let both : Some s ≡ Some x = sym (landing_is_seen_law c e n w acting).node ∙ subst (λ (j : ℕ). node_at (land c e n w) j ≡ Some x) same up in
            known.readers n x (i.taken.handed.up ∙ both) shelf
        by false other = known.readers k x (sym ((landing_is_seen_law c e n w acting).others k other) ∙ up) shelf
