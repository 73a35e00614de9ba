-- What is known of reports is kept by every step; and a report that comes to a table which is being rebuilt is missing there.
use Rattle.std.proofs.Common.{◌≡◌, ◌≢◌, inl, inr, refl, sym, ap, subst, ◌∙◌, ℕ, ◌<◌, ◌≤◌, ◌==◌, not, nat_le, Bool, true, false, List, [], ◌∷◌, Option, Some, is_some, arith}
use Rattle.std.proofs.lemmas.Bool.Decides.{nat_tests}
use Rattle.pcl_base.specs.Limits.{Sizes}
use Rattle.pcl_base.specs.declared.lock.Verdict.{Verdict}
use Rattle.pcl_base.specs.declared.lock.Verdict.TheVariants as verdict
use Rattle.pcl_base.specs.declared.message.Body.{Body}
use Rattle.pcl_base.specs.declared.message.Body.TheVariants as body
use Rattle.pcl_base.specs.declared.message.Message.{Message}
use Rattle.run_rules.specs.Views.{View, owner_of, since_of, born_of}
use Rattle.rule_laws.specs.LaterViews.{IsBetween}
use Rattle.rule_laws.proofs.Successors.{taken_is_between_law, held_is_ahead_law}
use Rattle.node_rules.specs.InstallRule.{owned_before}
use Rattle.node_rules.specs.Judging.{judge}
use Rattle.node_rules.specs.LockTable.{LockTable, marked}
use Rattle.node_rules.specs.NodeState.{number_of}
use Rattle.node_rules.specs.Reports.{is_missing}
use Rattle.cluster_rules.specs.Clusters.{Cluster, view_of_epoch, last_view}
use Rattle.cluster_rules.specs.Links.{link_at}
use Rattle.cluster_laws.specs.Sound.{IsMember, IsOnLink}
use Rattle.cluster_laws.proofs.Steps.{up_is_member_law}
use Rattle.cluster_laws.specs.Era.Counts.{is_dropped, counts_at}
use Rattle.cluster_laws.specs.Era.Eras.{era_at, era_in}
use Rattle.cluster_laws.specs.Link.Coming.{Stands}
use Rattle.page_relation.specs.Together.{PartiesAre, IsParty}
use Rattle.cluster_facts.specs.Reports.Reported.{asks_of, IsReportOf, HasReport}
use Rattle.cluster_facts.specs.Reports.ReportLaws.{StepsKeepReports, ReportsAreAwaited, ReportsAreOnce}
use Rattle.cluster_facts.proofs.ReportsParts.Acted.{stands_pass}
use Rattle.cluster_facts.proofs.ReportsParts.Awaiting.{step_awaited}
use Rattle.std.specs.List.{filter}
use Rattle.cluster_laws.specs.Link.Orders.{AreOrdered}
use Rattle.cluster_facts.proofs.ReportsParts.Heads.{report_asks, ordered_has, ordered_behind}
use Rattle.cluster_facts.proofs.ReportsParts.Later.{is_view}
use Rattle.cluster_facts.proofs.ReportsParts.Marking.{step_reached}
use Rattle.cluster_facts.proofs.ReportsParts.Ordered.{steps_come_first}
use Rattle.cluster_facts.proofs.ReportsParts.Sent.{step_viewed, step_sent}

pub steps_keep_reports_law : StepsKeepReports
steps_keep_reports_law c e i order reports =
    record {
      first = steps_come_first c e i order reports.first;
      reached = step_reached c e i order reports.reached;
      awaited = step_awaited c e i reports.first reports.reached reports.awaited;
      viewed = step_viewed c e i reports.viewed;
      sent = step_sent c e i reports.viewed reports.sent;
    }

stands_has : (q e : ℕ) (ms : List Message) (m : Message) → m.epoch ≡ e → IsReportOf q m.body → Stands ms m → HasReport q e ms
stands_has q e [] m epoch is at = absurd at
stands_has q e (x ∷ ms) m epoch is (inl same) = inl (ap (λ (y : Message). y.epoch) same ∙ epoch, subst (λ (y : Message). IsReportOf q y.body) (sym same) is)
stands_has q e (x ∷ ms) m epoch is (inr at) = inr (stands_has q e ms m epoch is at)

era_of : (c : Cluster) (q e : ℕ) (v : View) → view_of_epoch c.views e ≡ Some v → era_at c q e ≡ since_of v q
unfolding era_at
era_of c q e v made = ap (λ (o : Option View). era_in o q) made

pub reports_are_awaited_law : ReportsAreAwaited
reports_are_awaited_law c n s v q t from m r i parties reports up view low there rebuilt at is of counts era =
    record {
      epoch = epoch;
      unmarked = unmarked;
      other = other;
      live = between.sender;
      born = born;
      missing = misses;
    }
  where
    member : IsMember c.config c.views n s
    member = (up_is_member_law c n s i up).1

    party : IsParty c from n m
    party = stands_pass (IsParty c from n) (link_at c.links from n) m (parties from n) at

    report_since : (x : Body) → x ≡ body.Report r → PartiesAre c party.view from n m.epoch x → since_of party.view q ≡ m.epoch
    report_since x same are = subst (λ (k : ℕ). since_of party.view k ≡ m.epoch) of (subst (PartiesAre c party.view from n m.epoch) same are).1

    epoch : m.epoch ≡ since_of v q
    epoch = sym (report_since m.body is party.parties) ∙ sym (era_of c q m.epoch party.view party.made) ∙ era

    unmarked : marked t from ≡ false
    unmarked =
        reports.awaited n s v q t from up view low there rebuilt
        (stands_has q (since_of v q) (link_at c.links from n) m epoch (subst (IsReportOf q) (sym is) of) at)

    other : from ≢ n
    other = (stands_pass (IsOnLink c.config (last_view c).epoch from n) (link_at c.links from n) m (i.links.messages from n) at).others

    low_here : q < s.home.config.nodes
    low_here = subst (λ (k : Sizes). q < k.nodes) (sym member.config) low

    upto : since_of v q ≤ v.epoch
    upto = (is_view s member.sound v view).whole.since_upto q low_here

    counted : not (is_dropped (judge v (number_of s) from m.epoch q)) ≡ true
    counted = subst (λ (o : Option View). counts_at s o from q m.epoch ≡ true) view counts

    judged : (x : Verdict) → judge v (number_of s) from m.epoch q ≡ x → not (is_dropped x) ≡ true → judge v (number_of s) from m.epoch q ≡ verdict.Taken
    judged verdict.Taken e counts = e
    judged verdict.Held e counts = let ahead = (held_is_ahead_law v (number_of s) from m.epoch q).0 e in let at = epoch in let below = upto in absurd (omega (arith, ahead, at, below))
    judged verdict.Dropped e counts = absurd (cc)

    between : IsBetween v (number_of s) from m.epoch q
    between = (taken_is_between_law v (number_of s) from m.epoch q).0 (judged (judge v (number_of s) from m.epoch q) refl counted)

    born : born_of v from ≤ since_of v q
    born = let sent = between.sent in let at = epoch in omega (arith, sent, at)

    owner : (owner_of v q == number_of s) ≡ true
    owner = ap (λ (o : Option View). owned_before o q (number_of s)) (sym view) ∙ sym (member.sound.owned q low_here) ∙ ap (λ (o : Option LockTable). is_some o) there

    misses : is_missing t v q from ≡ true
    misses =
        let live = between.sender in
        let mark = unmarked in
        let since = born in
        let number = member.number in
        let owns = owner in
        let differs = other in
        let apart : (from == owner_of v q) ≡ false = apart_of (from == owner_of v q) refl in
        let upto : nat_le (born_of v from) (since_of v q) ≡ true = (grind (arith, nat_tests, since)) in
        (rw (live, apart, mark, upto) refl)
      where
        apart_of : (x : Bool) → (from == owner_of v q) ≡ x → (from == owner_of v q) ≡ false
        apart_of false e = e
        apart_of true e = let number = member.number in let owns = owner in absurd (other (grind (arith, nat_tests, e, number, owns)))

pub reports_are_once_law : ReportsAreOnce
reports_are_once_law c a b q era m r ms reports at is of low has =
    let asks : asks_of c.config q m.body ≡ true = report_asks c.config q m.body (subst (IsReportOf q) (sym is) of) in
    let ordered : AreOrdered m.epoch (filter (λ (x : Message). asks_of c.config q x.body) ms) =
    ordered_behind c.config q m ms asks (subst (λ (xs : List Message). AreOrdered 0 (filter (λ (x : Message). asks_of c.config q x.body) xs)) at (reports.first a b q)) in
    let later : m.epoch < era = ordered_has c.config q era m.epoch ms ordered has in
    absurd (omega (arith, later, low))
