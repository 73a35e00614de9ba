-- A node whose request comes to a table that is being rebuilt is marked there, or was born after the table's era.
use Rattle.std.proofs.Common.{◌≡◌, ◌⊎◌, inl, inr, refl, sym, ap, subst, ◌∙◌, ℕ, ◌<◌, ◌≤◌, ◌==◌, not, Bool, true, false, List, [], ◌∷◌, option_map, Option, Some, None, is_some, arith}
use Rattle.std.specs.Prelude.{IfSome}
use Rattle.std.specs.List.{filter}
use Rattle.std.proofs.lemmas.Bool.Decides.{nat_tests}
use Rattle.pcl_base.specs.Limits.{Sizes}
use Rattle.pcl_base.specs.declared.event.Event.{Event}
use Rattle.pcl_base.specs.declared.lock.Verdict.{Verdict}
use Rattle.pcl_base.specs.declared.lock.Verdict.TheVariants as verdict
use Rattle.pcl_base.specs.declared.message.Body.{Body}
use Rattle.pcl_base.specs.declared.message.Body.TheVariants as body
use Rattle.pcl_base.specs.declared.message.Message.{Message}
use Rattle.pcl_base.specs.declared.message.Report.{Report}
use Rattle.pcl_base.specs.declared.message.Request.{Request}
use Rattle.run_rules.specs.Views.{View, owner_of, since_of, born_of}
use Rattle.rule_laws.specs.LaterViews.{IsBetween}
use Rattle.rule_laws.proofs.Successors.{taken_is_between_law}
use Rattle.node_rules.specs.InstallRule.{owned_before}
use Rattle.node_rules.specs.Judging.{judge}
use Rattle.node_rules.specs.LockTable.{LockTable, mark, marked}
use Rattle.node_rules.specs.NodeState.{NodeState, NodeEvent, Deliver, Install, number_of, table_at, partition}
use Rattle.node_rules.specs.NodeStep.{Plan, judge_in, partition_of, nodestep}
use Rattle.node_rules.specs.Words.{pick, head_of}
use Rattle.node_laws.specs.Nodes.{IsTable}
use Rattle.cluster_rules.specs.Clusters.{Cluster, node_at, last_view}
use Rattle.cluster_rules.specs.ClusterStep.{is_taken}
use Rattle.cluster_rules.specs.Links.{link_at, head_at}
use Rattle.cluster_laws.specs.Handed.{IsHanded}
use Rattle.cluster_laws.specs.Sound.{IsMember, IsOnLink, IsCluster}
use Rattle.cluster_laws.proofs.Steps.{up_is_member_law}
use Rattle.cluster_laws.specs.Era.Counts.{is_dropped, counts_at, counts_in}
use Rattle.cluster_laws.specs.Era.CountLaws.{IsOfView}
use Rattle.cluster_laws.specs.Era.Eras.{era_at}
use Rattle.cluster_laws.proofs.EraParts.Ages.{eras_are_reached_law}
use Rattle.cluster_laws.proofs.EraParts.Counted.{counting_is_of_view_law}
use Rattle.cluster_laws.proofs.EraParts.Nexts.{order}
use Rattle.cluster_laws.specs.Link.Coming.{Stands}
use Rattle.cluster_laws.specs.Link.Orders.{AreOrdered}
use Rattle.cluster_laws.specs.Link.StepLaws.{IsPlanned}
use Rattle.cluster_facts.proofs.WaitingParts.Coming.{head_all, delivered}
use Rattle.cluster_facts.specs.Reports.Reported.{asks_of, IsReportOf, HasReport, HasTaken, TakenIn, IsOwed, IsReported, HaveReports}
use Rattle.cluster_facts.proofs.ReportsParts.Flags.{TableGoesOn, flagged, heard_by, heard, verdict_of}
use Rattle.cluster_facts.proofs.ReportsParts.Heads.{ordered_has, ordered_behind}
use Rattle.cluster_facts.proofs.ReportsParts.Marking.{mark_here}
use Rattle.cluster_facts.proofs.ReportsParts.Replies.{report_is_taken}
use Rattle.cluster_facts.proofs.ReportsParts.Stepping.{StepIs, step_refused, step_acts, step_installs, steps_are}
use Rattle.cluster_facts.proofs.ReportsParts.Walking.{GoesOnAs}

-- the head of a link stands on it
head_stands : (ms : List Message) (m : Message) → head_of ms ≡ Some m → Stands ms m
head_stands [] m e = absurd (cc)
head_stands (x ∷ ms) m e = inl (let same : x ≡ m = cc in same)

request_is : (q : ℕ) (r : Request) (b : Body) → b ≡ body.Request r → IsReportOf q b → ⊥
request_is q r b is report = subst (IsReportOf q) is report

-- a request that is the head: no report of its era or a later one is behind it
none_after : (c : Sizes) (q era : ℕ) (ms : List Message) (m : Message) (r : Request) → head_of ms ≡ Some m → m.body ≡ body.Request r → partition c r.page ≡ q → era ≤ m.epoch
    → AreOrdered 0 (filter (λ (m : Message). asks_of c q m.body) ms) → HasReport q era ms → ⊥
none_after c q era [] m r head is of low ordered has = has
none_after c q era (x ∷ ms) m r head is of low ordered has = by has
  where
    same : x ≡ m
    same = cc

    asks : asks_of c q x.body ≡ true
    asks =
        let at : partition c r.page ≡ q = of in
        let here : (partition c r.page == q) ≡ true = (grind (arith, nat_tests, at)) in
        ap (λ (y : Message). asks_of c q y.body) same ∙ ap (asks_of c q) is ∙ here

    by : ((x.epoch ≡ era) × IsReportOf q x.body) ⊎ HasReport q era ms → ⊥
    by (inl here) = request_is q r x.body (ap (λ (y : Message). y.body) same ∙ is) here.1
    by (inr rest) =
        let later : x.epoch < era = ordered_has c q era x.epoch ms (ordered_behind c q x ms asks ordered) rest in
        let epoch : x.epoch ≡ m.epoch = ap (λ (y : Message). y.epoch) same in
        omega (arith, later, epoch, low)

module _ (c : Cluster) (e : Event) (i : IsCluster c) (n : ℕ) (s : NodeState) (ev : NodeEvent) (p : Plan) (planned : IsPlanned c e n s ev p) (v : View) (there : s.view ≡ Some v) (from : ℕ) (m : Message) (is_event : ev ≡ Deliver from m) where
  member : IsMember c.config c.views n s
  member = (up_is_member_law c n s i planned.handed.up).1

  pub head : head_at c.links from n ≡ Some m
  head = delivered c e n s from m (subst (λ (x : NodeEvent). IsHanded c e n s x) is_event planned.handed)

  pub on_link : IsOnLink c.config (last_view c).epoch from n m
  on_link = head_all (IsOnLink c.config (last_view c).epoch from n) (link_at c.links from n) m (i.links.messages from n) head

  -- ---- a request
  module _ (reports : HaveReports c) (r : Request) (is : m.body ≡ body.Request r) (q : ℕ) (low : q < c.config.nodes) (of : partition c.config r.page ≡ q) (t : LockTable) (at : table_at s q ≡ Some t) (rebuilt : t.serving ≡ false)
      (taken : verdict_of s from m ≡ verdict.Taken) where
    judged : judge v (number_of s) from m.epoch q ≡ verdict.Taken
    judged =
        sym (ap (λ (o : Option View). judge_in o (number_of s) from m.epoch q) there)
        ∙ sym (ap (λ (k : ℕ). judge_in s.view (number_of s) from m.epoch k) (ap (partition_of s.home.config) is ∙ ap (λ (k : Sizes). partition k r.page) member.config ∙ of)) ∙ taken

    between : IsBetween v (number_of s) from m.epoch q
    between = (taken_is_between_law v (number_of s) from m.epoch q).0 judged

    counted : counts_at s (Some v) from q m.epoch ≡ true
    counted = ap (λ (x : Verdict). not (is_dropped x)) judged

    of_view : IsOfView c v n from q m.epoch
    of_view = counting_is_of_view_law c n s v from q m.epoch i planned.handed.up there counted between.reached

    owner : owner_of v q ≡ n
    owner =
        let owns : (owner_of v q == number_of s) ≡ true =
        ap (λ (o : Option View). owned_before o q (number_of s)) (sym there) ∙ sym (member.sound.owned q (subst (λ (k : Sizes). q < k.nodes) (sym member.config) low)) ∙ ap (λ (o : Option LockTable). is_some o) at in
        let number = member.number in
        grind (arith, nat_tests, owns, number)

    owed : born_of v from ≤ since_of v q → IsOwed c from n q m.epoch
    owed born =
        let was = of_view.sender.born in
        let era = of_view.era in
        record {
          other = on_link.others;
          low = low;
          made = on_link.epoch;
          live = of_view.sender.live;
          born = omega (arith, was, era, born);
          owner = of_view.owner ∙ owner;
          counts =
              subst (λ (o : Option NodeState). counts_in o from q m.epoch ≡ true) (sym planned.handed.up) (subst (λ (o : Option View). counts_at s o from q m.epoch ≡ true) (sym there) counted);
        }

    here_taken : (o : Option NodeState) → o ≡ Some s → TakenIn q (era_at c q m.epoch) from o → HasTaken q (era_at c q m.epoch) from s
    here_taken o same is = subst (TakenIn q (era_at c q m.epoch) from) same is

    marks : HasTaken q (era_at c q m.epoch) from s → marked t from ≡ true
    marks has = by has.marks
      where
        same : has.table ≡ t
        same = (let both : Some has.table ≡ Some t = sym has.at ∙ at in cc)

        by : (has.table.serving ≡ true) ⊎ (marked has.table from ≡ true) → marked t from ≡ true
        by (inl serves) = let bad : true ≡ false = sym serves ∙ ap (λ (x : LockTable). x.serving) same ∙ rebuilt in absurd (cc)
        by (inr set) = sym (ap (λ (x : LockTable). marked x from) same) ∙ set

    pub sender_marked : (marked t from ≡ true) ⊎ (since_of v q < born_of v from)
    sender_marked = by (order (since_of v q) (born_of v from))
      where
        reported : IsReported c from n q (era_at c q m.epoch) → marked t from ≡ true
        reported (inl has) =
            absurd
            (none_after c.config q (era_at c q m.epoch) (link_at c.links from n) m r head is of (eras_are_reached_law c q m.epoch i) (reports.first from n q) has)
        reported (inr has) = marks (here_taken (node_at c n) planned.handed.up has)

        by : (since_of v q < born_of v from) ⊎ (born_of v from ≤ since_of v q) → (marked t from ≡ true) ⊎ (since_of v q < born_of v from)
        by (inl late) = inr late
        by (inr early) = inl (reported (reports.sent from n q m (head_stands (link_at c.links from n) m head) (owed early)))

  -- ---- a report
  module _ (r : Report) (is : m.body ≡ body.Report r) (q : ℕ) (low : q < c.config.nodes) (of : r.partition ≡ q) (taken : verdict_of s from m ≡ verdict.Taken) (u : LockTable) (at : table_at p.node q ≡ Some u) (rebuilt : u.serving ≡ false) where
    heard_at : heard s ev q ≡ option_map (flagged from) (table_at s q)
    heard_at =
        ap (λ (x : NodeEvent). heard s x q) is_event ∙ ap (λ (x : Verdict). heard_by x from q m.body (table_at s q)) taken ∙ ap (λ (x : Body). heard_by verdict.Taken from q x (table_at s q)) is
        ∙ ap (λ (b : Bool). pick b (option_map (flagged from) (table_at s q)) (table_at s q)) same
      where
        same : (r.partition == q) ≡ true
        same = let here = of in grind (arith, nat_tests, here)

    flags : (o : Option LockTable) → table_at s q ≡ o → TableGoesOn (option_map (flagged from) o) (Some u) → marked u from ≡ true
    flags None at on = absurd on
    flags (Some t) at on = by t.serving refl on
      where
        is_table : IsTable s.home.config (number_of s) q t
        is_table =
            subst (λ (o : Option LockTable). IfSome o (IsTable s.home.config (number_of s) q)) at (member.sound.tables q (subst (λ (k : Sizes). q < k.nodes) (sym member.config) low))

        by : (x : Bool) → t.serving ≡ x → GoesOnAs (pick t.serving t (mark t from)) u → marked u from ≡ true
        by true serves on =
            let goes : GoesOnAs t u = subst (λ (b : Bool). GoesOnAs (pick b t (mark t from)) u) serves on in
            let bad : true ≡ false = sym (goes.serving serves) ∙ rebuilt in
            absurd (cc)
        by false unserving on =
            let goes : GoesOnAs (mark t from) u = subst (λ (b : Bool). GoesOnAs (pick b t (mark t from)) u) unserving on in
            mark_here t u from (subst (λ (k : ℕ). from < k) (sym (is_table.reported ∙ ap (λ (k : Sizes). k.nodes) member.config)) on_link.sender) goes.reported

    pub reporter_marked : marked u from ≡ true
    reporter_marked = by (steps_are s ev c.disk p member.sound.places planned.goes)
      where
        by : StepIs s ev p → marked u from ≡ true
        by (step_refused reason same sends replies) =
            let first = report_is_taken s c.disk from m r is taken p (ap (λ (x : NodeEvent). nodestep s x c.disk) (sym is_event) ∙ planned.goes) in
            let bad : true ≡ false = sym first ∙ ap is_taken replies in
            absurd (cc)
        by (step_acts other in_view view tables said) =
            flags (table_at s q) refl (subst (λ (o : Option LockTable). TableGoesOn o (Some u)) heard_at (subst (TableGoesOn (heard s ev q)) at (tables q)))
        by (step_installs w asked may view tables sending) = let bad : Deliver from m ≡ Install w = sym is_event ∙ asked in absurd (cc)
