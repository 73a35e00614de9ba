-- A report that was sent for an era stays on its link until it is taken, and is marked then.
use Rattle.std.proofs.Common.{◌≡◌, ◌⊎◌, inl, inr, refl, sym, ap, subst, ◌∙◌, ℕ, ◌<◌, ◌≤◌, ◌==◌, not, Bool, true, false, List, [], ◌∷◌, Option, Some, None, is_some, option_map, arith}
use Rattle.std.specs.Prelude.{IfSome}
use Rattle.std.specs.List.{AllByRecursion}
use Rattle.std.proofs.lemmas.Bool.Decides.{nat_tests}
use Rattle.pcl_base.specs.Limits.{Sizes}
use Rattle.pcl_base.specs.declared.event.Event.{Event}
use Rattle.pcl_base.specs.declared.event.Event.TheVariants as event
use Rattle.pcl_base.specs.declared.lock.Verdict.{Verdict}
use Rattle.pcl_base.specs.declared.lock.Verdict.TheVariants as verdict
use Rattle.pcl_base.specs.declared.message.Body.{Body}
use Rattle.pcl_base.specs.declared.message.Body.TheVariants as body
use Rattle.pcl_base.specs.declared.message.Message.{Message}
use Rattle.pcl_base.specs.declared.message.Report.{Report}
use Rattle.run_rules.specs.Views.{View, since_of, owner_of}
use Rattle.rule_laws.proofs.Successors.{taken_is_between_law}
use Rattle.node_rules.specs.InstallRule.{owned_before}
use Rattle.node_rules.specs.Judging.{judge}
use Rattle.node_rules.specs.LockTable.{LockTable, mark, marked}
use Rattle.node_rules.specs.NodeState.{NodeState, NodeEvent, Deliver, Install, number_of, table_at}
use Rattle.node_rules.specs.NodeStep.{Plan, judge_in, partition_of, nodestep}
use Rattle.node_rules.specs.Words.{pick, head_of}
use Rattle.node_laws.specs.Nodes.{IsTable}
use Rattle.cluster_rules.specs.Clusters.{Cluster, node_at, last_view}
use Rattle.cluster_rules.specs.ClusterStep.{is_taken, step}
use Rattle.cluster_rules.specs.Links.{link_at, tail_of}
use Rattle.cluster_laws.specs.Sound.{IsMember, IsOnLink, IsCluster}
use Rattle.cluster_laws.proofs.Steps.{step_keeps_clusters_law, up_is_member_law}
use Rattle.cluster_laws.specs.Era.Counts.{is_dropped, counts_at, counts_in}
use Rattle.cluster_laws.specs.Era.EraLaws.{AreSameAt}
use Rattle.cluster_laws.specs.Era.Eras.{era_at, owner_at}
use Rattle.cluster_laws.proofs.EraParts.Ages.{steps_keep_eras_law, eras_are_reached_law, eras_have_one_owner_law}
use Rattle.cluster_laws.proofs.EraParts.Counted.{steps_count_less_law}
use Rattle.cluster_laws.proofs.EraParts.Lives.{members_know_eras_law}
use Rattle.cluster_laws.specs.Link.StepLaws.{IsPlanned, IsNodeStep, node_stays, node_acts, node_lost, node_starts, IsLinkStep, link_stays, link_gets, link_loses, link_cleared}
use Rattle.cluster_laws.proofs.LinkParts.Heads.{IsHead, handed_head}
use Rattle.cluster_laws.proofs.LinkParts.Nodes.{nodes_step_law}
use Rattle.cluster_laws.proofs.LinkParts.Stepped.{links_step_law, sizes_stay_law}
use Rattle.cluster_facts.specs.Reports.Reported.{IsReportOf, HasReport, HasTaken, TakenIn, IsOwed, IsReported}
use Rattle.cluster_facts.proofs.ReportsParts.Acted.{has_left, stands_pass}
use Rattle.cluster_facts.proofs.ReportsParts.Came.{HeardIs, heard_none, heard_report, heard_is}
use Rattle.cluster_facts.proofs.ReportsParts.Flags.{TableGoesOn, flagged, heard_by, heard, verdict_of}
use Rattle.cluster_facts.proofs.ReportsParts.Done.{DoneBy, Done}
use Rattle.cluster_facts.proofs.ReportsParts.Later.{is_view, follows_next}
use Rattle.cluster_facts.proofs.ReportsParts.Marking.{mark_keeps, mark_here, same_marks}
use Rattle.cluster_facts.proofs.ReportsParts.Owed.{IsOver, owed_view, owed_before, era_before}
use Rattle.cluster_facts.proofs.ReportsParts.Replies.{held_is_kept}
use Rattle.cluster_facts.proofs.ReportsParts.Stepping.{StepIs, step_refused, step_acts, step_installs, steps_are}
use Rattle.cluster_facts.proofs.ReportsParts.Walking.{GoesOnAs}

-- ---- flags that go on
abbrev Marks : LockTable → ℕ → Type 0
Marks t m = (t.serving ≡ true) ⊎ (marked t m ≡ true)

marks_on : (t u : LockTable) (m : ℕ) → GoesOnAs t u → Marks t m → Marks u m
marks_on t u m on (inl serves) = inl (on.serving serves)
marks_on t u m on (inr set) = inr (same_marks t u m on.reported ∙ set)

-- the table that there is, of one that went on
went_on : (o : Option LockTable) (t : LockTable) (m : ℕ) → TableGoesOn (Some t) o → Marks t m → (u : LockTable) × (o ≡ Some u) × Marks u m
went_on None t m on is = absurd on
went_on (Some u) t m on is = (u, refl, marks_on t u m on is)

heard_on : (s : NodeState) (ev : NodeEvent) (q m : ℕ) (t : LockTable) (o : Option LockTable) → table_at s q ≡ Some t → TableGoesOn (heard s ev q) o → Marks t m → (u : LockTable) × (o ≡ Some u) × Marks u m
heard_on s ev q m t o at on is = by (heard_is s ev q t at)
  where
    by : HeardIs s ev q t → (u : LockTable) × (o ≡ Some u) × Marks u m
    by (heard_none same) = went_on o t m (subst (λ (x : Option LockTable). TableGoesOn x o) same on) is
    by (heard_report from brings unserving same) = went_on o (mark t from) m (subst (λ (x : Option LockTable). TableGoesOn x o) same on) (marks is)
      where
        marks : Marks t m → Marks (mark t from) m
        marks (inl serves) = inl serves
        marks (inr set) = inr (mark_keeps t (mark t from) from m refl set)

-- ---- a step
module _ (c : Cluster) (e : Event) (i : IsCluster c) where
  after : IsCluster (step c e)
  after = step_keeps_clusters_law c e i

  pub same_at : (k : ℕ) → k ≤ (last_view c).epoch → AreSameAt c (step c e) k
  same_at k low = steps_keep_eras_law c e k i low

  -- what is owed after the step was owed before it
  pub owed_back : (a b q k : ℕ) → k ≤ (last_view c).epoch → IsOwed (step c e) a b q k → IsOwed c a b q k
  owed_back a b q k low owed =
      let same = same_at k low in
      let births = same.births a in
      let eras = same.eras q in
      let born = owed.born in
      record {
        other = owed.other;
        low = subst (λ (x : Sizes). q < x.nodes) (sizes_stay_law c e) owed.low;
        made = low;
        live = sym (same.lives a) ∙ owed.live;
        born = omega (arith, births, eras, born);
        owner = sym (same.owners q) ∙ owed.owner;
        counts = steps_count_less_law c e b a q k i low owed.counts;
      }

  module _ (a b q k : ℕ) (owed : IsOwed c a b q k) (owes : IsOwed (step c e) a b q k) where
    abbrev era : ℕ
    era = era_at c q k

    member_of : (s : NodeState) → node_at c b ≡ Some s → IsMember c.config c.views b s
    member_of s up = (up_is_member_law c b s i up).1

    era_low : era ≤ k
    era_low = eras_are_reached_law c q k i

    era_same : era_at c q era ≡ era
    era_same = era_before c i a b q k owed era (omega arith) era_low

    -- ---- the report is the head, and is taken
    module _ (s : NodeState) (ev : NodeEvent) (p : Plan) (planned : IsPlanned c e b s ev p) (m : Message) (is_event : ev ≡ Deliver a m) (epoch : m.epoch ≡ era) (report : IsReportOf q m.body)
        (on : IsOnLink c.config (last_view c).epoch a b m) (taken : is_taken p.replies ≡ true) (v : View) (there : s.view ≡ Some v) where
      member : IsMember c.config c.views b s
      member = member_of s planned.handed.up

      counted : not (is_dropped (judge v (number_of s) a era q)) ≡ true
      counted =
          subst (λ (o : Option View). counts_at s o a q era ≡ true) there
          (subst (λ (o : Option NodeState). counts_in o a q era ≡ true) planned.handed.up (owed_before c i a b q k owed era (omega arith) era_low).counts)

      -- the partition that the report speaks of
      speaks : (x : Body) → IsReportOf q x → (r : Report) × (x ≡ body.Report r) × (r.partition ≡ q)
      speaks (body.Report r) is = (r, refl, is)
      speaks (body.Request r) is = absurd is
      speaks (body.Grant r) is = absurd is
      speaks (body.Release r) is = absurd is
      speaks (body.Revoke r) is = absurd is
      speaks (body.Return r) is = absurd is

      says : (r : Report) × (m.body ≡ body.Report r) × (r.partition ≡ q)
      says = speaks m.body report

      verdict_is : verdict_of s a m ≡ judge v (number_of s) a era q
      verdict_is =
          ap (λ (o : Option View). judge_in o (number_of s) a m.epoch (partition_of s.home.config m.body)) there
          ∙ ap (λ (x : ℕ). judge v (number_of s) a m.epoch x) (ap (partition_of s.home.config) says.1 ∙ says.2) ∙ ap (λ (x : ℕ). judge v (number_of s) a x q) epoch

      verdict_taken : judge v (number_of s) a era q ≡ verdict.Taken
      verdict_taken = by (judge v (number_of s) a era q) refl counted
        where
          by : (x : Verdict) → judge v (number_of s) a era q ≡ x → not (is_dropped x) ≡ true → judge v (number_of s) a era q ≡ verdict.Taken
          by verdict.Taken is counts = is
          by verdict.Dropped is counts = absurd (cc)
          by verdict.Held is counts =
              let kept : is_taken p.replies ≡ false = held_is_kept s c.disk a m p (verdict_is ∙ is) (ap (λ (x : NodeEvent). nodestep s x c.disk) (sym is_event) ∙ planned.goes) in
              absurd (cc)

      upto : era ≤ v.epoch
      upto = ((taken_is_between_law v (number_of s) a era q).0 verdict_taken).reached

      over : IsOver c v a b q era
      over = owed_view c i a b q k owed s v planned.handed.up there upto

      -- the owner has a table
      low_here : q < s.home.config.nodes
      low_here = subst (λ (x : Sizes). q < x.nodes) (sym member.config) owed.low

      owns : (owner_of v q == number_of s) ≡ true
      owns =
          let knows = members_know_eras_law c b s v member there in
          let at = (is_view s member.sound v there).epoch in
          let owner = owner_of_view knows.owners in
          let number = member.number in
          grind (arith, nat_tests, owner, number)
        where
          owner_of_view : ((q : ℕ) → owner_at c q s.epoch ≡ owner_of v q) → owner_of v q ≡ b
          owner_of_view owners =
              let eras = (members_know_eras_law c b s v member there).eras q in
              let since = over.since in
              sym (owners q) ∙ eras_have_one_owner_law c q s.epoch k i (eras ∙ since) ∙ owed.owner

      has_table : (o : Option LockTable) → table_at s q ≡ o → (t : LockTable) × (table_at s q ≡ Some t)
      has_table (Some t) at = (t, at)
      has_table None at =
          let bad : false ≡ true =
          sym (ap (λ (o : Option LockTable). is_some o) at) ∙ member.sound.owned q low_here ∙ ap (λ (o : Option View). owned_before o q (number_of s)) there ∙ owns in
          absurd (cc)

      -- and marks the sender in it
      marked_after : (t : LockTable) → table_at s q ≡ Some t → TableGoesOn (heard s ev q) (table_at p.node q) → (u : LockTable) × (table_at p.node q ≡ Some u) × Marks u a
      marked_after t at goes = by t.serving refl
        where
          heard_at : heard s ev q ≡ Some (flagged a t)
          heard_at =
              ap (λ (x : NodeEvent). heard s x q) is_event ∙ ap (λ (x : Verdict). heard_by x a q m.body (table_at s q)) (verdict_is ∙ verdict_taken)
              ∙ ap (λ (x : Body). heard_by verdict.Taken a q x (table_at s q)) says.1 ∙ ap (λ (b : Bool). pick b (option_map (flagged a) (table_at s q)) (table_at s q)) same
              ∙ ap (λ (o : Option LockTable). option_map (flagged a) o) at
            where
              same : (says.0.partition == q) ≡ true
              same = let of = says.2 in grind (arith, nat_tests, of)

          is_table : IsTable s.home.config (number_of s) q t
          is_table = subst (λ (o : Option LockTable). IfSome o (IsTable s.home.config (number_of s) q)) at (member.sound.tables q low_here)

          by : (x : Bool) → t.serving ≡ x → (u : LockTable) × (table_at p.node q ≡ Some u) × Marks u a
          by true serves =
              went_on (table_at p.node q) t a (subst (λ (o : Option LockTable). TableGoesOn o (table_at p.node q)) (heard_at ∙ ap (λ (b : Bool). Some (pick b t (mark t a))) serves) goes) (inl serves)
          by false rebuilt =
              went_on (table_at p.node q) (mark t a) a (subst (λ (o : Option LockTable). TableGoesOn o (table_at p.node q)) (heard_at ∙ ap (λ (b : Bool). Some (pick b t (mark t a))) rebuilt) goes)
              (inr (mark_here t (mark t a) a (subst (λ (x : ℕ). a < x) (sym (is_table.reported ∙ ap (λ (x : Sizes). x.nodes) member.config)) on.sender) refl))

      has_taken : p.node.view ≡ s.view → TableGoesOn (heard s ev q) (table_at p.node q) → HasTaken q era a p.node
      has_taken view goes =
          let table = has_table (table_at s q) refl in
          let after = marked_after table.0 table.1 goes in
          record { view = v; there = view ∙ there; now = over.since; table = after.0; at = after.1; marks = after.2 }

    head_taken : (s : NodeState) (ev : NodeEvent) (p : Plan) → IsPlanned c e b s ev p → (m : Message) → ev ≡ Deliver a m → m.epoch ≡ era → IsReportOf q m.body → IsOnLink c.config (last_view c).epoch a b m → is_taken p.replies ≡ true
        → HasTaken q era a p.node
    head_taken s ev p planned m is_event epoch report on taken = by (steps_are s ev c.disk p (member_of s planned.handed.up).sound.places planned.goes)
      where
        seen : (o : Option View) → s.view ≡ o → is_some o ≡ true → p.node.view ≡ s.view → TableGoesOn (heard s ev q) (table_at p.node q) → HasTaken q era a p.node
        seen None there some view goes = absurd (cc)
        seen (Some v) there some view goes = has_taken s ev p planned m is_event epoch report on taken v there view goes

        by : StepIs s ev p → HasTaken q era a p.node
        by (step_refused r same sends replies) = let bad : true ≡ false = sym taken ∙ ap is_taken replies in absurd (cc)
        by (step_acts other in_view view tables said) = seen s.view refl in_view view (tables q)
        by (step_installs v is may view tables sending) = let bad : Deliver a m ≡ Install v = sym is_event ∙ is in absurd (cc)

    -- ---- the report was taken before
    taken_on : (s : NodeState) (ev : NodeEvent) (p : Plan) → IsPlanned c e b s ev p → node_at (step c e) b ≡ Some p.node → HasTaken q era a s → HasTaken q era a p.node
    taken_on s ev p planned now was = by (steps_are s ev c.disk p (member_of s planned.handed.up).sound.places planned.goes)
      where
        member : IsMember c.config c.views b s
        member = member_of s planned.handed.up

        -- a further view has the era too
        still : (w : View) → p.node.view ≡ Some w → was.view.epoch < w.epoch → since_of w q ≡ era
        still w view later =
            let same = (same_at k owed.made).eras q in
            let now_era = was.now in
            let upto = (is_view s member.sound was.view was.there).whole.since_upto q (subst (λ (x : Sizes). q < x.nodes) (sym member.config) owed.low) in
            (owed_view (step c e) after a b q k owes p.node w now view (omega (arith, same, now_era, upto, later))).since ∙ same

        installed : (w : View) → p.node.view ≡ Some w → was.view.epoch < w.epoch → Done s w q (table_at p.node q) → HasTaken q era a p.node
        installed w view later done =
            let since = still w view later in
            let on = went_on (table_at p.node q) was.table a (subst (λ (o : Option LockTable). TableGoesOn o (table_at p.node q)) was.at (subst (λ (x : Bool). DoneBy s w x q (table_at p.node q)) (old since) done)) was.marks in
            record { view = w; there = view; now = since; table = on.0; at = on.1; marks = on.2 }
          where
            old : since_of w q ≡ era → (since_of w q == w.epoch) ≡ false
            old since =
                let now_era = was.now in
                let upto = (is_view s member.sound was.view was.there).whole.since_upto q (subst (λ (x : Sizes). q < x.nodes) (sym member.config) owed.low) in
                grind (arith, nat_tests, since, now_era, upto, later)

        by : StepIs s ev p → HasTaken q era a p.node
        by (step_refused r same sends replies) = subst (HasTaken q era a) (sym same) was
        by (step_acts other in_view view tables said) =
            let on = heard_on s ev q a was.table (table_at p.node q) was.at (tables q) was.marks in
            record { view = was.view; there = view ∙ was.there; now = was.now; table = on.0; at = on.1; marks = on.2 }
        by (step_installs w is may view tables sending) =
            let next = follows_next s member.sound w may was.view was.there in
            let at = (is_view s member.sound was.view was.there).epoch in
            installed w view (omega (arith, next, at)) (tables q (subst (λ (x : Sizes). q < x.nodes) (sym member.config) owed.low))

    -- ---- both
    uncounted : node_at (step c e) b ≡ None → ⊥
    uncounted none = let bad : false ≡ true = sym (ap (λ (o : Option NodeState). counts_in o a q k) none) ∙ owes.counts in absurd (cc)

    kept_on_link : HasReport q era (link_at c.links a b) → IsReported (step c e) a b q era
    kept_on_link has = by (links_step_law c e a b i)
      where
        first : (ms : List Message) → link_at c.links a b ≡ ms → HasReport q era ms → (s : NodeState) (ev : NodeEvent) (p : Plan) → e ≡ event.Deliver a b → IsPlanned c e b s ev p → is_taken p.replies ≡ true
            → node_at (step c e) b ≡ Some p.node → link_at (step c e).links a b ≡ tail_of ms → IsReported (step c e) a b q era
        first [] at has s ev p is planned taken now same = absurd has
        first (m ∷ ms) at (inr rest) s ev p is planned taken now same = inl (subst (HasReport q era) (sym same) rest)
        first (m ∷ ms) at (inl here) s ev p is planned taken now same =
            let head : IsHead c a b ev = (handed_head c e a b b s ev i is planned.handed).0 in
            let both : Some m ≡ Some head.message = sym (ap (λ (xs : List Message). head_of xs) at) ∙ head.first in
            let one : m ≡ head.message = cc in
            let on : IsOnLink c.config (last_view c).epoch a b m = stands_pass (IsOnLink c.config (last_view c).epoch a b) (m ∷ ms) m (subst (λ (xs : List Message). AllByRecursion (IsOnLink c.config (last_view c).epoch a b) xs) at (i.links.messages a b)) (inl refl) in
            inr (subst (TakenIn q era a) (sym now) (head_taken s ev p planned m (head.event ∙ ap (Deliver a) (sym one)) here.0 here.1 on taken))

        by : IsLinkStep c e a b (node_at (step c e) a) (node_at (step c e) b) (link_at (step c e).links a b) → IsReported (step c e) a b q era
        by (link_stays same) = inl (subst (HasReport q era) (sym same) has)
        by (link_gets s ev p planned up from now same) = inl (subst (HasReport q era) (sym same) (has_left q era (link_at c.links a b) _ has))
        by (link_loses s ev p is planned taken now same) = first (link_at c.links a b) refl has s ev p is planned taken now same
        by (link_cleared now same) = absurd (uncounted now)

    kept_at_node : TakenIn q era a (node_at c b) → IsReported (step c e) a b q era
    kept_at_node taken = by (nodes_step_law c e b i)
      where
        by : IsNodeStep c e b (node_at (step c e) b) → IsReported (step c e) a b q era
        by (node_stays now) = inr (subst (TakenIn q era a) (sym now) taken)
        by (node_acts s ev p planned now) = inr (subst (TakenIn q era a) (sym now) (taken_on s ev p planned now (subst (TakenIn q era a) planned.handed.up taken)))
        by (node_lost now) = absurd (uncounted now)
        by (node_starts now down) = absurd (subst (TakenIn q era a) down taken)

    pub keeps_reported : IsReported c a b q era → IsReported (step c e) a b q era
    keeps_reported (inl has) = kept_on_link has
    keeps_reported (inr taken) = kept_at_node taken
