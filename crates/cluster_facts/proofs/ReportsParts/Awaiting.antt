-- A table that is being rebuilt doesn't mark a node whose report for its era is on the way, through every step.
use Rattle.std.proofs.Common.{◌≡◌, ◌≢◌, ◌⊎◌, inl, inr, refl, sym, ap, subst, ◌∙◌, ℕ, ◌<◌, ◌≤◌, ◌==◌, ◌&&◌, Bool, true, false, List, [], ◌∷◌, Option, Some, None, arith, eqb-true}
use Rattle.std.specs.List.{AllByRecursion, filter}
use Rattle.pcl_base.specs.Limits.{Sizes}
use Rattle.pcl_base.specs.declared.event.Event.{Event}
use Rattle.pcl_base.specs.declared.lock.Verdict.TheVariants as verdict
use Rattle.pcl_base.specs.declared.message.Message.{Message}
use Rattle.run_rules.specs.Views.{View, since_of}
use Rattle.rule_laws.specs.LaterViews.{IsBetween}
use Rattle.rule_laws.proofs.Successors.{taken_is_between_law}
use Rattle.node_rules.specs.Judging.{judge}
use Rattle.node_rules.specs.LockTable.{marked}
use Rattle.node_rules.specs.NodeState.{NodeState, NodeEvent, Deliver, Outgoing, start_node, number_of, table_at}
use Rattle.node_rules.specs.NodeStep.{Plan, judge_in, partition_of, nodestep}
use Rattle.node_rules.specs.Words.{pick, head_of}
use Rattle.node_rules.specs.Work.{Goes}
use Rattle.node_laws.proofs.Lists.{all_weaker}
use Rattle.cluster_rules.specs.Clusters.{Cluster, node_at, is_up, last_view}
use Rattle.cluster_rules.specs.ClusterStep.{is_taken, step}
use Rattle.cluster_rules.specs.Links.{link_at, tail_of}
use Rattle.cluster_laws.specs.Handed.{IsHanded}
use Rattle.cluster_laws.specs.Laws.{IsGoodPlan}
use Rattle.cluster_laws.specs.Sound.{IsOnLink, IsCluster}
use Rattle.cluster_laws.proofs.Steps.{step_keeps_clusters_law, up_is_member_law, plans_are_good_law}
use Rattle.cluster_laws.specs.Link.Coming.{sent_to, delivers}
use Rattle.cluster_laws.specs.Link.Orders.{is_report, AreOrdered}
use Rattle.cluster_laws.specs.Link.StepLaws.{IsPlanned, IsNodeStep, node_stays, node_acts, node_lost, node_starts, IsLinkStep, link_stays, link_gets, link_loses, link_cleared}
use Rattle.cluster_laws.proofs.LinkParts.Nodes.{nodes_step_law}
use Rattle.cluster_laws.proofs.LinkParts.Stepped.{links_step_law, sizes_stay_law, sent_are_of_epoch_law}
use Rattle.cluster_facts.proofs.WaitingParts.Coming.{delivered}
use Rattle.cluster_facts.specs.Reports.Reported.{asks_of, IsReportOf, HasReport, EraReached, ReportsComeFirst, MarksAreReached, UnmarkedAreAwaited}
use Rattle.cluster_facts.proofs.ReportsParts.Acted.{acted_links, has_either, has_rest, has_tail, has_some, report_of, sent_pass}
use Rattle.cluster_facts.proofs.ReportsParts.Came.{Brings, Came, came_on, came_heard, came_new, came_is}
use Rattle.cluster_facts.proofs.ReportsParts.Heads.{handed_delivers, report_asks, ordered_has, ordered_behind}
use Rattle.cluster_facts.proofs.ReportsParts.Later.{is_view, install_later}
use Rattle.cluster_facts.proofs.ReportsParts.Marking.{mark_of, same_marks, new_marks}
use Rattle.cluster_facts.proofs.ReportsParts.Replies.{report_is_taken}
use Rattle.cluster_facts.proofs.ReportsParts.Stepping.{StepIs, step_refused, step_acts, step_installs, steps_are}

true_is : (b : Bool) → b ≡ true → b ≡ false → ⊥
true_is b t f = absurd (cc)

-- a report that a node sends is of a later epoch than the node's before
pub sent_later : (c : Cluster) (e : Event) (i : IsCluster c) (m n q era : ℕ) (s : NodeState) (p : Plan) (ev : NodeEvent) → IsPlanned c e m s ev p → HasReport q era (sent_to n p.sends) → s.epoch < era
unfolding sent_to
sent_later c e i m n q era s p ev planned has = by (steps_are s ev c.disk p (up_is_member_law c m s i planned.handed.up).1.sound.places planned.goes)
  where
    epochs : AllByRecursion (λ (x : Message). x.epoch ≡ p.node.epoch) (sent_to n p.sends)
    epochs =
        all_weaker (λ (x : Message). IsOnLink c.config (last_view c).epoch m n x × (x.epoch ≡ p.node.epoch)) (λ (x : Message). x.epoch ≡ p.node.epoch) (λ x is. is.1) (sent_to n p.sends)
        (sent_are_of_epoch_law c e m s ev p n i planned)

    by : StepIs s ev p → s.epoch < era
    by (step_refused r same sends replies) = absurd (subst (λ (os : List Outgoing). HasReport q era (sent_to n os)) sends has)
    by (step_acts other seen view tables said) =
        let some = has_some q era (λ (x : Message). is_report x.body ≡ false) (sent_to n p.sends) (sent_pass (λ (x : Message). is_report x.body ≡ false) n p.sends said) has in
        absurd (true_is (is_report some.0.body) (report_of q some.0.body some.3) some.1)
    by (step_installs v is may view tables sending) =
        let good : IsGoodPlan c m s ev p = plans_are_good_law c e m s ev p i planned.handed planned.goes in
        let some = has_some q era (λ (x : Message). x.epoch ≡ p.node.epoch) (sent_to n p.sends) epochs has in
        let epoch = some.1 in
        let at_era = some.2 in
        let at = (is_view p.node good.member.sound v view).epoch in
        let later = install_later s good.step.sound v may in
        omega (arith, epoch, at_era, at, later)

module _ (c : Cluster) (e : Event) (i : IsCluster c) (first : ReportsComeFirst c) (marks : MarksAreReached c) (awaited : UnmarkedAreAwaited c) where
  -- behind a report that is taken stands no other one of the era
  none_behind : (n : ℕ) (s : NodeState) (ev : NodeEvent) (p : Plan) (v : View) (q from : ℕ) → IsPlanned c e n s ev p → s.view ≡ Some v → Brings s ev q from
      → HasReport q (since_of v q) (pick (delivers e from n && is_taken p.replies) (tail_of (link_at c.links from n)) (link_at c.links from n)) → ⊥
  none_behind n s ev p v q from planned there brings has = by (link_at c.links from n) refl behind
    where
      handed : IsHanded c e n s (Deliver from brings.message)
      handed = subst (λ (x : NodeEvent). IsHanded c e n s x) brings.event planned.handed

      goes : nodestep s (Deliver from brings.message) c.disk ≡ Goes p
      goes = ap (λ (x : NodeEvent). nodestep s x c.disk) (sym brings.event) ∙ planned.goes

      both : delivers e from n && is_taken p.replies ≡ true
      both =
          let first = handed_delivers c e n s from brings.message handed in
          let second = report_is_taken s c.disk from brings.message brings.report brings.body brings.taken p goes in
          (rw (first, second) refl)

      behind : HasReport q (since_of v q) (tail_of (link_at c.links from n))
      behind = subst (λ (x : Bool). HasReport q (since_of v q) (pick x (tail_of (link_at c.links from n)) (link_at c.links from n))) both has

      judged : judge v (number_of s) from brings.message.epoch q ≡ verdict.Taken
      judged =
          sym (ap (λ (o : Option View). judge_in o (number_of s) from brings.message.epoch q) there)
          ∙ sym (ap (λ (k : ℕ). judge_in s.view (number_of s) from brings.message.epoch k) (ap (partition_of s.home.config) brings.body ∙ brings.of)) ∙ brings.taken

      between : IsBetween v (number_of s) from brings.message.epoch q
      between = (taken_is_between_law v (number_of s) from brings.message.epoch q).0 judged

      by : (ms : List Message) → link_at c.links from n ≡ ms → HasReport q (since_of v q) (tail_of ms) → ⊥
      by [] at has = has
      by (x ∷ ms) at has =
          let head : Some x ≡ Some brings.message = sym (ap (λ (xs : List Message). head_of xs) at) ∙ delivered c e n s from brings.message handed in
          let same : x ≡ brings.message = cc in
          let asks : asks_of c.config q x.body ≡ true = ap (λ (y : Message). asks_of c.config q y.body) same ∙ report_asks c.config q brings.message.body (subst (IsReportOf q) (sym brings.body) brings.of) in
          let ordered : AreOrdered x.epoch (filter (λ (m : Message). asks_of c.config q m.body) ms) =
          ordered_behind c.config q x ms asks (subst (λ (xs : List Message). AreOrdered 0 (filter (λ (m : Message). asks_of c.config q m.body) xs)) at (first from n q)) in
          let after : x.epoch < since_of v q = ordered_has c.config q (since_of v q) x.epoch ms ordered has in
          let owned : since_of v q ≤ brings.message.epoch = between.owned in
          let epoch : x.epoch ≡ brings.message.epoch = ap (λ (y : Message). y.epoch) same in
          absurd (omega (arith, after, owned, epoch))

  pub step_awaited : UnmarkedAreAwaited (step c e)
  unfolding start_node
  step_awaited n s' w q u m up view low there rebuilt has = by (marked u m) refl
    where
      low_before : q < c.config.nodes
      low_before = subst (λ (k : Sizes). q < k.nodes) (sizes_stay_law c e) low

      -- the receiver doesn't act
      waits : node_at c n ≡ Some s' → marked u m ≡ true → ⊥
      waits here set = of (links_step_law c e m n i)
        where
          was : HasReport q (since_of w q) (link_at c.links m n) → ⊥
          was before = true_is (marked u m) set (awaited n s' w q u m here view low_before there rebuilt before)

          sent : (s : NodeState) (ev : NodeEvent) (p : Plan) → IsPlanned c e m s ev p → HasReport q (since_of w q) (sent_to n p.sends) → ⊥
          sent s ev p planned new =
              let later = sent_later c e i m n q (since_of w q) s p ev planned new in
              let reached = subst (EraReached (since_of w q)) planned.handed.up ((marks n s' w q u here view low_before there rebuilt).reached m set) in
              absurd (omega (arith, later, reached))

          either : (s : NodeState) (ev : NodeEvent) (p : Plan) → IsPlanned c e m s ev p → HasReport q (since_of w q) (link_at c.links m n) ⊎ HasReport q (since_of w q) (sent_to n p.sends) → ⊥
          either s ev p planned (inl old) = was old
          either s ev p planned (inr new) = sent s ev p planned new

          of : IsLinkStep c e m n (node_at (step c e) m) (node_at (step c e) n) (link_at (step c e).links m n) → ⊥
          of (link_stays same) = was (subst (HasReport q (since_of w q)) same has)
          of (link_gets s ev p planned up' from now same) = either s ev p planned (has_either q (since_of w q) (link_at c.links m n) (sent_to n p.sends) (subst (HasReport q (since_of w q)) same has))
          of (link_loses s ev p is planned taken now same) = was (has_tail q (since_of w q) (link_at c.links m n) (subst (HasReport q (since_of w q)) same has))
          of (link_cleared now same) = absurd (subst (HasReport q (since_of w q)) same has)

      -- a message comes from another node
      others : m ≢ n
      others =
          (has_some q (since_of w q) (IsOnLink (step c e).config (last_view (step c e)).epoch m n) (link_at (step c e).links m n) ((step_keeps_clusters_law c e i).links.messages m n) has).1.others

      acts : (s : NodeState) (ev : NodeEvent) (p : Plan) → IsPlanned c e n s ev p → node_at (step c e) n ≡ Some p.node → marked u m ≡ true → ⊥
      acts s ev p planned now set = of (came_is c e i n s ev p planned w (ap (λ (x : NodeState). x.view) same ∙ view) q low_before u (ap (λ (x : NodeState). table_at x q) same ∙ there) rebuilt)
        where
          same : p.node ≡ s'
          same = (let both : Some p.node ≡ Some s' = sym now ∙ up in cc)

          rest : HasReport q (since_of w q) (pick (delivers e m n && is_taken p.replies) (tail_of (link_at c.links m n)) (link_at c.links m n))
          rest =
              left
              (has_either q (since_of w q) (pick (delivers e m n && is_taken p.replies) (tail_of (link_at c.links m n)) (link_at c.links m n)) (pick (m == n && is_up c n) (sent_to n p.sends) [])
              (subst (HasReport q (since_of w q)) (acted_links c e i n s ev p planned p.node now m n) has))
            where
              none : (x y : Bool) → (m == n) ≡ x → HasReport q (since_of w q) (pick (x && y) (sent_to n p.sends) []) → ⊥
              none true y t h = others (eqb-true m n t)
              none false y t h = h

              left : HasReport q (since_of w q) (pick (delivers e m n && is_taken p.replies) (tail_of (link_at c.links m n)) (link_at c.links m n))
                  ⊎ HasReport q (since_of w q) (pick (m == n && is_up c n) (sent_to n p.sends) [])
                  → HasReport q (since_of w q) (pick (delivers e m n && is_taken p.replies) (tail_of (link_at c.links m n)) (link_at c.links m n))
              left (inl h) = h
              left (inr h) = absurd (none (m == n) (is_up c n) refl h)

          before : HasReport q (since_of w q) (link_at c.links m n)
          before = has_rest q (since_of w q) (delivers e m n && is_taken p.replies) (link_at c.links m n) rest

          of : Came s ev n q w u → ⊥
          of (came_on v t viewed at unserved flags era) =
              true_is (marked t m) (sym (same_marks t u m flags) ∙ set)
              (awaited n s v q t m planned.handed.up viewed low_before at unserved (subst (λ (k : ℕ). HasReport q k (link_at c.links m n)) (sym era) before))
          of (came_heard v t from viewed at unserved brings flags era) = each (mark_of t u from m flags set)
            where
              each : (m ≡ from) ⊎ (marked t m ≡ true) → ⊥
              each (inl is) =
                  none_behind n s ev p v q from planned viewed brings
                  (subst (λ (k : ℕ). HasReport q (since_of v q) (pick (delivers e k n && is_taken p.replies) (tail_of (link_at c.links k n)) (link_at c.links k n))) is
                  (subst (λ (k : ℕ). HasReport q k (pick (delivers e m n && is_taken p.replies) (tail_of (link_at c.links m n)) (link_at c.links m n))) (sym era) rest))
              each (inr is) =
                  true_is (marked t m) is (awaited n s v q t m planned.handed.up viewed low_before at unserved (subst (λ (k : ℕ). HasReport q k (link_at c.links m n)) (sym era) before))
          of (came_new event new is) = others (new_marks n m u is set)

      step_of : marked u m ≡ true → IsNodeStep c e n (node_at (step c e) n) → ⊥
      step_of set (node_stays now) = waits (sym now ∙ up) set
      step_of set (node_acts s ev p planned now) = acts s ev p planned now set
      step_of set (node_lost now) = let bad : None ≡ Some s' = sym now ∙ up in absurd (cc)
      step_of set (node_starts now down) =
          let both : Some (start_node c.config n (last_view c).epoch) ≡ Some s' = sym now ∙ up in
          let same : start_node c.config n (last_view c).epoch ≡ s' = cc in
          let bad : None ≡ Some w = ap (λ (x : NodeState). x.view) same ∙ view in
          absurd (cc)

      by : (x : Bool) → marked u m ≡ x → marked u m ≡ false
      by false is = is
      by true is = absurd (step_of is (nodes_step_law c e n i))
