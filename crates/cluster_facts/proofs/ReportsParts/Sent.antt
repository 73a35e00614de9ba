-- A report that is owed in the epoch of a node, or of a message, was sent: through every step.
use Rattle.std.proofs.Common.{◌≡◌, ◌⊎◌, inl, inr, refl, sym, ap, subst, ◌∙◌, ℕ, ◌<◌, ◌≤◌, ◌==◌, ◌&&◌, Bool, true, false, List, [], Option, Some, None, is_some, arith, eqb-true}
use Rattle.std.specs.List.{AllByRecursion}
use Rattle.std.proofs.lemmas.Bool.Decides.{nat_tests}
use Rattle.pcl_base.specs.Limits.{Sizes}
use Rattle.pcl_base.specs.declared.event.Event.{Event}
use Rattle.pcl_base.specs.declared.message.Message.{Message}
use Rattle.run_rules.specs.Views.{View, since_of, owner_of}
use Rattle.node_rules.specs.NodeState.{NodeState, NodeEvent, Outgoing, start_node, number_of}
use Rattle.node_rules.specs.NodeStep.{Plan}
use Rattle.node_rules.specs.Refusals.{may_install}
use Rattle.node_rules.specs.Words.{pick}
use Rattle.node_laws.proofs.Lists.{all_weaker}
use Rattle.cluster_rules.specs.Clusters.{Cluster, node_at, is_up, last_view}
use Rattle.cluster_rules.specs.ClusterStep.{step}
use Rattle.cluster_rules.specs.Links.{link_at}
use Rattle.cluster_laws.specs.Epochs.{StaysInView, HasInstalled}
use Rattle.cluster_laws.specs.Laws.{IsGoodPlan}
use Rattle.cluster_laws.specs.Sound.{IsMember, IsOnLink, IsCluster}
use Rattle.cluster_laws.proofs.Epochs.{steps_keep_views_law}
use Rattle.cluster_laws.proofs.Steps.{up_is_member_law, plans_are_good_law}
use Rattle.cluster_laws.specs.Era.Counts.{counts_in}
use Rattle.cluster_laws.specs.Era.EraLaws.{KnowsEras}
use Rattle.cluster_laws.specs.Era.Eras.{era_at, born_at}
use Rattle.cluster_laws.proofs.EraParts.Ages.{eras_are_reached_law}
use Rattle.cluster_laws.proofs.EraParts.Lives.{members_know_eras_law}
use Rattle.cluster_laws.specs.Link.Coming.{sent_to, Stands}
use Rattle.cluster_laws.specs.Link.StepLaws.{IsPlanned, IsNodeStep, node_stays, node_acts, node_lost, node_starts, IsLinkStep, link_stays, link_gets, link_loses, link_cleared}
use Rattle.cluster_laws.proofs.LinkParts.Nodes.{nodes_step_law}
use Rattle.cluster_laws.proofs.LinkParts.Stepped.{links_step_law, sent_are_of_epoch_law}
use Rattle.cluster_facts.specs.Reports.Reported.{HasReport, IsOwed, IsReported}
use Rattle.cluster_facts.proofs.ReportsParts.Acted.{acted_links, has_right, out_has, stands_either, stands_tail, stands_pass}
use Rattle.cluster_facts.proofs.ReportsParts.Installing.{Sending}
use Rattle.cluster_facts.proofs.ReportsParts.Sending.{HasOut}
use Rattle.cluster_facts.proofs.ReportsParts.Keeping.{same_at, owed_back, keeps_reported}
use Rattle.cluster_facts.proofs.ReportsParts.Later.{is_view, begins, follows_next}
use Rattle.cluster_facts.proofs.ReportsParts.Owed.{owed_before, era_before}
use Rattle.cluster_facts.proofs.ReportsParts.Stepping.{StepIs, step_refused, step_acts, step_installs, steps_are}

-- what is kept
abbrev pub Viewed : Cluster → Type 0
Viewed c = (a b q : ℕ) (s : NodeState) → node_at c a ≡ Some s → is_some s.view ≡ true → IsOwed c a b q s.epoch → IsReported c a b q (era_at c q s.epoch)

abbrev pub Sent : Cluster → Type 0
Sent c = (a b q : ℕ) (m : Message) → Stands (link_at c.links a b) m → IsOwed c a b q m.epoch → IsReported c a b q (era_at c q m.epoch)

module _ (c : Cluster) (e : Event) (i : IsCluster c) (viewed : Viewed c) where
  -- what was reported before is so after the step
  goes_on : (a b q k : ℕ) → k ≤ (last_view c).epoch → IsOwed (step c e) a b q k → (IsOwed c a b q k → IsReported c a b q (era_at c q k)) → IsReported (step c e) a b q (era_at (step c e) q k)
  goes_on a b q k low owes was =
      let owed = owed_back c e i a b q k low owes in
      subst (IsReported (step c e) a b q) (sym ((same_at c e i k low).eras q)) (keeps_reported c e i a b q k owed owes (was owed))

  -- a node that stays in its view
  module _ (a b q : ℕ) (s : NodeState) (up : node_at c a ≡ Some s) (seen : is_some s.view ≡ true) where
    member : IsMember c.config c.views a s
    member = (up_is_member_law c a s i up).1

    stays : IsOwed (step c e) a b q s.epoch → IsReported (step c e) a b q (era_at (step c e) q s.epoch)
    stays owes = goes_on a b q s.epoch member.reached owes (λ owed. viewed a b q s up seen owed)

  -- a node that installs a view
  module _ (a b q : ℕ) (s : NodeState) (ev : NodeEvent) (p : Plan) (planned : IsPlanned c e a s ev p) (now : node_at (step c e) a ≡ Some p.node) (w : View) (may : may_install s s.view w ≡ true) (view : p.node.view ≡ Some w)
      (sending : Sending s w s.home.config.nodes p.sends) (owes : IsOwed (step c e) a b q p.node.epoch) where
    source : IsMember c.config c.views a s
    source = (up_is_member_law c a s i planned.handed.up).1

    good : IsGoodPlan c a s ev p
    good = plans_are_good_law c e a s ev p i planned.handed planned.goes

    knows : KnowsEras c a p.node w
    knows = members_know_eras_law c a p.node w good.member view

    epoch : w.epoch ≡ p.node.epoch
    epoch = (is_view p.node good.member.sound w view).epoch

    owed : IsOwed c a b q p.node.epoch
    owed = owed_back c e i a b q p.node.epoch good.member.reached owes

    epochs : AllByRecursion (λ (m : Message). m.epoch ≡ p.node.epoch) (sent_to b p.sends)
    epochs =
        all_weaker (λ (m : Message). IsOnLink c.config (last_view c).epoch a b m × (m.epoch ≡ p.node.epoch)) (λ (m : Message). m.epoch ≡ p.node.epoch) (λ m is. is.1) (sent_to b p.sends)
        (sent_are_of_epoch_law c e a s ev p b i planned)

    receiver_up : is_up c b ≡ true
    receiver_up = by (node_at c b) owed.counts
      where
        by : (o : Option NodeState) → counts_in o a q p.node.epoch ≡ true → is_some o ≡ true
        by None counts = absurd (cc)
        by (Some r) counts = refl

    -- the owner is new, and is told
    told : (since_of w q == w.epoch) ≡ true → IsReported (step c e) a b q (era_at c q p.node.epoch)
    told new = inl (subst (HasReport q (era_at c q p.node.epoch)) (sym (acted_links c e i a s ev p planned p.node now a b)) (has_right q (era_at c q p.node.epoch) _ _ sent))
      where
        owner : owner_of w q ≡ b
        owner = sym (knows.owners q) ∙ owed.owner

        other : (owner_of w q == number_of s) ≡ false
        other = by (owner_of w q == number_of s) refl
          where
            by : (x : Bool) → (owner_of w q == number_of s) ≡ x → (owner_of w q == number_of s) ≡ false
            by false is = is
            by true is = absurd (owed.other (sym source.number ∙ sym (eqb-true (owner_of w q) (number_of s) is) ∙ owner))

        same : p.node.epoch ≡ era_at c q p.node.epoch
        same = let at = epoch in let eras = knows.eras q in grind (arith, nat_tests, new, at, eras)

        sends : a == a && is_up c b ≡ true
        sends = let up = receiver_up in grind (arith, nat_tests, up)

        sent : HasReport q (era_at c q p.node.epoch) (pick (a == a && is_up c b) (sent_to b p.sends) [])
        sent =
            subst (λ (x : Bool). HasReport q (era_at c q p.node.epoch) (pick x (sent_to b p.sends) [])) (sym sends)
            (subst (λ (k : ℕ). HasReport q k (sent_to b p.sends)) same
            (out_has q p.node.epoch b p.sends epochs
            (subst (λ (k : ℕ). HasOut k q p.sends) owner (sending.told q (subst (λ (x : Sizes). q < x.nodes) (sym source.config) owed.low) new other))))

    -- the era goes on from the view before
    before : (since_of w q == w.epoch) ≡ false → IsOwed c a b q p.node.epoch → IsReported c a b q (era_at c q p.node.epoch)
    before old owed = by s.view refl
      where
        below : era_at c q p.node.epoch < p.node.epoch
        below =
            let at = epoch in
            let eras = knows.eras q in
            let upto = eras_are_reached_law c q p.node.epoch i in
            grind (arith, nat_tests, old, at, eras, upto)

        by : (o : Option View) → s.view ≡ o → IsReported c a b q (era_at c q p.node.epoch)
        by None none =
            let born = begins s source.sound w may none in
            let at = epoch in
            let births = knows.births (number_of s) in
            let number = source.number in
            let was : born_at c (number_of s) p.node.epoch ≤ era_at c q p.node.epoch = subst (λ (n : ℕ). born_at c n p.node.epoch ≤ era_at c q p.node.epoch) (sym number) owed.born in
            let under = below in
            absurd (omega (arith, born, at, births, was, under))
        by (Some v) there =
            let next = follows_next s source.sound w may v there in
            let at = epoch in
            let under = below in
            let low : era_at c q p.node.epoch ≤ s.epoch = omega (arith, next, at, under) in
            let upto : s.epoch ≤ p.node.epoch = omega (arith, next, at) in
            subst (IsReported c a b q) (era_before c i a b q p.node.epoch owed s.epoch low upto)
            (viewed a b q s planned.handed.up (ap (λ (o : Option View). is_some o) there) (owed_before c i a b q p.node.epoch owed s.epoch low upto))

    installs : IsReported (step c e) a b q (era_at (step c e) q p.node.epoch)
    installs = by (since_of w q == w.epoch) refl
      where
        by : (x : Bool) → (since_of w q == w.epoch) ≡ x → IsReported (step c e) a b q (era_at (step c e) q p.node.epoch)
        by true new = subst (IsReported (step c e) a b q) (sym ((same_at c e i p.node.epoch good.member.reached).eras q)) (told new)
        by false old = goes_on a b q p.node.epoch good.member.reached owes (before old)

  -- a node that acts
  acts : (a b q : ℕ) (s : NodeState) (ev : NodeEvent) (p : Plan) → IsPlanned c e a s ev p → node_at (step c e) a ≡ Some p.node → is_some p.node.view ≡ true → IsOwed (step c e) a b q p.node.epoch
      → IsReported (step c e) a b q (era_at (step c e) q p.node.epoch)
  acts a b q s ev p planned now seen owes = by (steps_are s ev c.disk p (up_is_member_law c a s i planned.handed.up).1.sound.places planned.goes)
    where
      same_epoch : is_some s.view ≡ true → p.node.epoch ≡ s.epoch → IsReported (step c e) a b q (era_at (step c e) q p.node.epoch)
      same_epoch in_view same =
          subst (λ (k : ℕ). IsReported (step c e) a b q (era_at (step c e) q k)) (sym same) (stays a b q s planned.handed.up in_view (subst (IsOwed (step c e) a b q) same owes))

      by : StepIs s ev p → IsReported (step c e) a b q (era_at (step c e) q p.node.epoch)
      by (step_refused r same sends replies) = same_epoch (ap (λ (x : NodeState). is_some x.view) (sym same) ∙ seen) (ap (λ (x : NodeState). x.epoch) same)
      by (step_acts other in_view view tables said) = same_epoch in_view (of (steps_keep_views_law s ev c.disk p planned.goes))
        where
          of : StaysInView s p.node ⊎ HasInstalled s ev p.node → p.node.epoch ≡ s.epoch
          of (inl x) = x.epoch
          of (inr x) = absurd (other x.next x.asked)
      by (step_installs w is may view tables sending) = installs a b q s ev p planned now w may view sending owes

  pub step_viewed : Viewed (step c e)
  unfolding start_node
  step_viewed a b q s' up seen owes = by (nodes_step_law c e a i)
    where
      by : IsNodeStep c e a (node_at (step c e) a) → IsReported (step c e) a b q (era_at (step c e) q s'.epoch)
      by (node_stays now) = stays a b q s' (sym now ∙ up) seen owes
      by (node_acts s ev p planned now) =
          let both : Some p.node ≡ Some s' = sym now ∙ up in
          let same : p.node ≡ s' = cc in
          subst (λ (x : NodeState). IsReported (step c e) a b q (era_at (step c e) q x.epoch)) same
          (acts a b q s ev p planned now (ap (λ (x : NodeState). is_some x.view) same ∙ seen) (subst (λ (x : NodeState). IsOwed (step c e) a b q x.epoch) (sym same) owes))
      by (node_lost now) = let bad : None ≡ Some s' = sym now ∙ up in absurd (cc)
      by (node_starts now down) =
          let both : Some (start_node c.config a (last_view c).epoch) ≡ Some s' = sym now ∙ up in
          let same : start_node c.config a (last_view c).epoch ≡ s' = cc in
          let bad : false ≡ true = ap (λ (x : NodeState). is_some x.view) same ∙ seen in
          absurd (cc)

  -- ---- messages
  pub step_sent : Sent c → Sent (step c e)
  unfolding sent_to
  step_sent sent a b q m at owes = by (links_step_law c e a b i)
    where
      old : Stands (link_at c.links a b) m → IsReported (step c e) a b q (era_at (step c e) q m.epoch)
      old before =
          let on = stands_pass (IsOnLink c.config (last_view c).epoch a b) (link_at c.links a b) m (i.links.messages a b) before in
          goes_on a b q m.epoch on.epoch owes (λ owed. sent a b q m before owed)

      new : (s : NodeState) (ev : NodeEvent) (p : Plan) → IsPlanned c e a s ev p → node_at (step c e) a ≡ Some p.node → Stands (sent_to b p.sends) m → IsReported (step c e) a b q (era_at (step c e) q m.epoch)
      new s ev p planned now after =
          subst (λ (k : ℕ). IsReported (step c e) a b q (era_at (step c e) q k)) (sym epoch)
          (acts a b q s ev p planned now (seen (steps_are s ev c.disk p (up_is_member_law c a s i planned.handed.up).1.sound.places planned.goes)) (subst (IsOwed (step c e) a b q) epoch owes))
        where
          epoch : m.epoch ≡ p.node.epoch
          epoch =
              (stands_pass (λ (x : Message). IsOnLink c.config (last_view c).epoch a b x × (x.epoch ≡ p.node.epoch)) (sent_to b p.sends) m (sent_are_of_epoch_law c e a s ev p b i planned) after).1

          seen : StepIs s ev p → is_some p.node.view ≡ true
          seen (step_refused r same sends replies) = absurd (subst (λ (os : List Outgoing). Stands (sent_to b os) m) sends after)
          seen (step_acts other in_view view tables said) = ap (λ (o : Option View). is_some o) view ∙ in_view
          seen (step_installs w is may view tables sending) = ap (λ (o : Option View). is_some o) view

      either : (s : NodeState) (ev : NodeEvent) (p : Plan) → IsPlanned c e a s ev p → node_at (step c e) a ≡ Some p.node → Stands (link_at c.links a b) m ⊎ Stands (sent_to b p.sends) m → IsReported (step c e) a b q (era_at (step c e) q m.epoch)
      either s ev p planned now (inl before) = old before
      either s ev p planned now (inr after) = new s ev p planned now after

      by : IsLinkStep c e a b (node_at (step c e) a) (node_at (step c e) b) (link_at (step c e).links a b) → IsReported (step c e) a b q (era_at (step c e) q m.epoch)
      by (link_stays same) = old (subst (λ (ms : List Message). Stands ms m) same at)
      by (link_gets s ev p planned up from now same) = either s ev p planned from (stands_either (link_at c.links a b) (sent_to b p.sends) m (subst (λ (ms : List Message). Stands ms m) same at))
      by (link_loses s ev p is planned taken now same) = old (stands_tail (link_at c.links a b) m (subst (λ (ms : List Message). Stands ms m) same at))
      by (link_cleared now same) = absurd (subst (λ (ms : List Message). Stands ms m) same at)
