-- A report of a partition comes first in its epoch on its link, through every step.
use Rattle.std.proofs.Common.{◌≡◌, ◌⊎◌, inl, inr, refl, sym, ap, subst, ◌∙◌, ℕ, suc, ◌<◌, ◌≤◌, ◌==◌, cond, Bool, true, false, List, [], ◌∷◌, Option, Some, arith}
use Rattle.std.specs.Prelude.{IfSome}
use Rattle.std.specs.List.{filter, AllByRecursion}
use Rattle.pcl_base.specs.Limits.{Sizes}
use Rattle.pcl_base.specs.declared.event.Event.{Event}
use Rattle.pcl_base.specs.declared.message.Body.{Body}
use Rattle.pcl_base.specs.declared.message.Body.TheVariants as body
use Rattle.pcl_base.specs.declared.message.Message.{Message}
use Rattle.node_rules.specs.NodeState.{NodeState, NodeEvent, Outgoing}
use Rattle.node_rules.specs.NodeStep.{Plan}
use Rattle.node_rules.specs.Words.{pick}
use Rattle.node_laws.proofs.Lists.{all_filter, all_weaker}
use Rattle.cluster_rules.specs.Clusters.{Cluster, node_at, last_view}
use Rattle.cluster_rules.specs.ClusterStep.{step}
use Rattle.cluster_rules.specs.Links.{link_at, tail_of}
use Rattle.cluster_laws.specs.Epochs.{StaysInView}
use Rattle.cluster_laws.specs.Sound.{IsOnLink, IsCluster}
use Rattle.cluster_laws.specs.Laws.{IsGoodPlan}
use Rattle.cluster_laws.proofs.Steps.{up_is_member_law, plans_are_good_law}
use Rattle.cluster_facts.proofs.ReportsParts.Later.{is_view, install_later}
use Rattle.cluster_laws.specs.Link.Coming.{sent_to}
use Rattle.cluster_laws.specs.Link.EpochLaws.{IsInOrder}
use Rattle.cluster_laws.specs.Link.Orders.{is_report, AreOrdered, last_epoch}
use Rattle.cluster_laws.specs.Link.StepLaws.{IsPlanned, IsLinkStep, link_stays, link_gets, link_loses, link_cleared}
use Rattle.cluster_laws.proofs.LinkParts.Ordered.{ordered_from_lower_law, ordered_at_the_end_law, ordered_among_some_law, some_at_the_end_law}
use Rattle.cluster_laws.proofs.LinkParts.Rising.{epochs_go_on_law}
use Rattle.cluster_laws.proofs.LinkParts.Stepped.{links_step_law, sizes_stay_law, sent_are_of_epoch_law}
use Rattle.cluster_facts.specs.Reports.Reported.{asks_of, ReportsComeFirst}
use Rattle.cluster_facts.proofs.ReportsParts.Acted.{sent_pass}
use Rattle.cluster_facts.proofs.ReportsParts.Sending.{is_request, one_report, reports_of}
use Rattle.cluster_facts.proofs.ReportsParts.Stepping.{StepIs, step_refused, step_acts, step_installs, steps_are}

-- ---- lists of messages
last_upto : (e low : ℕ) (ms : List Message) → low ≤ e → AllByRecursion (λ (m : Message). m.epoch ≤ e) ms → last_epoch low ms ≤ e
last_upto e low [] le all = le
last_upto e low (m ∷ ms) le all = last_upto e m.epoch ms all.0 all.1

-- messages of one epoch without reports
plain_ordered : (e low : ℕ) (ms : List Message) → low ≤ e → AllByRecursion (λ (m : Message). m.epoch ≡ e) ms → AllByRecursion (λ (m : Message). is_report m.body ≡ false) ms → AreOrdered low ms
plain_ordered e low [] le all none = tt
plain_ordered e low (m ∷ ms) le all none =
    let epoch : m.epoch ≡ e = all.0 in
    (subst (λ (b : Bool). pick b (suc low) low ≤ m.epoch) (sym none.0) (omega (arith, le, epoch)), plain_ordered e m.epoch ms (omega (arith, epoch)) all.1 none.1)

-- a test that only one message passes
abbrev asks : Sizes → ℕ → Message → Bool
asks c q m = asks_of c q m.body

-- a report, or nothing that asks
asks_some : (c : Sizes) (q : ℕ) (b : Body) → is_request b ≡ false → ((asks_of c q b ≡ true) × (one_report q b ≡ 1)) ⊎ (asks_of c q b ≡ false)
asks_some c q (body.Request r) is = absurd (cc)
asks_some c q (body.Grant g) is = inr refl
asks_some c q (body.Release r) is = inr refl
asks_some c q (body.Revoke p) is = inr refl
asks_some c q (body.Return r) is = inr refl
asks_some c q (body.Report r) is = by (r.partition == q) refl
  where
    one : (r.partition == q) ≡ true → one_report q (body.Report r) ≡ 1
    one e = rw (e) refl

    by : (x : Bool) → (r.partition == q) ≡ x → (((r.partition == q) ≡ true) × (one_report q (body.Report r) ≡ 1)) ⊎ ((r.partition == q) ≡ false)
    by true e = inl (e, one e)
    by false e = inr e

-- no report of the partition goes out
none_asks : (c : Sizes) (q b : ℕ) (os : List Outgoing) → AllByRecursion (λ (o : Outgoing). is_request o.message.body ≡ false) os → reports_of q os ≡ 0 → filter (asks c q) (sent_to b os) ≡ []
unfolding sent_to
none_asks c q b [] all none = refl
none_asks c q b (o ∷ os) all none = by (o.to == b) (asks_some c q o.message.body all.0) (none_asks c q b os all.1 (omega (arith, none)))
  where
    passed : (x : Bool) → asks_of c q o.message.body ≡ x → x ≡ false → filter (asks c q) (sent_to b os) ≡ [] → cond (asks_of c q o.message.body) (o.message ∷ filter (asks c q) (sent_to b os)) (filter (asks c q) (sent_to b os)) ≡ []
    passed x e f rest = ap (λ (y : Bool). cond y (o.message ∷ filter (asks c q) (sent_to b os)) (filter (asks c q) (sent_to b os))) (e ∙ f) ∙ rest

    by : (x : Bool) → ((asks_of c q o.message.body ≡ true) × (one_report q o.message.body ≡ 1)) ⊎ (asks_of c q o.message.body ≡ false) → filter (asks c q) (sent_to b os) ≡ []
        → filter (asks c q) (pick x (o.message ∷ sent_to b os) (sent_to b os)) ≡ []
    by false is rest = rest
    by true (inl is) rest = let one = is.1 in absurd (omega (arith, one, none))
    by true (inr is) rest = passed (asks_of c q o.message.body) refl is rest

-- one goes out, in a later epoch
one_asks : (c : Sizes) (q b e low : ℕ) (os : List Outgoing) → low < e → AllByRecursion (λ (o : Outgoing). is_request o.message.body ≡ false) os → reports_of q os ≤ 1
    → AllByRecursion (λ (m : Message). m.epoch ≡ e) (sent_to b os) → AreOrdered low (filter (asks c q) (sent_to b os))
unfolding sent_to
one_asks c q b e low [] le all once epochs = tt
one_asks c q b e low (o ∷ os) le all once epochs =
    by (o.to == b) (asks_some c q o.message.body all.0) (λ k. one_asks c q b e low os le all.1 (omega (arith, once)) k) (λ one. none_asks c q b os all.1 (omega (arith, once, one))) epochs
  where
    first : AreOrdered low (o.message ∷ []) → (x : Bool) → asks_of c q o.message.body ≡ x → x ≡ true → filter (asks c q) (sent_to b os) ≡ []
        → AreOrdered low (cond (asks_of c q o.message.body) (o.message ∷ filter (asks c q) (sent_to b os)) (filter (asks c q) (sent_to b os)))
    first is x f t none =
        subst (λ (y : Bool). AreOrdered low (cond y (o.message ∷ filter (asks c q) (sent_to b os)) (filter (asks c q) (sent_to b os)))) (sym (f ∙ t))
        (subst (λ (ms : List Message). AreOrdered low (o.message ∷ ms)) (sym none) is)

    passed : (x : Bool) → asks_of c q o.message.body ≡ x → x ≡ false → AreOrdered low (filter (asks c q) (sent_to b os))
        → AreOrdered low (cond (asks_of c q o.message.body) (o.message ∷ filter (asks c q) (sent_to b os)) (filter (asks c q) (sent_to b os)))
    passed x f t rest = subst (λ (y : Bool). AreOrdered low (cond y (o.message ∷ filter (asks c q) (sent_to b os)) (filter (asks c q) (sent_to b os)))) (sym (f ∙ t)) rest

    after : (x : Bool) → low < o.message.epoch → pick x (suc low) low ≤ o.message.epoch
    after true l = omega (arith, l)
    after false l = omega (arith, l)

    by : (x : Bool) → ((asks_of c q o.message.body ≡ true) × (one_report q o.message.body ≡ 1)) ⊎ (asks_of c q o.message.body ≡ false)
        → (AllByRecursion (λ (m : Message). m.epoch ≡ e) (sent_to b os) → AreOrdered low (filter (asks c q) (sent_to b os)))
        → (one_report q o.message.body ≡ 1 → filter (asks c q) (sent_to b os) ≡ [])
        → AllByRecursion (λ (m : Message). m.epoch ≡ e) (pick x (o.message ∷ sent_to b os) (sent_to b os)) → AreOrdered low (filter (asks c q) (pick x (o.message ∷ sent_to b os) (sent_to b os)))
    by false is rest none epochs = rest epochs
    by true (inl is) rest none epochs =
        let epoch : o.message.epoch ≡ e = epochs.0 in
        first (after (is_report o.message.body) (omega (arith, epoch, le)), tt) (asks_of c q o.message.body) refl is.0 (none is.1)
    by true (inr is) rest none epochs = passed (asks_of c q o.message.body) refl is (rest epochs.1)

-- ---- a step
module _ (c : Cluster) (e : Event) (i : IsCluster c) (order : IsInOrder c) (first : ReportsComeFirst c) (a b q : ℕ) where
  -- the epochs on the link are those of the sender's past
  past : (s : NodeState) → node_at c a ≡ Some s → last_epoch 0 (filter (asks c.config q) (link_at c.links a b)) ≤ s.epoch
  past s up =
      last_upto s.epoch 0 (filter (asks c.config q) (link_at c.links a b)) (omega arith)
      (all_filter (λ (m : Message). m.epoch ≤ s.epoch) (asks c.config q) (link_at c.links a b)
      (subst (λ (o : Option NodeState). IfSome o (λ s. AllByRecursion (λ m. m.epoch ≤ s.epoch) (link_at c.links a b))) up (order.behind a b)))

  module _ (s : NodeState) (ev : NodeEvent) (p : Plan) (planned : IsPlanned c e a s ev p) where
    abbrev low : ℕ
    low = last_epoch 0 (filter (asks c.config q) (link_at c.links a b))

    epochs : AllByRecursion (λ (m : Message). m.epoch ≡ p.node.epoch) (sent_to b p.sends)
    epochs =
        all_weaker (λ (m : Message). IsOnLink c.config (last_view c).epoch a b m × (m.epoch ≡ p.node.epoch)) (λ (m : Message). m.epoch ≡ p.node.epoch) (λ m is. is.1) (sent_to b p.sends)
        (sent_are_of_epoch_law c e a s ev p b i planned)

    sent_ordered : StepIs s ev p → AreOrdered low (filter (asks c.config q) (sent_to b p.sends))
    unfolding sent_to
    sent_ordered (step_refused r same sends replies) = subst (λ (os : List Outgoing). AreOrdered low (filter (asks c.config q) (sent_to b os))) (sym sends) tt
    sent_ordered (step_acts other seen view tables said) =
        let before = past s planned.handed.up in
        ordered_among_some_law low (sent_to b p.sends) (asks c.config q)
        (plain_ordered p.node.epoch low (sent_to b p.sends) (rises (epochs_go_on_law c e a s ev p i planned) before) epochs
        (sent_pass (λ (m : Message). is_report m.body ≡ false) b p.sends said))
      where
        rises : StaysInView s p.node ⊎ (s.epoch < p.node.epoch) → low ≤ s.epoch → low ≤ p.node.epoch
        rises (inl x) before = let epoch = x.epoch in omega (arith, epoch, before)
        rises (inr x) before = omega (arith, x, before)
    sent_ordered (step_installs v is may view tables sending) =
        let before = past s planned.handed.up in
        let good : IsGoodPlan c a s ev p = plans_are_good_law c e a s ev p i planned.handed planned.goes in
        let at = (is_view p.node good.member.sound v view).epoch in
        let later = install_later s good.step.sound v may in
        one_asks c.config q b p.node.epoch low p.sends (omega (arith, before, at, later)) sending.unasked (sending.once q) epochs

  step_ordered : AreOrdered 0 (filter (asks (step c e).config q) (link_at (step c e).links a b))
  step_ordered = subst (λ (k : Sizes). AreOrdered 0 (filter (asks k q) (link_at (step c e).links a b))) (sym (sizes_stay_law c e)) (by (links_step_law c e a b i))
    where
      abbrev_of : List Message → Type 0
      abbrev_of ms = AreOrdered 0 (filter (asks c.config q) ms)

      tailed : (ms : List Message) → AreOrdered 0 (filter (asks c.config q) ms) → AreOrdered 0 (filter (asks c.config q) (tail_of ms))
      tailed [] is = is
      tailed (m ∷ ms) is = of (asks c.config q m) is
        where
          of : (x : Bool) → AreOrdered 0 (cond x (m ∷ filter (asks c.config q) ms) (filter (asks c.config q) ms)) → AreOrdered 0 (filter (asks c.config q) ms)
          of true is = ordered_from_lower_law m.epoch 0 (filter (asks c.config q) ms) (omega arith) is.1
          of false is = is

      by : IsLinkStep c e a b (node_at (step c e) a) (node_at (step c e) b) (link_at (step c e).links a b) → AreOrdered 0 (filter (asks c.config q) (link_at (step c e).links a b))
      by (link_stays same) = subst abbrev_of (sym same) (first a b q)
      by (link_gets s ev p planned up from now same) =
          subst abbrev_of (sym same)
          (subst (AreOrdered 0) (sym (some_at_the_end_law (asks c.config q) (link_at c.links a b) (sent_to b p.sends)))
          (ordered_at_the_end_law 0 (filter (asks c.config q) (link_at c.links a b)) (filter (asks c.config q) (sent_to b p.sends)) (first a b q)
          (sent_ordered s ev p planned (steps_are s ev c.disk p (up_is_member_law c a s i planned.handed.up).1.sound.places planned.goes))))
      by (link_loses s ev p is planned taken now same) = subst abbrev_of (sym same) (tailed (link_at c.links a b) (first a b q))
      by (link_cleared now same) = subst abbrev_of (sym same) tt

pub steps_come_first : (c : Cluster) (e : Event) → IsCluster c → IsInOrder c → ReportsComeFirst c → ReportsComeFirst (step c e)
steps_come_first c e i order first a b q = step_ordered c e i order first a b q
