-- What a step that is made whole leaves on each link; and where reports stand in lists of messages.
use Rattle.std.proofs.Common.{◌≡◌, ◌⊎◌, inl, inr, ⊎_elim, refl, sym, ap, subst, ◌∙◌, ℕ, zero, suc, ◌==◌, ◌&&◌, Bool, true, false, List, [], ◌∷◌, ◌++◌, slice_index_or, slice_set, Option, Some, None, arith}
use Rattle.std.specs.List.{AllByRecursion}
use Rattle.std.proofs.lemmas.Bool.Decides.{nat_tests}
use Rattle.pcl_base.specs.declared.event.Event.{Event}
use Rattle.pcl_base.specs.declared.message.Body.{Body}
use Rattle.pcl_base.specs.declared.message.Body.TheVariants as body
use Rattle.pcl_base.specs.declared.message.Message.{Message}
use Rattle.node_rules.specs.DiskCalls.{Left}
use Rattle.node_rules.specs.NodeState.{NodeState, NodeEvent, Outgoing}
use Rattle.node_rules.specs.NodeStep.{Plan}
use Rattle.node_rules.specs.Words.{pick}
use Rattle.cluster_rules.specs.Clusters.{Cluster, node_at, is_up, stop_at, lose}
use Rattle.cluster_rules.specs.ClusterStep.{is_taken, links_after, made, made_or_halted, left_of, after_plan, node_step, step}
use Rattle.cluster_rules.specs.Links.{link_at, tail_of}
use Rattle.cluster_laws.specs.Sound.{IsCluster}
use Rattle.cluster_laws.proofs.Cases.{handed_is_stepped_law}
use Rattle.cluster_laws.specs.Link.Coming.{sent_to, delivers, Stands}
use Rattle.cluster_laws.specs.Link.Orders.{is_report}
use Rattle.cluster_laws.specs.Link.StepLaws.{IsPlanned}
use Rattle.cluster_laws.proofs.LinkParts.Linked.{heads_after_law}
use Rattle.cluster_laws.proofs.LinkParts.Stepped.{links_of_made_law}
use Rattle.cluster_facts.specs.Reports.Reported.{IsReportOf, HasReport}
use Rattle.cluster_facts.proofs.ReportsParts.Sending.{HasOut}

none_set : (ss : List (Option NodeState)) (n : ℕ) → slice_index_or (slice_set ss n None) n None ≡ None
none_set [] n = refl
none_set (s ∷ ss) zero = refl
none_set (s ∷ ss) (suc n) = none_set ss n

lost_none : (n : ℕ) (d : Cluster) → node_at (lose n d) n ≡ None
unfolding lose
lost_none n d = none_set d.nodes n

module _ (c : Cluster) (e : Event) (i : IsCluster c) (n : ℕ) (s : NodeState) (ev : NodeEvent) (p : Plan) (planned : IsPlanned c e n s ev p) (r : NodeState) (now : node_at (step c e) n ≡ Some r) where
  ended : step c e ≡ made_or_halted e n p (left_of n c.disk p.calls (stop_at c n)) c
  unfolding node_step
  ended = handed_is_stepped_law c e n s ev planned.handed ∙ ap (after_plan e n c) planned.goes

  pub acted_made : step c e ≡ made e n p c
  acted_made = by (left_of n c.disk p.calls (stop_at c n)) ended
    where
      by : (o : Option Left) → step c e ≡ made_or_halted e n p o c → step c e ≡ made e n p c
      by None is = is
      by (Some l) is =
          let bad : Some r ≡ None = sym now ∙ ap (λ (d : Cluster). node_at d n) is ∙ lost_none n (record c { disk = l.disk; links = links_after e [] c.links }) in
          absurd (cc)

  pub acted_links : (x y : ℕ) → link_at (step c e).links x y
      ≡ pick (delivers e x y && is_taken p.replies) (tail_of (link_at c.links x y)) (link_at c.links x y) ++ pick (x == n && is_up c y) (sent_to y p.sends) []
  acted_links x y =
      ap (λ (d : Cluster). link_at d.links x y) acted_made ∙ links_of_made_law c e n s ev p x y i planned
      ∙ ap (λ (ms : List Message). ms ++ pick (x == n && is_up c y) (sent_to y p.sends) []) (heads_after_law e p.replies c.links x y)

-- ---- where a report stands
module _ (q e : ℕ) where
  pub has_left : (ms ns : List Message) → HasReport q e ms → HasReport q e (ms ++ ns)
  has_left [] ns has = absurd has
  has_left (m ∷ ms) ns (inl here) = inl here
  has_left (m ∷ ms) ns (inr rest) = inr (has_left ms ns rest)

  pub has_right : (ms ns : List Message) → HasReport q e ns → HasReport q e (ms ++ ns)
  has_right [] ns has = has
  has_right (m ∷ ms) ns has = inr (has_right ms ns has)

  pub has_either : (ms ns : List Message) → HasReport q e (ms ++ ns) → HasReport q e ms ⊎ HasReport q e ns
  has_either [] ns has = inr has
  has_either (m ∷ ms) ns (inl here) = inl (inl here)
  has_either (m ∷ ms) ns (inr rest) = ⊎_elim (λ a. inl (inr a)) (λ b. inr b) (has_either ms ns rest)

  pub has_tail : (ms : List Message) → HasReport q e (tail_of ms) → HasReport q e ms
  has_tail [] has = has
  has_tail (m ∷ ms) has = inr has

  pub has_rest : (b : Bool) (ms : List Message) → HasReport q e (pick b (tail_of ms) ms) → HasReport q e ms
  has_rest true ms has = has_tail ms has
  has_rest false ms has = has

  pub has_some : (P : Message → Type 0) (ms : List Message) → AllByRecursion P ms → HasReport q e ms → (m : Message) × P m × (m.epoch ≡ e) × IsReportOf q m.body
  has_some P [] all has = absurd has
  has_some P (m ∷ ms) all (inl here) = (m, all.0, here.0, here.1)
  has_some P (m ∷ ms) all (inr rest) = has_some P ms all.1 rest

  pub out_has : (b : ℕ) (os : List Outgoing) → AllByRecursion (λ (m : Message). m.epoch ≡ e) (sent_to b os) → HasOut b q os → HasReport q e (sent_to b os)
  unfolding sent_to
  out_has b [] all has = absurd has
  out_has b (o ∷ os) all has = by (o.to == b) refl (λ a h. out_has b os a h) all has
    where
      differs : (o.to == b) ≡ false → o.to ≡ b → ⊥
      differs t same = grind (arith, nat_tests, t, same)

      by : (x : Bool) → (o.to == b) ≡ x → (AllByRecursion (λ (m : Message). m.epoch ≡ e) (sent_to b os) → HasOut b q os → HasReport q e (sent_to b os))
          → AllByRecursion (λ (m : Message). m.epoch ≡ e) (pick x (o.message ∷ sent_to b os) (sent_to b os)) → ((o.to ≡ b) × IsReportOf q o.message.body) ⊎ HasOut b q os
          → HasReport q e (pick x (o.message ∷ sent_to b os) (sent_to b os))
      by true t k all (inl here) = inl (all.0, here.1)
      by true t k all (inr rest) = inr (k all.1 rest)
      by false t k all (inl here) = absurd (differs t here.0)
      by false t k all (inr rest) = k all rest

-- a report is one
pub report_of : (q : ℕ) (b : Body) → IsReportOf q b → is_report b ≡ true
report_of q (body.Report r) is = refl
report_of q (body.Request r) is = absurd is
report_of q (body.Grant g) is = absurd is
report_of q (body.Release r) is = absurd is
report_of q (body.Revoke p) is = absurd is
report_of q (body.Return r) is = absurd is

-- what passes a test of what goes out passes it on the link
pub sent_pass : (P : Message → Type 0) (b : ℕ) (os : List Outgoing) → AllByRecursion (λ (o : Outgoing). P o.message) os → AllByRecursion P (sent_to b os)
unfolding sent_to
sent_pass P b [] all = tt
sent_pass P b (o ∷ os) all = by (o.to == b) (sent_pass P b os all.1)
  where
    by : (x : Bool) → AllByRecursion P (sent_to b os) → AllByRecursion P (pick x (o.message ∷ sent_to b os) (sent_to b os))
    by true rest = (all.0, rest)
    by false rest = rest

-- a message of two lists
pub stands_either : (ms ns : List Message) (m : Message) → Stands (ms ++ ns) m → Stands ms m ⊎ Stands ns m
stands_either [] ns m at = inr at
stands_either (x ∷ xs) ns m (inl here) = inl (inl here)
stands_either (x ∷ xs) ns m (inr at) = ⊎_elim (λ a. inl (inr a)) (λ b. inr b) (stands_either xs ns m at)

pub stands_tail : (ms : List Message) (m : Message) → Stands (tail_of ms) m → Stands ms m
stands_tail [] m at = at
stands_tail (x ∷ xs) m at = inr at

pub stands_pass : (P : Message → Type 0) (ms : List Message) (m : Message) → AllByRecursion P ms → Stands ms m → P m
stands_pass P [] m all at = absurd at
stands_pass P (x ∷ xs) m all (inl here) = subst P here all.0
stands_pass P (x ∷ xs) m all (inr at) = stands_pass P xs m all.1 at
