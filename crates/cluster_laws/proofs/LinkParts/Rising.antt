-- Epochs don't fall along a link.
use Rattle.std.proofs.Common.{◌≡◌, ◌⊎◌, inl, inr, refl, sym, subst, ℕ, ◌<◌, ◌≤◌, ◌==◌, ◌&&◌, nat_lt, true, List, [], ◌∷◌, ◌++◌, Option, Some, None, arith, ltb-true}
use Rattle.std.specs.Prelude.{IfSome}
use Rattle.std.specs.List.{AllByRecursion, list_all}
use Rattle.pcl_base.specs.Limits.{Sizes}
use Rattle.pcl_base.specs.declared.event.Event.{Event}
use Rattle.pcl_base.specs.declared.message.Message.{Message}
use Rattle.run_rules.specs.Views.{View, born_of, count_from}
use Rattle.node_rules.specs.NodeState.{NodeState, NodeEvent, number_of, start_node}
use Rattle.node_rules.specs.NodeStep.{Plan}
use Rattle.node_rules.specs.Refusals.{owns_new, may_install}
use Rattle.node_laws.proofs.Lists.{all_weaker, all_append}
use Rattle.rule_laws.proofs.Turns.{and_left, and_right}
use Rattle.cluster_rules.specs.Clusters.{Cluster, opening, node_at, last_view}
use Rattle.cluster_rules.specs.ClusterStep.{step}
use Rattle.cluster_rules.specs.Links.{link_at, tail_of}
use Rattle.cluster_laws.specs.Epochs.{StaysInView, HasInstalled}
use Rattle.cluster_laws.specs.Sound.{IsOnLink, IsMember, IsCluster}
use Rattle.cluster_laws.proofs.Epochs.{steps_keep_views_law}
use Rattle.cluster_laws.proofs.Steps.{up_is_member_law}
use Rattle.cluster_laws.proofs.EraParts.Lives.{stands}
use Rattle.cluster_laws.proofs.EraParts.Nexts.{follows_epoch}
use Rattle.cluster_laws.specs.Link.Coming.{sent_to}
use Rattle.cluster_laws.specs.Link.EpochLaws.{Rises, IsInOrder, OpeningIsInOrder, StepsKeepOrder}
use Rattle.cluster_laws.specs.Link.StepLaws.{IsPlanned, EpochsGoOn, IsNodeStep, node_stays, node_acts, node_lost, node_starts, IsLinkStep, link_stays, link_gets, link_loses, link_cleared}
use Rattle.cluster_laws.proofs.LinkParts.Linked.{empty_links_law}
use Rattle.cluster_laws.proofs.LinkParts.Nodes.{nodes_step_law}
use Rattle.cluster_laws.proofs.LinkParts.Stepped.{links_step_law, sent_are_of_epoch_law}

pub epochs_go_on_law : EpochsGoOn
epochs_go_on_law c e n s ev p i planned = by (steps_keep_views_law s ev c.disk p planned.goes)
  where
    is : IsMember c.config c.views n s
    is = (up_is_member_law c n s i planned.handed.up).1

    later : (has : HasInstalled s ev p.node) (o : Option View) → s.view ≡ o → may_install s o has.next ≡ true → s.epoch < p.node.epoch
    later has None own allowed =
        let less = ltb-true s.epoch has.next.epoch
        (and_right (born_of has.next (number_of s) == has.next.epoch) (nat_lt s.epoch has.next.epoch)
        (and_left (born_of has.next (number_of s) == has.next.epoch && nat_lt s.epoch has.next.epoch) (list_all (owns_new has.next (number_of s)) (count_from 0 s.home.config.nodes)) allowed)) in
        let epoch = has.epoch in
        omega (arith, less, epoch)
    later has (Some v) own allowed =
        let before = (stands c n s v is own).epoch in
        let next = follows_epoch s.home.config v has.next allowed in
        let epoch = has.epoch in
        omega (arith, before, next, epoch)

    by : StaysInView s p.node ⊎ HasInstalled s ev p.node → StaysInView s p.node ⊎ (s.epoch < p.node.epoch)
    by (inl stays) = inl stays
    by (inr has) = inr (later has s.view refl has.allowed)

not_below : (c : Cluster) (e : Event) (n : ℕ) (s : NodeState) (ev : NodeEvent) (p : Plan) → IsCluster c → IsPlanned c e n s ev p → s.epoch ≤ p.node.epoch
not_below c e n s ev p i planned = by (epochs_go_on_law c e n s ev p i planned)
  where
    by : StaysInView s p.node ⊎ (s.epoch < p.node.epoch) → s.epoch ≤ p.node.epoch
    by (inl stays) = let same = stays.epoch in omega (arith, same)
    by (inr less) = omega (arith, less)

-- messages up to an epoch, one after the other
abbrev UpTo : ℕ → List Message → Type 0
UpTo k ms = AllByRecursion (λ (m : Message). m.epoch ≤ k) ms

up_later : (j k : ℕ) (ms : List Message) → j ≤ k → UpTo j ms → UpTo k ms
up_later j k ms le all = all_weaker (λ (m : Message). m.epoch ≤ j) (λ (m : Message). m.epoch ≤ k) (λ m low. omega (arith, low, le)) ms all

up_tail : (k : ℕ) (ms : List Message) → UpTo k ms → UpTo k (tail_of ms)
up_tail k [] all = tt
up_tail k (m ∷ ms) all = all.1

rises_lower : (low k : ℕ) (ms : List Message) → k ≤ low → Rises low ms → Rises k ms
rises_lower low k [] le r = tt
rises_lower low k (m ∷ ms) le r = let up = r.0 in (omega (arith, le, up), r.1)

rises_tail : (low : ℕ) (ms : List Message) → Rises low ms → Rises low (tail_of ms)
rises_tail low [] r = tt
rises_tail low (m ∷ ms) r = rises_lower m.epoch low ms r.0 r.1

rises_same : (low k : ℕ) (ns : List Message) → low ≤ k → AllByRecursion (λ (m : Message). m.epoch ≡ k) ns → Rises low ns
rises_same low k [] le all = tt
rises_same low k (m ∷ ms) le all = let at = all.0 in (omega (arith, le, at), rises_same m.epoch k ms (omega (arith, at)) all.1)

rises_more : (low k : ℕ) (ms ns : List Message) → low ≤ k → Rises low ms → UpTo k ms → AllByRecursion (λ (m : Message). m.epoch ≡ k) ns → Rises low (ms ++ ns)
rises_more low k [] ns le r up all = rises_same low k ns le all
rises_more low k (m ∷ ms) ns le r up all = (r.0, rises_more m.epoch k ms ns up.0 r.1 up.1 all)

-- a node that starts is at the epoch of the last view
start_up : (c : Sizes) (n k : ℕ) (ms : List Message) → UpTo k ms → UpTo (start_node c n k).epoch ms
unfolding start_node
start_up c n k ms all = all

-- what a node sends is of its epoch
sent_at : (c : Cluster) (e : Event) (a b : ℕ) (s : NodeState) (ev : NodeEvent) (p : Plan) → IsCluster c → IsPlanned c e a s ev p → AllByRecursion (λ (m : Message). m.epoch ≡ p.node.epoch) (sent_to b p.sends)
sent_at c e a b s ev p i planned =
    all_weaker (λ (m : Message). IsOnLink c.config (last_view c).epoch a b m × (m.epoch ≡ p.node.epoch)) (λ (m : Message). m.epoch ≡ p.node.epoch) (λ m on. on.1) (sent_to b p.sends)
    (sent_are_of_epoch_law c e a s ev p b i planned)

module _ (c : Cluster) (e : Event) (i : IsCluster c) (o : IsInOrder c) where
  behind_at : (a b : ℕ) (s : NodeState) → node_at c a ≡ Some s → UpTo s.epoch (link_at c.links a b)
  behind_at a b s up = subst (λ (x : Option NodeState). IfSome x (λ s. UpTo s.epoch (link_at c.links a b))) up (o.behind a b)

  -- what was on a link is of no later epoch than that of its sender after the step
  old_behind : (a b : ℕ) (now : Option NodeState) → IsNodeStep c e a now → IfSome now (λ s. UpTo s.epoch (link_at c.links a b))
  old_behind a b now (node_stays is) = subst (λ (x : Option NodeState). IfSome x (λ s. UpTo s.epoch (link_at c.links a b))) (sym is) (o.behind a b)
  old_behind a b now (node_acts s ev p planned is) =
      subst (λ (x : Option NodeState). IfSome x (λ s. UpTo s.epoch (link_at c.links a b))) (sym is)
      (up_later s.epoch p.node.epoch (link_at c.links a b) (not_below c e a s ev p i planned) (behind_at a b s planned.handed.up))
  old_behind a b now (node_lost is) = subst (λ (x : Option NodeState). IfSome x (λ s. UpTo s.epoch (link_at c.links a b))) (sym is) tt
  old_behind a b now (node_starts is down) = subst (λ (x : Option NodeState). IfSome x (λ s. UpTo s.epoch (link_at c.links a b))) (sym is) started
    where
      started : UpTo (start_node c.config a (last_view c).epoch).epoch (link_at c.links a b)
      started = start_up c.config a (last_view c).epoch (link_at c.links a b) (all_weaker (IsOnLink c.config (last_view c).epoch a b) (λ (m : Message). m.epoch ≤ (last_view c).epoch) (λ m on. on.epoch) (link_at c.links a b) (i.links.messages a b))

  now_behind : (a b : ℕ) (from now : Option NodeState) (ms : List Message) → IfSome from (λ s. UpTo s.epoch (link_at c.links a b)) → IsLinkStep c e a b from now ms → IfSome from (λ s. UpTo s.epoch ms)
  now_behind a b from now ms old (link_stays is) = subst (λ (xs : List Message). IfSome from (λ s. UpTo s.epoch xs)) (sym is) old
  now_behind a b from now ms old (link_gets s ev p planned up sender at is) =
      subst (λ (xs : List Message). IfSome from (λ s. UpTo s.epoch xs)) (sym is)
      (subst (λ (x : Option NodeState). IfSome x (λ s. UpTo s.epoch (link_at c.links a b ++ sent_to b p.sends))) (sym sender)
      (all_append (λ (m : Message). m.epoch ≤ p.node.epoch) (link_at c.links a b) (sent_to b p.sends)
      (up_later s.epoch p.node.epoch (link_at c.links a b) (not_below c e a s ev p i planned) (behind_at a b s planned.handed.up))
      (all_weaker (λ (m : Message). m.epoch ≡ p.node.epoch) (λ (m : Message). m.epoch ≤ p.node.epoch) (λ m same. omega (arith, same)) (sent_to b p.sends) (sent_at c e a b s ev p i planned))))
  now_behind a b from now ms old (link_loses s ev p it planned taken at is) =
      subst (λ (xs : List Message). IfSome from (λ s. UpTo s.epoch xs)) (sym is) (of from old)
    where
      of : (x : Option NodeState) → IfSome x (λ s. UpTo s.epoch (link_at c.links a b)) → IfSome x (λ s. UpTo s.epoch (tail_of (link_at c.links a b)))
      of None all = tt
      of (Some s) all = up_tail s.epoch (link_at c.links a b) all
  now_behind a b from now ms old (link_cleared none is) = subst (λ (xs : List Message). IfSome from (λ s. UpTo s.epoch xs)) (sym is) (of from)
    where
      of : (x : Option NodeState) → IfSome x (λ s. UpTo s.epoch [])
      of None = tt
      of (Some s) = tt

  now_rising : (a b : ℕ) (from now : Option NodeState) (ms : List Message) → IsLinkStep c e a b from now ms → Rises 0 ms
  now_rising a b from now ms (link_stays is) = subst (Rises 0) (sym is) (o.rising a b)
  now_rising a b from now ms (link_gets s ev p planned up sender at is) =
      subst (Rises 0) (sym is)
      (rises_more 0 p.node.epoch (link_at c.links a b) (sent_to b p.sends) (omega arith) (o.rising a b)
      (up_later s.epoch p.node.epoch (link_at c.links a b) (not_below c e a s ev p i planned) (behind_at a b s planned.handed.up)) (sent_at c e a b s ev p i planned))
  now_rising a b from now ms (link_loses s ev p it planned taken at is) = subst (Rises 0) (sym is) (rises_tail 0 (link_at c.links a b) (o.rising a b))
  now_rising a b from now ms (link_cleared none is) = subst (Rises 0) (sym is) tt

pub steps_keep_order_law : StepsKeepOrder
steps_keep_order_law c e i o =
    record {
      behind = λ a b.
          now_behind c e i o a b (node_at (step c e) a) (node_at (step c e) b) (link_at (step c e).links a b)
          (old_behind c e i o a b (node_at (step c e) a) (nodes_step_law c e a i)) (links_step_law c e a b i);
      rising = λ a b. now_rising c e i o a b (node_at (step c e) a) (node_at (step c e) b) (link_at (step c e).links a b) (links_step_law c e a b i);
    }

pub opening_is_in_order_law : OpeningIsInOrder
unfolding opening
opening_is_in_order_law c =
    record {
      behind = λ a b. of a b (node_at (opening c) a);
      rising = λ a b. subst (Rises 0) (sym (empty_links_law c.nodes a b)) tt;
    }
  where
    of : (a b : ℕ) (x : Option NodeState) → IfSome x (λ s. UpTo s.epoch (link_at (opening c).links a b))
    of a b None = tt
    of a b (Some s) = subst (UpTo s.epoch) (sym (empty_links_law c.nodes a b)) tt
