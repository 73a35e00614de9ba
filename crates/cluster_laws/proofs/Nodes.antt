-- A node's step within a cluster keeps what holds of the cluster.
use Rattle.std.proofs.Common.{◌≡◌, refl, ap, sym, subst, ◌⊎◌, inl, inr, ℕ, ◌+◌, ◌<◌, ◌≤◌, Bool, true, false, List, [], ◌∷◌, length, map, Option, Some, None, arith}
use Rattle.std.specs.List.{AllByRecursion}
use Rattle.pcl_base.specs.Limits.{Sizes}
use Rattle.pcl_base.specs.declared.event.Event.{Event}
use Rattle.pcl_base.specs.declared.event.Event.TheVariants as event
use Rattle.pcl_base.specs.declared.reply.Reply.{Reply}
use Rattle.run_rules.specs.Disk.{Disk}
use Rattle.run_rules.specs.Views.{View}
use Rattle.node_rules.specs.Words.{pick}
use Rattle.node_rules.specs.NodeState.{NodeState, NodeEvent, Install, Outgoing}
use Rattle.node_rules.specs.DiskCalls.{DiskCall, Stop, Left, all_done, disk_or}
use Rattle.node_rules.specs.Work.{Outcome, Goes, Differs}
use Rattle.node_rules.specs.NodeStep.{Plan, nodestep}
use Rattle.node_laws.specs.Nodes.{CanCome, DiskFits, IsSend, IsCall}
use Rattle.node_laws.specs.Laws.{IsStep}
use Rattle.node_laws.proofs.Disks.{calls_keep_disk_law, stops_keep_disk_law}
use Rattle.node_laws.proofs.Steps.{steps_keep_sound_law, steps_keep_numbers_law, sends_are_messages_law, sends_have_epoch_law, calls_fit_law}
use Rattle.cluster_rules.specs.Links.{Links, take_head}
use Rattle.cluster_rules.specs.Clusters.{Cluster, is_up, put_node, put_stop, stop_at, lose, view_of_epoch, last_view, sent_by}
use Rattle.cluster_rules.specs.ClusterStep.{is_taken, links_after, later_stop, made, halted, made_or_halted, left_of, after_plan, node_step}
use Rattle.cluster_laws.specs.Sound.{IsMember, IsOnLink, AreLinks, IsCluster}
use Rattle.cluster_laws.specs.Laws.{IsGoodPlan}
use Rattle.cluster_laws.specs.Epochs.{StaysInView, HasInstalled}
use Rattle.cluster_laws.proofs.Epochs.{steps_keep_views_law}
use Rattle.cluster_laws.proofs.Linked.{links_taken, links_sent}
use Rattle.cluster_laws.proofs.Members.{member_stays, member_installs}
use Rattle.cluster_laws.proofs.Changes.{noted, put_up, lost, with_parts, with_stop}

-- an event that comes to a node: an install brings the view after the node's own
pub record Comes (views : List View) (s : NodeState) (ev : NodeEvent) : Type 0 where
  pub can : CanCome s ev
  pub next : (v : View) → ev ≡ Install v → view_of_epoch views (s.epoch + 1) ≡ Some v

-- the head of a link is taken, or nothing is
after_kept : (c : Sizes) (last : ℕ) (e : Event) (rs : List Reply) (ls : Links) → AreLinks c last ls → AreLinks c last (links_after e rs ls)
after_kept c last (event.Deliver from to) rs ls i = by (is_taken rs)
  where
    by : (b : Bool) → AreLinks c last (pick b (take_head ls from to) ls)
    by true = links_taken c last ls from to i
    by false = i
after_kept c last (event.Begin n) rs ls i = i
after_kept c last (event.Read t p) rs ls i = i
after_kept c last (event.Write t p place bytes) rs ls i = i
after_kept c last (event.Commit t) rs ls i = i
after_kept c last (event.Abort t) rs ls i = i
after_kept c last (event.Evict n p) rs ls i = i
after_kept c last (event.Flush n p) rs ls i = i
after_kept c last (event.Crash n) rs ls i = i
after_kept c last (event.View live owners) rs ls i = i
after_kept c last (event.Install n) rs ls i = i
after_kept c last event.Reopen rs ls i = i
after_kept c last (event.Arm n call kept) rs ls i = i
after_kept c last (event.Cut n) rs ls i = i

-- sends of the grammar, each of an epoch, go on links
on_links : (c : Sizes) (last n e : ℕ) → n < c.nodes → e ≤ last → (os : List Outgoing) → AllByRecursion (IsSend c n) os → AllByRecursion (λ o. o.message.epoch ≡ e) os
    → AllByRecursion (λ o. IsOnLink c last n o.to o.message) os
on_links c last n e low le [] all at = tt
on_links c last n e low le (o ∷ os) all at =
    let same = at.0 in (
      record {
        sender = low;
        receiver = all.0.0.0;
        others = λ f. all.0.0.1 (sym f);
        epoch = omega (arith, same, le);
        message = all.0.1;
      },
      on_links c last n e low le os all.1 at.1,
    )

-- the node after its step
stepped_member : (c : Cluster) (n : ℕ) (s : NodeState) (ev : NodeEvent) (p : Plan) → IsCluster c → IsMember c.config c.views n s → Comes c.views s ev → IsStep s ev c.disk p
    → IsMember c.config c.views n p.node
stepped_member c n s ev p i is comes step = by (steps_keep_views_law s ev c.disk p step.goes)
  where
    by : StaysInView s p.node ⊎ HasInstalled s ev p.node → IsMember c.config c.views n p.node
    by (inl stays) = member_stays c.config c.views n s p.node is (steps_keep_sound_law s ev c.disk p step) (steps_keep_numbers_law s ev c.disk p step).0 (steps_keep_numbers_law s ev c.disk p step).1 stays
    by (inr has) =
        member_installs c.config c.views n s p.node has.next i.views (comes.next has.next has.asked) is (steps_keep_sound_law s ev c.disk p step) (steps_keep_numbers_law s ev c.disk p step).0
        (steps_keep_numbers_law s ev c.disk p step).1 has.epoch has.view

-- the plan of the step
pub planned : (c : Cluster) (n : ℕ) (s : NodeState) (ev : NodeEvent) (p : Plan) → IsCluster c → n < c.config.nodes → IsMember c.config c.views n s → Comes c.views s ev → nodestep s ev c.disk ≡ Goes p
    → IsGoodPlan c n s ev p
planned c n s ev p i low is comes goes =
    let step : IsStep s ev c.disk p = record { sound = is.sound; can = comes.can; fits = subst (λ (k : Sizes). DiskFits k c.disk) (sym is.config) i.disk; goes = goes } in
    let member = stepped_member c n s ev p i is comes step in
    let sends : AllByRecursion (IsSend c.config n) p.sends =
    subst (λ (k : Sizes). AllByRecursion (IsSend k n) p.sends) is.config
    (subst (λ (k : ℕ). AllByRecursion (IsSend s.home.config k) p.sends) is.number (sends_are_messages_law s ev c.disk p step)) in
    record {
      step = step;
      member = member;
      sends = on_links c.config (last_view c).epoch n p.node.epoch low member.reached p.sends sends (sends_have_epoch_law s ev c.disk p step);
    }

-- a step that is made whole
made_kept : (c : Cluster) (e : Event) (n : ℕ) (s : NodeState) (ev : NodeEvent) (p : Plan) → IsCluster c → IsGoodPlan c n s ev p → AllByRecursion (IsCall c.config) p.calls → IsCluster (made e n p c)
made_kept c e n s ev p i good calls =
    let base : Cluster = put_stop (put_node c n (Some p.node)) n (later_stop (length p.calls) (stop_at c n)) in
    noted e p.replies (map (sent_by n) p.sends) None _
    (with_parts (all_done n c.disk p.calls) _ base (calls_keep_disk_law c.config n c.disk p.calls i.disk calls)
    (links_sent c.config (last_view c).epoch (is_up c) n p.sends _ good.sends (after_kept c.config (last_view c).epoch e p.replies c.links i.links))
    (with_stop n _ _ (put_up n p.node c good.member i)))

-- a step that a stop ends
halted_kept : (c : Cluster) (e : Event) (n : ℕ) (l : Left) → IsCluster c → DiskFits c.config l.disk → IsCluster (halted e n l c)
halted_kept c e n l i fits =
    noted e [] [] _ _
    (lost n (record c { disk = l.disk; links = links_after e [] c.links })
    (with_parts l.disk (links_after e [] c.links) c fits (after_kept c.config (last_view c).epoch e [] c.links i.links) i))

-- what a stop leaves
left_fits : (c : Sizes) (n : ℕ) (d : Disk) (calls : List DiskCall) (o : Option Stop) (l : Left) → DiskFits c d → AllByRecursion (IsCall c) calls → left_of n d calls o ≡ Some l → DiskFits c l.disk
left_fits c n d calls None l fits all e = absurd (cc)
left_fits c n d calls (Some st) l fits all e =
    subst (DiskFits c) (ap (λ (x : Option Left). disk_or x (all_done n d calls)) e) (stops_keep_disk_law c n d calls st fits all)

-- a node's step
pub stepped : (c : Cluster) (e : Event) (n : ℕ) (s : NodeState) (ev : NodeEvent) → IsCluster c → n < c.config.nodes → IsMember c.config c.views n s → Comes c.views s ev → IsCluster (node_step e n s ev c)
unfolding node_step
stepped c e n s ev i low is comes = by (nodestep s ev c.disk) refl
  where
    whole : (p : Plan) → IsGoodPlan c n s ev p → AllByRecursion (IsCall c.config) p.calls → (o : Option Left) → left_of n c.disk p.calls (stop_at c n) ≡ o → IsCluster (made_or_halted e n p o c)
    whole p good calls None left = made_kept c e n s ev p i good calls
    whole p good calls (Some l) left = halted_kept c e n l i (left_fits c.config n c.disk p.calls (stop_at c n) l i.disk calls left)

    by : (o : Outcome Plan) → nodestep s ev c.disk ≡ o → IsCluster (after_plan e n c o)
    by (Goes p) goes =
        let good = planned c n s ev p i low is comes goes in
        whole p good (subst (λ (k : Sizes). AllByRecursion (IsCall k) p.calls) is.config (calls_fit_law s ev c.disk p good.step)) (left_of n c.disk p.calls (stop_at c n)) refl
    by (Differs p expected found) goes = noted e [] [] None (lose n c) (lost n c i)
