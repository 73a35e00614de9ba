-- A step that leaves a related cluster keeps its trace fresh.
use Rattle.std.proofs.Common.{◌≡◌, refl, sym, subst, ◌∙◌, ℕ, ◌<◌, List, [], ◌∷◌, ◌++◌, length, map, Option, Some, None}
use Rattle.std.specs.Prelude.{IfSome}
use Rattle.std.specs.List.{AllByRecursion}
use Rattle.pcl_base.specs.declared.event.Event.{Event}
use Rattle.pcl_base.specs.declared.reply.Reply.{Reply}
use Rattle.pcl_base.specs.declared.reply.Reply.TheVariants as reply
use Rattle.pcl_base.specs.declared.trace.Entry.{Entry}
use Rattle.pcl_base.specs.declared.tx.TxId.{TxId}
use Rattle.run_rules.specs.Fresh.{IsFresh}
use Rattle.run_rules.specs.Now.{now}
use Rattle.run_rules.specs.Script.{moments}
use Rattle.node_rules.specs.DiskCalls.{Left}
use Rattle.node_rules.specs.NodeState.{NodeState, NodeEvent}
use Rattle.node_rules.specs.Work.{Outcome, Goes, Differs}
use Rattle.node_rules.specs.NodeStep.{Plan, nodestep}
use Rattle.node_laws.proofs.Lists.{all_weaker, set_same}
use Rattle.cluster_rules.specs.Clusters.{Cluster, node_at, stop_at, sent_by, last_view, lose}
use Rattle.cluster_rules.specs.ClusterStep.{made, made_or_halted, left_of, after_plan, node_step, start_one, start_all, all_nodes, returning}
use Rattle.cluster_laws.specs.Handed.{IsHanded}
use Rattle.cluster_laws.specs.Sound.{IsMember, IsCluster}
use Rattle.cluster_laws.proofs.Cases.{by_step}
use Rattle.cluster_laws.proofs.Steps.{up_is_member_law, plans_are_good_law}
use Rattle.page_protocol.specs.Homes.{seen}
use Rattle.page_protocol.specs.State.{current}
use Rattle.page_laws.specs.Moment.Looks.{accesses_in}
use Rattle.page_relation.specs.Together.{IsRelated}
use Rattle.related_runs.specs.Granted.{StandsAt, Given, given_by, ReplyStands, RepliesStand}
use Rattle.related_runs.specs.RelatedLaws.{RelatedStaysFresh}
use Rattle.related_runs.proofs.Entries.{IsRightReply, quiet_entry, granted_entry}
use Rattle.related_runs.proofs.Traces.{IsRightAt}
use Rattle.related_runs.proofs.Stepped.{grants_stand_law}
use Rattle.related_runs.proofs.Current.{HasCurrent, has_current}

some_number : (v w : ℕ) → (let o : Option ℕ = Some v in o) ≡ Some w → v ≡ w
some_number v w e = cc

module _ (blank : List ℕ) (d : Cluster) (r : IsRelated blank d) (n : ℕ) (m : NodeState) (up : node_at d n ≡ Some m) where
  -- an access that stands at its home is right
  stands_right : (t : TxId) (q v : ℕ) → StandsAt m.home t q v → IsRightAt (now d.config d.trace) (moments d.trace) t q v
  unfolding accesses_in
  stands_right t q v stands =
      record {
        page = current (r.pages.page q);
        has = (r.pages.related q has.low).history.now_same;
        version = some_number v (r.pages.page q).now (sym stands.version ∙ has.version);
        left = seen (r.pages.page q) t;
        leaves = has.leaves;
      }
    where
      has : HasCurrent blank d r n m up t q
      has = has_current blank d r n m up t q stands.holds stands.waits

  -- so are replies that stand there
  replies_right : (rs : List Reply) → AllByRecursion (ReplyStands m.home) rs → AllByRecursion (IsRightReply (now d.config d.trace) (moments d.trace)) rs
  replies_right rs all = all_weaker (ReplyStands m.home) (IsRightReply (now d.config d.trace) (moments d.trace)) (λ x a. (by (given_by x) a.0, a.1)) rs all
    where
      by : (o : Option Given) → IfSome o (λ (g : Given). StandsAt m.home g.tx g.page g.version) → IfSome o (λ (g : Given). IsRightAt (now d.config d.trace) (moments d.trace) g.tx g.page g.version)
      by None a = tt
      by (Some g) a = stands_right g.tx g.page g.version a

-- a step of a node
stepped : (blank : List ℕ) (c : Cluster) (e : Event) (n : ℕ) (s : NodeState) (ev : NodeEvent) → IsCluster c → IsFresh c.config c.trace → IsHanded c e n s ev → IsRelated blank (node_step e n s ev c)
    → IsFresh (node_step e n s ev c).config (node_step e n s ev c).trace
unfolding node_step lose
stepped blank c e n s ev i fresh handed = by (nodestep s ev c.disk) refl
  where
    low : n < length c.nodes
    low = subst (λ k. n < k) (sym i.nodes) (up_is_member_law c n s i handed.up).0

    is : IsMember c.config c.views n s
    is = (up_is_member_law c n s i handed.up).1

    whole : (p : Plan) → nodestep s ev c.disk ≡ Goes p → IsRelated blank (made e n p c) → IsFresh c.config (made e n p c).trace
    whole p goes r =
        let stand : RepliesStand p.node.home p.replies = grants_stand_law s ev c.disk p (plans_are_good_law c e n s ev p i handed goes).step in
        granted_entry c.config c.trace (record { event = e; replies = p.replies; sent = map (sent_by n) p.sends; halted = None }) stand.front stand.rest stand.joined refl stand.none
        (replies_right blank (made e n p c) r n p.node (set_same None c.nodes n (Some p.node) low) stand.rest stand.stand) fresh

    ended : (p : Plan) → nodestep s ev c.disk ≡ Goes p → (o : Option Left) → IsRelated blank (made_or_halted e n p o c) → IsFresh (made_or_halted e n p o c).config (made_or_halted e n p o c).trace
    ended p goes None r = whole p goes r
    ended p goes (Some l) r = quiet_entry c.config c.trace _ tt fresh

    by : (o : Outcome Plan) → nodestep s ev c.disk ≡ o → IsRelated blank (after_plan e n c o) → IsFresh (after_plan e n c o).config (after_plan e n c o).trace
    by (Goes p) goes r = ended p goes (left_of n c.disk p.calls (stop_at c n)) r
    by (Differs p expected found) goes r = quiet_entry c.config c.trace _ tt fresh

-- nodes that start leave the trace
started : (k : ℕ) (ns : List ℕ) (c : Cluster) (x : Entry) → AllByRecursion (λ r. given_by r ≡ None) x.replies → IsFresh c.config c.trace
    → IsFresh (start_all k ns c).config ((start_all k ns c).trace ++ x ∷ [])
started k [] c x none fresh = quiet_entry c.config c.trace x none fresh
started k (n ∷ ns) c x none fresh = started k ns (start_one k c n) x none fresh

pub related_stays_fresh_law : RelatedStaysFresh
unfolding lose
related_stays_fresh_law blank c e i fresh =
    by_step (λ d. IsRelated blank d → IsFresh d.config d.trace) c e
    (record {
      refused = λ x r. quiet_entry c.config c.trace _ (refl, tt) fresh;
      crashed = λ n is r. quiet_entry c.config c.trace _ (refl, tt) fresh;
      armed = λ n call stops is r. quiet_entry c.config c.trace _ (refl, tt) fresh;
      handed = λ n s ev handed r. stepped blank c e n s ev i fresh handed r;
      viewed = λ live owners v made drops r.
          started (last_view c).epoch (returning (last_view c) v (all_nodes c)) c (record { event = e; replies = reply.Viewed v.epoch ∷ []; sent = []; halted = None }) (refl, tt) fresh;
      reopened = λ v made down r.
          started (last_view c).epoch (all_nodes c) c (record { event = e; replies = reply.Reopened v.epoch ∷ []; sent = []; halted = None }) (refl, tt) fresh;
    })
