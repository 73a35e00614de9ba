-- Through every step who holds a page exclusively has written it.
use Rattle.std.proofs.Common.{◌≡◌, refl, sym, subst, ℕ, ◌+◌, List, [], ◌∷◌, ◌++◌, Option, Some, None}
use Rattle.std.specs.Prelude.{IfSome}
use Rattle.std.specs.List.{AllByRecursion}
use Rattle.pcl_base.specs.Limits.{Sizes}
use Rattle.pcl_base.specs.declared.event.Event.{Event}
use Rattle.pcl_base.specs.declared.reply.Reason.{Reason}
use Rattle.pcl_base.specs.declared.reply.Reply.TheVariants as reply
use Rattle.pcl_base.specs.declared.trace.Entry.{Entry}
use Rattle.run_rules.specs.Views.{View}
use Rattle.cluster_laws.proofs.AskParts.Events.{refused_is}
use Rattle.node_rules.specs.DiskCalls.{Left}
use Rattle.node_rules.specs.NodeState.{NodeState, NodeEvent, Begin, Read, Write, Commit, Abort, Deliver, Evict, Flush, Install, Cut, first_node}
use Rattle.node_rules.specs.NodeStep.{Plan, nodestep}
use Rattle.node_rules.specs.OpenTxs.{is_own}
use Rattle.node_rules.specs.Refusals.{refusal}
use Rattle.node_rules.specs.Work.{Outcome, Goes, Differs}
use Rattle.node_laws.proofs.Lists.{set_look}
use Rattle.cluster_rules.specs.Clusters.{Cluster, opening, node_at, stop_at, lose, last_view}
use Rattle.cluster_rules.specs.ClusterStep.{made, made_or_halted, left_of, after_plan, node_step, all_nodes, returning}
use Rattle.cluster_laws.specs.Handed.{IsHanded}
use Rattle.cluster_laws.specs.Sound.{IsCluster}
use Rattle.cluster_laws.proofs.Cases.{by_step}
use Rattle.cluster_laws.proofs.Lists.{look_counted}
use Rattle.page_relation.proofs.LossParts.Starts.{returning_down, all_down}
use Rattle.page_relation.proofs.LossParts.Viewing.{viewed, by_node}
use Rattle.page_relation.proofs.LossParts.Views.{as_viewed}
use Rattle.related_runs.specs.Parts.{HaveAsked}
use Rattle.related_runs.specs.Between.Between.{NodeWrites, HaveWrites, OpeningHasWrites, StepsHaveWrites}
use Rattle.related_runs.proofs.BetweenParts.Installing.{installed}
use Rattle.related_runs.proofs.BetweenParts.Leaving.{writes_stay, lost_writes, start_writes, not_locked}
use Rattle.related_runs.proofs.BetweenParts.Stepping.{entry, before, asking, fine, ended}

-- an event that isn't refused
acted : (c : Cluster) (e : Event) (n : ℕ) (s : NodeState) (ev : NodeEvent) (p : Plan) (i : IsCluster c) (h : HaveAsked c) (all : HaveWrites c) (handed : IsHanded c e n s ev)
    (goes : nodestep s ev c.disk ≡ Goes p) → refusal s ev ≡ None → NodeWrites (c.trace ++ entry c e n s ev p i h all handed goes ∷ []) p.node
acted c e n s Begin p i h all handed goes none = ended c e n s Begin p i h all handed goes none s.home.txs.node s.home.txs.born (fine c e n s Begin p i h all handed goes none)
acted c e n s (Read t q) p i h all handed goes none =
    ended c e n s (Read t q) p i h all handed goes none s.home.txs.node s.home.txs.born
    (asking c e n s (Read t q) p i h all handed goes none, fine c e n s (Read t q) p i h all handed goes none)
acted c e n s (Write t q place bytes) p i h all handed goes none =
    ended c e n s (Write t q place bytes) p i h all handed goes none s.home.txs.node s.home.txs.born
    (asking c e n s (Write t q place bytes) p i h all handed goes none, fine c e n s (Write t q place bytes) p i h all handed goes none)
acted c e n s (Commit t) p i h all handed goes none = ended c e n s (Commit t) p i h all handed goes none s.home.txs.node s.home.txs.born (fine c e n s (Commit t) p i h all handed goes none)
acted c e n s (Abort t) p i h all handed goes none = ended c e n s (Abort t) p i h all handed goes none s.home.txs.node s.home.txs.born (fine c e n s (Abort t) p i h all handed goes none)
acted c e n s (Deliver from m) p i h all handed goes none =
    ended c e n s (Deliver from m) p i h all handed goes none s.home.txs.node s.home.txs.born (fine c e n s (Deliver from m) p i h all handed goes none)
acted c e n s (Evict q) p i h all handed goes none = ended c e n s (Evict q) p i h all handed goes none s.home.txs.node s.home.txs.born (fine c e n s (Evict q) p i h all handed goes none)
acted c e n s (Flush q) p i h all handed goes none = ended c e n s (Flush q) p i h all handed goes none s.home.txs.node s.home.txs.born (fine c e n s (Flush q) p i h all handed goes none)
acted c e n s (Install v) p i h all handed goes none = installed c e n s v p i h all handed goes none
acted c e n s Cut p i h all handed goes none = ended c e n s Cut p i h all handed goes none s.home.txs.node s.home.txs.born (fine c e n s Cut p i h all handed goes none)

module _ (c : Cluster) (e : Event) (n : ℕ) (s : NodeState) (ev : NodeEvent) (i : IsCluster c) (h : HaveAsked c) (all : HaveWrites c) (handed : IsHanded c e n s ev) where
  -- the acting node
  planned : (p : Plan) (goes : nodestep s ev c.disk ≡ Goes p) → NodeWrites (c.trace ++ entry c e n s ev p i h all handed goes ∷ []) p.node
  planned p goes = by (refusal s ev) refl
    where
      by : (o : Option Reason) → refusal s ev ≡ o → NodeWrites (c.trace ++ entry c e n s ev p i h all handed goes ∷ []) p.node
      by None none = acted c e n s ev p i h all handed goes none
      by (Some r) refused =
          subst (NodeWrites (c.trace ++ entry c e n s ev p i h all handed goes ∷ [])) (sym (refused_is s ev c.disk p r refused goes).0)
          (writes_stay c.trace (entry c e n s ev p i h all handed goes) (Some s) (before c e n s ev p i h all handed goes))

  stepped : HaveWrites (node_step e n s ev c)
  unfolding node_step lose
  stepped = by (nodestep s ev c.disk) refl
    where
      whole : (p : Plan) → nodestep s ev c.disk ≡ Goes p → HaveWrites (made e n p c)
      whole p goes m =
          set_look (λ (o : Option NodeState). IfSome o (NodeWrites (c.trace ++ entry c e n s ev p i h all handed goes ∷ []))) None c.nodes n m (Some p.node)
          (λ at. planned p goes) (writes_stay c.trace (entry c e n s ev p i h all handed goes) (node_at c m) (all m))

      done : (p : Plan) → nodestep s ev c.disk ≡ Goes p → (o : Option Left) → HaveWrites (made_or_halted e n p o c)
      done p goes None = whole p goes
      done p goes (Some l) = lost_writes c.nodes c.trace (record { event = e; replies = []; sent = []; halted = Some (record { call = l.call; kept = l.kept }) }) n all

      by : (o : Outcome Plan) → nodestep s ev c.disk ≡ o → HaveWrites (after_plan e n c o)
      by (Goes p) goes = done p goes (left_of n c.disk p.calls (stop_at c n))
      by (Differs p expected found) goes = lost_writes c.nodes c.trace (record { event = e; replies = []; sent = []; halted = None }) n all

-- nodes that start before a further view
started : (c : Cluster) (ns : List ℕ) (v : View) (x : Entry) → HaveWrites c → AllByRecursion (λ n. node_at c n ≡ None) ns → HaveWrites (viewed c ns v (c.trace ++ x ∷ []))
started c ns v x all down n =
    by_node c ns v (c.trace ++ x ∷ []) down (λ (o : Option NodeState). IfSome o (NodeWrites (c.trace ++ x ∷ []))) n
    (λ at. start_writes (c.trace ++ x ∷ []) c.config n (last_view c).epoch) (writes_stay c.trace x (node_at c n) (all n))

pub steps_have_writes_law : StepsHaveWrites
unfolding lose
steps_have_writes_law c e i h all =
    by_step HaveWrites c e
    (record {
      refused = λ r n. writes_stay c.trace (record { event = e; replies = reply.Refused r ∷ []; sent = []; halted = None }) (node_at c n) (all n);
      crashed = λ n is. lost_writes c.nodes c.trace (record { event = e; replies = reply.Crashed ∷ []; sent = []; halted = None }) n all;
      armed = λ n call stops is m. writes_stay c.trace (record { event = e; replies = reply.Armed ∷ []; sent = []; halted = None }) (node_at c m) (all m);
      handed = λ n s ev handed. stepped c e n s ev i h all handed;
      viewed = λ live owners v made drops.
          subst HaveWrites (sym (as_viewed c (returning (last_view c) v (all_nodes c)) e (reply.Viewed v.epoch) v))
          (started c (returning (last_view c) v (all_nodes c)) v (record { event = e; replies = reply.Viewed v.epoch ∷ []; sent = []; halted = None }) all (returning_down c v i));
      reopened = λ v made down.
          subst HaveWrites (sym (as_viewed c (all_nodes c) e (reply.Reopened v.epoch) v))
          (started c (all_nodes c) v (record { event = e; replies = reply.Reopened v.epoch ∷ []; sent = []; halted = None }) all (all_down c down));
    })

first_writes : (c : Sizes) (k : ℕ) → NodeWrites [] (first_node c k)
unfolding first_node
first_writes c k t p exclusive = absurd (not_locked (is_own (first_node c k).home.txs t) t.serial p exclusive)

pub opening_has_writes_law : OpeningHasWrites
unfolding opening
opening_has_writes_law c n = look_counted (λ j o. IfSome o (NodeWrites [])) None (λ k. Some (first_node c k)) c.nodes 0 n (λ j low. first_writes c (0 + j)) (λ j. tt)
