-- Kinds of steps that change nothing of a page.
use Rattle.std.proofs.Common.{◌≡◌, ap, sym, subst, ℕ, Bool, false, List, [], ◌∷◌, ◌++◌, Option, Some, None, Ok}
use Rattle.std.specs.Prelude.{IfSome}
use Rattle.std.specs.List.{AllByRecursion, list_any}
use Rattle.pcl_base.specs.declared.event.Event.{Event}
use Rattle.pcl_base.specs.declared.event.Event.TheVariants as event
use Rattle.pcl_base.specs.declared.reply.Reason.{Reason}
use Rattle.pcl_base.specs.declared.reply.Reply.TheVariants as reply
use Rattle.pcl_base.specs.declared.trace.Entry.{Entry}
use Rattle.run_rules.specs.Views.{View, next, reopen}
use Rattle.node_rules.specs.NodeState.{NodeState, NodeEvent, partition}
use Rattle.node_rules.specs.NodeStep.{plan_of, begin_work, unless_refused}
use Rattle.node_rules.specs.Refusals.{refusal}
use Rattle.node_rules.specs.Work.{reply}
use Rattle.node_laws.proofs.Lists.{set_look}
use Rattle.cluster_rules.specs.Clusters.{Cluster, node_at, is_up, stop_at, last_view}
use Rattle.cluster_rules.specs.ClusterStep.{refuse, arm, made, all_nodes, returning, drops_up, make_view, make_reopened, step}
use Rattle.cluster_laws.specs.Handed.{IsHanded}
use Rattle.page_relation.proofs.LossParts.Starts.{returning_down, all_down}
use Rattle.page_relation.proofs.LossParts.Viewing.{viewed, by_node}
use Rattle.page_relation.proofs.LossParts.Views.{as_viewed}
use Rattle.page_relation.proofs.LossParts.Wholes.{quiet_events_keep_related_law}
use Rattle.page_relation.specs.Relation.{IsPageOf}
use Rattle.page_relation.specs.Together.{HasPages}
use Rattle.page_relation.specs.Work.Landing.{land}
use Rattle.page_relation.specs.Work.StepEnds.{start_of}
use Rattle.page_relation.proofs.WorkParts.Ended.{goes_landed, no_calls, refused_is_kept_law}
use Rattle.related_runs.specs.RunLaws.{IsOfRun, LeavesPages}
use Rattle.related_runs.specs.Between.Between.{NodeWrites, HaveWrites, EnteredIn, HaveEntered}
use Rattle.related_runs.specs.Between.Whole.{QuietKindsAreLeft}
use Rattle.related_runs.proofs.BetweenParts.Leaving.{pages_are_between_law, runs_have_entered, writes_stay, start_writes, start_entered}
use Rattle.related_runs.proofs.BetweenParts.Wrote.{runs_have_writes_law}

module _ (blank : List ℕ) (c : Cluster) (is : IsOfRun blank c) where
  entered : HaveEntered c
  entered = runs_have_entered blank c is

  writes : HaveWrites c
  writes = runs_have_writes_law blank c is

  refused_left : (e : Event) (r : Reason) → LeavesPages blank (refuse e r c)
  refused_left e r =
      pages_are_between_law blank (refuse e r c) ((quiet_events_keep_related_law blank c is.related).refused e r).pages entered
      (λ n. writes_stay c.trace (record { event = e; replies = reply.Refused r ∷ []; sent = []; halted = None }) (node_at c n) (writes n))

  armed_left : (n call kept : ℕ) → LeavesPages blank (arm (event.Arm n call kept) n call kept c)
  armed_left n call kept =
      pages_are_between_law blank (arm (event.Arm n call kept) n call kept c) ((quiet_events_keep_related_law blank c is.related).armed n call kept).pages entered
      (λ m. writes_stay c.trace (record { event = event.Arm n call kept; replies = reply.Armed ∷ []; sent = []; halted = None }) (node_at c m) (writes m))

  -- nodes that start before a further view
  started_left : (ns : List ℕ) (v : View) (x : Entry) → AllByRecursion (λ n. node_at c n ≡ None) ns → HasPages blank (viewed c ns v (c.trace ++ x ∷ []))
      → LeavesPages blank (viewed c ns v (c.trace ++ x ∷ []))
  started_left ns v x down pages =
      pages_are_between_law blank (viewed c ns v (c.trace ++ x ∷ [])) pages
      (λ n p low.
      by_node c ns v (c.trace ++ x ∷ []) down (EnteredIn (partition c.config p) p) n
      (λ at. start_entered c.config n (last_view c).epoch (partition c.config p) p) (entered n p low))
      (λ n.
      by_node c ns v (c.trace ++ x ∷ []) down (λ o. IfSome o (NodeWrites (c.trace ++ x ∷ []))) n
      (λ at. start_writes (c.trace ++ x ∷ []) c.config n (last_view c).epoch) (writes_stay c.trace x (node_at c n) (writes n)))

  viewed_left : (live : List Bool) (owners : List ℕ) (v : View) → next c.config (last_view c) live owners ≡ Ok v → drops_up c v ≡ false
      → LeavesPages blank (make_view false (event.View live owners) v c)
  viewed_left live owners v made drops =
      let same = as_viewed c (returning (last_view c) v (all_nodes c)) (event.View live owners) (reply.Viewed v.epoch) v in
      subst (LeavesPages blank) (sym same)
      (started_left (returning (last_view c) v (all_nodes c)) v (record { event = event.View live owners; replies = reply.Viewed v.epoch ∷ []; sent = []; halted = None })
      (returning_down c v is.related.cluster)
      (subst (HasPages blank) same ((quiet_events_keep_related_law blank c is.related).viewed live owners v made drops).pages))

  reopened_left : (v : View) → reopen c.config (last_view c) ≡ Ok v → list_any (is_up c) (all_nodes c) ≡ false → LeavesPages blank (make_reopened false event.Reopen v c)
  reopened_left v made down =
      let same = as_viewed c (all_nodes c) event.Reopen (reply.Reopened v.epoch) v in
      subst (LeavesPages blank) (sym same)
      (started_left (all_nodes c) v (record { event = event.Reopen; replies = reply.Reopened v.epoch ∷ []; sent = []; halted = None })
      (all_down c down)
      (subst (HasPages blank) same ((quiet_events_keep_related_law blank c is.related).reopened v made down).pages))

  -- an event that its node refuses
  module _ (e : Event) (n : ℕ) (s : NodeState) (ev : NodeEvent) (r : Reason) (h : IsHanded c e n s ev) (refused : refusal s ev ≡ Some r) where
    abbrev after : Cluster
    after = made e n (plan_of (reply (reply.Refused r) (begin_work s c.disk))) c

    stepped : step c e ≡ after
    unfolding land
    stepped =
        goes_landed c e n s ev (reply (reply.Refused r) (begin_work s c.disk)) h (ap (λ o. unless_refused o c.disk ev (start_of c s)) refused)
        (no_calls n c.disk (stop_at c n))

    pages_left : HasPages blank after
    pages_left =
        record {
          page = is.related.pages.page;
          reached = is.related.pages.reached;
          related = λ p low.
              subst (λ (d : Cluster). IsPageOf d p (is.related.pages.page p)) stepped
              (refused_is_kept_law c e n p s ev r (is.related.pages.page p) is.related.cluster h refused (is.related.pages.related p low));
        }

    abbrev entry : Entry
    entry = record { event = e; replies = reply.Refused r ∷ []; sent = []; halted = None }

    refused_there_left : LeavesPages blank after
    refused_there_left =
        pages_are_between_law blank after pages_left
        (λ m p low.
        set_look (EnteredIn (partition c.config p) p) None c.nodes n m (Some s)
        (λ at. subst (EnteredIn (partition c.config p) p) h.up (entered n p low)) (entered m p low))
        (λ m.
        set_look (λ o. IfSome o (NodeWrites (c.trace ++ entry ∷ []))) None c.nodes n m (Some s)
        (λ at. writes_stay c.trace entry (Some s) (subst (λ (o : Option NodeState). IfSome o (NodeWrites c.trace)) h.up (writes n)))
        (writes_stay c.trace entry (node_at c m) (writes m)))

pub quiet_kinds_are_left_law : QuietKindsAreLeft
quiet_kinds_are_left_law blank c is =
    record {
      refused = refused_left blank c is;
      armed = armed_left blank c is;
      viewed = viewed_left blank c is;
      reopened = reopened_left blank c is;
      refused_there = refused_there_left blank c is;
    }
