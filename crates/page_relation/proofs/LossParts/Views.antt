-- Views and reopenings.
use Rattle.std.proofs.Common.{◌≡◌, refl, ap, sym, subst, ◌∙◌, ℕ, Bool, false, List, [], ◌∷◌, Result, Ok}
use Rattle.std.specs.List.{list_any}
use Rattle.pcl_base.specs.declared.event.Event.{Event}
use Rattle.pcl_base.specs.declared.event.Event.TheVariants as event
use Rattle.pcl_base.specs.declared.reply.Reply.{Reply}
use Rattle.pcl_base.specs.declared.reply.Reply.TheVariants as reply
use Rattle.run_rules.specs.Views.{View, next, reopen}
use Rattle.rule_laws.specs.LaterViews.{moves, reopens}
use Rattle.cluster_rules.specs.Clusters.{Cluster, is_up, last_view, answer}
use Rattle.cluster_rules.specs.ClusterStep.{all_nodes, returning, drops_up, start_all, add_view, make_view, view_or_refuse, make_reopened, reopen_or_refuse, step}
use Rattle.cluster_laws.specs.Sound.{IsCluster}
use Rattle.cluster_laws.proofs.Steps.{step_keeps_clusters_law}
use Rattle.cluster_laws.proofs.Views.{next_epoch}
use Rattle.page_laws.specs.Moment.Looks.{with_entry}
use Rattle.page_relation.specs.Relation.{IsPageOf}
use Rattle.page_relation.specs.Loss.Laws.{ViewedIsRelated, ReopenedIsRelated}
use Rattle.page_relation.proofs.LossParts.Starts.{returning_down, all_down, starts_nodes}
use Rattle.page_relation.proofs.LossParts.Told.{TellsLittle, little_told, reply_adds_none}
use Rattle.page_relation.proofs.LossParts.Viewing.{viewed, IsViewed, page_viewed}

-- the cluster that a view makes, and that a reopening makes
pub view_is : (c : Cluster) (live : List Bool) (owners : List ℕ) (v : View) → IsCluster c → next c.config (last_view c) live owners ≡ Ok v → drops_up c v ≡ false → IsCluster (make_view false (event.View live owners) v c)
unfolding step
view_is c live owners v i made drops =
    subst IsCluster (ap (λ (r : Result View ℕ). view_or_refuse (event.View live owners) r c) made ∙ ap (λ (b : Bool). make_view b (event.View live owners) v c) drops)
    (step_keeps_clusters_law c (event.View live owners) i)

pub reopened_is : (c : Cluster) (v : View) → IsCluster c → reopen c.config (last_view c) ≡ Ok v → list_any (is_up c) (all_nodes c) ≡ false → IsCluster (make_reopened false event.Reopen v c)
unfolding step
reopened_is c v i made down =
    subst IsCluster (ap (λ (r : Result View ℕ). reopen_or_refuse event.Reopen r c) made ∙ ap (λ (b : Bool). make_reopened b event.Reopen v c) down)
    (step_keeps_clusters_law c event.Reopen i)

-- as the further view
pub as_viewed : (c : Cluster) (ns : List ℕ) (e : Event) (r : Reply) (v : View)
    → answer e r (add_view v (start_all (last_view c).epoch ns c)) ≡ viewed c ns v (with_entry c.trace e (r ∷ []) [])
as_viewed c ns e r v = ap (λ (d : Cluster). answer e r (add_view v d)) (starts_nodes (last_view c).epoch ns c)

pub view_told : (c : Cluster) (live : List Bool) (owners : List ℕ) (v : View) → TellsLittle c.config 0 c.trace (with_entry c.trace (event.View live owners) (reply.Viewed v.epoch ∷ []) [])
view_told c live owners v = little_told c.config 0 c.trace _ (reply_adds_none c.trace (event.View live owners) (reply.Viewed v.epoch) refl refl refl)

pub reopen_told : (c : Cluster) (v : View) → TellsLittle c.config 0 c.trace (with_entry c.trace event.Reopen (reply.Reopened v.epoch ∷ []) [])
reopen_told c v = little_told c.config 0 c.trace _ (reply_adds_none c.trace event.Reopen (reply.Reopened v.epoch) refl refl refl)

pub is_viewed : (c : Cluster) (live : List Bool) (owners : List ℕ) (v : View) → IsCluster c → next c.config (last_view c) live owners ≡ Ok v → drops_up c v ≡ false
    → IsViewed c (returning (last_view c) v (all_nodes c)) v (with_entry c.trace (event.View live owners) (reply.Viewed v.epoch ∷ []) [])
is_viewed c live owners v i made drops =
    record {
      before = i;
      after = subst IsCluster (as_viewed c (returning (last_view c) v (all_nodes c)) (event.View live owners) (reply.Viewed v.epoch) v) (view_is c live owners v i made drops);
      epoch = (next_epoch c.config (last_view c) v (moves live owners made)).0;
      down = returning_down c v i;
    }

pub is_reopened : (c : Cluster) (v : View) → IsCluster c → reopen c.config (last_view c) ≡ Ok v → list_any (is_up c) (all_nodes c) ≡ false
    → IsViewed c (all_nodes c) v (with_entry c.trace event.Reopen (reply.Reopened v.epoch ∷ []) [])
is_reopened c v i made down =
    record {
      before = i;
      after = subst IsCluster (as_viewed c (all_nodes c) event.Reopen (reply.Reopened v.epoch) v) (reopened_is c v i made down);
      epoch = (next_epoch c.config (last_view c) v (reopens made)).0;
      down = all_down c down;
    }

pub viewed_is_related_law : ViewedIsRelated
viewed_is_related_law c live owners v p a i made drops r =
    subst (λ (d : Cluster). IsPageOf d p a) (sym (as_viewed c (returning (last_view c) v (all_nodes c)) (event.View live owners) (reply.Viewed v.epoch) v))
    (page_viewed c (returning (last_view c) v (all_nodes c)) v _ p a (is_viewed c live owners v i made drops) (view_told c live owners v) r)

pub reopened_is_related_law : ReopenedIsRelated
reopened_is_related_law c v p a i made down r =
    subst (λ (d : Cluster). IsPageOf d p a) (sym (as_viewed c (all_nodes c) event.Reopen (reply.Reopened v.epoch) v))
    (page_viewed c (all_nodes c) v _ p a (is_reopened c v i made down) (reopen_told c v) r)
