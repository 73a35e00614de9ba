-- The views that a cluster makes.
use Rattle.std.proofs.Common.{◌≡◌, refl, ap, sym, subst, ◌∙◌, ℕ, ◌+◌, Bool, true, false, List, [], ◌∷◌, ◌++◌, length, map, slice_set, Option, Some, None, Result, Ok, Err}
use Rattle.std.specs.List.{list_any}
use Rattle.pcl_base.specs.Limits.{Sizes}
use Rattle.pcl_base.specs.declared.event.Event.{Event}
use Rattle.pcl_base.specs.declared.event.Event.TheVariants as event
use Rattle.pcl_base.specs.declared.reply.Reply.{Reply}
use Rattle.pcl_base.specs.declared.reply.Reason.TheVariants as reason
use Rattle.pcl_base.specs.declared.trace.Entry.{Entry}
use Rattle.run_rules.specs.Views.{View, first_broken, keeps_six, anew, moved, next, reopen, unless_broken}
use Rattle.run_rules.specs.Words.{pick}
use Rattle.authority_map.specs.Faults.{reopen_broken}
use Rattle.node_rules.specs.NodeState.{NodeState, start_node}
use Rattle.node_laws.proofs.Lists.{set_length}
use Rattle.cluster_rules.specs.Clusters.{Cluster, answer, is_up, last_view}
use Rattle.cluster_rules.specs.ClusterStep.{add_view, all_nodes, drops_up, make_reopened, make_view, refuse, reopen_or_refuse, start_all, step, view_or_refuse}
use Rattle.cluster_laws.proofs.Numbered.{last_view_is_whole_law}
use Rattle.cluster_parts.specs.State.{AreParts, ClusterView, cluster_of}
use Rattle.cluster.specs.Starts.{with_started}
use Rattle.cluster.proofs.Starting.{started_is}

-- the last view has a flag for each node
pub last_long : (v : ClusterView) (before : View) → AreParts v → before ≡ last_view (cluster_of v) → length before.live ≡ v.config.nodes
last_long v before i same = ap (λ (x : View). length x.live) same ∙ (last_view_is_whole_law (cluster_of v) i.cluster).whole.live

three : {R : Type 0} (f : View → List Bool → List ℕ → R) (before last : View) (flags live : List Bool) (numbers owners : List ℕ) → before ≡ last → flags ≡ live → numbers ≡ owners
    → f before flags numbers ≡ f last live owners
three f before last flags live numbers owners b l o =
    ap (λ (x : View). f x flags numbers) b ∙ ap (λ (x : List Bool). f last x numbers) l ∙ ap (λ (x : List ℕ). f last live x) o

view_step : (c : Cluster) (e : Event) (live : List Bool) (owners : List ℕ) (r : Result View ℕ) → e ≡ event.View live owners → next c.config (last_view c) live owners ≡ r → view_or_refuse e r c ≡ step c e
unfolding step
view_step c e live owners r same made =
    subst (λ (x : Event). view_or_refuse x r c ≡ step c x) (sym same) (ap (λ (q : Result View ℕ). view_or_refuse (event.View live owners) q c) (sym made))

-- a view of these flags and owners, over the last one
module _ (v : ClusterView) (e : Event) (k : Sizes) (before : View) (flags live : List Bool) (numbers owners : List ℕ) where
  at_last : k ≡ v.config → before ≡ last_view (cluster_of v) → flags ≡ live → numbers ≡ owners → next v.config (last_view (cluster_of v)) live owners ≡ next k before flags numbers
  at_last s b l o = sym (ap (λ (x : Sizes). next x before flags numbers) s ∙ three (next v.config) before (last_view (cluster_of v)) flags live numbers owners b l o)

  pub view_made : (made : View) → e ≡ event.View live owners → k ≡ v.config → before ≡ last_view (cluster_of v) → flags ≡ live → numbers ≡ owners → next k before flags numbers ≡ Ok made
      → make_view (drops_up (cluster_of v) made) e made (cluster_of v) ≡ step (cluster_of v) e
  view_made made same s b l o is = view_step (cluster_of v) e live owners (Ok made) same (at_last s b l o ∙ is)

  pub view_refused : (rule : ℕ) → e ≡ event.View live owners → k ≡ v.config → before ≡ last_view (cluster_of v) → flags ≡ live → numbers ≡ owners → Some rule ≡ first_broken k before flags numbers
      → refuse e (reason.BadView rule) (cluster_of v) ≡ step (cluster_of v) e
  unfolding next
  view_refused rule same s b l o is =
      view_step (cluster_of v) e live owners (Err rule) same (at_last s b l o ∙ ap (λ (x : Option ℕ). unless_broken x (moved before flags numbers)) (sym is))

-- and a reopening
reopen_step : (c : Cluster) (e : Event) (r : Result View ℕ) → e ≡ event.Reopen → reopen c.config (last_view c) ≡ r → reopen_or_refuse e r c ≡ step c e
unfolding step
reopen_step c e r same made =
    subst (λ (x : Event). reopen_or_refuse x r c ≡ step c x) (sym same) (ap (λ (q : Result View ℕ). reopen_or_refuse event.Reopen q c) (sym made))

pub reopen_made : (v : ClusterView) (e : Event) (k : Sizes) (before made : View) → e ≡ event.Reopen → k ≡ v.config → before ≡ last_view (cluster_of v) → reopen k before ≡ Ok made
    → make_reopened (list_any (is_up (cluster_of v)) (all_nodes (cluster_of v))) e made (cluster_of v) ≡ step (cluster_of v) e
reopen_made v e k before made same s b is =
    reopen_step (cluster_of v) e (Ok made) same (sym (ap (λ (x : Sizes). reopen x before) s ∙ ap (reopen v.config) b) ∙ is)

broken_rule : (k : Sizes) (before : View) (rule : ℕ) → Some rule ≡ reopen_broken before → reopen k before ≡ Err rule
unfolding reopen
broken_rule k before rule is = by (keeps_six before) is
  where
    by : (b : Bool) → Some rule ≡ pick b None (Some 6) → pick {X = Result View ℕ} b (Ok (anew k (before.epoch + 1))) (Err 6) ≡ Err rule
    by true f = absurd (cc)
    by false f = let same : 6 ≡ rule = cc in ap Err same

pub reopen_refused : (v : ClusterView) (e : Event) (before : View) (rule : ℕ) → e ≡ event.Reopen → before ≡ last_view (cluster_of v) → Some rule ≡ reopen_broken before
    → refuse e (reason.BadView rule) (cluster_of v) ≡ step (cluster_of v) e
reopen_refused v e before rule same b is =
    reopen_step (cluster_of v) e (Err rule) same (ap (reopen v.config) (sym b) ∙ broken_rule v.config before rule is)

-- nodes that start leave as many places
with_length : (nodes : List (Option NodeState)) (ns : List ℕ) (ss : List (Option NodeState)) → length (with_started nodes ns ss) ≡ length nodes
unfolding with_started
with_length nodes [] ss = refl
with_length nodes (n ∷ ns) [] = refl
with_length nodes (n ∷ ns) (s ∷ ss) = with_length (slice_set nodes n s) ns ss ∙ set_length nodes n s

pub started_length : (nodes new : List (Option NodeState)) (ns : List ℕ) (ss : List (Option NodeState)) (k : ℕ) → new ≡ with_started nodes ns ss → k ≡ length nodes → length new ≡ k
started_length nodes new ns ss k is long = ap (λ (l : List (Option NodeState)). length l) is ∙ with_length nodes ns ss ∙ sym long

-- a view is made, and nodes start
pub view_started : (c : Cluster) (e : Event) (r : Reply) (w : View) (epoch last : ℕ) (ns : List ℕ) (ss : List (Option NodeState)) → epoch ≡ last → ss ≡ map (λ n. Some (start_node c.config n epoch)) ns
    → answer e r (add_view w (record c { nodes = with_started c.nodes ns ss })) ≡ answer e r (add_view w (start_all last ns c))
view_started c e r w epoch last ns ss same is =
    ap (λ (l : List (Option NodeState)). answer e r (add_view w (record c { nodes = with_started c.nodes ns l }))) is
    ∙ ap (λ (d : Cluster). answer e r (add_view w d)) (started_is epoch ns c)
    ∙ ap (λ (k : ℕ). answer e r (add_view w (start_all k ns c))) same

pub viewed_is : (c : Cluster) (e : Event) (r : Reply) (w : View) (ns : List ℕ) (ss nodes : List (Option NodeState)) (views : List View) (trace : List Entry)
    → nodes ≡ with_started c.nodes ns ss → views ≡ c.views ++ w ∷ [] → trace ≡ c.trace ++ record { event = e; replies = r ∷ []; sent = []; halted = None } ∷ []
    → record c { nodes = nodes; views = views; trace = trace } ≡ answer e r (add_view w (record c { nodes = with_started c.nodes ns ss }))
viewed_is c e r w ns ss nodes views trace a b d =
    ap (λ (l : List (Option NodeState)). record c { nodes = l; views = views; trace = trace }) a
    ∙ ap (λ (l : List View). record c { nodes = with_started c.nodes ns ss; views = l; trace = trace }) b
    ∙ ap (λ (l : List Entry). record c { nodes = with_started c.nodes ns ss; views = c.views ++ w ∷ []; trace = l }) d
