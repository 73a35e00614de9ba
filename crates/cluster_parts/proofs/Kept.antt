-- What holds of every cluster is kept by a step.
use Rattle.std.proofs.Common.{◌≡◌, refl, ap, sym, subst, ◌∙◌, inl, ℕ, List, [], ◌∷◌, Option, Some, None, Result, Ok, Err, slice_index_or}
use Rattle.pcl_base.specs.Limits.{Sizes}
use Rattle.pcl_base.specs.declared.event.Event.{Event}
use Rattle.node_rules.specs.NodeState.{NodeState, NodeEvent}
use Rattle.node_rules.specs.DiskCalls.{Left}
use Rattle.node_rules.specs.NodeStep.{Plan, nodestep}
use Rattle.node_rules.specs.Work.{Outcome, Goes, Differs as differs}
use Rattle.cluster_rules.specs.Clusters.{Cluster, last_view, lose, opening, stop_at}
use Rattle.cluster_rules.specs.ClusterStep.{after_plan, all_nodes, left_of, made_or_halted, node_step, returning, start_all, start_one, step}
use Rattle.cluster_laws.specs.Sound.{IsCluster}
use Rattle.cluster_laws.proofs.Cases.{by_step}
use Rattle.cluster_laws.proofs.Steps.{opening_is_cluster_law, step_keeps_clusters_law}
use Rattle.cluster_parts.specs.declared.fault.ClusterFault.{ClusterFault}
use Rattle.cluster_parts.specs.declared.fault.ClusterFault.TheVariants.{NoMemory, Differs}
use Rattle.cluster_parts.specs.Ends.{Ends, ComesTo}
use Rattle.cluster_parts.specs.Laws.{ComingKeepsParts, OpeningsAreParts}
use Rattle.cluster_parts.specs.State.{AreParts, ClusterView, cluster_of}

-- a step keeps the sizes
started_sizes : (epoch : ℕ) (ns : List ℕ) (c : Cluster) → (start_all epoch ns c).config ≡ c.config
started_sizes epoch [] c = refl
started_sizes epoch (n ∷ ns) c = started_sizes epoch ns (start_one epoch c n)

stepped_sizes : (c : Cluster) (e : Event) (n : ℕ) (s : NodeState) (ev : NodeEvent) → (node_step e n s ev c).config ≡ c.config
unfolding node_step lose
stepped_sizes c e n s ev = by (nodestep s ev c.disk)
  where
    whole : (p : Plan) (o : Option Left) → (made_or_halted e n p o c).config ≡ c.config
    whole p None = refl
    whole p (Some l) = refl

    by : (o : Outcome Plan) → (after_plan e n c o).config ≡ c.config
    by (Goes p) = whole p (left_of n c.disk p.calls (stop_at c n))
    by (differs p expected found) = refl

pub lost_sizes : (n : ℕ) (c : Cluster) → (lose n c).config ≡ c.config
unfolding lose
lost_sizes n c = refl

pub same_sizes : (c : Cluster) (e : Event) → (step c e).config ≡ c.config
same_sizes c e =
    by_step (λ (d : Cluster). d.config ≡ c.config) c e
    (record {
      refused = λ r. refl;
      crashed = λ n is. lost_sizes n c;
      armed = λ n call kept is. refl;
      handed = λ n s ev h. stepped_sizes c e n s ev;
      viewed = λ live owners v made drops. started_sizes (last_view c).epoch (returning (last_view c) v (all_nodes c)) c;
      reopened = λ v made down. started_sizes (last_view c).epoch (all_nodes c) c;
    })

opening_sizes : (k : Sizes) → (opening k).config ≡ k
unfolding opening
opening_sizes k = refl

-- the parts of an opening cluster
pub openings_are_parts_law : OpeningsAreParts
openings_are_parts_law v k lim is title reads =
    record {
      cluster = subst IsCluster (sym is) (opening_is_cluster_law k lim);
      title = title ∙ sym (ap (λ (c : Cluster). c.config) is ∙ opening_sizes k);
      reads = reads;
    }

-- parts whose trace and storage are as before beside what the rules know, with another cluster of these sizes
pub parts_of : (v w : ClusterView) (d : Cluster) → AreParts v → IsCluster d → d.config ≡ v.config → cluster_of w ≡ d → w.trace.config ≡ v.trace.config → w.storage.failing ≡ v.storage.failing → AreParts w
parts_of v w d i now sizes is title failing =
    record {
      cluster = subst IsCluster (sym is) now;
      title = title ∙ i.title ∙ sym (ap (λ (c : Cluster). c.config) is ∙ sizes);
      reads = λ n. ap (λ (l : List (Option ℕ)). slice_index_or l n None) failing ∙ i.reads n;
    }

-- a step in which no node reads a page ends well, and keeps the parts
pub comes_ends : (c next : Cluster) (e : Event) (r : Result (Unit {0}) ClusterFault) (d : Cluster) → next ≡ step c e → ComesTo c next r d → Ends c e r d
comes_ends c next e (Ok x) d is came = inl (came ∙ is)
comes_ends c next e (Err NoMemory) d is came = came
comes_ends c next e (Err (Differs page expected found)) d is came = absurd came

pub coming_keeps_parts_law : ComingKeepsParts
coming_keeps_parts_law v w next e (Ok x) i is came title failing =
    parts_of v w (step (cluster_of v) e) i (step_keeps_clusters_law (cluster_of v) e i.cluster) (same_sizes (cluster_of v) e) (came ∙ is) title failing
coming_keeps_parts_law v w next e (Err NoMemory) i is came title failing = parts_of v w (cluster_of v) i i.cluster refl came title failing
coming_keeps_parts_law v w next e (Err (Differs page expected found)) i is came title failing = absurd came
