-- How a step of a cluster ends, by the answer of its node's step.
use Rattle.std.proofs.Common.{◌≡◌, refl, ap, sym, subst, ◌∙◌, inl, inr, ℕ, List, [], Option, Some, None, Ok, Err, slice_index_or}
use Rattle.pcl_base.specs.declared.event.Event.{Event}
use Rattle.pcl_base.specs.declared.trace.Call.{Call}
use Rattle.pcl_base.specs.declared.tx.TxId.{TxId}
use Rattle.node_rules.specs.NodeState.{NodeEvent}
use Rattle.node_rules.specs.NodeStep.{Plan, nodestep}
use Rattle.node_rules.specs.Work.{Outcome, Goes, Differs as differs}
use Rattle.node_parts.specs.Outputs.{OutputsView}
use Rattle.node_parts.specs.declared.fault.StepFault.TheVariants as fault
use Rattle.trace_entries.specs.Notes.{NotesView, HasMemory}
use Rattle.cluster_rules.specs.Clusters.{Cluster, lose}
use Rattle.cluster_rules.specs.ClusterStep.{step}
use Rattle.cluster_laws.specs.Sound.{IsCluster}
use Rattle.cluster_laws.proofs.Changes.{noted as noted_keeps}
use Rattle.cluster_laws.proofs.Steps.{step_keeps_clusters_law}
use Rattle.cluster_parts.specs.declared.fault.ClusterFault.TheVariants.{NoMemory, Differs}
use Rattle.cluster_parts.specs.Ends.{Ends, StepDiffers}
use Rattle.cluster_parts.specs.State.{AreParts, ClusterView, cluster_of, disk_of}
use Rattle.cluster_parts.specs.Steps.{HaveRoom, IsPrepared, IsReady, IsStepped, StaysBeside, before_taking, noted, stopped}
use Rattle.cluster_parts.proofs.Finished.{differs_step, made_steps_are_steps_law, stopped_steps_are_steps_law}
use Rattle.cluster_parts.proofs.Kept.{lost_sizes, same_sizes}
use Rattle.cluster_parts.proofs.Lost.{lost_nodes_leave_clusters_law}
use Rattle.cluster_parts.proofs.Room.{memory_for, room_for}

-- the trace's sizes, and the failing reads, are as they were
pub record Aside (v w : ClusterView) : Type 0 where
  pub title : w.trace.config ≡ v.trace.config
  pub failing : w.storage.failing ≡ v.storage.failing

module _ (v : ClusterView) (e : Event) (n : ℕ) (ev : NodeEvent) (r : IsReady v e n ev) where
  abbrev pub base : Cluster
  base = before_taking n ev (cluster_of v)

  -- the parts are those of another cluster
  pub ready_parts : (x : ClusterView) (d : Cluster) → IsCluster d → d.config ≡ v.config → cluster_of x ≡ d → Aside v x → AreParts x
  ready_parts x d now sizes is aside =
      record {
        cluster = subst IsCluster (sym is) now;
        title = aside.title ∙ r.title ∙ sym (ap (λ (c : Cluster). c.config) is ∙ sizes);
        reads = λ k. ap (λ (l : List (Option ℕ)). slice_index_or l k None) aside.failing ∙ r.reads k;
      }

  -- a step that was refused for want of memory
  pub back_ends : (x : ClusterView) → cluster_of x ≡ base → Ends {T = Unit {0}} base e (Err NoMemory) (cluster_of x)
  back_ends x is = is

  pub back_parts : (x : ClusterView) → cluster_of x ≡ base → Aside v x → AreParts x
  back_parts x is aside = ready_parts x base r.cluster refl is aside

  module _ (w x : ClusterView) (y z : Unit {0}) (out : OutputsView) where
    -- a step that went well
    made_by : (o : Outcome Plan) → nodestep r.state ev (disk_of v.storage) ≡ o → IsStepped {T = Unit {0}} n o (Ok y) v w out → cluster_of x ≡ noted e n ev out.replies out.sends (cluster_of w) → cluster_of x ≡ step base e
    made_by (Goes p) goes made is = made_steps_are_steps_law v w x e n ev p r out goes made is
    made_by (differs p expected found) reads bad is = absurd bad

    made_is : IsStepped {T = Unit {0}} n (nodestep r.state ev (disk_of v.storage)) (Ok y) v w out → cluster_of x ≡ noted e n ev out.replies out.sends (cluster_of w) → cluster_of x ≡ step base e
    made_is made is = made_by (nodestep r.state ev (disk_of v.storage)) refl made is

    pub made_ends : IsStepped {T = Unit {0}} n (nodestep r.state ev (disk_of v.storage)) (Ok y) v w out → cluster_of x ≡ noted e n ev out.replies out.sends (cluster_of w) → Ends {T = Unit {0}} base e (Ok z) (cluster_of x)
    made_ends made is = inl (made_is made is)

    pub made_parts : IsStepped {T = Unit {0}} n (nodestep r.state ev (disk_of v.storage)) (Ok y) v w out → cluster_of x ≡ noted e n ev out.replies out.sends (cluster_of w) → Aside v x → AreParts x
    made_parts made is aside = ready_parts x (step base e) (step_keeps_clusters_law base e r.cluster) (same_sizes base e) (made_is made is) aside

    -- there was room for what it gave
    room_by : (notes : NotesView) (o : Outcome Plan) → nodestep r.state ev (disk_of v.storage) ≡ o → IsPrepared v n ev notes → IsStepped {T = Unit {0}} n o (Ok y) v w out → HaveRoom v.links n out.sends × HasMemory notes out.sends
    room_by notes (Goes p) goes prepared made =
        (subst (HaveRoom v.links n) (sym made.sends) (room_for v e n ev notes p r goes prepared), subst (HasMemory notes) (sym made.sends) (memory_for v e n ev notes p r goes prepared))
    room_by notes (differs p expected found) reads prepared bad = absurd bad

    pub room_was : (notes : NotesView) → IsPrepared v n ev notes → IsStepped {T = Unit {0}} n (nodestep r.state ev (disk_of v.storage)) (Ok y) v w out → HaveRoom v.links n out.sends × HasMemory notes out.sends
    room_was notes prepared made = room_by notes (nodestep r.state ev (disk_of v.storage)) refl prepared made

  module _ (w x : ClusterView) (z : Unit {0}) (out : OutputsView) (call : Call) (kept : Option TxId) where
    -- a step that a failed call has ended
    halted_by : (o : Outcome Plan) → nodestep r.state ev (disk_of v.storage) ≡ o → IsStepped {T = Unit {0}} n o (Err (fault.Halted call kept)) v w out → cluster_of x ≡ stopped e n call kept (cluster_of w) → Ends {T = Unit {0}} base e (Ok z) (cluster_of x)
    halted_by (Goes p) goes halted is = inl (stopped_steps_are_steps_law v w x e n ev p r call kept goes halted is)
    halted_by (differs p expected found) reads armed is =
        inr (record { page = p; expected = expected; found = found; step = record { node = n; state = r.state; event = ev; handed = r.handed; reads = reads }; armed = armed })

    pub halted_ends : IsStepped {T = Unit {0}} n (nodestep r.state ev (disk_of v.storage)) (Err (fault.Halted call kept)) v w out → cluster_of x ≡ stopped e n call kept (cluster_of w) → Ends {T = Unit {0}} base e (Ok z) (cluster_of x)
    halted_ends halted is = halted_by (nodestep r.state ev (disk_of v.storage)) refl halted is

    pub halted_parts : StaysBeside n v w → cluster_of x ≡ stopped e n call kept (cluster_of w) → Aside v x → AreParts x
    halted_parts beside is aside =
        ready_parts x (stopped e n call kept (cluster_of w)) (noted_keeps e [] [] (Some (record { call = call; kept = kept })) (lose n (cluster_of w)) (lost_nodes_leave_clusters_law v w e n ev r beside))
        (lost_sizes n (cluster_of w) ∙ ap (λ (u : ClusterView). u.config) beside.same) is aside

  module _ (w x : ClusterView) (out : OutputsView) (page expected found : ℕ) where
    -- a step that read a page which differs
    differs_by : (o : Outcome Plan) → nodestep r.state ev (disk_of v.storage) ≡ o → IsStepped {T = Unit {0}} n o (Err (fault.Differs page expected found)) v w out → StepDiffers base e page expected found
    differs_by (Goes p) goes bad = absurd bad
    differs_by (differs p a b) reads same =
        subst (λ (k : ℕ). StepDiffers base e page expected k) same.2
        (subst (λ (k : ℕ). StepDiffers base e page k b) same.1 (subst (λ (k : ℕ). StepDiffers base e k a b) same.0 (differs_step v e n ev p a b r reads)))

    pub differs_ends : IsStepped {T = Unit {0}} n (nodestep r.state ev (disk_of v.storage)) (Err (fault.Differs page expected found)) v w out → Ends {T = Unit {0}} base e (Err (Differs page expected found)) (cluster_of x)
    differs_ends read = differs_by (nodestep r.state ev (disk_of v.storage)) refl read

    pub differs_parts : StaysBeside n v w → cluster_of x ≡ lose n (cluster_of w) → Aside v x → AreParts x
    differs_parts beside is aside =
        ready_parts x (lose n (cluster_of w)) (lost_nodes_leave_clusters_law v w e n ev r beside) (lost_sizes n (cluster_of w) ∙ ap (λ (u : ClusterView). u.config) beside.same) is aside
