-- The step of a node over the storage of its cluster.
use Rattle.std.proofs.Common.{◌≡◌, refl, ap, sym, subst, ◌∙◌, ℕ, zero, suc, ◌<◌, List, [], ◌∷◌, length, Option, Some, None, Result, slice_index_or, get_or, arith}
use Rattle.disk_model.specs.Disk.{HasSizes}
use Rattle.disk_model.specs.Memory.{Disk as Storage, bytes_in, rooms_in}
use Rattle.node_rules.specs.NodeState.{NodeState, NodeEvent, number_of}
use Rattle.node_rules.specs.NodeStep.{nodestep}
use Rattle.redo_log.specs.Told.{NoneFails}
use Rattle.node_parts.specs.Outputs.{OutputsView}
use Rattle.node_parts.specs.declared.fault.StepFault.{StepFault}
use Rattle.step_ends.specs.Ran.{Ran, OthersStayArmed}
use Rattle.cluster_rules.specs.Clusters.{node_at}
use Rattle.cluster_parts.specs.Laws.{changed, standing}
use Rattle.cluster_parts.specs.State.{ClusterView, cluster_of, disk_of}
use Rattle.cluster_parts.specs.Steps.{CanStep, IsStepped, StaysBeside}
use Rattle.cluster_parts.proofs.Carried.{steps_are_told_law}
use Rattle.cluster_parts.proofs.Lost.{fits_by, stops_long}
use Rattle.cluster_parts.proofs.Room.{up_below}

same_node : (o : Option NodeState) (s t : NodeState) → o ≡ Some s → o ≡ Some t → s ≡ t
same_node o s t left right = let e : Some s ≡ Some t = sym left ∙ right in cc

module _ (v : ClusterView) (n : ℕ) (ev : NodeEvent) (can : CanStep v n ev) (s : NodeState) (up : node_at (cluster_of v) n ≡ Some s) where
  the_node : can.node ≡ s
  the_node = same_node (node_at (cluster_of v) n) can.node s can.up up

  number : number_of s ≡ n
  number = ap (λ (x : NodeState). number_of x) (sym the_node) ∙ can.number

  -- none of its reading calls fails
  reads : NoneFails (Some v.storage.failing) (number_of s) v.storage.failing
  reads = (refl, ap (λ (k : ℕ). slice_index_or v.storage.failing k None) number ∙ can.reads n)

  module _ (t : NodeState) (st : Storage) where
    -- what its step came to
    stepped : (before out : OutputsView) (r : Result (Unit {0}) StepFault) → before.replies ≡ [] → before.sends ≡ []
        → (NoneFails (Some v.storage.failing) (number_of s) v.storage.failing → Ran (number_of s) (disk_of v.storage) v.storage.stops (nodestep s ev (disk_of v.storage)) r (standing s before v.storage) (standing t out st))
        → (x : NodeState) → node_at (cluster_of v) n ≡ Some x → IsStepped n (nodestep x ev (disk_of v.storage)) r v (changed v n t st) out
    stepped before out r replies sends ran = λ x there.
        subst (λ (y : NodeState). IsStepped n (nodestep y ev (disk_of v.storage)) r v (changed v n t st) out) (same_node (node_at (cluster_of v) n) s x up there)
        (steps_are_told_law v n s t st before out (nodestep s ev (disk_of v.storage)) r replies sends
        (subst (λ (k : ℕ). Ran k (disk_of v.storage) v.storage.stops (nodestep s ev (disk_of v.storage)) r (standing s before v.storage) (standing t out st)) number (ran reads)))

    -- what it left
    left : HasSizes s.home.config (Some st.pages) (Some (bytes_in st.logs)) (Some (rooms_in st.logs)) → OthersStayArmed (number_of s) (Some v.storage.stops) (Some st.stops)
        → (NoneFails (Some v.storage.failing) (number_of s) v.storage.failing → NoneFails (Some st.failing) (number_of s) v.storage.failing) → StaysBeside n v (changed v n t st)
    left sizes others calm =
        let config : s.home.config ≡ v.config = ap (λ (x : NodeState). x.home.config) (sym the_node) ∙ can.config in
        let failing : Some st.failing ≡ Some v.storage.failing = (calm reads).0 in
        record {
          node = Some t;
          storage = st;
          same = refl;
          disk = fits_by s.home.config v.config st config sizes;
          stops = stops_long (number_of s) v.storage.stops st.stops others;
          failing = cc;
        }

-- what stands at a place
found_at : (xs : List (Option NodeState)) (n : ℕ) (x : Option NodeState) → n < length xs → x ≡ get_or xs n x → slice_index_or xs n None ≡ x
found_at [] n x low at = absurd (omega (arith, low))
found_at (y ∷ ys) zero x low at = sym at
found_at (y ∷ ys) (suc n) x low at = found_at ys n x (omega (arith, low)) at

-- the same for parts that are those of a cluster
module _ (u v : ClusterView) (same : u ≡ v) (n : ℕ) (ev : NodeEvent) (can : CanStep v n ev) (s t : NodeState) (st : Storage) (o : Option NodeState) (at : o ≡ get_or u.nodes n o) (is : o ≡ Some s) where
  can_as : CanStep u n ev
  can_as = subst (λ (y : ClusterView). CanStep y n ev) (sym same) can

  up : node_at (cluster_of u) n ≡ Some s
  up = found_at u.nodes n o (up_below u.nodes n can_as.node can_as.up) at ∙ is

  pub stepped_as : (before out : OutputsView) (r : Result (Unit {0}) StepFault) → before.replies ≡ [] → before.sends ≡ []
      → (NoneFails (Some u.storage.failing) (number_of s) u.storage.failing → Ran (number_of s) (disk_of u.storage) u.storage.stops (nodestep s ev (disk_of u.storage)) r (standing s before u.storage) (standing t out st))
      → (x : NodeState) → node_at (cluster_of v) n ≡ Some x → IsStepped n (nodestep x ev (disk_of v.storage)) r v (changed u n t st) out
  stepped_as before out r replies sends ran =
      subst (λ (y : ClusterView). (x : NodeState) → node_at (cluster_of y) n ≡ Some x → IsStepped n (nodestep x ev (disk_of y.storage)) r y (changed u n t st) out) same
      (stepped u n ev can_as s up t st before out r replies sends ran)

  pub left_as : HasSizes s.home.config (Some st.pages) (Some (bytes_in st.logs)) (Some (rooms_in st.logs)) → OthersStayArmed (number_of s) (Some u.storage.stops) (Some st.stops)
      → (NoneFails (Some u.storage.failing) (number_of s) u.storage.failing → NoneFails (Some st.failing) (number_of s) u.storage.failing) → StaysBeside n v (changed u n t st)
  left_as sizes others calm = subst (λ (y : ClusterView). StaysBeside n y (changed u n t st)) same (left u n ev can_as s up t st sizes others calm)
