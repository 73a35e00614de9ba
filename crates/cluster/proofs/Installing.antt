-- The view after a node's own, for its install.
use Rattle.std.proofs.Common.{◌≡◌, refl, ap, sym, subst, ◌∙◌, ℕ, ◌+◌, List, [], Option, Some, None, Result, Ok, Err}
use Rattle.std.specs.Prelude.{IfOk, IfSome}
use Rattle.std.specs.List.{slice_get}
use Rattle.pcl_base.specs.declared.event.Event.{Event}
use Rattle.pcl_base.specs.declared.event.Event.TheVariants as event
use Rattle.pcl_base.specs.declared.reply.Reason.TheVariants as reason
use Rattle.run_rules.specs.Views.{View}
use Rattle.node_rules.specs.NodeState.{NodeState}
use Rattle.cluster_rules.specs.Clusters.{node_at, view_of_epoch}
use Rattle.cluster_rules.specs.ClusterStep.{install_next, refuse, step}
use Rattle.cluster_laws.proofs.Numbered.{views_are_numbered_law}
use Rattle.cluster_parts.specs.Events.{absent_at}
use Rattle.cluster_parts.specs.State.{AreParts, ClusterView, cluster_of}
use Rattle.cluster_parts.proofs.Named.{IsPresent, present, present_step}

-- the view that was found is the one after the node's own
abbrev pub IsNextOf : ClusterView → ℕ → Option View → Type 0
IsNextOf v n next = IfSome (node_at (cluster_of v) n) (λ s. next ≡ view_of_epoch v.views (s.epoch + 1))

next_of : (v : ClusterView) (n : ℕ) (next : Option View) → IsNextOf v n next → (is : IsPresent (cluster_of v) n) → next ≡ view_of_epoch v.views (is.state.epoch + 1)
next_of v n next found is = subst (λ (o : Option NodeState). IfSome o (λ s. next ≡ view_of_epoch v.views (s.epoch + 1))) is.up found

-- where there is no next view, the event is refused
pub no_view_step : (v : ClusterView) (e : Event) (n : ℕ) (next : Option View) → e ≡ event.Install n → absent_at (cluster_of v) n ≡ None → IsNextOf v n next → next ≡ None → refuse e reason.NoView (cluster_of v) ≡ step (cluster_of v) e
no_view_step v e n next same absent found none =
    let is = present (cluster_of v) n absent in
    subst (λ (x : Event). refuse x reason.NoView (cluster_of v) ≡ step (cluster_of v) x) (sym same)
    (sym
    (present_step (cluster_of v) (event.Install n) n [] refl is refl
    ∙ ap (λ (o : Option View). install_next (event.Install n) n is.state o (cluster_of v)) (sym (next_of v n next found is) ∙ none)))

-- views stand at the places of their epochs
pub placed_next : {E : Type 0} (v : ClusterView) (n epoch : ℕ) (views : List View) (r : Result (Option View) E) → AreParts v → IfSome (node_at (cluster_of v) n) (λ s. epoch ≡ s.epoch) → views ≡ v.views
    → IfOk r (λ x. x ≡ slice_get views epoch) → IfOk r (IsNextOf v n)
placed_next v n epoch views (Err e) i own all there = there
placed_next v n epoch views (Ok x) i own all there = by (node_at (cluster_of v) n) own
  where
    by : (o : Option NodeState) → IfSome o (λ s. epoch ≡ s.epoch) → IfSome o (λ s. x ≡ view_of_epoch v.views (s.epoch + 1))
    by None h = h
    by (Some s) h =
        there ∙ ap (λ (l : List View). slice_get l epoch) all ∙ sym ((views_are_numbered_law (cluster_of v) i.cluster).1 epoch) ∙ ap (λ (k : ℕ). view_of_epoch v.views (k + 1)) h
