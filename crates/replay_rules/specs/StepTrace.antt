-- What a step adds to the trace.
use Rattle.std.specs.Prelude.{◌≡◌, [], ◌∷◌, ◌++◌}
use Rattle.pcl_base.specs.declared.event.Event.{Event}
use Rattle.pcl_base.specs.declared.trace.Entry.{Entry}
use Rattle.cluster_rules.specs.Clusters.{Cluster}

-- one entry more, which is that of the event
pub record AddsOne (c : Cluster) (e : Event) (next : Cluster) : Type 0 where
  pub entry : Entry
  pub event : entry.event ≡ e
  pub trace : next.trace ≡ c.trace ++ entry ∷ []
