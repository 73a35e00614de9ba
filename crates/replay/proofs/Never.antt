-- No page differs in a step of a run, so the outcome is that of the rules.
use Rattle.std.proofs.Common.{◌≡◌, ℕ, Bool, List, Option, Some, Err, subst}
use Rattle.std.specs.Prelude.{◌⊎◌, IfSome}
use mathlib.Core.Logic.{inl, inr}
use Rattle.cluster_rules.specs.Clusters.{Cluster}
use Rattle.cluster_rules.specs.Run.{last}
use Rattle.cluster_parts.specs.Ends.{StepDiffers}
use Rattle.pcl_base.specs.declared.event.Event.{Event}
use Rattle.replay_rules.specs.Due.{first_place}
use Rattle.replay_rules.specs.Due.Place.{Going}
use Rattle.whole_runs.proofs.Never.{no_step_differs_law}
use Rattle.replay.specs.declared.ends.Fault.{Fault}
use Rattle.replay.specs.Wrote.{status_of}
use Rattle.replay.specs.Outcome.{HasDiffered, Outcome, OutcomeOrDifference}
use Rattle.replay.proofs.RunsRead.{IsOfSchedule, HasRun, read_run}

-- a cluster of the run of a schedule
never_here : (c : Cluster) (e : Event) (page expected found : ℕ) → IsOfSchedule c → StepDiffers c e page expected found → ⊥
never_here c e page expected found is d =
    let moved : StepDiffers (last is.sizes is.events) e page expected found = subst (λ x. StepDiffers x e page expected found) is.same d in
    no_step_differs_law is.sizes is.events e moved.node moved.state moved.event page expected found is.limits moved.handed moved.reads

pub never_differs : (t : Bool) (bytes : List ℕ) (a b : Option (List ℕ)) (s : Option ℕ) → HasDiffered t first_place bytes a b s → ⊥
never_differs t bytes a b s d =
    let run : HasRun (Going d.reading) = subst HasRun d.place (read_run t d.front) in
    let is : IsOfSchedule d.differs.cluster = subst (λ o. IfSome o IsOfSchedule) d.differs.here run in
    never_here d.differs.cluster d.differs.event d.differs.page d.differs.expected d.differs.found is d.differs.step

pub by_rules : (t : Bool) (left left' a b : Option (List ℕ)) (source source' sink sink' status : ℕ) → OutcomeOrDifference t left left' a b source source' sink sink' status
    → Outcome t left left' a b source source' sink sink' status
by_rules t left left' a b source source' sink sink' status o = by o.runs
  where
    by : Outcome t left left' a b source source' sink sink' status ⊎ HasDiffered t first_place o.taken a b (Some status) → Outcome t left left' a b source source' sink sink' status
    by (inl g) = g
    by (inr d) = absurd (never_differs t o.taken a b (Some status) d)

-- the same of a run that a fault ended
pub faulted : (t : Bool) (left left' a b : Option (List ℕ)) (source source' sink sink' : ℕ) (f k : Fault) → f ≡ k → OutcomeOrDifference t left left' a b source source' sink sink' (status_of (Err f))
    → Outcome t left left' a b source source' sink sink' (status_of (Err k))
faulted t left left' a b source source' sink sink' f k same o =
    by_rules t left left' a b source source' sink sink' (status_of (Err k)) (subst (λ (x : Fault). OutcomeOrDifference t left left' a b source source' sink sink' (status_of (Err x))) same o)
