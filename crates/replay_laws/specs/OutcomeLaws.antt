-- What holds of every run that has one of the outcomes.
use Rattle.std.specs.Prelude.{◌≡◌, ℕ, ◌⊎◌, Bool, List, Option, Some}
use Rattle.pcl_base.specs.Faults.{Rose}
use Rattle.pcl_base.specs.Limits.{Sizes}
use Rattle.pcl_base.specs.declared.event.Event.{Event}
use Rattle.pcl_base.specs.declared.event.Header.{Header}
use Rattle.replay_rules.specs.Outcome.{Outcome}
use Rattle.replay_rules.specs.Schedule.{IsSchedule, RanWhole}

-- A run that ended at status 0 has read a schedule to its end and has written the text of its run. And a
-- run over a schedule ends so, or for want of memory, where neither the source nor the sink failed.
pub record OutcomesAreComplete : Type 0 where
  pub whole : (totals : Bool) (left left' written written' : Option (List ℕ)) (source source' sink sink' : ℕ)
      → Outcome totals left left' written written' source source' sink sink' 0 → RanWhole totals left left' written written'
  pub ends : (totals : Bool) (h : Header) (c : Sizes) (events : List Event) (input : List ℕ) (left' written written' : Option (List ℕ)) (source source' sink sink' status : ℕ)
      → IsSchedule h c events input → Outcome totals (Some input) left' written written' source source' sink sink' status
      → ¬ (Rose source source') → ¬ (Rose sink sink') → (status ≡ 0) ⊎ (status ≡ 9)
