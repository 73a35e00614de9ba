-- A whole run that was told, and what its trace tells of the pages.
use Rattle.std.specs.Prelude.{◌≡◌, ℕ, Bool, List, Option}
use Rattle.cluster_rules.specs.Run.{last}
use Rattle.run_rules.specs.Account.{IsAccounted}
use Rattle.run_rules.specs.Durable.{IsDurable}
use Rattle.run_rules.specs.Fresh.{IsFresh}
use Rattle.run_rules.specs.Serial.{IsSerial}
use Rattle.single_laws.specs.Alone.{OneAtATime}
use Rattle.replay_rules.specs.Schedule.{RanWhole}

-- All of the input was read, it is a schedule, and the text of its run is written. In that run each granted access
-- finds its page as the committed transactions and its own writes leave it; the committed transactions replied as one
-- after another; and redo of the disks gives exactly their result. Where it is one of one node in which nothing fails,
-- with at most one transaction open at a time, each message has its cause.
pub record IsTraced (totals : Bool) (left left' written written' : Option (List ℕ)) : Type 0 where
  pub run : RanWhole totals left left' written written'
  pub fresh : IsFresh run.sizes (last run.sizes run.events).trace
  pub serial : IsSerial run.sizes (last run.sizes run.events).trace
  pub durable : IsDurable run.sizes (last run.sizes run.events).trace (last run.sizes run.events).disk
  pub account : run.sizes.nodes ≡ 1 → OneAtATime run.sizes run.events → IsAccounted run.sizes (last run.sizes run.events).trace
