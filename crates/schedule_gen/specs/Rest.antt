-- What is left of a schedule from a stage of a round on.
use Rattle.std.specs.Prelude.{ℕ, ◌+◌, ◌==◌, ◌&&◌, ◌||◌, Bool, nat_le, List, ◌∷◌, ◌++◌, length, map, drop}
use Rattle.pcl_base.specs.Limits.{Sizes}
use Rattle.pcl_base.specs.declared.tx.TxId.{TxId}
use Rattle.pcl_base.specs.declared.event.Event.{Event}
use Rattle.pcl_base.specs.declared.event.Event.TheVariants.{Begin, Commit, Abort, View, Install}
use Rattle.text_rules.specs.Generator.{Making, begin, access, deliveries, flags_of, failure, failure_if, rounds}
use Rattle.schedule_gen.specs.declared.stage.Turn.{Turn}
use Rattle.schedule_gen.specs.declared.stage.Turn.TheVariants.{First, Second, Third}
use Rattle.schedule_gen.specs.declared.stage.Stage.{Stage}
use Rattle.schedule_gen.specs.declared.stage.Stage.TheVariants.{BeginFirst, BeginSecond, AccessFirst, AccessSecond, Crash, View as ViewStage, Install as InstallStage, CommitFirst, AbortFirst, CommitSecond, AbortSecond}

-- a round: the configuration, its number, how many rounds come after it, and its two transactions
pub record Round : Type 0 where
  pub sizes : Sizes
  pub number : ℕ
  pub later : ℕ
  pub first : TxId
  pub second : TxId

-- the events of something, from what is kept before it
abbrev pub Events : Type 0
Events = Making → List Event

-- the rounds after this one
abbrev pub next_rounds : Round → Events
next_rounds w s = (rounds w.sizes (w.number + 1) w.later s).events

-- the ends of the two transactions, the last sweep, and the rounds after it
abbrev pub from_next : Round → Events
from_next w s = deliveries s.live ++ next_rounds w s

abbrev pub from_abort_second : Round → Events
from_abort_second w s = Abort w.second ∷ from_next w s

abbrev pub from_commit_second : Round → Events
from_commit_second w s = Commit w.second ∷ from_abort_second w s

abbrev pub from_abort_first : Round → Events
from_abort_first w s = Abort w.first ∷ from_commit_second w s

abbrev pub from_commit_first : Round → Events
from_commit_first w s = Commit w.first ∷ from_abort_first w s

-- a turn: an access of each transaction, a sweep, and what follows it
abbrev pub from_access_second : Round → Events → Events
from_access_second w follow s =
    (access w.sizes.pages w.second s).events
    ++ (deliveries (access w.sizes.pages w.second s).next.live ++ follow (access w.sizes.pages w.second s).next)

abbrev pub from_access_first : Round → Events → Events
from_access_first w follow s =
    (access w.sizes.pages w.first s).events ++ from_access_second w follow (access w.sizes.pages w.first s).next

-- what follows each turn
abbrev pub after_second : Round → Events
after_second w = from_access_first w (from_commit_first w)

abbrev pub resumed : Round → Events
resumed w = from_access_first w (after_second w)

abbrev pub is_due : Round → Making → Bool
is_due w s = (w.number == 20 || w.number == 40) && nat_le 2 (length s.live)

abbrev pub after_first : Round → Events
after_first w s =
    (failure_if (is_due w s) w.sizes.nodes s).events ++ resumed w (failure_if (is_due w s) w.sizes.nodes s).next

abbrev pub after_turn : Round → Turn → Events
after_turn w First = after_first w
after_turn w Second = after_second w
after_turn w Third = from_commit_first w

-- a failure: the crash, the view, the installs and two sweeps
abbrev pub from_installs : Round → ℕ → Events
from_installs w made s = drop made (map (λ x. Install x) s.live) ++ (deliveries s.live ++ (deliveries s.live ++ resumed w s))

abbrev pub from_view : Round → Events
from_view w s = View (flags_of w.sizes.nodes s.live) s.owners ∷ from_installs w 0 s

abbrev pub from_crash : Round → Events
from_crash w s = (failure w.sizes.nodes s).events ++ resumed w (failure w.sizes.nodes s).next

-- the begins
abbrev pub from_begin_second : Round → ℕ → Events
from_begin_second w node s =
    Begin node ∷ from_access_first (record w { second = (begin node s).value }) (after_first (record w { second = (begin node s).value })) (begin node s).next

-- what is left from a stage on
abbrev pub rest : Round → Stage → Events
rest w BeginFirst s = next_rounds w s
rest w (BeginSecond node) s = from_begin_second w node s
rest w (AccessFirst turn) s = from_access_first w (after_turn w turn) s
rest w (AccessSecond turn) s = from_access_second w (after_turn w turn) s
rest w Crash s = from_crash w s
rest w ViewStage s = from_view w s
rest w (InstallStage made) s = from_installs w made s
rest w CommitFirst s = from_commit_first w s
rest w AbortFirst s = from_abort_first w s
rest w CommitSecond s = from_commit_second w s
rest w AbortSecond s = from_abort_second w s
