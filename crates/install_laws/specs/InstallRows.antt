-- A worked install: node 1 of two is lost, with a write in its log alone, and node 0 gets its partition.
use Rattle.std.specs.Prelude.{◌≡◌, ℕ, Bool, true, false, List, [], ◌∷◌, map, Option, Some, None}
use Rattle.node_rules.specs.LockTable.{LockTable, entry_at, pages_of}
use Rattle.node_rules.specs.NodeState.{NodeState, first_node}
use Rattle.node_rules.specs.InstallRule.{in_view}
use Rattle.node_rules.specs.StepRows.{two, alone, left_by_one}
use Rattle.install_laws.specs.InstallPlans.{Turnover, Stays, IsTaken, PartitionPlan, InstallPlan, plan_install}

-- what a plan shows: its partition, the turnover, the pages that it writes with their versions, whether the
-- partition begins to be served, and the versions of its pages then
pub record Shown : Type 0 where
  pub partition : ℕ
  pub turnover : Turnover
  pub writes : List (ℕ × ℕ)
  pub begins : Bool
  pub versions : List ℕ

-- the versions of the pages of a table
abbrev pub versions_in : ℕ → Option LockTable → List ℕ
versions_in q None = []
versions_in q (Some t) = map (λ p. (entry_at t p).version) (pages_of two q)

-- a plan as it is shown
abbrev pub show_plan : ℕ × PartitionPlan → Shown
show_plan x =
    record {
      partition = x.0;
      turnover = x.1.turnover;
      writes = map (λ w. (w.page, w.at.version)) x.1.writes;
      begins = x.1.begins;
      versions = versions_in x.0 x.1.table;
    }

-- node 0 in the view without node 1
abbrev pub taker : NodeState
taker = in_view alone (first_node two 0)

-- the plans of its install
abbrev pub plans_shown : List Shown
plans_shown = map show_plan (plan_install left_by_one left_by_one.pages (first_node two 0).view alone taker).plans

-- its own partition stays as it is; the other one is taken, its page 1 is redone and written, and it is
-- served
abbrev pub AnInstallIsWorked : Type 0
AnInstallIsWorked =
    plans_shown
    ≡ record { partition = 0; turnover = Stays; writes = []; begins = false; versions = 0 ∷ 0 ∷ [] }
    ∷ record { partition = 1; turnover = IsTaken; writes = (1, 1) ∷ []; begins = true; versions = 1 ∷ 0 ∷ [] }
    ∷ []
