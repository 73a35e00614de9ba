-- A cut of what may be cut, and redo.
use Rattle.std.specs.Prelude.{◌≡◌, ℕ, drop}
use Rattle.pcl_base.specs.Limits.{Sizes}
use Rattle.run_rules.specs.Disk.{Disk, log_at}
use Rattle.run_rules.specs.Redo.{redo}
use Rattle.node_rules.specs.Work.{Goes}
use Rattle.node_rules.specs.CutRule.{cuttable}
use Rattle.redo_laws.specs.Words.{with_log}
use Rattle.redo_laws.specs.Laws.{HasLog}

-- Once what may be cut is cut from the front of a log, redo of each page is as before.
abbrev pub CutKeepsRedo : Type 0
CutKeepsRedo =
    (c : Sizes) (d : Disk) (n p count : ℕ) → HasLog c d n → cuttable c d.pages (log_at d n) ≡ Goes count
    → redo c (with_log d n (drop count (log_at d n))) p ≡ redo c d p
