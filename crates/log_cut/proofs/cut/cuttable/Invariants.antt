use Rattle.std.proofs.Common.{◌≡◌, ℕ, ◌+◌, ◌*◌, ◌^◌, ◌≤◌, ◌<◌, List, Option, Some, length}
use Rattle.pcl_base.specs.declared.trace.Call.{Call as Kind}
use Rattle.disk_model.specs.Disk.{HasSizes}
use Rattle.node_rules.specs.CutRule.{cuttable}
use Rattle.redo_log.specs.Told.{IsLog, NoneFails}
use Rattle.redo_log.specs.Walks.{Stands, node_of, to_come}
use Rattle.redo_log.proofs.Rising.{RisesFrom}
use Rattle.log_cut.specs.Cutting.{cut_from}
use Rattle.log_cut.proofs.WithinLemmas.{EndBy}
use Rattle.log_cut.proofs.cut.cuttable.Given as goal

-- the pages that are to come decide what may be cut
abbrev pub invariant-loop : goal.invariant-loop
invariant-loop g l = record {
  sizes : HasSizes l.config (g.S.Storage.pages l.s) (g.S.Storage.logs l.s) (g.S.Storage.rooms l.s);
  own : node_of l.walk ≡ l.node;
  config : l.walk.config ≡ l.config;
  raw : length l.raw ≡ l.config.size + 16;
  pages : g.S.Storage.pages l.s ≡ g.S.Storage.pages l.fn.s;
  logs : g.S.Storage.logs l.s ≡ g.S.Storage.logs l.fn.s;
  rooms : g.S.Storage.rooms l.s ≡ g.S.Storage.rooms l.fn.s;
  stops : g.S.Storage.stops l.s ≡ g.S.Storage.stops l.fn.s;
  calm : (f : List (Option ℕ)) → NoneFails (g.S.Storage.failing l.fn.s) l.node f → NoneFails (g.S.Storage.failing l.s) l.node f;
  later : (k : Kind) → g.S.Storage.faults l.fn.s k ≤ g.S.Storage.faults l.s k;
  stands : (log : List ℕ) → IsLog (g.S.Storage.logs l.fn.s) l.node log → Stands l.walk log;
  cut : (pages : List (List ℕ)) (log : List ℕ) → g.S.Storage.pages l.fn.s ≡ Some pages → IsLog (g.S.Storage.logs l.fn.s) l.node log → cut_from pages l.walk.whole (to_come l.walk log) ≡ cuttable l.config pages log;
  rises : (log : List ℕ) → IsLog (g.S.Storage.logs l.fn.s) l.node log → RisesFrom (2 * l.counter) (to_come l.walk log);
  within : (log : List ℕ) → IsLog (g.S.Storage.logs l.fn.s) l.node log → (l.walk.whole ≤ length log) × EndBy (length log) (to_come l.walk log);
  few : (log : List ℕ) → IsLog (g.S.Storage.logs l.fn.s) l.node log → 2 * l.counter < 2 ^ 64 + 2;
}
