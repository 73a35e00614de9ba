use Rattle.std.proofs.Common.{◌≡◌, ℕ, ◌+◌, ◌*◌, ◌^◌, ◌≤◌, ◌<◌, List, Option}
use Rattle.pcl_base.specs.declared.trace.Call.{Call as Kind}
use Rattle.disk_model.specs.Disk.{HasSizes}
use Rattle.redo_log.specs.Told.{IsLog, NoneFails}
use Rattle.redo_log.specs.Walks.{Stands, node_of, to_come}
use Rattle.redo_log.proofs.Rising.{RisesFrom}
use Rattle.install_steps.proofs.torn.walked_rest.Given as goal

-- the walk goes on, and its answers are few
abbrev pub invariant-loop : goal.invariant-loop
invariant-loop g l = record {
  sizes : HasSizes l.config (g.S.Storage.pages l.s) (g.S.Storage.logs l.s) (g.S.Storage.rooms l.s);
  own : node_of l.walk ≡ l.me;
  config : l.walk.config ≡ l.config;
  pages : g.S.Storage.pages l.s ≡ g.S.Storage.pages l.fn.s;
  logs : g.S.Storage.logs l.s ≡ g.S.Storage.logs l.fn.s;
  rooms : g.S.Storage.rooms l.s ≡ g.S.Storage.rooms l.fn.s;
  stops : g.S.Storage.stops l.s ≡ g.S.Storage.stops l.fn.s;
  calm : (f : List (Option ℕ)) → NoneFails (g.S.Storage.failing l.fn.s) l.me f → NoneFails (g.S.Storage.failing l.s) l.me f;
  later : (k : Kind) → g.S.Storage.faults l.fn.s k ≤ g.S.Storage.faults l.s k;
  stands : (log : List ℕ) → IsLog (g.S.Storage.logs l.fn.s) l.me log → Stands l.walk log;
  rises : (log : List ℕ) → IsLog (g.S.Storage.logs l.fn.s) l.me log → RisesFrom (2 * l.counter) (to_come l.walk log);
  few : (log : List ℕ) → IsLog (g.S.Storage.logs l.fn.s) l.me log → 2 * l.counter < 2 ^ 64 + 2;
}
