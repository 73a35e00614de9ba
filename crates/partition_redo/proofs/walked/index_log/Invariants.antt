use Rattle.std.proofs.Common.{◌≡◌, ℕ, ◌+◌, ◌*◌, ◌^◌, ◌≤◌, ◌<◌, List, Option, Some}
use Rattle.std.specs.List.{AllByRecursion}
use Rattle.pcl_base.specs.declared.trace.Call.{Call as Kind}
use Rattle.disk_model.specs.Disk.{IsIn}
use Rattle.run_rules.specs.Disk.{Disk, log_at}
use Rattle.redo_log.specs.Told.{IsLog, NoneFails}
use Rattle.redo_log.specs.Placed.{placed_of}
use Rattle.redo_log.specs.Walks.{Stands, node_of, to_come}
use Rattle.partition_redo.specs.Index.{known, known_all}
use Rattle.partition_redo.proofs.Walking.{RisesFrom}
use Rattle.partition_redo.proofs.walked.index_log.Given as goal

abbrev pub invariant-loop : goal.invariant-loop
invariant-loop g l = record {
  by : IsIn (g.S.Storage.logs l.s) l.by;
  node : IsIn (g.S.Storage.logs l.s) (node_of l.walk);
  own : node_of l.walk ≡ l.node;
  pages : g.S.Storage.pages l.s ≡ g.S.Storage.pages l.fn.s;
  logs : g.S.Storage.logs l.s ≡ g.S.Storage.logs l.fn.s;
  rooms : g.S.Storage.rooms l.s ≡ g.S.Storage.rooms l.fn.s;
  stops : g.S.Storage.stops l.s ≡ g.S.Storage.stops l.fn.s;
  calm : (f : List (Option ℕ)) → NoneFails (g.S.Storage.failing l.fn.s) l.by f → NoneFails (g.S.Storage.failing l.s) l.by f;
  later : (k : Kind) → g.S.Storage.faults l.fn.s k ≤ g.S.Storage.faults l.s k;
  stands : (log : List ℕ) → IsLog (g.S.Storage.logs l.s) (node_of l.walk) log → Stands l.walk log;
  known : (d : Disk) (p v : ℕ) → g.S.Storage.logs l.s ≡ Some d.logs → known_all p v l.node (to_come l.walk (log_at d l.node)) (known l.index p v) ≡ known_all p v l.node (placed_of l.config (log_at d l.node)) (known l.fn.index p v);
  versions : (d : Disk) → g.S.Storage.logs l.s ≡ Some d.logs → AllByRecursion (λ x. x.entry.version < 2 ^ 64) (to_come l.walk (log_at d l.node)) → AllByRecursion (λ x. x.entry.version < 2 ^ 64) (placed_of l.config (log_at d l.node));
  rises : (d : Disk) → g.S.Storage.logs l.s ≡ Some d.logs → RisesFrom (2 * l.counter) (to_come l.walk (log_at d l.node));
  few : (d : Disk) → g.S.Storage.logs l.s ≡ Some d.logs → 2 * l.counter < 2 ^ 64 + 2;
}
