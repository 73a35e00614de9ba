use Rattle.std.proofs.Common.{◌≡◌, ℕ, ◌-◌, ◌^◌, ◌≤◌, ◌<◌, List, Option, Some}
use Rattle.std.specs.List.{AllByRecursion}
use Rattle.pcl_base.specs.declared.trace.Call.{Call as Kind}
use Rattle.disk_model.specs.Disk.{HasSizes}
use Rattle.run_rules.specs.Disk.{Disk, log_at}
use Rattle.run_rules.specs.Views.{count_from}
use Rattle.redo_log.specs.Told.{NoneFails}
use Rattle.redo_log.specs.Placed.{placed_of}
use Rattle.partition_redo.specs.Index.{known, known_logs}
use Rattle.partition_redo.proofs.walked.index_logs.Given as goal

abbrev pub invariant-loop-node : goal.invariant-loop-node
invariant-loop-node g l = record {
  sizes : HasSizes l.config (g.S.Storage.pages l.s) (g.S.Storage.logs l.s) (g.S.Storage.rooms l.s);
  pages : g.S.Storage.pages l.s ≡ g.S.Storage.pages l.fn.s;
  logs : g.S.Storage.logs l.s ≡ g.S.Storage.logs l.fn.s;
  rooms : g.S.Storage.rooms l.s ≡ g.S.Storage.rooms l.fn.s;
  stops : g.S.Storage.stops l.s ≡ g.S.Storage.stops l.fn.s;
  calm : (f : List (Option ℕ)) → NoneFails (g.S.Storage.failing l.fn.s) l.by f → NoneFails (g.S.Storage.failing l.s) l.by f;
  later : (k : Kind) → g.S.Storage.faults l.fn.s k ≤ g.S.Storage.faults l.s k;
  nodes : l.nodes ≡ l.config.nodes;
  known : (d : Disk) (p v : ℕ) → g.S.Storage.logs l.s ≡ Some d.logs → known_logs l.config d p v (count_from l.node (l.nodes - l.node)) (known l.index p v) ≡ known_logs l.config d p v (count_from 0 l.config.nodes) (known l.fn.index p v);
  versions : (d : Disk) (n : ℕ) → g.S.Storage.logs l.s ≡ Some d.logs → n < l.node → AllByRecursion (λ x. x.entry.version < 2 ^ 64) (placed_of l.config (log_at d n));
}
