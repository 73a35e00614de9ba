use Rattle.std.proofs.Common.{◌≡◌, ℕ, ◌+◌, ◌≤◌, ◌<◌, drop, length, List, Option, Some, None}
use Rattle.std.specs.List.{AllByRecursion}
use Rattle.pcl_base.specs.declared.trace.Call.{Call as Kind}
use Rattle.disk_model.specs.Disk.{HasSizes}
use Rattle.run_rules.specs.Disk.{Disk}
use Rattle.redo_log.specs.Told.{NoneFails}
use Rattle.partition_redo.specs.Chains.{AllStand, IsChain}
use Rattle.partition_redo.proofs.Applying.{HasRun}
use Rattle.partition_redo.proofs.apply.apply_chains.Given as goal

abbrev pub invariant-loop-chain : goal.invariant-loop-chain
invariant-loop-chain g l = record {
  sizes : HasSizes l.config (g.S.Storage.pages l.s) (g.S.Storage.logs l.s) (g.S.Storage.rooms l.s);
  length : length l.raw ≡ l.config.size + 16;
  logs : g.S.Storage.logs l.s ≡ g.S.Storage.logs l.fn.s;
  rooms : g.S.Storage.rooms l.s ≡ g.S.Storage.rooms l.fn.s;
  calm : (f : List (Option ℕ)) → NoneFails (g.S.Storage.failing l.fn.s) l.by f → NoneFails (g.S.Storage.failing l.s) l.by f;
  later : (k : Kind) → g.S.Storage.faults l.fn.s k ≤ g.S.Storage.faults l.s k;
  below : AllByRecursion (λ x. x.page < l.config.pages) (drop l.chain-index l.chains);
  untold : g.S.Storage.pages l.fn.s ≡ None → g.S.Storage.pages l.s ≡ None;
  stand : (d : Disk) → g.S.Storage.logs l.s ≡ Some d.logs → AllStand l.config d (drop l.chain-index l.chains);
  run : (d : Disk) → g.S.Storage.pages l.fn.s ≡ Some d.pages → g.S.Storage.logs l.fn.s ≡ Some d.logs → AllByRecursion (IsChain l.config d) l.chains → HasRun l.config d l.by l.chains (drop l.chain-index l.chains) (g.S.Storage.stops l.fn.s) (g.S.Storage.pages l.s) (g.S.Storage.stops l.s);
}
