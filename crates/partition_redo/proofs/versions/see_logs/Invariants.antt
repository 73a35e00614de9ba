use Rattle.std.proofs.Common.{◌≡◌, ℕ, ◌≤◌, nat_eq, drop, List, Option, Some}
use Rattle.std.specs.Map.{lookup}
use Rattle.pcl_base.specs.declared.trace.Call.{Call as Kind}
use Rattle.disk_model.specs.Disk.{HasSizes}
use Rattle.run_rules.specs.Disk.{Disk}
use Rattle.redo_log.specs.Told.{NoneFails}
use Rattle.partition_redo.specs.Newest.{seen_logs}
use Rattle.partition_redo.proofs.versions.see_logs.Given as goal

abbrev pub invariant-loop-node : goal.invariant-loop-node
invariant-loop-node g l = record {
  sizes : HasSizes l.config (g.S.Storage.pages l.s) (g.S.Storage.logs l.s) (g.S.Storage.rooms l.s);
  pages : g.S.Storage.pages l.s ≡ g.S.Storage.pages l.fn.s;
  logs : g.S.Storage.logs l.s ≡ g.S.Storage.logs l.fn.s;
  rooms : g.S.Storage.rooms l.s ≡ g.S.Storage.rooms l.fn.s;
  stops : g.S.Storage.stops l.s ≡ g.S.Storage.stops l.fn.s;
  calm : (f : List (Option ℕ)) → NoneFails (g.S.Storage.failing l.fn.s) l.by f → NoneFails (g.S.Storage.failing l.s) l.by f;
  later : (k : Kind) → g.S.Storage.faults l.fn.s k ≤ g.S.Storage.faults l.s k;
  seen : (d : Disk) (p : ℕ) → g.S.Storage.logs l.s ≡ Some d.logs → seen_logs l.config d p (drop l.node-index l.logs) (lookup (nat_eq p) l.greatest) ≡ seen_logs l.config d p l.logs (lookup (nat_eq p) l.fn.greatest);
}
