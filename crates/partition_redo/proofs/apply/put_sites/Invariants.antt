use Rattle.std.proofs.Common.{◌≡◌, ℕ, ◌+◌, ◌≤◌, drop, length, List, Option, Some}
use Rattle.std.specs.List.{AllByRecursion}
use Rattle.pcl_base.specs.declared.trace.Call.{Call as Kind}
use Rattle.disk_model.specs.Disk.{HasSizes}
use Rattle.run_rules.specs.Disk.{Disk}
use Rattle.redo_log.specs.Told.{NoneFails}
use Rattle.partition_redo.specs.Chains.{IsSite, Leads}
use Rattle.partition_redo.proofs.apply.put_sites.Given as goal

abbrev pub invariant-loop-site : goal.invariant-loop-site
invariant-loop-site g l = record {
  sizes : HasSizes l.config (g.S.Storage.pages l.s) (g.S.Storage.logs l.s) (g.S.Storage.rooms l.s);
  length : length l.raw ≡ l.config.size + 16;
  pages : g.S.Storage.pages l.s ≡ g.S.Storage.pages l.fn.s;
  logs : g.S.Storage.logs l.s ≡ g.S.Storage.logs l.fn.s;
  rooms : g.S.Storage.rooms l.s ≡ g.S.Storage.rooms l.fn.s;
  stops : g.S.Storage.stops l.s ≡ g.S.Storage.stops l.fn.s;
  calm : (f : List (Option ℕ)) → NoneFails (g.S.Storage.failing l.fn.s) l.by f → NoneFails (g.S.Storage.failing l.s) l.by f;
  later : (k : Kind) → g.S.Storage.faults l.fn.s k ≤ g.S.Storage.faults l.s k;
  stand : (d : Disk) → g.S.Storage.logs l.s ≡ Some d.logs → AllByRecursion (IsSite l.config d) (drop l.site-index l.sites);
  rest : (d : Disk) (to : List ℕ) → g.S.Storage.logs l.s ≡ Some d.logs → Leads l.config d l.sites (drop 16 l.fn.raw) to → Leads l.config d (drop l.site-index l.sites) (drop 16 l.raw) to;
}
