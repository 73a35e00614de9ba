use Rattle.std.proofs.Common.{◌≡◌, ℕ, ◌+◌, ◌≤◌, ◌<◌, drop, length, slice_index, List, Option, Some}
use Rattle.pcl_base.specs.declared.trace.Call.{Call as Kind}
use Rattle.disk_model.specs.Disk.{HasSizes}
use Rattle.run_rules.specs.Disk.{Disk}
use Rattle.redo_log.specs.Told.{NoneFails}
use Rattle.partition_redo.specs.Index.{base_of}
use Rattle.partition_redo.specs.Chains.{IsStoredOne, IsListed, first_bad}
use Rattle.partition_redo.proofs.plan.list_pages.Given as goal

abbrev pub invariant-loop-page : goal.invariant-loop-page
invariant-loop-page g l = record {
  sizes : HasSizes l.config (g.S.Storage.pages l.s) (g.S.Storage.logs l.s) (g.S.Storage.rooms l.s);
  length : length l.raw ≡ l.config.size + 16;
  pages : g.S.Storage.pages l.s ≡ g.S.Storage.pages l.fn.s;
  logs : g.S.Storage.logs l.s ≡ g.S.Storage.logs l.fn.s;
  rooms : g.S.Storage.rooms l.s ≡ g.S.Storage.rooms l.fn.s;
  stops : g.S.Storage.stops l.s ≡ g.S.Storage.stops l.fn.s;
  calm : (f : List (Option ℕ)) → NoneFails (g.S.Storage.failing l.fn.s) l.by f → NoneFails (g.S.Storage.failing l.s) l.by f;
  later : (k : Kind) → g.S.Storage.faults l.fn.s k ≤ g.S.Storage.faults l.s k;
  ranges : l.index.ranges ≡ l.fn.index.ranges;
  plain : (p : ℕ) → IsStoredOne (base_of l.fn.index p) → IsStoredOne (base_of l.index p);
  listed : (d : Disk) (k : ℕ) → g.S.Storage.pages l.s ≡ Some d.pages → k < l.page-index → IsListed d l.index (slice_index l.pages k);
  first : (d : Disk) → g.S.Storage.pages l.s ≡ Some d.pages → first_bad d (drop l.page-index l.pages) ≡ first_bad d l.pages;
}
