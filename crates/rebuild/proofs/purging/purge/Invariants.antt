use Rattle.std.proofs.Common.{◌≡◌, ℕ, is_some}
use Rattle.lock_table.specs.Tables.{found}
use Rattle.rebuild.proofs.Purged.{ArePurged, among_first}
use Rattle.rebuild.proofs.purging.purge.Given as goal

abbrev pub invariant-loop-page : goal.invariant-loop-page
invariant-loop-page l = record {
  purged : ArePurged l.live (among_first l.config l.fn.t.partition l.page-items l.page-index) l.fn.t l.t;
  made : (p : ℕ) → is_some (found l.t p) ≡ is_some (found l.fn.t p);
}
