use Rattle.std.proofs.Common.{◌≡◌, ℕ, ◌≤◌, ◌-◌, List, Option}
use Rattle.pcl_base.specs.declared.trace.Call.{Call as Kind}
use Rattle.text_rules.specs.LogRecord.{ranges_field}
use Rattle.redo_log.specs.Told.{IsLog, NoneFails}
use Rattle.redo_log.specs.Walks.{Reads, left_of, rest_of}
use Rattle.redo_log.proofs.parts.pass_ranges.Given as goal

-- what is left behind the items that were passed is what is left behind all of them
abbrev pub invariant-loop : goal.invariant-loop
invariant-loop g l = record {
  most : l.low ≤ 4097;
  node : l.reader.node ≡ l.fn.reader.node;
  end : l.reader.end ≡ l.fn.reader.end;
  limit : l.reader.limit ≡ l.fn.reader.limit;
  pages : g.S.Storage.pages l.s ≡ g.S.Storage.pages l.fn.s;
  rooms : g.S.Storage.rooms l.s ≡ g.S.Storage.rooms l.fn.s;
  stops : g.S.Storage.stops l.s ≡ g.S.Storage.stops l.fn.s;
  logs : g.S.Storage.logs l.s ≡ g.S.Storage.logs l.fn.s;
  reads : (log : List ℕ) → IsLog (g.S.Storage.logs l.fn.s) l.fn.reader.node log → Reads l.reader log;
  calm : (k : List (Option ℕ)) → NoneFails (g.S.Storage.failing l.fn.s) l.by k → NoneFails (g.S.Storage.failing l.s) l.by k;
  counts : (k : Kind) → g.S.Storage.faults l.fn.s k ≤ g.S.Storage.faults l.s k;
  rest : (log : List ℕ) → IsLog (g.S.Storage.logs l.fn.s) l.fn.reader.node log → rest_of (ranges_field l.size 0 l.count (left_of l.fn.reader log)) ≡ rest_of (ranges_field l.size l.low (l.count - l.counter) (left_of l.reader log));
}
