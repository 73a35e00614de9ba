use Rattle.std.proofs.Common.{◌≡◌, ◌+◌, ◌-◌, ◌*◌, ◌^◌, ◌%◌, ◌≤◌}
use Rattle.node_parts.proofs.Counts.{ShortFrom, left_from}
use Rattle.node_parts.proofs.listed.listed_in.Given as goal

abbrev pub invariant-loop-page : goal.invariant-loop-page
invariant-loop-page l = record {
  own : l.page % l.config.nodes ≡ l.q;
  count : l.count + left_from l.table l.config l.page ≡ left_from l.table l.config l.q;
  most : l.count ≤ l.page * 2 ^ 65;
  short : ShortFrom l.table l.config l.page → ShortFrom l.table l.config l.q;
}

abbrev pub decreases-loop-page : goal.decreases-loop-page
decreases-loop-page l = l.config.pages - l.page
