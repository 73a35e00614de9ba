use Rattle.std.proofs.Common.{refl, arith}
use Rattle.cluster_laws.specs.Link.LinkRows.{NoReportIsSecond, NoEpochFalls}
use Rattle.cluster_laws.proofs.link.link_rows.row_of_orders.Goals as goal

second : NoReportIsSecond
second o = let late = o.1.0 in absurd (omega (arith, late))

falls : NoEpochFalls
falls o = let late = o.1.0 in absurd (omega (arith, late))

pub returns : goal.returns
returns c =
    record {
      report_first = (omega arith, (omega arith, (omega arith, (omega arith, tt))));
      report_second = second;
      falls = falls;
      one_report = refl;
    }
