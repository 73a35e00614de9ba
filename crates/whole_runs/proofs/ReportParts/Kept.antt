-- A whole step on a report that is taken, from a cluster of a run.
use Rattle.report_relation.proofs.CompletionParts.Reported.{report_is_kept_law}
use Rattle.whole_runs.proofs.ActParts.Messages.{taken_in}
use Rattle.whole_runs.proofs.ActParts.Steps.{party}
use Rattle.whole_runs.specs.Report.Reports.{ReportsKeep}
use Rattle.whole_runs.proofs.ReportParts.Known.{reports_may_be_taken_law}

pub reports_keep_law : ReportsKeep
reports_keep_law blank c run facts from m r report e n s w is made judged p low =
    let i = taken_in blank c e n from s m is made.handed judged p low in
    report_is_kept_law c e n p from s m r w blank (is.related.pages.page p) i (record { goes = made.goes; whole = made.whole }) (party blank c e n from s m is made.handed) report
    (reports_may_be_taken_law blank c is facts e n p from s m r (is.related.pages.page p) i report)
