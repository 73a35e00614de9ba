use Rattle.page_protocol.proofs.RowRuns.{row_waits}
use Rattle.page_protocol.proofs.rows.an_era_waits_for_the_last_report.Goals as goal

pub returns : goal.returns
returns c = row_waits
