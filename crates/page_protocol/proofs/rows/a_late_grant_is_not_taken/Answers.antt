use Rattle.page_protocol.proofs.RowRuns.{row_late}
use Rattle.page_protocol.proofs.rows.a_late_grant_is_not_taken.Goals as goal

pub returns : goal.returns
returns c = row_late
