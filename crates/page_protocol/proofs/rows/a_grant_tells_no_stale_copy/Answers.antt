use Rattle.page_protocol.proofs.RowRuns.{row_disk, row_current}
use Rattle.page_protocol.proofs.rows.a_grant_tells_no_stale_copy.Goals as goal

pub returns-clause-disk : goal.returns-clause-disk
returns-clause-disk c = row_disk

pub returns-clause-current : goal.returns-clause-current
returns-clause-current c = row_current
