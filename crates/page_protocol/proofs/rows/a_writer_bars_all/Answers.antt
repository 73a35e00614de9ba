use Rattle.page_protocol.proofs.RowRuns.{row_writer_bars}
use Rattle.page_protocol.proofs.rows.a_writer_bars_all.Goals as goal

pub returns : goal.returns
returns c = row_writer_bars
