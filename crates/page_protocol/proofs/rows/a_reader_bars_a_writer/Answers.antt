use Rattle.page_protocol.proofs.RowRuns.{row_holder_bars, row_right_bars}
use Rattle.page_protocol.proofs.rows.a_reader_bars_a_writer.Goals as goal

pub returns-clause-holder : goal.returns-clause-holder
returns-clause-holder c = row_holder_bars

pub returns-clause-right : goal.returns-clause-right
returns-clause-right c = row_right_bars
