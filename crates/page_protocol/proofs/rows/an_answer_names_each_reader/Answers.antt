use Rattle.page_protocol.proofs.RowRuns.{row_names}
use Rattle.page_protocol.proofs.rows.an_answer_names_each_reader.Goals as goal

pub returns : goal.returns
returns c = row_names
