use Rattle.page_protocol.proofs.RowRuns.{row_step, row_after}
use Rattle.page_protocol.proofs.rows.without_the_chain_two_would_hold.Goals as goal

pub returns-clause-step : goal.returns-clause-step
returns-clause-step c = row_step

pub returns-clause-after : goal.returns-clause-after
returns-clause-after c = row_after
