use Rattle.line_laws.proofs.LeastColumns.{event_columns_to, event_columns_from, header_columns_to, header_columns_from}
use Rattle.line_laws.proofs.columns_are_least.Goals as goal

pub returns : goal.returns
returns c =
    record { event_least = event_columns_to; event_found = event_columns_from; header_least = header_columns_to; header_found = header_columns_from }
