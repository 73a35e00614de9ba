use Rattle.line_laws.proofs.EventLines.{event_back, event_forth, header_back, header_forth}
use Rattle.line_laws.proofs.lines_go_both_ways.Goals as goal

pub returns : goal.returns
returns c = record { event_read = event_back; event_printed = event_forth; header_read = header_back; header_printed = header_forth }
