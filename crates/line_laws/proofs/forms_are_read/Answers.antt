use Rattle.line_laws.proofs.Rows.{event_lines, header_lines}
use Rattle.line_laws.proofs.forms_are_read.Goals as goal

pub returns : goal.returns
returns c = record { event_form = event_lines; header_form = header_lines }
