use Rattle.std.proofs.Common.{◌≡◌, Some, None, ap, sym, ◌∙◌}
use Rattle.text_rules.specs.BadLine.{event_forms}
use Rattle.text_rules.specs.ReadEvent.{event_of}
use Rattle.line_laws.proofs.FieldByField.{is_read}
use Rattle.line_laws.proofs.Rows.{event_lines}
use Rattle.line_laws.proofs.Columns.{good_line}
use Rattle.line_laws.proofs.EventLines.{event_back}
use Rattle.schedule_text.proofs.Faults.{fault_read}
use Rattle.schedule_text.proofs.line.read_line.Goals as goal

pub returns-in-Ok-Some-clause-read : goal.returns-in-Ok-Some-clause-read
returns-in-Ok-Some-clause-read c =
    let read : event_of c.args.line.now ≡ Some c.in-Ok-Some.event = sym c.in-Ok-Some.ensures ∙ c.in-Ok-Some.field-0-is in
    (read, good_line event_forms c.args.line.now (event_lines c.args.line.now ∙ ap is_read read))

pub returns-in-Ok-Some-clause-printed : goal.returns-in-Ok-Some-clause-printed
returns-in-Ok-Some-clause-printed c = event_back c.args.line.now c.in-Ok-Some.event (sym c.in-Ok-Some.ensures ∙ c.in-Ok-Some.field-0-is)

pub returns-in-Ok-None-clause-read : goal.returns-in-Ok-None-clause-read
returns-in-Ok-None-clause-read c =
    let none : event_of c.args.line.now ≡ None = sym c.in-Ok-None.ensures ∙ c.in-Ok-None.field-0-is in
    fault_read event_of event_forms c.args.line.now c.event_front.result c.fault_at.result none (event_lines c.args.line.now ∙ ap is_read none) c.event_front.ensures c.fault_at.ensures
