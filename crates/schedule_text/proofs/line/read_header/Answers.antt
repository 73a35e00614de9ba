use Rattle.std.proofs.Common.{◌≡◌, Some, None, ap, sym, ◌∙◌}
use Rattle.text_rules.specs.BadLine.{header_forms}
use Rattle.text_rules.specs.ReadLine.{header_of}
use Rattle.line_laws.proofs.FieldByField.{is_read}
use Rattle.line_laws.proofs.Rows.{header_lines}
use Rattle.line_laws.proofs.Columns.{good_line}
use Rattle.line_laws.proofs.EventLines.{header_back}
use Rattle.schedule_text.proofs.Faults.{fault_is, fault_read}
use Rattle.schedule_text.proofs.line.read_header.Goals as goal

pub returns-in-Some-clause-read : goal.returns-in-Some-clause-read
returns-in-Some-clause-read c =
    let read : header_of c.args.line.now ≡ Some c.in-Some.header = sym c.header_of.ensures ∙ c.in-Some.is in
    (read, good_line header_forms c.args.line.now (header_lines c.args.line.now ∙ ap is_read read))

pub returns-in-Some-clause-printed : goal.returns-in-Some-clause-printed
returns-in-Some-clause-printed c = header_back c.args.line.now c.in-Some.header (sym c.header_of.ensures ∙ c.in-Some.is)

pub returns-in-None-clause-read : goal.returns-in-None-clause-read
returns-in-None-clause-read c =
    let none : header_of c.args.line.now ≡ None = sym c.header_of.ensures ∙ c.in-None.is in
    fault_read header_of header_forms c.args.line.now c.header_front.result c.fault_at.result none (header_lines c.args.line.now ∙ ap is_read none) c.header_front.ensures c.fault_at.ensures

pub returns-in-None-clause-fault : goal.returns-in-None-clause-fault
returns-in-None-clause-fault c =
    let none : header_of c.args.line.now ≡ None = sym c.header_of.ensures ∙ c.in-None.is in
    fault_is header_forms c.args.line.now c.header_front.result c.fault_at.result (header_lines c.args.line.now ∙ ap is_read none) c.header_front.ensures c.fault_at.ensures
