use Rattle.std.proofs.Common.{ap, ◌++◌, ◌∙◌}
use Rattle.text_rules.specs.ScheduleLine.{line_of}
use Rattle.text_rules.specs.ReadEvent.{event_of}
use Rattle.line_laws.proofs.EventLines.{event_forth}
use Rattle.schedule_text.proofs.printing.print_event.Goals as goal

pub returns-clause-read : goal.returns-clause-read
returns-clause-read c =
    ap event_of (c.in_ok-put_event.ensures ∙ ap (λ l. l ++ line_of c.args.event.now) c.new-out.ensures.items) ∙ event_forth c.args.event.now c.requires
