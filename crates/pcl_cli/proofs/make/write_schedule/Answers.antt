use Rattle.std.proofs.Common.{[], subst}
use Rattle.pcl_cli.specs.MakeText.{Passed}
use Rattle.pcl_cli.proofs.PassLemmas.{whole_text}
use Rattle.pcl_cli.proofs.make.write_schedule.Goals as goal

pub returns : goal.returns
returns g c =
    subst (λ all. Passed {X = Unit {0}} (g.O.Sink.written c.args.output.now) (g.O.Sink.written c.write_events.new.output) (g.O.Sink.faults c.args.output.now) (g.O.Sink.faults c.write_events.new.output) all [] c.write_events.result)
    (whole_text c.args.job.now.config c.args.job.now.seed c.args.job.now.lines c.in-Ok.text.items c.in-Ok-open.maker c.in-Ok.ensures c.in-Ok-open.ensures)
    c.write_events.ensures
