use Rattle.std.proofs.Common.{◌++◌, refl, ap, ◌∙◌}
use Rattle.replay_rules.specs.Due.{at_end}
use Rattle.replay_rules.specs.Due.Place.{Going}
use Rattle.replay.proofs.Going.{part_nothing}
use Rattle.replay.proofs.run.finish.Goals as goal

pub returns-in-Err-clause-closes : goal.returns-in-Err-clause-closes
returns-in-Err-clause-closes g c =
    let r = c.args.reader.now in
    record {
      text = (at_end r.totals (Going r.reading)).text;
      wrote = record { whole = tt; part = part_nothing (g.O.Sink.written c.args.output.now) (at_end r.totals (Going r.reading)).text };
      due = λ k. refl;
    }

pub returns-in-Err-flush-clause-closes : goal.returns-in-Err-flush-clause-closes
returns-in-Err-flush-clause-closes g c =
    let r = c.args.reader.now in
    record {
      text = c.end.new.text;
      wrote = record { whole = tt; part = c.in-Err-flush.ensures.wrote.part };
      due = λ k. c.in-Ok.ensures.text k ∙ ap (λ t. t ++ (at_end r.totals (Going r.reading)).text) c.requires;
    }
