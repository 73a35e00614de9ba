use Rattle.std.proofs.Common.{arith}
use Rattle.replay.proofs.Going.{fault_earlier}
use Rattle.replay.proofs.Holding.{cut_short, went_same, held_written}
use Rattle.replay.proofs.run.take.Goals as goal

pub returns-in-Err-flush-clause-took : goal.returns-in-Err-flush-clause-took
returns-in-Err-flush-clause-took g c =
    let took = c.in-Ok.ensures.took in
    cut_short c.args.reader.now c.take_all.new.reader c.args.piece.now _ _ _ c.take_all.new.held c.in-Ok.status took.1 took.0 c.in-Err-flush.ensures.wrote.part

pub returns-in-Err-flush-clause-blame : goal.returns-in-Err-flush-clause-blame
returns-in-Err-flush-clause-blame g c =
    let before = c.in-Ok.ensures.blame in
    let blame = c.in-Err-flush.ensures.blame in
    record { later = omega (arith, before.later, blame.later); cause = fault_earlier _ _ _ c.in-Err-flush.fault before.later blame.cause }

pub returns-in-Ok-flush-clause-took : goal.returns-in-Ok-flush-clause-took
returns-in-Ok-flush-clause-took g c =
    let took = c.in-Ok.ensures.took in
    went_same c.args.reader.now c.take_all.new.reader c.args.piece.now _ _ _ c.in-Ok.status (held_written _ _ c.take_all.new.held c.in-Ok-flush.ensures.wrote.whole) took.1

pub returns-in-Ok-flush-clause-blame : goal.returns-in-Ok-flush-clause-blame
returns-in-Ok-flush-clause-blame g c =
    let before = c.in-Ok.ensures.blame in
    let blame = c.in-Ok-flush.ensures.blame in
    record { later = omega (arith, before.later, blame.later); cause = tt }
