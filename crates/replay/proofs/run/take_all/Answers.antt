use Rattle.std.proofs.Common.{[], ◌∷◌, get_or, arith, subst, sym, None}
use Rattle.std.specs.Io.KnownBytes.{append_known}
use Rattle.replay.specs.Wrote.{Went}
use Rattle.replay.proofs.Going.{fault_earlier}
use Rattle.replay.proofs.Holding.{held_first, next_held_broke, grew_both, grew_nothing}
use Rattle.replay.proofs.Pieces.{next_went, next_stopped}
use Rattle.replay.proofs.run.take_all.Goals as goal

pub loop-byte-init : goal.loop-byte-init
loop-byte-init g c =
    record {
      empty = c.requires.empty;
      later = omega arith;
      grew = grew_nothing (g.O.Sink.written c.args.output.now);
      went = subst (λ t. Went c.args.reader.now [] (g.O.Sink.written c.args.output.now) (append_known (g.O.Sink.written c.args.output.now) t) None c.args.reader.now) (sym c.requires.none) (held_first c.args.reader.now (g.O.Sink.written c.args.output.now));
    }

pub returns-in-Err-clause-took : goal.returns-in-Err-clause-took
returns-in-Err-clause-took g c =
    next_held_broke c.args.reader.now c.loop-byte.reader c.args.piece.now c.loop-byte.byte-index _ _ _ _ (omega (arith, c.loop-byte-test.true)) c.loop-byte.invariant.went c.loop-byte.invariant.grew c.in-Err.ensures.took

pub returns-in-Err-clause-blame : goal.returns-in-Err-clause-blame
returns-in-Err-clause-blame g c =
    let before = c.loop-byte.invariant in
    let blame = c.in-Err.ensures.blame in
    record { later = omega (arith, before.later, blame.later); cause = fault_earlier _ _ _ c.in-Err.fault before.later blame.cause }

pub returns-in-Ok-Some-clause-took : goal.returns-in-Ok-Some-clause-took
returns-in-Ok-Some-clause-took g c =
    let took = c.in-Ok-Some.ensures.took in (
      grew_both _ _ _ c.loop-byte.invariant.grew took.0,
      next_stopped c.args.reader.now c.loop-byte.reader c.take_byte.new.reader c.args.piece.now c.loop-byte.byte-index _ _ _ c.in-Ok-Some.status (omega (arith, c.loop-byte-test.true)) c.loop-byte.invariant.went
          (subst (λ s. Went c.loop-byte.reader (get_or c.args.piece.now c.loop-byte.byte-index 0 ∷ []) (append_known (g.O.Sink.written c.loop-byte.output) c.loop-byte.held) (append_known (g.O.Sink.written c.take_byte.new.output) c.take_byte.new.held) s c.take_byte.new.reader) c.in-Ok-Some.field-0-is took.1),
    )

pub returns-in-Ok-Some-clause-blame : goal.returns-in-Ok-Some-clause-blame
returns-in-Ok-Some-clause-blame g c =
    let before = c.loop-byte.invariant in
    let blame = c.in-Ok-Some.ensures.blame in
    record { later = omega (arith, before.later, blame.later); cause = tt }

pub loop-byte-preserved : goal.loop-byte-preserved
loop-byte-preserved g c =
    let before = c.loop-byte.invariant in
    let took = c.in-Ok-None.ensures.took in
    record {
      empty = c.in-Ok-None.ensures.empty;
      later = let blame = c.in-Ok-None.ensures.blame in omega (arith, before.later, blame.later);
      grew = grew_both _ _ _ before.grew took.0;
      went =
          next_went c.args.reader.now c.loop-byte.reader c.take_byte.new.reader c.args.piece.now c.loop-byte.byte-index _ _ _ None (omega (arith, c.loop-byte-test.true)) before.went
          (subst (λ s. Went c.loop-byte.reader (get_or c.args.piece.now c.loop-byte.byte-index 0 ∷ []) (append_known (g.O.Sink.written c.loop-byte.output) c.loop-byte.held) (append_known (g.O.Sink.written c.take_byte.new.output) c.take_byte.new.held) s c.take_byte.new.reader) c.in-Ok-None.field-0-is took.1);
    }
