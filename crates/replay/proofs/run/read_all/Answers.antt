use Rattle.std.proofs.Common.{◌≡◌, ◌<◌, [], length, take, subst, arith}
use Rattle.std.specs.Io.KnownBytes.{Consumes}
use Rattle.std.proofs.lemmas.List.{length-take}
use Rattle.replay.specs.Told.{IsStop}
use Rattle.replay.specs.Wrote.{Went}
use Rattle.replay.proofs.Going.{fault_earlier}
use Rattle.replay.proofs.Reaching.{first_reached, from_first, piece_read}
use Rattle.replay.proofs.Outcomes.{out_of_memory, source_failed, piece_failed, piece_stopped}
use Rattle.replay.proofs.Endings.{finished}
use Rattle.replay.proofs.run.read_all.Goals as goal

pub loop-init : goal.loop-init
loop-init g c =
    record {
      empty = c.requires.empty;
      none = c.requires.none;
      room = c.requires.room;
      reached = first_reached c.args.reader.now (g.I.Source.left c.args.input.now) (g.O.Sink.written c.args.output.now) (g.I.Source.faults c.args.input.now) (g.O.Sink.faults c.args.output.now);
    }

pub read-requires : goal.read-requires
read-requires g c = c.loop.invariant.room

pub returns-in-Err : goal.returns-in-Err
returns-in-Err g c =
    source_failed c.args.reader.now.totals c.loop.reader _ _ _ _ _ _ _ _ _ _ (from_first c.args.reader.now.totals c.requires.first c.loop.invariant.reached) c.in-Err.ensures.bytes c.in-Err.ensures.cause.failed

pub finish-requires : goal.finish-requires
finish-requires g c = c.loop.invariant.empty

pub returns-in-Ok-eq0 : goal.returns-in-Ok-eq0
returns-in-Ok-eq0 g c =
    let zero : c.in-Ok-eq0.field-0 ≡ 0 = grind (arith, c.in-Ok-eq0.field-0-test, c.in-Ok-eq0.field-0-is) in
    let room : 0 < length c.read.new.out = omega (arith, c.loop.invariant.room, c.read.auto.out) in
    let nothing : Consumes (g.I.Source.left c.loop.input) (g.I.Source.left c.read.new.self) [] =
    subst (λ n. Consumes (g.I.Source.left c.loop.input) (g.I.Source.left c.read.new.self) (take n c.read.new.out)) zero c.in-Ok-eq0.ensures.bytes.0 in
    finished c.args.reader.now.totals c.loop.reader _ _ _ _ _ _ _ _ _ _ _ _ c.finish.result
    (from_first c.args.reader.now.totals c.requires.first c.loop.invariant.reached) nothing (c.in-Ok-eq0.ensures.bytes.1 zero room) c.finish.ensures.closes c.finish.ensures.blame c.finish.ensures.place c.finish.ensures.judged

pub slice_bounds-take-end : goal.slice_bounds-take-end
slice_bounds-take-end g c = c.in-Ok.ensures.most.0

pub slice_bounds-take-end-in-Ok : goal.slice_bounds-take-end-in-Ok
slice_bounds-take-end-in-Ok g c =
    let most = c.in-Ok.ensures.most in
    let len = length-take c.in-Ok.count c.read.new.out in
    omega (arith, most, len)

pub take-requires : goal.take-requires
take-requires g c = record { empty = c.loop.invariant.empty; none = c.loop.invariant.none }

pub returns-in-Err-take : goal.returns-in-Err-take
returns-in-Err-take g c =
    let here = c.loop.invariant.reached in
    piece_failed c.args.reader.now.totals c.loop.reader _ _ _ _ _ _ _ _ _ _ _ _ (take c.in-Ok.count c.read.new.out) c.in-Err-take.fault
    (from_first c.args.reader.now.totals c.requires.first here) c.in-Ok.ensures.bytes.0
    (fault_earlier _ _ _ c.in-Err-take.fault here.later_sink c.in-Err-take.ensures.blame.cause) c.in-Err-take.ensures.took

pub returns-in-Ok-Some : goal.returns-in-Ok-Some
returns-in-Ok-Some g c =
    let status = c.in-Ok-Some.field-0-is in
    piece_stopped c.args.reader.now.totals c.loop.reader c.take.new.reader _ _ _ _ _ _ _ _ _ _ _ _ (take c.in-Ok.count c.read.new.out) c.in-Ok-Some.status
    (from_first c.args.reader.now.totals c.requires.first c.loop.invariant.reached) c.in-Ok.ensures.bytes.0 (subst IsStop status c.in-Ok-Some.ensures.stop)
    (subst (λ s. Went c.loop.reader (take c.in-Ok.count c.read.new.out) (g.O.Sink.written c.loop.output) (g.O.Sink.written c.take.new.output) s c.take.new.reader) status c.in-Ok-Some.ensures.took)

pub loop-preserved : goal.loop-preserved
loop-preserved g c =
    let blame = c.in-Ok-None.ensures.blame in
    record {
      empty = c.in-Ok-None.ensures.empty;
      none = c.in-Ok-None.ensures.none;
      room = omega (arith, c.loop.invariant.room, c.read.auto.out);
      reached =
          piece_read c.args.reader.now c.loop.reader c.take.new.reader _ _ _ _ _ _ _ _ _ _ _ _ (take c.in-Ok.count c.read.new.out) c.loop.invariant.reached c.in-Ok.ensures.bytes.0
          c.in-Ok.ensures.cause.later blame.later
          (subst (λ s. Went c.loop.reader (take c.in-Ok.count c.read.new.out) (g.O.Sink.written c.loop.output) (g.O.Sink.written c.take.new.output) s c.take.new.reader) c.in-Ok-None.field-0-is c.in-Ok-None.ensures.took);
    }

pub returns : goal.returns
returns g c = out_of_memory c.args.reader.now.totals c.loop.reader _ _ _ _ _ _ _ _ (from_first c.args.reader.now.totals c.requires.first c.loop.invariant.reached)
