use Rattle.std.proofs.Common.{◌+◌, ◌-◌, zero, sym, subst, ◌∙◌, arith}
use Rattle.serving_parts.specs.Sides.{store_of, outs_of, sides_of}
use Rattle.serving_parts.specs.Outcome.{Link}
use Rattle.serving_parts.specs.Turns.{Moves, Ran}
use Rattle.serving_parts.proofs.Moving.{moves_none, moves_then, ran_then}
use Rattle.serving_parts.proofs.Turning.{one_less}
use Rattle.node_link.proofs.Counting.{minus_zero, all_done}
use Rattle.node_link.proofs.serving.run.Goals as goal

pub loop-done-init : goal.loop-done-init
loop-done-init g c =
    record {
      within = omega arith;
      config = c.requires.config;
      number = c.requires.number;
      sizes = c.requires.sizes;
      moves =
          subst (λ m. Moves (record { me = c.args.me; node = c.args.node.now; most = c.args.limit; number = 1 }) (record { me = c.args.me; node = c.args.node.now; most = m; number = 1 }) (sides_of (g.I.Source.left c.args.input.now) (g.I.Source.faults c.args.input.now) (outs_of (g.O.Sink.written c.args.output.now) (g.O.Sink.faults c.args.output.now) (store_of (g.S.Storage.pages c.args.storage.now) (g.S.Storage.logs c.args.storage.now) (g.S.Storage.stops c.args.storage.now) (g.S.Storage.failing c.args.storage.now) (g.S.Storage.faults c.args.storage.now)))) (sides_of (g.I.Source.left c.args.input.now) (g.I.Source.faults c.args.input.now) (outs_of (g.O.Sink.written c.args.output.now) (g.O.Sink.faults c.args.output.now) (store_of (g.S.Storage.pages c.args.storage.now) (g.S.Storage.logs c.args.storage.now) (g.S.Storage.stops c.args.storage.now) (g.S.Storage.failing c.args.storage.now) (g.S.Storage.faults c.args.storage.now))))) (sym (minus_zero c.args.limit))
          (moves_none (record { me = c.args.me; node = c.args.node.now; most = c.args.limit; number = 1 }) (sides_of (g.I.Source.left c.args.input.now) (g.I.Source.faults c.args.input.now) (outs_of (g.O.Sink.written c.args.output.now) (g.O.Sink.faults c.args.output.now) (store_of (g.S.Storage.pages c.args.storage.now) (g.S.Storage.logs c.args.storage.now) (g.S.Storage.stops c.args.storage.now) (g.S.Storage.failing c.args.storage.now) (g.S.Storage.faults c.args.storage.now)))));
    }

pub returns-in-Err : goal.returns-in-Err
returns-in-Err g c =
    let most = c.args.limit - (c.loop-done.done + 1) in
    let ends =
    subst (λ m. Ran (record { me = c.args.me; node = c.loop-done.node; most = m; number = c.loop-done.done + 1 }) (sides_of (g.I.Source.left c.loop-done.input) (g.I.Source.faults c.loop-done.input) (outs_of (g.O.Sink.written c.loop-done.output) (g.O.Sink.faults c.loop-done.output) (store_of (g.S.Storage.pages c.loop-done.storage) (g.S.Storage.logs c.loop-done.storage) (g.S.Storage.stops c.loop-done.storage) (g.S.Storage.failing c.loop-done.storage) (g.S.Storage.faults c.loop-done.storage)))) (sides_of (g.I.Source.left c.turn.new.input) (g.I.Source.faults c.turn.new.input) (outs_of (g.O.Sink.written c.turn.new.output) (g.O.Sink.faults c.turn.new.output) (store_of (g.S.Storage.pages c.turn.new.storage) (g.S.Storage.logs c.turn.new.storage) (g.S.Storage.stops c.turn.new.storage) (g.S.Storage.failing c.turn.new.storage) (g.S.Storage.faults c.turn.new.storage)))) c.in-Err.end) (sym (one_less c.args.limit c.loop-done.done c.loop-done-test.true))
    (c.in-Err.ensures.turned most) in
    ran_then (record { me = c.args.me; node = c.args.node.now; most = c.args.limit; number = 1 }) (record { me = c.args.me; node = c.loop-done.node; most = c.args.limit - c.loop-done.done; number = c.loop-done.done + 1 }) (sides_of (g.I.Source.left c.args.input.now) (g.I.Source.faults c.args.input.now) (outs_of (g.O.Sink.written c.args.output.now) (g.O.Sink.faults c.args.output.now) (store_of (g.S.Storage.pages c.args.storage.now) (g.S.Storage.logs c.args.storage.now) (g.S.Storage.stops c.args.storage.now) (g.S.Storage.failing c.args.storage.now) (g.S.Storage.faults c.args.storage.now)))) (sides_of (g.I.Source.left c.loop-done.input) (g.I.Source.faults c.loop-done.input) (outs_of (g.O.Sink.written c.loop-done.output) (g.O.Sink.faults c.loop-done.output) (store_of (g.S.Storage.pages c.loop-done.storage) (g.S.Storage.logs c.loop-done.storage) (g.S.Storage.stops c.loop-done.storage) (g.S.Storage.failing c.loop-done.storage) (g.S.Storage.faults c.loop-done.storage)))) (sides_of (g.I.Source.left c.turn.new.input) (g.I.Source.faults c.turn.new.input) (outs_of (g.O.Sink.written c.turn.new.output) (g.O.Sink.faults c.turn.new.output) (store_of (g.S.Storage.pages c.turn.new.storage) (g.S.Storage.logs c.turn.new.storage) (g.S.Storage.stops c.turn.new.storage) (g.S.Storage.failing c.turn.new.storage) (g.S.Storage.faults c.turn.new.storage)))) c.in-Err.end c.loop-done.invariant.moves ends

pub loop-done-preserved : goal.loop-done-preserved
loop-done-preserved g c =
    let most = c.args.limit - (c.loop-done.done + 1) in
    let goes =
    subst (λ m. Moves (record { me = c.args.me; node = c.loop-done.node; most = m; number = c.loop-done.done + 1 }) (record { me = c.args.me; node = c.turn.new.node; most = c.args.limit - (c.loop-done.done + 1); number = c.loop-done.done + 1 + 1 }) (sides_of (g.I.Source.left c.loop-done.input) (g.I.Source.faults c.loop-done.input) (outs_of (g.O.Sink.written c.loop-done.output) (g.O.Sink.faults c.loop-done.output) (store_of (g.S.Storage.pages c.loop-done.storage) (g.S.Storage.logs c.loop-done.storage) (g.S.Storage.stops c.loop-done.storage) (g.S.Storage.failing c.loop-done.storage) (g.S.Storage.faults c.loop-done.storage)))) (sides_of (g.I.Source.left c.turn.new.input) (g.I.Source.faults c.turn.new.input) (outs_of (g.O.Sink.written c.turn.new.output) (g.O.Sink.faults c.turn.new.output) (store_of (g.S.Storage.pages c.turn.new.storage) (g.S.Storage.logs c.turn.new.storage) (g.S.Storage.stops c.turn.new.storage) (g.S.Storage.failing c.turn.new.storage) (g.S.Storage.faults c.turn.new.storage))))) (sym (one_less c.args.limit c.loop-done.done c.loop-done-test.true))
    (c.in-Ok.ensures.turned most) in
    record {
      within = omega (arith, c.loop-done-test.true);
      config = c.in-Ok.ensures.config ∙ c.loop-done.invariant.config;
      number = c.in-Ok.ensures.number ∙ c.loop-done.invariant.number;
      sizes = c.in-Ok.ensures.sizes;
      moves = moves_then (record { me = c.args.me; node = c.args.node.now; most = c.args.limit; number = 1 }) (record { me = c.args.me; node = c.loop-done.node; most = c.args.limit - c.loop-done.done; number = c.loop-done.done + 1 }) (record { me = c.args.me; node = c.turn.new.node; most = c.args.limit - (c.loop-done.done + 1); number = c.loop-done.done + 1 + 1 }) (sides_of (g.I.Source.left c.args.input.now) (g.I.Source.faults c.args.input.now) (outs_of (g.O.Sink.written c.args.output.now) (g.O.Sink.faults c.args.output.now) (store_of (g.S.Storage.pages c.args.storage.now) (g.S.Storage.logs c.args.storage.now) (g.S.Storage.stops c.args.storage.now) (g.S.Storage.failing c.args.storage.now) (g.S.Storage.faults c.args.storage.now)))) (sides_of (g.I.Source.left c.loop-done.input) (g.I.Source.faults c.loop-done.input) (outs_of (g.O.Sink.written c.loop-done.output) (g.O.Sink.faults c.loop-done.output) (store_of (g.S.Storage.pages c.loop-done.storage) (g.S.Storage.logs c.loop-done.storage) (g.S.Storage.stops c.loop-done.storage) (g.S.Storage.failing c.loop-done.storage) (g.S.Storage.faults c.loop-done.storage)))) (sides_of (g.I.Source.left c.turn.new.input) (g.I.Source.faults c.turn.new.input) (outs_of (g.O.Sink.written c.turn.new.output) (g.O.Sink.faults c.turn.new.output) (store_of (g.S.Storage.pages c.turn.new.storage) (g.S.Storage.logs c.turn.new.storage) (g.S.Storage.stops c.turn.new.storage) (g.S.Storage.failing c.turn.new.storage) (g.S.Storage.faults c.turn.new.storage)))) c.loop-done.invariant.moves goes;
    }

pub returns : goal.returns
returns g c =
    let left = all_done c.args.limit c.loop-done.done c.loop-done.invariant.within c.loop-done-test.false in
    let limit : Link = record { me = c.args.me; node = c.loop-done.node; most = zero; number = c.args.limit + 1 } in
    let moves =
    subst (λ n. Moves (record { me = c.args.me; node = c.args.node.now; most = c.args.limit; number = 1 }) (record { me = c.args.me; node = c.loop-done.node; most = zero; number = n + 1 }) (sides_of (g.I.Source.left c.args.input.now) (g.I.Source.faults c.args.input.now) (outs_of (g.O.Sink.written c.args.output.now) (g.O.Sink.faults c.args.output.now) (store_of (g.S.Storage.pages c.args.storage.now) (g.S.Storage.logs c.args.storage.now) (g.S.Storage.stops c.args.storage.now) (g.S.Storage.failing c.args.storage.now) (g.S.Storage.faults c.args.storage.now)))) (sides_of (g.I.Source.left c.loop-done.input) (g.I.Source.faults c.loop-done.input) (outs_of (g.O.Sink.written c.loop-done.output) (g.O.Sink.faults c.loop-done.output) (store_of (g.S.Storage.pages c.loop-done.storage) (g.S.Storage.logs c.loop-done.storage) (g.S.Storage.stops c.loop-done.storage) (g.S.Storage.failing c.loop-done.storage) (g.S.Storage.faults c.loop-done.storage))))) left.1
    (subst (λ m. Moves (record { me = c.args.me; node = c.args.node.now; most = c.args.limit; number = 1 }) (record { me = c.args.me; node = c.loop-done.node; most = m; number = c.loop-done.done + 1 }) (sides_of (g.I.Source.left c.args.input.now) (g.I.Source.faults c.args.input.now) (outs_of (g.O.Sink.written c.args.output.now) (g.O.Sink.faults c.args.output.now) (store_of (g.S.Storage.pages c.args.storage.now) (g.S.Storage.logs c.args.storage.now) (g.S.Storage.stops c.args.storage.now) (g.S.Storage.failing c.args.storage.now) (g.S.Storage.faults c.args.storage.now)))) (sides_of (g.I.Source.left c.loop-done.input) (g.I.Source.faults c.loop-done.input) (outs_of (g.O.Sink.written c.loop-done.output) (g.O.Sink.faults c.loop-done.output) (store_of (g.S.Storage.pages c.loop-done.storage) (g.S.Storage.logs c.loop-done.storage) (g.S.Storage.stops c.loop-done.storage) (g.S.Storage.failing c.loop-done.storage) (g.S.Storage.faults c.loop-done.storage))))) left.0 c.loop-done.invariant.moves) in
    ran_then (record { me = c.args.me; node = c.args.node.now; most = c.args.limit; number = 1 }) limit (sides_of (g.I.Source.left c.args.input.now) (g.I.Source.faults c.args.input.now) (outs_of (g.O.Sink.written c.args.output.now) (g.O.Sink.faults c.args.output.now) (store_of (g.S.Storage.pages c.args.storage.now) (g.S.Storage.logs c.args.storage.now) (g.S.Storage.stops c.args.storage.now) (g.S.Storage.failing c.args.storage.now) (g.S.Storage.faults c.args.storage.now)))) (sides_of (g.I.Source.left c.loop-done.input) (g.I.Source.faults c.loop-done.input) (outs_of (g.O.Sink.written c.loop-done.output) (g.O.Sink.faults c.loop-done.output) (store_of (g.S.Storage.pages c.loop-done.storage) (g.S.Storage.logs c.loop-done.storage) (g.S.Storage.stops c.loop-done.storage) (g.S.Storage.failing c.loop-done.storage) (g.S.Storage.faults c.loop-done.storage)))) (sides_of (g.I.Source.left c.end_at_limit.new.input) (g.I.Source.faults c.end_at_limit.new.input) (outs_of (g.O.Sink.written c.end_at_limit.new.output) (g.O.Sink.faults c.end_at_limit.new.output) (store_of (g.S.Storage.pages c.loop-done.storage) (g.S.Storage.logs c.loop-done.storage) (g.S.Storage.stops c.loop-done.storage) (g.S.Storage.failing c.loop-done.storage) (g.S.Storage.faults c.loop-done.storage)))) c.end_at_limit.result moves
    (c.end_at_limit.ensures c.args.me c.loop-done.node (store_of (g.S.Storage.pages c.loop-done.storage) (g.S.Storage.logs c.loop-done.storage) (g.S.Storage.stops c.loop-done.storage) (g.S.Storage.failing c.loop-done.storage) (g.S.Storage.faults c.loop-done.storage)))
