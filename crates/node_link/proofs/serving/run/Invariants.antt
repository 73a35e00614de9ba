use Rattle.std.proofs.Common.{◌≡◌, ◌+◌, ◌-◌, ◌≤◌}
use Rattle.disk_model.specs.Disk.{HasSizes}
use Rattle.node_rules.specs.NodeState.{number_of}
use Rattle.serving_parts.specs.Sides.{outs_of, sides_of, store_of}
use Rattle.serving_parts.specs.Turns.{Moves}
use Rattle.node_link.proofs.serving.run.Given as goal

-- so many frames were served
abbrev pub invariant-loop-done : goal.invariant-loop-done
invariant-loop-done g l =
    record {
      within : l.done ≤ l.limit;
      config : l.node.home.config ≡ l.config;
      number : number_of l.node ≡ l.me;
      sizes : HasSizes l.config (g.S.Storage.pages l.storage) (g.S.Storage.logs l.storage) (g.S.Storage.rooms l.storage);
      moves : Moves (record { me = l.me; node = l.fn.node; most = l.limit; number = 1 }) (record { me = l.me; node = l.node; most = l.limit - l.done; number = l.done + 1 }) (sides_of (g.I.Source.left l.fn.input) (g.I.Source.faults l.fn.input) (outs_of (g.O.Sink.written l.fn.output) (g.O.Sink.faults l.fn.output) (store_of (g.S.Storage.pages l.fn.storage) (g.S.Storage.logs l.fn.storage) (g.S.Storage.stops l.fn.storage) (g.S.Storage.failing l.fn.storage) (g.S.Storage.faults l.fn.storage)))) (sides_of (g.I.Source.left l.input) (g.I.Source.faults l.input) (outs_of (g.O.Sink.written l.output) (g.O.Sink.faults l.output) (store_of (g.S.Storage.pages l.storage) (g.S.Storage.logs l.storage) (g.S.Storage.stops l.storage) (g.S.Storage.failing l.storage) (g.S.Storage.faults l.storage))));
    }

abbrev pub decreases-loop-done : goal.decreases-loop-done
decreases-loop-done g l = l.limit - l.done
