use Rattle.std.proofs.Common.{◌∙◌, ap, subst, sym}
use Rattle.node_rules.specs.NodeState.{NodeState, number_of}
use Rattle.serving_parts.specs.Sides.{store_of, outs_of, sides_of}
use Rattle.serving_parts.specs.Outcome.{Outcome, first_link}
use Rattle.serving_parts.proofs.Turning.{start_config, start_number, started, unstarted}
use Rattle.node_link.proofs.serving.serve.Goals as goal

pub serve_node-requires-clause-config : goal.serve_node-requires-clause-config
serve_node-requires-clause-config g c = ap (λ (n : NodeState). n.home.config) c.in-Ok.ensures ∙ start_config c.args.config.now c.args.me

pub serve_node-requires-clause-number : goal.serve_node-requires-clause-number
serve_node-requires-clause-number g c = ap number_of c.in-Ok.ensures ∙ start_number c.args.config.now c.args.me

pub returns-in-Err : goal.returns-in-Err
returns-in-Err g c =
    let here = (sides_of (g.I.Source.left c.args.input.now) (g.I.Source.faults c.args.input.now) (outs_of (g.O.Sink.written c.args.output.now) (g.O.Sink.faults c.args.output.now) (store_of (g.S.Storage.pages c.args.storage.now) (g.S.Storage.logs c.args.storage.now) (g.S.Storage.stops c.args.storage.now) (g.S.Storage.failing c.args.storage.now) (g.S.Storage.faults c.args.storage.now)))) in
    let k = first_link c.args.config.now c.args.me c.args.limit in
    subst (λ x. Outcome k here here x) (sym c.status.ensures) (unstarted k here)

pub returns-in-Ok : goal.returns-in-Ok
returns-in-Ok g c =
    started c.args.config.now c.args.me c.args.limit c.in-Ok.node (sides_of (g.I.Source.left c.args.input.now) (g.I.Source.faults c.args.input.now) (outs_of (g.O.Sink.written c.args.output.now) (g.O.Sink.faults c.args.output.now) (store_of (g.S.Storage.pages c.args.storage.now) (g.S.Storage.logs c.args.storage.now) (g.S.Storage.stops c.args.storage.now) (g.S.Storage.failing c.args.storage.now) (g.S.Storage.faults c.args.storage.now)))) (sides_of (g.I.Source.left c.serve_node.new.input) (g.I.Source.faults c.serve_node.new.input) (outs_of (g.O.Sink.written c.serve_node.new.output) (g.O.Sink.faults c.serve_node.new.output) (store_of (g.S.Storage.pages c.serve_node.new.storage) (g.S.Storage.logs c.serve_node.new.storage) (g.S.Storage.stops c.serve_node.new.storage) (g.S.Storage.failing c.serve_node.new.storage) (g.S.Storage.faults c.serve_node.new.storage)))) c.serve_node.result c.status-in-Ok.result c.in-Ok.ensures c.status-in-Ok.ensures c.serve_node.ensures
