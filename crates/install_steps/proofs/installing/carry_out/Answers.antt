use Rattle.std.proofs.Common.{Ok, Err, arith}
use Rattle.node_rules.specs.InstallRule.{install_view}
use Rattle.node_parts.specs.Comes.{work_of}
use Rattle.node_parts.specs.State.{node_of}
use Rattle.install_steps.proofs.Ending.{installed_parts}
use Rattle.install_steps.proofs.Started.{fault_elsewhere}
use Rattle.install_steps.proofs.Works.{ready_comes, ready_made, ready_works}
use Rattle.install_steps.proofs.installing.carry_out.Goals as goal

pub enter-requires-clause-me : goal.enter-requires-clause-me
enter-requires-clause-me g c =
    let low = c.requires.parts.node.number in
    let me = c.requires.parts.number in
    let nodes = c.requires.nodes in
    omega (arith, low, me, nodes)

pub work_off-requires-clause-may : goal.work_off-requires-clause-may
work_off-requires-clause-may g c =
    let e = c.enter.ensures in
    ready_works c.args.parts.now c.enter.new.parts c.args.ready.view (g.S.Storage.pages c.args.s.now) (g.S.Storage.logs c.args.s.now) c.args.out.now c.enter.new.out c.args.ready c.requires.parts c.requires.ready
    (record { node = e.node; me = e.me; tables = e.tables; replies = e.replies; sends = e.sends; reply_room = e.reply_room; send_room = e.send_room })

pub returns-in-Ok-clause-comes : goal.returns-in-Ok-clause-comes
returns-in-Ok-clause-comes g c = λ d cs stored told.
    let e = c.enter.ensures in
    ready_comes c.args.parts.now c.enter.new.parts c.args.ready.view (g.S.Storage.pages c.args.s.now) (g.S.Storage.logs c.args.s.now) c.args.out.now c.enter.new.out c.args.ready c.requires.parts c.requires.ready
    (record { node = e.node; me = e.me; tables = e.tables; replies = e.replies; sends = e.sends; reply_room = e.reply_room; send_room = e.send_room })
    (Unit {0}) (Ok (tt {0})) d stored told cs (node_of c.work_off.new.parts) c.work_off.new.out (c.in-Ok.ensures.comes d cs stored told)

pub returns-in-Ok-clause-made : goal.returns-in-Ok-clause-made
returns-in-Ok-clause-made g c = λ d stored told.
    let e = c.enter.ensures in
    ready_made c.args.parts.now c.enter.new.parts c.args.ready.view (g.S.Storage.pages c.args.s.now) (g.S.Storage.logs c.args.s.now) c.args.out.now c.enter.new.out c.args.ready c.requires.parts c.requires.ready
    (record { node = e.node; me = e.me; tables = e.tables; replies = e.replies; sends = e.sends; reply_room = e.reply_room; send_room = e.send_room })
    (Unit {0}) (Ok (tt {0})) d stored told _ _ (c.in-Ok.ensures.made d stored told)

pub returns-in-Err-clause-comes : goal.returns-in-Err-clause-comes
returns-in-Err-clause-comes g c = λ d cs stored told.
    let e = c.enter.ensures in
    fault_elsewhere (Unit {0}) (install_view d c.args.ready.view (work_of (node_of c.args.parts.now) d.pages cs c.args.out.now)) c.in-Err.fault _ _
    (ready_comes c.args.parts.now c.enter.new.parts c.args.ready.view (g.S.Storage.pages c.args.s.now) (g.S.Storage.logs c.args.s.now) c.args.out.now c.enter.new.out c.args.ready c.requires.parts c.requires.ready
    (record { node = e.node; me = e.me; tables = e.tables; replies = e.replies; sends = e.sends; reply_room = e.reply_room; send_room = e.send_room })
    (Unit {0}) (Err c.in-Err.fault) d stored told cs (node_of c.work_off.new.parts) c.work_off.new.out (c.in-Err.ensures.comes d cs stored told))

pub returns-in-Err-clause-made : goal.returns-in-Err-clause-made
returns-in-Err-clause-made g c = λ d stored told.
    let e = c.enter.ensures in
    ready_made c.args.parts.now c.enter.new.parts c.args.ready.view (g.S.Storage.pages c.args.s.now) (g.S.Storage.logs c.args.s.now) c.args.out.now c.enter.new.out c.args.ready c.requires.parts c.requires.ready
    (record { node = e.node; me = e.me; tables = e.tables; replies = e.replies; sends = e.sends; reply_room = e.reply_room; send_room = e.send_room })
    (Unit {0}) (Err c.in-Err.fault) d stored told _ _ (c.in-Err.ensures.made d stored told)

pub returns-in-Ok-clause-parts : goal.returns-in-Ok-clause-parts
returns-in-Ok-clause-parts g c =
    installed_parts c.args.parts.now c.enter.new.parts c.work_off.new.parts c.args.ready.view c.args.ready.is_born c.args.ready.plan
    (record {
      parts = c.requires.parts;
      nodes = c.requires.nodes;
      none = c.requires.none;
      born = c.requires.ready.born;
      later = c.enter.ensures.later;
      entering = c.enter.ensures.node;
      me = c.enter.ensures.me;
      epoch = c.enter.ensures.epoch;
      viewed = c.enter.ensures.view;
      tables = c.enter.ensures.tables;
      turning = c.work_off.ensures.turning;
      places = c.in-Ok.ensures.places;
      same_view = c.work_off.ensures.view;
      same_node = c.work_off.ensures.same;
      apt = c.requires.ready.apt;
      whole = c.in-Ok.ensures.whole;
    })
