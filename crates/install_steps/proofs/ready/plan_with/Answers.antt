use Rattle.install_steps.proofs.Readying.{ready_answered}
use Rattle.install_steps.proofs.ready.plan_with.Goals as goal

pub returns-then-is_apt-clause-ready : goal.returns-then-is_apt-clause-ready
returns-then-is_apt-clause-ready g c =
    let m = c.with_memory.ensures in
    let p = c.in-Ok.ensures in
    ready_answered c.args.parts.now c.args.view.now (g.S.Storage.pages c.args.s.now) (g.S.Storage.logs c.args.s.now) c.with_memory.new.out c.args.is_born c.args.keep c.in-Ok.plan c.with_memory.result
    c.requires.born c.requires.unbegun c.requires.within c.requires.keeps c.requires.kept (c.is_apt.ensures c.if-is_apt.true) p.planned p.fits m.view m.born m.keep m.plan m.list m.memory m.size m.further m.none
