use Rattle.std.proofs.Common.{◌≡◌, ◌∷◌, []}
use Rattle.text_rules.specs.Generator.{access}
use Rattle.schedule_gen.proofs.MachineLemmas.{gives_access_second}
use Rattle.schedule_gen.proofs.machine.Machine.access_second.Goals as goal

pub returns-clause-ok : goal.returns-clause-ok
returns-clause-ok c =
    let pages = c.pages.ensures.value in
    let event = c.in_ok-event.ensures.event in
    let next = c.in_ok-event.ensures.next in
    let event : (access c.args.self.now.config.pages c.args.self.now.second c.args.self.now.kept).events ≡ c.in_ok-event.event ∷ [] = rw (← pages) c.in_ok-event.ensures.event in
    let next : c.access.new.self ≡ (access c.args.self.now.config.pages c.args.self.now.second c.args.self.now.kept).next = rw (← pages) c.in_ok-event.ensures.next in
    rw (c.go_on.ensures, c.start.ensures)
    (gives_access_second c.args.self.now c.args.turn c.in_ok-event.event c.access.new.self c.after-stage.result c.requires event next c.in_ok-event.ensures.kept
    (c.in_ok-event.ensures.has_line c.requires.sound.second) (rw (← c.start.ensures) c.after-stage.ensures))
