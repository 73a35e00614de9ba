use Rattle.schedule_gen.proofs.MachineLemmas.{gives_begin_first}
use Rattle.schedule_gen.proofs.machine.Machine.begin_first.Goals as goal

pub returns : goal.returns
returns c =
    rw c.go_on.ensures
    (gives_begin_first c.args.self.now c.draw_live-first.result c.draw_live-second.result c.draw_live-first.new.self c.draw_live-second.new.self c.begin-self.new.self c.begin-self.result c.requires
    c.draw_live-first.ensures.value c.draw_live-first.ensures.next c.draw_live-second.ensures.value c.draw_live-second.ensures.next c.begin-self.ensures.value c.begin-self.ensures.next
    c.draw_live-first.ensures.most c.draw_live-first.ensures.node c.draw_live-second.ensures.node c.begin-self.ensures.has_name)
