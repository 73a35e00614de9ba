use Rattle.schedule_gen.proofs.MachineLemmas.{gives_begin_second}
use Rattle.schedule_gen.proofs.machine.Machine.begin_second.Goals as goal

pub returns : goal.returns
returns c = rw c.go_on.ensures (gives_begin_second c.args.self.now c.args.node c.begin-self.new.self c.begin-self.result c.requires c.begin-self.ensures.value c.begin-self.ensures.next c.begin-self.ensures.has_name)
