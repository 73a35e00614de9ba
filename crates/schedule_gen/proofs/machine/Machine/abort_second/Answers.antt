use Rattle.schedule_gen.proofs.MachineLemmas.{gives_abort_second}
use Rattle.schedule_gen.proofs.machine.Machine.abort_second.Goals as goal

pub returns : goal.returns
returns c = rw (c.go_on.ensures, c.start.ensures) (gives_abort_second c.args.self.now c.requires)
