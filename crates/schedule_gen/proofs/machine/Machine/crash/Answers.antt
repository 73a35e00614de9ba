use Rattle.schedule_gen.proofs.MachineLemmas.{gives_crash}
use Rattle.schedule_gen.proofs.machine.Machine.crash.Goals as goal

pub returns : goal.returns
returns c =
    rw (c.go_on.ensures, c.lose.ensures)
    (gives_crash c.args.self.now c.lose-node.result c.lose-node.new.self c.requires c.lose-node.ensures.value c.lose-node.ensures.next c.lose-node.ensures.live c.lose-node.ensures.serials c.lose-node.ensures.most)
