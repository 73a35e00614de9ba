use Rattle.std.proofs.Common.{◌<◌, ◌∙◌, sym, ap, arith}
use Rattle.schedule_gen.specs.Links.{rest_of}
use Rattle.schedule_gen.proofs.MachineLemmas.{gives_left}
use Rattle.schedule_gen.proofs.maker.Maker.next.Goals as goal

pub returns-clause-rest : goal.returns-clause-rest
returns-clause-rest c =
    let more : c.self.inside.machine.given < c.self.inside.machine.lines = grind (arith, c.if-is_over.ensures, c.self.invariant.given) in
    ap rest_of (sym (gives_left c.self.inside.machine c.next.new.self c.in_ok-next.field-0 more c.in_ok-next.ensures.ok) ∙ c.self.view_is)
