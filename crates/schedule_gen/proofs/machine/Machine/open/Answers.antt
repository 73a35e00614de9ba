use Rattle.std.proofs.Common.{◌∙◌, ap, arith, rules}
use Rattle.schedule_gen.specs.Links.{SweepsView, links_of}
use Rattle.schedule_gen.proofs.MachineLemmas.{first_sound}
use Rattle.schedule_gen.proofs.machine.Machine.open.Goals as goal

pub returns-clause-sound : goal.returns-clause-sound
returns-clause-sound c =
    first_sound c.args.config.now c.args.seed c.args.lines c.in_ok-kept.kept c.in_ok-sweeps.sweeps _ c.«open».ensures.limits (search rules) c.in_ok-kept.ensures.kept
    (ap (λ (v : SweepsView). v.sweep) c.in_ok-sweeps.ensures ∙ ap links_of c.live.ensures.value)
    (record { node = omega arith; first_born = omega arith; last_born = omega arith; first_serial = omega arith; last_serial = omega arith })
