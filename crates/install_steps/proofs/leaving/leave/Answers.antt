use Rattle.std.proofs.Common.{None}
use Rattle.node_parts.specs.State.{PartsView}
use Rattle.install_steps.proofs.Ending.{left_parts_of}
use Rattle.install_steps.proofs.leaving.leave.Goals as goal

pub returns-clause-parts : goal.returns-clause-parts
returns-clause-parts c =
    left_parts_of c.args.parts.now _ c.requires.turning
    (λ i. let x : PartsView = record { me = (c.parts.view_is i).me; home = (c.parts.view_is i).home; epoch = (c.parts.view_is i).epoch; view = None; tables = c.requires.none i } in x)
