use Rattle.std.proofs.Common.{ap, subst}
use Rattle.node_rules.specs.NodeState.{number_of}
use Rattle.step_ends.specs.Ran.{OthersStayArmed}
use Rattle.node_core.proofs.node.Node.step.Goals as goal

pub returns-clause-others : goal.returns-clause-others
returns-clause-others g c = λ d pages logs.
    subst (λ k. OthersStayArmed k (g.S.Storage.stops c.args.s.now) (g.S.Storage.stops c.step_parts.new.s)) (ap number_of c.self.view_is) (c.step_parts.ensures.step.others d pages logs)
