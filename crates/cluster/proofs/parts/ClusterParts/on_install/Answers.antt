use Rattle.std.proofs.Common.{refl, ap, [], Some}
use Rattle.cluster_rules.specs.ClusterStep.{named}
use Rattle.cluster.proofs.Answering.{absent_came}
use Rattle.cluster.proofs.parts.ClusterParts.on_install.Goals as goal

pub returns-in-Some-clause-ends : goal.returns-in-Some-clause-ends
returns-in-Some-clause-ends c =
    (absent_came c.args.self.now c.refuse.new.self c.args.event c.args.n [] (Some c.in-Some.reason) c.in-Some.reason c.refuse.result c.requires.parts (ap named c.requires.event) refl c.in-Some.ensures refl c.refuse.ensures.comes c.refuse.ensures.title c.refuse.ensures.failing).ends
