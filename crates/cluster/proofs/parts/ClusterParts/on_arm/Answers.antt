use Rattle.std.proofs.Common.{refl, ap, sym, [], Some}
use Rattle.cluster_rules.specs.ClusterStep.{arm, named}
use Rattle.cluster_parts.specs.State.{cluster_of}
use Rattle.cluster.proofs.Answering.{absent_came, came, on_arm_step, present_log}
use Rattle.cluster.proofs.parts.ClusterParts.on_arm.Goals as goal

pub returns-in-Some-clause-ends : goal.returns-in-Some-clause-ends
returns-in-Some-clause-ends c =
    (absent_came c.args.self.now c.refuse.new.self c.args.event c.args.n [] (Some c.in-Some.reason) c.in-Some.reason c.refuse.result c.requires.parts (ap named c.requires.event) refl c.in-Some.ensures refl c.refuse.ensures.comes c.refuse.ensures.title c.refuse.ensures.failing).ends

pub returns-in-Some-clause-parts : goal.returns-in-Some-clause-parts
returns-in-Some-clause-parts c =
    (absent_came c.args.self.now c.refuse.new.self c.args.event c.args.n [] (Some c.in-Some.reason) c.in-Some.reason c.refuse.result c.requires.parts (ap named c.requires.event) refl c.in-Some.ensures refl c.refuse.ensures.comes c.refuse.ensures.title c.refuse.ensures.failing).parts

pub arm-requires-clause-log : goal.arm-requires-clause-log
arm-requires-clause-log c = present_log c.args.self.now c.args.n c.requires.parts (sym c.in-None.ensures)

pub returns-in-None-clause-ends : goal.returns-in-None-clause-ends
returns-in-None-clause-ends c =
    (came c.args.self.now c.arm.new.self (arm c.args.event c.args.n c.args.call c.args.kept (cluster_of c.args.self.now)) c.args.event c.arm.result c.requires.parts (on_arm_step c.args.self.now c.args.event c.args.n c.args.call c.args.kept c.requires.event (sym c.in-None.ensures)) c.arm.ensures.comes c.arm.ensures.title c.arm.ensures.failing).ends

pub returns-in-None-clause-parts : goal.returns-in-None-clause-parts
returns-in-None-clause-parts c =
    (came c.args.self.now c.arm.new.self (arm c.args.event c.args.n c.args.call c.args.kept (cluster_of c.args.self.now)) c.args.event c.arm.result c.requires.parts (on_arm_step c.args.self.now c.args.event c.args.n c.args.call c.args.kept c.requires.event (sym c.in-None.ensures)) c.arm.ensures.comes c.arm.ensures.title c.arm.ensures.failing).parts
