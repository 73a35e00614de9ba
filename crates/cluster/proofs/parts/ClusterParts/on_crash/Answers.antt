use Rattle.std.proofs.Common.{refl, ap, sym, [], Some}
use Rattle.pcl_base.specs.declared.reply.Reply.TheVariants as reply
use Rattle.cluster_rules.specs.Clusters.{answer, lose}
use Rattle.cluster_rules.specs.ClusterStep.{named}
use Rattle.cluster_parts.specs.State.{cluster_of}
use Rattle.cluster.proofs.Answering.{absent_came, came, on_crash_step, present_log, present_node}
use Rattle.cluster.proofs.parts.ClusterParts.on_crash.Goals as goal

pub returns-in-Some-clause-ends : goal.returns-in-Some-clause-ends
returns-in-Some-clause-ends c =
    (absent_came c.args.self.now c.refuse.new.self c.args.event c.args.n [] (Some c.in-Some.reason) c.in-Some.reason c.refuse.result c.requires.parts (ap named c.requires.event) refl c.in-Some.ensures refl c.refuse.ensures.comes c.refuse.ensures.title c.refuse.ensures.failing).ends

pub returns-in-Some-clause-parts : goal.returns-in-Some-clause-parts
returns-in-Some-clause-parts c =
    (absent_came c.args.self.now c.refuse.new.self c.args.event c.args.n [] (Some c.in-Some.reason) c.in-Some.reason c.refuse.result c.requires.parts (ap named c.requires.event) refl c.in-Some.ensures refl c.refuse.ensures.comes c.refuse.ensures.title c.refuse.ensures.failing).parts

pub crash-requires-clause-node : goal.crash-requires-clause-node
crash-requires-clause-node c = present_node c.args.self.now c.args.n (sym c.in-None.ensures)

pub crash-requires-clause-log : goal.crash-requires-clause-log
crash-requires-clause-log c = present_log c.args.self.now c.args.n c.requires.parts (sym c.in-None.ensures)

pub returns-in-None-clause-ends : goal.returns-in-None-clause-ends
returns-in-None-clause-ends c =
    (came c.args.self.now c.crash.new.self (answer c.args.event reply.Crashed (lose c.args.n (cluster_of c.args.self.now))) c.args.event c.crash.result c.requires.parts (on_crash_step c.args.self.now c.args.event c.args.n c.requires.event (sym c.in-None.ensures)) c.crash.ensures.comes c.crash.ensures.title c.crash.ensures.failing).ends

pub returns-in-None-clause-parts : goal.returns-in-None-clause-parts
returns-in-None-clause-parts c =
    (came c.args.self.now c.crash.new.self (answer c.args.event reply.Crashed (lose c.args.n (cluster_of c.args.self.now))) c.args.event c.crash.result c.requires.parts (on_crash_step c.args.self.now c.args.event c.args.n c.requires.event (sym c.in-None.ensures)) c.crash.ensures.comes c.crash.ensures.title c.crash.ensures.failing).parts
