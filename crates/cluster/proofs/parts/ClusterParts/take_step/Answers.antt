use Rattle.node_parts.specs.Events.{event_of}
use Rattle.cluster.proofs.Stepping.{ready_links}
use Rattle.cluster.proofs.parts.ClusterParts.take_step.Goals as goal

pub prepare-requires-clause-links : goal.prepare-requires-clause-links
prepare-requires-clause-links c = ready_links c.args.self.now c.args.event c.args.n (event_of c.args.asked) c.requires.ready
