use Rattle.std.proofs.Common.{subst, sym}
use Rattle.node_parts.specs.Events.{event_of}
use Rattle.node_parts.specs.declared.event.NodeEvent.{NodeEvent}
use Rattle.node_rules.specs.NodeState.{Deliver}
use Rattle.cluster_parts.specs.State.{ClusterView}
use Rattle.cluster_parts.specs.Steps.{MayGoBack, SparesStay}
use Rattle.cluster.proofs.Stepping.{back_spares}
use Rattle.cluster.proofs.parts.ClusterParts.give_back.Goals as goal

pub returns-in-Deliver-clause-spares : goal.returns-in-Deliver-clause-spares
returns-in-Deliver-clause-spares c =
    let may : MayGoBack c.args.n (Deliver c.in-Deliver.from c.in-Deliver.message) c.args.self.now.links = subst (λ (e : NodeEvent). MayGoBack c.args.n (event_of e) c.args.self.now.links) c.in-Deliver.is c.requires in
    subst (λ (x : ClusterView). SparesStay c.args.n x.links c.put_back.new.self) c.self.view_is
    (back_spares c.self.inside.links c.put_back.new.self c.args.n c.in-Deliver.from c.in-Deliver.message
    (subst (λ (x : ClusterView). MayGoBack c.args.n (Deliver c.in-Deliver.from c.in-Deliver.message) x.links) (sym c.self.view_is) may) c.put_back.ensures.links c.put_back.ensures.spares)
