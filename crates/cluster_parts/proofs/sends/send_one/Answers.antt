use Rattle.std.proofs.Common.{rules, ◌≡◌, ◌∷◌, ◌++◌, [], subst}
use Rattle.node_rules.specs.NodeState.{Outgoing}
use Rattle.link_model.specs.Spares.{UsesOne}
use Rattle.cluster_rules.specs.Links.{link_at, put_link}
use Rattle.cluster_parts.proofs.Sending.{room_lost, room_sent}
use Rattle.cluster_parts.proofs.sends.send_one.Goals as goal

pub returns-clause-room : goal.returns-clause-room
returns-clause-room g c = λ rest room.
    let put : c.send.new.self.links ≡ put_link c.args.links.now.links c.args.from c.args.outgoing.to (link_at c.args.links.now.links c.args.from c.args.outgoing.to ++ c.args.outgoing.message ∷ []) = search rules in
    room_sent c.args.links.now c.send.new.self c.args.from c.args.outgoing rest (link_at c.args.links.now.links c.args.from c.args.outgoing.to ++ c.args.outgoing.message ∷ []) room put
    (subst (λ (o : Outgoing). UsesOne c.args.links.now.spares c.send.new.self.spares c.args.from o.to) c.outgoing.view_is c.send.ensures.spares)

pub returns-then-not-is_up-clause-room : goal.returns-then-not-is_up-clause-room
returns-then-not-is_up-clause-room g c = λ rest room. room_lost c.args.links.now c.args.from c.args.outgoing rest room
