use Rattle.node_rules.specs.AccessRule.{shelf_after, readers_after}
use Rattle.home.specs.Grants.{work_at}
use Rattle.home.proofs.Arriving.{arrival_told, arrival_fault, arrival_image, readers_prepared}
use Rattle.home.proofs.parts.Parts.arrive.Goals as goal

pub returns-in_err-reply-clause-told : goal.returns-in_err-reply-clause-told
returns-in_err-reply-clause-told g c ps told =
    arrival_fault c.args.g.now c.args.owned c.kind_of.result (work_at ps c.args.self.now.home) _ c.grant.new.self.home _ c.from_residual.result c.kind_of.ensures c.requires.awaited c.from_residual.ensures.1 (c.in_err-reply.ensures.told ps told)

pub returns-clause-told : goal.returns-clause-told
returns-clause-told g c ps told =
    arrival_told c.args.g.now c.args.owned c.kind_of.result (work_at ps c.args.self.now.home) _ c.grant.new.self.home _ c.grant.new.self.home.shelf c.kind_of.ensures c.requires.awaited
    (c.in_ok-reply.ensures.told ps told) c.change_readers.ensures.home c.grant.ensures.shelf

pub returns-clause-image : goal.returns-clause-image
returns-clause-image g c =
    arrival_image c.args.g.now c.args.owned c.kind_of.result c.args.self.now.home c.grant.new.self.home _ _ c.grant.new.self.home.shelf c.kind_of.ensures c.requires.awaited
    c.in_ok-reply.ensures.image c.change_readers.ensures.home c.grant.ensures.shelf

pub returns-clause-prepared : goal.returns-clause-prepared
returns-clause-prepared g c =
    readers_prepared (readers_after c.args.g.now (shelf_after c.args.g.now c.grant.new.self.home.shelf)) c.grant.new.self c.change_readers.new.self c.grant.ensures.prepared c.in_ok-reply.ensures.right
    c.change_readers.ensures.same c.change_readers.ensures.home c.change_readers.ensures.rights
