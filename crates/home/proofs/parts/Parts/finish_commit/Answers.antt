use Rattle.std.proofs.Common.{◌∙◌, ap, sym}
use Rattle.node_rules.specs.NodeState.{HomeState, runs_at}
use Rattle.home_laws.proofs.Noted.{runs_unlisted}
use Rattle.home.specs.Ends.{listed}
use Rattle.home.specs.Parts.{PartsView}
use Rattle.home.proofs.Committing.{may_publish_here}
use Rattle.home.proofs.Telling.{published, end_pages_are, unpin_after, published_closed}
use Rattle.home.proofs.parts.Parts.finish_commit.Goals as goal

pub publish_all-requires : goal.publish_all-requires
publish_all-requires c =
    may_publish_here c.args.self.now.home _ c.args.tx c.args.pages.now (ap (λ (v : PartsView). v.home) c.self.view_is) c.requires.home c.requires.waits c.requires.below c.requires.pages

pub close_tx-requires-clause-pins : goal.close_tx-requires-clause-pins
close_tx-requires-clause-pins c =
    unpin_after c.args.self.now.home c.args.tx _ c.publish_all.new.pool c.requires.home c.requires.«open» (end_pages_are c.args.self.now.home c.args.tx c.args.ends.now c.requires.ends)
    (published c.args.self.now.home _ c.args.tx c.args.pages.now c.publish_all.new.pool (ap (λ (v : PartsView). v.home) c.self.view_is) c.requires.pages c.publish_all.ensures)

pub close_tx-requires-clause-noted : goal.close_tx-requires-clause-noted
close_tx-requires-clause-noted c p outside =
    ap (λ (v : PartsView). runs_at v.home.written c.args.tx p) c.self.view_is
    ∙ runs_unlisted c.args.self.now.home c.args.tx p c.requires.home (ap (λ ps. listed ps p) (sym (end_pages_are c.args.self.now.home c.args.tx c.args.ends.now c.requires.ends)) ∙ outside)

pub returns-clause-home : goal.returns-clause-home
returns-clause-home c =
    c.close_tx.ensures.home
    ∙ published_closed c.args.self.now.home _ c.args.tx c.publish_all.new.pool _ (ap (λ (v : PartsView). let h : HomeState = record (v.home) { pool = c.publish_all.new.pool } in h) c.self.view_is)
    (published c.args.self.now.home _ c.args.tx c.args.pages.now c.publish_all.new.pool (ap (λ (v : PartsView). v.home) c.self.view_is) c.requires.pages c.publish_all.ensures)
    (end_pages_are c.args.self.now.home c.args.tx c.args.ends.now c.requires.ends)
