use Rattle.std.proofs.Common.{◌∙◌, ap, sym, subst}
use Rattle.node_rules.specs.NodeState.{HomeState, runs_at}
use Rattle.node_rules.specs.EndRule.{discard_all}
use Rattle.home_laws.specs.Homes.{AreOnce}
use Rattle.home_laws.proofs.EndSteps.{may_unpin_start}
use Rattle.home_laws.proofs.Noted.{runs_unlisted}
use Rattle.home.specs.Ends.{listed}
use Rattle.home.specs.Parts.{PartsView}
use Rattle.home.proofs.Closing.{once_in, unpin_beside, left_closed}
use Rattle.home.proofs.parts.Parts.abort.Goals as goal

pub discard_all-requires-clause-once : goal.discard_all-requires-clause-once
discard_all-requires-clause-once c =
    subst AreOnce (sym c.locks.ensures.value) (once_in c.args.self.now.home _ c.args.tx (ap (λ (v : PartsView). v.home) c.self.view_is) c.requires.home)

pub close_tx-requires-clause-pins : goal.close_tx-requires-clause-pins
close_tx-requires-clause-pins c =
    unpin_beside _ _ c.args.tx c.args.self.now.home.pool c.discard_all.new.pool c.requires.pages
    (c.discard_all.ensures ∙ ap (λ (v : PartsView). discard_all v.home.pool c.args.tx) c.self.view_is)
    (may_unpin_start c.args.self.now.home c.args.tx c.requires.home c.requires.open)

pub close_tx-requires-clause-noted : goal.close_tx-requires-clause-noted
close_tx-requires-clause-noted c p outside =
    ap (λ (v : PartsView). runs_at v.home.written c.args.tx p) c.self.view_is
    ∙ runs_unlisted c.args.self.now.home c.args.tx p c.requires.home (ap (λ ps. listed ps p) (sym c.requires.pages) ∙ outside)

pub returns-clause-home : goal.returns-clause-home
returns-clause-home c =
    c.close_tx.ensures.home
    ∙ left_closed c.args.self.now.home _ c.args.tx c.discard_all.new.pool _ (ap (λ (v : PartsView). let h : HomeState = record (v.home) { pool = c.discard_all.new.pool } in h) c.self.view_is)
    (c.discard_all.ensures ∙ ap (λ (v : PartsView). discard_all v.home.pool c.args.tx) c.self.view_is) c.requires.pages
