use Rattle.std.proofs.Common.{◌∙◌, ap, sym, subst, arith}
use Rattle.node_rules.specs.AccessRule.{on_revoke}
use Rattle.home.specs.Parts.{PartsView, IsPrepared}
use Rattle.home.proofs.HeldPages.{revoked_none}
use Rattle.home.proofs.parts.Parts.on_revoke.Goals as goal

pub returns-in-None-clause-answer : goal.returns-in-None-clause-answer
returns-in-None-clause-answer c =
    revoked_none c.args.page
    (record { config = c.self.inside.config; txs = c.self.inside.txs; shelf = c.self.inside.shelf.rights; pool = c.self.inside.pool; written = c.self.inside.written.places })
    c.give_back.new.self.rights c.in-None.ensures.answered c.in-None.ensures.spent
    ∙ ap (λ (v : PartsView). on_revoke c.args.page v.home) c.self.view_is

pub returns-in-Some-clause-prepared : goal.returns-in-Some-clause-prepared
returns-in-Some-clause-prepared c prepared =
    let before = subst IsPrepared (sym c.self.view_is) prepared in
    let rights = before.0.rights in
    let places = before.0.places in
    let replies = before.0.replies in (
      record {
        rights = omega (arith, rights, c.set_kinds.ensures.waits, c.in-Some.ensures.spare);
        places = omega (arith, places, c.set_kinds.ensures.waits);
        replies = omega (arith, replies, c.set_kinds.ensures.waits);
      },
      before.1 ∙ sym c.set_kinds.ensures.node,
    )

pub returns-in-None-clause-prepared : goal.returns-in-None-clause-prepared
returns-in-None-clause-prepared c prepared =
    let before = subst IsPrepared (sym c.self.view_is) prepared in
    let rights = before.0.rights in
    (record { rights = omega (arith, rights, c.in-None.ensures.spare); places = before.0.places; replies = before.0.replies }, before.1)
