use Rattle.std.proofs.Common.{sym, ◌∙◌}
use Rattle.pcl_base.specs.declared.lock.Kind.TheVariants as kind
use Rattle.page_owner.proofs.OwnGrants.{own_done, own_failed, own_keeps}
use Rattle.page_owner.proofs.carry.grant_own.Goals as goal

pub returns-in-Ok-clause-told : goal.returns-in-Ok-clause-told
returns-in-Ok-clause-told g c = λ n ps cs told.
    own_done c.args.tx c.args.mode c.args.at.page c.args.at.version _ (sym c.waits_for.ensures ∙ c.if-waits_for.true) n ps cs c.args.home.now c.grant_own.new.self c.args.out.now c.reply.new.self
    c.in-Ok.reply c.reply.ensures.replies c.reply.ensures.sends (c.in-Ok.ensures.told ps told)

pub returns-in-Ok-clause-same : goal.returns-in-Ok-clause-same
returns-in-Ok-clause-same g c =
    let by = c.in-Ok.ensures.image in
    own_keeps c.args.home.now c.args.tx (record { page = c.args.at.page; mode = c.args.mode; kind = kind.Own }) c.args.at.version by.image c.in-Ok.reply c.grant_own.new.self by.goes

pub returns-in-Err-clause-told : goal.returns-in-Err-clause-told
returns-in-Err-clause-told g c = λ n ps cs told.
    own_failed c.args.tx c.args.mode c.args.at.page c.args.at.version _ (sym c.waits_for.ensures ∙ c.if-waits_for.true) n ps cs c.args.home.now c.grant_own.new.self c.args.out.now c.args.out.now
    c.in-Err.fault c.halt.result c.halt.ensures.fault (c.in-Err.ensures.told ps told)
