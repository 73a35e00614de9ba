use Rattle.std.proofs.Common.{rules, ◌≡◌, ◌&&◌, ◌++◌, [], ◌∷◌, false, List, is_some, ap, sym, subst, ◌∙◌}
use Rattle.pcl_base.specs.declared.reply.Reply.{Reply}
use Rattle.pcl_base.specs.declared.reply.Reply.TheVariants.{Taken as taken}
use Rattle.node_rules.specs.NodeState.{table_of}
use Rattle.node_parts.specs.contracts.parts.Parts.{the_view}
use Rattle.node_parts.specs.State.{PartsView, AreParts, node_of}
use Rattle.home.specs.Grants.{after_reading, is_awaited, is_read}
use Rattle.node_rules.specs.AccessRule.{image_of}
use Rattle.page_owner.specs.Carry.{SameNode}
use Rattle.page_owner.proofs.Arriving.{taken_alone, taken_with, taken_not, grant_same}
use Rattle.page_owner.proofs.OwnGrants.{still_none}
use Rattle.page_owner.proofs.Planned.{home_parts}
use Rattle.page_owner.proofs.arrive.take_grant.Goals as goal

pub returns-in-Err-clause-comes : goal.returns-in-Err-clause-comes
returns-in-Err-clause-comes g c = λ ps cs told.
    let none : false ≡ is_some (table_of (node_of c.args.parts.now) c.args.g.now.page) = search rules in
    taken_not c.args.parts.now (the_view c.parts.inside) c.parts.view_is c.args.g.now none c.on_grant.new.self ps cs c.args.out.now c.reserve.new.self
    c.on_grant.result c.in-Err.fault c.grant_fault.result (search rules) c.grant_fault.ensures.fault (c.on_grant.ensures.told ps told)

pub returns-in-Ok-None-clause-comes : goal.returns-in-Ok-None-clause-comes
returns-in-Ok-None-clause-comes g c = λ ps cs told.
    let none : false ≡ is_some (table_of (node_of c.args.parts.now) c.args.g.now.page) = search rules in
    taken_alone c.args.parts.now (the_view c.parts.inside) c.parts.view_is c.args.g.now none c.on_grant.new.self ps cs c.args.out.now c.reply-in-Ok-None.new.self
    c.on_grant.result (search rules) (c.reply-in-Ok-None.ensures.replies ∙ ap (λ (l : List Reply). l ++ taken ∷ []) c.in_ok-reserve.ensures.replies) (c.reply-in-Ok-None.ensures.sends ∙ c.in_ok-reserve.ensures.sends)
    (c.on_grant.ensures.told ps told)

pub returns-in-Ok-Some-clause-comes : goal.returns-in-Ok-Some-clause-comes
returns-in-Ok-Some-clause-comes g c = λ ps cs told.
    let none : false ≡ is_some (table_of (node_of c.args.parts.now) c.args.g.now.page) = search rules in
    taken_with c.args.parts.now (the_view c.parts.inside) c.parts.view_is c.args.g.now none c.on_grant.new.self ps cs c.args.out.now c.reply-in-Ok-Some-2.new.self
    c.on_grant.result c.in-Ok-Some.reply (search rules)
    (c.reply-in-Ok-Some-2.ensures.replies ∙ ap (λ (l : List Reply). l ++ c.in-Ok-Some.reply ∷ []) (c.reply-in-Ok-Some.ensures.replies ∙ ap (λ (l : List Reply). l ++ taken ∷ []) c.in_ok-reserve.ensures.replies))
    (c.reply-in-Ok-Some-2.ensures.sends ∙ c.reply-in-Ok-Some.ensures.sends ∙ c.in_ok-reserve.ensures.sends)
    (c.on_grant.ensures.told ps told)

pub returns-in-Ok-None-clause-parts : goal.returns-in-Ok-None-clause-parts
returns-in-Ok-None-clause-parts g c =
    home_parts (the_view c.parts.inside) c.on_grant.new.self (grant_same c.args.g.now c.parts.inside.home c.on_grant.new.self c.on_grant.result c.on_grant.ensures.image c.on_grant.ensures.err)
    (subst AreParts (sym c.parts.view_is) c.requires.parts)

pub returns-in-Ok-None-clause-same : goal.returns-in-Ok-None-clause-same
returns-in-Ok-None-clause-same g c =
    subst (λ (v : PartsView). SameNode v.home c.on_grant.new.self) c.parts.view_is
    (grant_same c.args.g.now c.parts.inside.home c.on_grant.new.self c.on_grant.result c.on_grant.ensures.image c.on_grant.ensures.err)

pub returns-in-Ok-Some-clause-parts : goal.returns-in-Ok-Some-clause-parts
returns-in-Ok-Some-clause-parts g c =
    home_parts (the_view c.parts.inside) c.on_grant.new.self (grant_same c.args.g.now c.parts.inside.home c.on_grant.new.self c.on_grant.result c.on_grant.ensures.image c.on_grant.ensures.err)
    (subst AreParts (sym c.parts.view_is) c.requires.parts)

pub returns-in-Ok-Some-clause-same : goal.returns-in-Ok-Some-clause-same
returns-in-Ok-Some-clause-same g c =
    subst (λ (v : PartsView). SameNode v.home c.on_grant.new.self) c.parts.view_is
    (grant_same c.args.g.now c.parts.inside.home c.on_grant.new.self c.on_grant.result c.on_grant.ensures.image c.on_grant.ensures.err)

pub returns-in-Err-clause-calm : goal.returns-in-Err-clause-calm
returns-in-Err-clause-calm g c = λ l none.
    let me : c.parts.inside.home.txs.node ≡ c.args.parts.now.me = ap (λ (v : PartsView). v.home.txs.node) c.parts.view_is ∙ sym c.requires.parts.number in
    let read = is_awaited c.args.g.now c.parts.inside.home && is_read c.args.g.now.page c.args.g.now.version (image_of c.args.g.now.copy) c.parts.inside.home in
    still_none c.args.parts.now.me l read (g.S.Storage.failing c.args.s.now) (g.S.Storage.failing c.on_grant.new.s)
    (c.on_grant.ensures.failing ∙ ap (λ k. after_reading read (g.S.Storage.failing c.args.s.now) k) me) none

pub returns-in-Ok-Some-clause-calm : goal.returns-in-Ok-Some-clause-calm
returns-in-Ok-Some-clause-calm g c = λ l none.
    let me : c.parts.inside.home.txs.node ≡ c.args.parts.now.me = ap (λ (v : PartsView). v.home.txs.node) c.parts.view_is ∙ sym c.requires.parts.number in
    let read = is_awaited c.args.g.now c.parts.inside.home && is_read c.args.g.now.page c.args.g.now.version (image_of c.args.g.now.copy) c.parts.inside.home in
    still_none c.args.parts.now.me l read (g.S.Storage.failing c.args.s.now) (g.S.Storage.failing c.on_grant.new.s)
    (c.on_grant.ensures.failing ∙ ap (λ k. after_reading read (g.S.Storage.failing c.args.s.now) k) me) none
