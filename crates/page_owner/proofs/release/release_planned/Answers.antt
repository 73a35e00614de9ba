use Rattle.std.proofs.Common.{◌≡◌, ◌<◌, ◌++◌, [], ◌∷◌, List, ap, sym, subst, ◌∙◌, arith}
use Rattle.pcl_base.specs.Limits.{Sizes}
use Rattle.pcl_base.specs.declared.reply.Reply.{Reply}
use Rattle.pcl_base.specs.declared.reply.Reply.TheVariants.{Taken as taken}
use Rattle.disk_model.specs.Disk.{HasSizes}
use Rattle.node_rules.specs.NodeState.{HomeState, NodeState, table_of}
use Rattle.node_parts.specs.contracts.parts.Parts.{the_view}
use Rattle.node_parts.specs.State.{PartsView, node_of}
use Rattle.home.specs.Device.{told_by}
use Rattle.page_owner.specs.Carry.{SameNode}
use Rattle.page_owner.specs.Planned.{HasMade, settled_of}
use Rattle.page_owner.specs.Released.{put_calls}
use Rattle.page_owner.specs.Writes.{after_calls}
use Rattle.page_owner.proofs.Planned.{home_made, given_parts, same_then}
use Rattle.page_owner.proofs.Releasing.{home_put_keeps, made_pages, put_comes}
use Rattle.page_owner.proofs.release.release_planned.Goals as goal

pub enter_planned-requires-clause-made : goal.enter_planned-requires-clause-made
enter_planned-requires-clause-made g c =
    let keeps : SameNode c.parts.inside.home c.put_change.new.home =
    subst (SameNode c.parts.inside.home) (sym c.put_change.ensures.home) (home_put_keeps c.parts.inside.home c.args.planned.changed c.args.r.now.page c.args.r.now.change) in
    home_made (the_view c.parts.inside) c.put_change.new.home keeps c.args.r.now.page (subst (HasMade c.args.r.now.page) (sym c.parts.view_is) c.in-Ok.ensures.made)

pub enter_planned-requires-clause-page : goal.enter_planned-requires-clause-page
enter_planned-requires-clause-page g c =
    let keeps : SameNode c.parts.inside.home c.put_change.new.home =
    subst (SameNode c.parts.inside.home) (sym c.put_change.ensures.home) (home_put_keeps c.parts.inside.home c.args.planned.changed c.args.r.now.page c.args.r.now.change) in
    let base = ap (λ (v : PartsView). v.home.config) c.parts.view_is ∙ ap (λ (n : NodeState). n.home.config) c.in-Ok.ensures.node in
    subst (λ (k : Sizes). c.args.r.now.page < k.pages) (sym (keeps.config ∙ base)) c.requires.page

pub enter_planned-requires-clause-sizes : goal.enter_planned-requires-clause-sizes
enter_planned-requires-clause-sizes g c =
    let keeps : SameNode c.parts.inside.home c.put_change.new.home =
    subst (SameNode c.parts.inside.home) (sym c.put_change.ensures.home) (home_put_keeps c.parts.inside.home c.args.planned.changed c.args.r.now.page c.args.r.now.change) in
    subst (λ (k : Sizes). HasSizes k (g.S.Storage.pages c.put_change.new.s) (g.S.Storage.logs c.put_change.new.s) (g.S.Storage.rooms c.put_change.new.s)) (sym keeps.config) c.put_change.ensures.sizes

pub enter_planned-requires-clause-size : goal.enter_planned-requires-clause-size
enter_planned-requires-clause-size g c =
    let keeps : SameNode c.parts.inside.home c.put_change.new.home =
    subst (SameNode c.parts.inside.home) (sym c.put_change.ensures.home) (home_put_keeps c.parts.inside.home c.args.planned.changed c.args.r.now.page c.args.r.now.change) in
    let base = ap (λ (v : PartsView). v.home.config) c.parts.view_is ∙ ap (λ (n : NodeState). n.home.config) c.in-Ok.ensures.node in
    let same : c.put_change.new.home.config.size ≡ c.in-Ok.stock.size = ap (λ (k : Sizes). k.size) (keeps.config ∙ base) ∙ sym c.in-Ok.ensures.size in
    omega (arith, same)

pub returns-then-put_change-clause-comes : goal.returns-then-put_change-clause-comes
returns-then-put_change-clause-comes g c = λ t ps cs there told.
    let v : PartsView = the_view c.parts.inside in
    let p = c.args.r.now.page in
    let o = c.args.r.now.change in
    let b = c.args.planned.changed in
    let keeps : SameNode v.home c.put_change.new.home =
    subst (SameNode v.home) (sym c.put_change.ensures.home) (home_put_keeps v.home b p o) in
    let node : node_of v ≡ node_of c.args.parts.now = ap node_of c.parts.view_is ∙ c.in-Ok.ensures.node in
    let calls = put_calls b p o v.home in
    let before = told_by (g.S.Storage.pages c.args.s.now) (g.S.Storage.logs c.args.s.now) (g.S.Storage.stops c.args.s.now) in
    let behind = told_by (g.S.Storage.pages c.put_change.new.s) (g.S.Storage.logs c.put_change.new.s) (g.S.Storage.stops c.put_change.new.s) in
    put_comes b p o t (settled_of c.args.planned) (node_of v) (node_of c.args.parts.now) (node_of c.enter_planned.new.parts) c.put_change.new.home ps cs c.args.out.now c.reply.new.self c.enter_planned.new.out c.enter_planned.result
    node c.put_change.ensures.home (c.reply.ensures.replies ∙ ap (λ (l : List Reply). l ++ taken ∷ []) c.in-Ok.ensures.replies) (c.reply.ensures.sends ∙ c.in-Ok.ensures.sends)
    (c.enter_planned.ensures.comes t (after_calls ps calls) (cs ++ calls)
    (ap (λ (k : Sizes). table_of (record (node_of v) { home = record (v.home) { config = k } }) p) keeps.config ∙ ap (λ (n : NodeState). table_of n p) node ∙ there)
    (made_pages v.home.txs.node calls before behind ps c.if-put_change.ensures.made told))

pub returns-then-put_change-clause-same : goal.returns-then-put_change-clause-same
returns-then-put_change-clause-same g c =
    let keeps : SameNode c.parts.inside.home c.put_change.new.home =
    subst (SameNode c.parts.inside.home) (sym c.put_change.ensures.home) (home_put_keeps c.parts.inside.home c.args.planned.changed c.args.r.now.page c.args.r.now.change) in
    let base = ap (λ (v : PartsView). v.home) c.parts.view_is ∙ ap (λ (n : NodeState). n.home) c.in-Ok.ensures.node in
    subst (λ (h : HomeState). SameNode h c.enter_planned.new.parts.home) base (same_then c.parts.inside.home c.put_change.new.home c.enter_planned.new.parts.home keeps c.enter_planned.ensures.same)

pub returns-clause-parts : goal.returns-clause-parts
returns-clause-parts g c =
    let keeps : SameNode c.parts.inside.home c.put_change.new.home =
    subst (SameNode c.parts.inside.home) (sym c.put_change.ensures.home) (home_put_keeps c.parts.inside.home c.args.planned.changed c.args.r.now.page c.args.r.now.change) in
    let had : HasMade c.args.r.now.page (the_view c.parts.inside) = subst (HasMade c.args.r.now.page) (sym c.parts.view_is) c.in-Ok.ensures.made in
    given_parts (the_view c.parts.inside) c.put_change.new.home keeps c.args.r.now.page c.give_up.new.self had c.give_up.ensures.tables c.give_up.ensures.config (c.give_up.ensures.tidy [] had.tidy)

pub returns-clause-same : goal.returns-clause-same
returns-clause-same g c =
    let keeps : SameNode c.parts.inside.home c.put_change.new.home =
    subst (SameNode c.parts.inside.home) (sym c.put_change.ensures.home) (home_put_keeps c.parts.inside.home c.args.planned.changed c.args.r.now.page c.args.r.now.change) in
    let base = ap (λ (v : PartsView). v.home) c.parts.view_is ∙ ap (λ (n : NodeState). n.home) c.in-Ok.ensures.node in
    subst (λ (h : HomeState). SameNode h c.put_change.new.home) base keeps
