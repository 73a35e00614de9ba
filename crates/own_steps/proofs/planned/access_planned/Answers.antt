use Rattle.std.proofs.Common.{rules, ◌≡◌, ◌<◌, ◌++◌, [], true, Some, None, Err, ap, sym, subst, ◌∙◌, arith}
use Rattle.pcl_base.specs.Limits.{Sizes}
use Rattle.disk_model.specs.Disk.{HasSizes}
use Rattle.node_rules.specs.AccessRule.{access}
use Rattle.node_rules.specs.NodeState.{HomeState, NodeState, table_of}
use Rattle.home.specs.Answers.{Leaves}
use Rattle.home.specs.Asked.{asked, next_as}
use Rattle.home.specs.Device.{Made, told_by, work_on}
use Rattle.home.specs.declared.access.Next.{Next}
use Rattle.home_laws.proofs.Allowed.{allowed}
use Rattle.node_parts.specs.Comes.{work_of}
use Rattle.node_parts.specs.State.{PartsView, node_of}
use Rattle.node_parts.specs.contracts.parts.Parts.{the_view}
use Rattle.page_owner.specs.Carry.{SameNode}
use Rattle.page_owner.specs.Planned.{HasMade, IsPlanFor}
use Rattle.page_owner.specs.Writes.{after_calls}
use Rattle.page_owner.proofs.Planned.{given_parts, home_made, same_then}
use Rattle.own_steps.specs.Calls.{access_calls, planned_request}
use Rattle.own_steps.proofs.Accessing.{comes_as, false_true, made_pages, told_first}
use Rattle.own_steps.proofs.Asked.{IsOwnNext}
use Rattle.own_steps.proofs.Framed.{access_same, access_writes}
use Rattle.own_steps.proofs.Made.{halted_failed, step_fault, step_leaves}
use Rattle.own_steps.proofs.OwnPages.{is_own, planned_done, planned_failed, write_access, write_quiet}
use Rattle.own_steps.proofs.Worked.{after_same}
use Rattle.own_steps.proofs.planned.access_planned.Goals as goal

pub prepare-requires-clause-page : goal.prepare-requires-clause-page
prepare-requires-clause-page g c = (allowed (asked c.args.a.now) c.args.parts.now.home c.requires.none).page

pub give_up-requires-clause-page : goal.give_up-requires-clause-page
give_up-requires-clause-page g c =
    let v : PartsView = the_view c.parts.inside in
    let node : node_of v ≡ node_of c.args.parts.now = ap node_of c.parts.view_is ∙ c.in_ok-stock.ensures.node in
    let base : v.home ≡ c.args.parts.now.home = ap (λ (n : NodeState). n.home) node in
    let had : HasMade c.args.a.now.page v = subst (HasMade c.args.a.now.page) (sym c.parts.view_is) c.in_ok-stock.ensures.made in
    let keeps : SameNode v.home c.access.new.self = after_same c.access.result v.home _ c.access.new.self c.access.ensures.home (access_same (asked c.args.a.now) true v.home) in
    subst (λ (k : Sizes). c.args.a.now.page < k.pages) (sym (had.config ∙ ap (λ (h : HomeState). h.config) base)) (allowed (asked c.args.a.now) c.args.parts.now.home c.requires.none).page

pub returns-in-Err-clause-made : goal.returns-in-Err-clause-made
returns-in-Err-clause-made g c =
    let v : PartsView = the_view c.parts.inside in
    let node : node_of v ≡ node_of c.args.parts.now = ap node_of c.parts.view_is ∙ c.in_ok-stock.ensures.node in
    let base : v.home ≡ c.args.parts.now.home = ap (λ (n : NodeState). n.home) node in
    let had : HasMade c.args.a.now.page v = subst (HasMade c.args.a.now.page) (sym c.parts.view_is) c.in_ok-stock.ensures.made in
    let keeps : SameNode v.home c.access.new.self = after_same c.access.result v.home _ c.access.new.self c.access.ensures.home (access_same (asked c.args.a.now) true v.home) in
    let left : Leaves {T = Next} c.args.parts.now.home.txs.node (Err c.in-Err.fault) (access_calls true (asked c.args.a.now) c.args.parts.now.home) (told_by (g.S.Storage.pages c.args.s.now) (g.S.Storage.logs c.args.s.now) (g.S.Storage.stops c.args.s.now)) (told_by (g.S.Storage.pages c.access.new.s) (g.S.Storage.logs c.access.new.s) (g.S.Storage.stops c.access.new.s)) =
    subst (λ (h : HomeState). Leaves {T = Next} h.txs.node (Err c.in-Err.fault) (access_calls true (asked c.args.a.now) h) (told_by (g.S.Storage.pages c.args.s.now) (g.S.Storage.logs c.args.s.now) (g.S.Storage.stops c.args.s.now)) (told_by (g.S.Storage.pages c.access.new.s) (g.S.Storage.logs c.access.new.s) (g.S.Storage.stops c.access.new.s))) base c.in-Err.ensures.made in
    step_leaves Next (Unit {0}) c.args.parts.now.home.txs.node (access_calls true (asked c.args.a.now) c.args.parts.now.home) (told_by (g.S.Storage.pages c.args.s.now) (g.S.Storage.logs c.args.s.now) (g.S.Storage.stops c.args.s.now)) (told_by (g.S.Storage.pages c.access.new.s) (g.S.Storage.logs c.access.new.s) (g.S.Storage.stops c.access.new.s)) (access_writes (asked c.args.a.now) true c.args.parts.now.home) c.in-Err.fault c.halt.result c.halt.ensures left

pub returns-in-Err-clause-parts : goal.returns-in-Err-clause-parts
returns-in-Err-clause-parts g c =
    let v : PartsView = the_view c.parts.inside in
    let node : node_of v ≡ node_of c.args.parts.now = ap node_of c.parts.view_is ∙ c.in_ok-stock.ensures.node in
    let base : v.home ≡ c.args.parts.now.home = ap (λ (n : NodeState). n.home) node in
    let had : HasMade c.args.a.now.page v = subst (HasMade c.args.a.now.page) (sym c.parts.view_is) c.in_ok-stock.ensures.made in
    let keeps : SameNode v.home c.access.new.self = after_same c.access.result v.home _ c.access.new.self c.access.ensures.home (access_same (asked c.args.a.now) true v.home) in
    given_parts v c.access.new.self keeps c.args.a.now.page c.give_up.new.self had c.give_up.ensures.tables c.give_up.ensures.config (c.give_up.ensures.tidy [] had.tidy)

pub returns-in-Err-clause-same : goal.returns-in-Err-clause-same
returns-in-Err-clause-same g c =
    let v : PartsView = the_view c.parts.inside in
    let node : node_of v ≡ node_of c.args.parts.now = ap node_of c.parts.view_is ∙ c.in_ok-stock.ensures.node in
    let base : v.home ≡ c.args.parts.now.home = ap (λ (n : NodeState). n.home) node in
    let had : HasMade c.args.a.now.page v = subst (HasMade c.args.a.now.page) (sym c.parts.view_is) c.in_ok-stock.ensures.made in
    let keeps : SameNode v.home c.access.new.self = after_same c.access.result v.home _ c.access.new.self c.access.ensures.home (access_same (asked c.args.a.now) true v.home) in
    subst (λ (h : HomeState). SameNode h c.access.new.self) base keeps

pub returns-in-Err-clause-fault : goal.returns-in-Err-clause-fault
returns-in-Err-clause-fault g c =
    let v : PartsView = the_view c.parts.inside in
    let node : node_of v ≡ node_of c.args.parts.now = ap node_of c.parts.view_is ∙ c.in_ok-stock.ensures.node in
    let base : v.home ≡ c.args.parts.now.home = ap (λ (n : NodeState). n.home) node in
    let had : HasMade c.args.a.now.page v = subst (HasMade c.args.a.now.page) (sym c.parts.view_is) c.in_ok-stock.ensures.made in
    let keeps : SameNode v.home c.access.new.self = after_same c.access.result v.home _ c.access.new.self c.access.ensures.home (access_same (asked c.args.a.now) true v.home) in
    let left : Leaves {T = Next} c.args.parts.now.home.txs.node (Err c.in-Err.fault) (access_calls true (asked c.args.a.now) c.args.parts.now.home) (told_by (g.S.Storage.pages c.args.s.now) (g.S.Storage.logs c.args.s.now) (g.S.Storage.stops c.args.s.now)) (told_by (g.S.Storage.pages c.access.new.s) (g.S.Storage.logs c.access.new.s) (g.S.Storage.stops c.access.new.s)) =
    subst (λ (h : HomeState). Leaves {T = Next} h.txs.node (Err c.in-Err.fault) (access_calls true (asked c.args.a.now) h) (told_by (g.S.Storage.pages c.args.s.now) (g.S.Storage.logs c.args.s.now) (g.S.Storage.stops c.args.s.now)) (told_by (g.S.Storage.pages c.access.new.s) (g.S.Storage.logs c.access.new.s) (g.S.Storage.stops c.access.new.s))) base c.in-Err.ensures.made in
    write_access c.halt.result (step_fault Next (Unit {0}) c.args.parts.now.home.txs.node (access_calls true (asked c.args.a.now) c.args.parts.now.home) (told_by (g.S.Storage.pages c.args.s.now) (g.S.Storage.logs c.args.s.now) (g.S.Storage.stops c.args.s.now)) (told_by (g.S.Storage.pages c.access.new.s) (g.S.Storage.logs c.access.new.s) (g.S.Storage.stops c.access.new.s)) (access_writes (asked c.args.a.now) true c.args.parts.now.home) c.in-Err.fault c.halt.result c.halt.ensures left)

pub returns-in-Err-clause-quiet : goal.returns-in-Err-clause-quiet
returns-in-Err-clause-quiet g c = λ l calm.
    let v : PartsView = the_view c.parts.inside in
    let node : node_of v ≡ node_of c.args.parts.now = ap node_of c.parts.view_is ∙ c.in_ok-stock.ensures.node in
    let base : v.home ≡ c.args.parts.now.home = ap (λ (n : NodeState). n.home) node in
    let had : HasMade c.args.a.now.page v = subst (HasMade c.args.a.now.page) (sym c.parts.view_is) c.in_ok-stock.ensures.made in
    let keeps : SameNode v.home c.access.new.self = after_same c.access.result v.home _ c.access.new.self c.access.ensures.home (access_same (asked c.args.a.now) true v.home) in
    let left : Leaves {T = Next} c.args.parts.now.home.txs.node (Err c.in-Err.fault) (access_calls true (asked c.args.a.now) c.args.parts.now.home) (told_by (g.S.Storage.pages c.args.s.now) (g.S.Storage.logs c.args.s.now) (g.S.Storage.stops c.args.s.now)) (told_by (g.S.Storage.pages c.access.new.s) (g.S.Storage.logs c.access.new.s) (g.S.Storage.stops c.access.new.s)) =
    subst (λ (h : HomeState). Leaves {T = Next} h.txs.node (Err c.in-Err.fault) (access_calls true (asked c.args.a.now) h) (told_by (g.S.Storage.pages c.args.s.now) (g.S.Storage.logs c.args.s.now) (g.S.Storage.stops c.args.s.now)) (told_by (g.S.Storage.pages c.access.new.s) (g.S.Storage.logs c.access.new.s) (g.S.Storage.stops c.access.new.s))) base c.in-Err.ensures.made in
    write_quiet (Unit {0}) c.halt.result (step_fault Next (Unit {0}) c.args.parts.now.home.txs.node (access_calls true (asked c.args.a.now) c.args.parts.now.home) (told_by (g.S.Storage.pages c.args.s.now) (g.S.Storage.logs c.args.s.now) (g.S.Storage.stops c.args.s.now)) (told_by (g.S.Storage.pages c.access.new.s) (g.S.Storage.logs c.access.new.s) (g.S.Storage.stops c.access.new.s)) (access_writes (asked c.args.a.now) true c.args.parts.now.home) c.in-Err.fault c.halt.result c.halt.ensures left)

pub returns-in-Err-clause-cause : goal.returns-in-Err-clause-cause
returns-in-Err-clause-cause g c = λ k halted.
    let failed = halted_failed Next (Unit {0}) c.in-Err.fault c.halt.result k c.halt.ensures halted in
    c.in-Err.ensures.cause k failed.0 failed.1

pub enter_planned-requires-clause-made : goal.enter_planned-requires-clause-made
enter_planned-requires-clause-made g c =
    let v : PartsView = the_view c.parts.inside in
    let node : node_of v ≡ node_of c.args.parts.now = ap node_of c.parts.view_is ∙ c.in_ok-stock.ensures.node in
    let base : v.home ≡ c.args.parts.now.home = ap (λ (n : NodeState). n.home) node in
    let had : HasMade c.args.a.now.page v = subst (HasMade c.args.a.now.page) (sym c.parts.view_is) c.in_ok-stock.ensures.made in
    let keeps : SameNode v.home c.access.new.self = after_same c.access.result v.home _ c.access.new.self c.access.ensures.home (access_same (asked c.args.a.now) true v.home) in
    home_made v c.access.new.self keeps c.args.a.now.page had

pub enter_planned-requires-clause-page : goal.enter_planned-requires-clause-page
enter_planned-requires-clause-page g c =
    let v : PartsView = the_view c.parts.inside in
    let node : node_of v ≡ node_of c.args.parts.now = ap node_of c.parts.view_is ∙ c.in_ok-stock.ensures.node in
    let base : v.home ≡ c.args.parts.now.home = ap (λ (n : NodeState). n.home) node in
    let had : HasMade c.args.a.now.page v = subst (HasMade c.args.a.now.page) (sym c.parts.view_is) c.in_ok-stock.ensures.made in
    let keeps : SameNode v.home c.access.new.self = after_same c.access.result v.home _ c.access.new.self c.access.ensures.home (access_same (asked c.args.a.now) true v.home) in
    subst (λ (k : Sizes). c.args.a.now.page < k.pages) (sym (keeps.config ∙ ap (λ (h : HomeState). h.config) base)) (allowed (asked c.args.a.now) c.args.parts.now.home c.requires.none).page

pub enter_planned-requires-clause-sizes : goal.enter_planned-requires-clause-sizes
enter_planned-requires-clause-sizes g c =
    let v : PartsView = the_view c.parts.inside in
    let node : node_of v ≡ node_of c.args.parts.now = ap node_of c.parts.view_is ∙ c.in_ok-stock.ensures.node in
    let base : v.home ≡ c.args.parts.now.home = ap (λ (n : NodeState). n.home) node in
    let had : HasMade c.args.a.now.page v = subst (HasMade c.args.a.now.page) (sym c.parts.view_is) c.in_ok-stock.ensures.made in
    let keeps : SameNode v.home c.access.new.self = after_same c.access.result v.home _ c.access.new.self c.access.ensures.home (access_same (asked c.args.a.now) true v.home) in
    subst (λ (k : Sizes). HasSizes k (g.S.Storage.pages c.access.new.s) (g.S.Storage.logs c.access.new.s) (g.S.Storage.rooms c.access.new.s)) (sym keeps.config) c.access.ensures.sizes

pub enter_planned-requires-clause-size : goal.enter_planned-requires-clause-size
enter_planned-requires-clause-size g c =
    let v : PartsView = the_view c.parts.inside in
    let node : node_of v ≡ node_of c.args.parts.now = ap node_of c.parts.view_is ∙ c.in_ok-stock.ensures.node in
    let base : v.home ≡ c.args.parts.now.home = ap (λ (n : NodeState). n.home) node in
    let had : HasMade c.args.a.now.page v = subst (HasMade c.args.a.now.page) (sym c.parts.view_is) c.in_ok-stock.ensures.made in
    let keeps : SameNode v.home c.access.new.self = after_same c.access.result v.home _ c.access.new.self c.access.ensures.home (access_same (asked c.args.a.now) true v.home) in
    let same : c.access.new.self.config.size ≡ c.in_ok-stock.stock.size = ap (λ (k : Sizes). k.size) (keeps.config ∙ ap (λ (h : HomeState). h.config) base) ∙ sym c.in_ok-stock.ensures.size in
    omega (arith, same)

pub returns-in_err-enter_planned-in-Ok-AskOwn-clause-comes : goal.returns-in_err-enter_planned-in-Ok-AskOwn-clause-comes
returns-in_err-enter_planned-in-Ok-AskOwn-clause-comes g c = λ ps cs told.
    let v : PartsView = the_view c.parts.inside in
    let node : node_of v ≡ node_of c.args.parts.now = ap node_of c.parts.view_is ∙ c.in_ok-stock.ensures.node in
    let base : v.home ≡ c.args.parts.now.home = ap (λ (n : NodeState). n.home) node in
    let had : HasMade c.args.a.now.page v = subst (HasMade c.args.a.now.page) (sym c.parts.view_is) c.in_ok-stock.ensures.made in
    let keeps : SameNode v.home c.access.new.self = after_same c.access.result v.home _ c.access.new.self c.access.ensures.home (access_same (asked c.args.a.now) true v.home) in
    let made : Made c.args.parts.now.home.txs.node (access_calls true (asked c.args.a.now) c.args.parts.now.home) (told_by (g.S.Storage.pages c.args.s.now) (g.S.Storage.logs c.args.s.now) (g.S.Storage.stops c.args.s.now)) None (told_by (g.S.Storage.pages c.access.new.s) (g.S.Storage.logs c.access.new.s) (g.S.Storage.stops c.access.new.s)) =
    subst (λ (h : HomeState). Made h.txs.node (access_calls true (asked c.args.a.now) h) (told_by (g.S.Storage.pages c.args.s.now) (g.S.Storage.logs c.args.s.now) (g.S.Storage.stops c.args.s.now)) None (told_by (g.S.Storage.pages c.access.new.s) (g.S.Storage.logs c.access.new.s) (g.S.Storage.stops c.access.new.s))) base c.in-Ok-AskOwn.ensures.made in
    let homed : c.access.new.self ≡ (access (asked c.args.a.now) true (work_on c.args.parts.now.home)).work.home = c.in-Ok-AskOwn.ensures.home ∙ ap (λ h. (access (asked c.args.a.now) true (work_on h)).work.home) base in
    let is : c.from_residual-in_err-enter_planned-in-Ok-AskOwn.result ≡ Err c.in_err-enter_planned-in-Ok-AskOwn.field-0.0 = search rules in
    comes_as c.from_residual-in_err-enter_planned-in-Ok-AskOwn.result (Err c.in_err-enter_planned-in-Ok-AskOwn.field-0.0) _ _ is
    (planned_failed v (node_of c.args.parts.now) node (asked c.args.a.now) c.args.planned c.access.new.self ps cs c.args.out.now c.prepare.new.out c.in_ok-stock.ensures.replies c.in_ok-stock.ensures.sends homed
    c.requires.home c.requires.free c.requires.none c.requires.own (subst (λ m. IsPlanFor (table_of (node_of c.args.parts.now) c.args.a.now.page) (planned_request (asked c.args.a.now) m c.args.parts.now.home) (Some c.args.planned)) c.requires.parts.number c.requires.plan) (Unit {0}) c.in_err-enter_planned-in-Ok-AskOwn.field-0.0 _ _
    (λ t there. c.in_err-enter_planned-in-Ok-AskOwn.ensures.comes t _ _ there (made_pages c.args.parts.now.home.txs.node _ (told_by (g.S.Storage.pages c.args.s.now) (g.S.Storage.logs c.args.s.now) (g.S.Storage.stops c.args.s.now)) (told_by (g.S.Storage.pages c.access.new.s) (g.S.Storage.logs c.access.new.s) (g.S.Storage.stops c.access.new.s)) ps (access_writes (asked c.args.a.now) true c.args.parts.now.home) made told)))

pub returns-in_err-enter_planned-in-Ok-AskOwn-clause-same : goal.returns-in_err-enter_planned-in-Ok-AskOwn-clause-same
returns-in_err-enter_planned-in-Ok-AskOwn-clause-same g c =
    let v : PartsView = the_view c.parts.inside in
    let node : node_of v ≡ node_of c.args.parts.now = ap node_of c.parts.view_is ∙ c.in_ok-stock.ensures.node in
    let base : v.home ≡ c.args.parts.now.home = ap (λ (n : NodeState). n.home) node in
    let had : HasMade c.args.a.now.page v = subst (HasMade c.args.a.now.page) (sym c.parts.view_is) c.in_ok-stock.ensures.made in
    let keeps : SameNode v.home c.access.new.self = after_same c.access.result v.home _ c.access.new.self c.access.ensures.home (access_same (asked c.args.a.now) true v.home) in
    subst (λ (h : HomeState). SameNode h c.enter_planned.new.parts.home) base (same_then v.home c.access.new.self c.enter_planned.new.parts.home keeps c.enter_planned.ensures.same)

pub returns-in_ok-enter_planned-in-Ok-AskOwn-clause-comes : goal.returns-in_ok-enter_planned-in-Ok-AskOwn-clause-comes
returns-in_ok-enter_planned-in-Ok-AskOwn-clause-comes g c = λ ps cs told.
    let v : PartsView = the_view c.parts.inside in
    let node : node_of v ≡ node_of c.args.parts.now = ap node_of c.parts.view_is ∙ c.in_ok-stock.ensures.node in
    let base : v.home ≡ c.args.parts.now.home = ap (λ (n : NodeState). n.home) node in
    let had : HasMade c.args.a.now.page v = subst (HasMade c.args.a.now.page) (sym c.parts.view_is) c.in_ok-stock.ensures.made in
    let keeps : SameNode v.home c.access.new.self = after_same c.access.result v.home _ c.access.new.self c.access.ensures.home (access_same (asked c.args.a.now) true v.home) in
    let made : Made c.args.parts.now.home.txs.node (access_calls true (asked c.args.a.now) c.args.parts.now.home) (told_by (g.S.Storage.pages c.args.s.now) (g.S.Storage.logs c.args.s.now) (g.S.Storage.stops c.args.s.now)) None (told_by (g.S.Storage.pages c.access.new.s) (g.S.Storage.logs c.access.new.s) (g.S.Storage.stops c.access.new.s)) =
    subst (λ (h : HomeState). Made h.txs.node (access_calls true (asked c.args.a.now) h) (told_by (g.S.Storage.pages c.args.s.now) (g.S.Storage.logs c.args.s.now) (g.S.Storage.stops c.args.s.now)) None (told_by (g.S.Storage.pages c.access.new.s) (g.S.Storage.logs c.access.new.s) (g.S.Storage.stops c.access.new.s))) base c.in-Ok-AskOwn.ensures.made in
    let homed : c.access.new.self ≡ (access (asked c.args.a.now) true (work_on c.args.parts.now.home)).work.home = c.in-Ok-AskOwn.ensures.home ∙ ap (λ h. (access (asked c.args.a.now) true (work_on h)).work.home) base in
    planned_done v (node_of c.args.parts.now) node (asked c.args.a.now) c.args.planned c.access.new.self ps cs c.args.out.now c.prepare.new.out c.in_ok-stock.ensures.replies c.in_ok-stock.ensures.sends homed
    c.requires.home c.requires.free c.requires.none c.requires.own (subst (λ m. IsPlanFor (table_of (node_of c.args.parts.now) c.args.a.now.page) (planned_request (asked c.args.a.now) m c.args.parts.now.home) (Some c.args.planned)) c.requires.parts.number c.requires.plan) (tt {0}) (work_of (node_of c.enter_planned.new.parts) (after_calls ps (access_calls true (asked c.args.a.now) c.args.parts.now.home)) (cs ++ access_calls true (asked c.args.a.now) c.args.parts.now.home) c.enter_planned.new.out) _
    (λ t there. c.in_ok-enter_planned-in-Ok-AskOwn.ensures.comes t _ _ there (made_pages c.args.parts.now.home.txs.node _ (told_by (g.S.Storage.pages c.args.s.now) (g.S.Storage.logs c.args.s.now) (g.S.Storage.stops c.args.s.now)) (told_by (g.S.Storage.pages c.access.new.s) (g.S.Storage.logs c.access.new.s) (g.S.Storage.stops c.access.new.s)) ps (access_writes (asked c.args.a.now) true c.args.parts.now.home) made told))
    (told_first c.args.a.now.tx c.args.a.now.page (node_of c.enter_planned.new.parts) _ _ c.enter_planned.new.out c.tell_waiting.new.out c.tell_waiting.ensures.replies c.tell_waiting.ensures.sends)

pub returns-in_ok-enter_planned-in-Ok-AskOwn-clause-same : goal.returns-in_ok-enter_planned-in-Ok-AskOwn-clause-same
returns-in_ok-enter_planned-in-Ok-AskOwn-clause-same g c =
    let v : PartsView = the_view c.parts.inside in
    let node : node_of v ≡ node_of c.args.parts.now = ap node_of c.parts.view_is ∙ c.in_ok-stock.ensures.node in
    let base : v.home ≡ c.args.parts.now.home = ap (λ (n : NodeState). n.home) node in
    let had : HasMade c.args.a.now.page v = subst (HasMade c.args.a.now.page) (sym c.parts.view_is) c.in_ok-stock.ensures.made in
    let keeps : SameNode v.home c.access.new.self = after_same c.access.result v.home _ c.access.new.self c.access.ensures.home (access_same (asked c.args.a.now) true v.home) in
    subst (λ (h : HomeState). SameNode h c.enter_planned.new.parts.home) base (same_then v.home c.access.new.self c.enter_planned.new.parts.home keeps c.enter_planned.ensures.same)

pub unreachable-requires : goal.unreachable-requires
unreachable-requires g c =
    let v : PartsView = the_view c.parts.inside in
    let node : node_of v ≡ node_of c.args.parts.now = ap node_of c.parts.view_is ∙ c.in_ok-stock.ensures.node in
    let base : v.home ≡ c.args.parts.now.home = ap (λ (n : NodeState). n.home) node in
    let had : HasMade c.args.a.now.page v = subst (HasMade c.args.a.now.page) (sym c.parts.view_is) c.in_ok-stock.ensures.made in
    let keeps : SameNode v.home c.access.new.self = after_same c.access.result v.home _ c.access.new.self c.access.ensures.home (access_same (asked c.args.a.now) true v.home) in
    false_true
    (ap IsOwnNext (ap next_as (sym c.in-Ok-Now.field-0-is) ∙ c.in-Ok-Now.ensures.next ∙ ap (λ h. (access (asked c.args.a.now) true (work_on h)).next) base)
    ∙ is_own (asked c.args.a.now) c.args.parts.now.home c.requires.home c.requires.free c.requires.none)

pub unreachable-requires-in-Ok-Send : goal.unreachable-requires-in-Ok-Send
unreachable-requires-in-Ok-Send g c =
    let v : PartsView = the_view c.parts.inside in
    let node : node_of v ≡ node_of c.args.parts.now = ap node_of c.parts.view_is ∙ c.in_ok-stock.ensures.node in
    let base : v.home ≡ c.args.parts.now.home = ap (λ (n : NodeState). n.home) node in
    let had : HasMade c.args.a.now.page v = subst (HasMade c.args.a.now.page) (sym c.parts.view_is) c.in_ok-stock.ensures.made in
    let keeps : SameNode v.home c.access.new.self = after_same c.access.result v.home _ c.access.new.self c.access.ensures.home (access_same (asked c.args.a.now) true v.home) in
    false_true
    (ap IsOwnNext (ap next_as (sym c.in-Ok-Send.field-0-is) ∙ c.in-Ok-Send.ensures.next ∙ ap (λ h. (access (asked c.args.a.now) true (work_on h)).next) base)
    ∙ is_own (asked c.args.a.now) c.args.parts.now.home c.requires.home c.requires.free c.requires.none)
