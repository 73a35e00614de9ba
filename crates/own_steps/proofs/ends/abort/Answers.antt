use Rattle.std.proofs.Common.{◌≡◌, ◌<◌, false, List, is_some, ap, sym, subst, ◌∙◌, arith}
use Rattle.std.specs.List.{AllByRecursion}
use Rattle.pcl_base.specs.Limits.{Sizes}
use Rattle.pcl_base.specs.declared.reply.Reply.TheVariants.{Aborted as aborted}
use Rattle.disk_model.specs.Disk.{HasSizes}
use Rattle.home_laws.specs.Homes.{IsHome}
use Rattle.node_rules.specs.EndRule.{abort}
use Rattle.node_rules.specs.NodeState.{HomeState, NodeState}
use Rattle.node_rules.specs.OwnerRule.{clean_unserved, tell_end}
use Rattle.node_rules.specs.Work.{for_each, reply}
use Rattle.home.specs.Device.{work_on}
use Rattle.node_parts.specs.Comes.{Comes, work_of}
use Rattle.node_parts.specs.State.{PartsView, node_of}
use Rattle.node_parts.specs.contracts.parts.Parts.{the_view}
use Rattle.page_owner.specs.Carry.{SameNode}
use Rattle.page_owner.specs.Planned.{ArePartsBut}
use Rattle.page_owner.proofs.Planned.{same_then}
use Rattle.own_steps.specs.Ends.{AwaitsEnds, dues, pages_in}
use Rattle.own_steps.specs.declared.page_end.PageEnd.{PageEnd}
use Rattle.own_steps.proofs.EndRules.{abort_due_ends, abort_same, abort_told, ended_as, same_as}
use Rattle.own_steps.proofs.EndsReady.{plans_below}
use Rattle.own_steps.proofs.EndsTold.{awaits_but, awaits_home}
use Rattle.own_steps.proofs.Refusing.{abort_view}
use Rattle.own_steps.proofs.ends.abort.Goals as goal

pub give_up_rooms-requires-clause-parts : goal.give_up_rooms-requires-clause-parts
give_up_rooms-requires-clause-parts g c =
    let v : PartsView = the_view c.parts.inside in
    let node : node_of v ≡ node_of c.args.parts.now = ap node_of c.parts.view_is ∙ c.in_ok-plans.ensures.node in
    let base : v.home ≡ c.args.parts.now.home = ap (λ (n : NodeState). n.home) node in
    let xs : List PageEnd = c.in_ok-plans.plans.items in
    let awaits : AwaitsEnds v c.args.tx (dues false v.home c.args.tx) xs =
    subst (λ (h : HomeState). AwaitsEnds v c.args.tx (dues false h c.args.tx) xs) (sym base) (subst (λ z. AwaitsEnds z c.args.tx (dues false c.args.parts.now.home c.args.tx) xs) (sym c.parts.view_is) c.in_ok-plans.ensures.awaits) in
    let same : SameNode v.home c.abort.new.self = same_as v.home c.abort.new.self c.in-Err.ensures.err in
    let later : AwaitsEnds (record v { home = c.abort.new.self }) c.args.tx (dues false v.home c.args.tx) xs = awaits_home v c.abort.new.self c.args.tx (dues false v.home c.args.tx) xs same awaits in
    subst (λ l. ArePartsBut (pages_in l) (record v { home = c.abort.new.self })) (sym c.into_iter.ensures.rest) (awaits_but (record v { home = c.abort.new.self }) c.args.tx (dues false v.home c.args.tx) xs later)

pub give_up_rooms-requires-clause-below : goal.give_up_rooms-requires-clause-below
give_up_rooms-requires-clause-below g c =
    let v : PartsView = the_view c.parts.inside in
    let node : node_of v ≡ node_of c.args.parts.now = ap node_of c.parts.view_is ∙ c.in_ok-plans.ensures.node in
    let base : v.home ≡ c.args.parts.now.home = ap (λ (n : NodeState). n.home) node in
    let xs : List PageEnd = c.in_ok-plans.plans.items in
    let awaits : AwaitsEnds v c.args.tx (dues false v.home c.args.tx) xs =
    subst (λ (h : HomeState). AwaitsEnds v c.args.tx (dues false h c.args.tx) xs) (sym base) (subst (λ z. AwaitsEnds z c.args.tx (dues false c.args.parts.now.home c.args.tx) xs) (sym c.parts.view_is) c.in_ok-plans.ensures.awaits) in
    let same : SameNode v.home c.abort.new.self = same_as v.home c.abort.new.self c.in-Err.ensures.err in
    let later : AwaitsEnds (record v { home = c.abort.new.self }) c.args.tx (dues false v.home c.args.tx) xs = awaits_home v c.abort.new.self c.args.tx (dues false v.home c.args.tx) xs same awaits in
    subst (AllByRecursion (λ x. x.page < c.abort.new.self.config.pages)) (sym c.into_iter.ensures.rest)
    (plans_below (node_of (record v { home = c.abort.new.self })) v.me c.args.tx c.abort.new.self.config (dues false v.home c.args.tx) xs later.plans later.below)

pub tell_all-requires-clause-awaits : goal.tell_all-requires-clause-awaits
tell_all-requires-clause-awaits g c =
    let v : PartsView = the_view c.parts.inside in
    let node : node_of v ≡ node_of c.args.parts.now = ap node_of c.parts.view_is ∙ c.in_ok-plans.ensures.node in
    let base : v.home ≡ c.args.parts.now.home = ap (λ (n : NodeState). n.home) node in
    let xs : List PageEnd = c.in_ok-plans.plans.items in
    let awaits : AwaitsEnds v c.args.tx (dues false v.home c.args.tx) xs =
    subst (λ (h : HomeState). AwaitsEnds v c.args.tx (dues false h c.args.tx) xs) (sym base) (subst (λ z. AwaitsEnds z c.args.tx (dues false c.args.parts.now.home c.args.tx) xs) (sym c.parts.view_is) c.in_ok-plans.ensures.awaits) in
    let home : IsHome v.home = subst IsHome (sym base) c.in_ok-plans.ensures.home in
    let same : SameNode v.home c.abort.new.self = subst (SameNode v.home) (sym c.in-Ok.ensures.home) (abort_same c.args.tx v.home) in
    subst (λ l. AwaitsEnds (record v { home = c.abort.new.self }) c.args.tx l xs) (sym (abort_due_ends c.args.tx v.home c.in-Ok.ends.items home c.in-Ok.ensures.endings))
    (awaits_home v c.abort.new.self c.args.tx (dues false v.home c.args.tx) xs same awaits)

pub tell_all-requires-clause-view : goal.tell_all-requires-clause-view
tell_all-requires-clause-view g c =
    ap is_some (ap (λ (z : PartsView). z.view) c.parts.view_is ∙ c.in_ok-plans.ensures.view.view) ∙ abort_view (node_of c.args.parts.now) c.args.tx c.requires.none

pub tell_all-requires-clause-size : goal.tell_all-requires-clause-size
tell_all-requires-clause-size g c =
    let v : PartsView = the_view c.parts.inside in
    let node : node_of v ≡ node_of c.args.parts.now = ap node_of c.parts.view_is ∙ c.in_ok-plans.ensures.node in
    let base : v.home ≡ c.args.parts.now.home = ap (λ (n : NodeState). n.home) node in
    let xs : List PageEnd = c.in_ok-plans.plans.items in
    let awaits : AwaitsEnds v c.args.tx (dues false v.home c.args.tx) xs =
    subst (λ (h : HomeState). AwaitsEnds v c.args.tx (dues false h c.args.tx) xs) (sym base) (subst (λ z. AwaitsEnds z c.args.tx (dues false c.args.parts.now.home c.args.tx) xs) (sym c.parts.view_is) c.in_ok-plans.ensures.awaits) in
    let home : IsHome v.home = subst IsHome (sym base) c.in_ok-plans.ensures.home in
    let same : SameNode v.home c.abort.new.self = subst (SameNode v.home) (sym c.in-Ok.ensures.home) (abort_same c.args.tx v.home) in
    let is : c.abort.new.self.config.size ≡ c.in_ok-plans.stock.size = ap (λ (k : Sizes). k.size) (same.config ∙ ap (λ (h : HomeState). h.config) base) ∙ sym c.in_ok-plans.ensures.size in
    omega (arith, is)

pub tell_all-requires-clause-sizes : goal.tell_all-requires-clause-sizes
tell_all-requires-clause-sizes g c =
    let v : PartsView = the_view c.parts.inside in
    let node : node_of v ≡ node_of c.args.parts.now = ap node_of c.parts.view_is ∙ c.in_ok-plans.ensures.node in
    let base : v.home ≡ c.args.parts.now.home = ap (λ (n : NodeState). n.home) node in
    let xs : List PageEnd = c.in_ok-plans.plans.items in
    let awaits : AwaitsEnds v c.args.tx (dues false v.home c.args.tx) xs =
    subst (λ (h : HomeState). AwaitsEnds v c.args.tx (dues false h c.args.tx) xs) (sym base) (subst (λ z. AwaitsEnds z c.args.tx (dues false c.args.parts.now.home c.args.tx) xs) (sym c.parts.view_is) c.in_ok-plans.ensures.awaits) in
    let home : IsHome v.home = subst IsHome (sym base) c.in_ok-plans.ensures.home in
    let same : SameNode v.home c.abort.new.self = subst (SameNode v.home) (sym c.in-Ok.ensures.home) (abort_same c.args.tx v.home) in
    subst (λ (k : Sizes). HasSizes k (g.S.Storage.pages c.args.s.now) (g.S.Storage.logs c.args.s.now) (g.S.Storage.rooms c.args.s.now)) (sym (same.config ∙ ap (λ (h : HomeState). h.config) base)) c.requires.sizes

pub returns-in-Ok-clause-comes : goal.returns-in-Ok-clause-comes
returns-in-Ok-clause-comes g c = λ ps cs told.
    let v : PartsView = the_view c.parts.inside in
    let node : node_of v ≡ node_of c.args.parts.now = ap node_of c.parts.view_is ∙ c.in_ok-plans.ensures.node in
    let base : v.home ≡ c.args.parts.now.home = ap (λ (n : NodeState). n.home) node in
    let xs : List PageEnd = c.in_ok-plans.plans.items in
    let awaits : AwaitsEnds v c.args.tx (dues false v.home c.args.tx) xs =
    subst (λ (h : HomeState). AwaitsEnds v c.args.tx (dues false h c.args.tx) xs) (sym base) (subst (λ z. AwaitsEnds z c.args.tx (dues false c.args.parts.now.home c.args.tx) xs) (sym c.parts.view_is) c.in_ok-plans.ensures.awaits) in
    let n : NodeState = node_of c.args.parts.now in
    let endings = c.in-Ok.ensures.endings ∙ ap (λ h. (abort c.args.tx (work_on h)).endings) base in
    let homed = c.in-Ok.ensures.home ∙ ap (λ h. (abort c.args.tx (work_on h)).work.home) base in
    subst (λ o. Comes o c.tell_all.result (work_of (node_of c.tell_all.new.parts) ps cs c.tell_all.new.out))
    (ap (λ w. for_each (tell_end c.args.tx) c.in-Ok.ends.items (reply (aborted c.args.tx) (clean_unserved c.in-Ok.ends.items w)))
    (ended_as v n c.abort.new.self ps cs c.prepare_ends.new.out c.args.out.now node c.in_ok-plans.ensures.replies c.in_ok-plans.ensures.sends)
    ∙ sym (abort_told c.args.tx n ps cs c.args.out.now (aborted c.args.tx) c.abort.new.self c.in-Ok.ends.items endings homed))
    (c.tell_all.ensures.comes ps cs told)

pub returns-in-Ok-clause-same : goal.returns-in-Ok-clause-same
returns-in-Ok-clause-same g c =
    let v : PartsView = the_view c.parts.inside in
    let node : node_of v ≡ node_of c.args.parts.now = ap node_of c.parts.view_is ∙ c.in_ok-plans.ensures.node in
    let base : v.home ≡ c.args.parts.now.home = ap (λ (n : NodeState). n.home) node in
    let xs : List PageEnd = c.in_ok-plans.plans.items in
    let awaits : AwaitsEnds v c.args.tx (dues false v.home c.args.tx) xs =
    subst (λ (h : HomeState). AwaitsEnds v c.args.tx (dues false h c.args.tx) xs) (sym base) (subst (λ z. AwaitsEnds z c.args.tx (dues false c.args.parts.now.home c.args.tx) xs) (sym c.parts.view_is) c.in_ok-plans.ensures.awaits) in
    let home : IsHome v.home = subst IsHome (sym base) c.in_ok-plans.ensures.home in
    let same : SameNode v.home c.abort.new.self = subst (SameNode v.home) (sym c.in-Ok.ensures.home) (abort_same c.args.tx v.home) in
    subst (λ (h : HomeState). SameNode h c.tell_all.new.parts.home) base (same_then v.home c.abort.new.self c.tell_all.new.parts.home same c.tell_all.ensures.same)
