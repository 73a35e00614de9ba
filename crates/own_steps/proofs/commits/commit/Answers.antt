use Rattle.std.proofs.Common.{◌≡◌, ◌<◌, ◌++◌, true, List, None, is_some, map, ap, sym, subst, ◌∙◌, arith}
use Rattle.std.specs.List.{AllByRecursion}
use Rattle.pcl_base.specs.Limits.{Sizes}
use Rattle.pcl_base.specs.declared.reply.Reply.TheVariants.{Committed as committed}
use Rattle.pcl_base.specs.declared.trace.Call.TheVariants as call
use Rattle.disk_model.specs.Disk.{HasSizes}
use Rattle.redo_log.specs.Told.{NoneFails}
use Rattle.home_laws.specs.Homes.{IsHome}
use Rattle.home_laws.specs.RefusedEnds.{commit_refusal}
use Rattle.home.specs.Commits.{Unasked, commit_calls, told}
use Rattle.home.specs.Device.{Made, told_by, work_on}
use Rattle.node_rules.specs.EndRule.{commit}
use Rattle.node_rules.specs.NodeState.{HomeState, NodeState}
use Rattle.node_rules.specs.OpenTxs.{pending_of}
use Rattle.node_rules.specs.OwnerRule.{clean_unserved, tell_end}
use Rattle.node_rules.specs.Work.{for_each, reply}
use Rattle.node_parts.specs.Comes.{Comes, work_of}
use Rattle.node_parts.specs.State.{PartsView, node_of}
use Rattle.node_parts.specs.contracts.parts.Parts.{the_view}
use Rattle.page_owner.specs.Carry.{SameNode}
use Rattle.page_owner.specs.Planned.{ArePartsBut}
use Rattle.page_owner.proofs.Planned.{same_then}
use Rattle.own_steps.specs.Ends.{AwaitsEnds, dues, pages_in}
use Rattle.own_steps.specs.Forced.{LeavesRecord, NamesKept}
use Rattle.own_steps.specs.declared.page_end.PageEnd.{PageEnd}
use Rattle.own_steps.proofs.Accessing.{entered_leaves}
use Rattle.own_steps.proofs.Committed.{force_commit, force_unread, halted_err, leaves_home, told_fault, told_names, told_quiet, told_record}
use Rattle.own_steps.proofs.EndRules.{commit_due_ends, commit_same, commit_told, ended_as, same_as}
use Rattle.own_steps.proofs.EndsReady.{plans_below}
use Rattle.own_steps.proofs.EndsTold.{awaits_but, awaits_home}
use Rattle.own_steps.proofs.Refusing.{commit_allowed, commit_idle, commit_last, commit_view}
use Rattle.own_steps.proofs.commits.commit.Goals as goal

pub prepare_ends-requires-clause-idle : goal.prepare_ends-requires-clause-idle
prepare_ends-requires-clause-idle g c =
    λ e. commit_idle (node_of c.args.parts.now) c.args.tx c.requires.none

pub prepare_ends-requires-clause-last : goal.prepare_ends-requires-clause-last
prepare_ends-requires-clause-last g c =
    λ e. commit_last (node_of c.args.parts.now) c.args.tx c.requires.none

pub commit_home-requires-clause-none : goal.commit_home-requires-clause-none
commit_home-requires-clause-none g c =
    let v : PartsView = the_view c.parts.inside in
    let node : node_of v ≡ node_of c.args.parts.now = ap node_of c.parts.view_is ∙ c.in_ok-plans.ensures.node in
    let base : v.home ≡ c.args.parts.now.home = ap (λ (n : NodeState). n.home) node in
    subst (λ (h : HomeState). commit_refusal c.args.tx h ≡ None) (sym base) (commit_allowed (node_of c.args.parts.now) c.args.tx c.requires.none)

pub commit_home-requires-clause-node : goal.commit_home-requires-clause-node
commit_home-requires-clause-node g c =
    let v : PartsView = the_view c.parts.inside in
    let node : node_of v ≡ node_of c.args.parts.now = ap node_of c.parts.view_is ∙ c.in_ok-plans.ensures.node in
    let base : v.home ≡ c.args.parts.now.home = ap (λ (n : NodeState). n.home) node in
    subst (λ (h : HomeState). h.txs.node < h.config.nodes) (sym base) c.requires.parts.node.number

pub commit_home-requires-clause-sizes : goal.commit_home-requires-clause-sizes
commit_home-requires-clause-sizes g c =
    let v : PartsView = the_view c.parts.inside in
    let node : node_of v ≡ node_of c.args.parts.now = ap node_of c.parts.view_is ∙ c.in_ok-plans.ensures.node in
    let base : v.home ≡ c.args.parts.now.home = ap (λ (n : NodeState). n.home) node in
    subst (λ (h : HomeState). HasSizes h.config (g.S.Storage.pages c.args.s.now) (g.S.Storage.logs c.args.s.now) (g.S.Storage.rooms c.args.s.now)) (sym base) c.requires.sizes

pub give_up_rooms-requires-clause-parts : goal.give_up_rooms-requires-clause-parts
give_up_rooms-requires-clause-parts g c =
    let v : PartsView = the_view c.parts.inside in
    let node : node_of v ≡ node_of c.args.parts.now = ap node_of c.parts.view_is ∙ c.in_ok-plans.ensures.node in
    let base : v.home ≡ c.args.parts.now.home = ap (λ (n : NodeState). n.home) node in
    let xs : List PageEnd = c.in_ok-plans.plans.items in
    let awaits : AwaitsEnds v c.args.tx (dues true v.home c.args.tx) xs =
    subst (λ (h : HomeState). AwaitsEnds v c.args.tx (dues true h c.args.tx) xs) (sym base) (subst (λ z. AwaitsEnds z c.args.tx (dues true c.args.parts.now.home c.args.tx) xs) (sym c.parts.view_is) c.in_ok-plans.ensures.awaits) in
    let same : SameNode v.home c.commit_home.new.home = same_as v.home c.commit_home.new.home c.in-Err.ensures.err in
    let later : AwaitsEnds (record v { home = c.commit_home.new.home }) c.args.tx (dues true v.home c.args.tx) xs = awaits_home v c.commit_home.new.home c.args.tx (dues true v.home c.args.tx) xs same awaits in
    subst (λ l. ArePartsBut (pages_in l) (record v { home = c.commit_home.new.home })) (sym c.into_iter.ensures.rest) (awaits_but (record v { home = c.commit_home.new.home }) c.args.tx (dues true v.home c.args.tx) xs later)

pub give_up_rooms-requires-clause-below : goal.give_up_rooms-requires-clause-below
give_up_rooms-requires-clause-below g c =
    let v : PartsView = the_view c.parts.inside in
    let node : node_of v ≡ node_of c.args.parts.now = ap node_of c.parts.view_is ∙ c.in_ok-plans.ensures.node in
    let base : v.home ≡ c.args.parts.now.home = ap (λ (n : NodeState). n.home) node in
    let xs : List PageEnd = c.in_ok-plans.plans.items in
    let awaits : AwaitsEnds v c.args.tx (dues true v.home c.args.tx) xs =
    subst (λ (h : HomeState). AwaitsEnds v c.args.tx (dues true h c.args.tx) xs) (sym base) (subst (λ z. AwaitsEnds z c.args.tx (dues true c.args.parts.now.home c.args.tx) xs) (sym c.parts.view_is) c.in_ok-plans.ensures.awaits) in
    let same : SameNode v.home c.commit_home.new.home = same_as v.home c.commit_home.new.home c.in-Err.ensures.err in
    let later : AwaitsEnds (record v { home = c.commit_home.new.home }) c.args.tx (dues true v.home c.args.tx) xs = awaits_home v c.commit_home.new.home c.args.tx (dues true v.home c.args.tx) xs same awaits in
    subst (AllByRecursion (λ x. x.page < c.commit_home.new.home.config.pages)) (sym c.into_iter.ensures.rest)
    (plans_below (node_of (record v { home = c.commit_home.new.home })) v.me c.args.tx c.commit_home.new.home.config (dues true v.home c.args.tx) xs later.plans later.below)

pub tell_all-requires-clause-awaits : goal.tell_all-requires-clause-awaits
tell_all-requires-clause-awaits g c =
    let v : PartsView = the_view c.parts.inside in
    let node : node_of v ≡ node_of c.args.parts.now = ap node_of c.parts.view_is ∙ c.in_ok-plans.ensures.node in
    let base : v.home ≡ c.args.parts.now.home = ap (λ (n : NodeState). n.home) node in
    let xs : List PageEnd = c.in_ok-plans.plans.items in
    let awaits : AwaitsEnds v c.args.tx (dues true v.home c.args.tx) xs =
    subst (λ (h : HomeState). AwaitsEnds v c.args.tx (dues true h c.args.tx) xs) (sym base) (subst (λ z. AwaitsEnds z c.args.tx (dues true c.args.parts.now.home c.args.tx) xs) (sym c.parts.view_is) c.in_ok-plans.ensures.awaits) in
    let home : IsHome v.home = subst IsHome (sym base) c.in_ok-plans.ensures.home in
    let same : SameNode v.home c.commit_home.new.home = subst (SameNode v.home) (sym c.in-Ok.ensures.home) (commit_same c.args.tx v.home) in
    subst (λ l. AwaitsEnds (record v { home = c.commit_home.new.home }) c.args.tx l xs) (sym (commit_due_ends c.args.tx v.home c.in-Ok.ends.items home (subst (λ (h : HomeState). pending_of h.txs c.args.tx ≡ None) (sym base) (commit_idle (node_of c.args.parts.now) c.args.tx c.requires.none)) c.in-Ok.ensures.endings))
    (awaits_home v c.commit_home.new.home c.args.tx (dues true v.home c.args.tx) xs same awaits)

pub tell_all-requires-clause-view : goal.tell_all-requires-clause-view
tell_all-requires-clause-view g c =
    ap is_some (ap (λ (z : PartsView). z.view) c.parts.view_is ∙ c.in_ok-plans.ensures.view.view) ∙ commit_view (node_of c.args.parts.now) c.args.tx c.requires.none

pub tell_all-requires-clause-size : goal.tell_all-requires-clause-size
tell_all-requires-clause-size g c =
    let v : PartsView = the_view c.parts.inside in
    let node : node_of v ≡ node_of c.args.parts.now = ap node_of c.parts.view_is ∙ c.in_ok-plans.ensures.node in
    let base : v.home ≡ c.args.parts.now.home = ap (λ (n : NodeState). n.home) node in
    let same : SameNode v.home c.commit_home.new.home = subst (SameNode v.home) (sym c.in-Ok.ensures.home) (commit_same c.args.tx v.home) in
    let is : c.commit_home.new.home.config.size ≡ c.in_ok-plans.stock.size = ap (λ (k : Sizes). k.size) (same.config ∙ ap (λ (h : HomeState). h.config) base) ∙ sym c.in_ok-plans.ensures.size in
    omega (arith, is)

pub tell_all-requires-clause-sizes : goal.tell_all-requires-clause-sizes
tell_all-requires-clause-sizes g c =
    let v : PartsView = the_view c.parts.inside in
    let node : node_of v ≡ node_of c.args.parts.now = ap node_of c.parts.view_is ∙ c.in_ok-plans.ensures.node in
    let base : v.home ≡ c.args.parts.now.home = ap (λ (n : NodeState). n.home) node in
    let same : SameNode v.home c.commit_home.new.home = subst (SameNode v.home) (sym c.in-Ok.ensures.home) (commit_same c.args.tx v.home) in
    subst (λ (k : Sizes). HasSizes k (g.S.Storage.pages c.commit_home.new.s) (g.S.Storage.logs c.commit_home.new.s) (g.S.Storage.rooms c.commit_home.new.s)) (sym same.config) c.commit_home.ensures.sizes

pub returns-in-Ok-clause-comes : goal.returns-in-Ok-clause-comes
returns-in-Ok-clause-comes g c = λ ps cs is.
    let v : PartsView = the_view c.parts.inside in
    let node : node_of v ≡ node_of c.args.parts.now = ap node_of c.parts.view_is ∙ c.in_ok-plans.ensures.node in
    let base : v.home ≡ c.args.parts.now.home = ap (λ (n : NodeState). n.home) node in
    let n : NodeState = node_of c.args.parts.now in
    let calls = commit_calls c.args.parts.now.home c.args.tx in
    let endings = c.in-Ok.ensures.endings ∙ ap (λ h. map told (commit c.args.tx (work_on h)).endings) base in
    let homed = c.in-Ok.ensures.home ∙ ap (λ h. (commit c.args.tx (work_on h)).work.home) base in
    subst (λ o. Comes o c.tell_all.result (work_of (node_of c.tell_all.new.parts) ps (cs ++ calls) c.tell_all.new.out))
    (ap (λ w. for_each (tell_end c.args.tx) c.in-Ok.ends.items (reply (committed c.args.tx) (clean_unserved c.in-Ok.ends.items w)))
    (ended_as v n c.commit_home.new.home ps (cs ++ calls) c.prepare_ends.new.out c.args.out.now node c.in_ok-plans.ensures.replies c.in_ok-plans.ensures.sends)
    ∙ sym (commit_told c.args.tx n ps cs c.args.out.now (committed c.args.tx) c.commit_home.new.home c.in-Ok.ends.items endings homed))
    (c.tell_all.ensures.comes ps (cs ++ calls) (c.commit_home.ensures.pages ∙ is))

pub returns-in-Ok-clause-same : goal.returns-in-Ok-clause-same
returns-in-Ok-clause-same g c =
    let v : PartsView = the_view c.parts.inside in
    let node : node_of v ≡ node_of c.args.parts.now = ap node_of c.parts.view_is ∙ c.in_ok-plans.ensures.node in
    let base : v.home ≡ c.args.parts.now.home = ap (λ (n : NodeState). n.home) node in
    let same : SameNode v.home c.commit_home.new.home = subst (SameNode v.home) (sym c.in-Ok.ensures.home) (commit_same c.args.tx v.home) in
    subst (λ (h : HomeState). SameNode h c.tell_all.new.parts.home) base (same_then v.home c.commit_home.new.home c.tell_all.new.parts.home same c.tell_all.ensures.same)

pub returns-in-Ok-clause-made : goal.returns-in-Ok-clause-made
returns-in-Ok-clause-made g c =
    let v : PartsView = the_view c.parts.inside in
    let node : node_of v ≡ node_of c.args.parts.now = ap node_of c.parts.view_is ∙ c.in_ok-plans.ensures.node in
    let base : v.home ≡ c.args.parts.now.home = ap (λ (n : NodeState). n.home) node in
    entered_leaves c.args.parts.now.home.txs.node c.tell_all.result (commit_calls c.args.parts.now.home c.args.tx) (told_by (g.S.Storage.pages c.args.s.now) (g.S.Storage.logs c.args.s.now) (g.S.Storage.stops c.args.s.now)) (told_by (g.S.Storage.pages c.commit_home.new.s) (g.S.Storage.logs c.commit_home.new.s) (g.S.Storage.stops c.commit_home.new.s)) (told_by (g.S.Storage.pages c.tell_all.new.s) (g.S.Storage.logs c.tell_all.new.s) (g.S.Storage.stops c.tell_all.new.s)) c.tell_all.ensures.fault
    (subst (λ (h : HomeState). Made h.txs.node (commit_calls h c.args.tx) (told_by (g.S.Storage.pages c.args.s.now) (g.S.Storage.logs c.args.s.now) (g.S.Storage.stops c.args.s.now)) None (told_by (g.S.Storage.pages c.commit_home.new.s) (g.S.Storage.logs c.commit_home.new.s) (g.S.Storage.stops c.commit_home.new.s))) base c.in-Ok.ensures.made)
    (λ i. told_by (c.tell_all.ensures.pages i) (c.tell_all.ensures.logs i) (c.tell_all.ensures.stops i))

pub returns-in-Ok-clause-fault : goal.returns-in-Ok-clause-fault
returns-in-Ok-clause-fault g c =
    told_fault c.args.tx c.tell_all.result c.tell_all.ensures.fault

pub returns-in-Ok-clause-torn : goal.returns-in-Ok-clause-torn
returns-in-Ok-clause-torn g c =
    told_record c.args.parts.now.home c.args.tx _ _ _ c.tell_all.result c.tell_all.ensures.fault

pub returns-in-Ok-clause-kept : goal.returns-in-Ok-clause-kept
returns-in-Ok-clause-kept g c = λ d ss l logs armed none.
    let v : PartsView = the_view c.parts.inside in
    let node : node_of v ≡ node_of c.args.parts.now = ap node_of c.parts.view_is ∙ c.in_ok-plans.ensures.node in
    let base : v.home ≡ c.args.parts.now.home = ap (λ (n : NodeState). n.home) node in
    let mine : NoneFails (g.S.Storage.failing c.args.s.now) v.home.txs.node l = subst (λ k. NoneFails (g.S.Storage.failing c.args.s.now) k l) (c.requires.parts.number ∙ sym (ap (λ (h : HomeState). h.txs.node) base)) none in
    let calm : NoneFails (g.S.Storage.failing c.commit_home.new.s) v.home.txs.node l = c.commit_home.ensures.calm l mine in
    let me : v.home.txs.node ≡ v.me = sym (ap (λ (z : PartsView). z.me) c.parts.view_is ∙ c.in_ok-plans.ensures.view.me ∙ c.requires.parts.number ∙ sym (ap (λ (h : HomeState). h.txs.node) base)) in
    let calm_too : NoneFails (g.S.Storage.failing c.commit_home.new.s) v.me l = subst (λ k. NoneFails (g.S.Storage.failing c.commit_home.new.s) k l) me calm in
    told_names c.args.parts.now.home.txs.node d (commit_calls c.args.parts.now.home c.args.tx) ss c.tell_all.result (c.tell_all.ensures.quiet l calm_too)

pub returns-in-Ok-clause-calm : goal.returns-in-Ok-clause-calm
returns-in-Ok-clause-calm g c = λ l none.
    let v : PartsView = the_view c.parts.inside in
    let node : node_of v ≡ node_of c.args.parts.now = ap node_of c.parts.view_is ∙ c.in_ok-plans.ensures.node in
    let base : v.home ≡ c.args.parts.now.home = ap (λ (n : NodeState). n.home) node in
    let mine : NoneFails (g.S.Storage.failing c.args.s.now) v.home.txs.node l = subst (λ k. NoneFails (g.S.Storage.failing c.args.s.now) k l) (c.requires.parts.number ∙ sym (ap (λ (h : HomeState). h.txs.node) base)) none in
    let calm : NoneFails (g.S.Storage.failing c.commit_home.new.s) v.home.txs.node l = c.commit_home.ensures.calm l mine in
    let me : v.home.txs.node ≡ v.me = sym (ap (λ (z : PartsView). z.me) c.parts.view_is ∙ c.in_ok-plans.ensures.view.me ∙ c.requires.parts.number ∙ sym (ap (λ (h : HomeState). h.txs.node) base)) in
    let calm_too : NoneFails (g.S.Storage.failing c.commit_home.new.s) v.me l = subst (λ k. NoneFails (g.S.Storage.failing c.commit_home.new.s) k l) me calm in
    subst (λ k. NoneFails (g.S.Storage.failing c.tell_all.new.s) k l) (ap (λ (z : PartsView). z.me) c.parts.view_is ∙ c.in_ok-plans.ensures.view.me) (c.tell_all.ensures.calm l calm_too)

pub returns-in-Ok-clause-quiet : goal.returns-in-Ok-clause-quiet
returns-in-Ok-clause-quiet g c = λ l none.
    let v : PartsView = the_view c.parts.inside in
    let node : node_of v ≡ node_of c.args.parts.now = ap node_of c.parts.view_is ∙ c.in_ok-plans.ensures.node in
    let base : v.home ≡ c.args.parts.now.home = ap (λ (n : NodeState). n.home) node in
    let mine : NoneFails (g.S.Storage.failing c.args.s.now) v.home.txs.node l = subst (λ k. NoneFails (g.S.Storage.failing c.args.s.now) k l) (c.requires.parts.number ∙ sym (ap (λ (h : HomeState). h.txs.node) base)) none in
    let calm : NoneFails (g.S.Storage.failing c.commit_home.new.s) v.home.txs.node l = c.commit_home.ensures.calm l mine in
    let me : v.home.txs.node ≡ v.me = sym (ap (λ (z : PartsView). z.me) c.parts.view_is ∙ c.in_ok-plans.ensures.view.me ∙ c.requires.parts.number ∙ sym (ap (λ (h : HomeState). h.txs.node) base)) in
    let calm_too : NoneFails (g.S.Storage.failing c.commit_home.new.s) v.me l = subst (λ k. NoneFails (g.S.Storage.failing c.commit_home.new.s) k l) me calm in
    let well = c.tell_all.ensures.quiet l calm_too in
    (told_quiet c.tell_all.result call.Read well, told_quiet c.tell_all.result call.Log well)

pub returns-in-Ok-clause-sizes : goal.returns-in-Ok-clause-sizes
returns-in-Ok-clause-sizes g c =
    let v : PartsView = the_view c.parts.inside in
    let node : node_of v ≡ node_of c.args.parts.now = ap node_of c.parts.view_is ∙ c.in_ok-plans.ensures.node in
    let base : v.home ≡ c.args.parts.now.home = ap (λ (n : NodeState). n.home) node in
    let sizes : HasSizes v.home.config (g.S.Storage.pages c.tell_all.new.s) (g.S.Storage.logs c.tell_all.new.s) (g.S.Storage.rooms c.tell_all.new.s) =
    subst (λ p. HasSizes v.home.config p (g.S.Storage.logs c.tell_all.new.s) (g.S.Storage.rooms c.tell_all.new.s)) (sym c.tell_all.ensures.pages)
    (subst (λ l. HasSizes v.home.config (g.S.Storage.pages c.commit_home.new.s) l (g.S.Storage.rooms c.tell_all.new.s)) (sym c.tell_all.ensures.logs)
    (subst (λ r. HasSizes v.home.config (g.S.Storage.pages c.commit_home.new.s) (g.S.Storage.logs c.commit_home.new.s) r) (sym c.tell_all.ensures.rooms) c.commit_home.ensures.sizes)) in
    subst (λ (h : HomeState). HasSizes h.config (g.S.Storage.pages c.tell_all.new.s) (g.S.Storage.logs c.tell_all.new.s) (g.S.Storage.rooms c.tell_all.new.s)) base sizes

pub returns-in-Err-clause-made : goal.returns-in-Err-clause-made
returns-in-Err-clause-made g c =
    let v : PartsView = the_view c.parts.inside in
    let node : node_of v ≡ node_of c.args.parts.now = ap node_of c.parts.view_is ∙ c.in_ok-plans.ensures.node in
    let base : v.home ≡ c.args.parts.now.home = ap (λ (n : NodeState). n.home) node in
    leaves_home c.commit_home.result (Unit {0}) c.args.tx v.home c.args.parts.now.home (told_by (g.S.Storage.pages c.args.s.now) (g.S.Storage.logs c.args.s.now) (g.S.Storage.stops c.args.s.now)) (told_by (g.S.Storage.pages c.commit_home.new.s) (g.S.Storage.logs c.commit_home.new.s) (g.S.Storage.stops c.commit_home.new.s)) c.in-Err.fault base c.in-Err.ensures.made

pub returns-in-Err-clause-fault : goal.returns-in-Err-clause-fault
returns-in-Err-clause-fault g c =
    force_commit c.args.tx c.in-Err.fault c.in-Err.ensures.fault

pub returns-in-Err-clause-torn : goal.returns-in-Err-clause-torn
returns-in-Err-clause-torn g c =
    let v : PartsView = the_view c.parts.inside in
    let node : node_of v ≡ node_of c.args.parts.now = ap node_of c.parts.view_is ∙ c.in_ok-plans.ensures.node in
    let base : v.home ≡ c.args.parts.now.home = ap (λ (n : NodeState). n.home) node in
    subst (λ (h : HomeState). LeavesRecord h c.args.tx (Unasked (g.S.Storage.faults c.args.s.now call.Log) (g.S.Storage.faults c.commit_home.new.s call.Log) (g.S.Storage.failing c.args.s.now) h.txs.node) (g.S.Storage.logs c.args.s.now) (g.S.Storage.logs c.commit_home.new.s) c.in-Err.fault) base c.in-Err.ensures.torn

pub returns-in-Err-clause-kept : goal.returns-in-Err-clause-kept
returns-in-Err-clause-kept g c = λ d ss l logs armed none.
    let v : PartsView = the_view c.parts.inside in
    let node : node_of v ≡ node_of c.args.parts.now = ap node_of c.parts.view_is ∙ c.in_ok-plans.ensures.node in
    let base : v.home ≡ c.args.parts.now.home = ap (λ (n : NodeState). n.home) node in
    let mine : NoneFails (g.S.Storage.failing c.args.s.now) v.home.txs.node l = subst (λ k. NoneFails (g.S.Storage.failing c.args.s.now) k l) (c.requires.parts.number ∙ sym (ap (λ (h : HomeState). h.txs.node) base)) none in
    subst (λ (h : HomeState). NamesKept h.txs.node d (commit_calls h c.args.tx) ss c.in-Err.fault) base (c.in-Err.ensures.kept d ss l logs armed mine)

pub returns-in-Err-clause-calm : goal.returns-in-Err-clause-calm
returns-in-Err-clause-calm g c = λ l none.
    let v : PartsView = the_view c.parts.inside in
    let node : node_of v ≡ node_of c.args.parts.now = ap node_of c.parts.view_is ∙ c.in_ok-plans.ensures.node in
    let base : v.home ≡ c.args.parts.now.home = ap (λ (n : NodeState). n.home) node in
    let mine : NoneFails (g.S.Storage.failing c.args.s.now) v.home.txs.node l = subst (λ k. NoneFails (g.S.Storage.failing c.args.s.now) k l) (c.requires.parts.number ∙ sym (ap (λ (h : HomeState). h.txs.node) base)) none in
    subst (λ k. NoneFails (g.S.Storage.failing c.commit_home.new.s) k l) (ap (λ (h : HomeState). h.txs.node) base ∙ sym c.requires.parts.number) (c.commit_home.ensures.calm l mine)

pub returns-in-Err-clause-quiet : goal.returns-in-Err-clause-quiet
returns-in-Err-clause-quiet g c = λ l none.
    let v : PartsView = the_view c.parts.inside in
    let node : node_of v ≡ node_of c.args.parts.now = ap node_of c.parts.view_is ∙ c.in_ok-plans.ensures.node in
    let base : v.home ≡ c.args.parts.now.home = ap (λ (n : NodeState). n.home) node in
    let mine : NoneFails (g.S.Storage.failing c.args.s.now) v.home.txs.node l = subst (λ k. NoneFails (g.S.Storage.failing c.args.s.now) k l) (c.requires.parts.number ∙ sym (ap (λ (h : HomeState). h.txs.node) base)) none in
    (force_unread (Unit {0}) c.args.tx c.in-Err.fault c.in-Err.ensures.fault, λ some. c.in-Err.ensures.quiet l mine (halted_err c.commit_home.result (Unit {0}) c.in-Err.fault ∙ some))

pub returns-in-Err-clause-cause : goal.returns-in-Err-clause-cause
returns-in-Err-clause-cause g c = λ k halted.
    c.in-Err.ensures.cause k (halted_err c.commit_home.result (Unit {0}) c.in-Err.fault ∙ halted)
