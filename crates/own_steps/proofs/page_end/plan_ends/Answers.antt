use Rattle.std.proofs.Common.{◌≡◌, false, Some, None, is_some, map, ap, sym, subst, ◌∙◌}
use Rattle.node_rules.specs.OpenTxs.{OpenTxs, held_by, lock_on, locks_of, pending_of}
use Rattle.home_laws.specs.Homes.{IsHome}
use Rattle.node_parts.specs.State.{PartsView, node_of}
use Rattle.own_steps.specs.Ends.{AreEndPlans, lock_due, waited_due}
use Rattle.own_steps.proofs.Dues.{free_due, lock_below, lock_last, plans_last, plans_next, plans_over}
use Rattle.own_steps.proofs.page_end.plan_ends.Goals as goal

pub plan_lock-requires-clause-page : goal.plan_lock-requires-clause-page
plan_lock-requires-clause-page c =
    let txs : c.txs-txs.result.now ≡ c.args.parts.now.home.txs = c.txs-txs.ensures.value ∙ ap (λ (v : PartsView). v.home.txs) c.parts.view_is in
    let locks : c.locks-locks.result.now ≡ locks_of c.args.parts.now.home.txs c.args.tx = c.locks-locks.ensures.value ∙ ap (λ s. locks_of s c.args.tx) txs in
    let home : IsHome c.args.parts.now.home = subst (λ (v : PartsView). IsHome v.home) c.parts.view_is c.txs-txs.ensures.home in
    lock_below c.args.parts.now.home c.args.tx c.locks-locks.result.now c.loop-lock.lock-index _ home locks c.loop-lock-test.true

pub plan_lock-requires-clause-last : goal.plan_lock-requires-clause-last
plan_lock-requires-clause-last c = λ commits mode.
    let txs : c.txs-txs.result.now ≡ c.args.parts.now.home.txs = c.txs-txs.ensures.value ∙ ap (λ (v : PartsView). v.home.txs) c.parts.view_is in
    let locks : c.locks-locks.result.now ≡ locks_of c.args.parts.now.home.txs c.args.tx = c.locks-locks.ensures.value ∙ ap (λ s. locks_of s c.args.tx) txs in
    let home : IsHome c.args.parts.now.home = subst (λ (v : PartsView). IsHome v.home) c.parts.view_is c.txs-txs.ensures.home in
    lock_last c.args.parts.now.home c.args.tx c.locks-locks.result.now c.loop-lock.lock-index _ home (c.requires.idle commits) (c.requires.last commits) locks c.loop-lock-test.true mode

pub loop-lock-preserved : goal.loop-lock-preserved
loop-lock-preserved c =
    plans_next (node_of c.args.parts.now) c.args.parts.now.me c.args.tx (lock_due c.args.commits c.args.parts.now.home) c.locks-locks.result.now c.loop-lock.lock-index _ c.loop-lock.plans.items c.push.new.self.items
    c.in_ok-plan_lock.field-0 c.loop-lock-test.true c.in_ok-push.ensures.items c.loop-lock.invariant c.in_ok-plan_lock.ensures

pub returns-in_ok-push-in-Some-clause-plans : goal.returns-in_ok-push-in-Some-clause-plans
returns-in_ok-push-in-Some-clause-plans c =
    let n = node_of c.args.parts.now in
    let me = c.args.parts.now.me in
    let f = lock_due c.args.commits c.args.parts.now.home in
    let txs : c.txs-txs.result.now ≡ c.args.parts.now.home.txs = c.txs-txs.ensures.value ∙ ap (λ (v : PartsView). v.home.txs) c.parts.view_is in
    let locks : c.locks-locks.result.now ≡ locks_of c.args.parts.now.home.txs c.args.tx = c.locks-locks.ensures.value ∙ ap (λ s. locks_of s c.args.tx) txs in
    let some : pending_of c.args.parts.now.home.txs c.args.tx ≡ Some c.in-Some.access.now = ap (λ s. pending_of s c.args.tx) (sym txs) ∙ sym c.in-Some.ensures.value in
    let free : is_some (lock_on (locks_of c.args.parts.now.home.txs c.args.tx) c.in-Some.access.now.page) ≡ false =
    ap (λ (s : OpenTxs). is_some (held_by s c.args.tx c.in-Some.access.now.page)) (sym txs) ∙ ap is_some (sym c.held.ensures) ∙ sym c.is_some.ensures ∙ c.if-is_some.false in
    plans_last n me c.args.tx (map f (locks_of c.args.parts.now.home.txs c.args.tx)) (waited_due (locks_of c.args.parts.now.home.txs c.args.tx) (pending_of c.args.parts.now.home.txs c.args.tx))
    c.loop-lock.plans.items c.push-in-Some.new.self.items (c.in-Some.access.now.page, None) c.in_ok-plan_page-in-Some.field-0
    (free_due (locks_of c.args.parts.now.home.txs c.args.tx) (pending_of c.args.parts.now.home.txs c.args.tx) c.in-Some.access.now some free)
    c.in_ok-push-in-Some.ensures.items
    (subst (λ l. AreEndPlans n me c.args.tx (map f l) c.loop-lock.plans.items) locks
    (plans_over n me c.args.tx f c.locks-locks.result.now c.loop-lock.lock-index c.loop-lock.plans.items c.loop-lock-test.false c.loop-lock.invariant))
    c.in_ok-plan_page-in-Some.ensures
