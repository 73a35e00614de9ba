use Rattle.std.proofs.Common.{◌<◌, None, is_some, IfSome, ap, sym, subst, ◌∙◌, arith, inl}
use Rattle.node_rules.specs.OpenTxs.{is_open}
use Rattle.node_rules.specs.BufferRule.{Pool, slot_at, copy_at}
use Rattle.node_rules.specs.NodeState.{HomeState}
use Rattle.node_rules.specs.AccessRule.{Access, perform, Now as now}
use Rattle.home_laws.proofs.Allowed.{allowed}
use Rattle.home_laws.proofs.Taken.{pinned_copy}
use Rattle.home.specs.Asked.{asked}
use Rattle.home.specs.Device.{work_on}
use Rattle.home.specs.Parts.{PartsView}
use Rattle.home.proofs.Accessing.{right_access}
use Rattle.home.proofs.Doing.{few_pins, allowed_copy, pin_size, right_home, right_prepared, perform_txs}
use Rattle.home.proofs.parts.Parts.do_right.Goals as goal

pub read_under_right-requires-clause-open : goal.read_under_right-requires-clause-open
read_under_right-requires-clause-open c =
    ap (λ h. is_open h.txs c.args.a.now.tx) c.reserve_grant.ensures.home ∙ (allowed (asked c.args.a.now) c.args.self.now.home c.requires.none).there

pub pin-requires-clause-few : goal.pin-requires-clause-few
pin-requires-clause-few c =
    let pool = ap (λ v. v.home.pool) c.in_ok-read_under_right.ensures.ok ∙ ap (λ h. h.pool) c.reserve_grant.ensures.home in
    subst (λ (b : Pool). IfSome (slot_at b c.args.a.now.page) (λ s. s.pins < 4294967295)) (sym pool) (few_pins c.args.self.now.home c.args.a.now.page c.requires.home)

pub perform_read-requires-clause-copy : goal.perform_read-requires-clause-copy
perform_read-requires-clause-copy c =
    let pool = ap (λ v. v.home.pool) c.in_ok-read_under_right.ensures.ok ∙ ap (λ h. h.pool) c.reserve_grant.ensures.home in
    ap (λ v. is_some (copy_at v.home.pool c.args.a.now.page)) c.pin.ensures
    ∙ ap is_some (pinned_copy c.read_under_right.new.self.home.pool c.args.a.now.page c.args.a.now.page)
    ∙ ap (λ b. is_some (copy_at b c.args.a.now.page)) pool ∙ allowed_copy (asked c.args.a.now) c.args.owned c.args.self.now.home c.requires.allowed

pub perform_read-requires-clause-wide : goal.perform_read-requires-clause-wide
perform_read-requires-clause-wide c =
    let pool = ap (λ v. v.home.pool) c.in_ok-read_under_right.ensures.ok ∙ ap (λ h. h.pool) c.reserve_grant.ensures.home in
    let size =
    ap (λ v. v.home.pool.size) c.pin.ensures ∙ pin_size c.read_under_right.new.self.home.pool c.args.a.now.page
    ∙ ap (λ b. b.size) pool ∙ c.requires.home.sizes.1 in
    let config = ap (λ v. v.home.config.size) c.self.view_is in
    let value = c.size.ensures.value in
    let wide = c.in_ok-reply.ensures.capacity in
    omega (arith, size, config, value, wide)

pub returns-clause-home : goal.returns-clause-home
returns-clause-home c =
    let h : HomeState = c.args.self.now.home in
    let a : Access = asked c.args.a.now in
    let home = right_home a.tx a.page c.pin.new.self c.read_under_right.new.self c.reserve_grant.new.self h c.pin.ensures c.in_ok-read_under_right.ensures.ok c.reserve_grant.ensures.home in
    ap (λ v. v.home) c.perform_read.ensures.home ∙ ap (λ k. (perform a.tx a.page None (work_on k)).work.home) home
    ∙ sym (ap (λ x. x.work.home) (right_access a h c.requires.home c.args.owned c.requires.held c.requires.allowed))

pub returns-clause-reply : goal.returns-clause-reply
returns-clause-reply c =
    let h : HomeState = c.args.self.now.home in
    let a : Access = asked c.args.a.now in
    let home = right_home a.tx a.page c.pin.new.self c.read_under_right.new.self c.reserve_grant.new.self h c.pin.ensures c.in_ok-read_under_right.ensures.ok c.reserve_grant.ensures.home in
    ap (λ x. x.next) (right_access a h c.requires.home c.args.owned c.requires.held c.requires.allowed)
    ∙ ap (λ k. now (perform a.tx a.page None (work_on k)).reply) (sym home) ∙ ap now (sym c.perform_read.ensures.reply)

pub returns-clause-prepared : goal.returns-clause-prepared
returns-clause-prepared c =
    let h : HomeState = c.args.self.now.home in
    let a : Access = asked c.args.a.now in
    let home = right_home a.tx a.page c.pin.new.self c.read_under_right.new.self c.reserve_grant.new.self h c.pin.ensures c.in_ok-read_under_right.ensures.ok c.reserve_grant.ensures.home in
    let made = c.perform_read.ensures.home ∙ ap {A = PartsView} (λ v. record v { home = (perform a.tx a.page None (work_on c.pin.new.self.home)).work.home }) c.pin.ensures in
    right_prepared a c.args.self.now c.reserve_grant.new.self c.read_under_right.new.self c.perform_read.new.self _ c.requires.home (allowed a h c.requires.none) c.requires.prepared c.reserve_grant.ensures.home
    c.reserve_grant.ensures.kept c.in_ok-reserve_grant.ensures.memory (ap (λ v. v.places) c.in_ok-read_under_right.ensures.ok) (ap (λ v. v.replies) c.in_ok-read_under_right.ensures.ok)
    (ap (λ v. v.node) c.in_ok-read_under_right.ensures.ok) c.read_under_right.ensures.room made (inl (perform_txs a.tx a.page None c.pin.new.self.home ∙ ap (λ k. k.txs) home))
