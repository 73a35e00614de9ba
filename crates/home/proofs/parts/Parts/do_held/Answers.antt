use Rattle.std.proofs.Common.{◌≤◌, ◌+◌, length, Some, IfSome, ap, sym, subst, ◌∙◌, arith}
use Rattle.node_rules.specs.NodeState.{HomeState}
use Rattle.node_rules.specs.AccessRule.{Access, perform, Now as now}
use Rattle.home_laws.specs.Homes.{IsWithin}
use Rattle.home_laws.proofs.Allowed.{allowed}
use Rattle.home.specs.Asked.{asked}
use Rattle.home.specs.Device.{work_on}
use Rattle.home.proofs.Places.{on_ok}
use Rattle.home.proofs.Accessing.{held_access}
use Rattle.home.proofs.Doing.{if_ok, prepared_as, write_prepared, perform_txs}
use Rattle.home.proofs.parts.Parts.do_held.Goals as goal

pub perform_write-requires-clause-inside : goal.perform_write-requires-clause-inside
perform_write-requires-clause-inside c =
    let within = subst (λ o. IfSome o (IsWithin c.args.self.now.home.config.size)) c.in-Some.is (allowed (asked c.args.a.now) c.args.self.now.home c.requires.none).inside in
    let size = ap (λ h. h.pool.size) c.reserve_grant.ensures.home ∙ c.requires.home.sizes.1 in
    subst (λ n. c.in-Some.place + length c.as_slice.result.now ≤ n) (sym size) (subst (λ l. c.in-Some.place + length l ≤ c.args.self.now.home.config.size) (sym c.as_slice.ensures) within.1)

pub perform_write-requires-clause-small : goal.perform_write-requires-clause-small
perform_write-requires-clause-small c =
    let size = ap (λ h. h.pool.size) c.reserve_grant.ensures.home ∙ c.requires.home.sizes.1 in
    let config = ap (λ v. v.home.config.size) c.self.view_is in
    let limit = c.size-size.ensures.limits.most_size in
    omega (arith, size, config, limit)

pub returns-in_ok-reply-in-None-clause-home : goal.returns-in_ok-reply-in-None-clause-home
returns-in_ok-reply-in-None-clause-home c owned =
    let h : HomeState = c.args.self.now.home in
    let a : Access = asked c.args.a.now in
    ap (λ v. v.home) c.perform_read.ensures.home ∙ ap (λ o. (perform a.tx a.page o (work_on h)).work.home) (sym c.in-None.is)
    ∙ sym (ap (λ x. x.work.home) (held_access a h c.requires.home c.requires.held owned))

pub returns-in_ok-reply-in-None-clause-reply : goal.returns-in_ok-reply-in-None-clause-reply
returns-in_ok-reply-in-None-clause-reply c owned =
    let h : HomeState = c.args.self.now.home in
    let a : Access = asked c.args.a.now in
    ap (λ x. x.next) (held_access a h c.requires.home c.requires.held owned)
    ∙ ap (λ o. now (perform a.tx a.page o (work_on h)).reply) c.in-None.is ∙ ap now (sym c.perform_read.ensures.reply)

pub returns-in_ok-reply-in-None-clause-prepared : goal.returns-in_ok-reply-in-None-clause-prepared
returns-in_ok-reply-in-None-clause-prepared c =
    prepared_as c.args.self.now c.perform_read.new.self _ c.requires.prepared c.perform_read.ensures.home (perform_txs c.args.a.now.tx c.args.a.now.page _ c.args.self.now.home)

pub returns-in_ok-reserve_grant-in-Some-clause-home : goal.returns-in_ok-reserve_grant-in-Some-clause-home
returns-in_ok-reserve_grant-in-Some-clause-home c =
    let h : HomeState = c.args.self.now.home in
    let a : Access = asked c.args.a.now in
    on_ok c.perform_write.result c.perform_write.ensures.home
    (λ e owned. ap (λ v. v.home) e
    ∙ ap (λ l. (perform a.tx a.page (Some (c.in-Some.place, l)) (work_on c.reserve_grant.new.self.home)).work.home) c.as_slice.ensures
    ∙ ap (λ o. (perform a.tx a.page o (work_on c.reserve_grant.new.self.home)).work.home) (sym c.in-Some.is)
    ∙ ap (λ x. (perform a.tx a.page a.write (work_on x)).work.home) c.reserve_grant.ensures.home
    ∙ sym (ap (λ x. x.work.home) (held_access a h c.requires.home c.requires.held owned)))

pub returns-in_ok-reserve_grant-in-Some-clause-reply : goal.returns-in_ok-reserve_grant-in-Some-clause-reply
returns-in_ok-reserve_grant-in-Some-clause-reply c =
    let h : HomeState = c.args.self.now.home in
    let a : Access = asked c.args.a.now in
    if_ok c.perform_write.result c.perform_write.ensures.reply
    (λ r e owned. ap (λ x. x.next) (held_access a h c.requires.home c.requires.held owned)
    ∙ ap (λ x. now (perform a.tx a.page a.write (work_on x)).reply) (sym c.reserve_grant.ensures.home)
    ∙ ap (λ o. now (perform a.tx a.page o (work_on c.reserve_grant.new.self.home)).reply) c.in-Some.is
    ∙ ap (λ l. now (perform a.tx a.page (Some (c.in-Some.place, l)) (work_on c.reserve_grant.new.self.home)).reply) (sym c.as_slice.ensures)
    ∙ ap now (sym e))

pub returns-in_ok-reserve_grant-in-Some-clause-prepared : goal.returns-in_ok-reserve_grant-in-Some-clause-prepared
returns-in_ok-reserve_grant-in-Some-clause-prepared c =
    write_prepared c.args.a.now.tx c.args.a.now.page _ c.args.self.now c.reserve_grant.new.self c.perform_write.new.self c.perform_write.result c.requires.prepared c.reserve_grant.ensures.home
    c.reserve_grant.ensures.kept c.in_ok-reserve_grant-in-Some.ensures.memory c.perform_write.ensures.home c.perform_write.ensures.err c.perform_write.ensures.room
