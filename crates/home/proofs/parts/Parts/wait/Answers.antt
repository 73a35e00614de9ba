use Rattle.std.proofs.Common.{◌≡◌, true, refl, ap, sym, subst, ◌∙◌}
use Rattle.node_rules.specs.OpenTxs.{is_open, pending_of}
use Rattle.node_rules.specs.BufferRule.{find}
use Rattle.node_rules.specs.NodeState.{HomeState}
use Rattle.node_rules.specs.AccessRule.{Access, take_frames, waiting, next_of}
use Rattle.home_laws.proofs.Allowed.{allowed}
use Rattle.home.specs.Asked.{asked}
use Rattle.home.specs.Device.{work_on}
use Rattle.home.specs.Parts.{MayTakeFrames}
use Rattle.home.proofs.Accessing.{wait_home, wait_calls, wait_next}
use Rattle.home.proofs.Doing.{may_take, wait_prepared, failed_made, done_made}
use Rattle.home.proofs.Making.{made_as, made_by}
use Rattle.home.proofs.parts.Parts.wait.Goals as goal

pub enter-requires-clause-open : goal.enter-requires-clause-open
enter-requires-clause-open g c =
    ap (λ h. is_open h.txs c.args.a.now.tx) c.reserve_grant.ensures.home ∙ (allowed (asked c.args.a.now) c.args.self.now.home c.requires.none).there

pub enter-requires-clause-none : goal.enter-requires-clause-none
enter-requires-clause-none g c =
    ap (λ h. pending_of h.txs c.args.a.now.tx) c.reserve_grant.ensures.home ∙ (allowed (asked c.args.a.now) c.args.self.now.home c.requires.none).idle

pub take_frames-written-requires-clause-may : goal.take_frames-written-requires-clause-may
take_frames-written-requires-clause-may g c =
    let a : Access = asked c.args.a.now in
    let entered : c.enter.new.self.home ≡ waiting a c.args.self.now.home = ap (λ v. v.home) c.in_ok-enter.ensures.ok ∙ ap (waiting a) c.reserve_grant.ensures.home in
    subst (λ (h : HomeState). MayTakeFrames a h.config h.pool) (sym entered) (may_take a c.args.self.now.home c.requires.home (allowed a c.args.self.now.home c.requires.none) c.requires.held)

pub returns-then-not-written-clause-home : goal.returns-then-not-written-clause-home
returns-then-not-written-clause-home g c =
    let a : Access = asked c.args.a.now in
    let entered : c.enter.new.self.home ≡ waiting a c.args.self.now.home = ap (λ v. v.home) c.in_ok-enter.ensures.ok ∙ ap (waiting a) c.reserve_grant.ensures.home in
    ap (λ v. v.home) c.take_frames-written.ensures.home ∙ ap (λ h. (take_frames a (work_on h)).home) entered
    ∙ sym (wait_home a c.args.self.now.home c.requires.home (allowed a c.args.self.now.home c.requires.none) c.args.owned c.requires.held c.requires.allowed)

pub returns-then-not-written-clause-prepared : goal.returns-then-not-written-clause-prepared
returns-then-not-written-clause-prepared g c =
    wait_prepared (asked c.args.a.now) c.args.self.now c.reserve_grant.new.self c.enter.new.self c.take_frames-written.new.self c.requires.home (allowed (asked c.args.a.now) c.args.self.now.home c.requires.none) c.requires.prepared
    c.reserve_grant.ensures.home c.reserve_grant.ensures.kept c.in_ok-reserve_grant.ensures.memory c.in_ok-enter.ensures.ok c.take_frames-written.ensures.home

pub returns-then-not-written-clause-made : goal.returns-then-not-written-clause-made
returns-then-not-written-clause-made g c =
    let a : Access = asked c.args.a.now in
    let entered : c.enter.new.self.home ≡ waiting a c.args.self.now.home = ap (λ v. v.home) c.in_ok-enter.ensures.ok ∙ ap (waiting a) c.reserve_grant.ensures.home in
    let calls =
    wait_calls a c.args.self.now.home c.requires.home (allowed a c.args.self.now.home c.requires.none) c.args.owned c.requires.held c.requires.allowed
    ∙ sym (ap (λ h. (take_frames a (work_on h)).calls) entered) in
    let node = ap (λ v. v.node) c.in_ok-enter.ensures.ok ∙ c.reserve_grant.ensures.kept.node in (
      refl,
      failed_made _ c.take_frames-written.result _ _ _ c.if-not-written.true
          (made_by _ _ true c.take_frames-written.result _ _ _ (sym node) (made_as _ true c.take_frames-written.result _ _ _ _ calls c.take_frames-written.ensures.made)),
    )

pub returns-clause-next : goal.returns-clause-next
returns-clause-next g c =
    let a : Access = asked c.args.a.now in
    let entered : c.enter.new.self.home ≡ waiting a c.args.self.now.home = ap (λ v. v.home) c.in_ok-enter.ensures.ok ∙ ap (waiting a) c.reserve_grant.ensures.home in
    c.next.ensures
    ∙ ap (λ v. next_of a c.args.owned (find v.home.pool a.page)) c.take_frames-written.ensures.home
    ∙ ap (λ h. next_of a c.args.owned (find (take_frames a (work_on h)).home.pool a.page)) entered
    ∙ sym (wait_next a c.args.self.now.home c.requires.home (allowed a c.args.self.now.home c.requires.none) c.args.owned c.requires.held c.requires.allowed)

pub returns-clause-home : goal.returns-clause-home
returns-clause-home g c =
    let a : Access = asked c.args.a.now in
    let entered : c.enter.new.self.home ≡ waiting a c.args.self.now.home = ap (λ v. v.home) c.in_ok-enter.ensures.ok ∙ ap (waiting a) c.reserve_grant.ensures.home in
    ap (λ v. v.home) c.take_frames-written.ensures.home ∙ ap (λ h. (take_frames a (work_on h)).home) entered
    ∙ sym (wait_home a c.args.self.now.home c.requires.home (allowed a c.args.self.now.home c.requires.none) c.args.owned c.requires.held c.requires.allowed)

pub returns-clause-prepared : goal.returns-clause-prepared
returns-clause-prepared g c =
    wait_prepared (asked c.args.a.now) c.args.self.now c.reserve_grant.new.self c.enter.new.self c.take_frames-written.new.self c.requires.home (allowed (asked c.args.a.now) c.args.self.now.home c.requires.none) c.requires.prepared
    c.reserve_grant.ensures.home c.reserve_grant.ensures.kept c.in_ok-reserve_grant.ensures.memory c.in_ok-enter.ensures.ok c.take_frames-written.ensures.home

pub returns-clause-made : goal.returns-clause-made
returns-clause-made g c =
    let a : Access = asked c.args.a.now in
    let entered : c.enter.new.self.home ≡ waiting a c.args.self.now.home = ap (λ v. v.home) c.in_ok-enter.ensures.ok ∙ ap (waiting a) c.reserve_grant.ensures.home in
    let calls =
    wait_calls a c.args.self.now.home c.requires.home (allowed a c.args.self.now.home c.requires.none) c.args.owned c.requires.held c.requires.allowed
    ∙ sym (ap (λ h. (take_frames a (work_on h)).calls) entered) in
    let node = ap (λ v. v.node) c.in_ok-enter.ensures.ok ∙ c.reserve_grant.ensures.kept.node in
    done_made _ c.take_frames-written.result _ _ _ c.if-not-written.false
    (made_by _ _ true c.take_frames-written.result _ _ _ (sym node) (made_as _ true c.take_frames-written.result _ _ _ _ calls c.take_frames-written.ensures.made))
