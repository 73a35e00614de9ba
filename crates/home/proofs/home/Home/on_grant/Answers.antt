use Rattle.std.proofs.Common.{◌≡◌, length, IfSome, ap, sym, subst, ◌∙◌}
use Rattle.std.specs.Prelude.{OnOk}
use Rattle.node_rules.specs.NodeState.{HomeState}
use Rattle.node_rules.specs.AccessRule.{image_of, shelf_after}
use Rattle.home.specs.Grants.{work_at, with_shelf, is_awaited}
use Rattle.home.proofs.Arriving.{arrived_sound, ignored_told, ignored_by}
use Rattle.home.proofs.home.Home.on_grant.Goals as goal

pub invariant_of-self : goal.invariant_of-self
invariant_of-self g c = (
  arrived_sound c.args.g.now c.args.owned c.self.inside.parts c.arrive.new.self c.arrive.result c.self.invariant.0 c.arrive.ensures.image c.arrive.ensures.err,
  c.arrive.ensures.prepared,
)

pub invariant_of-self-2 : goal.invariant_of-self-2
invariant_of-self-2 g c =
    let size = subst (λ (h : HomeState). IfSome (image_of c.args.g.now.copy) (λ b. length b ≡ h.config.size)) (sym c.self.view_is) c.requires.image in
    let came =
    ignored_by c.args.g.now c.args.owned c.self.inside.parts.home c.ignore.new.self.home c.ignore.result (sym c.waits_as.ensures ∙ c.if-waits_as.false) size c.ignore.ensures.none c.ignore.ensures.ok in (
      arrived_sound c.args.g.now c.args.owned c.self.inside.parts c.ignore.new.self c.ignore.result c.self.invariant.0 came c.ignore.ensures.err,
      c.ignore.ensures.prepared c.self.invariant.1,
    )

pub returns-clause-told : goal.returns-clause-told
returns-clause-told g c ps told =
    let waits = ap (is_awaited c.args.g.now) (sym c.self.view_is) ∙ sym c.waits_as.ensures ∙ c.if-waits_as.false in
    let is = subst (λ (h : HomeState). OnOk c.ignore.result (c.ignore.new.self.home ≡ with_shelf (shelf_after c.args.g.now h.shelf) h)) c.self.view_is c.ignore.ensures.ok in
    ignored_told c.args.g.now c.args.owned (work_at ps c.args.self.now) c.ignore.result c.ignore.new.self.home waits c.ignore.ensures.none is c.ignore.ensures.fault

pub returns-clause-image : goal.returns-clause-image
returns-clause-image g c =
    let waits = ap (is_awaited c.args.g.now) (sym c.self.view_is) ∙ sym c.waits_as.ensures ∙ c.if-waits_as.false in
    let is = subst (λ (h : HomeState). OnOk c.ignore.result (c.ignore.new.self.home ≡ with_shelf (shelf_after c.args.g.now h.shelf) h)) c.self.view_is c.ignore.ensures.ok in
    ignored_by c.args.g.now c.args.owned c.args.self.now c.ignore.new.self.home c.ignore.result waits c.requires.image c.ignore.ensures.none is
