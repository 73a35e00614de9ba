use Rattle.std.proofs.Common.{◌∙◌, refl, false, map, ap, sym, subst, Ok, Err}
use Rattle.pcl_base.specs.declared.reply.Reason.TheVariants.{NoTx}
use Rattle.node_rules.specs.NodeState.{HomeState}
use Rattle.node_rules.specs.EndRule.{abort}
use Rattle.home_laws.specs.Homes.{IsHome}
use Rattle.home_laws.specs.RefusedEnds.{abort_refusal}
use Rattle.home_laws.proofs.Ends.{abort_is_sound_law}
use Rattle.home_laws.proofs.EndSteps.{ending_pages}
use Rattle.home.specs.Device.{work_on}
use Rattle.home.specs.declared.fault.HomeFault.TheVariants.{NoMemory}
use Rattle.home.proofs.Closing.{once_in}
use Rattle.home.proofs.Refusing.{refused_iff, allowed_iff, abort_no_tx, abort_open, abort_tells, abort_leaves}
use Rattle.home.proofs.Unpinned.{page_of}
use Rattle.home.proofs.home.Home.abort.Goals as goal

pub returns-then-not-is_open-clause-refused : goal.returns-then-not-is_open-clause-refused
returns-then-not-is_open-clause-refused c r =
    let none = sym c.is_open.ensures ∙ c.if-not-is_open.true in
    refused_iff NoTx r (abort_refusal c.args.tx c.args.self.now)
    (ap (abort_refusal c.args.tx) (sym c.self.view_is) ∙ abort_no_tx c.args.tx c.self.inside.parts.home none)

pub endings-requires : goal.endings-requires
endings-requires c = once_in c.self.inside.parts.home c.self.inside.parts.home c.args.tx refl c.self.invariant.0

pub abort-requires-clause-pages : goal.abort-requires-clause-pages
abort-requires-clause-pages c =
    ap (map page_of) (c.as_slice.ensures.value ∙ c.in-Ok.ensures) ∙ ending_pages c.self.inside.parts.home c.args.tx false

pub invariant_of-self : goal.invariant_of-self
invariant_of-self c =
    let there = sym c.is_open.ensures ∙ c.if-not-is_open.false in
    let home = c.abort.ensures.home ∙ sym (abort_leaves c.args.tx c.self.inside.parts.home) in (
      subst IsHome (sym home) (abort_is_sound_law c.args.tx (work_on c.self.inside.parts.home) c.self.invariant.0 there),
      c.abort.ensures.prepared c.self.invariant.1,
    )

pub returns-in-Err-clause-refused : goal.returns-in-Err-clause-refused
returns-in-Err-clause-refused c r =
    let there = sym c.is_open.ensures ∙ c.if-not-is_open.false in
    allowed_iff (Err NoMemory) r (abort_refusal c.args.tx c.args.self.now)
    (ap (abort_refusal c.args.tx) (sym c.self.view_is) ∙ abort_open c.args.tx c.self.inside.parts.home there) (λ e. cc)

pub returns-in-Ok-clause-endings : goal.returns-in-Ok-clause-endings
returns-in-Ok-clause-endings c =
    c.in-Ok.ensures ∙ (sym (abort_tells c.args.tx c.self.inside.parts.home) ∙ ap (λ (h : HomeState). (abort c.args.tx (work_on h)).endings) c.self.view_is)

pub returns-in-Ok-clause-home : goal.returns-in-Ok-clause-home
returns-in-Ok-clause-home c =
    c.abort.ensures.home ∙ (sym (abort_leaves c.args.tx c.self.inside.parts.home) ∙ ap (λ (h : HomeState). (abort c.args.tx (work_on h)).work.home) c.self.view_is)

pub returns-in-Ok-clause-refused : goal.returns-in-Ok-clause-refused
returns-in-Ok-clause-refused c r =
    let there = sym c.is_open.ensures ∙ c.if-not-is_open.false in
    allowed_iff (Ok c.in-Ok.ends) r (abort_refusal c.args.tx c.args.self.now)
    (ap (abort_refusal c.args.tx) (sym c.self.view_is) ∙ abort_open c.args.tx c.self.inside.parts.home there) (λ e. cc)
