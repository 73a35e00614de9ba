use Rattle.std.proofs.Common.{rules, ◌≡◌, true, false, ◌∙◌}
use Rattle.home.specs.Asked.{asked}
use Rattle.home_laws.proofs.Allowed.{allowed}
use Rattle.node_parts.specs.State.{node_of}
use Rattle.own_steps.proofs.OwnPages.{access_owned, owned_by}
use Rattle.own_steps.proofs.accesses.access.Goals as goal

pub owns-requires-clause-page : goal.owns-requires-clause-page
owns-requires-clause-page g c = (allowed (asked c.args.a.now) c.args.parts.now.home c.requires.none).page

pub plan_access-requires-clause-page : goal.plan_access-requires-clause-page
plan_access-requires-clause-page g c = (allowed (asked c.args.a.now) c.args.parts.now.home c.requires.none).page

pub returns-then-not-owns-clause-comes : goal.returns-then-not-owns-clause-comes
returns-then-not-owns-clause-comes g c = λ ps cs told.
    let is : c.owns.result ≡ false = search rules in
    access_owned false (asked c.args.a.now) (node_of c.args.parts.now) (node_of c.access_elsewhere.new.parts) ps cs c.args.out.now c.access_elsewhere.new.out c.access_elsewhere.result
    (owned_by c.args.parts.now c.args.a.now.page c.owns.result c.requires.parts c.requires.view c.owns.ensures ∙ is) (c.access_elsewhere.ensures.comes ps cs told)

pub returns-then-is_held-clause-comes : goal.returns-then-is_held-clause-comes
returns-then-is_held-clause-comes g c = λ ps cs told.
    let is : c.owns.result ≡ true = search rules in
    access_owned true (asked c.args.a.now) (node_of c.args.parts.now) (node_of c.access_held.new.parts) ps cs c.args.out.now c.access_held.new.out c.access_held.result
    (owned_by c.args.parts.now c.args.a.now.page c.owns.result c.requires.parts c.requires.view c.owns.ensures ∙ is) (c.access_held.ensures.comes ps cs told)

pub returns-in-Ok-Some-clause-comes : goal.returns-in-Ok-Some-clause-comes
returns-in-Ok-Some-clause-comes g c = λ ps cs told.
    let is : c.owns.result ≡ true = search rules in
    access_owned true (asked c.args.a.now) (node_of c.args.parts.now) (node_of c.access_planned.new.parts) ps cs c.args.out.now c.access_planned.new.out c.access_planned.result
    (owned_by c.args.parts.now c.args.a.now.page c.owns.result c.requires.parts c.requires.view c.owns.ensures ∙ is) (c.access_planned.ensures.comes ps cs told)
