use Rattle.std.proofs.Common.{rules, ◌≡◌, ◌%◌, ◌∷◌, Some, None, ap, sym, subst, ◌∙◌, refl}
use Rattle.node_rules.specs.EndRule.{Ending}
use Rattle.node_rules.specs.NodeState.{table_of}
use Rattle.node_rules.specs.OwnerRule.{carry_all, tell_end}
use Rattle.node_rules.specs.Work.{Goes}
use Rattle.node_parts.specs.Comes.{Comes, work_of}
use Rattle.node_parts.specs.State.{node_of}
use Rattle.node_parts.specs.Tables.{AreTidyBut, lock_tables, with_entry_at}
use Rattle.page_owner.specs.Planned.{settled_of}
use Rattle.own_steps.specs.Ends.{IsDuePlan, due}
use Rattle.own_steps.proofs.Accessing.{goes}
use Rattle.own_steps.proofs.EndsTold.{entered_others, none_owned, tell_comes, tell_none}
use Rattle.own_steps.proofs.telling.tell_one.Goals as goal

pub returns-in-Some-clause-comes : goal.returns-in-Some-clause-comes
returns-in-Some-clause-comes g c = λ ps cs told.
    let some : c.args.planned ≡ Some c.in-Some.planned = search rules in
    let page : c.end.inside.page ≡ c.args.end.page = ap (λ (e : Ending). e.page) c.end.view_is in
    tell_comes (node_of c.args.parts.now) c.args.parts.now.me c.requires.may.number c.args.tx c.args.end c.in-Some.planned
    (subst (λ k. IsDuePlan (node_of c.args.parts.now) c.args.parts.now.me c.args.tx (due c.args.end) k) some c.requires.may.plan)
    c.enter_among.result (work_of (node_of c.args.parts.now) ps cs c.args.out.now) (work_of (node_of c.enter_among.new.parts) ps cs c.enter_among.new.out) refl
    (λ tb there.
    subst (λ p. Comes (carry_all p tb (settled_of c.in-Some.planned) (work_of (node_of c.args.parts.now) ps cs c.args.out.now)) c.enter_among.result (work_of (node_of c.enter_among.new.parts) ps cs c.enter_among.new.out)) page
    (c.enter_among.ensures.comes tb ps cs (ap (λ p. table_of (node_of c.args.parts.now) p) page ∙ there) told))

pub returns-in-Some-clause-parts : goal.returns-in-Some-clause-parts
returns-in-Some-clause-parts g c = λ ps tidy.
    let page : c.end.inside.page ≡ c.args.end.page = ap (λ (e : Ending). e.page) c.end.view_is in
    c.enter_among.ensures.parts ps (subst (λ p. AreTidyBut (p ∷ ps) c.args.parts.now.tables) (sym page) tidy)

pub returns-in-Some-clause-entries : goal.returns-in-Some-clause-entries
returns-in-Some-clause-entries g c = λ p other.
    let page : c.end.inside.page ≡ c.args.end.page = ap (λ (e : Ending). e.page) c.end.view_is in
    entered_others (node_of c.args.parts.now) (node_of c.enter_among.new.parts) c.args.parts.now.tables.config c.args.end.page c.in-Some.planned.entry c.enter_among.ensures.same.config c.requires.may.config
    (subst (λ q. lock_tables c.enter_among.new.parts.tables.places ≡ with_entry_at (lock_tables c.args.parts.now.tables.places) (q % c.args.parts.now.tables.config.nodes) q c.in-Some.planned.entry) page c.enter_among.ensures.tables) p other

pub returns-in-None-clause-comes : goal.returns-in-None-clause-comes
returns-in-None-clause-comes g c = λ ps cs told.
    let none : c.args.planned ≡ None = search rules in
    let n = node_of c.args.parts.now in
    let free = none_owned n c.args.parts.now.me c.args.tx (due c.args.end) (subst (λ k. IsDuePlan n c.args.parts.now.me c.args.tx (due c.args.end) k) none c.requires.may.plan) in
    goes (tell_end c.args.tx c.args.end (work_of n ps cs c.args.out.now)) (work_of n ps cs c.release_end.new.out) (tt {0})
    (tell_none c.args.tx c.args.end (work_of n ps cs c.args.out.now) free ∙ ap Goes (c.release_end.ensures.told ps cs))
