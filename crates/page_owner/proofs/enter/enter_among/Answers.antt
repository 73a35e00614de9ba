use Rattle.std.proofs.Common.{◌∷◌, ap, refl, sym, subst, ◌∙◌}
use Rattle.node_rules.specs.NodeState.{NodeState, table_of}
use Rattle.node_rules.specs.Work.{for_each}
use Rattle.node_rules.specs.OwnerRule.{carry_all, carry_out}
use Rattle.node_parts.specs.contracts.parts.Parts.{the_view}
use Rattle.node_parts.specs.Comes.{Comes, work_of}
use Rattle.node_parts.specs.State.{PartsView, node_of}
use Rattle.node_parts.specs.Tables.{AreTidyBut, lock_tables}
use Rattle.page_owner.specs.Planned.{MayEnter, settled_of}
use Rattle.page_owner.proofs.Planned.{entered_work, entered_among}
use Rattle.page_owner.proofs.enter.enter_among.Goals as goal

pub returns-clause-comes : goal.returns-clause-comes
returns-clause-comes g c = λ t ps cs there told.
    let v : PartsView = the_view c.parts.inside in
    let had : MayEnter c.args.page v = subst (MayEnter c.args.page) (sym c.parts.view_is) c.requires.made in
    let n : NodeState = record (node_of v) { tables = lock_tables c.put.new.self.places } in
    let e = c.args.planned.entry in
    let ds = c.args.planned.decisions.items in
    let at = ap (λ (x : PartsView). node_of x) (sym c.parts.view_is) in
    let same = ap (λ k. carry_all c.args.page t (settled_of c.args.planned) (work_of k ps cs c.args.out.now)) at
    ∙ ap (λ w. for_each (carry_out c.args.page e.version) ds w)
    (entered_work v c.args.page e c.put.new.self had.config c.put.ensures.tables t ps cs c.args.out.now (ap (λ k. table_of k c.args.page) (sym at) ∙ there))
    ∙ ap (λ k. for_each (carry_out c.args.page k) ds (work_of n ps cs c.args.out.now)) (sym c.version.ensures)
    ∙ ap (λ l. for_each (carry_out c.args.page c.version.result) l (work_of n ps cs c.args.out.now)) (sym c.as_slice.ensures.value) in
    subst (λ o. Comes o c.carry_all.result (work_of (record n { home = c.carry_all.new.home }) ps cs c.carry_all.new.out)) (sym same)
    (c.carry_all.ensures.told n ps cs refl told)

pub returns-clause-parts : goal.returns-clause-parts
returns-clause-parts g c = λ ps tidy.
    let v : PartsView = the_view c.parts.inside in
    let may : MayEnter c.args.page v = subst (MayEnter c.args.page) (sym c.parts.view_is) c.requires.made in
    let tidied = subst (λ (x : PartsView). AreTidyBut (c.args.page ∷ ps) x.tables) (sym c.parts.view_is) tidy in
    entered_among v c.args.page c.args.planned.entry c.put.new.self c.carry_all.new.home ps may c.carry_all.ensures.same c.put.ensures.tables c.put.ensures.config (c.put.ensures.tidy ps tidied)
