use Rattle.std.proofs.Common.{◌≡◌, ap, sym, ◌∙◌}
use Rattle.node_rules.specs.BufferRule.{clean}
use Rattle.node_rules.specs.Work.{with_pool}
use Rattle.home.specs.Device.{work_on}
use Rattle.home.specs.Parts.{PartsView}
use Rattle.home.proofs.WriteBack.{written_home, unwritten}
use Rattle.home.proofs.Making.{made_as, made_none}
use Rattle.home.proofs.Victims.{with_home_as}
use Rattle.home.proofs.parts.Parts.write_back.Goals as goal

pub returns-then-not-is_dirty-clause-home : goal.returns-then-not-is_dirty-clause-home
returns-then-not-is_dirty-clause-home g c =
    let clean = sym c.is_dirty.ensures ∙ c.if-not-is_dirty.true in
    with_home_as c.args.self.now _ _ (ap (λ w. w.home) (sym (unwritten c.args.page (work_on c.args.self.now.home) clean)))

pub returns-then-not-is_dirty-clause-made : goal.returns-then-not-is_dirty-clause-made
returns-then-not-is_dirty-clause-made g c =
    let clean = sym c.is_dirty.ensures ∙ c.if-not-is_dirty.true in
    made_as _ c.args.going c.args.going _ _ _ _ (ap (λ w. w.calls) (unwritten c.args.page (work_on c.args.self.now.home) clean)) (made_none _ c.args.going _)

pub returns-then-not-going-clause-home : goal.returns-then-not-going-clause-home
returns-then-not-going-clause-home g c =
    let dirty = sym c.is_dirty.ensures ∙ c.if-not-is_dirty.false in
    c.clean.ensures ∙ with_home_as c.args.self.now _ _ (sym (written_home c.args.page (work_on c.args.self.now.home) dirty))

pub returns-clause-home : goal.returns-clause-home
returns-clause-home g c =
    let dirty = sym c.is_dirty.ensures ∙ c.if-not-is_dirty.false in
    let same : c.write_copy-written.new.self ≡ c.args.self.now = c.write_copy-written.ensures.same in
    let home : c.write_copy-written.new.self.home ≡ c.args.self.now.home = ap (λ v. v.home) same in
    c.clean-2.ensures ∙ ap {A = PartsView} (λ v. record v { home = with_pool v.home (clean v.home.pool c.args.page) }) same
    ∙ with_home_as c.args.self.now _ _ (sym (written_home c.args.page (work_on c.args.self.now.home) dirty))
