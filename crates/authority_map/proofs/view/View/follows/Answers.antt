use Rattle.std.proofs.Common.{rules, ◌≡◌, length, Some, None, sym, ◌∙◌}
use Rattle.run_rules.specs.Views.{first_broken}
use Rattle.authority_map.specs.Sound.{of_nodes}
use Rattle.authority_map.proofs.Stays.{follows_none, follows_some, broken_nodes}
use Rattle.authority_map.proofs.view.View.follows.Goals as goal

pub returns-in-Some : goal.returns-in-Some
returns-in-Some c = λ k e.
    let h : first_broken (of_nodes (length c.args.before.now.live)) c.args.before.now c.args.self.now.live c.args.self.now.owners ≡ Some c.in-Some.field-0 = search rules in
    sym (follows_some k c.args.before.now c.args.self.now c.in-Some.field-0 (sym (broken_nodes k c.args.before.now c.args.self.now.live c.args.self.now.owners e) ∙ h))

pub returns-in-None : goal.returns-in-None
returns-in-None c = λ k e.
    let h : first_broken (of_nodes (length c.args.before.now.live)) c.args.before.now c.args.self.now.live c.args.self.now.owners ≡ None = search rules in
    c.is_after.ensures ∙ sym (follows_none k c.args.before.now c.args.self.now (sym (broken_nodes k c.args.before.now c.args.self.now.live c.args.self.now.owners e) ∙ h))
