use Rattle.std.proofs.Common.{◌≡◌, Some, None, IsSome, refl, ap, sym, subst, ◌∙◌}
use Rattle.node_rules.specs.Shelf.{right_on, readers_of}
use Rattle.read_right.specs.Seen.{right_of}
use Rattle.read_right.proofs.Entries.{found_now, spent_now, others_now}
use Rattle.read_right.proofs.Sound.{sound_removed}
use Rattle.read_right.proofs.shelf.Shelf.turn.Goals as goal

pub invariant_of-self : goal.invariant_of-self
invariant_of-self c = sound_removed c.args.page c.self.inside.rights.entries _ _ _ _ _ _ c.self.invariant c.shift_remove.ensures.entries c.shift_remove.ensures.room.0

pub returns-in-Some-clause-turned : goal.returns-in-Some-clause-turned
returns-in-Some-clause-turned c =
    let there : right_on c.args.self.now.rights c.args.page ≡ Some (right_of (c.args.page, c.in-Some.right)) =
    found_now c.args.page c.self.inside.rights.entries (Some c.in-Some.right) c.args.self.now.rights (ap (λ v. v.rights) c.self.view_is) (sym c.in-Some.ensures.value) in
    (subst IsSome (sym there) refl, c.of.ensures ∙ ap readers_of (sym there))

pub returns-in-Some-clause-spent : goal.returns-in-Some-clause-spent
returns-in-Some-clause-spent c =
    spent_now c.args.page c.self.inside.rights.entries _ c.args.self.now.rights (ap (λ v. v.rights) c.self.view_is) c.shift_remove.ensures.entries c.shift_remove.ensures.updates.1

pub returns-in-Some-clause-others : goal.returns-in-Some-clause-others
returns-in-Some-clause-others c =
    others_now c.args.page c.self.inside.rights.entries _ c.args.self.now.marks (ap (λ v. v.marks) c.self.view_is) c.shift_remove.ensures.updates.2

pub returns-in-None-clause-turned : goal.returns-in-None-clause-turned
returns-in-None-clause-turned c =
    found_now c.args.page c.self.inside.rights.entries None c.args.self.now.rights (ap (λ v. v.rights) c.self.view_is) (sym c.in-None.ensures.value)

pub returns-in-None-clause-spent : goal.returns-in-None-clause-spent
returns-in-None-clause-spent c =
    spent_now c.args.page c.self.inside.rights.entries _ c.args.self.now.rights (ap (λ v. v.rights) c.self.view_is) c.shift_remove.ensures.entries c.shift_remove.ensures.updates.1

pub returns-in-Some-clause-gone : goal.returns-in-Some-clause-gone
returns-in-Some-clause-gone c = found_now c.args.page _ None _ refl c.shift_remove.ensures.updates.1

pub returns-in-None-clause-gone : goal.returns-in-None-clause-gone
returns-in-None-clause-gone c = found_now c.args.page _ None _ refl c.shift_remove.ensures.updates.1
