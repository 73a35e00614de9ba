use Rattle.std.proofs.Common.{◌≡◌, ◌≤◌, ◌++◌, length, take, drop, arith, sym, subst, ap}
use Rattle.std.proofs.lemmas.Grind.{common_steps}
use Rattle.text_rules.specs.Generator.{Making}
use Rattle.schedule_gen.specs.Owners.{AreRenewed}
use Rattle.schedule_gen.proofs.LimitLemmas.{few_lost, lost_within, others}
use Rattle.schedule_gen.proofs.kept.Kept.drop_node.Goals as goal

pub renew_owners-requires : goal.renew_owners-requires
renew_owners-requires c =
    let live : c.self.inside.live.items ≡ c.args.self.now.live = ap (λ (s : Making). s.live) c.self.view_is in
    let some : 2 ≤ length c.self.inside.live.items = subst (λ l. 2 ≤ length l) (sym live) c.requires.left in
    let left = few_lost c.args.lost c.self.inside.live.items c.self.invariant.rising in
    rw (c.as_slice.ensures.value, c.take_out.ensures) (omega (arith, some, left))

pub invariant_of-self : goal.invariant_of-self
invariant_of-self c =
    let live : c.self.inside.live.items ≡ c.args.self.now.live = ap (λ (s : Making). s.live) c.self.view_is in
    let some : 2 ≤ length c.self.inside.live.items = subst (λ l. 2 ≤ length l) (sym live) c.requires.left in
    let whole : take c.self.inside.owners.len (c.renew_owners.new.owners ++ drop (length c.renew_owners.new.owners) c.self.inside.owners.items) ≡ c.renew_owners.new.owners = grind (arith, common_steps, c.renew_owners.ensures.as_many, c.as_mut_slice.ensures.value, c.as_mut_slice.ensures.len) in
    let renewed : AreRenewed c.args.lost c.self.inside.draws c.renew_owners.new.draws (others c.args.lost c.self.inside.live.items) c.self.inside.owners.items c.renew_owners.new.owners = rw (← c.take_out.ensures, ← c.as_slice.ensures.value, ← c.as_mut_slice.ensures.value) c.renew_owners.ensures.renewed in
    rw (whole, c.take_out.ensures) (lost_within c.args.lost c.renew_owners.new.draws c.renew_owners.new.owners (record { draws = c.self.inside.draws; live = c.self.inside.live.items; owners = c.self.inside.owners.items; serials = c.self.inside.serials.items }) c.self.invariant some renewed)
