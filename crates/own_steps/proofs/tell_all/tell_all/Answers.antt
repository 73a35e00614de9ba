use Rattle.std.proofs.Common.{◌<◌, map, sym, subst}
use Rattle.std.specs.List.{AllByRecursion}
use Rattle.own_steps.specs.Ends.{AwaitsEnds, due}
use Rattle.own_steps.proofs.EndRules.{ends_below}
use Rattle.own_steps.proofs.EndsTold.{awaits_home}
use Rattle.own_steps.proofs.tell_all.tell_all.Goals as goal

pub clean_copies-requires-clause-below : goal.clean_copies-requires-clause-below
clean_copies-requires-clause-below g c =
    subst (AllByRecursion (λ e. e.page < c.args.parts.now.home.config.pages)) (sym c.as_slice.ensures.value) (ends_below c.args.parts.now.home.config c.args.ends.items c.requires.awaits.below)

pub tell_ends-requires-clause-awaits : goal.tell_ends-requires-clause-awaits
tell_ends-requires-clause-awaits g c =
    subst (λ v. AwaitsEnds v c.args.tx (map due c.args.ends.items) c.args.plans.items) (sym c.clean_copies.ensures.rest)
    (awaits_home c.args.parts.now c.clean_copies.new.parts.home c.args.tx (map due c.args.ends.items) c.args.plans.items c.clean_copies.ensures.same c.requires.awaits)
