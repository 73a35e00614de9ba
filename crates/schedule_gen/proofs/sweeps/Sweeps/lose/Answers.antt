use Rattle.std.proofs.Common.{sym, subst, refl, inl}
use Rattle.std.specs.List.{AllByRecursion}
use Rattle.schedule_gen.specs.Links.{IsLink, avoids}
use Rattle.schedule_gen.proofs.LimitLemmas.{all_filter}
use Rattle.schedule_gen.proofs.sweeps.Sweeps.lose.Goals as goal

pub invariant_of-self : goal.invariant_of-self
invariant_of-self c = (inl refl, subst (AllByRecursion IsLink) (sym c.take_out.ensures) (all_filter IsLink (avoids c.args.lost) c.self.inside.links.items c.self.invariant.1))
