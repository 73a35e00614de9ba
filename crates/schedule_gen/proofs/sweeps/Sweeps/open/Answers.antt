use Rattle.std.proofs.Common.{sym, subst, refl, inl}
use Rattle.std.specs.List.{AllByRecursion}
use Rattle.schedule_gen.specs.Links.{IsLink}
use Rattle.schedule_gen.proofs.LinkLemmas.{are_links}
use Rattle.schedule_gen.proofs.sweeps.Sweeps.open.Goals as goal

pub invariant_of-result : goal.invariant_of-result
invariant_of-result c = (inl refl, subst (AllByRecursion IsLink) (sym c.in_ok-links_between.ensures) (are_links c.args.live.now c.requires))
