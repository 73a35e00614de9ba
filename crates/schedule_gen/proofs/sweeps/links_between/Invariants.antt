use Rattle.std.proofs.Common.{◌≡◌, ◌++◌, drop}
use Rattle.std.specs.List.{flat_map}
use Rattle.schedule_gen.specs.Links.{links_from, links_of}
use Rattle.schedule_gen.proofs.sweeps.links_between.Given as goal

abbrev pub invariant-loop-from : goal.invariant-loop-from
invariant-loop-from l = l.links.items ++ flat_map (λ x. links_from x l.live) (drop l.from-index l.live) ≡ links_of l.live
