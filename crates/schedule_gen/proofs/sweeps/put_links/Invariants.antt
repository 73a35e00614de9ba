use Rattle.std.proofs.Common.{◌≡◌, ◌++◌, drop}
use Rattle.schedule_gen.specs.Links.{links_from}
use Rattle.schedule_gen.proofs.sweeps.put_links.Given as goal

abbrev pub invariant-loop-to : goal.invariant-loop-to
invariant-loop-to l = l.links.items ++ links_from l.from (drop l.to-index l.live) ≡ l.initial.links.items ++ links_from l.from l.live
