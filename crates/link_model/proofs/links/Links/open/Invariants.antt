use Rattle.std.proofs.Common.{◌≡◌, [], map, replicate}
use Rattle.link_model.specs.Spares.{messages_of}
use Rattle.link_model.proofs.links.Links.open.Given as goal

abbrev pub invariant-loop : goal.invariant-loop
invariant-loop l = map messages_of l.rows.items ≡ replicate l.counter (replicate l.nodes [])
