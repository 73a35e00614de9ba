use Rattle.std.proofs.Common.{◌≡◌, [], replicate}
use Rattle.link_model.specs.Spares.{messages_of}
use Rattle.link_model.proofs.row.Row.new.Given as goal

abbrev pub invariant-loop : goal.invariant-loop
invariant-loop l = messages_of l.links.items ≡ replicate l.counter []
