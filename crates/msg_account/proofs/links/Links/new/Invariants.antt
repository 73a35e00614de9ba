use Rattle.std.proofs.Common.{◌≡◌, [], replicate}
use Rattle.msg_account.proofs.links.Links.new.Given as goal

abbrev pub invariant-loop : goal.invariant-loop
invariant-loop l = l.rows.items ≡ replicate l.counter (replicate l.nodes [])
