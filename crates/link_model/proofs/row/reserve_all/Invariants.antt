use Rattle.std.proofs.Common.{◌≡◌, ℕ, ◌<◌, ◌≤◌, get_or}
use Rattle.link_model.specs.Spares.{messages_of, spares_of, NotLowerFrom}
use Rattle.link_model.proofs.row.reserve_all.Given as goal

abbrev pub invariant-loop-link : goal.invariant-loop-link
invariant-loop-link l =
    (messages_of l.links ≡ messages_of l.initial.links)
    × ((k : ℕ) → k < l.link-index → l.n ≤ get_or (spares_of l.links) k 0)
    × NotLowerFrom (spares_of l.initial.links) (spares_of l.links)
