use Rattle.std.proofs.Common.{◌≡◌, List, map, set, []}
use Rattle.pcl_base.specs.declared.message.Message.{Message}
use Rattle.link_model.specs.Spares.{messages_of, spares_of, NotLower}
use Rattle.link_model.proofs.LinksLemmas.{AreCleared}
use Rattle.link_model.proofs.links.clear_all.Given as goal

-- the rows so far are cleared, each is as long as it was, and clearing makes the same of all
abbrev pub invariant-loop-row : goal.invariant-loop-row
invariant-loop-row l =
    (map (λ (row : List (List Message)). set row l.to []) (map messages_of l.rows) ≡ map (λ (row : List (List Message)). set row l.to []) (map messages_of l.initial.rows))
    × AreCleared l.rows l.to l.row-index
    × NotLower (map spares_of l.initial.rows) (map spares_of l.rows)
