use Rattle.std.proofs.Common.{◌≡◌, ◌==◌, ◌%◌, map, drop}
use Rattle.std.specs.List.{fold}
use Rattle.home.specs.Moves.{spend_if}
use Rattle.home.proofs.Spending.{page_pair}
use Rattle.home.proofs.turns.spend_rights.Given as goal

abbrev pub invariant-loop-right : goal.invariant-loop-right
invariant-loop-right l = record {
  rest : fold (λ rs p. spend_if (p % l.config.nodes == l.partition) rs p) l.shelf.rights (map page_pair (drop l.right-index l.rights)) ≡ fold (λ rs p. spend_if (p % l.config.nodes == l.partition) rs p) l.initial.shelf.rights (map page_pair l.rights);
  spare : l.shelf.spare ≡ l.initial.shelf.spare;
}
