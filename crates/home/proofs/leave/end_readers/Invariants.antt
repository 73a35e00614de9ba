use Rattle.std.proofs.Common.{◌≡◌, map, drop}
use Rattle.std.specs.List.{fold}
use Rattle.node_rules.specs.Shelf.{end_reader}
use Rattle.home.proofs.Unpinned.{page_of}
use Rattle.home.proofs.leave.end_readers.Given as goal

abbrev pub invariant-loop-end : goal.invariant-loop-end
invariant-loop-end l = record {
  rest : fold (λ rs p. end_reader rs p l.tx) l.shelf.rights (map page_of (drop l.end-index l.ends)) ≡ fold (λ rs p. end_reader rs p l.tx) l.initial.shelf.rights (map page_of l.ends);
  spare : l.shelf.spare ≡ l.initial.shelf.spare;
}
