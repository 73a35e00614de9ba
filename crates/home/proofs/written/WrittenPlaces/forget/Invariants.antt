use Rattle.std.proofs.Common.{◌≡◌, ◌≤◌, map, drop}
use Rattle.node_rules.specs.Words.{same_tx}
use Rattle.node_rules.specs.NodeState.{Written}
use Rattle.home.proofs.Removed.{removes}
use Rattle.home.proofs.Unpinned.{page_of}
use Rattle.home.proofs.written.WrittenPlaces.forget.Given as goal

abbrev pub invariant-loop-end : goal.invariant-loop-end
invariant-loop-end l = record {
  rest :
      removes (λ (w : Written). same_tx w.tx l.tx) (λ (w : Written). w.page) l.self.places (map page_of (drop l.end-index l.ends))
      ≡ removes (λ (w : Written). same_tx w.tx l.tx) (λ (w : Written). w.page) l.initial.self.places (map page_of l.ends);
  room : l.initial.self.spare ≤ l.self.spare;
}
