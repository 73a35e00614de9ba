use Rattle.std.proofs.Common.{◌≡◌, true, drop}
use Rattle.std.specs.List.{All, fold}
use Rattle.node_rules.specs.OpenTxs.{is_own, change_tx}
use Rattle.home_laws.specs.Homes.{AreSerials}
use Rattle.home.specs.Moves.{with_kinds}
use Rattle.home.proofs.turns.turn_all.Given as goal

abbrev pub invariant-loop-name : goal.invariant-loop-name
invariant-loop-name l = record {
  rest : fold (λ s t. change_tx (with_kinds l.config l.partition l.kind) s t) l.txs (drop l.name-index l.names) ≡ fold (λ s t. change_tx (with_kinds l.config l.partition l.kind) s t) l.initial.txs l.names;
  own : All (λ t. is_own l.txs t ≡ true) l.names;
  serials : AreSerials 0 l.txs.last l.txs.txs;
}
