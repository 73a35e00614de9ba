use Rattle.std.proofs.Common.{◌≡◌, true, is_some, drop}
use Rattle.std.specs.List.{All}
use Rattle.node_rules.specs.OpenTxs.{held_by}
use Rattle.node_rules.specs.AccessRule.{kinds_on}
use Rattle.home.proofs.kinds.set_kinds.Given as goal

abbrev pub invariant-loop-holder : goal.invariant-loop-holder
invariant-loop-holder l = record {
  rest : kinds_on l.txs (drop l.holder-index l.holders) l.page l.kind ≡ kinds_on l.initial.txs l.holders l.page l.kind;
  held : All (λ t. is_some (held_by l.txs t l.page) ≡ true) l.holders;
}
