use Rattle.std.proofs.Common.{◌≡◌, drop}
use Rattle.std.specs.List.{fold}
use Rattle.node_rules.specs.OpenTxs.{held_by}
use Rattle.node_rules.specs.BufferRule.{publish}
use Rattle.node_rules.specs.EndRule.{is_own_lock}
use Rattle.home_laws.specs.EndNeeds.{MayPublish}
use Rattle.home.proofs.publish.publish_all.Given as goal

abbrev pub invariant-loop-page : goal.invariant-loop-page
invariant-loop-page l = record {
  rest : fold (λ b p. publish b l.tx p (is_own_lock (held_by l.txs l.tx p))) l.pool (drop l.page-index l.pages) ≡ fold (λ b p. publish b l.tx p (is_own_lock (held_by l.txs l.tx p))) l.initial.pool l.pages;
  may : MayPublish l.tx (drop l.page-index l.pages) l.pool;
}
