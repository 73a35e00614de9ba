-- Reads and writes.
use Rattle.std.proofs.Common.{ℕ, List}
use Rattle.pcl_base.specs.declared.tx.TxId.{TxId}
use Rattle.node_rules.specs.NodeState.{Read, Write}
use Rattle.settle_relation.proofs.Turns.{settle_keeps}
use Rattle.end_relation.specs.Access.Midway.{SettleKeeps}
use Rattle.end_relation.proofs.AccessParts.Whole.{read_is_kept_law, write_is_kept_law}
use Rattle.whole_runs.specs.Act.Acted.{ActKeeps}
use Rattle.whole_runs.proofs.ActParts.Steps.{unstopped}

settles : SettleKeeps
settles b c e n p q acts order low inside = settle_keeps b c e n p acts order low q inside

pub read_acts : (blank : List ℕ) (t : TxId) (q : ℕ) → ActKeeps blank (Read t q)
read_acts blank t q c e n s w is whole p low =
    read_is_kept_law c e n p q t s w blank (is.related.pages.page p) settles is.related.cluster is.related.order is.related.asked whole.handed (unstopped c e n s (Read t q) w whole) whole.goes low
    (is.related.pages.reached p low) (is.between.entered p low) (is.related.pages.related p low)

pub write_acts : (blank : List ℕ) (t : TxId) (q place : ℕ) (piece : List ℕ) → ActKeeps blank (Write t q place piece)
write_acts blank t q place piece c e n s w is whole p low =
    write_is_kept_law c e n p q place piece t s w blank (is.related.pages.page p) settles is.related.cluster is.related.order is.related.asked whole.handed
    (unstopped c e n s (Write t q place piece) w whole) whole.goes low (is.related.pages.reached p low) (is.between.entered p low) (is.related.pages.related p low)
