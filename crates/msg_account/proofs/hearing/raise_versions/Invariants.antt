use Rattle.std.proofs.Common.{◌≡◌, drop}
use Rattle.std.specs.List.{filter, fold}
use Rattle.run_rules.specs.Words.{same_tx}
use Rattle.run_rules.specs.Ledger.{Of}
use Rattle.run_rules.specs.Taking.{one_more}
use Rattle.msg_account.proofs.hearing.raise_versions.Given as goal

abbrev pub invariant-loop-pair : goal.invariant-loop-pair
invariant-loop-pair l =
    fold one_more l.versions (filter (λ (x : Of). same_tx x.tx l.tx) (drop l.pair-index l.done))
    ≡ fold one_more l.initial.versions (filter (λ (x : Of). same_tx x.tx l.tx) l.done)
