use Rattle.std.proofs.Common.{◌∙◌, sym}
use Rattle.node_rules.specs.Reports.{own_report}
use Rattle.rebuild.specs.Parts.{home_of}
use Rattle.rebuild.proofs.TakenOver.{own_taken}
use Rattle.rebuild.proofs.reporting.own_report.Goals as goal

pub returns-clause-taken : goal.returns-clause-taken
unfolding own_report
returns-clause-taken c = λ rs w.
    (λ i. record { partition = c.args.partition; waits = c.in_ok-locks.ensures.waits i; locks = c.in_ok-locks.ensures.locks i; rights = c.new.ensures i })
    ∙ sym (own_taken c.args.partition (home_of c.args.config.now c.args.txs.now rs c.args.pool.now w))
