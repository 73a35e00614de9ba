-- The laws are lemmas.
use Rattle.replay_laws.proofs.Quiet.{totals_quiet}
use Rattle.replay_laws.proofs.WholeRuns.{totals_told}
use Rattle.replay_laws.proofs.laws.totals_are_of_the_trace.Goals as goal

pub returns : goal.returns
returns c = record { same = totals_told; alone = totals_quiet }
