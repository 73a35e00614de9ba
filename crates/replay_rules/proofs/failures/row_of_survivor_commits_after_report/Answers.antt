use mathlib.Core.Path.{refl}
use Rattle.replay_rules.proofs.Opened.{all_rules}
use Rattle.replay_rules.proofs.failures.row_of_survivor_commits_after_report.Goals as goal

pub returns : goal.returns
unfolding all_rules
returns c = refl
