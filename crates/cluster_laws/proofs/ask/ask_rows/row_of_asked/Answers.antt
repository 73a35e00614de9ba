use mathlib.Core.Path.{refl}
use Rattle.cluster_rules.proofs.Opened.{cluster_rules}
use Rattle.cluster_laws.specs.Ask.Asked.{asked_last}
use Rattle.cluster_laws.proofs.ask.ask_rows.row_of_asked.Goals as goal

pub returns : goal.returns
unfolding cluster_rules asked_last
returns c = record { written = refl; by_another = refl; refused = refl; granted = refl; read = refl; waits = refl }
