use Rattle.rule_laws.proofs.Turns.{revokes_all_law}
use Rattle.rule_laws.proofs.settling.revokes_all.Goals as goal

pub returns : goal.returns
returns c = revokes_all_law
