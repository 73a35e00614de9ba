use Rattle.install_plans.proofs.Named.{reports_name_their_own_law}
use Rattle.install_plans.proofs.laws.reports_name_their_own.Goals as goal

pub returns : goal.returns
returns c = reports_name_their_own_law
