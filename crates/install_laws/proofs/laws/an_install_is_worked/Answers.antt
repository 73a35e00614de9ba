use Rattle.install_laws.proofs.Rows.{install_row}
use Rattle.install_laws.proofs.laws.an_install_is_worked.Goals as goal

pub returns : goal.returns
returns c = install_row
