use Rattle.install_laws.proofs.Alone.{entries_settle_alone_law}
use Rattle.install_laws.proofs.laws.entries_settle_alone.Goals as goal

pub returns : goal.returns
returns c = entries_settle_alone_law
