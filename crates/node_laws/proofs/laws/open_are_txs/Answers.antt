use Rattle.node_laws.proofs.Readers.{open_are_txs_law}
use Rattle.node_laws.proofs.laws.open_are_txs.Goals as goal

pub returns : goal.returns
returns c = open_are_txs_law
