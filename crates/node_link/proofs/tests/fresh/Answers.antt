use Rattle.node_link.proofs.Opened.{opened_if}
use Rattle.node_link.proofs.tests.fresh.Goals as goal

pub returns : goal.returns
returns c = opened_if c.args.config.now c.open.result c.open.ensures
