use Rattle.home.proofs.HeldPages.{held_is_open}
use Rattle.home.proofs.turns.turn_lock.Goals as goal

pub set_kind-requires-clause-open : goal.set_kind-requires-clause-open
set_kind-requires-clause-open c = held_is_open c.args.txs.now c.args.tx c.args.page c.requires
