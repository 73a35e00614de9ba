use Rattle.replay.proofs.EqualEvents.{event_decides}
use Rattle.replay.proofs.added.is_of.Goals as goal

pub returns : goal.returns
returns c = event_decides c.args.entry.now.event c.args.event.now c.eq.result c.eq.ensures
