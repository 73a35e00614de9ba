use Rattle.std.proofs.Common.{inl}
use Rattle.replay.proofs.Holding.{held_byte, broken_byte}
use Rattle.replay.proofs.run.take_byte.Goals as goal

pub returns-in-Err-clause-took : goal.returns-in-Err-clause-took
returns-in-Err-clause-took g c = inl c.give_up.ensures.part

pub returns-in-Err-store-clause-took : goal.returns-in-Err-store-clause-took
returns-in-Err-store-clause-took g c =
    broken_byte c.args.reader.now c.feed.new.self c.args.byte c.args.text.now c.feed.new.text _ _ c.args.held.now c.in-Ok.status c.requires c.in-Ok.ensures.told c.in-Err-store.ensures.stored

pub returns-in-Ok-store-clause-took : goal.returns-in-Ok-store-clause-took
returns-in-Ok-store-clause-took g c =
    let stored = c.in-Ok-store.ensures.stored in
    (stored.0, held_byte c.args.reader.now c.feed.new.self c.args.byte c.args.text.now c.feed.new.text _ _ c.args.held.now c.store.new.held c.in-Ok.status c.requires c.in-Ok.ensures.told stored.1)
