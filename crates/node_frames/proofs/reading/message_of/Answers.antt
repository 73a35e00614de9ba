use Rattle.node_frames.proofs.ReadingLemmas.{message_frame_of}
use Rattle.node_frames.proofs.reading.message_of.Goals as goal

pub returns-in-Ok-clause-is_frame : goal.returns-in-Ok-clause-is_frame
returns-in-Ok-clause-is_frame c =
    message_frame_of _ c.args.config.now c.in-Ok.from c.args.me c.message_from.ensures.is_frame c.in-Ok.ensures.is_node c.in-Ok.ensures.is_other
