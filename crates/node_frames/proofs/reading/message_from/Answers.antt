use Rattle.node_frames.proofs.ReadingLemmas.{decoded_within}
use Rattle.node_frames.proofs.reading.message_from.Goals as goal

pub message_fault-requires : goal.message_fault-requires
message_fault-requires c = decoded_within _ c.args.config.now c.args.bytes.now c.requires c.in-Err.ensures.err
