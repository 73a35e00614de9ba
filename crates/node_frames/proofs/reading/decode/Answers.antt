use Rattle.node_frames.proofs.ReadingLemmas.{line_frame_of}
use Rattle.node_frames.proofs.reading.decode.Goals as goal

pub returns-in-76-clause-is_frame : goal.returns-in-76-clause-is_frame
returns-in-76-clause-is_frame c = line_frame_of _ c.args.config.now c.args.me c.line_of.ensures.is_frame
