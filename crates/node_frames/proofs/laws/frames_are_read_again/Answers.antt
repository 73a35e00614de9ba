use Rattle.node_frames.proofs.Again.{bodies_again, frames_again}
use Rattle.node_frames.proofs.laws.frames_are_read_again.Goals as goal

pub returns : goal.returns
returns c = record { bodies = bodies_again c.written_is_read_again.ensures; frames = frames_again }
