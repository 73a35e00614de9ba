use Rattle.serving_parts.proofs.Turning.{next_of_fault}
use Rattle.serving_parts.proofs.frames.next_frame.Goals as goal

pub returns-in-Err : goal.returns-in-Err
returns-in-Err g c = next_of_fault c.in-Err.fault c.in-Err.ensures.read
