use Rattle.partition_redo.proofs.Written.{newer_are_written}
use Rattle.partition_redo.proofs.laws.newer_are_written.Goals as goal

pub returns : goal.returns
returns c = newer_are_written
