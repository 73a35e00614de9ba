use Rattle.std.proofs.Common.{◌≤◌, length}
use Rattle.file_store.proofs.files.read_padded.Given as goal

abbrev pub invariant-loop : goal.invariant-loop
invariant-loop g l = l.done ≤ length l.out
