use Rattle.std.proofs.Common.{length}
use Rattle.read_right.proofs.shelf.Shelf.forfeit_all.Given as goal

abbrev pub decreases-loop-page : goal.decreases-loop-page
decreases-loop-page l = length l.rights.entries
