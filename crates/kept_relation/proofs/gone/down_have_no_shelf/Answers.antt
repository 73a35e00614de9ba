use Rattle.kept_relation.proofs.Unlisted.{down_have_no_shelf_law}
use Rattle.kept_relation.proofs.gone.down_have_no_shelf.Goals as goal

pub returns : goal.returns
returns c = down_have_no_shelf_law
