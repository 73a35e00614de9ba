use Rattle.std.proofs.Common.{◌==◌, ◌%◌, ◌∙◌}
use Rattle.home.specs.Moves.{spend_if}
use Rattle.home.proofs.Spending.{pairs_next}
use Rattle.home.proofs.turns.spend_rights.Goals as goal

pub loop-right-preserved : goal.loop-right-preserved
loop-right-preserved c =
    record {
      rest =
          pairs_next (λ rs p. spend_if (p % c.args.config.now.nodes == c.args.partition) rs p) c.args.rights.now c.loop-right.right-index (0, 0) c.loop-right.shelf.rights c.spend_right.new.shelf.rights c.loop-right-test.true c.spend_right.ensures.rights
          ∙ c.loop-right.invariant.rest;
      spare = c.spend_right.ensures.spare ∙ c.loop-right.invariant.spare;
    }
