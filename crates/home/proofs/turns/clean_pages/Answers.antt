use Rattle.std.proofs.Common.{◌+◌, ◌*◌, ◌/◌, ap, sym, ◌∙◌, arith}
use Rattle.home.specs.Moves.{clean_if}
use Rattle.home.proofs.Turning.{in_part}
use Rattle.home.proofs.Cleaning.{visit_next, visit_over, all_cleaned}
use Rattle.home.proofs.turns.clean_pages.Goals as goal

pub loop-turn-preserved : goal.loop-turn-preserved
loop-turn-preserved c =
    let page = ap (λ n. n + c.loop-turn.turn * c.nodes-nodes.result) c.from.ensures ∙ ap (λ n. c.args.partition + c.loop-turn.turn * n) c.nodes-nodes.ensures.value in
    let changed = c.clean_page.ensures ∙ ap (λ p. clean_if (in_part c.args.config.now c.args.partition p) c.loop-turn.pool p) page in
    record {
      rest =
          visit_next c.args.config.now c.args.partition c.loop-turn.turn (c.pages.result / c.nodes-nodes.result + 1) c.loop-turn.pool c.clean_page.new.pool c.loop-turn-test.true changed
          ∙ c.loop-turn.invariant.rest;
      end = c.loop-turn.invariant.end;
      nodes = c.loop-turn.invariant.nodes;
      some = c.loop-turn.invariant.some;
      small = c.loop-turn.invariant.small;
    }

pub returns : goal.returns
returns c =
    sym (visit_over c.args.config.now c.args.partition c.loop-turn.turn (c.pages.result / c.nodes-nodes.result + 1) c.loop-turn.pool c.loop-turn-test.false)
    ∙ c.loop-turn.invariant.rest ∙ all_cleaned c.args.config.now c.args.partition c.args.pool.now (omega (arith, c.loop-turn.invariant.some)) c.requires
