use Rattle.std.proofs.Common.{◌∙◌, nat_eq}
use Rattle.std.proofs.lemmas.List.Elements.{All-get_or}
use Rattle.lock_table.specs.Tables.{IsPageOf}
use Rattle.lock_table.proofs.Places.{page_kept}
use Rattle.rebuild.proofs.Gathered.{waits_step, waits_end}
use Rattle.rebuild.proofs.Made.{made_step, made_end}
use Rattle.rebuild.proofs.gathering.gather_waits.Goals as goal

pub gather_wait-requires : goal.gather_wait-requires
gather_wait-requires c =
    page_kept c.args.t.now c.loop-wait.t _ c.loop-wait.invariant.place.config c.loop-wait.invariant.place.partition
    (All-get_or (λ x. IsPageOf c.args.t.now x.page) c.args.waits.now c.loop-wait.wait-index _ c.loop-wait-test.true c.requires)

pub loop-wait-preserved : goal.loop-wait-preserved
loop-wait-preserved c = record {
  rest = waits_step _ _ _ _ _ c.loop-wait-test.true c.in_ok-gather_wait.ensures.table ∙ c.loop-wait.invariant.rest;
  made = λ p. made_step (λ x. nat_eq p x.page) c.args.waits.now c.loop-wait.wait-index _ _ _ _ c.loop-wait-test.true (c.in_ok-gather_wait.ensures.made p) (c.loop-wait.invariant.made p);
  place = record {
    config = c.in_ok-gather_wait.ensures.place.config ∙ c.loop-wait.invariant.place.config;
    partition = c.in_ok-gather_wait.ensures.place.partition ∙ c.loop-wait.invariant.place.partition;
  };
}

pub returns-clause-table : goal.returns-clause-table
returns-clause-table c = waits_end _ _ _ c.loop-wait-test.false ∙ c.loop-wait.invariant.rest

pub returns-clause-made : goal.returns-clause-made
returns-clause-made c = λ p. made_end (λ x. nat_eq p x.page) _ _ _ _ c.loop-wait-test.false (c.loop-wait.invariant.made p)
