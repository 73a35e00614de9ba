use Rattle.std.proofs.Common.{◌∙◌, nat_eq}
use Rattle.std.proofs.lemmas.List.Elements.{All-get_or}
use Rattle.lock_table.specs.Tables.{IsPageOf}
use Rattle.lock_table.proofs.Places.{page_kept}
use Rattle.rebuild.proofs.Gathered.{locks_step, locks_end}
use Rattle.rebuild.proofs.Made.{made_step, made_end}
use Rattle.rebuild.proofs.gathering.gather_locks.Goals as goal

pub gather_lock-requires : goal.gather_lock-requires
gather_lock-requires c =
    page_kept c.args.t.now c.loop-lock.t _ c.loop-lock.invariant.place.config c.loop-lock.invariant.place.partition
    (All-get_or (λ x. IsPageOf c.args.t.now x.page) c.args.locks.now c.loop-lock.lock-index _ c.loop-lock-test.true c.requires)

pub loop-lock-preserved : goal.loop-lock-preserved
loop-lock-preserved c = record {
  rest = locks_step _ _ _ _ _ c.loop-lock-test.true c.in_ok-gather_lock.ensures.table ∙ c.loop-lock.invariant.rest;
  made = λ p. made_step (λ x. nat_eq p x.page) c.args.locks.now c.loop-lock.lock-index _ _ _ _ c.loop-lock-test.true (c.in_ok-gather_lock.ensures.made p) (c.loop-lock.invariant.made p);
  place = record {
    config = c.in_ok-gather_lock.ensures.place.config ∙ c.loop-lock.invariant.place.config;
    partition = c.in_ok-gather_lock.ensures.place.partition ∙ c.loop-lock.invariant.place.partition;
  };
}

pub returns-clause-table : goal.returns-clause-table
returns-clause-table c = locks_end _ _ _ c.loop-lock-test.false ∙ c.loop-lock.invariant.rest

pub returns-clause-made : goal.returns-clause-made
returns-clause-made c = λ p. made_end (λ x. nat_eq p x.page) _ _ _ _ c.loop-lock-test.false (c.loop-lock.invariant.made p)
