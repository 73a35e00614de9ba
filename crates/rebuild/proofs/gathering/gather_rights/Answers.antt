use Rattle.std.proofs.Common.{◌∙◌, nat_eq}
use Rattle.std.proofs.lemmas.List.Elements.{All-get_or}
use Rattle.lock_table.specs.Tables.{IsPageOf}
use Rattle.lock_table.proofs.Places.{page_kept}
use Rattle.rebuild.proofs.Gathered.{rights_step, rights_end}
use Rattle.rebuild.proofs.Made.{made_step, made_end}
use Rattle.rebuild.proofs.gathering.gather_rights.Goals as goal

pub gather_right-requires : goal.gather_right-requires
gather_right-requires c =
    page_kept c.args.t.now c.loop-right.t _ c.loop-right.invariant.place.config c.loop-right.invariant.place.partition
    (All-get_or (λ x. IsPageOf c.args.t.now x.page) c.args.rights.now c.loop-right.right-index _ c.loop-right-test.true c.requires)

pub loop-right-preserved : goal.loop-right-preserved
loop-right-preserved c = record {
  rest = rights_step c.args.from _ _ _ _ _ c.loop-right-test.true c.in_ok-gather_right.ensures.table ∙ c.loop-right.invariant.rest;
  made = λ p. made_step (λ x. nat_eq p x.page) c.args.rights.now c.loop-right.right-index _ _ _ _ c.loop-right-test.true (c.in_ok-gather_right.ensures.made p) (c.loop-right.invariant.made p);
  place = record {
    config = c.in_ok-gather_right.ensures.place.config ∙ c.loop-right.invariant.place.config;
    partition = c.in_ok-gather_right.ensures.place.partition ∙ c.loop-right.invariant.place.partition;
  };
}

pub returns-clause-table : goal.returns-clause-table
returns-clause-table c = rights_end c.args.from _ _ _ c.loop-right-test.false ∙ c.loop-right.invariant.rest

pub returns-clause-made : goal.returns-clause-made
returns-clause-made c = λ p. made_end (λ x. nat_eq p x.page) _ _ _ _ c.loop-right-test.false (c.loop-right.invariant.made p)
