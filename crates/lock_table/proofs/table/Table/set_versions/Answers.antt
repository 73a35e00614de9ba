use Rattle.std.proofs.Common.{◌≡◌, ◌∙◌, arith}
use Rattle.std.proofs.lemmas.List.Elements.{All-get_or}
use Rattle.lock_table.specs.Tables.{IsPageOf}
use Rattle.lock_table.proofs.Places.{page_kept, versions_step, versions_end}
use Rattle.lock_table.proofs.table.Table.set_versions.Goals as goal

pub set_version-requires : goal.set_version-requires
set_version-requires c =
    page_kept c.args.self.now c.loop-page.self _ c.loop-page.invariant.place.config c.loop-page.invariant.place.partition
    (All-get_or (λ x. IsPageOf c.args.self.now x.0) c.args.versions.now c.loop-page.page-index (0, 0) c.loop-page-test.true c.requires)

pub loop-page-preserved : goal.loop-page-preserved
loop-page-preserved c = record {
  rest = versions_step _ _ (0, 0) _ _ c.loop-page-test.true c.set_version.ensures.table ∙ c.loop-page.invariant.rest;
  made = λ p. c.set_version.ensures.made p ∙ c.loop-page.invariant.made p;
  place = record {
    config = c.set_version.ensures.place.config ∙ c.loop-page.invariant.place.config;
    partition = c.set_version.ensures.place.partition ∙ c.loop-page.invariant.place.partition;
  };
}

pub returns-clause-table : goal.returns-clause-table
returns-clause-table c = versions_end _ _ _ c.loop-page-test.false ∙ c.loop-page.invariant.rest
