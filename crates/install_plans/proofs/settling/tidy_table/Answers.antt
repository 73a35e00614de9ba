use Rattle.std.proofs.Common.{◌≡◌, ◌<◌, ◌∙◌, refl, sym, subst}
use Rattle.std.proofs.lemmas.List.Elements.{All-get_or}
use Rattle.std.specs.List.{All}
use Rattle.lock_table.specs.Tables.{IsPageOf, pages_made}
use Rattle.lock_table.proofs.Places.{page_kept}
use Rattle.install_plans.proofs.Settled.{AreLeft, left_first, left_step, left_end, made_own, used_given_up}
use Rattle.install_plans.proofs.settling.tidy_table.Goals as goal

pub loop-page-init : goal.loop-page-init
loop-page-init c =
    let t = c.args.t.now in
    let within : t.partition < t.config.nodes = subst (λ s. t.partition < s.nodes) c.requires.table.config c.requires.table.partition in
    let listed : c.as_slice-page-items.result.now ≡ pages_made t = c.as_slice-page-items.ensures.value ∙ c.in_ok-pages.ensures.listed in
    record {
      table = refl;
      left = subst (AreLeft t) (sym listed) (left_first t within c.in_ok-pages.ensures.own);
      place = record { config = refl; partition = refl };
    }

pub tidy-requires : goal.tidy-requires
tidy-requires c =
    let t = c.args.t.now in
    let within : t.partition < t.config.nodes = subst (λ s. t.partition < s.nodes) c.requires.table.config c.requires.table.partition in
    let listed : c.as_slice-page-items.result.now ≡ pages_made t = c.as_slice-page-items.ensures.value ∙ c.in_ok-pages.ensures.listed in
    page_kept t c.loop-page.t _ c.loop-page.invariant.place.config c.loop-page.invariant.place.partition
    (All-get_or (IsPageOf t) c.as_slice-page-items.result.now c.loop-page.page-index 0 c.loop-page-test.true (subst (All (IsPageOf t)) (sym listed) (made_own t within)))

pub loop-page-preserved : goal.loop-page-preserved
loop-page-preserved c = record {
  table = c.tidy.ensures.table ∙ c.loop-page.invariant.table;
  left = left_step c.as_slice-page-items.result.now c.loop-page.page-index 0 c.loop-page.t c.tidy.new.self c.loop-page-test.true c.loop-page.invariant.left
      (used_given_up _ _ c.tidy.ensures.given_up c.tidy.ensures.none) c.tidy.ensures.others;
  place = record {
    config = c.tidy.ensures.place.config ∙ c.loop-page.invariant.place.config;
    partition = c.tidy.ensures.place.partition ∙ c.loop-page.invariant.place.partition;
  };
}

pub returns-clause-tidy : goal.returns-clause-tidy
returns-clause-tidy c = left_end c.as_slice-page-items.result.now c.loop-page.page-index c.loop-page.t c.loop-page-test.false c.loop-page.invariant.left
