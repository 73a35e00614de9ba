use Rattle.std.proofs.Common.{◌<◌, ◌+◌, drop, refl, ap, sym, subst, ◌∙◌}
use Rattle.pcl_base.specs.Limits.{Sizes}
use Rattle.node_rules.specs.OwnerRule.{clean_unserved}
use Rattle.node_parts.specs.Comes.{work_of}
use Rattle.node_parts.specs.State.{PartsView, node_of}
use Rattle.page_owner.proofs.Planned.{same_then}
use Rattle.own_steps.proofs.EndRules.{cleaned_over}
use Rattle.own_steps.proofs.MadeRooms.{item_front, item_has}
use Rattle.own_steps.proofs.tell_all.clean_copies.Goals as goal

pub loop-end-init : goal.loop-end-init
loop-end-init c = record { clean = λ ps cs o. refl; rest = refl; same = record { config = refl; node = refl; born = refl } }

pub clean_copy-requires-clause-config : goal.clean_copy-requires-clause-config
clean_copy-requires-clause-config c = ap (λ (v : PartsView). v.tables.config) c.loop-end.invariant.rest ∙ c.requires.config ∙ sym c.loop-end.invariant.same.config

pub clean_copy-requires-clause-page : goal.clean_copy-requires-clause-page
clean_copy-requires-clause-page c =
    subst (λ (k : Sizes). c.end-item.result.page < k.pages) (sym c.loop-end.invariant.same.config)
    (item_has (λ e. e.page < c.args.parts.now.home.config.pages) c.args.ends.now c.loop-end.end-index c.end-item.result c.end-item.is c.loop-end-test.true c.requires.below)

pub loop-end-preserved : goal.loop-end-preserved
loop-end-preserved c = record {
  clean = λ ps cs o.
      sym (c.clean_copy.ensures.clean (drop (c.loop-end.end-index + 1) c.args.ends.now) ps cs o)
      ∙ ap (λ l. clean_unserved l (work_of (node_of c.loop-end.parts) ps cs o)) (item_front c.args.ends.now c.loop-end.end-index c.end-item.result c.end-item.is c.loop-end-test.true)
      ∙ c.loop-end.invariant.clean ps cs o;
  rest = c.clean_copy.ensures.rest ∙ ap (λ (v : PartsView). record v { home = c.clean_copy.new.parts.home }) c.loop-end.invariant.rest;
  same = same_then c.args.parts.now.home c.loop-end.parts.home c.clean_copy.new.parts.home c.loop-end.invariant.same c.clean_copy.ensures.same;
}

pub returns-clause-clean : goal.returns-clause-clean
returns-clause-clean c = λ ps cs o.
    sym (c.loop-end.invariant.clean ps cs o) ∙ cleaned_over c.args.ends.now c.loop-end.end-index (work_of (node_of c.loop-end.parts) ps cs o) c.loop-end-test.false
