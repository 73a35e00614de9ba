use Rattle.std.proofs.Common.{◌≡◌, Some, None, fold, ap, sym, ◌∙◌, subst}
use Rattle.node_rules.specs.LockTable.{pages_of, serve}
use Rattle.install_laws.specs.InstallPlans.{SettlePlan, plan_settling}
use Rattle.lock_table.specs.Tables.{table_of}
use Rattle.partition_redo.specs.Chains.{AreAll, IsRedone, first_bad}
use Rattle.install_plans.specs.Plans.{set_one, turnover_of, versions_by}
use Rattle.install_plans.proofs.Words.{pages_low, pages_named, redoes_own, table_pages}
use Rattle.install_plans.proofs.Completed.{completed, not_completed}
use Rattle.install_plans.proofs.Done.{unplanned, of_config}
use Rattle.install_plans.proofs.completing.plan_complete.Goals as goal

pub plan_redo-requires-clause-below : goal.plan_redo-requires-clause-below
plan_redo-requires-clause-below g c = pages_low c.args.by.now.config c.partition.result c.in_ok-pages.pages.items c.in_ok-pages.ensures

pub returns-in_err-redo-clause-planned : goal.returns-in_err-redo-clause-planned
returns-in_err-redo-clause-planned g c = λ d n t pages logs config number.
    let k = c.args.by.now.config in
    let listed : c.in_ok-pages.pages.items ≡ pages_of k c.args.table.partition = c.in_ok-pages.ensures ∙ ap (pages_of k) c.partition.ensures in
    unplanned k d t c.in_ok-pages.pages.items _ _ _
    (λ b bad. not_completed k d c.args.table.partition n c.args.by.now.me (turnover_of c.args.turnover) (table_of c.args.table) c.requires.table.partition config number b (subst (λ ps. first_bad d ps ≡ Some b) listed bad))
    (c.in_err-redo.ensures.redoes d pages logs) c.from_residual-in_err-redo.ensures.1

pub serve-requires : goal.serve-requires
serve-requires g c =
    let k = c.args.by.now.config in
    table_pages k c.args.table _ c.requires.table.config c.requires.table.partition (c.in_ok-redo.ensures.named ∙ (c.in_ok-pages.ensures ∙ ap (pages_of k) c.partition.ensures))

pub returns-clause-planned : goal.returns-clause-planned
returns-clause-planned g c = λ d n t pages logs config number.
    let k = c.args.by.now.config in
    let q = c.args.table.partition in
    let me = c.args.by.now.me in
    let listed : c.in_ok-pages.pages.items ≡ pages_of k q = c.in_ok-pages.ensures ∙ ap (pages_of k) c.partition.ensures in
    let redoes = c.in_ok-redo.ensures.redoes d pages logs in
    let place = c.serve.ensures.place in
    let later = c.serve.new.t in
    let same : later.config ≡ k = place.config ∙ sym c.requires.table.config in
    let settled : plan_settling me (pages_of later.config later.partition) (table_of later) ≡ plan_settling me (pages_of k q) (serve (fold set_one (table_of c.args.table) (versions_by c.in_ok-redo.redo))) =
    λ i. plan_settling me (pages_of (same i) (place.partition i)) (c.serve.ensures.table i) in
    completed k d q n me (turnover_of c.args.turnover) (table_of c.args.table) c.requires.table.partition config number
    (table_of c.settle_table.new.t) c.in_ok-redo.redo c.in_ok-decisions.decisions.items
    (subst (λ ps. AreAll (IsRedone k d) ps (versions_by c.in_ok-redo.redo)) listed redoes.0)
    (subst (λ ps. first_bad d ps ≡ None) listed redoes.1)
    (c.in_ok-redo.ensures.listed ∙ listed)
    (of_config k me _ _ c.in_ok-redo.redo c.in_ok-redo.ensures.redo)
    (c.in_ok-decisions.ensures.table ∙ ap (λ (x : SettlePlan). x.table) settled)
    (c.in_ok-decisions.ensures.decisions ∙ ap (λ (x : SettlePlan). x.decisions) settled)

pub returns-clause-fits : goal.returns-clause-fits
returns-clause-fits g c =
    let k = c.args.by.now.config in
    let q = c.args.table.partition in
    let served = c.serve.ensures.place in
    let settled = c.in_ok-decisions.ensures.place in
    record {
      redo = c.in_ok-redo.ensures.redo;
      own = redoes_own k q c.in_ok-redo.redo c.in_ok-pages.pages.items c.in_ok-redo.ensures.listed
          (pages_named k q c.in_ok-pages.pages.items c.requires.table.partition (c.in_ok-pages.ensures ∙ ap (pages_of k) c.partition.ensures));
      table = (
        record {
          config = settled.config ∙ (served.config ∙ sym c.requires.table.config);
          partition = settled.partition ∙ served.partition;
        },
        c.in_ok-decisions.ensures.tidy,
      );
    }
