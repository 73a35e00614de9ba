use Rattle.std.proofs.Common.{◌≡◌, Some, None, fold, ap, sym, ◌∙◌, subst}
use Rattle.std.specs.List.{filter}
use Rattle.std.specs.Option.{IfSome}
use Rattle.run_rules.specs.Redo.{records_in}
use Rattle.node_rules.specs.LockTable.{pages_of, serve}
use Rattle.node_rules.specs.InstallRule.{lost_nodes, purge_table}
use Rattle.install_laws.specs.InstallPlans.{SettlePlan, is_newer, plan_settling}
use Rattle.lock_table.specs.Tables.{TableView, table_of}
use Rattle.partition_redo.specs.Chains.{AreAll, IsRedone, first_bad}
use Rattle.install_plans.specs.Plans.{CanRedo, set_one, versions_by}
use Rattle.install_plans.proofs.Done.{unplanned, of_config}
use Rattle.install_plans.proofs.Kept.{kept, not_kept}
use Rattle.install_plans.proofs.Lost.{untold}
use Rattle.install_plans.proofs.Words.{redoes_own, table_named}
use Rattle.install_plans.proofs.keeping.plan_served.Goals as goal

pub returns-in_err-pages-clause-planned : goal.returns-in_err-pages-clause-planned
returns-in_err-pages-clause-planned g c = λ d n b pages logs config number.
    untold _ d b _ _ c.in_err-pages.ensures.fault c.from_residual-in_err-pages.ensures.1

pub returns-in_err-redo-clause-planned : goal.returns-in_err-redo-clause-planned
returns-in_err-redo-clause-planned g c = λ d n b pages logs config number.
    let k = c.args.by.now.config in
    let t = c.args.t.now in
    let asked : c.in_ok-pages.pages.items ≡ filter (is_newer (records_in k d (lost_nodes c.args.before.now c.args.view.now)) (table_of t)) (pages_of k t.partition) =
    c.in_ok-pages.ensures.newer d logs ∙ ap (λ ns. filter (is_newer (records_in k d ns) (table_of t)) (pages_of k t.partition)) c.in_ok-lost.ensures.lost in
    unplanned k d b c.in_ok-pages.pages.items _ _ _
    (λ x bad. not_kept k d t.partition n c.args.by.now.me c.args.before.now c.args.view.now (table_of t) c.requires.table.partition config number x (subst (λ ps. first_bad d ps ≡ Some x) asked bad))
    (c.in_err-redo.ensures.redoes d (c.in_ok-pages.ensures.pages ∙ pages) (c.in_ok-pages.ensures.logs ∙ logs)) c.from_residual-in_err-redo.ensures.1

pub returns-clause-planned : goal.returns-clause-planned
returns-clause-planned g c = λ d n b pages logs config number.
    let k = c.args.by.now.config in
    let t = c.args.t.now in
    let q = t.partition in
    let me = c.args.by.now.me in
    let v = c.args.view.now in
    let asked : c.in_ok-pages.pages.items ≡ filter (is_newer (records_in k d (lost_nodes c.args.before.now v)) (table_of t)) (pages_of k q) =
    c.in_ok-pages.ensures.newer d logs ∙ ap (λ ns. filter (is_newer (records_in k d ns) (table_of t)) (pages_of k q)) c.in_ok-lost.ensures.lost in
    let redoes = c.in_ok-redo.ensures.redoes d (c.in_ok-pages.ensures.pages ∙ pages) (c.in_ok-pages.ensures.logs ∙ logs) in
    let later = c.serve.new.t in
    let place = c.serve.ensures.place in
    let copied = c.in_ok-table.ensures in
    let same : later.config ≡ k = place.config ∙ (ap (λ (x : TableView). x.config) copied ∙ sym c.requires.table.config) in
    let part : later.partition ≡ q = place.partition ∙ ap (λ (x : TableView). x.partition) copied in
    let served : table_of later ≡ serve (fold set_one (table_of t) (versions_by c.in_ok-redo.redo)) =
    c.serve.ensures.table ∙ ap (λ (x : TableView). serve (fold set_one (table_of x) (versions_by c.in_ok-redo.redo))) copied in
    let settled : plan_settling me (pages_of later.config later.partition) (purge_table v.live (table_of later)) ≡ plan_settling me (pages_of k q) (purge_table v.live (serve (fold set_one (table_of t) (versions_by c.in_ok-redo.redo)))) =
    λ i. plan_settling me (pages_of (same i) (part i)) (purge_table v.live (served i)) in
    kept k d q n me c.args.before.now v (table_of t) c.requires.table.partition config number
    (table_of c.settle_purged.new.t) c.in_ok-redo.redo c.in_ok-decisions.decisions.items c.requires.serving
    (subst (λ ps. AreAll (IsRedone k d) ps (versions_by c.in_ok-redo.redo)) asked redoes.0)
    (subst (λ ps. first_bad d ps ≡ None) asked redoes.1)
    (c.in_ok-redo.ensures.listed ∙ asked)
    (of_config k me _ _ c.in_ok-redo.redo c.in_ok-redo.ensures.redo)
    (c.in_ok-decisions.ensures.table ∙ ap (λ (x : SettlePlan). x.table) settled)
    (c.in_ok-decisions.ensures.decisions ∙ ap (λ (x : SettlePlan). x.decisions) settled)

pub returns-clause-fits : goal.returns-clause-fits
returns-clause-fits g c =
    let k = c.args.by.now.config in
    let me = c.args.by.now.me in
    let t = c.args.t.now in
    let redo = c.in_ok-redo.redo in
    let read = c.in_ok-pages.ensures in
    let copied = c.in_ok-table.ensures in
    let served = c.serve.ensures.place in
    let settled = c.in_ok-decisions.ensures.place in
    record {
      redo = subst (λ ps. IfSome redo (CanRedo k me ps (g.S.Storage.logs c.args.s.now))) read.pages
          (subst (λ ls. IfSome redo (CanRedo k me (g.S.Storage.pages c.newer_pages.new.s) ls)) read.logs c.in_ok-redo.ensures.redo);
      own = redoes_own k t.partition redo c.in_ok-pages.pages.items c.in_ok-redo.ensures.listed
          (table_named k t c.in_ok-pages.pages.items c.requires.table.config read.own);
      table = (
        record {
          config = settled.config ∙ (served.config ∙ (ap (λ (x : TableView). x.config) copied ∙ sym c.requires.table.config));
          partition = settled.partition ∙ (served.partition ∙ ap (λ (x : TableView). x.partition) copied);
        },
        c.in_ok-decisions.ensures.tidy,
      );
    }
