use Rattle.std.proofs.Common.{◌≡◌, not, false, ap, sym, ◌∙◌}
use Rattle.node_rules.specs.LockTable.{LockTable}
use Rattle.node_rules.specs.Reports.{gather, missing}
use Rattle.install_laws.specs.InstallPlans.{Stays}
use Rattle.lock_table.specs.Tables.{TableView, table_of}
use Rattle.install_plans.proofs.Gathered.{gather_serving, complete_of, rebuilt_as}
use Rattle.install_plans.proofs.gathering.plan_gathered.Goals as goal

pub returns-clause-planned : goal.returns-clause-planned
returns-clause-planned g c = λ d n before pages logs config number seen.
    let t = c.args.t.now in
    let u = c.gather.new.t in
    let v = c.args.view.now in
    let made = c.in_ok-complete.ensures in
    let same : table_of u ≡ gather (table_of t) c.args.from c.args.report.now = made.gathered ∙ ap (λ (x : TableView). gather (table_of x) c.args.from c.args.report.now) c.in_ok-table.ensures in
    let place : u.partition ≡ t.partition = made.place.partition ∙ ap (λ (x : TableView). x.partition) c.in_ok-table.ensures in
    let serving : (table_of u).serving ≡ false = ap (λ (x : LockTable). x.serving) same ∙ (gather_serving (table_of t) c.args.from c.args.report.now ∙ c.requires.serving) in
    let whole : c.in_ok-complete.complete ≡ not (missing (table_of u) v u.partition) = made.complete ∙ (λ i. not (missing (sym made.gathered i) v (sym made.place.partition i))) in
    rebuilt_as Stays d n before u t.partition (gather (table_of t) c.args.from c.args.report.now) c.plan_rebuilt.result place same
    (c.plan_rebuilt.ensures.planned d n before pages logs config number (complete_of n.view v u.partition (table_of u) c.in_ok-complete.complete seen serving whole))
